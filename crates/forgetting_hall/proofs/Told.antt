-- What a hall has told goes on from call to call.
use Rattle.std.proofs.Common.{◌≡◌, ◌<◌, ℕ, true, cond, List, [], ◌++◌, Option, Some, None, refl, sym, ap, ◌∙◌, subst, append-nil}
use Rattle.std.specs.Option.{option_to_list}
use Rattle.std.specs.Prelude.{Result, Ok, Err, OnOk, OnErr}
use Rattle.ballot.specs.Rests.{rest_of_body}
use Rattle.network.specs.Networks.{front}
use Rattle.hall.specs.declared.error.HallError.{HallError}
use Rattle.lean_network.specs.LeanNetworks.{lean_mail_of}
use Rattle.lean_network.specs.declared.receipt.Receipt.{Receipt}
use Rattle.node.specs.declared.deed.Outcome.{Outcome}
use Rattle.std.proofs.lemmas.List.{append_assoc}
use Rattle.object.specs.Objects.{Rules}
use Rattle.object.specs.declared.command.Command.{Command}
use Rattle.ballot.specs.Members.{is_member}
use Rattle.ballot.specs.declared.letter.Letter.{Letter}
use Rattle.ballot.specs.declared.letter.LetterBody.{LetterBody}
use Rattle.node.specs.declared.deed.Deed.{Deed}
use Rattle.agreement.specs.Events.{event_of}
use Rattle.agreement.specs.Runs.{most_events, IsWorld}
use Rattle.agreement.specs.Steps.{Step}
use Rattle.agreement.specs.Worlds.{World}
use Rattle.agreement.specs.declared.event.Event.{Event}
use Rattle.agreement.specs.declared.event.Event.TheVariants.{Submit, Deliver}
use Rattle.forgetting_hall.specs.Effects.{TookEffect, effect_of, placed_by}
use Rattle.forgetting_hall.specs.Gathered.{Gathering, gathered}
use Rattle.forgetting_hall.specs.Halls.{ForgettingState, FollowsIn, FollowsLeft, ShowsStill, rest_of_hall}
use Rattle.forgetting_hall.specs.Refusing.{refusal_of_event}
use Rattle.forgetting_hall.specs.Rests.{HallRest, ShowsWorld, FollowsEvent, IsGoingOn}
use Rattle.forgetting_hall.specs.Telling.{HasTold, TellsOn}
use Rattle.forgetting_hall.proofs.Effects.{none_if}
use Rattle.forgetting_hall.proofs.Following.{Next, event_member, event_room}
use Rattle.forgetting_hall.proofs.Happened.{members_stay}

-- what takes effect, after one event more
abbrev pub Effects : {O Op Reply : Type 0} → Rules O Op Reply → Type 0
Effects {O} {Op} {Reply} rules = (w v : World Op Reply) (e : Event Op) (order : List (Command Op)) → IsWorld rules w → Step rules w e v
    → TookEffect w order → TookEffect v (order ++ option_to_list (effect_of w e))

module _ {O Op Reply : Type 0} (rules : Rules O Op Reply) (h z : ForgettingState Op O Reply) where
  -- where there is no event
  pub stays_told : ShowsStill rules h z → z.gathering ≡ h.gathering → TellsOn rules h z
  stays_told still same members told t = record {
    has_members = (still t.world t.reachable t.shown).cluster.members ∙ sym t.shown.cluster.members ∙ t.has_members;
    gathers = ap (λ (g : Gathering Op). g.is_on) same ∙ t.gathers;
    world = t.world;
    reachable = t.reachable;
    shown = still t.world t.reachable t.shown;
    took = subst (λ (g : Gathering Op). TookEffect t.world (told ++ g.commands)) (sym same) t.took;
  }

  module _ (next : Next rules) (effects : Effects rules) (room : h.taken < most_events) where
    -- where there is one in which this takes effect
    event_told : (e : Event Op) (c : Option (Command Op)) (members : List ℕ) (told : List (Command Op)) (t : HasTold rules members h told)
        → FollowsEvent rules t.world e (rest_of_hall rules z) → effect_of t.world e ≡ c
        → z.gathering ≡ gathered c h.gathering → HasTold rules members z told
    event_told e c members told t follows effect same =
        let on : z.gathering.is_on ≡ true = ap (λ (g : Gathering Op). g.is_on) same ∙ t.gathers in
        let more : z.gathering.commands ≡ h.gathering.commands ++ option_to_list c =
        ap (λ (g : Gathering Op). g.commands) same
        ∙ ap (λ b. h.gathering.commands ++ option_to_list (cond b c None)) t.gathers in
        record {
          has_members = follows.2.cluster.members ∙ members_stay rules t.world follows.0 e follows.1 ∙ sym t.shown.cluster.members ∙ t.has_members;
          gathers = on;
          world = follows.0;
          reachable = next t.world follows.0 e t.reachable follows.1 (subst (λ n. n < most_events) t.shown.taken room);
          shown = follows.2;
          took = subst (TookEffect follows.0)
              (ap (λ o. (told ++ h.gathering.commands) ++ option_to_list o) effect
              ∙ append_assoc told h.gathering.commands (option_to_list c)
              ∙ ap (λ ds. told ++ ds) (sym more))
              (effects t.world follows.0 e (told ++ h.gathering.commands) t.reachable follows.1 t.took);
        }

    -- nothing does
    quiet_told : (e : Event Op) (members : List ℕ) (told : List (Command Op)) (t : HasTold rules members h told)
        → FollowsEvent rules t.world e (rest_of_hall rules z) → effect_of t.world e ≡ None
        → z.gathering ≡ h.gathering → HasTold rules members z told
    quiet_told e members told t follows effect same = event_told e None members told t follows effect (same ∙ sym (nothing h.gathering))
      where
        nothing : (g : Gathering Op) → gathered None g ≡ g
        nothing g = λ i. record g { commands = (ap (λ o. g.commands ++ option_to_list o) (none_if g.is_on None refl) ∙ append-nil g.commands) i }

    pub submit_told : (n : ℕ) (c : Command Op) → FollowsIn rules h (Submit n c) z → z.gathering ≡ h.gathering → TellsOn rules h z
    submit_told n c follows same members told t = quiet_told (Submit n c) members told t (follows t.world t.reachable t.shown) refl same

    pub act_told : ((q : HallRest Op O Reply) (w : World Op Reply) (n : ℕ) (d : Deed Op) → IsWorld rules w → ShowsWorld rules q w
        → is_member q.network.members n ≡ true → IsGoingOn d → effect_of w (event_of n d) ≡ placed_by q n d)
        → (n : ℕ) (d : Deed Op) → is_member h.network.members n ≡ true → IsGoingOn d → FollowsIn rules h (event_of n d) z
        → z.gathering ≡ gathered (placed_by (rest_of_hall rules h) n d) h.gathering → TellsOn rules h z
    act_told tells n d member own follows same members told t =
        event_told (event_of n d) (placed_by (rest_of_hall rules h) n d) members told t (follows t.world t.reachable t.shown)
        (tells (rest_of_hall rules h) t.world n d t.reachable t.shown member own) same

    pub receive_told : (n : ℕ) (l : Letter (Command Op)) (left : LetterBody (Command Op)) → FollowsLeft rules h n l left z
        → z.gathering ≡ h.gathering → TellsOn rules h z
    receive_told n l left follows same members told t =
        let f = follows t.world t.reachable t.shown in
        quiet_told (Deliver f.0) members told t f.5 refl same

-- what was gathered is taken from it
pub take_told : {O Op Reply : Type 0} (rules : Rules O Op Reply) (h : ForgettingState Op O Reply) (members : List ℕ) (told : List (Command Op))
    → HasTold rules members h told
    → HasTold rules members (record h { gathering = record h.gathering { commands = [] } }) (told ++ h.gathering.commands)
take_told rules h members told t = record {
  has_members = t.has_members;
  gathers = t.gathers;
  world = t.world;
  reachable = t.reachable;
  shown = t.shown;
  took = subst (TookEffect t.world) (sym (append-nil (told ++ h.gathering.commands))) t.took;
}

-- nothing is refused where the answer is no refusal
pub not_refused : {X E : Type 0} (o : Option E) (x : X) → ((e : E) → o ≡ Some e → Ok x ≡ Err e) → o ≡ None
not_refused None x refused = refl
not_refused (Some e) x refused = absurd (let r = refused e refl in cc)

module _ {O Op Reply : Type 0} (rules : Rules O Op Reply) (h z : ForgettingState Op O Reply) (n : ℕ) where
  same_told : z ≡ h → TellsOn rules h z
  same_told same members told t = subst (λ q. HasTold rules members q told) (sym same) t

  -- a node did something by itself, or was refused it
  pub turn_told : (d : Deed Op)
      → (h.taken < most_events → is_member h.network.members n ≡ true → FollowsIn rules h (event_of n d) z
      → z.gathering ≡ gathered (placed_by (rest_of_hall rules h) n d) h.gathering → TellsOn rules h z)
      → (r : Result Outcome HallError) → OnOk r (FollowsIn rules h (event_of n d) z)
      → OnOk r (z.gathering ≡ gathered (placed_by (rest_of_hall rules h) n d) h.gathering) → OnErr r (z ≡ h)
      → ((e : HallError) → refusal_of_event h n ≡ Some e → r ≡ Err e) → TellsOn rules h z
  turn_told d acts (Ok x) follows same err refused =
      let none = not_refused (refusal_of_event h n) x refused in acts (event_room h n none) (event_member h n none) follows same
  turn_told d acts (Err e) follows same err refused = same_told err

  -- it received a letter, or was refused that
  pub letter_told : ((l : Letter (Command Op)) (left : LetterBody (Command Op)) → h.taken < most_events → FollowsLeft rules h n l left z
      → z.gathering ≡ h.gathering → TellsOn rules h z) → (ShowsStill rules h z → z.gathering ≡ h.gathering → TellsOn rules h z)
      → (r : Result Receipt HallError)
      → OnOk r ((l : Letter (Command Op)) (left : LetterBody (Command Op)) → front (lean_mail_of h.network n) ≡ Some l
      → rest_of_body h.base l.body ≡ Some left → FollowsLeft rules h n l left z)
      → OnOk r ((l : Letter (Command Op)) → front (lean_mail_of h.network n) ≡ Some l → rest_of_body h.base l.body ≡ None → ShowsStill rules h z)
      → OnOk r (front (lean_mail_of h.network n) ≡ None → z ≡ h) → z.gathering ≡ h.gathering → OnErr r (z ≡ h)
      → ((e : HallError) → refusal_of_event h n ≡ Some e → r ≡ Err e) → TellsOn rules h z
  letter_told receives stays (Err e) follows still none same err refused = same_told err
  letter_told receives stays (Ok x) follows still none same err refused = at (front (lean_mail_of h.network n)) refl
    where
      of : (l : Letter (Command Op)) → front (lean_mail_of h.network n) ≡ Some l → (left : Option (LetterBody (Command Op)))
          → rest_of_body h.base l.body ≡ left → TellsOn rules h z
      of l came None was = stays (still l came was) same
      of l came (Some left) was = receives l left (event_room h n (not_refused (refusal_of_event h n) x refused)) (follows l left came was) same

      at : (o : Option (Letter (Command Op))) → front (lean_mail_of h.network n) ≡ o → TellsOn rules h z
      at None came = same_told (none came)
      at (Some l) came = of l came (rest_of_body h.base l.body) refl
