-- One event of a world, from what was done to its parts.
use Rattle.std.proofs.Common.{◌≡◌, inl, inr, ℕ, ◌+◌, ◌<◌, Bool, true, false, true≢false, cond, not, ◌&&◌}
use Rattle.std.proofs.Common.{List, [], ◌∷◌, ◌++◌, length, take, Some, None, Option, refl, sym, ap, ◌∙◌, subst}
use Rattle.std.proofs.Common.{arith}
use Rattle.std.specs.Prelude.{slice_index_or, nat_le}
use Rattle.std.proofs.lemmas.Bool.{not-false, not-true, or_parts}
use Rattle.std.proofs.lemmas.Bool.Decides.{nat_tests}
use Rattle.std.proofs.lemmas.List.{take_more}
use Rattle.std.proofs.lemmas.Option.{slice_get-get_or}
use Rattle.object.specs.declared.command.Act.{Act}
use Rattle.object.specs.declared.command.Act.TheVariants.{Do, Close, Tick}
use Rattle.object.specs.declared.command.Command.{Command}
use Rattle.object.specs.declared.command.Key.{Key}
use Rattle.object.specs.declared.command.Submission.{Submission}
use Rattle.object.specs.Commands.{same_acts}
use Rattle.agreement.specs.declared.event.Event.{Event}
use Rattle.agreement.specs.declared.event.Event.TheVariants as events
use Rattle.world.specs.declared.error.WorldError.{WorldError}
use Rattle.world.specs.declared.error.WorldError.TheVariants as reasons
use Rattle.object.specs.Objects.{Rules}
use Rattle.agreement.specs.Worlds.{World, opening}
use Rattle.object.specs.Keys.{same_key}
use Rattle.object.specs.KeyLaws.{same_is}
use Rattle.agreement.specs.Steps.{Step, IsItsOwn}
use Rattle.agreement.specs.Agreements.{StaysChosen}
use Rattle.agreement.specs.Runs.{IsWorld, Leads, most_events}
use Rattle.agreement.specs.Runs as Runs
use Rattle.world.specs.Agreed.{Continues}
use Rattle.world.specs.Refusals.{IsAllowed, has_other_act, keeps_acts, refusal, reason_for, IsRefused}
use Rattle.agreement.specs.Events.{is_at_member, is_sent}
use Rattle.world.specs.Kept.{IsNoted}
use Rattle.ballot.specs.OrderLaws.{BallotLaws}
use Rattle.agreement.proofs.chosen.Reach.{reachable_sound, step_sound, opening_reachable}
use Rattle.agreement.proofs.every.Events.{next_world, later_same, later_step, stays_chosen}
use Rattle.world.proofs.steps.Noted.{opening_noted, noted_stays}

module _ (laws : BallotLaws) {O Op Reply : Type 0} (rules : Rules O Op Reply) where
  pub new_world : (members : List ℕ) (u : World Op Reply) (keys : List Key) → u ≡ opening members → keys ≡ [] → IsNoted rules u keys
  new_world members u keys e none =
      subst (IsNoted rules u) (sym none)
      (subst (λ w. IsNoted rules w []) (sym e)
      (record { world = record { reachable = opening_reachable laws rules members; few = omega arith }; noted = opening_noted members }))

  -- an event that leaves the reach and the noted keys
  pub next_noted : (v w : World Op Reply) → v ≡ w → (e : Event Op) (u : World Op Reply) (keys : List Key)
      → IsNoted rules v keys → w.taken < most_events → u.taken ≡ v.taken + 1 → u.reach ≡ v.reach → Step rules v e u
      → IsNoted rules u keys
  next_noted v w is e u keys i room count reach s = record {
    world = next_world laws rules v w is e u i.world room count s;
    noted = noted_stays v u (step_sound laws rules v e u (reachable_sound laws rules v i.world.reachable) s).grows keys i.noted reach;
  }

-- a key with its own act
pub acts_same : {Op : Type 0} (same : Op → Op → Bool) → ((x y : Op) → same x y ≡ true → x ≡ y) → (a b : Act Op) → same_acts same a b ≡ true → a ≡ b
acts_same same exact (Do o) (Do p) h = ap Do (exact o p h)
acts_same same exact (Do o) Close h = absurd (true≢false (sym h))
acts_same same exact (Do o) Tick h = absurd (true≢false (sym h))
acts_same same exact Close (Do p) h = absurd (true≢false (sym h))
acts_same same exact Close Close h = refl
acts_same same exact Close Tick h = absurd (true≢false (sym h))
acts_same same exact Tick (Do p) h = absurd (true≢false (sym h))
acts_same same exact Tick Close h = absurd (true≢false (sym h))
acts_same same exact Tick Tick h = refl

pub its_own : {Op : Type 0} (same : Op → Op → Bool) → ((x y : Op) → same x y ≡ true → x ≡ y)
    → (submitted : List (Submission Op)) (c : Command Op) → has_other_act same submitted c ≡ false
    → IsItsOwn c submitted
its_own same exact [] c h s at k = absurd at
its_own same exact (x ∷ xs) c h s (inl e) k =
    let l : same_key x.command.key c.key ≡ true = ap (λ y. same_key y.command.key c.key) (sym e) ∙ k in
    let differs = (or_parts (same_key x.command.key c.key && not (same_acts same x.command.act c.act)) (has_other_act same xs c) h).0 in
    let act = acts_same same exact x.command.act c.act
    (not-false (same_acts same x.command.act c.act) (ap (λ b. b && not (same_acts same x.command.act c.act)) (sym l) ∙ differs)) in
    ap (λ y. y.command) e ∙ (λ i. record { key = same_is x.command.key c.key l i; act = act i })
its_own same exact (x ∷ xs) c h s (inr at) k =
    its_own same exact xs c (or_parts (same_key x.command.key c.key && not (same_acts same x.command.act c.act))
    (has_other_act same xs c) h).1 s at k

-- what is not refused is allowed
none_if : {X : Type 0} (test : Bool) (x : X) (o : Option X) → cond test (Some x) o ≡ None → (test ≡ false) × (o ≡ None)
none_if true x o h = absurd (cc)
none_if false x o h = (refl, h)

pub allowed : {Op Reply : Type 0} (same : Op → Op → Bool) (w : World Op Reply) (e : Event Op) → refusal same w e ≡ None → IsAllowed same w e
unfolding refusal
allowed same w e h =
    let a = none_if (not (is_at_member w.cluster.members e)) reasons.NoSuchNode _ h in
    let b = none_if (not (is_sent (length w.cluster.letters) e)) reasons.NoSuchLetter _ a.1 in
    let c = none_if (not (keeps_acts same w.happenings.submitted e)) reasons.BadNumber _ b.1 in
    let d = none_if (nat_le most_events w.taken) reasons.Full None c.1 in
    let full = d.0 in
    record {
      member = not-false (is_at_member w.cluster.members e) a.0;
      sent = not-false (is_sent (length w.cluster.letters) e) b.0;
      acts = not-false (keeps_acts same w.happenings.submitted e) c.0;
      room = grind (arith, nat_tests);
    }

-- an event that keeps the acts submits a key with its own act
pub own_event : {Op : Type 0} (same : Op → Op → Bool) → ((x y : Op) → same x y ≡ true → x ≡ y)
    → (submitted : List (Submission Op)) (e : Event Op) (n : ℕ) (c : Command Op) → e ≡ events.Submit n c
    → keeps_acts same submitted e ≡ true → IsItsOwn c submitted
own_event same exact submitted e n c is keeps =
    its_own same exact submitted c
    (not-true (has_other_act same submitted c) (ap (keeps_acts same submitted) (sym is) ∙ keeps))

-- a run by one event more
pub run_more : {O Op Reply : Type 0} (rules : Rules O Op Reply) (w v u : World Op Reply) (es : List (Event Op)) (j : ℕ)
    (e : Event Op) → j < length es → e ≡ slice_index_or es j e → Leads rules w (take j es) v → Step rules v e u
    → Leads rules w (take (j + 1) es) u
run_more rules w v u es j e within at l s =
    subst (λ t. Leads rules w t u) (sym (take_more es j e within ∙ ap (λ x. take j es ++ (x ∷ [])) (sym at))) (Runs.after e u l s)

-- an event of a run that is refused
pub refused_at : {Op Reply : Type 0} (same : Op → Op → Bool) (old new : World Op Reply) (es : List (Event Op)) (j : ℕ)
    (e : Event Op) (reason : WorldError) → j < length es → e ≡ slice_index_or es j e → new ≡ old
    → reason ≡ reason_for same old e → IsRefused same new es j reason
refused_at same old new es j e reason within at kept cause = record {
  event = e;
  at = slice_get-get_or es j e within ∙ ap (λ x. Some x) (sym at);
  because = cause ∙ sym (ap (λ w. reason_for same w e) kept);
}

-- what went on where nothing changed, and where one event was taken
module _ (laws : BallotLaws) {O Op Reply : Type 0} (rules : Rules O Op Reply) (v w : World Op Reply) (is : v ≡ w) (i : IsWorld rules v) where
  pub continues_itself : (u : World Op Reply) → u ≡ w → Continues w u
  continues_itself u same = record {
    stays = subst (λ z. StaysChosen w.cluster z.cluster) (sym same) (λ s c chosen. chosen);
    later = later_same laws rules v w is i u same;
  }

  pub continues_by : (e : Event Op) (u : World Op Reply) → Step rules w e u → Continues w u
  continues_by e u step = record { stays = stays_chosen laws rules v w is i e u step; later = later_step laws rules v w is i e u step }
