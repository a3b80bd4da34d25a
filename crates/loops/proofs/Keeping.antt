-- What the steps of a hall that forgets keep, by what its calls ensure.
use Rattle.std.proofs.Common.{◌≡◌, ◌<◌, ◌≤◌, ◌+◌, max, ℕ, List, length, Option, None, Some, Result, Ok, Err, OnOk}
use Rattle.std.proofs.Common.{[], ◌∷◌, drop, refl, sym, ap, subst, ◌∙◌, length-append, arith}
use Rattle.std.proofs.Math.Nat.{le-max_left, le-max_right}
use Rattle.std.proofs.lemmas.List.{length-drop}
use Rattle.std.specs.List.{cons_option, filter_map}
use Rattle.object.specs.Objects.{Rules}
use Rattle.object.specs.declared.command.Command.{Command}
use Rattle.bean_words.specs.declared.op.Op.{Op}
use Rattle.bean_words.specs.declared.reply.Reply.{Reply}
use Rattle.node.specs.SlotLaws.{get_insert_same}
use Rattle.node.specs.declared.deed.Deed.TheVariants.{Request}
use Rattle.agreement.specs.Runs.{most_events}
use Rattle.agreement.specs.declared.event.Event.TheVariants.{Submit}
use Rattle.client_table.specs.Clients.{client_of, number_of_last}
use Rattle.hall.specs.Explained.{IsBegun}
use Rattle.hall.specs.Halls.{tick_of}
use Rattle.hall.specs.Refusals.{RefusesOrIdles}
use Rattle.recorder.specs.Records.{Record, command_under, commands_from}
use Rattle.hall.specs.declared.error.HallError.{HallError}
use Rattle.forgetting_hall.specs.Calls.{TakesIn}
use Rattle.forgetting_hall.specs.Halls.{ForgettingState, FollowsIn, rest_of_hall}
use Rattle.forgetting_hall.specs.Handing.{last_of, last_of_client, second_of}
use Rattle.forgetting_hall.specs.LeadingLaws.{second_in}
use Rattle.forgetting_hall.specs.Refusing.{refusal_of_resubmit}
use Rattle.forgetting_hall.specs.Rests.{HallRest, acted_rest}
use Rattle.forgetting_hall.specs.Telling.{HasTold, TellsOn}
use Rattle.forgetting_hall.specs.Leading.{LeadsOn}
use Rattle.event_loops.specs.Courses.{AllLead}
use Rattle.loops.specs.Desks.{IsShownBy, LeadsBy, LeanDesk}
use Rattle.loops.specs.LeadingLaws.{lean_goes}
use Rattle.forgetting_hall.proofs.Asking.{again_room}
use Rattle.forgetting_hall.proofs.Told.{not_refused}

module _ {O Op Reply : Type 0} (rules : Rules O Op Reply) (h z : ForgettingState Op O Reply) where
  -- nothing was done
  pub tells_same : z ≡ h → TellsOn rules h z
  tells_same same members told has = subst (λ q. HasTold rules members q told) (sym same) has

  -- a command was taken in, or refused
  pub takes_tells : (n : ℕ) (c : Command Op) (reason : Option HallError) (r : Result Unit HallError)
      → (h.taken < most_events → FollowsIn rules h (Submit n c) z → z.gathering ≡ h.gathering → TellsOn rules h z)
      → (reason ≡ None → h.taken < most_events) → TakesIn rules n c reason r h z → TellsOn rules h z
  takes_tells n c reason (Ok x) submits room takes =
      submits (room (not_refused reason x (λ e is. takes.refused.refused e is))) takes.event takes.gathering
  takes_tells n c reason (Err e) submits room takes = tells_same takes.refused.err

  -- a session's last command was handed in again, or there was none, or that was refused
  module _ (session n : ℕ) where
    pub again_tells : (r : Result Unit HallError)
        → ((c : Command Op) → h.taken < most_events → FollowsIn rules h (Submit n c) z → z.gathering ≡ h.gathering → TellsOn rules h z)
        → OnOk r ((c : Command Op) → last_of h session ≡ Some c → FollowsIn rules h (Submit n c) z) → z.gathering ≡ h.gathering
        → RefusesOrIdles (refusal_of_resubmit h session n) (last_of h session ≡ None) r h z → TellsOn rules h z
    again_tells (Err e) submits event same refuses = tells_same refuses.refused.err
    again_tells (Ok x) submits event same refuses = at (last_of h session) refl
      where
        at : (o : Option (Command Op)) → last_of h session ≡ o → TellsOn rules h z
        at None e = tells_same (refuses.none e)
        at (Some c) e =
            submits c (again_room h session n (not_refused (refusal_of_resubmit h session n) x refuses.refused.refused) c e) (event c e) same

    -- what no node's deed changes stays
    pub again_keeps : {X : Type 0} (part : HallRest Op O Reply → X)
        → ((c : Command Op) → part (acted_rest rules (rest_of_hall rules h) n (Request c)) ≡ part (rest_of_hall rules h))
        → (r : Result Unit HallError)
        → OnOk r ((c : Command Op) → last_of h session ≡ Some c → rest_of_hall rules z ≡ acted_rest rules (rest_of_hall rules h) n (Request c))
        → RefusesOrIdles (refusal_of_resubmit h session n) (last_of h session ≡ None) r h z
        → part (rest_of_hall rules z) ≡ part (rest_of_hall rules h)
    again_keeps part stays (Err e) ok refuses = ap (λ q. part (rest_of_hall rules q)) refuses.refused.err
    again_keeps part stays (Ok x) ok refuses = at (last_of h session) refl
      where
        at : (o : Option (Command Op)) → last_of h session ≡ o → part (rest_of_hall rules z) ≡ part (rest_of_hall rules h)
        at None e = ap (λ q. part (rest_of_hall rules q)) (refuses.none e)
        at (Some c) e = ap part (ok c e) ∙ stays c

  -- the clock shows the next second at most
  pub tick_second : (n : ℕ) (reason : Option HallError) (r : Result Unit HallError)
      → TakesIn rules n (tick_of (second_of h + 1)) reason r h z → second_of z ≤ second_of h + 1
  tick_second n reason (Err e) takes =
      let same : second_of z ≡ second_of h = ap (λ q. second_of q) takes.refused.err in omega (arith, same)
  tick_second n reason (Ok x) takes =
      let next : second_of z ≡ second_of h + 1 =
      ap (λ (q : HallRest Op O Reply). second_in q.summary.clients) takes.ok
      ∙ ap (λ o. number_of_last (last_of_client o)) (get_insert_same h.summary.clients 0 (client_of (tick_of (second_of h + 1)))) in
      omega (arith, next)

module _ {O : Type 0} (rules : Rules O Op Reply) where
  -- a hall that leads on goes on, as its desk is seen
  pub seen_goes : (i d : LeanDesk Op O Reply) (z : ForgettingState Op O Reply) → i ≡ d → LeadsOn rules i.hall z
      → AllLead (λ s t. LeadsBy rules s.world t.world) (λ s. IsShownBy rules d.hall s.world) (λ s. IsShownBy rules z s.world)
  seen_goes i d z same leads = lean_goes rules d.hall z (subst (λ (q : LeanDesk Op O Reply). LeadsOn rules q.hall z) same leads)

-- what was within the order still is
pub still_within : {Op Reply : Type 0} (r s : Record Op Reply) (n : ℕ) → IsBegun r s → n ≤ length r.order → n ≤ length s.order
still_within r s n begun within =
    let long : length s.order ≡ length r.order + length begun.order.0 = ap length begun.order.1 ∙ length-append r.order begun.order.0 in
    omega (arith, long, within)

pub first_within : (m s : ℕ) → m ≤ max m s
first_within m s = le-max_left m s

pub next_within : (m s a b : ℕ) → a < s → b ≤ a + 1 → b ≤ max m s
next_within m s a b below next = let high = le-max_right m s in omega (arith, below, next, high)

-- what is found in a list is no more than the list
one_more : {Y : Type 0} (o : Option Y) (ys : List Y) → length (cons_option o ys) ≤ 1 + length ys
one_more None ys = omega arith
one_more (Some y) ys = omega arith

pub fewer_found : {X Y : Type 0} (f : X → Option Y) (xs : List X) → length (filter_map f xs) ≤ length xs
fewer_found f [] = omega arith
fewer_found f (x ∷ xs) =
    let first = one_more (f x) (filter_map f xs) in
    let others = fewer_found f xs in omega (arith, first, others)

-- what took effect behind what was taken, by the order
pub fewer_placed : {Op Reply : Type 0} (n : ℕ) (r : Record Op Reply) → n ≤ length r.order → n + length (commands_from n r) ≤ length r.order
fewer_placed n r within =
    let few = fewer_found (command_under r.happenings.submitted) (drop n r.order) in
    let left = length-drop n r.order in omega (arith, within, few, left)
