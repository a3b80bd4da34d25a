-- What happened is legal for what is kept of the commands up to the reach, too.
use Rattle.std.proofs.Common.{◌≡◌, ℕ, zero, suc, true, List, [], ◌∷◌, ◌++◌, length, fold, Some, sym, ap, ◌∙◌, subst}
use Rattle.std.specs.Prelude.{slice_get}
use Rattle.object.specs.Lists.{In, IsBeginning}
use Rattle.object.specs.Replays.{replay_from, kept}
use Rattle.object.specs.declared.command.Answer.{Answer}
use Rattle.object.specs.declared.command.Command.{Command}
use Rattle.object.specs.declared.command.Key.{Key}
use Rattle.object.specs.Happenings.{Happenings, is_submitted}
use Rattle.object.specs.Objects.{Rules, replay_of}
use Rattle.object.specs.Legal.{IsLegal, IsGivenAt, IsRising, StandsAt}
use Rattle.object.specs.ListLaws.{In-left}
use Rattle.object.specs.ReplayLaws.{replay-append}
use Rattle.ballot.specs.OrderLaws.{BallotLaws}
use Rattle.agreement.specs.Worlds.{World}
use Rattle.agreement.specs.Runs.{IsReachable}
use Rattle.agreement.specs.Reached.{IsReached}
use Rattle.agreement.proofs.order.Submitted.{key_submitted}
use Rattle.agreement.proofs.order.Rising.{kept_rises}
use Rattle.agreement.proofs.order.Once.{ObjectLaws, replay_named, replay_once, In-placed}
use Rattle.agreement.proofs.answered.Answered.{reachable_reached, reached_beginning}
use Rattle.agreement.proofs.order.Legal.{reached_gives}
use Rattle.agreement.proofs.order.OneOrder.{reachable_one_order}

-- what stands in a list has the same place in a longer one
get_longer : {A : Type 0} (xs more : List A) (n : ℕ) (x : A) → slice_get xs n ≡ Some x → slice_get (xs ++ more) n ≡ Some x
get_longer [] more n x e = absurd (cc)
get_longer (y ∷ ys) more zero x e = e
get_longer (y ∷ ys) more (suc n) x e = get_longer ys more n x e

stands_longer : {Op : Type 0} (key : Key) (first order : List (Command Op)) → IsBeginning first order → (n : ℕ) → StandsAt key first n → StandsAt key order n
stands_longer key first order b n stands = (stands.0, ap (λ l. slice_get l n) b.1 ∙ get_longer first b.0 n stands.0 stands.1, stands.2)

module _ {O Op Reply : Type 0} (rules : Rules O Op Reply) where
  -- the replay of a beginning begins the replay
  given_longer : (first order : List (Command Op)) → IsBeginning first order → (n : ℕ) (a : Answer Reply)
      → IsGivenAt rules first n a → IsGivenAt rules order n a
  given_longer first order b n a given =
      subst (In (record { place = n; answer = a }))
      (sym (ap (replay_of rules) b.1 ∙ replay-append rules.after rules.answers rules.fresh first b.0))
      (In-left (record { place = n; answer = a }) (replay_of rules first)
      (replay_from rules.after rules.answers (fold rules.after rules.fresh first) (length first) b.0) given)

  module _ (waits : O → Key → Type 0) (object : ObjectLaws rules waits) where
    -- what is legal for an order is so for a beginning that gives each answer
    legal_beginning : (h : Happenings Op Reply) (first order : List (Command Op)) → IsBeginning first order
        → IsRising first → ((a : Answer Reply) → In a h.answers → (n : ℕ) × IsGivenAt rules first n a)
        → IsLegal rules h order → IsLegal rules h first
    legal_beginning h first order b rises answered legal = record {
      submitted = λ c i. legal.submitted c (subst (In c) (sym b.1) (In-left c first b.0 i));
      rising = rises;
      answered = answered;
      once = replay_once rules waits object first rises;
      later = λ s i a j m n given stands. legal.later s i a j m n (given_longer first order b m a given) (stands_longer s.command.key first order b n stands);
    }

    -- and each key that is answered then was submitted
    key_known : (h : Happenings Op Reply) (order : List (Command Op)) → IsLegal rules h order → (a : Answer Reply)
        → In a h.answers → is_submitted a.to h.submitted ≡ true
    key_known h order legal a i =
        let given = legal.answered a i in
        let c = replay_named rules waits object order a (In-placed (record { place = given.0; answer = a }) (replay_of rules order) given.1) in
        ap (λ k. is_submitted k h.submitted) c.2 ∙ key_submitted c.0 h.submitted (legal.submitted c.0 c.1)

module _ (laws : BallotLaws) {O Op Reply : Type 0} (rules : Rules O Op Reply) (waits : O → Key → Type 0)
    (object : ObjectLaws rules waits) (w : World Op Reply) (r : IsReachable rules w) where
  pub reached_legal : (cs : List (Command Op)) → IsReached w cs → IsLegal rules w.happenings (kept cs)
  reached_legal cs reached =
      let one = reachable_one_order laws rules waits object w r in
      legal_beginning rules waits object w.happenings (kept cs) one.order
      (reached_beginning laws rules w r cs one.order reached one.is) (kept_rises cs) (reached_gives laws rules w r cs reached) one.legal

  -- each key that is answered was submitted
  pub answered_submitted : (a : Answer Reply) → In a w.happenings.answers → is_submitted a.to w.happenings.submitted ≡ true
  answered_submitted a i =
      let reached = reachable_reached laws rules w r in
      key_known rules waits object w.happenings (kept reached.0) (reached_legal reached.0 reached.1) a i
