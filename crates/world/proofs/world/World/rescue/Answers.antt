use Rattle.std.proofs.Common.{◌≡◌, ◌⊎◌, inl, inr, ⊎_elim, false, true≢false, Option, None, Some, Result, Ok, Err, sym, ◌∙◌, subst}
use Rattle.std.specs.Prelude.{IfOk, IfSome, IfNone}
use Rattle.object.specs.Happenings.{is_submitted}
use Rattle.world.specs.Rescues.{Rescues, HasGreater, IsInOrder, IsLast}
use Rattle.world.proofs.standing.InOrder.{in_order_submitted}
use Rattle.world.proofs.ways.Rescued.{nothing, not_last}
use Rattle.world.proofs.ways.WaysBack.{at_once_in}
use Rattle.world.proofs.world.World.rescue.Goals as goal

pub returns-then-has_in_order-clause-some : goal.returns-then-has_in_order-clause-some
returns-then-has_in_order-clause-some g c = subst (Rescues g.O.Object.rules g.O.Op.PartialEq.eq c.args.self.now c.args.key) (sym c.new.ensures.items)
    (nothing g.O.Object.rules g.O.Op.PartialEq.eq c.args.self.now c.args.key (c.has_in_order.ensures.0 c.if-has_in_order.true))

pub returns-then-has_in_order-clause-none : goal.returns-then-has_in_order-clause-none
returns-then-has_in_order-clause-none g c = (
  λ is. cc,
  λ no_way. ⊎_elim
      (λ (never : is_submitted c.args.key c.args.self.now.happenings.submitted ≡ false). absurd
      (true≢false (sym (in_order_submitted c.ballot_laws.ensures g.O.Object.rules c.args.self.now
      c.show_reachable.ensures.world c.args.key (c.has_in_order.ensures.0 c.if-has_in_order.true)) ∙ never)))
      (λ (outside : (IsInOrder c.args.self.now.cluster c.args.key
      → ⊥) × HasGreater c.args.key c.args.self.now.happenings.submitted). absurd
      (outside.0 (c.has_in_order.ensures.0 c.if-has_in_order.true)))
      no_way,
)

pub returns-in-None-clause-last : goal.returns-in-None-clause-last
returns-in-None-clause-last g c = λ last is. not_last c.args.key c.args.self.now.happenings.submitted
    (subst (λ ss. (is_submitted c.args.key ss ≡ false) ⊎ HasGreater c.args.key ss) c.submitted.ensures c.in-None.ensures.none) last

pub returns-in-None-clause-full : goal.returns-in-None-clause-full
returns-in-None-clause-full g c = λ last outside many. absurd (not_last c.args.key c.args.self.now.happenings.submitted
    (subst (λ ss. (is_submitted c.args.key ss ≡ false) ⊎ HasGreater c.args.key ss) c.submitted.ensures c.in-None.ensures.none) last)

on_found : {T E : Type 0} (P Q : T → Type 0) → ((x : T) → P x → Q x) → (r : Result (Option T) E) → IfOk r (λ f. IfSome f P) → IfOk r (λ f. IfSome f Q)
on_found P Q more (Ok (Some x)) h = more x h
on_found P Q more (Ok None) h = tt
on_found P Q more (Err e) h = tt

pub returns-in-Some-clause-empty : goal.returns-in-Some-clause-empty
returns-in-Some-clause-empty g c = on_found _ _ (λ events found. (
  λ none. subst (λ k. IsInOrder c.args.self.now.cluster k) c.in-Some.ensures.own
      (at_once_in g.O.Object.rules g.O.Op.PartialEq.eq c.args.self.now c.in-Some.command.now.key events.items found
      none),
  λ stands. absurd (true≢false (sym (c.has_in_order.ensures.1 stands) ∙ c.if-has_in_order.false)),
))
    c.bring_last.result c.bring_last.ensures.some

some_found : {T E : Type 0} (r : Result (Option T) E) → IfOk r (λ f. IfNone f ⊥) → r ≡ Ok None → ⊥
some_found (Ok (Some x)) found is = cc
some_found (Ok None) found is = found
some_found (Err e) found is = cc

pub returns-in-Some-clause-none : goal.returns-in-Some-clause-none
returns-in-Some-clause-none g c = (
  λ is. absurd (some_found c.bring_last.result c.bring_last.ensures.found is),
  λ no_way.
      let last = subst (IsLast c.args.key) c.submitted.ensures c.in-Some.ensures.last in
      absurd (not_last c.args.key c.args.self.now.happenings.submitted
      (⊎_elim (λ (never : is_submitted c.args.key c.args.self.now.happenings.submitted ≡ false). inl never)
      (λ (outside : (IsInOrder c.args.self.now.cluster c.args.key → ⊥) × HasGreater c.args.key c.args.self.now.happenings.submitted). inr outside.1)
      no_way) last),
)
