use Rattle.std.proofs.Common.{◌≡◌, min, true, false, cond, sym, ap, ◌∙◌, subst, arith}
use Rattle.std.specs.Prelude.{nat_lt}
use Rattle.std.proofs.lemmas.Bool.Decides.{nat_tests}
use Rattle.object.specs.ListLaws.{Each}
use Rattle.host.specs.Forgetting.{base_within, forgets_upto}
use Rattle.host.specs.Receiving.{AwaitsVote}
use Rattle.host.specs.Views.{HostView, forgotten_view}
use Rattle.host.proofs.Forgetting.{lowest_within, awaits_from}
use Rattle.host.proofs.host.Host.forget.Goals as goal

pub forget-requires : goal.forget-requires
forget-requires g c =
    let same = c.base_within-base.ensures in
    let low = lowest_within (min c.args.base c.args.self.now.shown.holding.state.replica.slot_out) c.args.self.now.aside in
    let out = ap (λ (h : HostView _ _). h.shown.holding.state.replica.slot_out) c.self.view_is in
    omega (arith, same, low, out)

pub invariant_of-self : goal.invariant_of-self
invariant_of-self g c =
    subst (λ b. Each (AwaitsVote c.self.inside.number b) c.self.inside.aside.items)
    (sym (c.base_within-base.ensures ∙ ap (λ (h : HostView _ _). base_within c.args.base h) (sym c.self.view_is)))
    (awaits_from c.self.inside.number c.self.inside.base (min c.args.base c.self.inside.node.state.replica.slot_out)
    c.self.inside.aside.items c.self.invariant)

pub returns-then-self-base : goal.returns-then-self-base
returns-then-self-base g c =
    let h : HostView _ _ = record {
      number = c.self.inside.number;
      shown = record { base = c.self.inside.base; holding = c.self.inside.node };
      aside = c.self.inside.aside.items;
      voted = c.self.inside.voted;
      taken = c.self.inside.events;
    } in
    let z : HostView _ _ = record h {
      shown = record { base = c.base_within-base.result; holding = c.forget.new.self };
    } in
    let same : c.base_within-base.result ≡ base_within c.args.base h =
    c.base_within-base.ensures ∙ ap (λ (x : HostView _ _). base_within c.args.base x) (sym c.self.view_is) in
    let lower = c.if-self-base.true in
    let does : nat_lt h.shown.base c.base_within-base.result ≡ true = grind (arith, nat_tests, lower) in
    subst (λ (x : HostView _ _). z ≡ forgets_upto c.args.base x) c.self.view_is
    (ap (λ n. record h { shown = record { base = c.base_within-base.result; holding = n } }) c.forget.ensures
    ∙ ap (λ b. forgotten_view b h) same
    ∙ sym (ap (λ b. cond b (forgotten_view (base_within c.args.base h) h) h)
    (ap (λ b. nat_lt h.shown.base b) (sym same) ∙ does)))

pub returns-else-self-base : goal.returns-else-self-base
returns-else-self-base g c =
    let same = c.base_within-base.ensures in
    let base = ap (λ (h : HostView _ _). h.shown.base) c.self.view_is in
    let no = c.if-self-base.false in
    let not : nat_lt c.args.self.now.shown.base (base_within c.args.base c.args.self.now) ≡ false =
    ap (λ b. nat_lt b (base_within c.args.base c.args.self.now)) (sym base)
    ∙ ap (λ b. nat_lt c.self.inside.base b) (sym same) ∙ grind (arith, nat_tests, no) in
    sym (ap (λ b. cond b (forgotten_view (base_within c.args.base c.args.self.now) c.args.self.now) c.args.self.now) not)
