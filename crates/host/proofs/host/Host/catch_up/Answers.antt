use Rattle.std.proofs.Common.{◌≡◌, ◌+◌, ◌*◌, ◌-◌, sym, ap, ◌∙◌, subst, arith}
use Rattle.object.specs.ListLaws.{Each}
use Rattle.node.specs.ComingBack.{node_from}
use Rattle.host.specs.CatchingUp.{MayCatchUp, caught_up_view}
use Rattle.host.specs.Forgetting.{lowest_asked}
use Rattle.host.specs.Receiving.{AwaitsVote}
use Rattle.host.specs.Views.{HostView}
use Rattle.host.proofs.Forgetting.{lowest_within, awaits_from}
use Rattle.host.proofs.host.Host.catch_up.Goals as goal

pub invariant_of-self : goal.invariant_of-self
invariant_of-self g c =
    let asked : c.lowest_asked.result ≡ lowest_asked c.args.slot c.self.inside.aside.items =
    c.lowest_asked.ensures ∙ ap (λ s. lowest_asked s c.self.inside.aside.items) c.number-2.ensures.number in
    let within = lowest_within c.args.slot c.self.inside.aside.items in
    let no = c.if-lowest_asked-number.false in
    let third = c.number-3.ensures.number in
    let low : lowest_asked c.args.slot c.self.inside.aside.items ≡ c.args.slot = omega (arith, asked, within, no, third) in
    subst (λ b. Each (AwaitsVote c.self.inside.number b) c.self.inside.aside.items)
    (low ∙ sym c.number-self-inside.ensures.number)
    (awaits_from c.self.inside.number c.self.inside.base c.args.slot c.self.inside.aside.items c.self.invariant)

pub returns-clause-ok : goal.returns-clause-ok
returns-clause-ok g c =
    let asked : c.lowest_asked.result ≡ lowest_asked c.args.slot c.self.inside.aside.items =
    c.lowest_asked.ensures ∙ ap (λ s. lowest_asked s c.self.inside.aside.items) c.number-2.ensures.number in
    let within = lowest_within c.args.slot c.self.inside.aside.items in
    let no = c.if-lowest_asked-number.false in
    let third = c.number-3.ensures.number in
    let low : lowest_asked c.args.slot c.self.inside.aside.items ≡ c.args.slot = omega (arith, asked, within, no, third) in
    let h : HostView _ _ = record {
      number = c.self.inside.number;
      shown = record { base = c.self.inside.base; holding = c.self.inside.node };
      aside = c.self.inside.aside.items;
      voted = c.self.inside.voted;
      taken = c.self.inside.events;
    } in
    let z : HostView _ _ = record h {
      shown = record { base = c.number-self-inside.result; holding = c.catch_up.new.self };
      taken = c.in_ok-self-inside.field-0;
    } in
    let out : c.slot_out.result ≡ h.shown.holding.state.replica.slot_out =
    c.slot_out.ensures ∙ ap (λ (x : HostView _ _). x.shown.holding.state.replica.slot_out) (sym c.self.view_is) in
    subst (λ (x : HostView _ _). MayCatchUp c.args.slot c.args.object x × (z ≡ caught_up_view c.args.slot c.args.object x))
    c.self.view_is (
      record {
        further = let part = c.in-Some.ensures in let number = c.number.ensures.number in
            omega (arith, part.0, number, out);
        waits = low;
        vain = sym c.if-not-has_proposed_in_vain.ensures;
      },
      ap (λ n. record z { shown = record { base = c.number-self-inside.result; holding = n } }) c.catch_up.ensures
          ∙ ap (λ b. record z {
            shown = record { base = b; holding = node_from c.args.slot c.args.object c.self.inside.node };
          }) c.number-self-inside.ensures.number
          ∙ ap (λ t. record (caught_up_view c.args.slot c.args.object h) { taken = t })
          (c.in_ok-self-inside.ensures.ok
          ∙ ap (λ n. c.self.inside.events + 2 * n)
          (c.in-Some.ensures.1 ∙ ap (λ a. a - c.slot_out.result) c.number.ensures.number
          ∙ ap (λ b. c.args.slot - b) out)),
    )
