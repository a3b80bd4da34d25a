use Rattle.std.proofs.Common.{◌≡◌, true, sym, ap, subst, ◌∙◌}
use Rattle.std.specs.Prelude.{◌↔◌}
use Rattle.hall.specs.Halls.{IsHall, AreBorneOut, Agrees}
use Rattle.hall.specs.Refusals.{is_last}
use Rattle.hall.proofs.Agreeing.{not_last, is_told}
use Rattle.hall.proofs.hall.Hall.agrees.Goals as goal

pub returns-then-is_last : goal.returns-then-is_last
returns-then-is_last g c =
    is_told g.O.Object.rules c.laws_below.ensures c.args.self.now (subst (IsHall g.O.Object.rules) c.self.view_is c.self.invariant) c.args.ticket.now
    (ap (is_last c.args.self.now) (sym c.last_key.ensures) ∙ sym c.is_last.ensures ∙ c.if-is_last.true)
    c.bears_out_all.result
    (subst (λ acts. (c.bears_out_all.result ≡ true) ↔ AreBorneOut c.args.self.now c.args.ticket.now.session acts) c.acts.ensures
    (subst (λ session. (c.bears_out_all.result ≡ true) ↔ AreBorneOut c.args.self.now session c.acts.result.now) c.session.ensures c.bears_out_all.ensures))

pub returns-else-is_last : goal.returns-else-is_last
returns-else-is_last g c =
    subst (λ b. (b ≡ true) ↔ Agrees c.args.self.now c.args.ticket.now) (sym c.if-is_last.false)
    (not_last g.O.Object.rules c.laws_below.ensures c.args.self.now (subst (IsHall g.O.Object.rules) c.self.view_is c.self.invariant) c.args.ticket.now
    (ap (is_last c.args.self.now) (sym c.last_key.ensures) ∙ sym c.is_last.ensures ∙ c.if-is_last.false))
