use Rattle.std.proofs.Common.{sym, ap, ◌∙◌, subst}
use Rattle.world.specs.Kept.{HasNoted}
use Rattle.agreement.proofs.every.Events.{sound_now}
use Rattle.world.proofs.standing.Placed.{told, performed_late, placed_when}
use Rattle.world.proofs.world.World.placed.Goals as goal

pub returns-in-Some : goal.returns-in-Some
returns-in-Some g c =
    placed_when c.ballot_laws.ensures c.args.self.now (sound_now c.ballot_laws.ensures g.O.Object.rules _ _ c.self.view_is c.self.invariant.world) c.args.key
    c.self.inside.performed.items (subst (λ w. HasNoted w c.self.inside.performed.items) c.self.view_is c.self.invariant.noted) c.eq.result
    (c.eq.ensures ∙ ap (told c.args.key)
    (sym c.in-Some.is ∙ performed_late c.args.key c.deref.result.now c.self.inside.performed.items
    c.deref.ensures.value c.first_as_late.result c.first_as_late.ensures))

pub returns-in-None : goal.returns-in-None
returns-in-None g c =
    placed_when c.ballot_laws.ensures c.args.self.now (sound_now c.ballot_laws.ensures g.O.Object.rules _ _ c.self.view_is c.self.invariant.world) c.args.key
    c.self.inside.performed.items (subst (λ w. HasNoted w c.self.inside.performed.items) c.self.view_is c.self.invariant.noted) _
    (ap (told c.args.key) (sym c.in-None.is ∙ performed_late c.args.key c.deref.result.now c.self.inside.performed.items
    c.deref.ensures.value c.first_as_late.result c.first_as_late.ensures))
