use Rattle.std.proofs.Common.{◌+◌, map, sym, ap, ◌∙◌, subst}
use Rattle.agreement.specs.Chosen.{IsChosenFrom}
use Rattle.world.specs.Kept.{HasNoted}
use Rattle.agreement.proofs.order.Deciding.{chosen_from}
use Rattle.agreement.proofs.every.Events.{sound_now}
use Rattle.world.proofs.standing.Placed.{told, performed_late, late_before, late_behind}
use Rattle.world.proofs.standing.Standing.{stands_when}
use Rattle.world.proofs.world.World.has_in_order.Goals as goal

pub returns-in-Some : goal.returns-in-Some
returns-in-Some g c =
    let sound = sound_now c.ballot_laws.ensures g.O.Object.rules _ _ c.self.view_is c.self.invariant.world in
    let ahead = chosen_from c.ballot_laws.ensures c.args.self.now.cluster sound (c.args.self.now.reach + 1) in
    stands_when c.ballot_laws.ensures c.args.self.now sound c.args.key c.self.inside.performed.items
    (subst (λ w. HasNoted w c.self.inside.performed.items) c.self.view_is c.self.invariant.noted) ahead.0 ahead.1 c.eq.result
    (c.eq.ensures ∙ ap (told c.args.key) (sym (late_before c.args.key c.in-Some.own c.self.inside.performed.items (map (λ x. x.key) ahead.0)
    (sym (performed_late c.args.key c.deref.result.now c.self.inside.performed.items c.deref.ensures.value
    c.first_as_late.result c.first_as_late.ensures) ∙ c.in-Some.is))))

pub returns-in-Some-first_chosen_as_late : goal.returns-in-Some-first_chosen_as_late
returns-in-Some-first_chosen_as_late g c =
    let ahead = c.first_chosen_as_late.ensures in
    stands_when c.ballot_laws.ensures c.args.self.now
    (sound_now c.ballot_laws.ensures g.O.Object.rules _ _ c.self.view_is c.self.invariant.world) c.args.key
    c.self.inside.performed.items
    (subst (λ w. HasNoted w c.self.inside.performed.items) c.self.view_is c.self.invariant.noted) ahead.0
    (subst (λ w. IsChosenFrom c.args.self.now.cluster (w.reach + 1) ahead.0) c.self.view_is ahead.1)
    c.eq-in-Some-first_chosen_as_late.result
    (c.eq-in-Some-first_chosen_as_late.ensures ∙ ap (told c.args.key) (sym c.in-Some-first_chosen_as_late.is ∙ ahead.2
    ∙ sym (late_behind c.args.key c.self.inside.performed.items (map (λ x. x.key) ahead.0)
    (sym (performed_late c.args.key c.deref.result.now c.self.inside.performed.items c.deref.ensures.value
    c.first_as_late.result c.first_as_late.ensures) ∙ c.in_default.is))))

pub returns-in-None : goal.returns-in-None
returns-in-None g c =
    let ahead = c.first_chosen_as_late.ensures in
    stands_when c.ballot_laws.ensures c.args.self.now
    (sound_now c.ballot_laws.ensures g.O.Object.rules _ _ c.self.view_is c.self.invariant.world) c.args.key
    c.self.inside.performed.items
    (subst (λ w. HasNoted w c.self.inside.performed.items) c.self.view_is c.self.invariant.noted) ahead.0
    (subst (λ w. IsChosenFrom c.args.self.now.cluster (w.reach + 1) ahead.0) c.self.view_is ahead.1) _
    (ap (told c.args.key) (sym c.in-None.is ∙ ahead.2
    ∙ sym (late_behind c.args.key c.self.inside.performed.items (map (λ x. x.key) ahead.0)
    (sym (performed_late c.args.key c.deref.result.now c.self.inside.performed.items c.deref.ensures.value
    c.first_as_late.result c.first_as_late.ensures) ∙ c.in_default.is))))
