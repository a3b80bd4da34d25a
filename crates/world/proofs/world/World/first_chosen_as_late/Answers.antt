use Rattle.std.proofs.Common.{◌≡◌, true, false, Some, sym, ◌∙◌, subst, arith}
use Rattle.world.specs.Kept.{IsFirstAsLate}
use Rattle.world.proofs.standing.Placed.{is_as_late}
use Rattle.agreement.proofs.chosen.Reach.{reachable_sound}
use Rattle.world.proofs.standing.Seeking.{sought_on, sought_all, sought_found}
use Rattle.world.proofs.world.World.first_chosen_as_late.Goals as goal

pub returns-in_default : goal.returns-in_default
returns-in_default g c = sought_all c.args.self.now.cluster c.args.first c.args.key c.loop-slot.slot c.loop-slot.invariant.sought c.in_default.ensures.none

pub returns-then-is_as_late : goal.returns-then-is_as_late
returns-then-is_as_late g c =
    let sound = reachable_sound c.ballot_laws.ensures g.O.Object.rules c.args.self.now c.show_reachable.ensures.world.reachable in
    let late = subst (λ own. is_as_late own c.args.key ≡ true) c.key.ensures.key (sym c.is_as_late.ensures ∙ c.if-is_as_late.true) in
    subst (λ own. IsFirstAsLate c.args.self.now.cluster c.args.first c.args.key (Some own)) (sym c.key-then-is_as_late.ensures.key)
    (sought_found c.args.self.now.cluster c.args.first c.args.key c.ballot_laws.ensures sound c.loop-slot.slot
    c.in-Some.command.now c.loop-slot.invariant.sought c.in-Some.ensures.some late)

pub loop-slot-preserved : goal.loop-slot-preserved
loop-slot-preserved g c = record {
  sought =
      let early = subst (λ own. is_as_late own c.args.key ≡ false) c.key.ensures.key (sym c.is_as_late.ensures ∙ c.if-is_as_late.false) in
      sought_on c.args.self.now.cluster c.args.first c.args.key c.loop-slot.slot c.in-Some.command.now
      c.loop-slot.invariant.sought c.in-Some.ensures.some early;
  within = let low = c.in-Some.ensures.within in omega arith;
}
