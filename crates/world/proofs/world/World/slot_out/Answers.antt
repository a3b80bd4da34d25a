use Rattle.std.proofs.Common.{Option, None, Some, refl, ap, ◌∙◌, arith}
use Rattle.std.specs.Prelude.{IsSome}
use Rattle.std.specs.Option.{SomeIff}
use Rattle.agreement.proofs.every.Every.{within_reach}
use Rattle.agreement.proofs.books.MentionsEvery.{reach_taken}
use Rattle.world.proofs.world.World.slot_out.Goals as goal

some_when : {X P : Type 0} (o : Option X) (v : X) → SomeIff o P v → P → IsSome o
some_when None v h p = absurd (h p)
some_when (Some x) v h p = refl

pub unwrap-requires : goal.unwrap-requires
unwrap-requires g c =
    let near = within_reach c.ballot_laws.ensures g.O.Object.rules c.args.self.now c.show_reachable.ensures.world 1 in
    let few = reach_taken c.ballot_laws.ensures g.O.Object.rules c.args.self.now c.show_reachable.ensures.world in
    let all = c.show_reachable.ensures.world.few in
    let same = c.slot_out.ensures.slot ∙ ap (λ b. b.slot_out) (c.slots.ensures ∙ c.first.ensures.book) in
    some_when c.new.result c.slot_out.result c.new.ensures (c.slot_out.ensures.above, omega arith)
