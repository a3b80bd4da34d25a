use Rattle.std.proofs.Common.{length, ap, ◌∙◌, arith}
use Rattle.node.specs.PlaceLaws.{node_at}
use Rattle.agreement.proofs.every.Events.{sound_now}
use Rattle.world.specs.WaysOut.{first_leader, first_book}
use Rattle.world.proofs.world.World.first.Goals as goal

pub index-requires : goal.index-requires
index-requires g c =
    let size = (sound_now c.ballot_laws.ensures g.O.Object.rules _ _ c.self.view_is c.self.invariant.world).size in
    let nodes = ap (λ w. length w.cluster.nodes) c.self.view_is in
    let members = ap (λ w. length w.cluster.members) c.self.view_is in
    let some = c.weights.ensures.members.some in
    let stored = c.self.inside.nodes.ok.0 in
    omega arith

pub returns-clause-leader : goal.returns-clause-leader
returns-clause-leader g c =
    let size = (sound_now c.ballot_laws.ensures g.O.Object.rules _ _ c.self.view_is c.self.invariant.world).size in
    let nodes = ap (λ w. length w.cluster.nodes) c.self.view_is in
    let members = ap (λ w. length w.cluster.members) c.self.view_is in
    let some = c.weights.ensures.members.some in
    ap (λ x. x.leader) (c.behind-self.view_is ∙ node_at c.self.inside.members c.self.inside.nodes.items 1
    c.index.result.now (omega arith) (omega arith) c.index.ensures)
    ∙ ap (λ w. first_leader w.cluster) c.self.view_is

pub returns-clause-book : goal.returns-clause-book
returns-clause-book g c =
    let size = (sound_now c.ballot_laws.ensures g.O.Object.rules _ _ c.self.view_is c.self.invariant.world).size in
    let nodes = ap (λ w. length w.cluster.nodes) c.self.view_is in
    let members = ap (λ w. length w.cluster.members) c.self.view_is in
    let some = c.weights.ensures.members.some in
    ap (λ x. x.replica) (c.behind-self.view_is ∙ node_at c.self.inside.members c.self.inside.nodes.items 1
    c.index.result.now (omega arith) (omega arith) c.index.ensures)
    ∙ ap (λ w. first_book w.cluster) c.self.view_is
