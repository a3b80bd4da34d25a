use Rattle.world.proofs.steps.Watching.{watched_received, watched_shows}
use Rattle.world.proofs.watched.Watched.receive.Goals as goal

pub invariant_of-self-2 : goal.invariant_of-self-2
invariant_of-self-2 g c = watched_shows _ c.self.inside.node _ _ c.self.inside.accepted.items _ _ c.self.view_is
    c.make_room_if.ensures.kept c.args.body.now _ c.in_ok-accepted.ensures.accepted c.push_in_room.ensures _ _
    c.in_ok-receive.ensures.ok c.self.invariant

pub returns-clause-ok : goal.returns-clause-ok
returns-clause-ok g c = watched_received _ c.self.inside.node _ _ c.self.inside.accepted.items _ _ c.self.view_is
    c.make_room_if.ensures.kept c.args.body.now _ c.in_ok-accepted.ensures.accepted c.push_in_room.ensures _ _
    c.in_ok-receive.ensures.ok c.self.invariant
