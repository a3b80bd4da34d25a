use Rattle.std.proofs.Common.{◌≡◌, ◌∙◌, ◌∷◌, [], codes, rules, ap}
use Rattle.session_store.specs.Drafts.{Draft}
use Rattle.bean_queue.specs.Queue.{QueueState, state_of}
use Rattle.bean_queue.specs.Tubes.{all_tubes}
use Rattle.bean_queue.proofs.tubes.Named.{all-named}
use Rattle.bean_queue.proofs.logic.Logic.tube_names.Goals as goal

pub returns : goal.returns
returns g c =
    let s = state_of c.self.inside.counters c.self.inside.jobs.now c.self.inside.sessions.now c.self.inside.pauses.now.pauses c.self.inside.tubes.now in
    let default : c.insert.new.self.keys ≡ codes "default" ∷ [] = search rules in
    all-named s (g.M.JobMap.entries c.map.result.now) c.map.ensures.jobs c.insert.new.self.keys c.add_tubes.new.names.keys c.add_tubes-2.new.names.keys default
    c.add_tubes.ensures.kept c.add_tubes.ensures.only c.in_ok-add_tubes.ensures.all
    c.add_tubes-2.ensures.kept c.add_tubes-2.ensures.only c.in_ok-add_tubes-2.ensures.all
    c.len.ensures.ordered ∙
    ap (λ (d : Draft QueueState). all_tubes d.now) c.self.view_is
