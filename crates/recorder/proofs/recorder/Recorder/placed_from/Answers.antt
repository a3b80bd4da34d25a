use Rattle.std.proofs.Common.{◌≡◌, map, drop, subst}
use Rattle.recorder.specs.Records.{Record, commands_from}
use Rattle.recorder.proofs.Placed.{keys_placed}
use Rattle.recorder.proofs.recorder.Recorder.placed_from.Goals as goal

pub returns-clause-keys : goal.returns-clause-keys
returns-clause-keys g c =
    subst (λ (r : Record _ _). map (λ c. c.key) (commands_from c.args.count r) ≡ drop c.args.count r.order) c.self.view_is
    (keys_placed c.self.inside.submitted c.self.inside.order.items c.args.count c.self.invariant.recorded.placed_known)
