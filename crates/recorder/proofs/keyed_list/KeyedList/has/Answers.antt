use Rattle.std.proofs.Common.{ap, ◌∙◌}
use Rattle.std.specs.Option.{is_some}
use Rattle.object.specs.Keys.{stands}
use Rattle.recorder.proofs.Places.{stands_at}
use Rattle.recorder.proofs.keyed_list.KeyedList.has.Goals as goal

pub returns : goal.returns
returns g c =
    c.is_some.ensures
    ∙ ap is_some c.get.ensures
    ∙ ap is_some (c.self.invariant.at c.args.key)
    ∙ stands_at g.X.Keyed.key_of c.args.key c.self.inside.items.items
    ∙ ap (stands g.X.Keyed.key_of c.args.key) c.self.view_is
