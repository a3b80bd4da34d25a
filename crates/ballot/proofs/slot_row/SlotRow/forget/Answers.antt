use Rattle.std.proofs.Common.{ap, ◌∙◌}
use Rattle.ballot.specs.Slots.{Slots}
use Rattle.ballot.specs.Rests.{kept_from}
use Rattle.ballot.specs.SlotRows.{with_row}
use Rattle.ballot.proofs.SlotRows.{cut_row}
use Rattle.ballot.proofs.slot_row.SlotRow.forget.Goals as goal

pub returns : goal.returns
returns g c =
    ap (λ (m : Slots g.row.X.Denot). with_row c.cut-self-inside.result c.cut-self-inside.new.row.items m) c.forget.ensures ∙
    cut_row c.self.inside.first c.cut-self-inside.result c.args.base c.self.inside.row.items c.cut-self-inside.new.row.items c.self.inside.beside
    c.cut-self-inside.ensures.kept ∙
    ap (λ (m : Slots g.row.X.Denot). kept_from c.args.base m) c.self.view_is
