use Rattle.std.proofs.Common.{ap, ap₂, sym, ◌∙◌, ◌≡◌}
use Rattle.std.specs.Option.{option_or}
use Rattle.std.specs.FinMap.{get, remove}
use Rattle.ballot.specs.Slots.{Slots}
use Rattle.ballot.specs.SlotRows.{with_row}
use Rattle.ballot.proofs.SlotRows.{taken, get_with_row}
use Rattle.ballot.proofs.slot_row.SlotRow.remove.Goals as goal
use Rattle.ballot.proofs.slot_row.SlotRow.remove.Goals.{in-Some+in-Some-1, in-Some+in-None-1, in-None}

pub returns-clause-value : goal.returns-clause-value
returns-clause-value g c =
    let whole : get c.args.self.now c.args.slot ≡ option_or c.take.result c.remove-beside.result =
    ap (λ (m : Slots g.row.X.Denot). get m c.args.slot) (sym c.self.view_is) ∙
    get_with_row c.self.inside.first c.self.inside.row.items c.self.inside.beside c.args.slot ∙
    ap₂ (λ o r. option_or o r) (sym c.take.ensures.value) (sym c.remove-beside.ensures.value) in
    elim c.match-take.branch [
      | in-Some+in-Some-1 w ↦ w.result-is ∙ sym (whole ∙ ap (λ o. option_or o c.remove-beside.result) w.in-Some.is)
      | in-Some+in-None-1 w ↦ w.result-is ∙ sym (whole ∙ ap (λ o. option_or o c.remove-beside.result) w.in-Some.is)
      | in-None w ↦ w.result-is ∙ sym (whole ∙ ap (λ o. option_or o c.remove-beside.result) w.in-None.is)
    ]

pub returns-clause-rest : goal.returns-clause-rest
returns-clause-rest g c =
    ap (λ (m : Slots g.row.X.Denot). with_row c.self.inside.first c.take.new.row.items m) c.remove-beside.ensures.rest ∙
    taken c.self.inside.first c.self.inside.row.items c.take.new.row.items c.self.inside.beside c.args.slot c.take.ensures.rest ∙
    ap (λ (m : Slots g.row.X.Denot). remove m c.args.slot) c.self.view_is
