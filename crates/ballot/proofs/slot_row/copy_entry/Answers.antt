use Rattle.std.proofs.Common.{rules, ap, sym, ◌∙◌, [], ◌∷◌}
use Rattle.std.proofs.lemmas.Result.{on_ok_weaker}
use Rattle.ballot.specs.SlotRows.{with_row}
use Rattle.ballot.proofs.SlotRows.{with_row_one, with_row_none}
use Rattle.ballot.proofs.slot_row.copy_entry.Goals as goal

pub returns-in-None : goal.returns-in-None
returns-in-None g c = sym (ap (λ o. with_row c.args.number (o ∷ []) c.args.map.now) c.in-None.is ∙ with_row_none c.args.number c.args.map.now)

pub returns-in_ok-copy-in-Some : goal.returns-in_ok-copy-in-Some
returns-in_ok-copy-in-Some g c = on_ok_weaker c.insert.result (λ is. is ∙ search (rules, with_row_one)) c.insert.ensures.ok.0
