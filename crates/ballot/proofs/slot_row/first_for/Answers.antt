use Rattle.std.proofs.Common.{rules}
use Rattle.std.proofs.lemmas.List.{nil_from_length}
use Rattle.ballot.proofs.SlotRows.{first_free}
use Rattle.ballot.proofs.slot_row.first_for.Goals as goal

pub returns-then-is_empty-clause-same : goal.returns-then-is_empty-clause-same
returns-then-is_empty-clause-same g c =
    λ m. first_free c.number.result c.args.first c.args.row.now.items m
    (nil_from_length c.args.row.now.items (search rules))
