use Rattle.std.proofs.Common.{◌≡◌, ◌++◌}
use Rattle.client_table.specs.Clients.{told}
use Rattle.client_table.proofs.table.ClientTable.hear.Given as goal

abbrev pub invariant-loop-answer : goal.invariant-loop-answer
invariant-loop-answer g l = (l.self ≡ told l.yielded l.fn.self) × (l.yielded ++ l.answer-iterator.rest.items ≡ l.fn.given.items)
