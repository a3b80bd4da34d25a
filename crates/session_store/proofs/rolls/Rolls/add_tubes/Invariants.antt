use Rattle.std.proofs.Common.{◌≡◌, true}
use Rattle.std.specs.Map.{keys_of}
use Rattle.session_store.specs.Rolls.{is_named}
use Rattle.bean_words.proofs.naming.NameSets.{AreAdded}
use Rattle.session_store.proofs.rolls.Rolls.add_tubes.Given as goal

abbrev pub invariant-loop-tube : goal.invariant-loop-tube
invariant-loop-tube l =
    AreAdded (λ t. is_named t l.sessions.entries ≡ true)
    (λ t. is_named t l.sessions.entries ≡ true) l.initial.names.keys l.names.keys (keys_of l.tube-iterator)
    (keys_of l.self.rolls.entries)
