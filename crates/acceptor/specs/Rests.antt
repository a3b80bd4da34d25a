-- What is left of an acceptor from a base on.
use Rattle.std.specs.Prelude.{ℕ}
use Rattle.ballot.specs.Rests.{pvalues_from}
use Rattle.acceptor.specs.Acceptors.{Acceptances}

-- the promise, and what was accepted in the slots that are kept
abbrev pub rest_of_acceptor : {C : Type 0} → ℕ → Acceptances C → Acceptances C
rest_of_acceptor base a = record a { accepted = pvalues_from base a.accepted }
