-- How an acceptor keeps pvalues.
use Rattle.std.specs.Prelude.{ℕ, Bool, false, Option, None, Some}
use Rattle.ballot.specs.Ballots.{Numbers, is_below}
use Rattle.ballot.specs.declared.pvalue.Pvalue.{Pvalue}
use Rattle.acceptor.specs.declared.accepted.Accepted.{Accepted}

-- what is kept for a slot, as the pvalue that it is
abbrev pub pvalue_of : {C : Type 0} → ℕ × Accepted C → Pvalue C
pvalue_of e = record { ballot = e.1.ballot; slot = e.0; value = e.1.value }

-- what is kept is of a higher ballot than this
abbrev pub is_higher : {C : Type 0} → Option (Accepted C) → Numbers → Bool
is_higher None b = false
is_higher (Some kept) b = is_below b kept.ballot
