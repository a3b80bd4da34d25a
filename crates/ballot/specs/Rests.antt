-- What is left from a base on. The base is the first slot that is kept: slots below it are forgotten, and with base 0
-- nothing is.
use Rattle.std.specs.Prelude.{ℕ, nat_le, if◌then◌else◌, List, filter, filter_map, Option, None, Some, option_map}
use Rattle.std.specs.FinMap.{retain_keys}
use Rattle.ballot.specs.Slots.{Slots}
use Rattle.ballot.specs.declared.pvalue.Pvalue.{Pvalue}
use Rattle.ballot.specs.declared.letter.Letter.{Letter}
use Rattle.ballot.specs.declared.letter.LetterBody.{LetterBody}
use Rattle.ballot.specs.declared.letter.LetterBody.TheVariants.{P1a, P1b, P2a, P2b, Propose, Decision, Ask}

-- a map by slot, with the slots from the base on
abbrev pub kept_from : {X : Type 0} → ℕ → Slots X → Slots X
kept_from base m = retain_keys m (λ s. nat_le base s)

-- those of the pvalues whose slots are kept, in their order
abbrev pub pvalues_from : {C : Type 0} → ℕ → List (Pvalue C) → List (Pvalue C)
pvalues_from base ps = filter (λ p. nat_le base p.slot) ps

-- what is said of one slot, where that slot is kept
abbrev pub if_from : {X : Type 0} → ℕ → ℕ → X → Option X
if_from base s x = if nat_le base s then Some x else None

-- what is left of what a letter says; None, where it speaks of a forgotten slot alone
abbrev pub rest_of_body : {C : Type 0} → ℕ → LetterBody C → Option (LetterBody C)
rest_of_body base (P1a b) = Some (P1a b)
rest_of_body base (P1b b report) = Some (P1b b (pvalues_from base report))
rest_of_body base (P2a p) = if_from base p.slot (P2a p)
rest_of_body base (P2b o s b) = if_from base s (P2b o s b)
rest_of_body base (Propose s c) = if_from base s (Propose s c)
rest_of_body base (Decision s c) = if_from base s (Decision s c)
rest_of_body base (Ask s) = Some (Ask s)

-- the letter with what is left of what it says, from the same sender to the same receiver
abbrev pub rest_of_letter : {C : Type 0} → ℕ → Letter C → Option (Letter C)
rest_of_letter base l = option_map (λ b. record l { body = b }) (rest_of_body base l.body)

-- what is left of letters, in their order
abbrev pub rests : {C : Type 0} → ℕ → List (Letter C) → List (Letter C)
rests base letters = filter_map (rest_of_letter base) letters
