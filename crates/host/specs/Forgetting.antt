-- Which slots a host forgets.
use Rattle.std.specs.Prelude.{ℕ, min, nat_lt, List, [], ◌∷◌, if◌then◌else◌}
use Rattle.ballot.specs.declared.letter.LetterBody.{LetterBody}
use Rattle.ballot.specs.declared.letter.LetterBody.TheVariants.{P1a, P1b, P2a, P2b, Propose, Decision, Ask}
use Rattle.cluster.specs.Envelopes.{Envelope}
use Rattle.host.specs.Views.{HostView, forgotten_view}

-- the slot, or the one that an acceptance is asked for in, where that is lower
abbrev pub no_later_than : {C : Type 0} → ℕ → LetterBody C → ℕ
no_later_than slot (P1a b) = slot
no_later_than slot (P1b b report) = slot
no_later_than slot (P2a p) = min slot p.slot
no_later_than slot (P2b o s b) = slot
no_later_than slot (Propose s c) = slot
no_later_than slot (Decision s c) = slot
no_later_than slot (Ask s) = slot

-- the least of these
abbrev pub lowest_asked : {C : Type 0} → ℕ → List (Envelope C) → ℕ
lowest_asked slot [] = slot
lowest_asked slot (p ∷ ps) = lowest_asked (no_later_than slot p.letter.body) ps

-- the base, but none above what its replica has performed, and what is put aside speaks of no slot below it
abbrev pub base_within : {Op O : Type 0} → ℕ → HostView Op O → ℕ
base_within base h = lowest_asked (min base h.shown.holding.state.replica.slot_out) h.aside

-- so many slots it forgets, if any
abbrev pub forgets_upto : {Op O : Type 0} → ℕ → HostView Op O → HostView Op O
forgets_upto base h =
    if nat_lt h.shown.base (base_within base h) then forgotten_view (base_within base h) h else h
