-- What the steps of a way are asked for, and what they come to.
use Rattle.std.specs.Prelude.{◌≡◌, ℕ, ◌+◌, ◌≤◌, true, false, None, Result, MatchResult}
use Rattle.std.specs.FinMap.{get, contains_key}
use Rattle.agreement.specs.Nodes.{Cluster}
use Rattle.agreement.specs.Runs.{most_events}
use Rattle.agreement.specs.Worlds.{World}
use Rattle.world.specs.declared.error.WorldError.{WorldError}
use Rattle.world.specs.declared.error.WorldError.TheVariants.{OutOfMemory}
use Rattle.world.specs.WaysOut.{first_leader, first_book, work, most_slots, IsSmall, IsAtRest, HasMore, IsReady}

-- this is so, unless memory was refused
abbrev pub ButForMemory : Result Unit WorldError → Type 0 → Type 0
ButForMemory result P = MatchResult result (λ x. P) (λ r. r ≡ OutOfMemory)

-- there is room for what there is to ask for, and this many events more; and no slot that is mentioned is too great for that
pub record HasRoom {Op Reply : Type 0} (w : World Op Reply) (more : ℕ) : Type 0 where
  pub small : IsSmall w.cluster
  pub room : w.taken + work w.cluster + more ≤ most_events

-- The leader is at rest, and this is the slot that replica 1 performs next. Something is left for it there, and it takes this
-- many events at most.
pub record IsDueAt {Op Reply : Type 0} (w : World Op Reply) (slot cost : ℕ) : Type 0 where
  pub at_rest : IsAtRest w.cluster
  pub next : slot ≡ (first_book w.cluster).slot_out
  pub more : HasMore w.cluster slot
  pub low : slot ≤ most_slots
  pub room : HasRoom w cost

-- and replica 1 doesn't know what is decided there
pub record IsUndecided {Op Reply : Type 0} (w : World Op Reply) (slot cost : ℕ) : Type 0 where
  pub due : IsDueAt w slot cost
  pub unknown : get (first_book w.cluster).decisions slot ≡ None

-- and the leader has no proposal there
pub record IsUnproposed {Op Reply : Type 0} (w : World Op Reply) (slot cost : ℕ) : Type 0 where
  pub undecided : IsUndecided w slot cost
  pub free : contains_key (first_leader w.cluster).proposals slot ≡ false

-- between two clusters the leader came to have a proposal for the slot, and replica 1 is ready for what is decided there
pub record HasProposal {C : Type 0} (k : Cluster C) (slot : ℕ) (z : Cluster C) : Type 0 where
  pub led : contains_key (first_leader z).proposals slot ≡ true
  pub ready : IsReady k slot (first_book z)
