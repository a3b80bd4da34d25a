-- A host takes over a snapshot as it runs.
use Rattle.std.specs.Prelude.{◌≡◌, ◌<◌, ◌≤◌, ℕ, ◌+◌, ◌*◌, ◌-◌, true, false}
use Rattle.object.specs.OnceOnly.{Filtered}
use Rattle.replica.specs.CatchingUp.{has_proposed_in_vain}
use Rattle.cluster.specs.CatchingUp.{caught_up}
use Rattle.host.specs.Forgetting.{lowest_asked}
use Rattle.host.specs.Views.{HostView}
use Rattle.host.specs.declared.catch_up.CatchUp.{CatchUp}
use Rattle.host.specs.declared.catch_up.CatchUp.TheVariants as catches

-- it goes on at this slot with this object
abbrev pub caught_up_view : {Op O : Type 0} → ℕ → Filtered O → HostView Op O → HostView Op O
caught_up_view slot object h = record h {
  shown = caught_up slot object h.shown;
  taken = h.taken + 2 * (slot - h.shown.holding.state.replica.slot_out);
}

-- it may go on at this slot with this object
pub record MayCatchUp {Op O : Type 0} (slot : ℕ) (object : Filtered O) (h : HostView Op O) : Type 0 where
  pub further : h.shown.holding.state.replica.slot_out ≤ slot
  pub waits : lowest_asked slot h.aside ≡ slot
  pub vain : has_proposed_in_vain slot object h.shown.holding.state.replica ≡ true

-- what comes of a snapshot: host h becomes z
abbrev pub TakesOver : {Op O : Type 0} → CatchUp → ℕ → Filtered O → HostView Op O → HostView Op O → Type 0
TakesOver catches.Done slot object h z = MayCatchUp slot object h × (z ≡ caught_up_view slot object h)
TakesOver catches.Behind slot object h z = (slot < h.shown.holding.state.replica.slot_out) × (z ≡ h)
TakesOver catches.Awaited slot object h z = (lowest_asked slot h.aside < slot) × (z ≡ h)
TakesOver catches.Proposed slot object h z =
    (has_proposed_in_vain slot object h.shown.holding.state.replica ≡ false) × (z ≡ h)
