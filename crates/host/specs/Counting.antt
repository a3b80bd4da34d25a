-- How many events there are at a host: each of its calls that is a step is one, but that forgetting is none, and that a
-- snapshot stands for two for each slot.
use Rattle.std.specs.Prelude.{ℕ, ◌^◌, if◌then◌else◌}
use Rattle.object.specs.OnceOnly.{Filtered}
use Rattle.node.specs.declared.deed.Deed.{Deed}
use Rattle.host.specs.Deeds.{is_let_through}
use Rattle.host.specs.declared.receipt.Receipt.{Receipt}
use Rattle.host.specs.declared.receipt.Receipt.TheVariants as receipts

-- how many one host may have, so that those of seven are few enough
abbrev pub most_host_events : ℕ
most_host_events = 2 ^ 45

-- a deed is one, but not where it asks for a command that the filter knows
abbrev pub deed_events : {Op O : Type 0} → Filtered O → Deed Op → ℕ
deed_events f d = if is_let_through f d then 1 else 0

-- an envelope that came is one where what was left of it was received
abbrev pub receipt_events : Receipt → ℕ
receipt_events receipts.Astray = 0
receipt_events receipts.Illegible = 0
receipt_events receipts.Forgotten = 0
receipt_events receipts.Unfit = 0
receipt_events receipts.Aside = 0
receipt_events receipts.Received = 1
