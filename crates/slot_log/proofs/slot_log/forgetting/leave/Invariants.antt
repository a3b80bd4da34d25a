use Rattle.std.proofs.Common.{◌≡◌}
use Rattle.object.specs.declared.command.Key.{Key}
use Rattle.object.specs.KeyMaps.{at_key}
use Rattle.slot_log.specs.Places.{place_from}
use Rattle.slot_log.proofs.slot_log.forgetting.leave.Given as goal

-- only places below the base were taken away
abbrev pub invariant-loop-number : goal.invariant-loop-number
invariant-loop-number g l = record {
  alike : (q : Key) → place_from l.base (at_key l.places.by_key q) ≡ place_from l.base (at_key l.fn.places.by_key q);
  others : l.places.others.items ≡ l.fn.places.others.items;
}
