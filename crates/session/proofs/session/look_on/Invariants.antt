-- The faults before `at` are written, and the session stands there.
use Rattle.std.proofs.Common.{◌≡◌, ◌≤◌, ◌+◌, ◌-◌, ◌*◌, length, take, drop, vec_len}
use Rattle.session.specs.Held.{MayKeep, holding}
use Rattle.session.proofs.Standing.{Looks, rank}
use Rattle.session.proofs.session.look_on.Given as goal

abbrev pub invariant-items : goal.invariant-items
invariant-items l = record {
  within : l.at ≤ length l.bytes;
  front : take (vec_len l.fn.text) l.text.items ≡ l.fn.text.items;
  longer : vec_len l.fn.text ≤ length l.text.items;
  keeps : MayKeep l.fn.profile l.next (drop l.at l.bytes);
  looks : Looks l.fn.profile (holding l.fn.profile l.fn.want (drop l.fn.start l.bytes) l.fn.text.items)
      (holding l.fn.profile l.next (drop l.at l.bytes) l.text.items);
}

abbrev pub decreases-items : goal.decreases-items
decreases-items l = 2 * (length l.bytes - l.at) + rank l.next
