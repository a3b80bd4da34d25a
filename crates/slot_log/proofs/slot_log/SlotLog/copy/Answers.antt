use Rattle.std.proofs.Common.{◌≡◌, ◌+◌, ◌≤◌, refl, sym, ap, ◌∙◌, arith}
use Rattle.std.specs.FinMap.{len}
use Rattle.std.specs.VecDeque.{deque_len, deque_capacity}
use Rattle.ballot.specs.Slots.{Slots}
use Rattle.slot_log.proofs.Copying.{copy_kept}
use Rattle.slot_log.proofs.slot_log.SlotLog.copy.Goals as goal

pub invariant_of-result : goal.invariant_of-result
invariant_of-result g c =
    let all : len c.in_ok-copy.field-0 ≡ c.len.result = ap (λ (m : Slots g.row.C.Denot). len m) c.in_ok-copy.ensures ∙ sym c.len.ensures.len in
    let room : deque_len c.in_ok-requests.requests + c.len.result ≤ deque_capacity c.in_ok-requests.requests = c.in_ok-requests.ensures.room in
    copy_kept g.C.PartialEq.eq g.C.Keyed.key_of g.met.C.Value.exact g.met.C.Eq.laws.refl c.self.inside _ c.self.invariant
    (λ i. record {
      slot_in = c.self.inside.slot_in;
      slot_out = c.self.inside.slot_out;
      requests = c.in_ok-requests.ensures.items i;
      proposals = c.in_ok-copy.ensures i;
      decisions = c.in_ok-copy-2.ensures i;
    }) refl c.in_ok-copy-3.ensures.places c.in_ok-copy-3.ensures.others (omega (arith, room, all))
