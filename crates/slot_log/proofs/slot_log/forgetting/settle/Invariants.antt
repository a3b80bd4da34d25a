use Rattle.std.proofs.Common.{◌+◌}
use Rattle.ballot.specs.Rests.{kept_from}
use Rattle.slot_log.specs.Places.{stands_at}
use Rattle.slot_log.proofs.Settling.{Settles, ranks_below, proposals_below, decisions_below}
use Rattle.slot_log.proofs.slot_log.forgetting.settle.Given as goal

-- the requests before this one are settled
abbrev pub invariant-loop-index : goal.invariant-loop-index
invariant-loop-index g l =
    Settles g.C.PartialEq.eq g.C.Keyed.key_of (stands_at l.requests.items l.front_rank l.proposals l.decisions)
    (stands_at l.requests.items l.front_rank l.proposals (kept_from l.base l.decisions)) l.fn.places.others.items
    (ranks_below (l.front_rank + l.index)) l.places

-- and the proposals of the slots before this one
abbrev pub invariant-loop-number : goal.invariant-loop-number
invariant-loop-number g l =
    Settles g.C.PartialEq.eq g.C.Keyed.key_of (stands_at l.requests.items l.front_rank l.proposals l.decisions)
    (stands_at l.requests.items l.front_rank l.proposals (kept_from l.base l.decisions)) l.fn.places.others.items
    (proposals_below l.number) l.places

-- and the decisions
abbrev pub invariant-loop-number-2 : goal.invariant-loop-number-2
invariant-loop-number-2 g l =
    Settles g.C.PartialEq.eq g.C.Keyed.key_of (stands_at l.requests.items l.front_rank l.proposals l.decisions)
    (stands_at l.requests.items l.front_rank l.proposals (kept_from l.base l.decisions)) l.fn.places.others.items
    (decisions_below l.number) l.places
