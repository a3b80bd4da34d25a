-- Which event a deed of a node is, at which node an event is, and which letter it names.
use Rattle.std.specs.Prelude.{ℕ, Bool, true, nat_lt, List}
use Rattle.ballot.specs.Members.{is_member}
use Rattle.node.specs.declared.deed.Deed.{Deed}
use Rattle.node.specs.declared.deed.Deed.TheVariants as deeds
use Rattle.agreement.specs.declared.event.Event.{Event}
use Rattle.agreement.specs.declared.event.Event.TheVariants.{Submit, Deliver, Wake, Nudge, Propose, Perform, Restart}

-- the event that node n does this
abbrev pub event_of : {Op : Type 0} → ℕ → Deed Op → Event Op
event_of n (deeds.Request c) = Submit n c
event_of n deeds.Wake = Wake n
event_of n deeds.Nudge = Nudge n
event_of n deeds.Propose = Propose n
event_of n deeds.Perform = Perform n
event_of n deeds.Restart = Restart n

-- the node that the event is at is a member
abbrev pub is_at_member : {Op : Type 0} → List ℕ → Event Op → Bool
is_at_member members (Submit n c) = is_member members n
is_at_member members (Deliver i) = true
is_at_member members (Wake n) = is_member members n
is_at_member members (Nudge n) = is_member members n
is_at_member members (Propose n) = is_member members n
is_at_member members (Perform n) = is_member members n
is_at_member members (Restart n) = is_member members n

-- the letter that it names was sent; so many were
abbrev pub is_sent : {Op : Type 0} → ℕ → Event Op → Bool
is_sent count (Submit n c) = true
is_sent count (Deliver i) = nat_lt i count
is_sent count (Wake n) = true
is_sent count (Nudge n) = true
is_sent count (Propose n) = true
is_sent count (Perform n) = true
is_sent count (Restart n) = true
