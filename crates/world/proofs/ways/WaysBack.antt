-- What rescuing rests on: what a way that was found says.
use Rattle.std.proofs.Common.{◌≡◌, Bool, true, List, [], sym, subst, arith}
use Rattle.object.specs.Lists.{In}
use Rattle.object.specs.Objects.{Rules}
use Rattle.object.specs.declared.command.Command.{Command}
use Rattle.object.specs.declared.command.Key.{Key}
use Rattle.ballot.specs.OrderLaws.{BallotLaws}
use Rattle.slot_log.specs.Histories.{history}
use Rattle.agreement.specs.Runs.{IsWorld, Leads, at_once}
use Rattle.agreement.specs.Worlds.{World}
use Rattle.agreement.specs.declared.event.Event.{Event}
use Rattle.world.specs.Rescues.{IsInOrder, IsLast, Rescues, keeps_nodes}
use Rattle.world.specs.WaysOut.{first_book, Goes}
use Rattle.world.proofs.standing.InOrder.{in_order}
use Rattle.world.proofs.ways.Rescued.{rescued, leads_count}

-- a way that performed the session's last command rescues it
pub way_rescues : (laws : BallotLaws) {O Op Reply : Type 0} (rules : Rules O Op Reply) (same : Op → Op → Bool)
    (reflexive : (o : Op) → same o o ≡ true) (w v : World Op Reply) → IsWorld rules w → IsWorld rules v
    → (c : Command Op) → IsLast c.key w.happenings.submitted → In c (history (first_book v.cluster)) → v.happenings.submitted ≡ w.happenings.submitted
    → (events : List (Event Op)) → Goes rules keeps_nodes w [] v events → Rescues rules same w c.key events
way_rescues laws rules same reflexive w v i j c last performed submitted events goes =
    let count = leads_count laws rules w v goes.events goes.led in
    let few = j.few in
    subst (Rescues rules same w c.key) (sym goes.noted)
    (rescued laws rules same reflexive w v goes.events c.key i goes.led (omega arith) goes.each
    (in_order laws rules v j 1 c performed (subst (IsLast c.key) (sym submitted) last)))

-- an empty list that rescues says that the key stands in the order
pub at_once_in : {O Op Reply : Type 0} (rules : Rules O Op Reply) (same : Op → Op → Bool) (w : World Op Reply)
    (key : Key) (events : List (Event Op)) → Rescues rules same w key events → events ≡ [] → IsInOrder w.cluster key
at_once_in rules same w key events h none = h.ends w (subst (λ es. Leads rules w es w) (sym none) at_once)
