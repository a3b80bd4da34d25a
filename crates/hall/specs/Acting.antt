-- What is so of a call by which a node does something by itself.
use Rattle.std.specs.Prelude.{◌≡◌, ℕ, None, Result, Ok, Err, IsOk, OnOk}
use Rattle.object.specs.Objects.{Rules}
use Rattle.node.specs.Deeds.{ComesToNothing}
use Rattle.node.specs.declared.deed.Deed.{Deed}
use Rattle.network.specs.Networks.{node_of}
use Rattle.agreement.specs.Events.{event_of}
use Rattle.hall.specs.declared.error.HallError.{HallError}
use Rattle.hall.specs.Explained.{IsBegun}
use Rattle.hall.specs.Halls.{HallState, with_nodes}
use Rattle.hall.specs.Recorded.{done}
use Rattle.hall.specs.Refusals.{event_refusal, Refuses}
use Rattle.hall.specs.Shows.{Follows}

-- what a call came to, its value aside
abbrev pub came_to : {R E : Type 0} → Result R E → Result Unit E
came_to (Ok x) = Ok tt
came_to (Err e) = Err e

-- At Ok node n has done this, which is the event of that name; what happened before stays, and so does the book. Else the
-- call was refused, for the first reason that stands, and nothing changed.
pub record Acts {O Op Reply : Type 0} (rules : Rules O Op Reply) (n : ℕ) (deed : Deed Op) (old new : HallState Op Reply)
    (result : Result Unit HallError) : Type 0 where
  pub ok : OnOk result (new ≡ with_nodes old (done rules old.nodes n deed))
  pub event : OnOk result (Follows rules old.nodes (event_of n deed) new.nodes)
  pub begun : IsBegun old.nodes.past new.nodes.past
  pub book : new.book ≡ old.book
  pub refused : Refuses (event_refusal old n) result old new
  -- where there is nothing to do, memory is not refused
  pub idle : event_refusal old n ≡ None → ComesToNothing rules (node_of old.nodes.network n) deed → IsOk result
