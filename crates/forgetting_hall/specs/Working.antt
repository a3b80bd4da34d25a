-- What the nodes of a hall that forgets have to do.
use Rattle.std.specs.Prelude.{ℕ, not, ◌&&◌, is_some}
use Rattle.object.specs.Objects.{Rules}
use Rattle.slot_log.specs.Decisions.{next_decided}
use Rattle.slot_log.specs.Proposals.{next_proposal}
use Rattle.network.specs.Networks.{has_mail}
use Rattle.lean_network.specs.LeanNetworks.{states, lean_node_of}
use Rattle.hall.specs.declared.work.Work.{Work}
use Rattle.forgetting_hall.specs.Halls.{ForgettingState}
use Rattle.forgetting_hall.specs.Refusing.{is_foreign}

-- what node n has to do: nothing where it isn't a member
abbrev pub lean_work_of : {O Op Reply : Type 0} → Rules O Op Reply → ForgettingState Op O Reply → ℕ → Work
lean_work_of rules h n = record {
  mail = not (is_foreign h n) && has_mail (states h.network) n;
  request = not (is_foreign h n) && is_some (next_proposal (lean_node_of rules h.network n).state.replica);
  decision = not (is_foreign h n) && is_some (next_decided (lean_node_of rules h.network n).state.replica);
}
