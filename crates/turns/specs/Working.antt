-- What the nodes of a hall have to do.
use Rattle.std.specs.Prelude.{ℕ, false, not, ◌&&◌, is_some}
use Rattle.slot_log.specs.Decisions.{next_decided}
use Rattle.slot_log.specs.Proposals.{next_proposal}
use Rattle.network.specs.Networks.{node_of, has_mail}
use Rattle.hall.specs.declared.work.Work.{Work}
use Rattle.hall.specs.Halls.{HallState}
use Rattle.hall.specs.Refusals.{is_stranger}

-- there is nothing to do: no letter to receive, no request to propose, and no decision to perform
abbrev pub no_work : Work
no_work = record { mail = false; request = false; decision = false }

-- what node n of a hall has to do: nothing where it isn't a member
abbrev pub work_of : {Op Reply : Type 0} → HallState Op Reply → ℕ → Work
work_of h n = record {
  mail = not (is_stranger h n) && has_mail h.nodes.network n;
  request = not (is_stranger h n) && is_some (next_proposal (node_of h.nodes.network n).replica);
  decision = not (is_stranger h n) && is_some (next_decided (node_of h.nodes.network n).replica);
}
