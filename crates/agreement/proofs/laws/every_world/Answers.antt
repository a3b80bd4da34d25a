use Rattle.std.proofs.Common.{refl}
use Rattle.agreement.proofs.every.Events.{has_node, boots, order_now, later_step}
use Rattle.agreement.proofs.every.Every.{opens, goes_on, may_receive, within_reach, is_decided, agrees, chosen_for_good}
use Rattle.agreement.proofs.every.Every.{has_one_command, keeps_what_is_chosen, decides_what_is_chosen, submitted_once}
use Rattle.agreement.proofs.every.Every.{in_time, is_given, knows_chosen, counts}
use Rattle.agreement.proofs.answered.Told.{answered_now}
use Rattle.agreement.proofs.answered.Placing.{placed_next, one_place_each}
use Rattle.agreement.proofs.answered.SoFar.{reached_legal, answered_submitted}
use Rattle.agreement.proofs.laws.every_world.Goals as goal

pub returns-clause-opening : goal.returns-clause-opening
returns-clause-opening g c = opens c.ballot_laws.ensures g.O.Object.rules

pub returns-clause-next : goal.returns-clause-next
returns-clause-next g c = goes_on c.ballot_laws.ensures g.O.Object.rules

pub returns-clause-nodes : goal.returns-clause-nodes
returns-clause-nodes g c = λ w i n member. has_node c.ballot_laws.ensures g.O.Object.rules w w refl i n member

pub returns-clause-boots : goal.returns-clause-boots
returns-clause-boots g c = λ w i n room. boots c.ballot_laws.ensures g.O.Object.rules w w refl i n room

pub returns-clause-letters : goal.returns-clause-letters
returns-clause-letters g c = may_receive c.ballot_laws.ensures g.O.Object.rules

pub returns-clause-reach : goal.returns-clause-reach
returns-clause-reach g c = within_reach c.ballot_laws.ensures g.O.Object.rules

pub returns-clause-decided : goal.returns-clause-decided
returns-clause-decided g c = is_decided c.ballot_laws.ensures g.O.Object.rules

pub returns-clause-chooses_one : goal.returns-clause-chooses_one
returns-clause-chooses_one g c = agrees c.ballot_laws.ensures g.O.Object.rules

pub returns-clause-stays : goal.returns-clause-stays
returns-clause-stays g c = chosen_for_good c.ballot_laws.ensures g.O.Object.rules

pub returns-clause-one_order : goal.returns-clause-one_order
returns-clause-one_order g c = λ w i.
    order_now c.ballot_laws.ensures g.O.Object.rules g.O.Object.waits
    (record {
      idle = g.met.O.Object.idle;
      waited = g.met.O.Object.waited;
      named = g.met.O.Object.named;
      over =
          g.met.O.Object.over;
      once = g.met.O.Object.once;
    })
    w w refl i

pub returns-clause-answered : goal.returns-clause-answered
returns-clause-answered g c = λ w i. answered_now c.ballot_laws.ensures g.O.Object.rules w w refl i

pub returns-clause-later : goal.returns-clause-later
returns-clause-later g c = λ w v e i s. later_step c.ballot_laws.ensures g.O.Object.rules w w refl i e v s

pub returns-clause-one_command : goal.returns-clause-one_command
returns-clause-one_command g c = has_one_command c.ballot_laws.ensures g.O.Object.rules

pub returns-clause-keeps_chosen : goal.returns-clause-keeps_chosen
returns-clause-keeps_chosen g c = keeps_what_is_chosen c.ballot_laws.ensures g.O.Object.rules

pub returns-clause-decides_chosen : goal.returns-clause-decides_chosen
returns-clause-decides_chosen g c = decides_what_is_chosen c.ballot_laws.ensures g.O.Object.rules

pub returns-clause-once : goal.returns-clause-once
returns-clause-once g c = submitted_once g.O.Object.rules

pub returns-clause-timeline : goal.returns-clause-timeline
returns-clause-timeline g c = in_time g.O.Object.rules

pub returns-clause-given : goal.returns-clause-given
returns-clause-given g c = is_given c.ballot_laws.ensures g.O.Object.rules

pub returns-clause-placed : goal.returns-clause-placed
returns-clause-placed g c = placed_next c.ballot_laws.ensures g.O.Object.rules

pub returns-clause-placed_once : goal.returns-clause-placed_once
returns-clause-placed_once g c = λ w i keys placed. one_place_each w keys placed

pub returns-clause-legal_so_far : goal.returns-clause-legal_so_far
returns-clause-legal_so_far g c = λ w i.
    reached_legal c.ballot_laws.ensures g.O.Object.rules g.O.Object.waits
    (record {
      idle = g.met.O.Object.idle;
      waited = g.met.O.Object.waited;
      named = g.met.O.Object.named;
      over =
          g.met.O.Object.over;
      once = g.met.O.Object.once;
    })
    w i.reachable

pub returns-clause-chosen_known : goal.returns-clause-chosen_known
returns-clause-chosen_known g c = knows_chosen c.ballot_laws.ensures g.O.Object.rules

pub returns-clause-answered_known : goal.returns-clause-answered_known
returns-clause-answered_known g c = λ w i.
    answered_submitted c.ballot_laws.ensures g.O.Object.rules g.O.Object.waits
    (record {
      idle = g.met.O.Object.idle;
      waited = g.met.O.Object.waited;
      named = g.met.O.Object.named;
      over =
          g.met.O.Object.over;
      once = g.met.O.Object.once;
    })
    w i.reachable

pub returns-clause-counted : goal.returns-clause-counted
returns-clause-counted g c = λ w v e i s. counts c.ballot_laws.ensures g.O.Object.rules w v e s
