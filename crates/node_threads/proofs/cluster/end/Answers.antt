use Rattle.std.proofs.Common.{rules, subst, sym, ◌∙◌}
use Rattle.counted_hall.specs.Accounts.{AreItsTickets, all_tickets}
use Rattle.node_threads.proofs.cluster.end.Goals.{then-are_its_tickets, else-are_its_tickets}
use Rattle.node_threads.proofs.cluster.end.Goals as goal

pub returns-clause-accounted : goal.returns-clause-accounted
returns-clause-accounted g c = record {
  opened = search rules;
  handed_in = search rules;
  agree = λ other. elim c.if-are_its_tickets.branch [
    | then-are_its_tickets w ↦ subst
        (λ l. AreItsTickets c.into_hall-hall.result.0 (all_tickets l)) c.as_slice.ensures.value
        (c.are_its_tickets.ensures.0 w.if-are_its_tickets.true)
    | else-are_its_tickets w ↦ absurd (other w.fault-is)
  ];
  disagree = λ bad are. elim c.if-are_its_tickets.branch [
    | then-are_its_tickets w ↦ absurd (c.requires.fault (sym w.fault-is ∙ bad))
    | else-are_its_tickets w ↦
        let tested = c.are_its_tickets.ensures.1 (subst (λ l. AreItsTickets c.into_hall-hall.result.0 (all_tickets l)) (sym c.as_slice.ensures.value) are) in
        let failed = w.if-are_its_tickets.false in
        absurd (cc)
  ];
}
