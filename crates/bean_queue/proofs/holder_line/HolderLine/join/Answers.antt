use Rattle.bean_queue.specs.HolderLines.{rank_cmp}
use Rattle.session_store.proofs.TubeSets.{stays}
use Rattle.bean_queue.proofs.due.Lines.{stands-ranked}
use Rattle.bean_queue.proofs.holder_line.HolderLine.join.Goals as goal

pub returns-clause-grown : goal.returns-clause-grown
returns-clause-grown c = λ p. stays rank_cmp (c.in-Some-wait.wait.rank, c.args.number) p _ _ (c.in_ok-insert.ensures.updates.0 p)

pub returns-clause-stands : goal.returns-clause-stands
returns-clause-stands c =
    stands-ranked (record { places = c.insert.new.self }) c.args.number _ c.in-Some.session.now c.in-Some-wait.wait c.in-Some.ensures.value
    c.in-Some-wait.is c.in_ok-insert.ensures.updates.1
