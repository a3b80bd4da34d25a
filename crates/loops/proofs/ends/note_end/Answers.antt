use Rattle.forgetting_hall.specs.LeadingLaws.{turns_stay}
use Rattle.loops.proofs.ends.note_end.Goals as goal

pub returns-else-is_close-clause-goes_on : goal.returns-else-is_close-clause-goes_on
returns-else-is_close-clause-goes_on g c = turns_stay g.O.Object.rules c.args.hall.now
