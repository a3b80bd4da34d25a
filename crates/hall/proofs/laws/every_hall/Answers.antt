use Rattle.hall.proofs.Events.{asks_follow, deed_follows, receives_follow}
use Rattle.hall.proofs.Explains.{explains}
use Rattle.hall.proofs.Known.{fit_there, able_there, answered_there, placed_there}
use Rattle.hall.proofs.Lawful.{untouched_shown, shown_next, shown_delivered, shown_still, lost_still, repeated_still, asked_begun, done_begun}
use Rattle.hall.proofs.laws.every_hall.Goals as goal

pub returns-clause-untouched : goal.returns-clause-untouched
returns-clause-untouched g c = untouched_shown g.O.Object.rules c.laws_below.ensures

pub returns-clause-asks : goal.returns-clause-asks
returns-clause-asks g c = λ k n d member own. asks_follow g.O.Object.rules c.laws_below.ensures k n member d own

pub returns-clause-acts : goal.returns-clause-acts
returns-clause-acts g c = λ k n d member room own w i s. deed_follows g.O.Object.rules c.laws_below.ensures k n member room w i s d own

pub returns-clause-receives : goal.returns-clause-receives
returns-clause-receives g c = λ k z n l member e received. receives_follow g.O.Object.rules c.laws_below.ensures k n member l e z received

pub returns-clause-loses : goal.returns-clause-loses
returns-clause-loses g c = lost_still g.O.Object.rules c.laws_below.ensures

pub returns-clause-repeats : goal.returns-clause-repeats
returns-clause-repeats g c = repeated_still g.O.Object.rules c.laws_below.ensures

pub returns-clause-next : goal.returns-clause-next
returns-clause-next g c = shown_next g.O.Object.rules c.laws_below.ensures

pub returns-clause-delivered : goal.returns-clause-delivered
returns-clause-delivered g c = shown_delivered g.O.Object.rules c.laws_below.ensures

pub returns-clause-still : goal.returns-clause-still
returns-clause-still g c = shown_still g.O.Object.rules c.laws_below.ensures

pub returns-clause-asked_on : goal.returns-clause-asked_on
returns-clause-asked_on g c = asked_begun g.O.Object.rules c.laws_below.ensures

pub returns-clause-acted_on : goal.returns-clause-acted_on
returns-clause-acted_on g c = done_begun g.O.Object.rules c.laws_below.ensures

pub returns-clause-able : goal.returns-clause-able
returns-clause-able g c = λ k n d shown member room. able_there g.O.Object.rules c.laws_below.ensures k shown.0 shown.1 shown.2 n member room d

pub returns-clause-fit : goal.returns-clause-fit
returns-clause-fit g c = λ k n l shown member e. fit_there g.O.Object.rules c.laws_below.ensures k shown.0 shown.1 shown.2 n member l e

pub returns-clause-answered : goal.returns-clause-answered
returns-clause-answered g c = λ k n d shown member room own. answered_there g.O.Object.rules c.laws_below.ensures k shown.0 shown.1 shown.2 n member room d own

pub returns-clause-placed : goal.returns-clause-placed
returns-clause-placed g c = λ k n d shown member room own. placed_there g.O.Object.rules c.laws_below.ensures k shown.0 shown.1 shown.2 n member room d own

pub returns-clause-explained : goal.returns-clause-explained
returns-clause-explained g c = λ k shown. explains g.O.Object.rules c.laws_below.ensures g.O.Object.promise c.keeps_promise.ensures k shown.0 shown.1 shown.2
