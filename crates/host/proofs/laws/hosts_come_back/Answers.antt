use Rattle.host.proofs.Returning.{handing_on, taking_over, rewriting, coming_back}
use Rattle.host.proofs.Rewriting.{left_anew, good_from}
use Rattle.host.proofs.Storing.{good_record}
use Rattle.host.proofs.laws.hosts_come_back.Goals as goal

pub returns-clause-hands_on : goal.returns-clause-hands_on
returns-clause-hands_on g c = λ owner h n k is. handing_on g.O.Object.rules owner n k h is

pub returns-clause-catches_up : goal.returns-clause-catches_up
returns-clause-catches_up g c = λ owner h n slot object k is of may.
    taking_over g.O.Object.rules owner n k h slot object is of may

pub returns-clause-rewrites : goal.returns-clause-rewrites
returns-clause-rewrites g c = λ owner h n base anew k is low high is_anew.
    rewriting g.O.Object.rules owner n k h base anew is low high is_anew

pub returns-clause-anew : goal.returns-clause-anew
returns-clause-anew g c = λ d base low. left_anew c.ballot_laws.ensures d base low

pub returns-clause-left : goal.returns-clause-left
returns-clause-left g c = λ d e base ps is low. good_from base d e ps low is

pub returns-clause-good : goal.returns-clause-good
returns-clause-good g c = λ d e f p is more. good_record c.ballot_laws.ensures d e f is p.letter.body more

pub returns-clause-comes_back : goal.returns-clause-comes_back
returns-clause-comes_back g c = λ owner members h n count slot events anew object k are is waits good of low most.
    coming_back c.ballot_laws.ensures g.O.Object.rules owner members n slot h count events anew object k are is waits
    good of low most
