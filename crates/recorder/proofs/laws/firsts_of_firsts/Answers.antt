use Rattle.object.specs.Answers.{answered_key}
use Rattle.recorder.proofs.Cuts.{cuts_before, firsts_once, firsts_all}
use Rattle.recorder.proofs.laws.firsts_of_firsts.Goals as goal

pub returns-clause-cut : goal.returns-clause-cut
returns-clause-cut g c = cuts_before answered_key

pub returns-clause-once : goal.returns-clause-once
returns-clause-once g c = firsts_once answered_key

pub returns-clause-all : goal.returns-clause-all
returns-clause-all g c = firsts_all answered_key
