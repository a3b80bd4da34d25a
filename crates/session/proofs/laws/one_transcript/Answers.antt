use Rattle.std.specs.List.{concat}
use Rattle.session.proofs.Whole.{has_transcript, one_transcript, any_cut}
use Rattle.session.proofs.laws.one_transcript.Goals as goal

pub returns-clause-exists : goal.returns-clause-exists
returns-clause-exists c = λ profile. has_transcript profile (c.front_item.ensures profile)

pub returns-clause-any_cut : goal.returns-clause-any_cut
returns-clause-any_cut c = λ profile pieces others. any_cut profile (c.one_item.ensures profile) (concat pieces) (concat others)

pub returns-clause-unique : goal.returns-clause-unique
returns-clause-unique c = λ profile. one_transcript profile (c.one_item.ensures profile)
