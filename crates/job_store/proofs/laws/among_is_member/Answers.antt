use Rattle.job_store.proofs.least.Least.{among-member}
use Rattle.job_store.proofs.laws.among_is_member.Goals as goal

pub returns : goal.returns
returns c = among-member
