use Rattle.options.proofs.VersionWords.{alone, asked, first}
use Rattle.options.proofs.laws.version_alone.Goals as goal

pub returns-clause-asked : goal.returns-clause-asked
returns-clause-asked c = asked

pub returns-clause-alone : goal.returns-clause-alone
returns-clause-alone c = alone

pub returns-clause-first : goal.returns-clause-first
returns-clause-first c = first
