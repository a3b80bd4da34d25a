use Rattle.bean_codec.proofs.Profiles.{both_say, request_stays}
use Rattle.bean_codec.proofs.laws.plain_is_extended.Goals as goal

pub returns-clause-line : goal.returns-clause-line
returns-clause-line c = both_say

pub returns-clause-request : goal.returns-clause-request
returns-clause-request c = request_stays
