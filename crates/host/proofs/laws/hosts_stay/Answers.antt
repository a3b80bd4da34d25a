use Rattle.std.proofs.Common.{refl, arith}
use Rattle.host.proofs.Steps.{handing_in, other_stays}
use Rattle.host.proofs.laws.hosts_stay.Goals as goal

pub returns-clause-opens : goal.returns-clause-opens
returns-clause-opens g c = λ members n member.
    record { member = member; number = refl; shown = refl; aside = tt; taken = omega arith }

pub returns-clause-hands_in : goal.returns-clause-hands_in
returns-clause-hands_in g c = λ owner h n d k is mine own. handing_in g.O.Object.rules n k owner h d is mine own

pub returns-clause-others : goal.returns-clause-others
returns-clause-others g c = λ h n m k j is apart changes. other_stays h n m k j is apart changes
