use Rattle.std.proofs.Common.{◌≡◌, subst, ap}
use Rattle.std.specs.Prelude.{SomeIff}
use Rattle.ballot.specs.Ballots.{Numbers, IsBallot}
use Rattle.leader.proofs.Kept.{kept_new}
use Rattle.leader.proofs.leader.Leader.new.Goals as goal

pub invariant_of-result : goal.invariant_of-result
invariant_of-result g c =
    let first : Numbers = record { round = 0; node = c.args.node; boot = c.args.boot } in
    let is : c.unwrap-ballot.result ≡ first = (subst (λ o. SomeIff o (IsBallot first) first) c.unwrap-ballot.ensures c.new.ensures).1 in
    kept_new c.args.members c.args.node c.args.boot c.unwrap-ballot.result c.new-2.result c.new-3.result c.requires.member c.requires.within
    (ap (λ (b : Numbers). b.node) is) (ap (λ (b : Numbers). b.boot) is) c.new-3.ensures
