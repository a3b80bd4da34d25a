use Rattle.std.proofs.Common.{◌≡◌, ◌≤◌, ◌^◌, ap, subst}
use Rattle.ballot.specs.Ballots.{Numbers}
use Rattle.ballot.specs.Members.{is_member}
use Rattle.leader.proofs.Kept.{kept_new}
use Rattle.leader.proofs.leader.Leader.preempted.Goals as goal

pub invariant_of-self : goal.invariant_of-self
invariant_of-self g c =
    kept_new c.self.inside.members c.self.inside.node c.self.inside.boot c.in-Some.next c.self.inside.proposals c.new.result
    (subst (λ n. is_member c.self.inside.members n ≡ Rattle.std.proofs.Common.true) c.self.invariant.same_node c.self.invariant.leader.member)
    (subst (λ n. n ≤ 2 ^ 62) c.self.invariant.same_boot c.self.invariant.leader.within)
    (ap (λ (b : Numbers). b.node) c.in-Some.ensures.1) (ap (λ (b : Numbers). b.boot) c.in-Some.ensures.1) c.new.ensures
