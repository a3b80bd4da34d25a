-- Ballots compared: by round, then node, then boot.
use Rattle.std.proofs.Common.{◌≡◌}
use Rattle.std.proofs.lemmas.Map.Lookups.{CmpEqualImpliesEq, exact_unsigned}
use Rattle.std.specs.Ordering.{nat_cmp, ordering_then}
use Rattle.std.specs.declared.cmp.Ordering.{Ordering}
use Rattle.object.specs.KeyLaws.{then_equal}
use Rattle.ballot.specs.Ballots.{Numbers}

abbrev pub ballot_cmp : Numbers → Numbers → Ordering
ballot_cmp a b = ordering_then (nat_cmp a.round b.round) (ordering_then (nat_cmp a.node b.node) (nat_cmp a.boot b.boot))

-- ballots that compare alike are one
pub exact_ballots : CmpEqualImpliesEq ballot_cmp
exact_ballots a b h =
    let rounds = then_equal (nat_cmp a.round b.round) (ordering_then (nat_cmp a.node b.node) (nat_cmp a.boot b.boot)) h in
    let nodes = then_equal (nat_cmp a.node b.node) (nat_cmp a.boot b.boot) rounds.1 in
    let r : a.round ≡ b.round = exact_unsigned a.round b.round rounds.0 in
    let n : a.node ≡ b.node = exact_unsigned a.node b.node nodes.0 in
    let t : a.boot ≡ b.boot = exact_unsigned a.boot b.boot nodes.1 in
    λ i. record { round = r i; node = n i; boot = t i }
