use Rattle.std.proofs.Common.{◌≡◌}
use Rattle.lean_network.specs.LeanNetworks.{rest_of_holding}
use Rattle.lean_network.proofs.Forgetting.{begun}
use Rattle.lean_network.proofs.lean_network.forget_each.Given as goal

-- the nodes before this place have forgotten
abbrev pub invariant-loop-place : goal.invariant-loop-place
invariant-loop-place g l = l.nodes.items ≡ begun (rest_of_holding l.base) l.place l.fn.nodes.items
