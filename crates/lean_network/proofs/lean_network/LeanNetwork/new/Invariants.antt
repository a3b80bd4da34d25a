use Rattle.std.proofs.Common.{◌≡◌, [], map}
use Rattle.std.specs.List.{range_with_len}
use Rattle.lean_network.specs.LeanNetworks.{new_holding}
use Rattle.lean_network.proofs.lean_network.LeanNetwork.new.Given as goal

abbrev pub invariant-loop-before : goal.invariant-loop-before
invariant-loop-before g l = record {
  nodes : l.nodes.items ≡ map (new_holding g.O.Object.rules l.fn.members) (range_with_len 1 l.before);
  mails : l.mails.items ≡ map (λ _. []) (range_with_len 1 l.before);
}
