-- Nodes that can forget, to which nothing happened yet.
use Rattle.std.proofs.Common.{◌≡◌, ℕ, ◌≤◌, List, [], map, length, ap, ◌∙◌, arith}
use Rattle.std.specs.List.{range_with_len}
use Rattle.std.proofs.lemmas.Simd.{map-map}
use Rattle.object.specs.declared.command.Command.{Command}
use Rattle.object.specs.Objects.{Rules}
use Rattle.ballot.specs.declared.letter.Letter.{Letter}
use Rattle.node.specs.Nodes.{new_node}
use Rattle.node.specs.Holding.{Holding, new_object}
use Rattle.network.specs.Posting.{IsNetwork}
use Rattle.network.proofs.Posts.{none_posted}
use Rattle.network.proofs.Opened.{opened_whole}
use Rattle.lean_network.specs.LeanNetworks.{new_holding, new_lean}
use Rattle.lean_network.proofs.States.{state_of}
use Rattle.lean_network.proofs.Placed.{lean_seen}

module _ {O Op Reply : Type 0} (rules : Rules O Op Reply) (members : List ℕ) where
  -- a new node, with a new object
  pub is_new : (x : Holding Op O) (n : ℕ) → x.state ≡ new_node members n → x.object ≡ new_object rules → x ≡ new_holding rules members n
  is_new x n state object = λ i. record { state = state i; object = object i }

  module _ (nodes : List (Holding Op O)) (mails : List (List (Letter (Command Op)))) (fresh : List (Letter (Command Op)))
      (before count : ℕ) (all : count ≡ length members) (low : before ≤ count) (high : count ≤ before)
      (made : nodes ≡ map (new_holding rules members) (range_with_len 1 before))
      (empty : mails ≡ map (λ _. []) (range_with_len 1 before)) (none : fresh ≡ []) where
    same : before ≡ length members
    same = omega (arith, all, low, high)

    pub lean_opened_whole : IsNetwork members (map state_of nodes) mails fresh
    lean_opened_whole = opened_whole members (map state_of nodes) mails fresh before count all low high
        (ap (map state_of) made ∙ map-map (state_of {Op = Op} {O = O}) (new_holding rules members) (range_with_len 1 before)) empty none

    pub lean_opened : lean_seen members nodes mails fresh ≡ new_lean rules members
    lean_opened =
        (λ i. lean_seen members (made i) (empty i) (none i))
        ∙ (λ i. record {
          members = members;
          nodes = map (new_holding rules members) (range_with_len 1 (same i));
          mails =
              (none_posted 1 (map (λ _. []) (range_with_len 1 before)) ∙ ap (λ n. map (λ _. []) (range_with_len 1 n)) same)
              i;
        })
