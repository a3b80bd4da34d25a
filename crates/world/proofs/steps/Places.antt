-- The nodes after one has changed.
use Rattle.std.proofs.Common.{◌≡◌, ℕ, ◌-◌, ◌+◌, ◌≤◌, List, [], ◌∷◌, ◌++◌, map, length, sym, ap, ap₂, ◌∙◌, subst, arith}
use Rattle.std.specs.Prelude.{slice_index_or, slice_set}
use Rattle.std.specs.List.{range_with_len}
use Rattle.std.proofs.lemmas.List.FromFn.{map-range_with_len_more}
use Rattle.ballot.specs.declared.letter.Letter.{Letter}
use Rattle.node.specs.Nodes.{NodeState, members_of, number_of, new_node}
use Rattle.agreement.specs.Nodes.{Cluster, new_cluster, node}
use Rattle.node.specs.PlaceLaws.{node_at, put_at}
use Rattle.node.specs.Receiving.{Receives, Received}
use Rattle.agreement.specs.Showing.{HasNode}
use Rattle.world.specs.Kept.{Delivered}
use Rattle.agreement.proofs.chosen.Sets.{member_bounds}

-- a letter that was received where it was to, by the node at place p
pub delivered : {C : Type 0} (k : Cluster C) (l : Letter C) (y x : NodeState C) (p : ℕ) (letters : List (Letter C))
    → p ≡ l.to - 1 → HasNode l.to k → y ≡ slice_index_or k.nodes p y → Received l.«from» y l.body x k.letters letters
    → Delivered k l (record { members = k.members; nodes = slice_set k.nodes p x; letters = letters })
delivered {C} k l y x p letters here has at received =
    let b = member_bounds k.members l.to has.seated.member in
    let size = has.size in
    let own : y ≡ node k l.to = node_at k.members k.nodes l.to y b.0 (omega (arith, b.1)) (at ∙ ap (λ j. slice_index_or k.nodes j y) here) in
    let speaks : members_of y ≡ k.members = ap (λ z. members_of z) own ∙ has.seated.speaks in
    let numbered : number_of y ≡ l.to = ap (λ z. number_of z) own ∙ has.seated.node in (
      x,
      received.0,
      subst (λ v. Receives k.members l.«from» l.to v l.body x received.0) own
          (subst (λ ms. Receives ms l.«from» l.to y l.body x received.0) speaks
          (subst (λ n. Receives (members_of y) l.«from» n y l.body x received.0) numbered received.1)),
      λ i. record { members = k.members; nodes = (ap (λ j. slice_set k.nodes j x) here ∙ put_at k.nodes l.to x b.0) i; letters = received.2 i },
    )

-- one new node more, and all of them
pub one_node_more : {C : Type 0} (members : List ℕ) (ns now : List (NodeState C)) (x : NodeState C) (before : ℕ)
    → ns ≡ map (new_node members) (range_with_len 1 before) → x ≡ new_node members (before + 1) → now ≡ ns ++ (x ∷ [])
    → now ≡ map (new_node members) (range_with_len 1 (before + 1))
one_node_more members ns now x before all new more =
    let last : 1 + before ≡ before + 1 = omega arith in
    more ∙ ap₂ (λ l y. l ++ (y ∷ [])) all new ∙ sym (map-range_with_len_more (new_node members) 1 before (before + 1) last)

pub all_nodes : {C : Type 0} (members : List ℕ) (nodes : List (NodeState C)) (letters : List (Letter C))
    (before count : ℕ) → count ≡ length members → before ≤ count → count ≤ before
    → nodes ≡ map (new_node members) (range_with_len 1 before) → letters ≡ []
    → record { members = members; nodes = nodes; letters = letters } ≡ new_cluster members
all_nodes members nodes letters before count all low high made none =
    let same : before ≡ length members = omega arith in
    λ i. record { members = members; nodes = (made ∙ ap (λ n. map (new_node members) (range_with_len 1 n)) same) i; letters = none i }
