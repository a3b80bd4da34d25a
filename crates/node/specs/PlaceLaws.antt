-- Nodes in their places: node n is at n - 1.
use Rattle.std.proofs.Common.{◌≡◌, ◌≢◌, ℕ, zero, suc, ◌+◌, ◌-◌, ◌≤◌, List, map, length, refl, ap, ◌∙◌, arith, length-set}
use Rattle.std.specs.Prelude.{slice_index_or, slice_set}
use Rattle.std.specs.List.{range_with_len}
use Rattle.std.proofs.lemmas.List.{get_or-set_same, get_or-set_other, get_or_default}
use Rattle.node.specs.Nodes.{NodeState, new_node, node_in, put}

pub node_put_same : {C : Type 0} (members : List ℕ) (nodes : List (NodeState C)) (n : ℕ) (x : NodeState C) → 1 ≤ n
    → n ≤ length nodes → node_in members (put nodes n x) n ≡ x
node_put_same members nodes zero x h k = absurd (omega arith)
node_put_same members nodes (suc i) x h k = get_or-set_same nodes i x (new_node members (suc i)) (omega arith)

pub node_put_other : {C : Type 0} (members : List ℕ) (nodes : List (NodeState C)) (n : ℕ) (x : NodeState C) (m : ℕ)
    → m ≢ n → node_in members (put nodes n x) m ≡ node_in members nodes m
node_put_other members nodes zero x m h = refl
node_put_other members nodes (suc i) x zero h = refl
node_put_other members nodes (suc i) x (suc j) h = get_or-set_other nodes i j x (new_node members (suc j)) (λ e. h (ap suc e))

pub length-put : {C : Type 0} (nodes : List (NodeState C)) (n : ℕ) (x : NodeState C) → length (put nodes n x) ≡ length nodes
length-put nodes zero x = refl
length-put nodes (suc i) x = length-set nodes i x

-- what is read at the place of a node, and what is put there
pub node_at : {C : Type 0} (members : List ℕ) (nodes : List (NodeState C)) (n : ℕ) (y : NodeState C) → 1 ≤ n
    → n ≤ length nodes → y ≡ slice_index_or nodes (n - 1) y → y ≡ node_in members nodes n
node_at members nodes zero y h k e = absurd (omega arith)
node_at members nodes (suc i) y h k e =
    let here : suc i - 1 ≡ i = omega arith in
    e ∙ ap (λ j. slice_index_or nodes j y) here ∙ get_or_default nodes i y (new_node members (suc i)) (omega arith)

pub put_at : {C : Type 0} (nodes : List (NodeState C)) (n : ℕ) (x : NodeState C) → 1 ≤ n → slice_set nodes (n - 1) x ≡ put nodes n x
put_at nodes zero x h = absurd (omega arith)
put_at nodes (suc i) x h = let here : suc i - 1 ≡ i = omega arith in ap (λ j. slice_set nodes j x) here

-- new nodes
range_at : {X : Type 0} (f : ℕ → X) (len base i j : ℕ) → j ≡ base + i → slice_index_or (map f (range_with_len base len)) i (f j) ≡ f j
range_at f zero base i j e = refl
range_at f (suc len) base zero j e = ap f (omega (arith, e))
range_at f (suc len) base (suc i) j e = range_at f len (base + 1) i j (omega (arith, e))

pub new_in : {C : Type 0} (members : List ℕ) (len n : ℕ) → node_in {C = C} members (map (new_node members) (range_with_len 1 len)) n ≡ new_node members n
new_in members len zero = refl
new_in members len (suc i) = range_at (new_node members) len 1 i (suc i) (omega arith)
