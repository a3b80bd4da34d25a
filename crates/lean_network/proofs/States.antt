-- Nodes that can forget, and their states.
use Rattle.std.proofs.Common.{false, subst, ◌≡◌, ◌≢◌, ℕ, zero, suc, ◌-◌, ◌≤◌, List, [], ◌∷◌, map, length, refl, sym, ap, ◌∙◌, arith, true}
use Rattle.std.specs.Prelude.{slice_index_or, slice_set}
use Rattle.std.proofs.lemmas.List.{map-set, get_or-set_same, get_or-set_other, get_or_default}
use Rattle.std.proofs.lemmas.Bool.Decides.{nat_tests}
use Rattle.std.proofs.lemmas.Simd.{map-map}
use Rattle.std.proofs.Math.ListN.{get_or-map}
use Rattle.object.specs.declared.command.Command.{Command}
use Rattle.object.specs.Objects.{Rules}
use Rattle.ballot.specs.Members.{is_member, numbers}
use Rattle.ballot.specs.declared.letter.Letter.{Letter}
use Rattle.ballot.specs.declared.letter.LetterBody.{LetterBody}
use Rattle.node.specs.Nodes.{NodeState, node_in, put}
use Rattle.node.specs.Holding.{Holding}
use Rattle.node.specs.Rests.{rest_of_node}
use Rattle.node.specs.Receiving.{ShowsReceived}
use Rattle.network.specs.Networks.{new_network, node_of, posted, turned_net, IsDelivered}
use Rattle.network.proofs.Sent.{member_bounds}
use Rattle.lean_network.specs.LeanNetworks.{LeanState, states, new_holding, new_lean, lean_node_in, lean_node_of, object_of, put_lean}
use Rattle.lean_network.specs.LeanNetworks.{turned_lean, lean_without_front, rest_of_holding, forgotten_lean, IsLeanDelivered}

-- the state of a node
abbrev pub state_of : {Op O : Type 0} → Holding Op O → NodeState (Command Op)
state_of h = h.state

module _ {Op O : Type 0} where
  state_put : (nodes : List (Holding Op O)) (n : ℕ) (h : Holding Op O) → map state_of (put_lean nodes n h) ≡ put (map state_of nodes) n h.state
  state_put nodes zero h = refl
  state_put nodes (suc i) h = map-set (state_of {Op = Op} {O = O}) nodes i h

  pub states_turned : (k : LeanState Op O) (n : ℕ) (h : Holding Op O) (out : List (Letter (Command Op)))
      → states (turned_lean k n h out) ≡ turned_net (states k) n h.state out
  states_turned k n h out = λ i. record { members = k.members; nodes = state_put k.nodes n h i; mails = posted out k.mails }

  pub map_forgotten : (base : ℕ) (nodes : List (Holding Op O)) → map state_of (map (rest_of_holding base) nodes) ≡ map (rest_of_node base) (map state_of nodes)
  map_forgotten base nodes =
      map-map (state_of {Op = Op} {O = O}) (rest_of_holding base) nodes
      ∙ sym (map-map (rest_of_node base) (state_of {Op = Op} {O = O}) nodes)

  pub states_forgotten : (base : ℕ) (k : LeanState Op O)
      → states (forgotten_lean base k) ≡ record (states k) { nodes = map (rest_of_node base) (states k).nodes }
  states_forgotten base k = λ i. record { members = k.members; nodes = map_forgotten base k.nodes i; mails = k.mails }

  -- what is put at the place of a node
  pub put_lean_at : (nodes : List (Holding Op O)) (n : ℕ) (h : Holding Op O) → 1 ≤ n → slice_set nodes (n - 1) h ≡ put_lean nodes n h
  put_lean_at nodes zero h low = absurd (omega (arith, low))
  put_lean_at nodes (suc i) h low = let here : suc i - 1 ≡ i = omega arith in ap (λ j. slice_set nodes j h) here

no_member : (members : List ℕ) (i : ℕ) → is_member members (suc i) ≡ false → length members ≤ i
no_member members i member = grind (arith, nat_tests)

module _ {O Op Reply : Type 0} (rules : Rules O Op Reply) where
  -- node n's state is node n of the states
  pub state_in : (members : List ℕ) (nodes : List (Holding Op O)) (n : ℕ) → node_in members (map state_of nodes) n ≡ (lean_node_in rules members nodes n).state
  state_in members nodes zero = refl
  state_in members nodes (suc i) = get_or-map (state_of {Op = Op} {O = O}) nodes i (new_holding rules members (suc i))

  pub state_at : (k : LeanState Op O) (n : ℕ) → node_of (states k) n ≡ (lean_node_of rules k n).state
  state_at k n = state_in k.members k.nodes n

  pub states_opened : (members : List ℕ) → states (new_lean rules members) ≡ new_network members
  states_opened members = λ i. record {
    members = members;
    nodes = map-map (state_of {Op = Op} {O = O}) (new_holding rules members) (numbers members) i;
    mails = map (λ _. []) (numbers members);
  }

  lean_put_same : (members : List ℕ) (nodes : List (Holding Op O)) (n : ℕ) (h : Holding Op O) → 1 ≤ n → n ≤ length nodes
      → lean_node_in rules members (put_lean nodes n h) n ≡ h
  lean_put_same members nodes zero h low high = absurd (omega (arith, low))
  lean_put_same members nodes (suc i) h low high = get_or-set_same nodes i h (new_holding rules members (suc i)) (omega (arith, high))

  lean_put_other : (members : List ℕ) (nodes : List (Holding Op O)) (n : ℕ) (h : Holding Op O) (m : ℕ) → m ≢ n
      → lean_node_in rules members (put_lean nodes n h) m ≡ lean_node_in rules members nodes m
  lean_put_other members nodes zero h m apart = refl
  lean_put_other members nodes (suc i) h zero apart = refl
  lean_put_other members nodes (suc i) h (suc j) apart =
      get_or-set_other nodes i j h (new_holding rules members (suc j)) (λ e. apart (ap suc e))

  -- a node that turns takes the object with it, and no other does
  pub own_object : (k : LeanState Op O) (n : ℕ) (h : Holding Op O) (out : List (Letter (Command Op)))
      → length k.nodes ≡ length k.members → is_member k.members n ≡ true → object_of rules (turned_lean k n h out) n ≡ h.object
  own_object k n h out all member =
      let bounds = member_bounds k.members n member in
      ap (λ z. z.object) (lean_put_same k.members k.nodes n h bounds.0 (omega (arith, bounds.1, all)))

  pub other_object : (k : LeanState Op O) (n m : ℕ) (h : Holding Op O) (out : List (Letter (Command Op))) → m ≢ n
      → object_of rules (turned_lean k n h out) m ≡ object_of rules k m
  other_object k n m h out apart = ap (λ z. z.object) (lean_put_other k.members k.nodes n h m apart)

  no_place : (nodes : List (Holding Op O)) (i : ℕ) (h d : Holding Op O) → length nodes ≤ i
      → slice_index_or (slice_set nodes i h) i d ≡ slice_index_or nodes i d
  no_place [] i h d high = refl
  no_place (x ∷ xs) zero h d high = absurd (omega (arith, high))
  no_place (x ∷ xs) (suc i) h d high = no_place xs i h d (omega (arith, high))

  not_put : (members : List ℕ) (nodes : List (Holding Op O)) (n : ℕ) (h : Holding Op O) → length nodes ≡ length members
      → is_member members n ≡ false → lean_node_in rules members (put_lean nodes n h) n ≡ lean_node_in rules members nodes n
  not_put members nodes zero h all member = refl
  not_put members nodes (suc i) h all member =
      no_place nodes i h (new_holding rules members (suc i)) (let high = no_member members i member in omega (arith, high, all))

  -- nor does it where there is no such node
  pub stranger_object : (k : LeanState Op O) (n : ℕ) (h : Holding Op O) (out : List (Letter (Command Op)))
      → length k.nodes ≡ length k.members → is_member k.members n ≡ false
      → object_of rules (turned_lean k n h out) n ≡ object_of rules k n
  stranger_object k n h out all member = ap (λ z. z.object) (not_put k.members k.nodes n h all member)

  -- a node that keeps its object
  same_put : (nodes : List (Holding Op O)) (i j : ℕ) (h d e : Holding Op O) → h.object ≡ (slice_index_or nodes i d).object
      → (slice_index_or (slice_set nodes i h) j e).object ≡ (slice_index_or nodes j e).object
  same_put [] i j h d e same = refl
  same_put (x ∷ xs) zero zero h d e same = same
  same_put (x ∷ xs) zero (suc j) h d e same = refl
  same_put (x ∷ xs) (suc i) zero h d e same = refl
  same_put (x ∷ xs) (suc i) (suc j) h d e same = same_put xs i j h d e same

  same_in : (members : List ℕ) (nodes : List (Holding Op O)) (n m : ℕ) (x : NodeState (Command Op))
      → (lean_node_in rules members (put_lean nodes n (record (lean_node_in rules members nodes n) { state = x })) m).object
      ≡ (lean_node_in rules members nodes m).object
  same_in members nodes zero m x = refl
  same_in members nodes (suc i) zero x = refl
  same_in members nodes (suc i) (suc j) x = same_put nodes i j
      (record (slice_index_or nodes i (new_holding rules members (suc i))) { state = x })
      (new_holding rules members (suc i)) (new_holding rules members (suc j)) refl

  -- what is received changes no object
  pub delivered_object : (k z : LeanState Op O) (n m : ℕ) (l : Letter (Command Op)) (left : LetterBody (Command Op))
      → IsLeanDelivered rules k n l left z → object_of rules z m ≡ object_of rules k m
  delivered_object k z n m l left r = ap (λ w. object_of rules w m) r.2 ∙ same_in k.members k.nodes n m r.0

  -- and as far as slots and letters go, it is received there
  pub delivered_states : (k z : LeanState Op O) (n : ℕ) (l : Letter (Command Op)) (left : LetterBody (Command Op))
      → IsLeanDelivered rules k n l left z → IsDelivered (states k) n (record l { body = left }) (states z)
  delivered_states k z n l left r = (
    r.0,
    r.1,
    ap states r.2 ∙ states_turned (lean_without_front k n) n (record (lean_node_of rules k n) { state = r.0 }) r.1,
    subst (λ w. ShowsReceived l.«from» w left r.0 [] r.1) (sym (state_at k n)) r.3,
  )

  -- what is forgotten changes no object
  kept_in : (base : ℕ) (nodes : List (Holding Op O)) (i : ℕ) (d : Holding Op O)
      → (slice_index_or (map (rest_of_holding base) nodes) i d).object ≡ (slice_index_or nodes i d).object
  kept_in base [] i d = refl
  kept_in base (x ∷ xs) zero d = refl
  kept_in base (x ∷ xs) (suc i) d = kept_in base xs i d

  kept_at : (base : ℕ) (members : List ℕ) (nodes : List (Holding Op O)) (n : ℕ)
      → (lean_node_in rules members (map (rest_of_holding base) nodes) n).object ≡ (lean_node_in rules members nodes n).object
  kept_at base members nodes zero = refl
  kept_at base members nodes (suc i) = kept_in base nodes i (new_holding rules members (suc i))

  pub kept_object : (base : ℕ) (k : LeanState Op O) (n : ℕ) → object_of rules (forgotten_lean base k) n ≡ object_of rules k n
  kept_object base k n = kept_at base k.members k.nodes n

  -- what is read at the place of a node
  pub lean_node_at : (members : List ℕ) (nodes : List (Holding Op O)) (n : ℕ) (y : Holding Op O) → 1 ≤ n → n ≤ length nodes
      → y ≡ slice_index_or nodes (n - 1) y → y ≡ lean_node_in rules members nodes n
  lean_node_at members nodes zero y low high e = absurd (omega (arith, low))
  lean_node_at members nodes (suc i) y low high e =
      let here : suc i - 1 ≡ i = omega arith in
      e ∙ ap (λ j. slice_index_or nodes j y) here ∙ get_or_default nodes i y (new_holding rules members (suc i)) (omega (arith, high))
