-- Nodes that forget, one after the other.
use Rattle.std.proofs.Common.{◌≡◌, ℕ, zero, suc, ◌+◌, ◌<◌, ◌≤◌, true, List, [], ◌∷◌, map, length, refl, sym, ap, ◌∙◌, subst, arith}
use Rattle.std.specs.Prelude.{slice_index_or, slice_set}
use Rattle.std.proofs.lemmas.Bool.Decides.{nat_tests}
use Rattle.std.proofs.lemmas.List.{get_or-map, get_or_default, length-map}
use Rattle.object.specs.declared.command.Command.{Command}
use Rattle.object.specs.Objects.{Rules}
use Rattle.ballot.specs.Members.{is_member}
use Rattle.ballot.specs.declared.letter.Letter.{Letter}
use Rattle.node.specs.Nodes.{NodeState, IsSeated, new_node, node_in}
use Rattle.node.specs.Holding.{Holding}
use Rattle.node.specs.Rests.{rest_of_node}
use Rattle.network.specs.Posting.{IsNetwork}
use Rattle.network.proofs.Sent.{member_bounds}
use Rattle.lean_network.specs.LeanNetworks.{LeanState, new_holding, lean_node_of, rest_of_holding}
use Rattle.lean_network.proofs.States.{state_of, map_forgotten}
use Rattle.lean_network.proofs.Placed.{lean_seen}

-- the first i of them are changed
abbrev pub begun : {X : Type 0} → (X → X) → ℕ → List X → List X
begun f zero xs = xs
begun f (suc i) [] = []
begun f (suc i) (x ∷ xs) = f x ∷ begun f i xs

module _ {X : Type 0} (f : X → X) where
  pub length-begun : (i : ℕ) (xs : List X) → length (begun f i xs) ≡ length xs
  length-begun zero xs = refl
  length-begun (suc i) [] = refl
  length-begun (suc i) (x ∷ xs) = ap suc (length-begun i xs)

  -- the next of them is as it was
  pub begun_next : (i : ℕ) (xs : List X) (d : X) → slice_index_or (begun f i xs) i d ≡ slice_index_or xs i d
  begun_next zero xs d = refl
  begun_next (suc i) [] d = refl
  begun_next (suc i) (x ∷ xs) d = begun_next i xs d

  -- and one more is changed
  more_if : (i : ℕ) (xs : List X) (y : X) → i < length xs → y ≡ slice_index_or xs i y → slice_set (begun f i xs) i (f y) ≡ begun f (suc i) xs
  more_if zero [] y h e = refl
  more_if zero (x ∷ xs) y h e = ap (λ z. f z ∷ xs) e
  more_if (suc i) [] y h e = refl
  more_if (suc i) (x ∷ xs) y h e = ap (λ zs. f x ∷ zs) (more_if i xs y (omega (arith, h)) e)

  pub begun_more : (i : ℕ) (xs : List X) (y z : X) → i < length xs → y ≡ slice_index_or (begun f i xs) i y → z ≡ f y
      → slice_set (begun f i xs) i z ≡ begun f (i + 1) xs
  begun_more i xs y z h e new =
      let more : suc i ≡ i + 1 = omega arith in
      ap (slice_set (begun f i xs) i) new ∙ more_if i xs y h (e ∙ begun_next i xs y) ∙ ap (λ j. begun f j xs) more

  -- all of them are
  all_if : (xs : List X) → begun f (length xs) xs ≡ map f xs
  all_if [] = refl
  all_if (x ∷ xs) = ap (λ zs. f x ∷ zs) (all_if xs)

  pub begun_all : (i : ℕ) (xs : List X) → i ≡ length xs → begun f i xs ≡ map f xs
  begun_all i xs e = ap (λ j. begun f j xs) e ∙ all_if xs

its_number : (members : List ℕ) (i : ℕ) → i < length members → is_member members (suc i) ≡ true
its_number members i h = grind (arith, nat_tests)

-- a node that forgets stays seated
rest_in : {C : Type 0} (base : ℕ) (members : List ℕ) (nodes : List (NodeState C)) (n : ℕ) → n ≤ length nodes
    → IsSeated members n (node_in members nodes n) → IsSeated members n (node_in members (map (rest_of_node base) nodes) n)
rest_in base members nodes zero h seat = seat
rest_in base members nodes (suc i) h seat = subst (IsSeated members (suc i))
    (sym (get_or-map (rest_of_node base) nodes i (new_node members (suc i)) (new_node members (suc i)) (omega (arith, h))))
    (record { member = seat.member; speaks = seat.speaks; node = seat.node })

module _ {Op O : Type 0} {members : List ℕ} (nodes : List (Holding Op O)) {mails : List (List (Letter (Command Op)))}
    {fresh : List (Letter (Command Op))} (whole : IsNetwork members (map state_of nodes) mails fresh) where
  -- nodes that forget are a network
  pub forgotten_whole : (base : ℕ) (now : List (Holding Op O)) → now ≡ map (rest_of_holding base) nodes
      → IsNetwork members (map state_of now) mails fresh
  forgotten_whole base now is =
      subst (λ ns. IsNetwork members ns mails fresh) (sym (ap (map state_of) is ∙ map_forgotten base nodes))
      (record {
        has_nodes = length-map (map state_of nodes) (rest_of_node base) ∙ whole.has_nodes;
        has_mails = whole.has_mails;
        seated = λ n member. rest_in base members (map state_of nodes) n
            (let bounds = member_bounds members n member in omega (arith, bounds.1, whole.has_nodes)) (whole.seated n member);
        post = whole.post;
      })

  -- each node has performed the slots below the base
  pub all_past : {Reply : Type 0} (rules : Rules O Op Reply) (base : ℕ) (k : LeanState Op O) → lean_seen members nodes mails fresh ≡ k
      → ((n : ℕ) → is_member k.members n ≡ true → base ≤ (lean_node_of rules k n).state.replica.slot_out)
      → (i : ℕ) (y : Holding Op O) → i < length nodes → y ≡ slice_index_or nodes i y → base ≤ y.state.replica.slot_out
  all_past rules base k is past i y here read =
      let count : length nodes ≡ length members = sym (length-map nodes (state_of {Op = Op} {O = O})) ∙ whole.has_nodes in
      let member : is_member members (suc i) ≡ true = its_number members i (omega (arith, here, count)) in
      let same : y ≡ lean_node_of rules (lean_seen members nodes mails fresh) (suc i) =
      read ∙ get_or_default nodes i y (new_holding rules members (suc i)) here in
      subst (λ (z : Holding Op O). base ≤ z.state.replica.slot_out) (sym (same ∙ ap (λ z. lean_node_of rules z (suc i)) is))
      (past (suc i) (ap (λ z. is_member z.members (suc i)) (sym is) ∙ member))
