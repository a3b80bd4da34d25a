-- Nodes that forget more show on what they showed.
use Rattle.std.proofs.Common.{◌≡◌, ◌<◌, ◌≤◌, ℕ, zero, suc, Bool, true, false, true≢false, cond, List, [], ◌∷◌, length}
use Rattle.std.proofs.Common.{map, Some, None, refl, sym, ap, ap₂, ◌∙◌, subst, arith}
use Rattle.std.proofs.lemmas.List.{length-map}
use Rattle.std.specs.Prelude.{nat_le, option_and_then, slice_index_or}
use Rattle.std.proofs.lemmas.Bool.Decides.{nat_tests}
use Rattle.ballot.specs.Members.{is_member}
use Rattle.ballot.specs.declared.letter.Letter.{Letter}
use Rattle.ballot.specs.declared.letter.LetterBody.{LetterBody}
use Rattle.ballot.specs.declared.letter.LetterBody.TheVariants.{P1a, P1b, P2a, P2b, Propose, Decision, Ask}
use Rattle.slot_log.specs.Books.{SlotBook}
use Rattle.node.specs.Nodes.{NodeState, node_in, new_node}
use Rattle.node.specs.Receiving.{ShowsNode}
use Rattle.network.specs.Networks.{NetworkState, node_of}
use Rattle.agreement.specs.Nodes.{Cluster, node}
use Rattle.ballot.specs.Rests.{if_from, rest_of_body, pvalues_from}
use Rattle.ballot.proofs.Filters.{In_filter, filter_all}
use Rattle.acceptor.specs.Rests.{rest_of_acceptor}
use Rattle.leader.specs.Rests.{rest_of_leader}
use Rattle.slot_log.specs.Rests.{rest_of_book}
use Rattle.node.specs.Rests.{rest_of_node}
use Rattle.forgetting.proofs.Bases.{node_twice, pvalues_twice, rest_keeps}
use Rattle.forgetting_hall.specs.Shown.{ShowsRest, IsLetterOf, forgotten_net}
use Rattle.forgetting_hall.proofs.Clusters.{member_bounds}
use Rattle.forgetting_hall.proofs.Least.{is_member_at}

lower : (low high s : ℕ) → low ≤ high → nat_le high s ≡ true → nat_le low s ≡ true
lower low high s h t = grind (arith, nat_tests)

-- a node forgets more
module _ {C : Type 0} (low high : ℕ) (h : low ≤ high) where
  pub node_forgets : (kept x : NodeState C) → ShowsNode kept (rest_of_node low x) → ShowsNode (rest_of_node high kept) (rest_of_node high x)
  node_forgets kept x s = subst (ShowsNode (rest_of_node high kept)) (node_twice low high h x) (record {
    acceptor = rest_keeps high (rest_of_acceptor low x.acceptor) kept.acceptor s.acceptor;
    boot = s.boot;
    leader = ap (rest_of_leader high) s.leader;
    replica = ap (rest_of_book high) s.replica;
  })

  -- what is left of a letter then is left of what was left
  slot_then : (s : ℕ) (b : LetterBody C) → rest_of_body high b ≡ if_from high s b → (x y : Bool) → nat_le low s ≡ x
      → nat_le high s ≡ y → option_and_then (rest_of_body high) (cond x (Some b) None) ≡ cond y (Some b) None
  slot_then s b e true y f g = e ∙ ap (λ t. cond t (Some b) None) g
  slot_then s b e false true f g = absurd (true≢false (sym (lower low high s h g) ∙ f))
  slot_then s b e false false f g = refl

  body_then : (b : LetterBody C) → option_and_then (rest_of_body high) (rest_of_body low b) ≡ rest_of_body high b
  body_then (P1a b) = refl
  body_then (P1b b report) = ap (λ ps. Some (P1b b ps)) (pvalues_twice low high h report)
  body_then (P2a p) = slot_then p.slot (P2a p) refl (nat_le low p.slot) (nat_le high p.slot) refl refl
  body_then (P2b o s by) = slot_then s (P2b o s by) refl (nat_le low s) (nat_le high s) refl refl
  body_then (Propose s c) = slot_then s (Propose s c) refl (nat_le low s) (nat_le high s) refl refl
  body_then (Decision s c) = slot_then s (Decision s c) refl (nat_le low s) (nat_le high s) refl refl
  body_then (Ask s) = refl

  letter_then : (n : ℕ) (l m : Letter C) → IsLetterOf low n l m → IsLetterOf high n l m
  letter_then n l m is = record {
    sender = is.sender;
    receiver = is.receiver;
    own = is.own;
    left = sym (body_then l.body) ∙ ap (option_and_then (rest_of_body high)) is.left ∙ body_then m.body;
  }

node_mapped : {C : Type 0} (f : NodeState C → NodeState C) (nodes : List (NodeState C)) (i : ℕ) (d e : NodeState C)
    → i < length nodes → slice_index_or (map f nodes) i d ≡ f (slice_index_or nodes i e)
node_mapped f [] i d e h = absurd (omega arith)
node_mapped f (x ∷ xs) zero d e h = refl
node_mapped f (x ∷ xs) (suc i) d e h = node_mapped f xs i d e (omega arith)

in_mapped : {C : Type 0} (f : NodeState C → NodeState C) (members : List ℕ) (nodes : List (NodeState C)) (n : ℕ) → 1 ≤ n
    → n ≤ length nodes → node_in members (map f nodes) n ≡ f (node_in members nodes n)
in_mapped f members nodes zero l h = absurd (omega arith)
in_mapped f members nodes (suc i) l h = node_mapped f nodes i (new_node members (suc i)) (new_node members (suc i)) (omega arith)

module _ {C : Type 0} (low : ℕ) (k : NetworkState C) (w : Cluster C) (s : ShowsRest low k w) (high : ℕ)
    (more : low ≤ high) (out : (n : ℕ) → is_member k.members n ≡ true → high ≤ (node_of k n).replica.slot_out) where
  -- they show the world as before, from a higher base on
  pub forget_shows : ShowsRest high (forgotten_net high k) w
  forget_shows = record {
    members = s.members;
    has_nodes = length-map k.nodes (rest_of_node high) ∙ s.has_nodes;
    has_mails = s.has_mails;
    nodes = λ n member.
        let b = member_bounds k.members n member in
        let size = s.has_nodes in
        subst (λ y. ShowsNode y (rest_of_node high (node w n))) (sym (in_mapped (rest_of_node high) k.members k.nodes n b.0 (omega (arith, b.1))))
        (node_forgets low high more (node_of k n) (node w n) (s.nodes n member));
    past = λ n member. subst (λ (b : SlotBook C). high ≤ b.slot_out) (s.nodes n member).replica (out n member);
    letters = λ n l j. let old = s.letters n l j in (old.0, old.1, letter_then low high more n l old.0 old.2);
  }

-- a node forgets nothing more that has forgotten the same slots
node_same : {C : Type 0} (base : ℕ) (kept x : NodeState C) → ShowsNode kept (rest_of_node base x) → rest_of_node base kept ≡ kept
node_same base kept x s =
    let twice = node_twice base base (omega arith) x in
    let accepted : pvalues_from base kept.acceptor.accepted ≡ kept.acceptor.accepted =
    filter_all (λ p. nat_le base p.slot) kept.acceptor.accepted
    (λ p i. (In_filter (λ p. nat_le base p.slot) p x.acceptor.accepted (s.acceptor.accepted.part p i)).1) in
    let leader : rest_of_leader base kept.leader ≡ kept.leader =
    ap (rest_of_leader base) s.leader ∙ ap (λ (y : NodeState _). y.leader) twice ∙ sym s.leader in
    let replica : rest_of_book base kept.replica ≡ kept.replica =
    ap (rest_of_book base) s.replica ∙ ap (λ (y : NodeState _). y.replica) twice ∙ sym s.replica in
    λ i. record kept { acceptor = record kept.acceptor { accepted = accepted i }; leader = leader i; replica = replica i }

each_same : {X : Type 0} (f : X → X) (xs : List X) (d : ℕ → X)
    → ((i : ℕ) → i < length xs → f (slice_index_or xs i (d i)) ≡ slice_index_or xs i (d i)) → map f xs ≡ xs
each_same f [] d h = refl
each_same f (x ∷ xs) d h = ap₂ (λ y ys. y ∷ ys) (h 0 (omega arith)) (each_same f xs (λ i. d (suc i)) (λ i l. h (suc i) (omega (arith, l))))

-- and so do all nodes that show a world
pub forgotten_same : {C : Type 0} (base : ℕ) (k : NetworkState C) (w : Cluster C) → ShowsRest base k w → forgotten_net base k ≡ k
forgotten_same base k w s = ap (λ ns. record k { nodes = ns }) (each_same (rest_of_node base) k.nodes (λ i. new_node k.members (suc i))
    (λ i l. node_same base (node_of k (suc i)) (node w (suc i)) (s.nodes (suc i) (member i l))))
  where
    member : (i : ℕ) → i < length k.nodes → is_member k.members (suc i) ≡ true
    member i l = let size = s.has_nodes in is_member_at k.members (suc i) (omega arith) (omega (arith, size, l))
