-- Nodes with their mail show a cluster, while a node has its turn and letters are lost or repeated.
use Rattle.std.proofs.Common.{◌≡◌, ◌≢◌, ◌⊎◌, ⊎_elim, ℕ, ◌≤◌, true, List, [], ◌∷◌, ◌++◌, drop, length, Some, refl, sym, ◌∙◌, subst, arith}
use Rattle.std.specs.Prelude.{nat_le}
use Rattle.std.proofs.lemmas.Bool.{and_parts, cases_eq}
use Rattle.std.proofs.lemmas.Bool.Decides.{nat_tests}
use Rattle.std.proofs.lemmas.List.FromFn.{length-map-range_with_len}
use Rattle.object.specs.Lists.{In}
use Rattle.object.specs.ListLaws.{In-left, In-right, In-cases, In-get}
use Rattle.ballot.specs.Members.{is_member, numbers}
use Rattle.ballot.specs.declared.letter.Letter.{Letter}
use Rattle.node.specs.Nodes.{NodeState, new_node}
use Rattle.node.specs.PlaceLaws.{node_put_same, node_put_other, length-put, new_in}
use Rattle.node.specs.Receiving.{ShowsNode}
use Rattle.network.specs.Networks.{NetworkState, new_network, node_of, mail_in, mail_of, put_mail, front, turned_net, without_front, with_last}
use Rattle.network.specs.MailLaws.{in_posted, length-posted, in_put_mail, mail_put_other, length-put_mail, in_behind, new_mail}
use Rattle.agreement.specs.Nodes.{Cluster, new_cluster, node}
use Rattle.hall.specs.Shows.{ShowsCluster}

-- a member's number
pub member_bounds : (members : List ℕ) (n : ℕ) → is_member members n ≡ true → (1 ≤ n) × (n ≤ length members)
member_bounds members n h =
    let parts = and_parts (nat_le 1 n) (nat_le n (length members)) h in
    let low = parts.0 in
    let high = parts.1 in
    (low_of n low, high_of n (length members) high)
  where
    low_of : (m : ℕ) → nat_le 1 m ≡ true → 1 ≤ m
    low_of m e = grind (arith, nat_tests)

    high_of : (m l : ℕ) → nat_le m l ≡ true → m ≤ l
    high_of m l e = grind (arith, nat_tests)

module _ {C : Type 0} where
  -- a new node accepted nothing, so nothing is left out
  new_shows : (members : List ℕ) (n : ℕ) → ShowsNode {C = C} (new_node members n) (new_node members n)
  new_shows members n = record {
    acceptor = record { promised = refl; accepted = record { part = λ p i. i; greatest = λ p i. absurd i } };
    boot = refl;
    leader = refl;
    replica = refl;
  }

  -- node n has its turn, and so has the cluster's: others stay, and what is sent is sent there
  module _ (k : NetworkState C) (w z : Cluster C) (shows : ShowsCluster k w) (n : ℕ)
      (member : is_member k.members n ≡ true) (x : NodeState C) (is : ShowsNode x (node z n)) (out : List (Letter C))
      (members : z.members ≡ w.members) (others : (m : ℕ) → m ≢ n → node z m ≡ node w m)
      (sent : z.letters ≡ w.letters ++ out) where
    bounds : (1 ≤ n) × (n ≤ length k.nodes)
    bounds = let b = member_bounds k.members n member in let size = shows.has_nodes in (b.0, omega (arith, b.1))

    turned_node : (m : ℕ) → is_member k.members m ≡ true → ShowsNode (node_of (turned_net k n x out) m) (node z m)
    turned_node m other = ⊎_elim
        (λ (e : m ≡ n). subst (λ j. ShowsNode (node_of (turned_net k n x out) j) (node z j)) (sym e)
        (subst (λ y. ShowsNode y (node z n)) (sym (node_put_same k.members k.nodes n x bounds.0 bounds.1)) is))
        (λ (apart : m ≢ n). subst (λ y. ShowsNode y (node z m)) (sym (node_put_other k.members k.nodes n x m apart))
        (subst (ShowsNode (node_of k m)) (sym (others m apart)) (shows.nodes m other)))
        (cases_eq m n)

    turned_letters : (m : ℕ) (l : Letter C) → In l (mail_of (turned_net k n x out) m) → In l z.letters × (l.to ≡ m)
    turned_letters m l i = subst (λ ls. In l ls × (l.to ≡ m)) (sym sent) (⊎_elim
        (λ (j : In l (mail_of k m)). let old = shows.letters m l j in (In-left l w.letters out old.0, old.1))
        (λ (j : In l out × (l.to ≡ m)). (In-right l w.letters out j.0, j.1))
        (in_posted out k.mails m l i))

    pub turned_shows : ShowsCluster (turned_net k n x out) z
    turned_shows = record {
      members = shows.members ∙ sym members;
      has_nodes = length-put k.nodes n x ∙ shows.has_nodes;
      has_mails = length-posted out k.mails ∙ shows.has_mails;
      nodes = turned_node;
      letters = turned_letters;
    }

  module _ (k : NetworkState C) (w : Cluster C) (shows : ShowsCluster k w) (n : ℕ) where
    -- another mail in the place of node n's, of letters that are in the world and to it
    put_shows : (mail : List (Letter C)) → ((l : Letter C) → In l mail → In l (mail_of k n)) → ShowsCluster (record k { mails = put_mail k.mails n mail }) w
    put_shows mail within = record {
      members = shows.members;
      has_nodes = shows.has_nodes;
      has_mails = length-put_mail k.mails n mail ∙ shows.has_mails;
      nodes = shows.nodes;
      letters = λ m l i. ⊎_elim
          (λ (e : m ≡ n). subst (λ p. In l w.letters × (l.to ≡ p)) (sym e)
          (shows.letters n l (within l (in_put_mail k.mails n mail l
          (subst (λ p. In l (mail_in (put_mail k.mails n mail) p)) e i)))))
          (λ (apart : m ≢ n). shows.letters m l (subst (In l) (mail_put_other k.mails n mail m apart) i))
          (cases_eq m n);
    }

    pub lost_shows : ShowsCluster (without_front k n) w
    lost_shows = put_shows (drop 1 (mail_of k n)) (λ l i. in_behind (mail_of k n) l i)

    pub repeated_shows : (l : Letter C) → front (mail_of k n) ≡ Some l → ShowsCluster (with_last k n l) w
    repeated_shows l e = put_shows (mail_of k n ++ (l ∷ [])) (λ m i. ⊎_elim
        (λ (j : In m (mail_of k n)). j)
        (λ (j : (m ≡ l) ⊎ ⊥). ⊎_elim (λ (same : m ≡ l). subst (λ q. In q (mail_of k n)) (sym same) (In-get (mail_of k n) 0 l e)) (λ f. absurd f) j)
        (In-cases m (mail_of k n) (l ∷ []) i))

    -- the letter in front was sent, and to this node
    pub front_sent : (l : Letter C) → front (mail_of k n) ≡ Some l → In l w.letters × (l.to ≡ n)
    front_sent l e = shows.letters n l (In-get (mail_of k n) 0 l e)

  pub opening_shows : (members : List ℕ) → ShowsCluster {C = C} (new_network members) (new_cluster members)
  opening_shows members = record {
    members = refl;
    has_nodes = length-map-range_with_len (new_node members) 1 (length members);
    has_mails = length-map-range_with_len (λ (_ : ℕ). []) 1 (length members);
    nodes = λ n member. subst (λ x. ShowsNode x x) (sym (new_in members (length members) n)) (new_shows members n);
    letters = λ n l i. absurd (subst (In l) (new_mail (numbers members) n) i);
  }
