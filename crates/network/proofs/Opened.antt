-- A network to which nothing happened yet.
use Rattle.std.proofs.Common.{◌≡◌, ℕ, zero, suc, ◌+◌, ◌≤◌, inl, inr, List, [], ◌∷◌, ◌++◌, map, length, refl, sym, ap, ap₂, ◌∙◌, subst, arith}
use Rattle.std.specs.List.{range_with_len}
use Rattle.std.proofs.lemmas.List.FromFn.{map-range_with_len_more}
use Rattle.object.specs.Lists.{In}
use Rattle.ballot.specs.declared.letter.Letter.{Letter}
use Rattle.node.specs.Nodes.{NodeState, IsSeated, new_node, node_in}
use Rattle.network.specs.Networks.{new_network}
use Rattle.network.specs.Posting.{AreBetween, IsNetwork}
use Rattle.network.proofs.Posts.{none_posted}
use Rattle.network.proofs.Seats.{new_seated}
use Rattle.network.proofs.Turned.{seen, none_between}

-- one more
pub one_more : {X : Type 0} (f : ℕ → X) (xs now : List X) (x : X) (before : ℕ) → xs ≡ map f (range_with_len 1 before)
    → x ≡ f (before + 1) → now ≡ xs ++ (x ∷ []) → now ≡ map f (range_with_len 1 (before + 1))
one_more f xs now x before all new more =
    let last : 1 + before ≡ before + 1 = omega arith in
    more ∙ ap₂ (λ l y. l ++ (y ∷ [])) all new ∙ sym (map-range_with_len_more f 1 before (before + 1) last)

length-map-range : {X : Type 0} (f : ℕ → X) (base n : ℕ) → length (map f (range_with_len base n)) ≡ n
length-map-range f base zero = refl
length-map-range f base (suc n) = ap suc (length-map-range f (base + 1) n)

empty_mail : {C : Type 0} (mail : List (Letter C)) (ns : List ℕ) → In mail (map (λ _. []) ns) → mail ≡ []
empty_mail mail [] at = absurd at
empty_mail mail (n ∷ ns) (inl e) = e
empty_mail mail (n ∷ ns) (inr at) = empty_mail mail ns at

module _ {C : Type 0} (members : List ℕ) (nodes : List (NodeState C)) (mails : List (List (Letter C)))
    (fresh : List (Letter C)) (before count : ℕ) (all : count ≡ length members) (low : before ≤ count)
    (high : count ≤ before) (made : nodes ≡ map (new_node members) (range_with_len 1 before))
    (empty : mails ≡ map (λ _. []) (range_with_len 1 before)) (none : fresh ≡ []) where
  same : before ≡ length members
  same = omega (arith, all, low, high)

  pub opened : seen members nodes mails fresh ≡ new_network members
  opened =
      (λ i. seen members (made i) (empty i) (none i))
      ∙ (λ i. record {
        members = members;
        nodes = map (new_node members) (range_with_len 1 (same i));
        mails =
            (none_posted 1 (map (λ _. []) (range_with_len 1 before)) ∙ ap (λ n. map (λ _. []) (range_with_len 1 n)) same)
            i;
      })

  pub opened_whole : IsNetwork members nodes mails fresh
  opened_whole = record {
    has_nodes = ap length made ∙ length-map-range (new_node members) 1 before ∙ same;
    has_mails = ap length empty ∙ length-map-range (λ _. []) 1 before ∙ same;
    seated = λ n member. subst (λ z. IsSeated members n (node_in members z n)) (sym made) (new_seated members before n member);
    post = record {
      mailed = λ mail at. subst (AreBetween (length mails))
          (sym (empty_mail mail (range_with_len 1 before) (subst (In mail) empty at))) (none_between (length mails));
      unsorted = subst (AreBetween (length mails)) (sym none) (none_between (length mails));
    };
  }
