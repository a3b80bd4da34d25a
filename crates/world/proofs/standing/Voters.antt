-- A slot's chosen command, read off what the acceptors accepted.
use Rattle.std.proofs.Common.{◌≡◌, ◌≢◌, ◌⊎◌, inl, inr, ⊎_elim, ℕ, zero, suc, ◌+◌, ◌<◌, ◌≤◌, ◌^◌, Bool, true, false, List, [], ◌∷◌}
use Rattle.std.proofs.Common.{◌++◌, take, length, refl, sym, ap, ap₂, ◌∙◌, subst, arith}
use Rattle.std.specs.Prelude.{slice_index_or, Option, Some, None, IfSome, IfNone}
use Rattle.std.specs.Cmp.{both_ways}
use Rattle.std.proofs.lemmas.Bool.{cases_eq, cases_lt}
use Rattle.std.proofs.lemmas.List.{get_or_default, get_or_past, take_more, length-append}
use Rattle.std.proofs.lemmas.Option.{slice_get_read}
use Rattle.object.specs.Lists.{In}
use Rattle.object.specs.declared.command.Command.{Command}
use Rattle.object.specs.Replays.{is_new, kept}
use Rattle.ballot.specs.Members.{is_majority}
use Rattle.ballot.specs.declared.pvalue.Pvalue.{Pvalue}
use Rattle.node.specs.Nodes.{NodeState, new_node}
use Rattle.agreement.specs.Nodes.{Cluster, node}
use Rattle.agreement.specs.Chosen.{IsChosen, IsChosenFrom}
use Rattle.agreement.specs.Reached.{IsRun}
use Rattle.world.specs.Voters.{is_voted, HasVoted, HasNoneVoted}
use Rattle.object.specs.ListLaws.{In-cases, In-get}
use Rattle.ballot.specs.OrderLaws.{BallotLaws}
use Rattle.agreement.proofs.chosen.Invariants.{IsSound}
use Rattle.object.specs.ReplayLaws.{kept-push_new, kept-push_old}
use Rattle.agreement.proofs.answered.Performed.{run_push}
use Rattle.agreement.proofs.order.Deciding.{majority_more, chosen_by_row, none_by_rows}

-- where the same are in two sets, both are a majority or neither is
pub same_majority : (ws : List ℕ) (a b : List Bool) → ((i : ℕ) → slice_index_or a i false ≡ slice_index_or b i false) → is_majority ws a ≡ is_majority ws b
same_majority ws a b h = both_ways (is_majority ws a) (is_majority ws b) (majority_more ws a b (λ i e. sym (h i) ∙ e)) (majority_more ws b a (λ i e. h i ∙ e))

pub In-at : {A : Type 0} (xs : List A) (i : ℕ) (x : A) → i < length xs → x ≡ slice_index_or xs i x → In x xs
In-at xs i x h e = In-get xs i x (slice_get_read xs (length xs) i x refl h e)

-- one element more at the end
pub take_next : {A : Type 0} (xs : List A) (i : ℕ) (x : A) → i < length xs → x ≡ slice_index_or xs i x → take (i + 1) xs ≡ take i xs ++ (x ∷ [])
take_next xs i x h e = take_more xs i x h ∙ ap (λ y. take i xs ++ (y ∷ [])) (sym e)

In-next : {A : Type 0} (xs : List A) (i : ℕ) (x y : A) → i < length xs → x ≡ slice_index_or xs i x → In y (take (i + 1) xs) → In y (take i xs) ⊎ (y ≡ x)
In-next xs i x y h e at = ⊎_elim
    (λ (j : In y (take i xs)). inl j)
    (λ (j : In y (x ∷ [])). ⊎_elim (λ (same : y ≡ x). inr same) (λ (never : ⊥). absurd never) j)
    (In-cases y (take i xs) (x ∷ []) (subst (In y) (take_next xs i x h e) at))

module _ {C : Type 0} (k : Cluster C) where
  pub has_voted : (xs : List (Pvalue C)) (s i : ℕ) (p : Pvalue C) → i < length xs → p ≡ slice_index_or xs i p
      → p.slot ≡ s → is_voted k p.ballot p.slot ≡ true → s ≤ 2 ^ 62 → HasVoted k xs s p.value
  has_voted xs s i p h e same voted low =
      record { pvalue = p; among = In-at xs i p h e; slot = same; value = refl; voted = voted; low = low }

  pub none_next : (xs : List (Pvalue C)) (s i : ℕ) (p : Pvalue C) → i < length xs → p ≡ slice_index_or xs i p
      → (p.slot ≡ s → is_voted k p.ballot p.slot ≡ false) → HasNoneVoted k (take i xs) s
      → HasNoneVoted k (take (i + 1) xs) s
  none_next xs s i p h e missed none = λ q at same. ⊎_elim
      (λ (j : In q (take i xs)). none q j same)
      (λ (is : q ≡ p). subst (λ (y : Pvalue C). y.slot ≡ s → is_voted k y.ballot y.slot ≡ false) (sym is) missed same)
      (In-next xs i p q h e at)

  node_at : (xs : List (NodeState C)) → xs ≡ k.nodes → (i : ℕ) (x : NodeState C) → i < length xs → x ≡ slice_index_or xs i x → x ≡ node k (suc i)
  node_at xs same i x h e = e ∙ get_or_default xs i x (new_node k.members (suc i)) h ∙ ap (λ ys. slice_index_or ys i (new_node k.members (suc i))) same

  pub node_voted : (xs : List (NodeState C)) → xs ≡ k.nodes → (i : ℕ) (x : NodeState C) → i < length xs
      → x ≡ slice_index_or xs i x → (ps : List (Pvalue C)) → ps ≡ x.acceptor.accepted → (s : ℕ) (c : C)
      → HasVoted k ps s c → (m : ℕ) × HasVoted k (node k m).acceptor.accepted s c
  node_voted xs same i x h e ps is s c v = (
    suc i,
    subst (λ qs. HasVoted k qs s c)
        (is ∙ ap (λ (y : NodeState C). y.acceptor.accepted) (node_at xs same i x h e)) v,
  )

  pub none_node : (xs : List (NodeState C)) → xs ≡ k.nodes → (i : ℕ) (x : NodeState C) → i < length xs
      → x ≡ slice_index_or xs i x → (ps : List (Pvalue C)) → ps ≡ x.acceptor.accepted → (s : ℕ) → HasNoneVoted k ps s
      → ((j : ℕ) → j < i → HasNoneVoted k (node k (suc j)).acceptor.accepted s) → (j : ℕ) → j < i + 1
      → HasNoneVoted k (node k (suc j)).acceptor.accepted s
  none_node xs same i x h e ps is s none before j low = ⊎_elim
      (λ (f : j ≡ i). subst (λ t. HasNoneVoted k (node k (suc t)).acceptor.accepted s) (sym f)
      (subst (λ qs. HasNoneVoted k qs s)
      (is ∙ ap (λ (y : NodeState C). y.acceptor.accepted) (node_at xs same i x h e)) none))
      (λ (f : j ≢ i). before j (omega arith))
      (cases_eq j i)

  pub none_anywhere : (xs : List (NodeState C)) → xs ≡ k.nodes → (i : ℕ) → length xs ≤ i → (s : ℕ)
      → ((j : ℕ) → j < i → HasNoneVoted k (node k (suc j)).acceptor.accepted s)
      → (m : ℕ) → HasNoneVoted k (node k m).acceptor.accepted s
  none_anywhere xs same i all s before zero = λ p at. absurd at
  none_anywhere xs same i all s before (suc j) = ⊎_elim
      (λ (low : j < i). before j low)
      (λ (high : i ≤ j). subst (λ (y : NodeState C). HasNoneVoted k y.acceptor.accepted s)
      (sym (ap (λ ys. slice_index_or ys j (new_node k.members (suc j))) (sym same)
      ∙ get_or_past xs j (new_node k.members (suc j)) (omega (arith, all, high))))
      (λ p at. absurd at))
      (cases_lt j i)

  pub run_ended : (s : ℕ) (cs : List C) → IsRun k s cs → ((c : C) → IsChosen k (s + length cs) c → ⊥) → IsChosenFrom k s cs
  run_ended s [] h none = λ c chosen. none c (subst (λ t. IsChosen k t c) (omega arith) chosen)
  run_ended s (d ∷ cs) h none = (h.0, run_ended (s + 1) cs h.1 (λ c chosen. none c (subst (λ t. IsChosen k t c) (omega arith) chosen)))

  module _ (laws : BallotLaws) (i : IsSound k) where
    is_chosen : (s m : ℕ) (c : C) → HasVoted k (node k m).acceptor.accepted s c → IsChosen k s c
    is_chosen s m c v = subst (λ t. IsChosen k t c) v.slot (subst (IsChosen k v.pvalue.slot) v.value (chosen_by_row laws k i m v.pvalue v.among v.voted))

    none_chosen : (s : ℕ) → ((m : ℕ) → HasNoneVoted k (node k m).acceptor.accepted s) → (c : C) → IsChosen k s c → ⊥
    none_chosen s none = none_by_rows laws k i s (λ m p at same. subst (λ t. is_voted k p.ballot t ≡ false) same (none m p at same))

    pub some_chosen : {X : Type 0} (seen : X → C) (s : ℕ) (o : Option X)
        → IfSome o (λ x. (m : ℕ) × HasVoted k (node k m).acceptor.accepted s (seen x))
        → IfSome o (λ x. IsChosen k s (seen x))
    some_chosen seen s None h = tt
    some_chosen seen s (Some x) h = is_chosen s h.0 (seen x) h.1

    pub no_chosen : {X : Type 0} (s : ℕ) (o : Option X)
        → IfNone o ((m : ℕ) → HasNoneVoted k (node k m).acceptor.accepted s) → IfNone o ((c : C) → IsChosen k s c → ⊥)
    no_chosen s None h = none_chosen s h
    no_chosen s (Some x) h = tt

module _ {Op : Type 0} (cs : List (Command Op)) (i : ℕ) (c : Command Op) (low : i < length cs) (at : c ≡ slice_index_or cs i c) where
  -- a new command is kept
  pub kept_next : (order now : List (Command Op)) (d : Command Op) → order ≡ kept (take i cs)
      → is_new c (take i cs) ≡ true → d ≡ c → now ≡ order ++ (d ∷ []) → now ≡ kept (take (i + 1) cs)
  kept_next order now d before new copied pushed =
      pushed
      ∙ ap₂ (λ xs x. xs ++ (x ∷ [])) before copied
      ∙ sym (kept-push_new (take i cs) c new)
      ∙ ap kept (sym (take_next cs i c low at))

  -- another one is not
  pub kept_same : (order : List (Command Op)) → order ≡ kept (take i cs) → is_new c (take i cs) ≡ false → order ≡ kept (take (i + 1) cs)
  kept_same order before old = before ∙ sym (kept-push_old (take i cs) c old) ∙ ap kept (sym (take_next cs i c low at))

module _ {C : Type 0} (k : Cluster C) (cs now : List C) (c d : C) (copied : d ≡ c) (pushed : now ≡ cs ++ (d ∷ [])) where
  pub run_next : (first s : ℕ) → first + length cs ≡ s → IsRun k first cs → IsChosen k s c → IsRun k first now
  run_next first s count run chosen =
      subst (IsRun k first) (sym pushed)
      (run_push k first cs d run (subst (λ t. IsChosen k t d) (omega arith) (subst (IsChosen k s) (sym copied) chosen)))

  pub count_next : (first s : ℕ) → first + length cs ≡ s → first + length now ≡ s + 1
  count_next first s count = let e = ap length pushed in let f = length-append cs (d ∷ []) in omega arith
