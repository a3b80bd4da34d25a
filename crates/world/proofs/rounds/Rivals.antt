-- How many acceptors have promised a ballot above one.
use Rattle.std.proofs.Common.{◌≡◌, ◌⊎◌, inl, inr, ⊎_elim, ℕ, ◌+◌, ◌*◌, ◌^◌, ◌<◌, ◌≤◌, Bool, true, false, cond, List, [], ◌∷◌, length}
use Rattle.std.proofs.Common.{filter, Option, None, Some, refl, sym, ap, ◌∙◌, subst, arith}
use Rattle.object.specs.Lists.{In}
use Rattle.ballot.specs.Ballots.{Numbers, is_below, is_promise_below, higher, next_after}
use Rattle.ballot.specs.Members.{is_member, numbers}
use Rattle.ballot.specs.OrderLaws.{BallotLaws, below_upto, not_both}
use Rattle.std.proofs.lemmas.Bool.Decides.{nat_tests}
use Rattle.agreement.specs.Nodes.{Cluster, node}
use Rattle.agreement.proofs.chosen.Sets.{In-numbers}
use Rattle.leader.specs.Leaders.{Leading}
use Rattle.std.specs.FinMap.{len}
use Rattle.world.specs.WaysOut.{first_leader, is_rival, rivals, work}

-- what fewer tests hold of
module _ (f g : ℕ → Bool) (more : (j : ℕ) → f j ≡ true → g j ≡ true) where
  at_most : (x : ℕ) (xs ys : List ℕ) → length xs ≤ length ys → (a b : Bool) → (a ≡ true → b ≡ true) → length (cond a (x ∷ xs) xs) ≤ length (cond b (x ∷ ys) ys)
  at_most x xs ys h true true k = omega arith
  at_most x xs ys h true false k = not_both (k refl) refl
  at_most x xs ys h false true k = omega arith
  at_most x xs ys h false false k = h

  pub fewer : (xs : List ℕ) → length (filter f xs) ≤ length (filter g xs)
  fewer [] = omega arith
  fewer (x ∷ xs) = at_most x (filter f xs) (filter g xs) (fewer xs) (f x) (g x) (more x)

  less_here : (x : ℕ) (xs ys : List ℕ) → length xs ≤ length ys → (a b : Bool) → a ≡ false → b ≡ true → length (cond a (x ∷ xs) xs) < length (cond b (x ∷ ys) ys)
  less_here x xs ys h true b p q = not_both refl p
  less_here x xs ys h false true p q = omega arith
  less_here x xs ys h false false p q = not_both q refl

  less_later : (x : ℕ) (xs ys : List ℕ) → length xs < length ys → (a b : Bool) → (a ≡ true → b ≡ true)
      → length (cond a (x ∷ xs) xs) < length (cond b (x ∷ ys) ys)
  less_later x xs ys h true true k = omega arith
  less_later x xs ys h true false k = not_both (k refl) refl
  less_later x xs ys h false true k = omega arith
  less_later x xs ys h false false k = h

  pub less : (m : ℕ) → f m ≡ false → g m ≡ true → (xs : List ℕ) → In m xs → length (filter f xs) < length (filter g xs)
  less m p q [] within = absurd within
  less m p q (x ∷ xs) (inl e) = less_here x (filter f xs) (filter g xs) (fewer xs) (f x) (g x) (ap f (sym e) ∙ p) (ap g (sym e) ∙ q)
  less m p q (x ∷ xs) (inr within) = less_later x (filter f xs) (filter g xs) (less m p q xs within) (f x) (g x) (more x)

-- the next ballot after one comes after it
pub below_next : (b : Numbers) (n boot : ℕ) → is_below b (next_after b n boot) ≡ true
below_next b n boot = grind (arith, nat_tests)

module _ (laws : BallotLaws) where
  -- what was promised stays, or becomes the ballot that was asked for
  pub promises : (o : Option Numbers) (b : Numbers) → (Some (higher o b) ≡ o) ⊎ (higher o b ≡ b)
  promises None b = inr refl
  promises (Some x) b = at (is_below x b)
    where
      at : (test : Bool) → (Some (cond test b x) ≡ Some x) ⊎ (cond test b x ≡ b)
      at true = inr refl
      at false = inl refl

  -- and is not below it
  pub not_below : (o : Option Numbers) (b : Numbers) → is_below (higher o b) b ≡ false
  not_below None b = laws.itself b
  not_below (Some x) b = at (is_below x b) refl
    where
      at : (test : Bool) → is_below x b ≡ test → is_below (cond test b x) b ≡ false
      at true e = laws.itself b
      at false e = e

  pub rival_above : (b c : Numbers) (o : Option Numbers) → is_below b c ≡ true → is_promise_below (Some c) o ≡ true → is_promise_below (Some b) o ≡ true
  rival_above b c None below rival = absurd (cc)
  rival_above b c (Some y) below rival = laws.through b c y below rival

  pub no_rival : (c b : Numbers) → is_below b c ≡ true → is_promise_below (Some c) (Some b) ≡ false
  no_rival c b below = below_upto laws b c below

  -- among acceptors that promised what they had promised before or b, there are no more above b than before
  module _ {C : Type 0} (k z : Cluster C) (same : z.members ≡ k.members) (b : Numbers)
      (promised : (j : ℕ) → ((node z j).acceptor.promised ≡ (node k j).acceptor.promised)
      ⊎ ((node z j).acceptor.promised ≡ Some b)) where
    rival_before : (c : Numbers) → (is_below b c ≡ true) ⊎ (b ≡ c) → (j : ℕ) → is_rival z c j ≡ true → is_rival k b j ≡ true
    rival_before c above j rival = elim (promised j) as (λ v. is_rival k b j ≡ true) [
      | inl stays ↦ let was : is_promise_below (Some c) (node k j).acceptor.promised ≡ true = ap (is_promise_below (Some c)) (sym stays) ∙ rival in
          ⊎_elim (λ (below : is_below b c ≡ true). rival_above b c (node k j).acceptor.promised below was)
          (λ (e : b ≡ c). subst (λ y. is_promise_below (Some y) (node k j).acceptor.promised ≡ true) (sym e) was)
          above
      | inr now ↦ let own : is_below c b ≡ true = ap (is_promise_below (Some c)) (sym now) ∙ rival in
          ⊎_elim (λ (below : is_below b c ≡ true). not_both own (below_upto laws b c below))
          (λ (e : b ≡ c). not_both (subst (λ y. is_below y b ≡ true) (sym e) own) (laws.itself b)) above
    ]

    counted_in : (c : Numbers) → length (filter (is_rival z c) (numbers z.members)) ≡ length (filter (is_rival z c) (numbers k.members))
    counted_in c = ap (λ ms. length (filter (is_rival z c) (numbers ms))) same

    -- of a ballot above b there are no more than before
    pub rivals_stay : (c : Numbers) → is_below b c ≡ true → rivals z c ≤ rivals k c
    rivals_stay c above =
        let h = fewer (is_rival z c) (is_rival k c) (λ j rival. elim (promised j) as (λ v. is_rival k c j ≡ true) [
          | inl stays ↦ ap (is_promise_below (Some c)) (sym stays) ∙ rival
          | inr now ↦ not_both (ap (is_promise_below (Some c)) (sym now) ∙ rival) (no_rival c b above)
        ]) (numbers k.members) in
        let e = counted_in c in
        omega arith

    pub no_more_rivals : rivals z b ≤ rivals k b
    no_more_rivals = let h = fewer (is_rival z b) (is_rival k b) (rival_before b (inr refl)) (numbers k.members) in let e = counted_in b in omega arith

    -- and fewer above a ballot that passes one of them
    pub fewer_rivals : (m : ℕ) (x c : Numbers) → is_member k.members m ≡ true → (node z m).acceptor.promised ≡ Some x
        → is_below b x ≡ true → is_below x c ≡ true → rivals z c < rivals k b
    fewer_rivals m x c member now above past =
        let was : is_rival k b m ≡ true = elim (promised m) as (λ v. is_rival k b m ≡ true) [
          | inl stays ↦ ap (is_promise_below (Some b)) (sym stays ∙ now) ∙ above
          | inr own ↦ let e : x ≡ b = (cc) in not_both (subst (λ y. is_below b y ≡ true) e above) (laws.itself b)
        ] in
        let gone : is_rival z c m ≡ false = ap (is_promise_below (Some c)) now ∙ below_upto laws x c past in
        let h = less (is_rival z c) (is_rival k b) (rival_before c (inl (laws.through b x c above past))) m gone was
        (numbers k.members) (In-numbers k.members m member) in
        let e = counted_in c in
        omega arith

-- the work, by what the leader is
pub work_of : {C : Type 0} (k : Cluster C) (l : Leading C) → first_leader k ≡ l
    → work k ≡ 2 ^ 41 * (2 * rivals k l.ballot + cond l.active 0 1) + 16 * len l.commanders
work_of k l is = ap (λ l. 2 ^ 41 * (2 * rivals k l.ballot + cond l.active 0 1) + 16 * len l.commanders) is

pub work_when : {C : Type 0} (k : Cluster C) (active : Bool) → (first_leader k).active ≡ active
    → work k ≡ 2 ^ 41 * (2 * rivals k (first_leader k).ballot + cond active 0 1) + 16 * len (first_leader k).commanders
work_when k active is = ap (λ a. 2 ^ 41 * (2 * rivals k (first_leader k).ballot + cond a 0 1) + 16 * len (first_leader k).commanders) is
