-- Every reachable world has an order: whether a slot has a chosen command is decided by what the acceptors accepted, and
-- they accepted no more than so many slots.
use Rattle.std.proofs.Common.{◌≡◌, ◌≢◌, ◌⊎◌, inl, inr, ⊎_elim, ℕ, zero, suc, ◌+◌, ◌<◌, ◌≤◌, max, ◌==◌, Bool, true}
use Rattle.std.proofs.Common.{false, true≢false, ◌||◌, cond, List, [], ◌∷◌, map, flat_map, refl, sym, ap, ◌∙◌, subst}
use Rattle.std.proofs.Common.{arith}
use Rattle.std.specs.Prelude.{slice_index_or, nat_le}
use Rattle.std.specs.List.{list_any}
use Rattle.std.proofs.lemmas.Bool.{cases_eq, cases_Bool, and_parts, and_from}
use Rattle.std.proofs.lemmas.Bool.Decides.{nat_tests}
use Rattle.object.specs.Lists.{In}
use Rattle.object.specs.declared.command.Command.{Command}
use Rattle.object.specs.Replays.{kept}
use Rattle.ballot.specs.Ballots.{Numbers, is_same}
use Rattle.ballot.specs.Members.{has, weigh, majority, is_majority}
use Rattle.ballot.specs.declared.pvalue.Pvalue.{Pvalue}
use Rattle.leader.specs.Leaders.{pvalue}
use Rattle.object.specs.Objects.{Rules}
use Rattle.node.specs.Nodes.{NodeState, new_node}
use Rattle.agreement.specs.Nodes.{Cluster, node}
use Rattle.agreement.specs.Worlds.{World}
use Rattle.agreement.specs.Runs.{IsReachable}
use Rattle.agreement.specs.Chosen.{IsChosenAt, IsChosen, IsChosenFrom, IsOrder}
use Rattle.agreement.specs.Voters.{is_at, accepts, voters_of}
use Rattle.object.specs.ListLaws.{In-left, In-right, In-cases}
use Rattle.ballot.specs.OrderLaws.{BallotLaws, same_itself, not_both}
use Rattle.agreement.proofs.chosen.Invariants.{Asked, IsSound}
use Rattle.agreement.proofs.chosen.Reach.{reachable_sound}

-- a set with more members weighs no less
weigh_more : (ws : List ℕ) (a b : List Bool) → ((i : ℕ) → slice_index_or a i false ≡ true → slice_index_or b i false ≡ true) → weigh ws a ≤ weigh ws b
weigh_more [] a b h = omega arith
weigh_more (w ∷ ws) [] b h = omega arith
weigh_more (w ∷ ws) (x ∷ a) [] h = at x (λ e. h 0 e) (weigh_more ws a [] (λ i e. h (suc i) e))
  where
    none : (vs : List ℕ) → weigh vs [] ≡ 0
    none [] = refl
    none (v ∷ vs) = refl

    at : (x : Bool) → (x ≡ true → false ≡ true) → weigh ws a ≤ weigh ws [] → cond x w 0 + weigh ws a ≤ 0
    at true e le = absurd (true≢false (sym (e refl)))
    at false e le = let z = none ws in omega arith
weigh_more (w ∷ ws) (x ∷ a) (y ∷ b) h = at x y (λ e. h 0 e) (weigh_more ws a b (λ i e. h (suc i) e))
  where
    at : (x y : Bool) → (x ≡ true → y ≡ true) → weigh ws a ≤ weigh ws b → cond x w 0 + weigh ws a ≤ cond y w 0 + weigh ws b
    at true true e le = omega arith
    at true false e le = absurd (true≢false (sym (e refl)))
    at false y e le = omega arith

-- and is a majority where that is
pub majority_more : (ws : List ℕ) (a b : List Bool)
    → ((i : ℕ) → slice_index_or a i false ≡ true → slice_index_or b i false ≡ true) → is_majority ws a ≡ true
    → is_majority ws b ≡ true
majority_more ws a b h e = let le = weigh_more ws a b h in more (majority ws) (weigh ws a) (weigh ws b) le e
  where
    more : (m x y : ℕ) → x ≤ y → nat_le m x ≡ true → nat_le m y ≡ true
    more m x y le e = grind (arith, nat_tests)

-- something passes the test
pub any_from : {A : Type 0} (test : A → Bool) (x : A) (xs : List A) → In x xs → test x ≡ true → list_any test xs ≡ true
any_from test x [] i e = absurd i
any_from test x (y ∷ ys) (inl same) e = ap (λ b. b || list_any test ys) (ap test (sym same) ∙ e)
any_from test x (y ∷ ys) (inr i) e = at (test y) (any_from test x ys i e)
  where
    at : (b : Bool) → list_any test ys ≡ true → (b || list_any test ys) ≡ true
    at true f = refl
    at false f = f

pub any_found : {A : Type 0} (test : A → Bool) (xs : List A) → list_any test xs ≡ true → (x : A) × In x xs × (test x ≡ true)
any_found test [] e = absurd (true≢false (sym e))
any_found test (y ∷ ys) e = ⊎_elim
    (λ (yes : test y ≡ true). (y, inl refl, yes))
    (λ (no : test y ≡ false). let r = any_found test ys (sym (ap (λ b. b || list_any test ys) no) ∙ e) in (r.0, inr r.1, r.2))
    (cases_Bool (test y))

slot_same : (n s : ℕ) → (n == s) ≡ true → n ≡ s
slot_same n s e = grind (arith, nat_tests)

slot_itself : (s : ℕ) → (s == s) ≡ true
slot_itself s = grind (arith, nat_tests)

is_at_itself : {C : Type 0} (b : Numbers) (s : ℕ) (c : C) → is_at b s (pvalue b s c) ≡ true
is_at_itself b s c = and_from (is_same b b) (s == s) (same_itself b) (slot_itself s)

mapped_at : {C : Type 0} (f : NodeState C → Bool) (nodes : List (NodeState C)) (i : ℕ) (d : NodeState C) → f d ≡ false
    → slice_index_or (map f nodes) i false ≡ f (slice_index_or nodes i d)
mapped_at f [] i d e = sym e
mapped_at f (x ∷ xs) zero d e = refl
mapped_at f (x ∷ xs) (suc i) d e = mapped_at f xs i d e

row_at : {C : Type 0} (k : Cluster C) (b : Numbers) (s i : ℕ) → has (voters_of k b s) (suc i) ≡ accepts b s (node k (suc i))
row_at k b s i = mapped_at (accepts b s) k.nodes i (new_node k.members (suc i)) refl

-- all that was accepted
abbrev pool : {C : Type 0} → List (NodeState C) → List (Pvalue C)
pool nodes = flat_map (λ x. x.acceptor.accepted) nodes

pool_has : {C : Type 0} (nodes : List (NodeState C)) (i : ℕ) (d : NodeState C) (p : Pvalue C)
    → (In p d.acceptor.accepted → ⊥) → In p (slice_index_or nodes i d).acceptor.accepted → In p (pool nodes)
pool_has [] i d p none h = absurd (none h)
pool_has (x ∷ xs) zero d p none h = In-left p x.acceptor.accepted (pool xs) h
pool_has (x ∷ xs) (suc i) d p none h = In-right p x.acceptor.accepted (pool xs) (pool_has xs i d p none h)

in_pool : {C : Type 0} (k : Cluster C) (m : ℕ) (p : Pvalue C) → In p (node k m).acceptor.accepted → In p (pool k.nodes)
in_pool k zero p h = absurd h
in_pool k (suc i) p h = pool_has k.nodes i (new_node k.members (suc i)) p (λ never. never) h

pool_of : {C : Type 0} (nodes : List (NodeState C)) (p : Pvalue C) → In p (pool nodes) → (i : ℕ)
    × ((d : NodeState C) → In p (slice_index_or nodes i d).acceptor.accepted)
pool_of [] p h = absurd h
pool_of {C} (x ∷ xs) p h = ⊎_elim
    (λ (here : In p x.acceptor.accepted). (0, λ d. here))
    (λ (there : In p (pool xs)). let r = pool_of xs p there in (suc r.0, r.1))
    (In-cases p x.acceptor.accepted (pool xs) h)

from_pool : {C : Type 0} (k : Cluster C) (p : Pvalue C) → In p (pool k.nodes) → (m : ℕ) × In p (node k m).acceptor.accepted
from_pool k p h = let r = pool_of k.nodes p h in (suc r.0, r.1 (new_node k.members (suc r.0)))

-- every slot of the list is below this
slots_below : {C : Type 0} (ps : List (Pvalue C)) → (n : ℕ) × ((p : Pvalue C) → In p ps → p.slot < n)
slots_below [] = (0, λ p i. absurd i)
slots_below {C} (q ∷ ps) = let r =
    slots_below ps in (
      max (q.slot + 1) r.0,
      λ p i. ⊎_elim
          (λ (e : p ≡ q). let f = ap (λ (y : Pvalue C). y.slot) e in omega arith)
          (λ (j : In p ps). let l = r.1 p j in omega arith) i,
    )

module _ (laws : BallotLaws) {C : Type 0} (k : Cluster C) (i : IsSound k) where
  -- what was accepted at a ballot and slot is the one pvalue there
  is_one_there : (b : Numbers) (s : ℕ) (c : C) → Asked k.letters (pvalue b s c) → (m : ℕ) (q : Pvalue C)
      → In q (node k m).acceptor.accepted → is_at b s q ≡ true → In (pvalue b s c) (node k m).acceptor.accepted
  is_one_there b s c asked m q at e =
      let t = and_parts (is_same q.ballot b) (q.slot == s) e in
      let f = laws.same q.ballot b t.0 in
      let g = slot_same q.slot s t.1 in
      let v : q.value ≡ c = i.unique q (pvalue b s c) ((i.nodes m).acceptor.sent q at) asked f g in
      subst (λ (p : Pvalue C). In p (node k m).acceptor.accepted) (λ j. record { ballot = f j; slot = g j; value = v j }) at

  row_accepts : (b : Numbers) (s : ℕ) (c : C) → Asked k.letters (pvalue b s c) → (m : ℕ)
      → has (voters_of k b s) m ≡ true → In (pvalue b s c) (node k m).acceptor.accepted
  row_accepts b s c asked zero e = absurd (true≢false (sym e))
  row_accepts b s c asked (suc j) e =
      let q = any_found (is_at b s) (node k (suc j)).acceptor.accepted (sym (row_at k b s j) ∙ e) in
      is_one_there b s c asked (suc j) q.0 q.1 q.2

  voters_row : (b : Numbers) (s : ℕ) (c : C) → (h : IsChosenAt k b s c) → is_majority k.members (voters_of k b s) ≡ true
  voters_row b s c h = majority_more k.members h.voters (voters_of k b s)
      (λ j e. row_at k b s j ∙ any_from (is_at b s) (pvalue b s c) (node k (suc j)).acceptor.accepted (h.accepted (suc j) e) (is_at_itself b s c))
      h.majority

  -- the pvalue's command is chosen at its ballot
  decide_at : (p : Pvalue C) → Asked k.letters p → IsChosenAt k p.ballot p.slot p.value ⊎ (IsChosenAt k p.ballot p.slot p.value → ⊥)
  decide_at p asked = ⊎_elim
      (λ (yes : is_majority k.members (voters_of k p.ballot p.slot) ≡ true). inl
      (record {
        voters = voters_of k p.ballot p.slot;
        majority = yes;
        accepted =
            λ m e. row_accepts p.ballot p.slot p.value asked m e;
      }))
      (λ (no : is_majority k.members (voters_of k p.ballot p.slot) ≡ false). inr (λ h. not_both (voters_row p.ballot p.slot p.value h) no))
      (cases_Bool (is_majority k.members (voters_of k p.ballot p.slot)))

  -- a pvalue is chosen where a majority accepted something at its ballot and slot
  pub chosen_by_row : (m : ℕ) (p : Pvalue C) → In p (node k m).acceptor.accepted
      → is_majority k.members (voters_of k p.ballot p.slot) ≡ true → IsChosen k p.slot p.value
  chosen_by_row m p at e = (
    p.ballot,
    record {
      voters = voters_of k p.ballot p.slot;
      majority = e;
      accepted =
          λ j f. row_accepts p.ballot p.slot p.value ((i.nodes m).acceptor.sent p at) j f;
    },
  )

  -- and a slot has no chosen command where none of its accepted pvalues is
  pub none_by_rows : (s : ℕ) → ((m : ℕ) (p : Pvalue C) → In p (node k m).acceptor.accepted → p.slot ≡ s
      → is_majority k.members (voters_of k p.ballot s) ≡ false) → (c : C) → IsChosen k s c → ⊥
  none_by_rows s none c h =
      let m = laws.share k.members h.1.voters h.1.voters h.1.majority h.1.majority in
      not_both (voters_row h.0 s c h.1) (none m.0 (pvalue h.0 s c) (h.1.accepted m.0 m.1) refl)

  -- one of these pvalues is chosen in the slot
  abbrev Holds : List (Pvalue C) → ℕ → Type 0
  Holds ps s = (p : Pvalue C) × In p ps × (p.slot ≡ s) × IsChosenAt k p.ballot p.slot p.value

  not_first : (q : Pvalue C) (ps : List (Pvalue C)) (s : ℕ) → (q.slot ≡ s → IsChosenAt k q.ballot q.slot q.value → ⊥) → (Holds ps s → ⊥) → Holds (q ∷ ps) s → ⊥
  not_first q ps s other none (p, inl e, at, chosen) =
      other (subst (λ (y : Pvalue C). y.slot ≡ s) e at)
      (subst (λ (y : Pvalue C). IsChosenAt k y.ballot y.slot y.value) e chosen)
  not_first q ps s other none (p, inr j, at, chosen) = none (p, j, at, chosen)

  in_rest : (q : Pvalue C) (ps : List (Pvalue C)) (s : ℕ) → Holds ps s ⊎ (Holds ps s → ⊥)
      → (q.slot ≡ s → IsChosenAt k q.ballot q.slot q.value → ⊥) → Holds (q ∷ ps) s ⊎ (Holds (q ∷ ps) s → ⊥)
  in_rest q ps s rest other = ⊎_elim (λ (h : Holds ps s). inl (h.0, inr h.1, h.2, h.3)) (λ (none : Holds ps s → ⊥). inr (not_first q ps s other none)) rest

  decide_among : (ps : List (Pvalue C)) → ((p : Pvalue C) → In p ps → Asked k.letters p) → (s : ℕ) → Holds ps s ⊎ (Holds ps s → ⊥)
  decide_among [] asked s = inr (λ h. h.1)
  decide_among (q ∷ ps) asked s =
      let rest = decide_among ps (λ p j. asked p (inr j)) s in
      ⊎_elim
      (λ (e : q.slot ≡ s). ⊎_elim
      (λ (yes : IsChosenAt k q.ballot q.slot q.value). inl (q, inl refl, e, yes))
      (λ (no : IsChosenAt k q.ballot q.slot q.value → ⊥). in_rest q ps s rest (λ f h. no h))
      (decide_at q (asked q (inl refl))))
      (λ (n : q.slot ≢ s). in_rest q ps s rest (λ e h. n e))
      (cases_eq q.slot s)

  pool_asked : (p : Pvalue C) → In p (pool k.nodes) → Asked k.letters p
  pool_asked p at = let h = from_pool k p at in (i.nodes h.0).acceptor.sent p h.1

  -- who accepted a chosen command
  in_pool_chosen : (b : Numbers) (s : ℕ) (c : C) → IsChosenAt k b s c → In (pvalue b s c) (pool k.nodes)
  in_pool_chosen b s c h =
      let m = laws.share k.members h.voters h.voters h.majority h.majority in
      in_pool k m.0 (pvalue b s c) (h.accepted m.0 m.1)

  -- some command is chosen in the slot, or none
  pub decide : (s : ℕ) → ((c : C) × IsChosen k s c) ⊎ ((c : C) → IsChosen k s c → ⊥)
  decide s = ⊎_elim
      (λ (h : Holds (pool k.nodes) s). inl (h.0.value, (h.0.ballot, subst (λ t. IsChosenAt k h.0.ballot t h.0.value) h.2 h.3)))
      (λ (none : Holds (pool k.nodes) s → ⊥). inr (λ c h. none (pvalue h.0 s c, in_pool_chosen h.0 s c h.1, refl, h.1)))
      (decide_among (pool k.nodes) pool_asked s)

  -- no slot from here on has a chosen command
  beyond : (s : ℕ) → (slots_below (pool k.nodes)).0 ≤ s → (c : C) → IsChosen k s c → ⊥
  beyond s le c h = let l = (slots_below (pool k.nodes)).1 (pvalue h.0 s c) (in_pool_chosen h.0 s c h.1) in absurd (omega arith)

  from_slot : (fuel s : ℕ) → (slots_below (pool k.nodes)).0 ≤ s + fuel → (cs : List C) × IsChosenFrom k s cs
  from_slot zero s le = ([], λ c h. beyond s (omega arith) c h)
  from_slot (suc fuel) s le = ⊎_elim
      (λ (h : (c : C) × IsChosen k s c). let r = from_slot fuel (s + 1) (omega arith) in (h.0 ∷ r.0, (h.1, r.1)))
      (λ (none : (c : C) → IsChosen k s c → ⊥). ([], none))
      (decide s)

  -- the commands chosen from a slot on
  pub chosen_from : (s : ℕ) → (cs : List C) × IsChosenFrom k s cs
  chosen_from s = from_slot (slots_below (pool k.nodes)).0 s (omega arith)

-- every reachable world has an order
pub has_order : (laws : BallotLaws) {O Op Reply : Type 0} (rules : Rules O Op Reply) (w : World Op Reply)
    → IsReachable rules w → (order : List (Command Op)) × IsOrder w.cluster order
has_order laws rules w r = let h = chosen_from laws w.cluster (reachable_sound laws rules w r) 1 in (kept h.0, (h.0, h.1, refl))
