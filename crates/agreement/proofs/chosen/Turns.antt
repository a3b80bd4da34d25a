-- A turn of one node keeps the invariant, where its acceptor grows, its leader moves on, and what it sends is true.
use Rattle.std.proofs.Common.{◌≡◌, ◌≢◌, ◌⊎◌, inl, inr, ⊎_elim, ℕ, ◌<◌, ◌≤◌, true, List, ◌++◌, Some, refl, sym, ap, ◌∙◌, subst, arith}
use Rattle.std.specs.FinMap.{get}
use Rattle.std.proofs.lemmas.Bool.{cases_eq}
use Rattle.object.specs.Lists.{In}
use Rattle.ballot.specs.Ballots.{Numbers}
use Rattle.ballot.specs.Members.{is_member}
use Rattle.ballot.specs.declared.pvalue.Pvalue.{Pvalue}
use Rattle.ballot.specs.declared.letter.LetterBody.{LetterBody}
use Rattle.ballot.specs.declared.letter.Letter.{Letter}
use Rattle.ballot.specs.declared.letter.LetterBody.TheVariants.{P2a}
use Rattle.leader.specs.Leaders.{Leading}
use Rattle.node.specs.Nodes.{NodeState}
use Rattle.agreement.specs.Nodes.{Cluster, node, turned}
use Rattle.object.specs.ListLaws.{Each, Each-at, Each-append, Each-weaker, In-left, In-cases}
use Rattle.node.specs.PlaceLaws.{node_put_same, node_put_other, length-put}
use Rattle.agreement.proofs.chosen.Sets.{member_bounds}
use Rattle.ballot.specs.OrderLaws.{BallotLaws}
use Rattle.agreement.proofs.chosen.Invariants.{Asked, IsSafe, IsOwned, IsFair, IsNode, IsSound}
use Rattle.agreement.proofs.chosen.Grows.{AcceptorGrows, Grows, stays, safe_stays, fair_stays, node_stays}

-- a leader keeps its ballot, and then what it proposed while active, or goes to one of its own that is new
abbrev pub Keeps : {C : Type 0} → Leading C → Leading C → Type 0
Keeps {C} l z = (l.ballot ≡ z.ballot) × (l.active ≡ true → z.active ≡ true)
    × ((s : ℕ) (c : C) → l.active ≡ true → get l.proposals s ≡ Some c → get z.proposals s ≡ Some c)

abbrev pub Moves : {C : Type 0} → NodeState C → NodeState C → Type 0
Moves x z = (x.boot < z.boot) ⊎ ((x.boot ≡ z.boot) × ((x.leader.ballot.round < z.leader.ballot.round) ⊎ Keeps x.leader z.leader))

-- what a step keeps: the invariant, and what stays
pub record Kept {C : Type 0} (k z : Cluster C) : Type 0 where
  pub sound : IsSound z
  pub grows : Grows k z

-- a P2a is of a proposal of the active leader that sends it
abbrev pub IsOwn : {C : Type 0} → Leading C → LetterBody C → Type 0
IsOwn {C} l body = (p : Pvalue C) → body ≡ P2a p → (p.ballot ≡ l.ballot) × (l.active ≡ true) × (get l.proposals p.slot ≡ Some p.value)

owned_moves : {C : Type 0} (x z : NodeState C) (p : Pvalue C) → z.leader.ballot.boot ≡ z.boot → Moves x z → IsOwned x p → IsOwned z p
owned_moves x z p own (inl later) o = record {
  boot = let h = o.boot in omega arith;
  round = λ e. let h = o.boot in absurd (omega arith);
  active = λ e. let h = o.boot in let f = ap (λ b. b.boot) e in absurd (omega arith);
  value = λ e. let h = o.boot in let f = ap (λ b. b.boot) e in absurd (omega arith);
}
owned_moves x z p own (inr (same, inl higher)) o = record {
  boot = let h = o.boot in omega arith;
  round = λ e. let h = o.round (e ∙ sym same) in omega arith;
  active = λ e. let h = o.round (ap (λ b. b.boot) e ∙ own ∙ sym same) in let f = ap (λ b. b.round) e in absurd (omega arith);
  value = λ e. let h = o.round (ap (λ b. b.boot) e ∙ own ∙ sym same) in let f = ap (λ b. b.round) e in absurd (omega arith);
}
owned_moves x z p own (inr (same, inr keeps)) o = record {
  boot = let h = o.boot in omega arith;
  round = λ e. subst (λ (b : Numbers). p.ballot.round ≤ b.round) keeps.0 (o.round (e ∙ sym same));
  active = λ e. keeps.1 (o.active (e ∙ sym keeps.0));
  value = λ e. keeps.2 p.slot p.value (o.active (e ∙ sym keeps.0)) (o.value (e ∙ sym keeps.0));
}

asked_cases : {C : Type 0} (ls out : List (Letter C)) (p : Pvalue C) → Asked (ls ++ out) p → Asked ls p ⊎ Asked out p
asked_cases {C} ls out p a = ⊎_elim (λ (i : In a.0 ls). inl (a.0, i, a.2)) (λ (i : In a.0 out). inr (a.0, i, a.2)) (In-cases a.0 ls out a.1)

module _ (laws : BallotLaws) {C : Type 0} (k : Cluster C) (i : IsSound k) (n : ℕ)
    (member : is_member k.members n ≡ true) (x : NodeState C) (out : List (Letter C)) where
  pub here : node (turned k n x out) n ≡ x
  here = let b = member_bounds k.members n member in let h = i.size in node_put_same k.members k.nodes n x b.0 (omega arith)

  pub there : (m : ℕ) → m ≢ n → node (turned k n x out) m ≡ node k m
  there m apart = node_put_other k.members k.nodes n x m apart

  pub turn_grows : AcceptorGrows (node k n).acceptor x.acceptor → Grows k (turned k n x out)
  turn_grows a = record {
    members = refl;
    letters = λ l h. In-left l k.letters out h;
    acceptors = λ m. ⊎_elim
        (λ (e : m ≡ n). subst (λ z. AcceptorGrows (node k z).acceptor (node (turned k n x out) z).acceptor) (sym e)
        (subst (λ (y : NodeState C). AcceptorGrows (node k n).acceptor y.acceptor) (sym here) a))
        (λ (apart : m ≢ n). subst (λ (y : NodeState C). AcceptorGrows (node k m).acceptor y.acceptor) (sym (there m apart)) (stays (node k m).acceptor))
        (cases_eq m n);
  }

  module _ (a : AcceptorGrows (node k n).acceptor x.acceptor) (moves : Moves (node k n) x)
      (own : Each (λ l. IsOwn x.leader l.body) out) (fine : Grows k (turned k n x out) → IsNode (turned k n x out) n x)
      (fair : Grows k (turned k n x out) → Each (IsFair (turned k n x out)) out) where
    grown : Grows k (turned k n x out)
    grown = turn_grows a

    own_of : (p : Pvalue C) → Asked out p → (p.ballot ≡ x.leader.ballot) × (x.leader.active ≡ true) × (get x.leader.proposals p.slot ≡ Some p.value)
    own_of p q = Each-at (λ l. IsOwn x.leader l.body) out q.0 own q.1 p q.2

    owned_old : (p : Pvalue C) → Asked k.letters p → IsOwned (node (turned k n x out) p.ballot.node) p
    owned_old p q = ⊎_elim
        (λ (e : p.ballot.node ≡ n). subst (λ m. IsOwned (node (turned k n x out) m) p) (sym e)
        (subst (λ (y : NodeState C). IsOwned y p) (sym here)
        (owned_moves (node k n) x p (fine grown).boot moves (subst (λ m. IsOwned (node k m) p) e (i.owned p q)))))
        (λ (apart : p.ballot.node ≢ n). subst (λ (y : NodeState C). IsOwned y p) (sym (there p.ballot.node apart)) (i.owned p q))
        (cases_eq p.ballot.node n)

    owned_new : (p : Pvalue C) → Asked out p → IsOwned (node (turned k n x out) p.ballot.node) p
    owned_new p q =
        let o = own_of p q in
        subst (λ m. IsOwned (node (turned k n x out) m) p) (sym (ap (λ b. b.node) o.0 ∙ (fine grown).owner))
        (subst (λ (y : NodeState C). IsOwned y p) (sym here) (record {
          boot = let e = ap (λ b. b.boot) o.0 ∙ (fine grown).boot in omega arith;
          round = λ _. let e = ap (λ b. b.round) o.0 in omega arith;
          active = λ _. o.1;
          value = λ _. o.2;
        }))

    now_owned : (p : Pvalue C) → Asked (k.letters ++ out) p → IsOwned (node (turned k n x out) p.ballot.node) p
    now_owned p q = ⊎_elim (λ (a : Asked k.letters p). owned_old p a) (λ (a : Asked out p). owned_new p a) (asked_cases k.letters out p q)

    -- a new P2a, and any other of its ballot and slot
    unique_new : (p q : Pvalue C) → Asked out p → Asked (k.letters ++ out) q → p.ballot ≡ q.ballot → p.slot ≡ q.slot → p.value ≡ q.value
    unique_new p q ap' aq e f =
        let o = own_of p ap' in
        let w : IsOwned x q = subst (λ (y : NodeState C). IsOwned y q) here
        (subst (λ m. IsOwned (node (turned k n x out) m) q) (ap (λ b. b.node) (sym e ∙ o.0) ∙ (fine grown).owner)
        (now_owned q aq)) in
        let v : get x.leader.proposals q.slot ≡ Some q.value = w.value (sym e ∙ o.0) in
        let u : get x.leader.proposals p.slot ≡ Some p.value = o.2 in
        let t : get x.leader.proposals p.slot ≡ get x.leader.proposals q.slot = ap (λ s. get x.leader.proposals s) f in
        cc

    now_unique : (p q : Pvalue C) → Asked (k.letters ++ out) p → Asked (k.letters ++ out) q → p.ballot ≡ q.ballot → p.slot ≡ q.slot → p.value ≡ q.value
    now_unique p q ap' aq e f =
        ⊎_elim
        (λ (op : Asked k.letters p). ⊎_elim
        (λ (oq : Asked k.letters q). i.unique p q op oq e f)
        (λ (nq : Asked out q). sym (unique_new q p nq ap' (sym e) (sym f)))
        (asked_cases k.letters out q aq))
        (λ (np : Asked out p). unique_new p q np aq e f)
        (asked_cases k.letters out p ap')

    now_safe : (p : Pvalue C) → Asked (k.letters ++ out) p → IsSafe (turned k n x out) p.ballot p.slot p.value
    now_safe p q =
        ⊎_elim
        (λ (old : Asked k.letters p). safe_stays laws k (turned k n x out) grown p.ballot p.slot p.value (i.safe p old))
        (λ (new : Asked out p). let o =
        own_of p new in subst (λ b. IsSafe (turned k n x out) b p.slot p.value) (sym o.0)
        ((fine grown).leader.safe o.1 p.slot p.value (inr o.2)))
        (asked_cases k.letters out p q)

    now_node : (m : ℕ) → IsNode (turned k n x out) m (node (turned k n x out) m)
    now_node m = ⊎_elim
        (λ (e : m ≡ n). subst (λ z. IsNode (turned k n x out) z (node (turned k n x out) z)) (sym e)
        (subst (λ (y : NodeState C). IsNode (turned k n x out) n y) (sym here) (fine grown)))
        (λ (apart : m ≢ n). subst (λ (y : NodeState C). IsNode (turned k n x out) m y) (sym (there m apart))
        (node_stays laws k (turned k n x out) grown m (node k m) (i.nodes m)))
        (cases_eq m n)

    now_sound : IsSound (turned k n x out)
    now_sound = record {
      size = length-put k.nodes n x ∙ i.size;
      owned = now_owned;
      unique = now_unique;
      safe = now_safe;
      nodes = now_node;
      letters = Each-append (IsFair (turned k n x out)) k.letters out
          (Each-weaker (IsFair k) (IsFair (turned k n x out))
          (λ l h. fair_stays laws k (turned k n x out) grown l h) k.letters i.letters) (fair grown);
    }

    pub turn_sound : Kept k (turned k n x out)
    turn_sound = record { grows = grown; sound = now_sound }
