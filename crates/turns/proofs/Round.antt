-- Nodes that take turns one after the other, and how many of the last ones had nothing to do.
use Rattle.std.proofs.Common.{◌≡◌, ◌≤◌, ◌<◌, ◌+◌, ◌⊎◌, ⊎_elim, inl, inr, ℕ, sym, ap, ◌∙◌, subst, arith}
use Rattle.std.proofs.lemmas.Bool.{cases_eq, cases_lt}
use Rattle.hall.specs.declared.work.Work.{Work}
use Rattle.turns.specs.Working.{no_work}

-- It is the turn of one of so many nodes. So many nodes before it have nothing to do: those with a lower number, and then from the
-- last node down.
pub record IsRound (count node calm : ℕ) (work : ℕ → Work) : Type 0 where
  pub low : 1 ≤ node
  pub high : 1 ≤ count → node ≤ count
  pub before : (k : ℕ) → 1 ≤ k → k ≤ count → k < node → node ≤ k + calm → work k ≡ no_work
  pub behind : (k : ℕ) → 1 ≤ k → k ≤ count → node ≤ k → node + count ≤ k + calm → work k ≡ no_work

-- the node had something to do, and none counts as calm; or it hadn't, and at most one more does
abbrev pub TakesTurn : ℕ → ℕ → ℕ → (ℕ → Work) → (ℕ → Work) → Type 0
TakesTurn node calm more work after = (more ≡ 0) ⊎ ((more ≤ calm + 1) × (after ≡ work) × (work node ≡ no_work))

-- then it is the turn of the node behind it, or of the first one
abbrev pub IsNext : ℕ → ℕ → ℕ → Type 0
IsNext count node next = ((node < count) × (next ≡ node + 1)) ⊎ ((count ≤ node) × (next ≡ 1))

-- nothing is known where none counts as calm
pub fresh_round : (count node calm : ℕ) (work : ℕ → Work) → calm ≡ 0 → 1 ≤ node → (1 ≤ count → node ≤ count) → IsRound count node calm work
fresh_round count node calm work none low high = record {
  low = low;
  high = high;
  before = λ k above below lower near. absurd (omega (arith, lower, near, none));
  behind = λ k above below upper near. absurd (omega (arith, low, below, near, none));
}

module _ (count node calm more : ℕ) (work : ℕ → Work) (is : IsRound count node calm work) (here : work node ≡ no_work) (one : more ≤ calm + 1) where
  at_node : (k : ℕ) → k ≡ node → work k ≡ no_work
  at_node k e = ap work e ∙ here

  -- this node has nothing to do either
  next_round : node < count → IsRound count (node + 1) more work
  next_round within = record {
    low = omega arith;
    high = λ some. omega (arith, within);
    before = λ k above below lower near. ⊎_elim
        (λ (e : k ≡ node). at_node k e)
        (λ apart. is.before k above below (omega (arith, lower, apart)) (omega (arith, near, one)))
        (cases_eq k node);
    behind = λ k above below upper near. is.behind k above below (omega (arith, upper)) (omega (arith, near, one));
  }

  first_again : count ≤ node → IsRound count 1 more work
  first_again last = record {
    low = omega arith;
    high = λ some. some;
    before = λ k above below lower near. absurd (omega (arith, above, lower));
    behind = λ k above below upper near.
        let high = is.high in
        ⊎_elim
        (λ (e : k ≡ node). at_node k e)
        (λ apart. is.before k above below (omega (arith, below, last, apart)) (omega (arith, above, below, high, near, one)))
        (cases_eq k node);
  }

  all_calm : count ≤ more → (k : ℕ) → 1 ≤ k → k ≤ count → work k ≡ no_work
  all_calm enough k above below =
      let high = is.high in
      ⊎_elim
      (λ (e : k ≡ node). at_node k e)
      (λ apart. ⊎_elim
      (λ (lower : k < node). is.before k above below lower (omega (arith, above, below, high, enough, one)))
      (λ (upper : node ≤ k). is.behind k above below upper (omega (arith, upper, apart, enough, one)))
      (cases_lt k node))
      (cases_eq k node)

module _ (count node calm more : ℕ) (work after : ℕ → Work) (is : IsRound count node calm work) where
  -- it goes on with the next node
  pub goes_round : (next : ℕ) → TakesTurn node calm more work after → IsNext count node next → IsRound count next more after
  goes_round next (inl none) (inl within) = fresh_round count next more after none (omega (arith, within)) (λ some. omega (arith, within))
  goes_round next (inl none) (inr last) = fresh_round count next more after none (omega (arith, last)) (λ some. omega (arith, last, some))
  goes_round next (inr idle) (inl within) =
      subst (λ w. IsRound count next more w) (sym idle.1)
      (subst (λ n. IsRound count n more work) (sym within.1) (next_round count node calm more work is idle.2 idle.0 within.0))
  goes_round next (inr idle) (inr last) =
      subst (λ w. IsRound count next more w) (sym idle.1)
      (subst (λ n. IsRound count n more work) (sym last.1) (first_again count node calm more work is idle.2 idle.0 last.0))

  -- and where as many count as calm as there are, none has anything to do
  pub none_works : TakesTurn node calm more work after → count ≤ more → (k : ℕ) → 1 ≤ k → k ≤ count → after k ≡ no_work
  none_works (inl none) enough k above below = absurd (omega (arith, none, enough, above, below))
  none_works (inr idle) enough k above below = ap (λ (w : ℕ → Work). w k) idle.1 ∙ all_calm count node calm more work is idle.2 idle.0 enough k above below
