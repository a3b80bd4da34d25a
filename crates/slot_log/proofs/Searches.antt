-- The first number of a range that passes a test.
use Rattle.std.proofs.Common.{◌≡◌, ℕ, zero, suc, ◌+◌, ◌<◌, ◌≤◌, Bool, true, false, cond, None, Some, refl, sym, ap, ◌∙◌, inl, inr, arith}
use Rattle.std.proofs.lemmas.Bool.{cases_order, cond-true, cond-false}
use Rattle.std.proofs.lemmas.Option.{same_Some}
use Rattle.std.specs.List.{find, range_with_len}

module _ (test : ℕ → Bool) where
  pub find_at : (a n s : ℕ) → a ≤ s → s < a + n → ((t : ℕ) → a ≤ t → t < s → test t ≡ false) → test s ≡ true → find test (range_with_len a n) ≡ Some s
  find_at a zero s low high before here = absurd (omega arith)
  find_at a (suc n) s low high before here =
      elim (cases_order a s) as (λ _. cond (test a) (Some a) (find test (range_with_len (a + 1) n)) ≡ Some s) [
        | inl same ↦ cond-true (test a) (Some a) (find test (range_with_len (a + 1) n)) (ap test same ∙ here) ∙ ap (λ x. Some x) same
        | inr apart ↦ elim apart as (λ _. cond (test a) (Some a) (find test (range_with_len (a + 1) n)) ≡ Some s) [
          | inl less ↦ cond-false (test a) (Some a) (find test (range_with_len (a + 1) n)) (before a (omega arith) less)
              ∙ find_at (a + 1) n s (omega arith) (omega arith) (λ t l h. before t (omega arith) h) here
          | inr more ↦ absurd (omega arith)
        ]
      ]

  pub find_none : (a n : ℕ) → ((t : ℕ) → a ≤ t → t < a + n → test t ≡ false) → find test (range_with_len a n) ≡ None
  find_none a zero all = refl
  find_none a (suc n) all =
      cond-false (test a) (Some a) (find test (range_with_len (a + 1) n)) (all a (omega arith) (omega arith))
      ∙ find_none (a + 1) n (λ t l h. all t (omega arith) (omega arith))

  -- what is found
  pub record IsFirst (a n s : ℕ) : Type 0 where
    pub low : a ≤ s
    pub high : s < a + n
    pub before : (t : ℕ) → a ≤ t → t < s → test t ≡ false
    pub here : test s ≡ true

  pub first_is : (a n s : ℕ) → find test (range_with_len a n) ≡ Some s → IsFirst a n s
  first_is a zero s found = cc
  first_is a (suc n) s found =
      elim (test a) as (λ b. test a ≡ b → cond b (Some a) (find test (range_with_len (a + 1) n)) ≡ Some s → IsFirst a (suc n) s) [
        | true ↦ λ h e.
            let same : a ≡ s = same_Some a s e in
            record { low = omega arith; high = omega arith; before = λ t l m. absurd (omega arith); here = ap test (sym same) ∙ h }
        | false ↦ λ h e.
            let rest = first_is (a + 1) n s e in
            record {
              low = let l = rest.low in omega arith;
              high = let l = rest.high in omega arith;
              before = λ t l m. elim (cases_order a t) as (λ _. test t ≡ false) [
                | inl same ↦ ap test (sym same) ∙ h
                | inr apart ↦ elim apart as (λ _. test t ≡ false) [ inl less ↦ rest.before t (omega arith) m | inr more ↦ absurd (omega arith) ]
              ];
              here = rest.here;
            }
      ] refl found
