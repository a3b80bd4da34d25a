-- What a command more makes of a hall's book.
use Rattle.std.proofs.Common.{◌≡◌, ℕ, zero, suc, ◌+◌, ◌<◌, true, List, [], ◌∷◌, length, sum, refl, ap, ◌∙◌, arith}
use Rattle.std.specs.Prelude.{slice_set, slice_index_or}
use Rattle.std.proofs.lemmas.List.Sums.{sum_by-set}
use Rattle.std.proofs.lemmas.Bool.Decides.{nat_tests}
use Rattle.hall.specs.Books.{is_opened, last_number, with_number}

one_more : (xs : List ℕ) (i : ℕ) → i < length xs → sum (slice_set xs i (slice_index_or xs i 0 + 1)) ≡ sum xs + 1
one_more xs i within = let changed = sum_by-set (λ x. x) xs i (slice_index_or xs i 0 + 1) 0 within in omega (arith, changed)

same_length : (xs : List ℕ) (i n : ℕ) → length (slice_set xs i n) ≡ length xs
same_length [] i n = refl
same_length (x ∷ xs) zero n = refl
same_length (x ∷ xs) (suc i) n = ap suc (same_length xs i n)

within : (book : List ℕ) (i : ℕ) → is_opened book (suc i) ≡ true → i < length book
within book i e = grind (arith, nat_tests)

pub book_sum : (book : List ℕ) (session number : ℕ) → is_opened book session ≡ true
    → number ≡ last_number book session + 1 → sum (with_number book session number) ≡ sum book + 1
book_sum book zero number opened next = absurd (cc)
book_sum book (suc i) number opened next = ap (λ n. sum (slice_set book i n)) next ∙ one_more book i (within book i opened)

pub book_length : (book : List ℕ) (session number : ℕ) → length (with_number book session number) ≡ length book
book_length book zero number = refl
book_length book (suc i) number = same_length book i number
