-- What holds of each item of a list, as far as the list was gone over.
use Rattle.std.proofs.Common.{◌≡◌, ◌<◌, ◌≤◌, ◌+◌, ℕ, zero, suc, List, [], ◌∷◌, ◌++◌, length, get_or, take, drop, add-one, sym, subst, arith}
use Rattle.std.proofs.lemmas.List.{take_all}
use Rattle.std.specs.List.{AllByRecursion}

-- of two lists one after the other
pub all_both : {A : Type 0} (P : A → Type 0) (xs ys : List A) → AllByRecursion P xs → AllByRecursion P ys → AllByRecursion P (xs ++ ys)
all_both P [] ys h k = k
all_both P (x ∷ xs) ys h k = (h.0, all_both P xs ys h.1 k)

all_suc : {A : Type 0} (P : A → Type 0) (xs : List A) (n : ℕ) (d : A) → n < length xs → AllByRecursion P (take n xs)
    → P (get_or xs n d) → AllByRecursion P (take (suc n) xs)
all_suc P [] n d inside h p = absurd (omega (arith, inside))
all_suc P (y ∷ xs) zero d inside h p = (p, tt)
all_suc P (y ∷ xs) (suc n) d inside h p = (h.0, all_suc P xs n d (omega (arith, inside)) h.1 p)

-- of the next item, too
pub all_next_or : {A : Type 0} (P : A → Type 0) (xs : List A) (n : ℕ) (d : A) → n < length xs
    → AllByRecursion P (take n xs) → P (get_or xs n d) → AllByRecursion P (take (n + 1) xs)
all_next_or P xs n d inside h p = subst (λ m. AllByRecursion P (take m xs)) (sym (add-one n)) (all_suc P xs n d inside h p)

pub all_next : {A : Type 0} (P : A → Type 0) (xs : List A) (n : ℕ) (x : A) → n < length xs → x ≡ get_or xs n x
    → AllByRecursion P (take n xs) → P x → AllByRecursion P (take (n + 1) xs)
all_next P xs n x inside same h p = all_next_or P xs n x inside h (subst P same p)

-- of some next items, too
pub all_joined : {A : Type 0} (P : A → Type 0) (xs : List A) (n m : ℕ) → AllByRecursion P (take n xs)
    → AllByRecursion P (take m (drop n xs)) → AllByRecursion P (take (n + m) xs)
all_joined {A} P [] zero m h k = let e : m ≡ zero + m = omega arith in subst (λ i. AllByRecursion P (take {A = A} i [])) e k
all_joined P (x ∷ xs) zero m h k = let e : m ≡ zero + m = omega arith in subst (λ i. AllByRecursion P (take i (x ∷ xs))) e k
all_joined {A} P [] (suc n) m h k = let e : suc (n + m) ≡ suc n + m = omega arith in subst (λ i. AllByRecursion P (take {A = A} i [])) e tt
all_joined P (x ∷ xs) (suc n) m h k = let e : suc (n + m) ≡ suc n + m =
    omega arith in subst (λ i. AllByRecursion P (take i (x ∷ xs))) e (h.0, all_joined P xs n m h.1 k)

-- of all of them
pub all_through : {A : Type 0} (P : A → Type 0) (xs : List A) (n : ℕ) → length xs ≤ n → AllByRecursion P (take n xs) → AllByRecursion P xs
all_through P xs n long h = subst (AllByRecursion P) (take_all n xs long) h
