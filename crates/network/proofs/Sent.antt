-- Who the letters are from and to that a node sends.
use Rattle.std.proofs.Common.{◌≡◌, inl, inr, ⊎_elim, ℕ, zero, suc, ◌+◌, ◌<◌, ◌≤◌, true, List, [], ◌∷◌, map, length, refl, sym, subst, arith}
use Rattle.std.specs.List.{range_with_len}
use Rattle.std.proofs.lemmas.Bool.Decides.{nat_tests}
use Rattle.object.specs.Lists.{In}
use Rattle.object.specs.ListLaws.{In-cases}
use Rattle.ballot.specs.Letters.{letter, to_all, all_to_all}
use Rattle.ballot.specs.Members.{is_member, numbers}
use Rattle.ballot.specs.declared.letter.LetterBody.{LetterBody}
use Rattle.ballot.specs.declared.letter.Letter.{Letter}
use Rattle.network.specs.Posting.{IsBetween}

pub of_map : {A B : Type 0} (f : A → B) (y : B) (xs : List A) → In y (map f xs) → (x : A) × In x xs × (y ≡ f x)
of_map f y [] at = absurd at
of_map f y (x ∷ xs) (inl e) = (x, inl refl, e)
of_map f y (x ∷ xs) (inr at) = let r = of_map f y xs at in (r.0, inr r.1, r.2)

of_range : (len base m : ℕ) → In m (range_with_len base len) → (base ≤ m) × (m < base + len)
of_range zero base m at = absurd at
of_range (suc len) base m (inl e) = (omega arith, omega arith)
of_range (suc len) base m (inr at) = let h = of_range len (base + 1) m at in (omega (arith, h.0), omega (arith, h.1))

-- the numbers of members
pub among_numbers : (members : List ℕ) (m : ℕ) → In m (numbers members) → (1 ≤ m) × (m ≤ length members)
among_numbers members m at = let h = of_range (length members) 1 m at in (omega (arith, h.0), omega (arith, h.1))

pub member_bounds : (members : List ℕ) (n : ℕ) → is_member members n ≡ true → (1 ≤ n) × (n ≤ length members)
member_bounds members n h = (grind (arith, nat_tests), grind (arith, nat_tests))

-- what is sent to all is between members
pub sent_to_all : {C : Type 0} (members : List ℕ) (n : ℕ) (bodies : List (LetterBody C)) → is_member members n ≡ true
    → (l : Letter C) → In l (all_to_all members n bodies) → IsBetween (length members) l
sent_to_all members n [] member l at = absurd at
sent_to_all {C} members n (b ∷ bs) member l at = ⊎_elim
    (λ (h : In l (to_all members n b)).
    let s = of_map (letter n b) l (numbers members) h in
    subst (IsBetween (length members)) (sym s.2) (record { sender = member_bounds members n member; receiver = among_numbers members s.0 s.1 }))
    (λ (h : In l (all_to_all members n bs)). sent_to_all members n bs member l h)
    (In-cases l (to_all members n b) (all_to_all members n bs) at)
