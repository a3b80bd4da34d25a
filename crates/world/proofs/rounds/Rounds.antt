-- How a round begins and ends.
use Rattle.std.proofs.Common.{◌≡◌, ◌⊎◌, inl, inr, ℕ, zero, suc, ◌+◌, ◌*◌, ◌/◌, ◌<◌, ◌≤◌, Bool, true, false, true≢false}
use Rattle.std.proofs.Common.{cond, List, [], ◌∷◌, ◌++◌, length, Option, None, Some, refl, sym, ap, ap₂, ◌∙◌}
use Rattle.std.proofs.Common.{subst, arith}
use Rattle.std.specs.Prelude.{slice_get, slice_index_or, sum}
use Rattle.std.specs.List.{list_all}
use Rattle.std.specs.FinMap.{get, entries}
use Rattle.std.proofs.lemmas.Bool.{and_parts, le-leb, leb-true}
use Rattle.std.proofs.lemmas.Bool.Decides.{nat_tests}
use Rattle.std.proofs.lemmas.List.{length-append, length-map}
use Rattle.std.proofs.lemmas.List.FromFn.{length-range_with_len}
use Rattle.std.proofs.lemmas.List.Sums.{sum_by-cons}
use Rattle.object.specs.Lists.{In}
use Rattle.object.specs.ListLaws.{Each-at, In-left, In-right, In-cases, In-map}
use Rattle.ballot.specs.Letters.{letter, to_all, all_to_all}
use Rattle.ballot.specs.Members.{IsMembers, is_member, is_weight, is_majority, majority, numbers, has, weigh}
use Rattle.ballot.specs.declared.letter.Letter.{Letter}
use Rattle.ballot.specs.declared.letter.LetterBody.{LetterBody}
use Rattle.ballot.specs.declared.letter.LetterBody.TheVariants.{P1a, P2a}
use Rattle.acceptor.proofs.Memberships.{made_of}
use Rattle.node.specs.SlotLaws.{entries_get, get_entries}
use Rattle.scout_commander.specs.Scouts.{Scouting}
use Rattle.scout_commander.specs.Commanders.{Commanding}
use Rattle.leader.specs.Leaders.{Leading, scout_says, says_again}
use Rattle.agreement.proofs.chosen.Sets.{numbers_members}
use Rattle.world.proofs.rounds.Talking.{still_at}

-- where an element of a list stands
pub place_of : {A : Type 0} (xs : List A) (x : A) → In x xs → (i : ℕ) × (i < length xs) × (slice_get xs i ≡ Some x)
place_of [] x within = absurd within
place_of (y ∷ ys) x (inl e) = (0, omega arith, ap (λ z. Some z) (sym e))
place_of (y ∷ ys) x (inr within) = let h = place_of ys x within in (suc h.0, (let a = h.1 in omega arith), h.2)

-- in a list with others before and behind it
pub amid : {A : Type 0} (front xs behind : List A) (i j : ℕ) (x : A) → j ≡ length front + i → slice_get xs i ≡ Some x
    → slice_get (front ++ (xs ++ behind)) j ≡ Some x
amid [] xs behind i j x at e = subst (λ k. slice_get (xs ++ behind) k ≡ Some x) (omega arith) (still_at xs behind i x e)
amid (y ∷ front) xs behind i zero x at e = absurd (omega arith)
amid (y ∷ front) xs behind i (suc j) x at e = amid front xs behind i j x (omega arith) e

pub at_some : {A : Type 0} (xs : List A) (i : ℕ) → i < length xs → (x : A) × (slice_get xs i ≡ Some x)
at_some [] i h = absurd (omega arith)
at_some (x ∷ xs) zero h = (x, refl)
at_some (x ∷ xs) (suc i) h = at_some xs i (omega arith)

-- what bodies to all are
pub all_length : {C : Type 0} (ms : List ℕ) (n : ℕ) (bodies : List (LetterBody C)) → length (all_to_all ms n bodies) ≡ length ms * length bodies
all_length ms n [] = grind (arith)
all_length ms n (b ∷ bs) = length-append (to_all ms n b) (all_to_all ms n bs)
    ∙ product (length (to_all ms n b)) (length (all_to_all ms n bs)) (length ms) (length bs)
    (length-map (numbers ms) (letter n b) ∙ length-range_with_len 1 (length ms)) (all_length ms n bs)
  where
    product : (a c m k : ℕ) → a ≡ m → c ≡ m * k → a + c ≡ m * suc k
    product a c m k p q = ap₂ (λ x y. x + y) p q ∙ grind (arith)

pub from_all : {C : Type 0} (ms : List ℕ) (n : ℕ) (bodies : List (LetterBody C)) (l : Letter C)
    → In l (all_to_all ms n bodies) → (body : LetterBody C) × In body bodies
    × ((m : ℕ) × (is_member ms m ≡ true) × (l ≡ letter n body m))
from_all ms n [] l within = absurd within
from_all {C} ms n (b ∷ bs) l within =
    elim (In-cases l (to_all ms n b) (all_to_all ms n bs) within) as (λ v. (body : LetterBody C) × In body (b ∷ bs)
    × ((m : ℕ) × (is_member ms m ≡ true) × (l ≡ letter n body m))) [
      | inl here ↦ let h = made_of (letter n b) l (numbers ms) here in (b, inl refl, (h.0, numbers_members ms h.0 h.1, h.2))
      | inr later ↦ let h = from_all ms n bs l later in (h.0, inr h.1, h.2)
    ]

-- all members together are a majority
weigh_all : (ws : List ℕ) (row : List Bool) → ((i : ℕ) → i < length ws → slice_index_or row i false ≡ true) → weigh ws row ≡ sum ws
weigh_all [] row h = refl
weigh_all (w ∷ ws) [] h = absurd (true≢false (sym (h 0 (omega arith))))
weigh_all (w ∷ ws) (b ∷ row) h =
    ap₂ (λ x y. x + y) (ap (λ t. cond t w 0) (h 0 (omega arith)))
    (weigh_all ws row (λ i low. h (suc i) (omega arith))) ∙ sym (sum_by-cons (λ x. x) w ws)

some_weight : (w : ℕ) → is_weight w ≡ true → 1 ≤ w
some_weight w e = grind (arith, nat_tests)

some_total : (ws : List ℕ) → IsMembers ws → 1 ≤ sum ws
some_total [] is = let h = is.some in absurd (omega arith)
some_total (w ∷ ws) is =
    let one = some_weight w (and_parts (is_weight w) (list_all is_weight ws) is.each).0 in
    let e = sum_by-cons (λ x. x) w ws in
    let h : sum (w ∷ ws) ≡ w + sum ws = e in
    omega arith

half : (s : ℕ) → 1 ≤ s → s / 2 + 1 ≤ s
half s h = omega arith

pub everyone : (ws : List ℕ) → IsMembers ws → (row : List Bool) → ((m : ℕ) → is_member ws m ≡ true → has row m ≡ true) → is_majority ws row ≡ true
everyone ws is row h =
    let total = weigh_all ws row (λ i low. h (suc i) (grind (arith, nat_tests))) in
    let few = half (sum ws) (some_total ws is) in
    le-leb (majority ws) (weigh ws row) (subst (λ t. majority ws ≤ t) (sym total) few)

-- a row that has all members of a majority is one
weigh_members : (ws : List ℕ) (a b : List Bool)
    → ((i : ℕ) → i < length ws → slice_index_or a i false ≡ true → slice_index_or b i false ≡ true)
    → weigh ws a ≤ weigh ws b
weigh_members [] a b h = omega arith
weigh_members (w ∷ ws) [] b h = omega arith
weigh_members (w ∷ ws) (x ∷ a) [] h = let rest = weigh_members ws a [] (λ i low. h (suc i) (omega arith)) in at x (h 0 (omega arith)) rest (weigh_none ws)
  where
    weigh_none : (us : List ℕ) → weigh us [] ≡ 0
    weigh_none [] = refl
    weigh_none (u ∷ us) = refl

    at : (x : Bool) → (x ≡ true → false ≡ true) → weigh ws a ≤ weigh ws [] → weigh ws [] ≡ 0 → cond x w 0 + weigh ws a ≤ 0
    at true e rest none = absurd (true≢false (sym (e refl)))
    at false e rest none = omega arith
weigh_members (w ∷ ws) (x ∷ a) (y ∷ b) h = at x y (h 0 (omega arith)) (weigh_members ws a b (λ i low. h (suc i) (omega arith)))
  where
    at : (x y : Bool) → (x ≡ true → y ≡ true) → weigh ws a ≤ weigh ws b → cond x w 0 + weigh ws a ≤ cond y w 0 + weigh ws b
    at true true e rest = omega arith
    at true false e rest = absurd (true≢false (sym (e refl)))
    at false y e rest = omega arith

pub majority_of_members : (ws : List ℕ) (a b : List Bool)
    → ((m : ℕ) → is_member ws m ≡ true → has a m ≡ true → has b m ≡ true) → is_majority ws a ≡ true
    → is_majority ws b ≡ true
majority_of_members ws a b h e =
    let more = weigh_members ws a b (λ i low. h (suc i) (grind (arith, nat_tests))) in
    let enough = leb-true (majority ws) (weigh ws a) e in
    le-leb (majority ws) (weigh ws b) (omega arith)

-- what a round of a leader says
pub says_cases : {C : Type 0} (l : Leading C) (body : LetterBody C) → In body (says_again l)
    → ((s : Scouting C) × (l.scout ≡ Some s) × (body ≡ P1a s.ballot)) ⊎ ((s : ℕ) × ((c : Commanding C) × (get l.commanders s ≡ Some c) × (body ≡ P2a c.pvalue)))
says_cases {C} l body within =
    elim (In-cases body (scout_says l.scout) _ within) as (λ v.
    ((s : Scouting C) × (l.scout ≡ Some s) × (body ≡ P1a s.ballot))
    ⊎ ((s : ℕ) × ((c : Commanding C) × (get l.commanders s ≡ Some c) × (body ≡ P2a c.pvalue)))) [
      | inl scout ↦ inl (at l.scout scout)
      | inr other ↦ let h = made_of (λ (e : ℕ × Commanding C). P2a e.1.pvalue) body (entries l.commanders) other in
          inr (h.0.0, (h.0.1, Each-at (λ e. get l.commanders e.0 ≡ Some e.1) (entries l.commanders) h.0 (entries_get l.commanders) h.1, h.2))
    ]
  where
    at : (o : Option (Scouting C)) → In body (scout_says o) → (s : Scouting C) × (o ≡ Some s) × (body ≡ P1a s.ballot)
    at None within = absurd within
    at (Some s) (inl e) = (s, refl, e)
    at (Some s) (inr within) = absurd within

pub says_scout : {C : Type 0} (l : Leading C) (s : Scouting C) → l.scout ≡ Some s → In (P1a s.ballot) (says_again l)
says_scout {C} l s is = In-left (P1a s.ballot) (scout_says l.scout) _
    (subst (λ (o : Option (Scouting C)). In (P1a s.ballot) (scout_says o)) (sym is) (inl refl))

pub says_commander : {C : Type 0} (l : Leading C) (s : ℕ) (c : Commanding C) → get l.commanders s ≡ Some c → In (P2a c.pvalue) (says_again l)
says_commander {C} l s c is = In-right (P2a c.pvalue) (scout_says l.scout) _
    (In-map (λ (e : ℕ × Commanding C). P2a e.1.pvalue) (s, c) (entries l.commanders) (get_entries l.commanders s c is))
