-- Members that are gone over in rising number, until one passes a test.
use Rattle.std.proofs.Common.{◌≡◌, ◌⊎◌, ⊎_elim, ℕ, ◌+◌, ◌≤◌, Bool, true, false, true≢false, List, length, Some, None, refl, sym, subst, arith}
use Rattle.std.specs.Prelude.{◌&&◌, not}
use Rattle.std.proofs.lemmas.Bool.Decides.{nat_tests}
use Rattle.ballot.specs.Members.{is_member}
use Rattle.simulated_hall.specs.Driving.{IsFirstMember}

-- no member up to here passes it
abbrev pub NonePasses : List ℕ → (ℕ → Bool) → ℕ → Type 0
NonePasses members test n = (m : ℕ) → is_member members m ≡ true → m ≤ n → test m ≡ false

member_passes : (member passes : Bool) → (not (not member) && passes) ≡ true → (member ≡ true) × (passes ≡ true)
member_passes true passes e = (refl, e)
member_passes false passes e = absurd (true≢false (sym e))

member_fails : (member passes : Bool) → (not (not member) && passes) ≡ false → member ≡ true → passes ≡ false
member_fails true passes e is = e
member_fails false passes e is = absurd (true≢false (sym is))

at_most_next : (m n : ℕ) → m ≤ n + 1 → (m ≤ n) ⊎ (m ≡ n + 1)
at_most_next m n most = grind arith

-- nor the next
pub none_next : (members : List ℕ) (test : ℕ → Bool) (n : ℕ) → NonePasses members test n
    → (not (not (is_member members (n + 1))) && test (n + 1)) ≡ false → NonePasses members test (n + 1)
none_next members test n none fails = λ m is most. ⊎_elim
    (λ (less : m ≤ n). none m is less)
    (λ (same : m ≡ n + 1). subst (λ k. test k ≡ false) (sym same)
    (member_fails (is_member members (n + 1)) (test (n + 1)) fails
    (subst (λ k. is_member members k ≡ true) same is)))
    (at_most_next m n most)

-- or it does
pub passes_first : (members : List ℕ) (test : ℕ → Bool) (n : ℕ) → NonePasses members test n
    → (not (not (is_member members (n + 1))) && test (n + 1)) ≡ true → IsFirstMember members test (Some (n + 1))
passes_first members test n none passes =
    let both = member_passes (is_member members (n + 1)) (test (n + 1)) passes in
    (both.0, both.1, λ m is less. none m is (omega (arith, less)))

no_greater : (members : List ℕ) (m : ℕ) → is_member members m ≡ true → m ≤ length members
no_greater members m is = grind (arith, nat_tests)

-- and where all were gone over, none does
pub passes_none : (members : List ℕ) (test : ℕ → Bool) (n : ℕ) → length members ≤ n → NonePasses members test n → IsFirstMember members test None
passes_none members test n all none = λ m is. let most = no_greater members m is in none m is (omega (arith, most, all))
