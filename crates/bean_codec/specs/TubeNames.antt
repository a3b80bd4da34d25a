-- The names of tubes among the words of a line. What a name is, `IsName` says; that it can be told of any word, what follows.
use Rattle.std.proofs.Common.{◌≡◌, ℕ, ◌<◌, ◌≤◌, ◌⊎◌, inl, inr, List, [], ◌∷◌, length, Option, Some, None, codes, refl, subst, sym, arith}
use Rattle.std.proofs.lemmas.Bool.{cases_eq, cases_lt}
use Rattle.object.specs.Lists.{In}
use Rattle.bean_words.specs.Names.{IsName, IsNameByte, AreNameBytes}

-- it is so, or it is not
abbrev pub Decided : Type 0 → Type 0
Decided P = P ⊎ (P → ⊥)

both : {P Q : Type 0} → Decided P → Decided Q → Decided (P × Q)
both (inl p) (inl q) = inl (p, q)
both (inl p) (inr n) = inr (λ h. n h.1)
both (inr n) d = inr (λ h. n h.0)

neither : {P Q : Type 0} → (P → ⊥) → (Q → ⊥) → P ⊎ Q → ⊥
neither p q (inl h) = p h
neither p q (inr h) = q h

either : {P Q : Type 0} → Decided P → Decided Q → Decided (P ⊎ Q)
either (inl p) d = inl (inl p)
either (inr n) (inl q) = inl (inr q)
either (inr n) (inr m) = inr (neither n m)

above : (m n : ℕ) → n < m → m ≤ n → ⊥
above m n less h = omega arith

at_most : (m n : ℕ) → Decided (m ≤ n)
at_most m n =
    elim (cases_lt n m) as (λ v. Decided (m ≤ n)) [ inl less ↦ inr (above m n less) | inr below ↦ inl below ]

between : (low high b : ℕ) → Decided ((low ≤ b) × (b ≤ high))
between low high b = both (at_most low b) (at_most b high)

member : (b : ℕ) (bytes : List ℕ) → Decided (In b bytes)
member b [] = inr (λ h. h)
member b (c ∷ bytes) = either (cases_eq b c) (member b bytes)

name_byte : (b : ℕ) → Decided (IsNameByte b)
name_byte b = either (between 65 90 b) (either (between 97 122 b) (either (between 48 57 b) (member b (codes "-+/;.$_()"))))

one_more : (c : ℕ) (bytes : List ℕ) → IsNameByte c × AreNameBytes bytes → AreNameBytes (c ∷ bytes)
one_more c bytes so b (inl same) = subst IsNameByte (sym same) so.0
one_more c bytes so b (inr later) = so.1 b later

one_less : (c : ℕ) (bytes : List ℕ) → AreNameBytes (c ∷ bytes) → IsNameByte c × AreNameBytes bytes
one_less c bytes all = (all c (inl refl), λ b h. all b (inr h))

name_bytes : (bytes : List ℕ) → Decided (AreNameBytes bytes)
name_bytes [] = inl (λ b h. absurd h)
name_bytes (c ∷ bytes) =
    elim (both (name_byte c) (name_bytes bytes)) as (λ v. Decided (AreNameBytes (c ∷ bytes))) [
      | inl so ↦ inl (one_more c bytes so)
      | inr fails ↦ inr (λ all. fails (one_less c bytes all))
    ]

no_byte : IsName [] → ⊥
no_byte name = let some = name.some in omega arith

hyphen : (c : ℕ) (bytes : List ℕ) → c ≡ 45 → IsName (c ∷ bytes) → ⊥
hyphen c bytes same name = name.first cc

named : (c : ℕ) (bytes : List ℕ) → (c ≡ 45 → ⊥) → (length (c ∷ bytes) ≤ 200) × AreNameBytes (c ∷ bytes) → IsName (c ∷ bytes)
named c bytes other so = record { some = omega arith; few = so.0; bytes = so.1; first = λ h. other cc }

-- whether the word is a name
pub name_rule : (word : List ℕ) → Decided (IsName word)
name_rule [] = inr no_byte
name_rule (c ∷ bytes) =
    elim (both (at_most (length (c ∷ bytes)) 200) (name_bytes (c ∷ bytes))) as (λ v. Decided (IsName (c ∷ bytes))) [
      | inl so ↦ elim (cases_eq c 45) as (λ v. Decided (IsName (c ∷ bytes))) [
        | inl same ↦ inr (hyphen c bytes same)
        | inr other ↦ inl (named c bytes other so)
      ]
      | inr fails ↦ inr (λ name. fails (name.few, name.bytes))
    ]

-- the word, where it is so
abbrev pub word_if : {P : Type 0} → List ℕ → Decided P → Option (List ℕ)
word_if word (inl holds) = Some word
word_if word (inr fails) = None

-- the name that the word is, if it is one
unfoldable pub name_of : List ℕ → Option (List ℕ)
name_of word = word_if word (name_rule word)
