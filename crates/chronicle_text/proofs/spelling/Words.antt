-- Lines of plain words: where one ends, and what follows it, can be told from the text.
use Rattle.std.proofs.Common.{◌≡◌, ◌≢◌, ℕ, ◌==◌, ◌&&◌, not, Bool, true, ◌⊎◌, inl, inr, List, [], ◌∷◌, ◌++◌, refl, sym, subst, ◌∙◌, arith, append_assoc}
use Rattle.std.proofs.lemmas.Bool.{and_parts, not-true, eqb-false}
use Rattle.std.specs.List.{AllByRecursion, list_all}
use Rattle.chronicle_text.specs.Lines.{spaced, line}

-- no space and no line feed
abbrev pub IsPlain : ℕ → Type 0
IsPlain b = (b ≢ 32) × (b ≢ 10)

abbrev pub Plain : List ℕ → Type 0
Plain word = AllByRecursion IsPlain word

abbrev pub AllPlain : List (List ℕ) → Type 0
AllPlain words = AllByRecursion Plain words

abbrev plain_byte : ℕ → Bool
plain_byte b = not (b == 32) && not (b == 10)

-- a test that computes for a word that is written out
abbrev pub plain_word : List ℕ → Bool
plain_word word = list_all plain_byte word

byte_by_test : (b : ℕ) → plain_byte b ≡ true → IsPlain b
byte_by_test b h =
    let both = and_parts (not (b == 32)) (not (b == 10)) h in
    (eqb-false b 32 (not-true (b == 32) both.0), eqb-false b 10 (not-true (b == 10) both.1))

pub by_test : (word : List ℕ) → plain_word word ≡ true → Plain word
by_test [] h = tt
by_test (b ∷ word) h =
    let both = and_parts (plain_byte b) (plain_word word) h in (byte_by_test b both.0, by_test word both.1)

-- the text goes on with a space or a line feed
abbrev pub Ends : List ℕ → Type 0
Ends [] = ⊥
Ends (b ∷ rest) = (b ≡ 32) ⊎ (b ≡ 10)

stops : (b : ℕ) → IsPlain b → (b ≡ 32) ⊎ (b ≡ 10) → ⊥
stops b plain (inl space) = plain.0 space
stops b plain (inr feed) = plain.1 feed

pub one_word : (v w x y : List ℕ) → Plain v → Plain w → Ends x → Ends y → v ++ x ≡ w ++ y → (v ≡ w) × (x ≡ y)
one_word [] [] x y p q e f same = (refl, same)
one_word [] (b ∷ w) [] y p q e f same = absurd e
one_word [] (b ∷ w) (c ∷ x) y p q e f same = let first : c ≡ b = cc in absurd (stops b q.0 (subst (λ (n : ℕ). (n ≡ 32) ⊎ (n ≡ 10)) first e))
one_word (a ∷ v) [] x [] p q e f same = absurd f
one_word (a ∷ v) [] x (c ∷ y) p q e f same = let first : c ≡ a = cc in absurd (stops a p.0 (subst (λ (n : ℕ). (n ≡ 32) ⊎ (n ≡ 10)) first f))
one_word (a ∷ v) (b ∷ w) x y p q e f same =
    let rest : v ++ x ≡ w ++ y = cc in
    let first : a ≡ b = cc in
    let t = one_word v w x y p.1 q.1 e f rest in
    let words : v ≡ w = t.0 in
    (cc, t.1)

ends : (words : List (List ℕ)) (x : List ℕ) → Ends (spaced words ++ (10 ∷ x))
ends [] x = inr refl
ends (w ∷ words) x = inl refl

differ : (a b : ℕ) (x y : List ℕ) → (a ≡ b → ⊥) → a ∷ x ≡ b ∷ y → ⊥
differ a b x y other same = other cc

pub one_words : (vs ws : List (List ℕ)) (x y : List ℕ) → AllPlain vs → AllPlain ws → spaced vs ++ (10 ∷ x) ≡ spaced ws ++ (10 ∷ y) → (vs ≡ ws) × (x ≡ y)
one_words [] [] x y p q same = let rest : x ≡ y = cc in (refl, rest)
one_words [] (w ∷ ws) x y p q same = absurd (differ 10 32 x ((w ++ spaced ws) ++ (10 ∷ y)) (λ h. omega arith) same)
one_words (v ∷ vs) [] x y p q same = absurd (differ 32 10 ((v ++ spaced vs) ++ (10 ∷ x)) y (λ h. omega arith) same)
one_words (v ∷ vs) (w ∷ ws) x y p q same =
    let tail : (v ++ spaced vs) ++ (10 ∷ x) ≡ (w ++ spaced ws) ++ (10 ∷ y) = cc in
    let cut = one_word v w (spaced vs ++ (10 ∷ x)) (spaced ws ++ (10 ∷ y)) p.0 q.0 (ends vs x) (ends ws y)
    (sym (append_assoc v (spaced vs) (10 ∷ x)) ∙ tail ∙ append_assoc w (spaced ws) (10 ∷ y)) in
    let t = one_words vs ws x y p.1 q.1 cut.1 in
    let first : v ≡ w = cut.0 in
    let more : vs ≡ ws = t.0 in
    (cc, t.1)

-- a line and what follows it, by its words
pub line_is : (first : List ℕ) (words : List (List ℕ)) (x : List ℕ) → line first words ++ x ≡ first ++ (spaced words ++ (10 ∷ x))
unfolding line
line_is first words x = append_assoc (first ++ spaced words) (10 ∷ []) x ∙ append_assoc first (spaced words) (10 ∷ x)

pub one_line : (a b : List ℕ) (vs ws : List (List ℕ)) (x y : List ℕ) → Plain a → Plain b → AllPlain vs → AllPlain ws
    → line a vs ++ x ≡ line b ws ++ y → (a ≡ b) × (vs ≡ ws) × (x ≡ y)
one_line a b vs ws x y p q ps qs same =
    let cut = one_word a b (spaced vs ++ (10 ∷ x)) (spaced ws ++ (10 ∷ y)) p q (ends vs x) (ends ws y) (sym (line_is a vs x) ∙ same ∙ line_is b ws y) in
    let t = one_words vs ws x y ps qs cut.1 in
    (cut.0, t.0, t.1)
