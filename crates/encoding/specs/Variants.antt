-- Formats of values of several kinds: a byte says which, and what belongs to it follows.
use Rattle.std.proofs.Common.{◌≡◌, ◌<◌, ℕ, suc, Bool, true, false, cond, eqb, List, [], ◌∷◌, ◌++◌, Option, Some, None}
use Rattle.std.proofs.Common.{refl, sym, ap, subst, ◌∙◌}
use Rattle.std.proofs.lemmas.Bool.{eqb-true}
use Rattle.encoding.specs.Formats.{◌>>=◌, AreBytes, Takes, Format, bind_some, some_is, no_value}

-- a byte
abbrev pub byte : Format ℕ
byte = record {
  bytes = λ n. n ∷ [];
  at = byte_at;
  Fits = λ n. n < 256;
  takes = byte_takes;
  again = λ n rest fits. refl;
}
  where
    byte_at : List ℕ → Option (ℕ × List ℕ)
    byte_at [] = None
    byte_at (b ∷ rest) = Some (b, rest)

    byte_takes : (text : List ℕ) (n : ℕ) (rest : List ℕ) → AreBytes text → byte_at text ≡ Some (n, rest)
        → Takes text (n ∷ []) rest × (n < 256)
    byte_takes [] n rest are e = no_value (n, rest) e
    byte_takes (b ∷ bs) n rest are e =
        subst (λ (p : ℕ × List ℕ). Takes (b ∷ bs) (p.0 ∷ []) p.1 × (p.0 < 256)) (some_is (b, bs) (n, rest) e)
        (record { parts = refl; rest_bytes = λ i. are (suc i) }, are 0)

-- what is read as a value of one type, taken for one of another
abbrev pub read_as : {A B : Type 0} → Format B → (B → A) → List ℕ → Option (A × List ℕ)
read_as f into text = do
  b ← f.at text
  Some (into b.0, b.1)

-- what is read behind this byte is of this kind
pub of_kind : {A B : Type 0} (f : Format B) (into : B → A) (bytes : A → List ℕ) (Fits : A → Type 0) (t kind : ℕ)
    → ((b : B) → bytes (into b) ≡ kind ∷ f.bytes b) → ((b : B) → f.Fits b → Fits (into b))
    → (text : List ℕ) (a : A) (rest : List ℕ) → AreBytes (t ∷ text) → eqb t kind ≡ true
    → read_as f into text ≡ Some (a, rest) → Takes (t ∷ text) (bytes a) rest × Fits a
of_kind {A} f into bytes Fits t kind same fits text a rest are is e =
    let b = bind_some (f.at text) (λ b. Some (into b.0, b.1)) (a, rest) e in
    let took = f.takes text b.0.0 b.0.1 (λ i. are (suc i)) b.1 in
    subst (λ (p : A × List ℕ). Takes (t ∷ text) (bytes p.0) p.1 × Fits p.0) (some_is (into b.0.0, b.0.1) (a, rest) b.2) (
      record {
        parts = (λ i. eqb-true t kind is i ∷ took.0.parts i) ∙ ap (λ xs. xs ++ b.0.1) (sym (same b.0.0));
        rest_bytes = took.0.rest_bytes;
      },
      fits b.0.0 took.1,
    )

-- what a choice gave was given by one side
pub by_choice : {V P : Type 0} (b : Bool) (x y : Option V) (z : V) → cond b x y ≡ Some z
    → (b ≡ true → x ≡ Some z → P) → (y ≡ Some z → P) → P
by_choice true x y z e this other = this refl e
by_choice false x y z e this other = other e
