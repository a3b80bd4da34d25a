-- The words of beans as bytes: bodies, the names of tubes, and what may be there or not.
use Rattle.std.proofs.Common.{◌≡◌, ℕ, cond, eqb, List, [], ◌∷◌, ◌++◌, Option, Some, None, refl, ap}
use Rattle.std.specs.Prelude.{⊤}
use Rattle.bean_codec.specs.TubeNames.{name_rule}
use Rattle.bean_words.specs.Names.{IsName}
use Rattle.encoding.specs.Formats.{◌>>=◌, AreBytes, Takes, Format, no_value}
use Rattle.encoding.specs.Joined.{nothing, sized, ruled}
use Rattle.encoding.specs.Variants.{read_as, of_kind, by_choice}

-- the name of a tube
abbrev pub name_format : Format (List ℕ)
name_format = ruled sized IsName name_rule

-- nothing, or a value
abbrev pub optional : {A : Type 0} → Format A → Format (Option A)
optional {A} f = record { bytes = optional_bytes; at = optional_at; Fits = FitsOptional; takes = optional_takes; again = optional_again }
  where
    optional_bytes : Option A → List ℕ
    optional_bytes None = 0 ∷ []
    optional_bytes (Some a) = 1 ∷ f.bytes a

    optional_of : ℕ → List ℕ → Option (Option A × List ℕ)
    optional_of t text = cond (eqb t 0) (Some (None, text)) (cond (eqb t 1) (read_as f (λ a. Some a) text) None)

    optional_at : List ℕ → Option (Option A × List ℕ)
    optional_at [] = None
    optional_at (t ∷ text) = optional_of t text

    FitsOptional : Option A → Type 0
    FitsOptional None = ⊤
    FitsOptional (Some a) = f.Fits a

    optional_takes : (text : List ℕ) (o : Option A) (rest : List ℕ) → AreBytes text → optional_at text ≡ Some (o, rest)
        → Takes text (optional_bytes o) rest × FitsOptional o
    optional_takes [] o rest are e = no_value (o, rest) e
    optional_takes (t ∷ text) o rest are e =
        by_choice (eqb t 0) (Some (None, text)) (cond (eqb t 1) (read_as f (λ a. Some a) text) None) (o, rest) e
        (λ is h. of_kind nothing (λ u. None) optional_bytes FitsOptional t 0 (λ u. refl) (λ u fits. tt) text o rest are is h)
        (λ h. by_choice (eqb t 1) (read_as f (λ a. Some a) text) None (o, rest) h
        (λ is k. of_kind f (λ a. Some a) optional_bytes FitsOptional t 1 (λ a. refl) (λ a fits. fits) text o rest are is k)
        (λ k. no_value (o, rest) k))

    optional_again : (o : Option A) (rest : List ℕ) → FitsOptional o → optional_at (optional_bytes o ++ rest) ≡ Some (o, rest)
    optional_again None rest fits = refl
    optional_again (Some a) rest fits = ap (λ r. r >>= λ b. Some (Some b.0, b.1)) (f.again a rest fits)
