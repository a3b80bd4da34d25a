-- What a format is: how the values of a type are written in bytes, and how bytes are read as such a value.
use Rattle.std.proofs.Common.{◌≡◌, ◌<◌, ℕ, List, ◌++◌, get_or, Option, Some, None, refl, sym, ap, ◌∙◌, append_assoc}
use Rattle.std.specs.Prelude.{⊤, Result, Ok, Err, option_and_then}
use Rattle.encoding.specs.declared.fault.DecodeFault.{DecodeFault}
use Rattle.encoding.specs.declared.fault.DecodeFault.TheVariants.{OutOfMemory, Malformed}

-- each of them is a byte
abbrev pub AreBytes : List ℕ → Type 0
AreBytes bytes = (i : ℕ) → get_or bytes i 0 < 256

-- the bytes are those, and then the rest
pub record Takes (bytes front rest : List ℕ) : Type 0 where
  pub parts : bytes ≡ front ++ rest
  pub rest_bytes : AreBytes rest

pub Takes-then : (a x b y c : List ℕ) → Takes a x b → Takes b y c → Takes a (x ++ y) c
Takes-then a x b y c p q = record {
  parts = p.parts ∙ ap (λ (t : List ℕ). x ++ t) q.parts ∙ sym (append_assoc x y c);
  rest_bytes = q.rest_bytes;
}

-- How each value that fits is written, and what is read at the front of bytes, with those behind it. What is read was written
-- so, and what was written is read again, whatever follows it. So no value has two texts, no text is that of two values, and
-- none begins another.
pub record Format (A : Type 0) : Type 1 where
  pub bytes : A → List ℕ
  pub at : List ℕ → Option (A × List ℕ)
  pub Fits : A → Type 0
  pub takes :
      (text : List ℕ) (a : A) (rest : List ℕ) → AreBytes text → at text ≡ Some (a, rest) → Takes text (bytes a) rest × Fits a
  pub again : (a : A) (rest : List ℕ) → Fits a → at (bytes a ++ rest) ≡ Some (a, rest)

infixl 10 ◌>>=◌
abbrev pub ◌>>=◌ : {A B : Type 0} → Option A → (A → Option B) → Option B
read >>= next = option_and_then next read

-- what was returned is what is read, unless memory ran out
abbrev pub Gives : {X Y : Type 0} → (X → Y) → Result X DecodeFault → Option Y → Type 0
Gives view (Ok x) read = read ≡ Some (view x)
Gives view (Err OutOfMemory) read = ⊤
Gives view (Err Malformed) read = read ≡ None

-- the value of a step that read one
pub bind_some : {A B : Type 0} (read : Option A) (next : A → Option B) (b : B) → (read >>= next) ≡ Some b
    → (a : A) × (read ≡ Some a) × (next a ≡ Some b)
bind_some (Some a) next b e = (a, refl, e)
bind_some None next b e = absurd cc

pub some_is : {A : Type 0} (x y : A) → Some x ≡ Some y → x ≡ y
some_is x y e = cc

-- nothing was read
pub no_value : {A X : Type 0} (a : A) → None ≡ Some a → X
no_value a e = absurd cc
