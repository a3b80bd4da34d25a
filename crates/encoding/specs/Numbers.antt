-- Numbers of a width, their highest byte first.
use Rattle.std.proofs.Common.{◌≡◌, ◌<◌, ◌≤◌, ◌+◌, ◌^◌, ℕ, Bool, true, false, cond, ltb, List, ◌++◌, length, take, drop}
use Rattle.std.proofs.Common.{Option, Some, None, refl, sym, ap, arith, inl, inr}
use Rattle.std.specs.Int.{Width, w32, w64, byte_len, from_be_bytes, to_be_bytes}
use Rattle.std.proofs.lemmas.Bool.{cases_lt, ltb-false, le-ltb}
use Rattle.std.proofs.lemmas.List.{take_at, drop_at, take-append-drop, length-append, length-take, get_or-drop, get_or-take, get_or_past}
use Rattle.std.proofs.lemmas.Nat.{be_bytes_4, be_bytes_8, from_be_bytes-to_be_bytes_4, from_be_bytes-to_be_bytes_8}
use Rattle.encoding.specs.Formats.{AreBytes, Takes, Format}

-- the number at the front of bytes
abbrev pub number_at : Width → List ℕ → Option (ℕ × List ℕ)
number_at w text =
    cond (ltb (length text) (byte_len w)) None (Some (from_be_bytes w (take (byte_len w) text), drop (byte_len w) text))

AreBytes-drop : (n : ℕ) (text : List ℕ) → AreBytes text → AreBytes (drop n text)
AreBytes-drop n text h i = rw get_or-drop (h (n + i))

AreBytes-take : (n : ℕ) (text : List ℕ) → AreBytes text → AreBytes (take n text)
AreBytes-take n text h i =
    elim (cases_lt i n) [
      | inl low ↦ rw (get_or-take n text i 0 low) (h i)
      | inr high ↦ rw (get_or_past (take n text) i 0 (omega (arith, length-take n text))) (omega arith)
    ]

-- a test that let a value through
pub guard_some : {A : Type 0} (b : Bool) (x y : A) → cond b None (Some x) ≡ Some y → (b ≡ false) × (x ≡ y)
guard_some true x y e = absurd cc
guard_some false x y e = (refl, cc)

-- so many first bytes, and what is behind them
pub Takes-front : (n : ℕ) (text : List ℕ) → AreBytes text → Takes text (take n text) (drop n text)
Takes-front n text are = record { parts = sym (take-append-drop n text); rest_bytes = AreBytes-drop n text are }

-- what holds of the numbers of a width, which are below a limit
pub record IsWide (w : Width) (limit : ℕ) : Type 0 where
  pub len : (n : ℕ) → length (to_be_bytes w n) ≡ byte_len w
  pub back : (text : List ℕ) → length text ≡ byte_len w → AreBytes text → to_be_bytes w (from_be_bytes w text) ≡ text
  pub same : (n : ℕ) → n < limit → from_be_bytes w (to_be_bytes w n) ≡ n
  pub below : (text : List ℕ) → AreBytes text → from_be_bytes w text < limit

pub wide32 : IsWide w32 (2 ^ 32)
wide32 = record {
  len = λ n. refl;
  back = λ text len are. be_bytes_4 text _ len are refl;
  same = λ n low. from_be_bytes-to_be_bytes_4 n low;
  below = λ text are. omega (arith, are 0, are 1, are 2, are 3);
}

pub wide64 : IsWide w64 (2 ^ 64)
wide64 = record {
  len = λ n. refl;
  back = λ text len are. be_bytes_8 text _ len are refl;
  same = λ n low. from_be_bytes-to_be_bytes_8 n low;
  below = λ text are. omega (arith, are 0, are 1, are 2, are 3, are 4, are 5, are 6, are 7);
}

pub number_takes : (w : Width) (limit : ℕ) (wide : IsWide w limit) (text : List ℕ) (n : ℕ) (rest : List ℕ) → AreBytes text
    → number_at w text ≡ Some (n, rest) → Takes text (to_be_bytes w n) rest × (n < limit)
number_takes w limit wide text n rest are e =
    let long = guard_some (ltb (length text) (byte_len w)) (from_be_bytes w (take (byte_len w) text), drop (byte_len w) text)
    (n, rest) e in
    let enough : byte_len w ≤ length text = ltb-false _ _ long.0 in
    let number : from_be_bytes w (take (byte_len w) text) ≡ n = ap (λ (p : ℕ × List ℕ). p.0) long.1 in
    let behind : drop (byte_len w) text ≡ rest = ap (λ (p : ℕ × List ℕ). p.1) long.1 in
    let few = AreBytes-take (byte_len w) text are in
    let front : to_be_bytes w n ≡ take (byte_len w) text =
    rw (← number) (wide.back (take (byte_len w) text) (omega (arith, length-take (byte_len w) text)) few) in (
      record {
        parts = rw (front, ← behind) (sym (take-append-drop (byte_len w) text));
        rest_bytes = rw (← behind) (AreBytes-drop (byte_len w) text are);
      },
      rw (← number) (wide.below (take (byte_len w) text) few),
    )

pub number_again : (w : Width) (limit : ℕ) (wide : IsWide w limit) (n : ℕ) (rest : List ℕ) → n < limit
    → number_at w (to_be_bytes w n ++ rest) ≡ Some (n, rest)
number_again w limit wide n rest low =
    let len = wide.len n in
    let long : ltb (length (to_be_bytes w n ++ rest)) (byte_len w) ≡ false =
    le-ltb _ _ (omega (arith, length-append (to_be_bytes w n) rest)) in
    rw (long, take_at (to_be_bytes w n) rest (byte_len w) len, drop_at (to_be_bytes w n) rest (byte_len w) len, wide.same n low)
    refl

-- four bytes
abbrev pub u32_format : Format ℕ
u32_format = record {
  bytes = to_be_bytes w32;
  at = number_at w32;
  Fits = λ n. n < 2 ^ 32;
  takes = number_takes w32 (2 ^ 32) wide32;
  again = number_again w32 (2 ^ 32) wide32;
}

-- eight bytes
abbrev pub u64_format : Format ℕ
u64_format = record {
  bytes = to_be_bytes w64;
  at = number_at w64;
  Fits = λ n. n < 2 ^ 64;
  takes = number_takes w64 (2 ^ 64) wide64;
  again = number_again w64 (2 ^ 64) wide64;
}
