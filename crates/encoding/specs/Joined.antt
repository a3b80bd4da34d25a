-- Formats of values that have parts.
use Rattle.std.proofs.Common.{◌≡◌, ◌<◌, ◌≤◌, ◌^◌, ℕ, inl, inr, false, cond, ltb, List, [], ◌++◌, length, take, drop}
use Rattle.std.proofs.Common.{Option, Some, None, refl, sym, ap, subst, ◌∙◌, append_assoc, arith}
use Rattle.std.specs.Int.{w64, to_be_bytes}
use Rattle.std.specs.Prelude.{⊤}
use Rattle.std.proofs.lemmas.Bool.{ltb-false, le-ltb}
use Rattle.std.proofs.lemmas.List.{take_at, drop_at, length-append, length-take}
use Rattle.bean_codec.specs.TubeNames.{Decided}
use Rattle.encoding.specs.Numbers.{number_at, number_takes, number_again, wide64, guard_some, Takes-front}
use Rattle.encoding.specs.Formats.{◌>>=◌, AreBytes, Takes, Takes-then, Format, bind_some, some_is}

-- one value behind the other
abbrev pub both : {A B : Type 0} → Format A → Format B → Format (A × B)
both {A} {B} f g = record {
  bytes = λ p. f.bytes p.0 ++ g.bytes p.1;
  at = both_at;
  Fits = λ p. f.Fits p.0 × g.Fits p.1;
  takes = both_takes;
  again = both_again;
}
  where
    both_at : List ℕ → Option ((A × B) × List ℕ)
    both_at text = do
      a ← f.at text
      b ← g.at a.1
      Some ((a.0, b.0), b.1)

    both_takes : (text : List ℕ) (p : A × B) (rest : List ℕ) → AreBytes text → both_at text ≡ Some (p, rest)
        → Takes text (f.bytes p.0 ++ g.bytes p.1) rest × (f.Fits p.0 × g.Fits p.1)
    both_takes text p rest are e =
        let a = bind_some (f.at text) (λ a. g.at a.1 >>= λ b. Some ((a.0, b.0), b.1)) (p, rest) e in
        let b = bind_some (g.at a.0.1) (λ b. Some ((a.0.0, b.0), b.1)) (p, rest) a.2 in
        let first = f.takes text a.0.0 a.0.1 are a.1 in
        let second = g.takes a.0.1 b.0.0 b.0.1 first.0.rest_bytes b.1 in
        subst (λ (q : (A × B) × List ℕ). Takes text (f.bytes q.0.0 ++ g.bytes q.0.1) q.1 × (f.Fits q.0.0 × g.Fits q.0.1))
        (some_is ((a.0.0, b.0.0), b.0.1) (p, rest) b.2)
        (Takes-then text (f.bytes a.0.0) a.0.1 (g.bytes b.0.0) b.0.1 first.0 second.0, (first.1, second.1))

    both_again : (p : A × B) (rest : List ℕ) → f.Fits p.0 × g.Fits p.1
        → both_at ((f.bytes p.0 ++ g.bytes p.1) ++ rest) ≡ Some (p, rest)
    both_again p rest fits =
        ap both_at (append_assoc (f.bytes p.0) (g.bytes p.1) rest)
        ∙ ap (λ r. r >>= λ a. g.at a.1 >>= λ b. Some ((a.0, b.0), b.1)) (f.again p.0 (g.bytes p.1 ++ rest) fits.0)
        ∙ ap (λ r. r >>= λ b. Some ((p.0, b.0), b.1)) (g.again p.1 rest fits.1)

-- nothing
abbrev pub nothing : Format ⊤
nothing = record {
  bytes = λ u. [];
  at = nothing_at;
  Fits = λ u. ⊤;
  takes = nothing_takes;
  again = λ u rest fits. refl;
}
  where
    nothing_at : List ℕ → Option (⊤ × List ℕ)
    nothing_at text = Some (tt, text)

    nothing_takes : (text : List ℕ) (u : ⊤) (rest : List ℕ) → AreBytes text → nothing_at text ≡ Some (u, rest) → Takes text [] rest × ⊤
    nothing_takes text u rest are e =
        let behind : text ≡ rest = ap (λ (p : ⊤ × List ℕ). p.1) (some_is (tt, text) (u, rest) e) in
        (record { parts = behind; rest_bytes = subst AreBytes behind are }, tt)

-- values of one type, seen as those of another
abbrev pub seen : {A B : Type 0} → Format B → (to : A → B) → (from : B → A) → ((a : A) → from (to a) ≡ a)
    → ((b : B) → to (from b) ≡ b) → Format A
seen {A} {B} f to from back forth = record {
  bytes = λ a. f.bytes (to a);
  at = seen_at;
  Fits = λ a. f.Fits (to a);
  takes = seen_takes;
  again = seen_again;
}
  where
    seen_at : List ℕ → Option (A × List ℕ)
    seen_at text = do
      b ← f.at text
      Some (from b.0, b.1)

    seen_takes : (text : List ℕ) (a : A) (rest : List ℕ) → AreBytes text → seen_at text ≡ Some (a, rest)
        → Takes text (f.bytes (to a)) rest × f.Fits (to a)
    seen_takes text a rest are e =
        let b = bind_some (f.at text) (λ b. Some (from b.0, b.1)) (a, rest) e in
        let same = some_is (from b.0.0, b.0.1) (a, rest) b.2 in
        let is : b.0.0 ≡ to a = sym (forth b.0.0) ∙ ap (λ (p : A × List ℕ). to p.0) same in
        let behind : b.0.1 ≡ rest = ap (λ (p : A × List ℕ). p.1) same in
        subst (λ (p : B × List ℕ). Takes text (f.bytes p.0) p.1 × f.Fits p.0) (λ i. (is i, behind i))
        (f.takes text b.0.0 b.0.1 are b.1)

    seen_again : (a : A) (rest : List ℕ) → f.Fits (to a) → seen_at (f.bytes (to a) ++ rest) ≡ Some (a, rest)
    seen_again a rest fits =
        ap (λ r. r >>= λ b. Some (from b.0, b.1)) (f.again (to a) rest fits)
        ∙ ap (λ (x : A). Some (x, rest)) (back a)

-- those values of a format for which a rule holds
abbrev pub if_so : {P X : Type 0} → Decided P → X → Option X
if_so (inl p) x = Some x
if_so (inr n) x = None

pub so_some : {P X : Type 0} (decided : Decided P) (x y : X) → if_so decided x ≡ Some y → P × (x ≡ y)
so_some (inl p) x y e = (p, some_is x y e)
so_some (inr n) x y e = absurd cc

pub if_true : {P X : Type 0} (decided : Decided P) (x : X) → P → if_so decided x ≡ Some x
if_true (inl p) x h = refl
if_true (inr n) x h = absurd (n h)

abbrev pub ruled : {B : Type 0} → Format B → (Rule : B → Type 0) → ((b : B) → Decided (Rule b)) → Format B
ruled {B} f Rule rule = record {
  bytes = f.bytes;
  at = ruled_at;
  Fits = λ b. f.Fits b × Rule b;
  takes = ruled_takes;
  again = ruled_again;
}
  where
    ruled_at : List ℕ → Option (B × List ℕ)
    ruled_at text = do
      b ← f.at text
      if_so (rule b.0) b

    ruled_takes : (text : List ℕ) (b : B) (rest : List ℕ) → AreBytes text → ruled_at text ≡ Some (b, rest)
        → Takes text (f.bytes b) rest × (f.Fits b × Rule b)
    ruled_takes text b rest are e =
        let c = bind_some (f.at text) (λ b. if_so (rule b.0) b) (b, rest) e in
        let so = so_some (rule c.0.0) c.0 (b, rest) c.2 in
        let t = f.takes text c.0.0 c.0.1 are c.1 in
        subst (λ (p : B × List ℕ). Takes text (f.bytes p.0) p.1 × (f.Fits p.0 × Rule p.0)) so.1 (t.0, (t.1, so.0))

    ruled_again : (b : B) (rest : List ℕ) → f.Fits b × Rule b → ruled_at (f.bytes b ++ rest) ≡ Some (b, rest)
    ruled_again b rest fits =
        ap (λ r. r >>= λ b. if_so (rule b.0) b) (f.again b rest fits.0) ∙ if_true (rule b) (b, rest) fits.1

-- so many bytes, behind their number
abbrev pub sized : Format (List ℕ)
sized = record {
  bytes = λ bs. to_be_bytes w64 (length bs) ++ bs;
  at = sized_at;
  Fits = λ bs. length bs < 2 ^ 64;
  takes = sized_takes;
  again = sized_again;
}
  where
    sized_at : List ℕ → Option (List ℕ × List ℕ)
    sized_at text = do
      n ← number_at w64 text
      cond (ltb (length n.1) n.0) None (Some (take n.0 n.1, drop n.0 n.1))

    sized_takes : (text bs rest : List ℕ) → AreBytes text → sized_at text ≡ Some (bs, rest)
        → Takes text (to_be_bytes w64 (length bs) ++ bs) rest × (length bs < 2 ^ 64)
    sized_takes text bs rest are e =
        let b = bind_some (number_at w64 text) (λ n. cond (ltb (length n.1) n.0) None (Some (take n.0 n.1, drop n.0 n.1)))
        (bs, rest) e in
        let n = b.0 in
        let t = number_takes w64 (2 ^ 64) wide64 text n.0 n.1 are b.1 in
        let long = guard_some (ltb (length n.1) n.0) (take n.0 n.1, drop n.0 n.1) (bs, rest) b.2 in
        let enough : n.0 ≤ length n.1 = ltb-false _ _ long.0 in
        let len : length (take n.0 n.1) ≡ n.0 = omega (arith, length-take n.0 n.1) in
        let whole = Takes-then text (to_be_bytes w64 n.0) n.1 (take n.0 n.1) (drop n.0 n.1) t.0
        (Takes-front n.0 n.1 t.0.rest_bytes) in
        let here : Takes text (to_be_bytes w64 (length (take n.0 n.1)) ++ take n.0 n.1) (drop n.0 n.1) =
        subst (λ (k : ℕ). Takes text (to_be_bytes w64 k ++ take n.0 n.1) (drop n.0 n.1)) (sym len) whole in
        subst (λ (p : List ℕ × List ℕ). Takes text (to_be_bytes w64 (length p.0) ++ p.0) p.1 × (length p.0 < 2 ^ 64)) long.1
        (here, omega (arith, t.1, len))

    sized_again : (bs rest : List ℕ) → length bs < 2 ^ 64 → sized_at ((to_be_bytes w64 (length bs) ++ bs) ++ rest) ≡ Some (bs, rest)
    sized_again bs rest low =
        let long : ltb (length (bs ++ rest)) (length bs) ≡ false = le-ltb _ _ (omega (arith, length-append bs rest)) in
        ap sized_at (append_assoc (to_be_bytes w64 (length bs)) bs rest)
        ∙ rw (
          number_again w64 (2 ^ 64) wide64 (length bs) (bs ++ rest) low,
          long,
          take_at bs rest (length bs) refl,
          drop_at bs rest (length bs) refl,
        ) refl
