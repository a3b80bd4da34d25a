-- What is least: the test decides what it is named after, and the answer is what is asked for.
use Rattle.std.proofs.Common.{◌≡◌, ◌↔◌, ℕ, suc, Bool, true, false, cond, ◌&&◌, ◌⊎◌, inl, inr, List, [], ◌∷◌, Option}
use Rattle.std.proofs.Common.{Some, None, option_map, MatchOption, IfSome, IfNone, ◌==◌, nat_lt, bytes_eq, refl, sym}
use Rattle.std.proofs.Common.{ap, subst, ◌∙◌, arith, eq-eqb, eqb-true, ltb-true, lt-ltb}
use Rattle.std.proofs.lemmas.Bool.{both_ways, cond-true, cond-false, or_cases, or_left, or_right, and_parts, and_from}
use Rattle.std.proofs.lemmas.Slice.Eq.{bytes_eq-Decides}
use Rattle.object.specs.Lists.{In}
use Rattle.job_store.specs.Entries.{Rising}
use Rattle.job_store.specs.EntryLaws.{key_from}
use Rattle.job_store.specs.Least.{ComesBefore, comes_before, lesser, first_of, IsLeast, NonePasses, least}
use Rattle.job_store.specs.LookUps.{is_among}

module _ {X : Type 0} (by : X → ℕ) where
  -- The test decides which of two comes before

  pub before : (d e : ℕ × X) → comes_before by d e ≡ true → ComesBefore by d e
  before d e t =
      elim (or_cases (nat_lt (by d.1) (by e.1)) (by d.1 == by e.1 && nat_lt d.0 e.0) t) as (λ v. ComesBefore by d e) [
        | inl h ↦ inl (ltb-true (by d.1) (by e.1) h)
        | inr h ↦ let p = and_parts (by d.1 == by e.1) (nat_lt d.0 e.0) h in inr (eqb-true (by d.1) (by e.1) p.0, ltb-true d.0 e.0 p.1)
      ]

  pub passes_before : (d e : ℕ × X) → ComesBefore by d e → comes_before by d e ≡ true
  passes_before d e (inl h) = or_left (nat_lt (by d.1) (by e.1)) (by d.1 == by e.1 && nat_lt d.0 e.0) (lt-ltb (by d.1) (by e.1) h)
  passes_before d e (inr h) =
      or_right (nat_lt (by d.1) (by e.1)) (by d.1 == by e.1 && nat_lt d.0 e.0)
      (and_from (by d.1 == by e.1) (nat_lt d.0 e.0) (eq-eqb (by d.1) (by e.1) h.0) (lt-ltb d.0 e.0 h.1))

  not_before : (d e : ℕ × X) → comes_before by d e ≡ false → ComesBefore by d e → ⊥
  not_before d e t h = both_ways (comes_before by d e) t (passes_before d e h)

  -- To come before is an order

  never_itself : (e : ℕ × X) → ComesBefore by e e → ⊥
  never_itself e (inl h) = omega arith
  never_itself e (inr h) = omega (arith, h.1)

  never_both : (d e : ℕ × X) → ComesBefore by d e → ComesBefore by e d → ⊥
  never_both d e (inl h) (inl k) = omega arith
  never_both d e (inl h) (inr k) = omega (arith, k.0)
  never_both d e (inr h) (inl k) = omega (arith, h.0)
  never_both d e (inr h) (inr k) = omega (arith, h.1, k.1)

  pub never_between : (d e y : ℕ × X) → (ComesBefore by y e → ⊥) → (ComesBefore by d y → ⊥) → ComesBefore by d e → ⊥
  never_between d e y ye dy h = grind arith

  pub same_key : (d e : ℕ × X) → (ComesBefore by d e → ⊥) → (ComesBefore by e d → ⊥) → d.0 ≡ e.0
  same_key d e de ed = grind arith

  -- Of three, the one that comes first

  before_twice : (y e d : ℕ × X) → ComesBefore by y e → ComesBefore by e d → ComesBefore by y d
  before_twice y e d (inl h) (inl k) = inl (omega arith)
  before_twice y e d (inl h) (inr k) = inl (omega (arith, k.0))
  before_twice y e d (inr h) (inl k) = inl (omega (arith, h.0))
  before_twice y e d (inr h) (inr k) = inr (h.0 ∙ k.0, omega (arith, h.1, k.1))

  pub fails_before : (d e : ℕ × X) → (ComesBefore by d e → ⊥) → comes_before by d e ≡ false
  fails_before d e never =
      elim (comes_before by d e) as (λ b. comes_before by d e ≡ b → b ≡ false) [ true ↦ λ t. absurd (never (before d e t)) | false ↦ λ t. refl ] refl

  pub lesser-lesser : (d e : ℕ × X) (o : Option (ℕ × X)) → lesser by (lesser by d (Some e)) o ≡ lesser by d (Some (lesser by e o))
  lesser-lesser d e None = refl
  lesser-lesser d e (Some y) =
      elim (comes_before by e d) as (λ a. comes_before by e d ≡ a → lesser by (cond a e d) (Some y) ≡ lesser by d (Some (lesser by e (Some y)))) [
        | true ↦ λ a.
            elim (comes_before by y e) as (λ b. comes_before by y e ≡ b → cond b y e ≡ lesser by d (Some (cond b y e))) [
              | true ↦ λ b. sym (cond-true (comes_before by y d) y d (passes_before y d (before_twice y e d (before y e b) (before e d a))))
              | false ↦ λ b. sym (cond-true (comes_before by e d) e d a)
            ] refl
        | false ↦ λ a.
            elim (comes_before by y e) as (λ b. comes_before by y e ≡ b → lesser by d (Some y) ≡ lesser by d (Some (cond b y e))) [
              | true ↦ λ b. refl
              | false ↦ λ b.
                  cond-false (comes_before by y d) y d (fails_before y d (never_between y d e (not_before e d a) (not_before y e b))) ∙
                  sym (cond-false (comes_before by e d) e d a)
            ] refl
      ] refl

-- An entry is the only one at its key

module _ {X : Type 0} where
  pub same_entry : (lo hi : ℕ) (es : List (ℕ × X)) (d e : ℕ × X) → Rising lo hi es → In d es → In e es → d.0 ≡ e.0 → d ≡ e
  same_entry lo hi [] d e r i j same = absurd i
  same_entry lo hi (z ∷ es) d e r (inl i) (inl j) same = i ∙ sym j
  same_entry lo hi (z ∷ es) d e r (inl i) (inr j) same = absurd (omega (arith, ap (λ (p : ℕ × X). p.0) i, key_from (suc z.0) hi es e r.1 j, same))
  same_entry lo hi (z ∷ es) d e r (inr i) (inl j) same = absurd (omega (arith, ap (λ (p : ℕ × X). p.0) j, key_from (suc z.0) hi es d r.1 i, same))
  same_entry lo hi (z ∷ es) d e r (inr i) (inr j) same = same_entry (suc z.0) hi es d e r.1 i j same

-- What is found among some entries, and with one more before them

module _ {X : Type 0} (test : ℕ × X → Bool) (by : X → ℕ) where
  abbrev pub IsAnswer : List (ℕ × X) → Option (ℕ × X) → Type 0
  IsAnswer es o = MatchOption o (NonePasses test es) (IsLeast test by es)

  with_passing : (e : ℕ × X) (es : List (ℕ × X)) (o : Option (ℕ × X)) → test e ≡ true → IsAnswer es o → IsAnswer (e ∷ es) (Some (lesser by e o))
  with_passing e es None w none = record {
    member = inl refl;
    passes = w;
    least = λ d i v first. elim i as (λ i. ⊥) [ inl same ↦ never_itself by e (subst (λ z. ComesBefore by z e) same first) | inr later ↦ none d later v ];
  }
  with_passing e es (Some y) w best =
      elim (comes_before by y e) as (λ b. comes_before by y e ≡ b → IsLeast test by (e ∷ es) (cond b y e)) [
        | true ↦ λ t. record {
          member = inr best.member;
          passes = best.passes;
          least = λ d i v first. elim i as (λ i. ⊥) [
            | inl same ↦ never_both by e y
                (subst (λ z. ComesBefore by z y) same first) (before by y e t)
            | inr later ↦ best.least d later v first
          ];
        }
        | false ↦ λ t. record {
          member = inl refl;
          passes = w;
          least = λ d i v first. elim i as (λ i. ⊥) [
            | inl same ↦ never_itself by e (subst (λ z. ComesBefore by z e) same first)
            | inr later ↦ never_between by d e y (not_before by y e t) (best.least d later v) first
          ];
        }
      ] refl

  with_other : (e : ℕ × X) (es : List (ℕ × X)) (o : Option (ℕ × X)) → test e ≡ false → IsAnswer es o → IsAnswer (e ∷ es) o
  with_other e es None other none =
      λ d i v. elim i as (λ i. ⊥) [ inl same ↦ both_ways (test e) other (subst (λ z. test z ≡ true) same v) | inr later ↦ none d later v ]
  with_other e es (Some y) other best = record {
    member = inr best.member;
    passes = best.passes;
    least = λ d i v first. elim i as (λ i. ⊥) [
      | inl same ↦ both_ways (test e) other
          (subst (λ z. test z ≡ true) same v)
      | inr later ↦ best.least d later v first
    ];
  }

  pub answer : (es : List (ℕ × X)) → IsAnswer es (least test by es)
  answer [] = λ d i v. i
  answer (e ∷ es) =
      elim (test e) as (λ b. test e ≡ b → IsAnswer (e ∷ es) (cond b (Some (lesser by e (least test by es))) (least test by es))) [
        | true ↦ λ t. with_passing e es (least test by es) t (answer es)
        | false ↦ λ t. with_other e es (least test by es) t (answer es)
      ] refl

  found : (es : List (ℕ × X)) (o : Option (ℕ × X)) → IsAnswer es o → IfSome o (IsLeast test by es)
  found es None h = tt
  found es (Some e) h = h

  missed : (es : List (ℕ × X)) (o : Option (ℕ × X)) → IsAnswer es o → IfNone o (NonePasses test es)
  missed es None h = h
  missed es (Some e) h = tt

  -- what is answered is least, and nothing is answered only where nothing passes
  pub least-found : (es : List (ℕ × X)) → IfSome (least test by es) (IsLeast test by es)
  least-found es = found es (least test by es) (answer es)

  pub least-none : (es : List (ℕ × X)) → IfNone (least test by es) (NonePasses test es)
  least-none es = missed es (least test by es) (answer es)

  -- where no key stands twice, nothing else is least
  pub least-only : (es : List (ℕ × X)) (lo hi : ℕ) (e : ℕ × X) → Rising lo hi es → IsLeast test by es e → least test by es ≡ Some e
  least-only es lo hi e r best =
      elim (least test by es) as (λ o. IsAnswer es o → o ≡ Some e) [
        | None ↦ λ none. absurd (none e best.member best.passes)
        | Some d ↦ λ it.
            ap Some
            (same_entry lo hi es d e r it.member best.member
            (same_key by d e (best.least d it.member it.passes) (it.least e best.member best.passes)))
      ] (answer es)

  -- the same of an entry that is seen through references
  pub least-shown : {A : Type 0} (show : A → ℕ × X) (es : List (ℕ × X)) (o : Option A)
      → option_map show o ≡ least test by es → IfSome o (λ a. IsLeast test by es (show a))
      × IfNone o (NonePasses test es)
  least-shown show es None e = (tt, subst (λ o. IfNone o (NonePasses test es)) (sym e) (least-none es))
  least-shown show es (Some a) e = (subst (λ o. IfSome o (IsLeast test by es)) (sym e) (least-found es), tt)

  pub least-nothing : (es : List (ℕ × X)) → NonePasses test es → None ≡ least test by es
  least-nothing es none =
      elim (least test by es) as (λ o. IsAnswer es o → None ≡ o) [ None ↦ λ w. refl | Some d ↦ λ it. absurd (none d it.member it.passes) ] (answer es)

  -- what is answered by a least one, or by nothing where nothing passes, is the least
  pub least-shown-by : {A : Type 0} (show : A → ℕ × X) (es : List (ℕ × X)) (lo hi : ℕ) (o : Option A) → Rising lo hi es
      → IfSome o (λ a. IsLeast test by es (show a)) → IfNone o (NonePasses test es)
      → option_map show o ≡ least test by es
  least-shown-by show es lo hi (Some a) r best none = sym (least-only es lo hi (show a) r best)
  least-shown-by show es lo hi None r best none = least-nothing es none

-- What is least of those that pass one test or another

module _ {X : Type 0} (one two either : ℕ × X → Bool) (by : X → ℕ)
    (from-either : (e : ℕ × X) → either e ≡ true → (one e ≡ true) ⊎ (two e ≡ true))
    (from-one : (e : ℕ × X) → one e ≡ true → either e ≡ true)
    (from-two : (e : ℕ × X) → two e ≡ true → either e ≡ true) where
  pub answer-either : (es : List (ℕ × X)) (o p : Option (ℕ × X)) → IsAnswer one by es o → IsAnswer two by es p → IsAnswer either by es (first_of by o p)
  answer-either es None None a b =
      λ d i t. elim (from-either d t) as (λ v. ⊥) [ inl h ↦ a d i h | inr h ↦ b d i h ]
  answer-either es None (Some y) a b = record {
    member = b.member;
    passes = from-two y b.passes;
    least = λ d i t first. elim (from-either d t) as (λ v. ⊥) [ inl h ↦ a d i h | inr h ↦ b.least d i h first ];
  }
  answer-either es (Some x) None a b = record {
    member = a.member;
    passes = from-one x a.passes;
    least = λ d i t first. elim (from-either d t) as (λ v. ⊥) [ inl h ↦ a.least d i h first | inr h ↦ b d i h ];
  }
  answer-either es (Some x) (Some y) a b =
      elim (comes_before by y x) as (λ c. comes_before by y x ≡ c → IsLeast either by es (cond c y x)) [
        | true ↦ λ c. record {
          member = b.member;
          passes = from-two y b.passes;
          least = λ d i t first. elim (from-either d t) as (λ v. ⊥) [
            | inl h ↦ a.least d i h (before_twice by d y x first (before by y x c))
            | inr h ↦ b.least d i h first
          ];
        }
        | false ↦ λ c. record {
          member = a.member;
          passes = from-one x a.passes;
          least = λ d i t first. elim (from-either d t) as (λ v. ⊥) [
            | inl h ↦ a.least d i h first
            | inr h ↦ never_between by d x y (not_before by y x c) (b.least d i h) first
          ];
        }
      ] refl

-- A name among some names

among : (tube : List ℕ) (tubes : List (List ℕ)) → is_among tube tubes ≡ true → In tube tubes
among tube [] t = cc
among tube (name ∷ names) t =
    elim (or_cases (bytes_eq tube name) (is_among tube names) t) as (λ v. In tube (name ∷ names)) [
      | inl here ↦ inl ((bytes_eq-Decides tube name).0 here)
      | inr later ↦ inr (among tube names later)
    ]

passes_among : (tube : List ℕ) (tubes : List (List ℕ)) → In tube tubes → is_among tube tubes ≡ true
passes_among tube [] i = absurd i
passes_among tube (name ∷ names) (inl here) =
    or_left (bytes_eq tube name) (is_among tube names) ((bytes_eq-Decides tube name).1 here)
passes_among tube (name ∷ names) (inr later) =
    or_right (bytes_eq tube name) (is_among tube names) (passes_among tube names later)

pub among-member : (tube : List ℕ) (tubes : List (List ℕ)) → (is_among tube tubes ≡ true) ↔ In tube tubes
among-member tube tubes = (among tube tubes, passes_among tube tubes)
