-- Who is on a roll.
use Rattle.std.proofs.Common.{◌≡◌, ℕ, ◌^◌, Bool, true, false, cond, inl, inr, List, [], ◌∷◌, Option, Some, None, refl}
use Rattle.std.proofs.Common.{sym, ap, subst, ◌∙◌, true≢false, unwrap_or, nat_cmp}
use Rattle.std.proofs.lemmas.Map.Lookups.{exact_unsigned}
use Rattle.std.specs.List.{list_any}
use Rattle.std.specs.Map.{keys_of, lookup}
use Rattle.std.specs.BTreeMap.{get, is_at}
use Rattle.std.specs.BTreeSet.{BTreeSet}
use Rattle.object.specs.Lists.{In}
use Rattle.job_store.specs.Entries.{value_at}
use Rattle.job_store.specs.EntryLaws.{value_at-In, value_at-found}
use Rattle.bean_words.specs.Names.{name_cmp}
use Rattle.bean_words.proofs.naming.NameSets.{at-name}
use Rattle.job_store.proofs.readiness.Readiness.{one-answer}
use Rattle.session_store.specs.declared.session.SessionState.{SessionState}
use Rattle.session_store.specs.declared.rolls.Rolls.{Rolls}
use Rattle.session_store.specs.Lines.{AllStand, StillStand}
use Rattle.session_store.specs.TubeSets.{tube_set}
use Rattle.session_store.specs.Rolls.{has_tube, is_named, names_tube, IsOn, IsEnrolled}
use Rattle.session_store.proofs.TubeSets.{found-set, no-set}
use Rattle.session_store.proofs.Found.{any-in, in-any}
use Rattle.session_store.proofs.Places.{at_equal}

pub same_session : (x y : ℕ) → is_at (nat_cmp x) y ≡ true → x ≡ y
same_session x y e = exact_unsigned x y (at_equal (nat_cmp x y) e)

on-list : (x : ℕ) (xs : List ℕ) → list_any (is_at (nat_cmp x)) xs ≡ true → In x xs
on-list x xs t = let r = any-in (is_at (nat_cmp x)) xs t in subst (λ y. In y xs) (sym (same_session x r.0 r.2)) r.1

-- Who uses or watches a tube is found on its roll

names-of : (tube : List ℕ) (sessions : List (ℕ × SessionState)) (x : ℕ) (s : SessionState)
    → value_at x sessions ≡ Some s → names_tube tube sessions x ≡ has_tube tube s
names-of tube sessions x s there = ap (λ (o : Option SessionState). elim o as (λ _. Bool) [ None ↦ false | Some s ↦ has_tube tube s ]) there

named-from : (tube : List ℕ) (sessions : List (ℕ × SessionState)) (x : ℕ) → names_tube tube sessions x ≡ true → is_named tube sessions ≡ true
named-from tube sessions x t =
    elim (value_at x sessions) as (λ o. value_at x sessions ≡ o
    → (elim o as (λ _. Bool) [ None ↦ false | Some s ↦ has_tube tube s ]) ≡ true → is_named tube sessions ≡ true) [
      | None ↦ λ v t. cc
      | Some s ↦ λ v t.
          let there = value_at-found x sessions s v in
          in-any (λ (e : ℕ × SessionState). has_tube tube e.1) sessions there.0 there.1 (ap (has_tube tube) there.3 ∙ t)
    ] refl t

named-on : (tube : List ℕ) (sessions : List (ℕ × SessionState)) (rolls : Rolls) → AllStand (IsEnrolled rolls) sessions → is_named tube sessions ≡ true
    → list_any (names_tube tube sessions) (tube_set tube rolls.rolls).keys ≡ true
named-on tube sessions rolls all t =
    let one = any-in (λ (e : ℕ × SessionState). has_tube tube e.1) sessions t in
    in-any (names_tube tube sessions) (tube_set tube rolls.rolls).keys one.0.0
    (on-list one.0.0 (tube_set tube rolls.rolls).keys (all.each one.0 one.1 tube one.2))
    (names-of tube sessions one.0.0 one.0.1 (value_at-In 0 (2 ^ 32) sessions one.0 all.rising one.1) ∙ one.2)

on-named : (tube : List ℕ) (sessions : List (ℕ × SessionState)) (xs : List ℕ) → list_any (names_tube tube sessions) xs ≡ true → is_named tube sessions ≡ true
on-named tube sessions xs t = let one = any-in (names_tube tube sessions) xs t in named-from tube sessions one.0 one.2

by-roll : (tube : List ℕ) (sessions : List (ℕ × SessionState)) (rolls : Rolls) → AllStand (IsEnrolled rolls) sessions
    → list_any (names_tube tube sessions) (tube_set tube rolls.rolls).keys ≡ is_named tube sessions
by-roll tube sessions rolls all = one-answer _ _ (on-named tube sessions _) (named-on tube sessions rolls all)

pub named-by-roll : (tube : List ℕ) (sessions : List (ℕ × SessionState)) (rolls : Rolls) (roll : BTreeSet ℕ)
    → Some roll ≡ get name_cmp rolls.rolls tube → AllStand (IsEnrolled rolls) sessions
    → list_any (names_tube tube sessions) roll.keys ≡ is_named tube sessions
named-by-roll tube sessions rolls roll value all =
    ap (λ (s : BTreeSet ℕ). list_any (names_tube tube sessions) s.keys)
    (sym (found-set nat_cmp tube rolls.rolls roll (sym value))) ∙ by-roll tube sessions rolls all

pub unnamed-by-rolls : (tube : List ℕ) (sessions : List (ℕ × SessionState)) (rolls : Rolls)
    → None ≡ get name_cmp rolls.rolls tube → AllStand (IsEnrolled rolls) sessions
    → false ≡ is_named tube sessions
unnamed-by-rolls tube sessions rolls value all =
    ap (λ (s : BTreeSet ℕ). list_any (names_tube tube sessions) s.keys)
    (sym (no-set nat_cmp tube rolls.rolls (sym value))) ∙ by-roll tube sessions rolls all

-- a tube that is named has a roll
roll-key : (k : List ℕ) (es : List (List ℕ × BTreeSet ℕ)) (x : ℕ)
    → In x (unwrap_or (lookup (is_at (name_cmp k)) es) (record { keys = [] })).keys → In k (keys_of es)
roll-key k [] x i = absurd i
roll-key k (e ∷ es) x i =
    elim (is_at (name_cmp k) e.0) as (λ b. is_at (name_cmp k) e.0 ≡ b
    → In x (unwrap_or (cond b (Some e.1) (lookup (is_at (name_cmp k)) es)) (record { keys = [] })).keys
    → In k (keys_of (e ∷ es))) [
      | true ↦ λ t i. inl (at-name k e.0 t)
      | false ↦ λ t i. inr (roll-key k es x i)
    ] refl i

pub has-roll : (tube : List ℕ) (sessions : List (ℕ × SessionState)) (rolls : Rolls) → AllStand (IsEnrolled rolls) sessions
    → is_named tube sessions ≡ true → In tube (keys_of rolls.rolls.entries)
has-roll tube sessions rolls all t =
    let one = any-in (names_tube tube sessions) (tube_set tube rolls.rolls).keys (named-on tube sessions rolls all t) in
    roll-key tube rolls.rolls.entries one.0 one.1

-- A session that leaves a roll

pub struck : (tube : List ℕ) (x : ℕ) (rolls rolls' : Rolls) (sessions : List (ℕ × SessionState))
    → names_tube tube sessions x ≡ false
    → ((t : List ℕ) (y : ℕ) → (t ≡ tube → x ≡ y → ⊥) → IsOn t rolls y → IsOn t rolls' y)
    → StillStand (IsEnrolled rolls) (IsEnrolled rolls') sessions
struck tube x rolls rolls' sessions gone stays all = record {
  rising = all.rising;
  each = λ e i t has.
      stays t e.0
      (λ same it.
      true≢false (sym has ∙ ap (λ u. has_tube u e.1) same ∙ sym
      (names-of tube sessions e.0 e.1 (value_at-In 0 (2 ^ 32) sessions e all.rising i)) ∙ ap (names_tube tube sessions)
      (sym it) ∙ gone))
      (all.each e i t has);
}
