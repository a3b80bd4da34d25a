-- Which tubes keep their counts.
use Rattle.std.proofs.Common.{◌≡◌, ◌↔◌, ℕ, Bool, true, false, cond, not, ◌&&◌, ◌||◌, ◌⊎◌, inl, inr, List, [], ◌∷◌, filter}
use Rattle.std.proofs.Common.{◌+◌, ◌<◌, ◌≤◌, length, drop, get_or, bytes_eq, codes, refl, sym, ap, ap₂, subst, ◌∙◌, true≢false}
use Rattle.std.proofs.lemmas.Bool.{cond-true, cond-false, cases_Bool}
use Rattle.std.proofs.lemmas.Slice.Eq.{bytes_eq-Decides}
use Rattle.std.proofs.lemmas.List.{drop_more}
use Rattle.std.proofs.Math.ListN.{drop_of_length-le}
use Rattle.object.specs.Lists.{In}
use Rattle.job_store.specs.LookUps.{is_among}
use Rattle.job_store.proofs.least.Least.{among-member}
use Rattle.pause_store.specs.Pauses.{is_paused}
use Rattle.tube_store.specs.declared.tube_counts.TubeCounts.{TubeCounts}
use Rattle.tube_store.specs.TubeCounts.{without_tube}
use Rattle.bean_queue.specs.Queue.{QueueState}
use Rattle.bean_queue.specs.Tubes.{all_tubes, IsTube}
use Rattle.bean_queue.specs.Rows.{is_kept, left_counts, settled}
use Rattle.bean_queue.proofs.tubes.Named.{it-is}

module _ {X : Type 0} where
  filter-alike : (f g : X → Bool) → ((x : X) → f x ≡ g x) → (xs : List X) → filter f xs ≡ filter g xs
  filter-alike f g same [] = refl
  filter-alike f g same (x ∷ xs) = ap₂ (λ b ys. cond b (x ∷ ys) ys) (same x) (filter-alike f g same xs)

  filter-all : (f : X → Bool) → ((x : X) → f x ≡ true) → (xs : List X) → filter f xs ≡ xs
  filter-all f all [] = refl
  filter-all f all (x ∷ xs) = cond-true (f x) (x ∷ filter f xs) (filter f xs) (all x) ∙ ap (λ ys. x ∷ ys) (filter-all f all xs)

  filter-twice : (f g h : X → Bool) → ((x : X) → (g x && f x) ≡ h x) → (xs : List X) → filter f (filter g xs) ≡ filter h xs
  filter-twice f g h same [] = refl
  filter-twice f g h same (x ∷ xs) =
      let rest = filter-twice f g h same xs in
      elim (g x) as (λ b. (b && f x) ≡ h x → filter f (cond b (x ∷ filter g xs) (filter g xs)) ≡ cond (h x) (x ∷ filter h xs) (filter h xs)) [
        | true ↦ λ e. ap₂ (λ b ys. cond b (x ∷ ys) ys) e rest
        | false ↦ λ e. rest ∙ sym (cond-false (h x) (x ∷ filter h xs) (filter h xs) (sym e))
      ] (same x)

-- whether a tube's counts stay
abbrev stays : List (List ℕ) → QueueState → List ℕ × TubeCounts → Bool
stays tubes s e = not (is_among e.0 tubes) || is_kept s e.0

or-true : (b : Bool) → (b || true) ≡ true
or-true true = refl
or-true false = refl

without-tube : (tube : List ℕ) (s : QueueState) (e : List ℕ × TubeCounts) → is_kept s tube ≡ false
    → not (bytes_eq tube e.0) ≡ stays (tube ∷ []) s e
without-tube tube s e gone =
    elim (cases_Bool (bytes_eq tube e.0)) as (λ v. not (bytes_eq tube e.0) ≡ stays (tube ∷ []) s e) [
      | inl same ↦
          let it : tube ≡ e.0 = (bytes_eq-Decides tube e.0).0 same in
          let back : bytes_eq e.0 tube ≡ true = (bytes_eq-Decides e.0 tube).1 (sym it) in
          let out : is_kept s e.0 ≡ false = ap (is_kept s) (sym it) ∙ gone in
          rw (same, back, out) refl
      | inr other ↦
          let apart : bytes_eq e.0 tube ≡ false = elim (cases_Bool (bytes_eq e.0 tube)) as (λ v. bytes_eq e.0 tube ≡ false) [
            | inl same ↦ absurd (true≢false (sym ((bytes_eq-Decides tube e.0).1 (sym ((bytes_eq-Decides e.0 tube).0 same))) ∙ other))
            | inr is ↦ is
          ] in
          rw (other, apart) refl
    ]

-- a tube that isn't kept has no counts any more
pub settled-gone : (tube : List ℕ) (s : QueueState) → is_kept s tube ≡ false → without_tube tube s.tubes ≡ left_counts (tube ∷ []) s
unfolding left_counts
settled-gone tube s gone =
    filter-alike (λ e. not (bytes_eq tube e.0)) (stays (tube ∷ []) s) (λ e. without-tube tube s e gone) s.tubes

-- a tube that list-tubes names is kept, and one that is paused
pub either-kept : (s : QueueState) (tube : List ℕ) → (is_among tube (all_tubes s) ≡ true) ⊎ (is_paused tube s.pauses ≡ true) → is_kept s tube ≡ true
either-kept s tube (inl there) = ap (λ b. b || is_paused tube s.pauses) there
either-kept s tube (inr paused) = ap (λ b. is_among tube (all_tubes s) || b) paused ∙ or-true (is_among tube (all_tubes s))

kept-tube : (tube : List ℕ) (s : QueueState) (e : List ℕ × TubeCounts) → is_kept s tube ≡ true → stays (tube ∷ []) s e ≡ true
kept-tube tube s e kept =
    elim (cases_Bool (bytes_eq e.0 tube)) as (λ v. stays (tube ∷ []) s e ≡ true) [
      | inl same ↦
          let in_it : is_kept s e.0 ≡ true = ap (is_kept s) ((bytes_eq-Decides e.0 tube).0 same) ∙ kept in
          ap (λ b. not (is_among e.0 (tube ∷ [])) || b) in_it ∙ or-true (not (is_among e.0 (tube ∷ [])))
      | inr other ↦ ap (λ b. not (b || false) || is_kept s e.0) other
    ]

-- one that is kept changes nothing
pub settled-kept : (tube : List ℕ) (s : QueueState) → is_kept s tube ≡ true → s.tubes ≡ left_counts (tube ∷ []) s
unfolding left_counts
settled-kept tube s kept = sym (filter-all (stays (tube ∷ []) s) (λ e. kept-tube tube s e kept) s.tubes)

pub settled-none : (s : QueueState) → settled [] s ≡ s
unfolding left_counts
settled-none s = ap (λ es. let t : QueueState = record s { tubes = es } in t) (filter-all (stays [] s) (λ e. refl) s.tubes)

one-more : (tube : List ℕ) (tubes : List (List ℕ)) (s : QueueState) (e : List ℕ × TubeCounts)
    → (stays (tube ∷ []) s e && stays tubes s e) ≡ stays (tube ∷ tubes) s e
one-more tube tubes s e =
    elim (bytes_eq e.0 tube) as (λ b. ((not (b || false) || is_kept s e.0) && (not (is_among e.0 tubes) || is_kept s e.0))
    ≡ (not (b || is_among e.0 tubes) || is_kept s e.0)) [
      | true ↦ elim (is_kept s e.0) as (λ k. (k && (not (is_among e.0 tubes) || k)) ≡ k) [ true ↦ or-true (not (is_among e.0 tubes)) | false ↦ refl ]
      | false ↦ refl
    ]

-- first one, and then others
pub settled-then : (tube : List ℕ) (tubes : List (List ℕ)) (s : QueueState) → settled tubes (settled (tube ∷ []) s) ≡ settled (tube ∷ tubes) s
unfolding left_counts all_tubes
settled-then tube tubes s =
    ap (λ es. let t : QueueState = record s { tubes = es } in t)
    (filter-twice (stays tubes s) (stays (tube ∷ []) s) (stays (tube ∷ tubes) s) (one-more tube tubes s) s.tubes)

among-same : (t : List ℕ) (xs ys : List (List ℕ)) → (In t xs ↔ In t ys) → is_among t xs ≡ is_among t ys
among-same t xs ys same =
    elim (cases_Bool (is_among t xs)) as (λ v. is_among t xs ≡ is_among t ys) [
      | inl there ↦ there ∙ sym ((among-member t ys).1 (same.0 ((among-member t xs).0 there)))
      | inr gone ↦
          gone ∙ elim (cases_Bool (is_among t ys)) as (λ v. false ≡ is_among t ys) [
            | inl there ↦ absurd (true≢false (sym ((among-member t xs).1 (same.1 ((among-member t ys).0 there))) ∙ gone))
            | inr none ↦ sym none
          ]
    ]

-- the same tubes, in another order
pub settled-same : (xs ys : List (List ℕ)) (s : QueueState) → ((t : List ℕ) → In t xs ↔ In t ys) → settled xs s ≡ settled ys s
unfolding left_counts
settled-same xs ys s same =
    ap (λ es. let t : QueueState = record s { tubes = es } in t)
    (filter-alike (stays xs s) (stays ys s) (λ e. ap (λ b. not b || is_kept s e.0) (among-same e.0 xs ys (same e.0))) s.tubes)

default-kept : (s : QueueState) → is_kept s (codes "default") ≡ true
default-kept s = ap (λ b. b || is_paused (codes "default") s.pauses) (it-is s (codes "default") (IsTube.default refl))

-- `default` is always kept
pub settled-default : (s : QueueState) → settled (codes "default" ∷ codes "default" ∷ []) s ≡ s
settled-default s =
    sym (settled-then (codes "default") (codes "default" ∷ []) s) ∙
    ap (settled (codes "default" ∷ []))
    (sym (ap (λ es. let t : QueueState = record s { tubes = es } in t) (settled-kept (codes "default") s (default-kept s)))) ∙
    sym (ap (λ es. let t : QueueState = record s { tubes = es } in t) (settled-kept (codes "default") s (default-kept s)))

-- the next of the tubes, and then the others
pub settled-step : (tubes : List (List ℕ)) (i : ℕ) (tube : List ℕ) (s t : QueueState) → i < length tubes
    → tube ≡ get_or tubes i tube → t ≡ settled (tube ∷ []) s → settled (drop (i + 1) tubes) t ≡ settled (drop i tubes) s
settled-step tubes i tube s t within is made =
    ap (settled (drop (i + 1) tubes)) made ∙ settled-then tube (drop (i + 1) tubes) s ∙
    ap (λ ts. settled ts s) (sym (drop_more tubes i tube within ∙ ap (λ x. x ∷ drop (i + 1) tubes) (sym is)))

-- none is left
pub settled-end : (tubes : List (List ℕ)) (i : ℕ) (s : QueueState) → length tubes ≤ i → s ≡ settled (drop i tubes) s
settled-end tubes i s past = sym (settled-none s) ∙ ap (λ ts. settled ts s) (sym (drop_of_length-le tubes past))

-- names that were added to none
pub only-over : (first all over : List (List ℕ)) → first ≡ [] → ((tube : List ℕ) → In tube all → In tube first ⊎ In tube over)
    → ((tube : List ℕ) → In tube over → In tube all) → (tube : List ℕ) → In tube all ↔ In tube over
only-over first all over empty only added tube = (
  λ i. elim (only tube i) as (λ v. In tube over) [ inl old ↦ absurd (subst (λ ts. In tube ts) empty old) | inr new ↦ new ],
  added tube,
)
