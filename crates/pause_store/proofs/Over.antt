-- The tubes whose pauses are over, gathered end by end.
use Rattle.std.proofs.Common.{◌≡◌, ℕ, ◌<◌, ◌⊎◌, true, false, cond, inl, inr, List, [], ◌∷◌, ◌++◌, refl, sym, ap, subst, ◌∙◌, arith}
use Rattle.std.specs.List.Sorted.{IsStrictlySortedBy}
use Rattle.object.specs.Lists.{In}
use Rattle.job_store.specs.LookUps.{is_among}
use Rattle.job_store.proofs.least.Least.{among-member}
use Rattle.job_store.proofs.shelving.Shelving.{in-front, in-last, in-push}
use Rattle.session_store.specs.WatchLists.{joined}
use Rattle.pause_store.specs.declared.pause.Pause.{Pause}
use Rattle.pause_store.specs.Pauses.{HasEnds, left_at, pause_cmp, tubes_over}
use Rattle.pause_store.proofs.Seconds.{in-left, in-over}
use Rattle.pause_store.proofs.Ends.{soonest}

-- Names, and one more

pub joined-keeps : (name : List ℕ) (names : List (List ℕ)) (tube : List ℕ) → In tube names → In tube (joined name names)
joined-keeps name names tube i =
    elim (is_among name names) as (λ b. In tube
    (cond b names (names ++ name ∷ []))) [ true ↦ i | false ↦ in-front tube names (name ∷ []) i ]

pub joined-has : (name : List ℕ) (names : List (List ℕ)) → In name (joined name names)
joined-has name names =
    elim (is_among name names) as (λ b. is_among name names ≡ b → In name (cond b names (names ++ name ∷ []))) [
      | true ↦ λ e. (among-member name names).0 e
      | false ↦ λ e. in-last name names
    ] refl

joined-from : (name : List ℕ) (names : List (List ℕ)) (tube : List ℕ) → In tube (joined name names) → In tube names ⊎ (tube ≡ name)
joined-from name names tube i =
    elim (is_among name names) as (λ b. In tube (cond b names (names ++ name ∷ [])) → In tube names ⊎ (tube ≡ name)) [
      | true ↦ λ there. inl there
      | false ↦ λ there. in-push tube name names there
    ] i

-- Only tubes whose pauses are over are added

pub none-but : (first over tubes more : List (List ℕ)) (name tube : List ℕ) → more ≡ joined name tubes → name ≡ tube
    → In tube over → ((t : List ℕ) → In t tubes → In t first ⊎ In t over) → (t : List ℕ) → In t more → In t first
    ⊎ In t over
none-but first over tubes more name tube is copied there was t i =
    elim (joined-from name tubes t (subst (In t) is i)) as (λ _. In t first ⊎ In t over) [
      | inl old ↦ was t old
      | inr new ↦ inr (subst (λ x. In x over) (sym (new ∙ copied)) there)
    ]

-- All of them are added

module _ (earlier : ℕ) (es : List (List ℕ × ℕ)) (ends : List Pause) where
  -- the tube of each pause's end is one of these, or the end is still to come
  abbrev pub AreGathered : List Pause → List (List ℕ) → Type 0
  AreGathered rest tubes = (end : Pause) → In end ends → In (end.tube, end.until) (left_at earlier es) → In end.tube tubes ⊎ In end rest

  pub gathered-more : (items rest : List Pause) (end : Pause) (tubes more : List (List ℕ)) (name : List ℕ)
      → items ≡ end ∷ rest → name ≡ end.tube → more ≡ joined name tubes → AreGathered items tubes
      → AreGathered rest more
  gathered-more items rest end tubes more name first copied is was e i there =
      elim (was e i there) as (λ _. In e.tube more ⊎ In e rest) [
        | inl old ↦ inl (subst (In e.tube) (sym is) (joined-keeps name tubes e.tube old))
        | inr come ↦ elim (subst (In e) first come) as (λ _. In e.tube more ⊎ In e rest) [
          | inl same ↦ inl (subst (λ t. In t more) (copied ∙ ap (λ (q : Pause). q.tube) (sym same)) (subst (In name) (sym is) (joined-has name tubes)))
          | inr later ↦ inr later
        ]
      ]

  pub gathered-past : (items rest : List Pause) (end : Pause) (tubes : List (List ℕ)) → items ≡ end ∷ rest
      → (In (end.tube, end.until) (left_at earlier es) → ⊥) → AreGathered items tubes → AreGathered rest tubes
  gathered-past items rest end tubes first apart was e i there =
      elim (was e i there) as (λ _. In e.tube tubes ⊎ In e rest) [
        | inl old ↦ inl old
        | inr come ↦ elim (subst (In e) first come) as (λ _. In e.tube tubes ⊎ In e rest) [
          | inl same ↦ absurd (apart (subst (λ (q : Pause). In (q.tube, q.until) (left_at earlier es)) same there))
          | inr later ↦ inr later
        ]
      ]

  pub all-gathered : (second : ℕ) (rest : List Pause) (tubes : List (List ℕ)) → HasEnds earlier ends es
      → ((end : Pause) → In end rest → second < end.until) → AreGathered rest tubes → (tube : List ℕ)
      → In tube (tubes_over second (left_at earlier es)) → In tube tubes
  all-gathered second rest tubes has late was tube i =
      let p = in-over second tube (left_at earlier es) i in
      let there = in-left earlier p.0 es p.1 in
      elim (was (record { until = p.0.1; tube = p.0.0 }) (has p.0 there.0 there.1) p.1) as (λ _. In tube tubes) [
        | inl old ↦ subst (λ t. In t tubes) p.3 old
        | inr come ↦ let after = late (record { until = p.0.1; tube = p.0.0 }) come in absurd (omega (arith, after, p.2))
      ]

-- no end is left, or the first one comes later

pub none-left : (second : ℕ) (rest : List Pause) → rest ≡ [] → (end : Pause) → In end rest → second < end.until
none-left second rest none end i = absurd (subst (In end) none i)

pub all-late : (second : ℕ) (items rest : List Pause) (first : Pause) → items ≡ first ∷ rest → second < first.until
    → IsStrictlySortedBy pause_cmp items → (end : Pause) → In end items → second < end.until
all-late second items rest first is late sorted end i =
    let h = soonest first end rest (subst (IsStrictlySortedBy pause_cmp) is sorted) (subst (In end) is i) in
    omega (arith, h, late)
