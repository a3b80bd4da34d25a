-- What is ready in one tube, and in some tubes.
use Rattle.std.proofs.Common.{◌≡◌, ℕ, Bool, true, false, inl, inr, ◌&&◌, ◌||◌, not, cond, List, [], ◌∷◌, bytes_eq, refl}
use Rattle.std.proofs.Common.{sym, ◌++◌, ◌⊎◌, ◌↔◌, Option, Some, None, option_map, map, IfSome, IfNone, IsNone, is_some}
use Rattle.std.proofs.Common.{Bor, ap, subst, ◌∙◌}
use Rattle.std.proofs.lemmas.Bool.{and_parts, and_from, cond-true, cond-false}
use Rattle.std.proofs.lemmas.List.{append_assoc, append-nil}
use Rattle.std.proofs.lemmas.Slice.Eq.{bytes_eq-Decides}
use Rattle.std.specs.BTreeMap.{is_at}
use Rattle.std.specs.Map.{keys_of, lookup}
use Rattle.std.proofs.lemmas.Map.Text.{is_eq-slice_cmp}
use Rattle.object.specs.Lists.{In}
use Rattle.job_store.specs.declared.job.Job.{Job}
use Rattle.bean_words.specs.declared.name.Name.{Name}
use Rattle.job_store.specs.declared.label.Label.{Label}
use Rattle.job_store.specs.declared.shelves.Shelves.{Shelves}
use Rattle.job_store.specs.declared.spot.Spot.{Spot}
use Rattle.job_store.specs.States.{is_ready}
use Rattle.job_store.specs.LookUps.{is_among, not_paused, ready_in, pri_of_job, AreReadyPlaces}
use Rattle.job_store.specs.Least.{first_of, IsLeast, NonePasses, least}
use Rattle.bean_words.specs.Names.{name_cmp}
use Rattle.job_store.specs.Undone.{MapState}
use Rattle.job_store.specs.ShelfStates.{numbered_place}
use Rattle.job_store.specs.Shelves.{places, lists, IsListed, ShelvesMatch}
use Rattle.job_store.proofs.least.Least.{IsAnswer, answer, answer-either, among-member}
use Rattle.job_store.proofs.shelving.Shelving.{in-front, in-last, in-push}

pub one-answer : (a b : Bool) → (a ≡ true → b ≡ true) → (b ≡ true → a ≡ true) → a ≡ b
one-answer true b f g = sym (f refl)
one-answer false true f g = g refl
one-answer false false f g = refl

in-one : (tube of : List ℕ) → In of (tube ∷ []) → tube ≡ of
in-one tube of (inl here) = sym here
in-one tube of (inr later) = absurd later

among-one : (tube of : List ℕ) → is_among of (tube ∷ []) ≡ bytes_eq tube of
among-one tube of =
    one-answer (is_among of (tube ∷ [])) (bytes_eq tube of)
    (λ t. (bytes_eq-Decides tube of).1 (in-one tube of ((among-member of (tube ∷ [])).0 t)))
    (λ t. (among-member of (tube ∷ [])).1 (inl (sym ((bytes_eq-Decides tube of).0 t))))

pub ready-test : (tube : List ℕ) → ready_in (tube ∷ []) ≡ (λ (e : ℕ × Job). is_ready e.1.state && bytes_eq tube e.1.tube)
ready-test tube = λ i e. is_ready e.1.state && among-one tube e.1.tube i

-- The best of some tubes, and of one more

ready-cases : (tubes : List (List ℕ)) (tube : List ℕ) (e : ℕ × Job) → ready_in (tubes ++ tube ∷ []) e ≡ true
    → (ready_in tubes e ≡ true) ⊎ (ready_in (tube ∷ []) e ≡ true)
ready-cases tubes tube e t =
    let a = and_parts (is_ready e.1.state) (is_among e.1.tube (tubes ++ tube ∷ [])) t in
    elim (in-push e.1.tube tube tubes
    ((among-member e.1.tube (tubes ++ tube ∷ [])).0 a.1)) as (λ v. (ready_in tubes e ≡ true)
    ⊎ (ready_in (tube ∷ []) e ≡ true)) [
      | inl i ↦ inl (and_from (is_ready e.1.state) (is_among e.1.tube tubes) a.0 ((among-member e.1.tube tubes).1 i))
      | inr same ↦ inr (and_from (is_ready e.1.state) (is_among e.1.tube (tube ∷ [])) a.0 ((among-member e.1.tube (tube ∷ [])).1 (inl same)))
    ]

ready-more : (tubes : List (List ℕ)) (tube : List ℕ) (e : ℕ × Job) → ready_in tubes e ≡ true → ready_in (tubes ++ tube ∷ []) e ≡ true
ready-more tubes tube e t =
    let a = and_parts (is_ready e.1.state) (is_among e.1.tube tubes) t in
    and_from (is_ready e.1.state) (is_among e.1.tube (tubes ++ tube ∷ [])) a.0
    ((among-member e.1.tube (tubes ++ tube ∷ [])).1
    (in-front e.1.tube tubes (tube ∷ []) ((among-member e.1.tube tubes).0 a.1)))

ready-last : (tubes : List (List ℕ)) (tube : List ℕ) (e : ℕ × Job) → ready_in (tube ∷ []) e ≡ true → ready_in (tubes ++ tube ∷ []) e ≡ true
ready-last tubes tube e t =
    let a = and_parts (is_ready e.1.state) (is_among e.1.tube (tube ∷ [])) t in
    and_from (is_ready e.1.state) (is_among e.1.tube (tubes ++ tube ∷ [])) a.0
    ((among-member e.1.tube (tubes ++ tube ∷ [])).1
    (subst (λ n. In e.1.tube (tubes ++ n ∷ []))
    (sym (in-one tube e.1.tube ((among-member e.1.tube (tube ∷ [])).0 a.1))) (in-last e.1.tube tubes)))

-- after some tubes, the best is found of those that have been gone over
pub record IsBestSoFar (all rest : List (List ℕ)) (jobs : List (ℕ × Job)) (o : Option (ℕ × Job)) : Type 0 where
  pub done : List (List ℕ)
  pub parts : done ++ rest ≡ all
  pub answer : IsAnswer (ready_in done) pri_of_job jobs o

pub best-none : (all rest : List (List ℕ)) (jobs : List (ℕ × Job)) → rest ≡ all → IsBestSoFar all rest jobs None
best-none all rest jobs same = record {
  done = [];
  parts = same;
  answer = λ e i t. let a = and_parts (is_ready e.1.state) false t in cc;
}

answer-of : (tube : List ℕ) (jobs : List (ℕ × Job)) (o : Option (ℕ × Job))
    → o ≡ least (ready_in (tube ∷ [])) pri_of_job jobs → IsAnswer (ready_in (tube ∷ [])) pri_of_job jobs o
answer-of tube jobs o e = subst (IsAnswer (ready_in (tube ∷ [])) pri_of_job jobs) (sym e) (answer (ready_in (tube ∷ [])) pri_of_job jobs)

pub best-step : (all old rest : List (List ℕ)) (tube : List ℕ) (jobs : List (ℕ × Job))
    (best first new : Option (ℕ × Job)) → old ≡ tube ∷ rest → IsBestSoFar all old jobs best
    → first ≡ least (ready_in (tube ∷ [])) pri_of_job jobs → new ≡ first_of pri_of_job best first
    → IsBestSoFar all rest jobs new
best-step all old rest tube jobs best first new is so-far f n = record {
  done = so-far.done ++ tube ∷ [];
  parts = append_assoc so-far.done (tube ∷ []) rest ∙ ap (λ r. so-far.done ++ r) (sym is) ∙ so-far.parts;
  answer = subst (IsAnswer (ready_in (so-far.done ++ tube ∷ [])) pri_of_job jobs) (sym n)
      (answer-either (ready_in so-far.done) (ready_in (tube ∷ [])) (ready_in (so-far.done ++ tube ∷ [])) pri_of_job
      (ready-cases so-far.done tube) (ready-more so-far.done tube)
      (ready-last so-far.done tube) jobs best first so-far.answer (answer-of tube jobs first f));
}

-- a tube that is paused is passed over
pub best-past : (paused all old rest : List (List ℕ)) (tube : List ℕ) (jobs : List (ℕ × Job)) (best : Option (ℕ × Job))
    → old ≡ tube ∷ rest → is_among tube paused ≡ true → IsBestSoFar all (not_paused paused old) jobs best
    → IsBestSoFar all (not_paused paused rest) jobs best
best-past paused all old rest tube jobs best is among so-far =
    subst (λ r. IsBestSoFar all r jobs best)
    (ap (not_paused paused) is ∙ cond-false (not (is_among tube paused)) (tube ∷ not_paused paused rest) (not_paused paused rest) (ap not among))
    so-far

pub best-open : (paused all old rest : List (List ℕ)) (tube : List ℕ) (jobs : List (ℕ × Job))
    (best first new : Option (ℕ × Job)) → old ≡ tube ∷ rest → is_among tube paused ≡ false
    → IsBestSoFar all (not_paused paused old) jobs best → first ≡ least (ready_in (tube ∷ [])) pri_of_job jobs
    → new ≡ first_of pri_of_job best first → IsBestSoFar all (not_paused paused rest) jobs new
best-open paused all old rest tube jobs best first new is apart =
    best-step all (not_paused paused old) (not_paused paused rest) tube jobs best first new
    (ap (not_paused paused) is ∙ cond-true (not (is_among tube paused)) (tube ∷ not_paused paused rest) (not_paused paused rest) (ap not apart))

-- a key of a map of names
pub key-among : {X : Type 0} (tube : List ℕ) (es : List (List ℕ × X)) → is_some (lookup (is_at (name_cmp tube)) es) ≡ is_among tube (keys_of es)
key-among tube [] = refl
key-among tube (e ∷ es) =
    elim (bytes_eq tube e.0) as (λ b. is_at (name_cmp tube) e.0 ≡ b
    → is_some (cond (is_at (name_cmp tube) e.0) (Some e.1) (lookup (is_at (name_cmp tube)) es))
    ≡ (b || is_among tube (keys_of es))) [
      | true ↦ λ t. ap is_some (cond-true (is_at (name_cmp tube) e.0) (Some e.1) (lookup (is_at (name_cmp tube)) es) t)
      | false ↦ λ t. ap is_some (cond-false (is_at (name_cmp tube) e.0) (Some e.1) (lookup (is_at (name_cmp tube)) es) t) ∙ key-among tube es
    ] (is_eq-slice_cmp tube e.0)

pub best-answer : (all : List (List ℕ)) (jobs : List (ℕ × Job)) (o : Option (ℕ × Job)) → IsBestSoFar all [] jobs o → IsAnswer (ready_in all) pri_of_job jobs o
best-answer all jobs o so-far =
    subst (λ tubes. IsAnswer (ready_in tubes) pri_of_job jobs o) (sym (append-nil so-far.done) ∙ so-far.parts) so-far.answer

module _ {A : Type 0} (show : A → ℕ × Job) (tubes : List (List ℕ)) (jobs : List (ℕ × Job)) where
  pub best-found : (o : Option A) → IsAnswer (ready_in tubes) pri_of_job jobs (option_map show o)
      → IfSome o (λ a. IsLeast (ready_in tubes) pri_of_job jobs (show a))
  best-found None h = tt
  best-found (Some a) h = h

  pub best-missed : (o : Option A) → IsAnswer (ready_in tubes) pri_of_job jobs (option_map show o) → IfNone o (NonePasses (ready_in tubes) jobs)
  best-missed None h = h
  best-missed (Some a) h = tt

-- The places on the shelf of a tube's ready jobs

same-places : (keys : List (ℕ × ℕ)) → map (numbered_place (λ n. n)) keys ≡ keys
same-places [] = refl
same-places (p ∷ ps) = ap (λ qs. p ∷ qs) (same-places ps)

module _ (s : Shelves) (state : MapState) (tube : Bor Name) (kept : ShelvesMatch s state) (none : state.before ≡ None) where
  ready-places : (keys : List (ℕ × ℕ)) → map (numbered_place (λ n. n)) keys ≡ places s (Label.Ready tube) → AreReadyPlaces keys tube.now state.jobs
  ready-places keys same p = (
    λ i.
        let w = kept.held.known (Label.Ready tube) p (subst (In p) (sym (same-places keys) ∙ same) i) in
        let unlisted : lists s ≡ ([], []) = subst (λ o. IfNone o (lists s ≡ ([], []))) none kept.none_listed in
        let job : In w.0 state.jobs = elim w.2 as (λ v. In w.0 state.jobs) [
          | inl job ↦ job
          | inr l ↦ absurd
              (subst (λ (x : List (ℕ × Spot) × List (ℕ × Spot)). IsListed x.1 w.0) unlisted l)
        ] in
        (w.0, job, ap (λ (test : ℕ × Job → Bool). test w.0) (ready-test tube.now) ∙ w.1.0, w.1.1),
    λ w.
        subst (In p) (sym same ∙ same-places keys)
        (kept.held.placed w.0 w.1 (Label.Ready tube) p (ap (λ (test : ℕ × Job → Bool). test w.0) (sym (ready-test tube.now)) ∙ w.2, w.3)),
  )

  module _ {X : Type 0} (keys : X → List (ℕ × ℕ)) where
    pub ready-some : (o : Option X)
        → IfSome o (λ x. map (numbered_place (λ n. n)) (keys x) ≡ places s (Label.Ready tube))
        → IfSome o (λ x. AreReadyPlaces (keys x) tube.now state.jobs)
    ready-some None same = tt
    ready-some (Some x) same = ready-places (keys x) same

    none-passes : (ps : List (ℕ × ℕ)) → AreReadyPlaces ps tube.now state.jobs → NonePasses (ready_in (tube.now ∷ [])) state.jobs → ps ≡ []
    none-passes [] are passes = refl
    none-passes (p ∷ ps) are passes = let w = (are p).0 (inl refl) in absurd (passes w.0 w.1 w.2)

    pub ready-none : (o : Option X)
        → IfSome o (λ x. map (numbered_place (λ n. n)) (keys x) ≡ places s (Label.Ready tube))
        → IfSome o (λ x. keys x ≡ [] → ⊥) → IfNone o (places s (Label.Ready tube) ≡ [])
        → IsNone o ↔ NonePasses (ready_in (tube.now ∷ [])) state.jobs
    ready-none None same filled empty = (
      λ is e i t. subst (In (e.1.pri, e.0)) empty
          (kept.held.placed e i (Label.Ready tube) (e.1.pri, e.0)
          (ap (λ (test : ℕ × Job → Bool). test e) (sym (ready-test tube.now)) ∙ t, refl)),
      λ passes. refl,
    )
    ready-none (Some x) same filled empty = (λ is. cc, λ passes. absurd (filled (none-passes (keys x) (ready-places (keys x) same) passes)))
