-- Shelves that follow the jobs: in a trial by more places, and at its end by those that go.
use Rattle.std.proofs.Common.{◌≡◌, ℕ, ◌<◌, ◌≤◌, arith, nat_le, ◌⊎◌, inl, inr, List, [], ◌∷◌, ◌++◌, Option, Some, None, Result, Ok}
use Rattle.std.proofs.Common.{IfSome, IfNone, ◌^◌, refl, sym, ap, subst, ◌∙◌, true, false}
use Rattle.std.specs.Prelude.{is_some}
use Rattle.std.specs.Result.{IsErr}
use Rattle.std.proofs.lemmas.Bool.{both_ways, leb-true, and_parts, and_from}
use Rattle.std.proofs.lemmas.Bool.Decides.{leb_tells}
use Rattle.object.specs.Lists.{In}
use Rattle.job_store.specs.declared.job.Job.{Job}
use Rattle.job_store.specs.declared.label.Label.{Label}
use Rattle.job_store.specs.declared.state.State.{State}
use Rattle.job_store.specs.declared.shelves.Shelves.{Shelves}
use Rattle.job_store.specs.declared.spot.Spot.{Spot}
use Rattle.job_store.specs.Entries.{Rising, value_at, with_value, altered, without}
use Rattle.job_store.specs.Undone.{MapState}
use Rattle.job_store.specs.States.{is_due, is_scheduled, due_of}
use Rattle.job_store.specs.LookUps.{due_by, due_after, due_of_job, is_after}
use Rattle.job_store.specs.Least.{IsLeast, NonePasses}
use Rattle.job_store.specs.ShelfStates.{IsFrom, bare}
use Rattle.job_store.specs.Spots.{spot_of, at_spot}
use Rattle.job_store.specs.Shelves.{belongs, belongs_after, BelongsAt, CanLookUp, shelf, places, lists, HavePlaces, IsAhead}
use Rattle.job_store.specs.Shelves.{HoldJobs, AreSwept, CanGoBack, IsGone, IsListed, AreKnown, HasTaken}
use Rattle.job_store.specs.Shelves.{HasSettled, HasCaughtUp, HasGrown, AreInDoubt, HasCome, HasFollowed, MovesJobs, ShelvesMatch}
use Rattle.job_store.specs.EntryLaws.{without-absent, without-in, value_at-insert}
use Rattle.job_store.proofs.shelving.Shelving.{placed-settled, known-settled, held-settled, held-listed, same-grown, same-doubt}
use Rattle.object.proofs.KeyMaps.{on_err}
use Rattle.job_store.proofs.shelving.Shelving.{not_ok, more-listed, last-listed, of-spot, to-spot, come-at}
use Rattle.job_store.proofs.maps.Members.{altered-here, altered-new, altered-old, inserted-new, inserted-old, value-in, value-here, value-is, without-others}

-- The jobs that went and came

pub followed-stay : (s t : Shelves) (jobs new : List (ℕ × Job)) → new ≡ jobs → AreInDoubt s t → HasFollowed s t jobs new
followed-stay s t jobs new same doubt = record {
  listed = doubt.went;
  went = λ e i. inl (subst (In e) (sym same) i);
  came = λ e i. inl (subst (In e) same i);
  only = λ l p i.
      elim (doubt.only l p i) as (λ v. In p (places s l) ⊎ ((e : ℕ × Job) × BelongsAt l p e × (In e new ⊎ IsListed t.went.items e))) [
        | inl old ↦ inl old
        | inr w ↦ inr (w.0, w.1, inr w.2)
      ];
}

come-same : (t u : Shelves) (e : ℕ × Job) → ((l : Label) → shelf u l ≡ shelf t l) → HasCome t e → HasCome u e
come-same t u e same come = record {
  placed = λ l p b. subst (λ x. In p x.places) (sym (same l)) (come.placed l p b);
  ahead = λ l p b. subst (λ x. IsFrom x.from p) (sym (same l)) (come.ahead l p b);
}

gained-new : (s t u : Shelves) (e : ℕ × Job) (new : List (ℕ × Job)) → In e new → ((l : Label) → shelf u l ≡ shelf t l)
    → ((l : Label) (p : ℕ × ℕ) → In p (places t l) → In p (places s l) ⊎ BelongsAt l p e) → (l : Label) (p : ℕ × ℕ)
    → In p (places u l) → In p (places s l) ⊎ ((d : ℕ × Job) × BelongsAt l p d × (In d new ⊎ IsListed u.went.items d))
gained-new s t u e new there same only l p i =
    elim (only l p (subst (λ x. In p x.places) (same l) i)) as (λ v. In p (places s l)
    ⊎ ((d : ℕ × Job) × BelongsAt l p d × (In d new ⊎ IsListed u.went.items d))) [
      | inl old ↦ inl old
      | inr b ↦ inr (e, b, inl there)
    ]

-- the job that was put last stays
pub grown-moved : (s t u : Shelves) → ((l : Label) → shelf u l ≡ shelf t l) → u.came.items ≡ t.came.items → HasGrown s t → HasGrown s u
grown-moved s t u same came grown = record {
  keeps = λ l p i. subst (λ x. In p x.places) (sym (same l)) (grown.keeps l p i);
  came = λ e i. subst (λ x. IsListed x e) (sym came) (grown.came e i);
  only = λ l p i.
      elim (grown.only l p (subst (λ x. In p x.places) (same l) i)) as (λ v. In p (places s l) ⊎ ((d : ℕ × Job) × BelongsAt l p d × IsListed u.came.items d)) [
        | inl old ↦ inl old
        | inr w ↦ inr (w.0, w.1, subst (λ x. IsListed x w.0) (sym came) w.2)
      ];
  ahead = λ l p h. subst (λ x. IsFrom x.from p) (sym (same l)) (grown.ahead l p h);
}

pub stored-only : (s t u : Shelves) (id : ℕ) (job : Job) (spot : Spot) → spot ≡ spot_of job
    → ((l : Label) → shelf t l ≡ shelf s l)
    → ((l : Label) (p : ℕ × ℕ) → In p (places u l) → In p (places t l) ⊎ BelongsAt l p (id, at_spot spot))
    → (l : Label) (p : ℕ × ℕ) → In p (places u l) → In p (places s l) ⊎ BelongsAt l p (id, job)
stored-only s t u id job spot is same only l p i =
    elim (only l p i) as (λ v. In p (places s l) ⊎ BelongsAt l p (id, job)) [
      | inl old ↦ inl (subst (λ x. In p x.places) (same l) old)
      | inr b ↦ inr (of-spot l p id job (subst (λ x. BelongsAt l p (id, at_spot x)) is b))
    ]

pub stored-come : (u : Shelves) (id : ℕ) (job : Job) (spot : Spot) → spot ≡ spot_of job → HasCome u (id, at_spot spot) → HasCome u (id, job)
stored-come u id job spot is come = come-at u id job (subst (λ x. HasCome u (id, at_spot x)) is come)

pub followed-altered : (s t u : Shelves) (id lo hi : ℕ) (f : Job → Job) (job : Job) (jobs new : List (ℕ × Job))
    → Rising lo hi jobs → Some job ≡ value_at id jobs → new ≡ altered id f jobs → ((l : Label) → shelf u l ≡ shelf t l)
    → u.went.items ≡ s.went.items ++ (id, spot_of job) ∷ []
    → ((l : Label) (p : ℕ × ℕ) → In p (places t l) → In p (places s l) ⊎ BelongsAt l p (id, f job))
    → HasCome t (id, f job) → HasFollowed s u jobs new
followed-altered s t u id lo hi f job jobs new r there is same went only it = record {
  listed = more-listed s.went.items u.went.items (id, spot_of job) went;
  went = λ e i.
      elim (altered-old id lo hi f job e jobs r (sym there) i) as (λ v. In e new ⊎ IsListed u.went.items e) [
        | inl still ↦ inl (subst (In e) (sym is) still)
        | inr at ↦ inr (subst (IsListed u.went.items) (sym at) (last-listed s.went.items u.went.items (id, job) went))
      ];
  came = λ e i.
      elim (altered-new id lo hi f job e jobs r (sym there) (subst (In e) is i)) as (λ v. In e jobs ⊎ HasCome u e) [
        | inl before ↦ inl before
        | inr at ↦ inr (subst (HasCome u) (sym at) (come-same t u (id, f job) same it))
      ];
  only = gained-new s t u (id, f job) new (subst (In (id, f job)) (sym is) (altered-here id f job jobs (sym there))) same only;
}

pub followed-put : (s t u : Shelves) (id lo hi : ℕ) (job : Job) (jobs new : List (ℕ × Job)) → Rising lo hi jobs
    → ((e : ℕ × Job) → IsListed s.went.items e → IsListed u.went.items e)
    → ((old : Job) → value_at id jobs ≡ Some old → IsListed u.went.items (id, old)) → new ≡ with_value id job jobs
    → ((l : Label) → shelf u l ≡ shelf t l)
    → ((l : Label) (p : ℕ × ℕ) → In p (places t l) → In p (places s l) ⊎ BelongsAt l p (id, job)) → HasCome t (id, job)
    → HasFollowed s u jobs new
followed-put s t u id lo hi job jobs new r listed old is same only it = record {
  listed = listed;
  went = λ e i.
      elim (inserted-old id job e jobs i) as (λ v. In e new ⊎ IsListed u.went.items e) [
        | inl still ↦ inl (subst (In e) (sym is) still)
        | inr at ↦ inr (subst (λ k. IsListed u.went.items (k, e.1)) (sym at) (old e.1 (value-here id lo hi e jobs r i at)))
      ];
  came = λ e i.
      elim (inserted-new id job e jobs (subst (In e) is i)) as (λ v. In e jobs ⊎ HasCome u e) [
        | inl before ↦ inl before
        | inr at ↦ inr (subst (HasCome u) (sym at) (come-same t u (id, job) same it))
      ];
  only = gained-new s t u (id, job) new (subst (In (id, job)) (sym is) (value-in id job (with_value id job jobs) (value_at-insert id job jobs))) same only;
}

-- A change, before any place goes

pub held-step : (s t : Shelves) (jobs new : List (ℕ × Job)) → Rising 0 (2 ^ 64) new → HasGrown s t → HasFollowed s t jobs new
    → HoldJobs s jobs s.went.items → HoldJobs t new t.went.items
held-step s t jobs new r grown followed held = record {
  rising = r;
  placed = λ e i label p b.
      elim (followed.came e i) as (λ v. In p (places t label)) [
        | inl before ↦ grown.keeps label p (held.placed e before label p b)
        | inr come ↦ come.placed label p b
      ];
  ahead = λ e i label p b.
      elim (followed.came e i) as (λ v. IsFrom (shelf t label).from p) [
        | inl before ↦ grown.ahead label p (held.ahead e before label p b)
        | inr come ↦ come.ahead label p b
      ];
  known = λ label p i.
      elim (followed.only label p i) as (λ v. (e : ℕ × Job) × BelongsAt label p e × (In e new ⊎ IsListed t.went.items e)) [
        | inl old ↦
            let w = held.known label p old in (
              w.0,
              w.1,
              elim w.2 as (λ v. In w.0 new ⊎ IsListed t.went.items w.0) [
                | inl job ↦ followed.went w.0 job
                | inr listed ↦ inr (followed.listed w.0 listed)
              ],
            )
        | inr w ↦ w
      ];
}

before-step : (s t : Shelves) (before : List (ℕ × Job)) → AreKnown s before s.came.items → HasGrown s t → AreKnown t before t.came.items
before-step s t before known grown label p i =
    elim (grown.only label p i) as (λ v. (e : ℕ × Job) × BelongsAt label p e × (In e before ⊎ IsListed t.came.items e)) [
      | inl old ↦
          let w = known label p old in
          (w.0, w.1, elim w.2 as (λ v. In w.0 before ⊎ IsListed t.came.items w.0) [ inl job ↦ inl job | inr listed ↦ inr (grown.came w.0 listed) ])
      | inr w ↦ (w.0, w.1, inr w.2)
    ]

-- Where memory was refused before the jobs have changed, the shelves may have grown
pub moves-none : {E : Type 0} (s t : Shelves) (a b : MapState) (jobs : List (ℕ × Job)) (result : Result Unit E) → IsErr result
    → b.jobs ≡ a.jobs → b.before ≡ a.before → Rising 0 (2 ^ 64) b.jobs → HasGrown s t → AreInDoubt s t
    → MovesJobs s t a b jobs result
moves-none s t a b jobs result failed same before r grown doubt = record {
  ok = not_ok _ result failed;
  err = on_err result same;
  rising = r;
  before = before;
  grown = grown;
  followed = followed-stay s t a.jobs b.jobs same doubt;
}

-- Where there is no job to change, nothing does
pub moves-nothing : {E : Type 0} (s : Shelves) (a : MapState) (jobs : List (ℕ × Job)) → a.jobs ≡ jobs
    → Rising 0 (2 ^ 64) a.jobs → MovesJobs {E = E} s s a a jobs (Ok tt)
moves-nothing s a jobs same r = record {
  ok = same;
  err = tt;
  rising = r;
  before = refl;
  grown = same-grown s s (λ l. refl) (λ e i. i);
  followed = followed-stay s s a.jobs a.jobs refl (same-doubt s s (λ l. refl) (λ e i. i));
}

pub held-moved : {E : Type 0} {s t : Shelves} {a b : MapState} {jobs : List (ℕ × Job)} {result : Result Unit E}
    → ShelvesMatch s a → MovesJobs s t a b jobs result → HoldJobs t b.jobs t.went.items
held-moved {E} {s} {t} {a} {b} kept moved = held-step s t a.jobs b.jobs moved.rising moved.grown moved.followed kept.held

-- What is kept in a trial

placed-before : (s : Shelves) (a : MapState) (before : List (ℕ × Job)) → ShelvesMatch s a → a.before ≡ Some before → HavePlaces s before
placed-before s a before kept is = subst (λ o. IfSome o (HavePlaces s)) is kept.placed_before

known-before : (s : Shelves) (a : MapState) (before : List (ℕ × Job)) → ShelvesMatch s a → a.before ≡ Some before → AreKnown s before s.came.items
known-before s a before kept is = subst (λ o. IfSome o (λ before. AreKnown s before s.came.items)) is kept.known_before

went-before : (s : Shelves) (a : MapState) (before : List (ℕ × Job)) → ShelvesMatch s a → a.before ≡ Some before
    → (e : ℕ × Job) → In e before → In e a.jobs ⊎ IsListed s.went.items e
went-before s a before kept is = subst (λ o. IfSome o (λ before. (e : ℕ × Job) → In e before → In e a.jobs ⊎ IsListed s.went.items e)) is kept.went

pub can-go-back : (s : Shelves) (a : MapState) (before : List (ℕ × Job)) → ShelvesMatch s a → a.before ≡ Some before → CanGoBack s before
can-go-back s a before kept is = record {
  placed = placed-before s a before kept is;
  ahead = λ e i.
      elim (went-before s a before kept is e i) as (λ v. IsAhead s e ⊎ IsListed s.went.items e) [ inl job ↦ inl (kept.held.ahead e job) | inr l ↦ inr l ];
  known = known-before s a before kept is;
}

in-trial : (s : Shelves) (b : MapState) (before : List (ℕ × Job)) → b.before ≡ Some before → HoldJobs s b.jobs s.went.items
    → HavePlaces s before → AreKnown s before s.came.items
    → ((e : ℕ × Job) → In e before → In e b.jobs ⊎ IsListed s.went.items e) → ShelvesMatch s b
in-trial s b before there held placed known went = record {
  held = held;
  placed_before = subst (λ o. IfSome o (HavePlaces s)) (sym there) placed;
  known_before = subst (λ o. IfSome o (λ before. AreKnown s before s.came.items)) (sym there) known;
  went = subst (λ o. IfSome o (λ before. (e : ℕ × Job) → In e before → In e b.jobs ⊎ IsListed s.went.items e)) (sym there) went;
  none_listed = subst (λ o. IfNone o (lists s ≡ ([], []))) (sym there) tt;
}

-- A change in a trial
kept-step : {E : Type 0} (s t : Shelves) (a b : MapState) (before jobs : List (ℕ × Job)) (result : Result Unit E)
    → ShelvesMatch s a → a.before ≡ Some before → MovesJobs s t a b jobs result → ShelvesMatch t b
kept-step s t a b before jobs result kept is moved =
    in-trial t b before (moved.before ∙ is) (held-moved kept moved)
    (λ e i label p k. moved.grown.keeps label p (placed-before s a before kept is e i label p k))
    (before-step s t before (known-before s a before kept is) moved.grown)
    (λ e i. elim (went-before s a before kept is e i) as (λ v. In e b.jobs
    ⊎ IsListed t.went.items e) [ inl old ↦ moved.followed.went e old | inr l ↦ inr (moved.followed.listed e l) ])

-- Look-ups begin later
kept-settled : (s t : Shelves) (a : MapState) (before : List (ℕ × Job)) → ShelvesMatch s a → a.before ≡ Some before
    → HasSettled s t a.jobs → ShelvesMatch t a
kept-settled s t a before kept is settled =
    let came : t.came.items ≡ s.came.items = ap (λ (x : List (ℕ × Spot) × List (ℕ × Spot)). x.0) settled.lists in
    let went : t.went.items ≡ s.went.items = ap (λ (x : List (ℕ × Spot) × List (ℕ × Spot)). x.1) settled.lists in
    in-trial t a before is (held-settled s t a.jobs settled kept.held)
    (placed-settled s t a.jobs before settled (placed-before s a before kept is))
    (subst (AreKnown t before) (sym came) (known-settled s t a.jobs before s.came.items settled (known-before s a before kept is)))
    (λ e i. subst (λ x. In e a.jobs ⊎ IsListed x e) (sym went) (went-before s a before kept is e i))

-- Outside a trial, where none is listed
pub kept-swept : (s : Shelves) (b : MapState) → b.before ≡ None → AreSwept s b.jobs → ShelvesMatch s b
kept-swept s b none swept = record {
  held = held-listed s b.jobs [] s.went.items (ap (λ (x : List (ℕ × Spot) × List (ℕ × Spot)). x.1) swept.listed) swept.held;
  placed_before = subst (λ o. IfSome o (HavePlaces s)) (sym none) tt;
  known_before = subst (λ o. IfSome o (λ before. AreKnown s before s.came.items)) (sym none) tt;
  went = subst (λ o. IfSome o (λ before. (e : ℕ × Job) → In e before → In e b.jobs ⊎ IsListed s.went.items e)) (sym none) tt;
  none_listed = subst (λ o. IfNone o (lists s ≡ ([], []))) (sym none) swept.listed;
}

-- Whether a trial is on

some-is : {X : Type 0} (o : Option X) → is_some o ≡ true → (x : X) × (o ≡ Some x)
some-is None t = cc
some-is (Some x) t = (x, refl)

none-is : {X : Type 0} (o : Option X) → is_some o ≡ false → o ≡ None
none-is None f = refl
none-is (Some x) f = cc

-- A change, and the shelves after it
pub kept-followed : {E : Type 0} {s t u : Shelves} {a b : MapState} {jobs : List (ℕ × Job)} {result : Result Unit E}
    → ShelvesMatch s a → MovesJobs s t a b jobs result → HasCaughtUp (is_some b.before) t u b.jobs → ShelvesMatch u b
kept-followed {E} {s} {t} {u} {a} {b} {jobs} {result} kept moved now =
    elim (is_some b.before) as (λ v. is_some b.before ≡ v → ShelvesMatch u b) [
      | true ↦ λ e.
          let w = some-is b.before e in
          kept-settled t u b w.0 (kept-step s t a b w.0 jobs result kept (sym moved.before ∙ w.1) moved) w.1 (now.settled e)
      | false ↦ λ e.
          kept-swept u b (none-is b.before e) (record {
            held = held-listed u b.jobs u.went.items [] (sym (ap (λ (x : List (ℕ × Spot) × List (ℕ × Spot)). x.1) (now.swept e))) now.held;
            listed = now.swept e;
          })
    ] refl

-- At the end of a trial, or its beginning, the jobs are as they were

pub kept-ended : (s : Shelves) (a b : MapState) → b.jobs ≡ a.jobs → b.before ≡ None → AreSwept s a.jobs → ShelvesMatch s b
kept-ended s a b same none swept = kept-swept s b none (subst (AreSwept s) (sym same) swept)

pub kept-begun : (s : Shelves) (a b : MapState) → b.jobs ≡ a.jobs → b.before ≡ Some a.jobs → AreSwept s a.jobs → ShelvesMatch s b
kept-begun s a b same some swept =
    in-trial s b a.jobs some
    (subst (λ x. HoldJobs s x s.went.items) (sym same)
    (held-listed s a.jobs [] s.went.items (ap (λ (x : List (ℕ × Spot) × List (ℕ × Spot)). x.1) swept.listed) swept.held))
    swept.held.placed
    (subst (AreKnown s a.jobs) (sym (ap (λ (x : List (ℕ × Spot) × List (ℕ × Spot)). x.0) swept.listed)) swept.held.known)
    (λ e i. inl (subst (In e) (sym same) i))

pub kept-none : (s : Shelves) (b : MapState) → b.jobs ≡ [] → b.before ≡ None → ((l : Label) → shelf s l ≡ bare) → lists s ≡ ([], []) → ShelvesMatch s b
kept-none s b no-jobs none empty listed =
    kept-swept s b none (subst (AreSwept s) (sym no-jobs) (record {
      held = record {
        rising = omega arith;
        placed = λ e i. absurd i;
        ahead = λ e i. absurd i;
        known = λ l p i. absurd (subst (λ x. In p x.places) (empty l) i);
      };
      listed = listed;
    }))

-- A job that is removed

none-listed : (s : Shelves) (a : MapState) → ShelvesMatch s a → a.before ≡ None → lists s ≡ ([], [])
none-listed s a kept none = subst (λ o. IfNone o (lists s ≡ ([], []))) none kept.none_listed

swept-untried : (s : Shelves) (a : MapState) → ShelvesMatch s a → a.before ≡ None → AreSwept s a.jobs
swept-untried s a kept none =
    let listed : lists s ≡ ([], []) = none-listed s a kept none in
    record {
      held = held-listed s a.jobs s.went.items [] (sym (ap (λ (x : List (ℕ × Spot) × List (ℕ × Spot)). x.1) listed)) kept.held;
      listed = listed;
    }

pub kept-removed : (s t : Shelves) (a b : MapState) (id : ℕ) (job : Job) → ShelvesMatch s a → a.before ≡ None
    → b.before ≡ None → Rising 0 (2 ^ 64) b.jobs → b.jobs ≡ without id a.jobs → value_at id a.jobs ≡ Some job
    → HasTaken s t b.jobs → ((l : Label) → IsGone t b.jobs (id, at_spot (spot_of job)) l) → ShelvesMatch t b
kept-removed s t a b id job kept none ended r is there taken gone =
    let swept = swept-untried s a kept none in
    kept-swept t b ended (record {
      held = record {
        rising = r;
        placed = λ e i l p k. taken.keeps l p e i k (swept.held.placed e (without-in id a.jobs e (subst (In e) is i)) l p k);
        ahead = λ e i l p k. taken.ahead l p (swept.held.ahead e (without-in id a.jobs e (subst (In e) is i)) l p k);
        known = λ l p i.
            let w = swept.held.known l p (taken.only l p i) in
            elim w.2 as (λ v. (e : ℕ × Job) × BelongsAt l p e × (In e b.jobs ⊎ IsListed [] e)) [
              | inl old ↦ elim (without-others id w.0 a.jobs old) as (λ v. (e : ℕ × Job) × BelongsAt l p e × (In e b.jobs ⊎ IsListed [] e)) [
                | inl still ↦ (w.0, w.1, inl (subst (In w.0) (sym is) still))
                | inr same ↦
                    let y = gone l p i (to-spot l p id job
                    (subst (BelongsAt l p) (value-is id 0 (2 ^ 64) job w.0 a.jobs swept.held.rising there old same) w.1)) in
                    (y.0, y.1, inl y.2)
              ]
              | inr listed ↦ absurd listed
            ];
      };
      listed = taken.lists ∙ swept.listed;
    })

pub kept-absent : (s : Shelves) (a b : MapState) (id : ℕ) → ShelvesMatch s a → a.before ≡ None → b.before ≡ None
    → b.jobs ≡ without id a.jobs → value_at id a.jobs ≡ None → ShelvesMatch s b
kept-absent s a b id kept none ended is absent =
    kept-ended s a b (is ∙ without-absent id a.jobs absent) ended (swept-untried s a kept none)

-- A look-up of a shelf finds the jobs that belong there
pub looks-up : {s : Shelves} {state : MapState} {jobs : List (ℕ × Job)} (label : Label) → jobs ≡ state.jobs → ShelvesMatch s state
    → CanLookUp label (shelf s label) jobs
looks-up {s} {state} {jobs} label same kept =
    subst (CanLookUp label (shelf s label)) (sym same) (record {
      rising = kept.held.rising;
      all = λ p e i b. (kept.held.placed e i label p b, kept.held.ahead e i label p b);
    })

-- Which job is due

scheduled-due : (second : ℕ) (state : State) → is_due second state ≡ true → is_scheduled state ≡ true
scheduled-due second State.Ready t = cc
scheduled-due second (State.Delayed due) t = refl
scheduled-due second (State.Reserved y due) t = refl
scheduled-due second (State.Buried rank) t = cc

due-time : (second : ℕ) (state : State) → is_due second state ≡ true → due_of state ≤ second
due-time second State.Ready t = cc
due-time second (State.Delayed due) t = leb-true due second t
due-time second (State.Reserved y due) t = leb-true due second t
due-time second (State.Buried rank) t = cc

not-yet : (a b : ℕ) → nat_le a b ≡ false → b < a
not-yet a b f = elim (leb_tells a b) as (λ v. b < a) [ inl h ↦ absurd (both_ways (nat_le a b) f h.0) | inr h ↦ h.1 ]

late-time : (second : ℕ) (state : State) → is_scheduled state ≡ true → is_due second state ≡ false → second < due_of state
late-time second State.Ready t f = cc
late-time second (State.Delayed due) t f = not-yet due second f
late-time second (State.Reserved y due) t f = not-yet due second f
late-time second (State.Buried rank) t f = cc

pub due-found : (second : ℕ) (jobs : List (ℕ × Job)) (e : ℕ × Job) → IsLeast (belongs Label.Scheduled) due_of_job jobs e
    → is_due second e.1.state ≡ true → IsLeast (due_by second) due_of_job jobs e
due-found second jobs e best t = record {
  member = best.member;
  passes = t;
  least = λ d i u. best.least d i (scheduled-due second d.1.state u);
}

pub due-later : (second : ℕ) (jobs : List (ℕ × Job)) (e : ℕ × Job) → IsLeast (belongs Label.Scheduled) due_of_job jobs e
    → is_due second e.1.state ≡ false → NonePasses (due_by second) jobs
due-later second jobs e best f d i u =
    best.least d i (scheduled-due second d.1.state u) (inl (omega (arith, due-time second d.1.state u, late-time second e.1.state best.passes f)))

pub due-none : (second : ℕ) (jobs : List (ℕ × Job)) → NonePasses (belongs Label.Scheduled) jobs → NonePasses (due_by second) jobs
due-none second jobs none d i u = none d i (scheduled-due second d.1.state u)

-- Which job is due after a place

due-on : (second : ℕ) (place : ℕ × ℕ) (e : ℕ × Job) → due_after second place e ≡ true → belongs_after Label.Scheduled place e ≡ true
due-on second place e t =
    let both = and_parts (is_due second e.1.state) (is_after place (due_of_job e.1, e.0)) t in
    and_from (is_scheduled e.1.state) (is_after place (due_of_job e.1, e.0)) (scheduled-due second e.1.state both.0) both.1

pub due-found-after : (second : ℕ) (place : ℕ × ℕ) (jobs : List (ℕ × Job)) (e : ℕ × Job)
    → IsLeast (belongs_after Label.Scheduled place) due_of_job jobs e → is_due second e.1.state ≡ true
    → IsLeast (due_after second place) due_of_job jobs e
due-found-after second place jobs e best t = record {
  member = best.member;
  passes = and_from (is_due second e.1.state) (is_after place (due_of_job e.1, e.0)) t
      (and_parts (is_scheduled e.1.state) (is_after place (due_of_job e.1, e.0)) best.passes).1;
  least = λ d i u. best.least d i (due-on second place d u);
}

pub due-later-after : (second : ℕ) (place : ℕ × ℕ) (jobs : List (ℕ × Job)) (e : ℕ × Job)
    → IsLeast (belongs_after Label.Scheduled place) due_of_job jobs e → is_due second e.1.state ≡ false
    → NonePasses (due_after second place) jobs
due-later-after second place jobs e best f d i u =
    let soon = due-time second d.1.state (and_parts (is_due second d.1.state) (is_after place (due_of_job d.1, d.0)) u).0 in
    let late = late-time second e.1.state (and_parts (is_scheduled e.1.state) (is_after place (due_of_job e.1, e.0)) best.passes).0 f in
    best.least d i (due-on second place d u) (inl (omega (arith, soon, late)))

pub due-none-after : (second : ℕ) (place : ℕ × ℕ) (jobs : List (ℕ × Job))
    → NonePasses (belongs_after Label.Scheduled place) jobs → NonePasses (due_after second place) jobs
due-none-after second place jobs none d i u = none d i (due-on second place d u)
