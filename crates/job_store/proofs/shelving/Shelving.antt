-- Shelves after jobs were put, listed and taken out.
use Rattle.std.proofs.Common.{◌≡◌, ℕ, ◌^◌, true, false, ◌⊎◌, inl, inr, List, [], ◌∷◌, ◌++◌, Option, Some, None, IfNone}
use Rattle.std.proofs.Common.{Result, Ok, Err, OnOk, refl, sym, ap, subst, ◌∙◌}
use Rattle.std.specs.Prelude.{is_some}
use Rattle.std.specs.Result.{IsErr}
use Rattle.object.specs.Lists.{In}
use Rattle.job_store.specs.declared.job.Job.{Job}
use Rattle.job_store.specs.declared.label.Label.{Label}
use Rattle.job_store.specs.declared.shelves.Shelves.{Shelves}
use Rattle.job_store.specs.declared.spot.Spot.{Spot}
use Rattle.job_store.specs.declared.state.State.{State}
use Rattle.job_store.specs.Entries.{Rising}
use Rattle.job_store.specs.ShelfStates.{IsFrom, bare}
use Rattle.job_store.specs.Spots.{spot_of, changed_spot, at_spot}
use Rattle.job_store.specs.Shelves.{belongs, number, BelongsAt, shelf, places, lists, HasPlaces, HavePlaces, IsAhead}
use Rattle.job_store.specs.Shelves.{AreInReach, HoldJobs, AreSwept, CanGoBack, IsAlone, IsGone, LacksJob, BeginNoLater, HasPut, HasTaken}
use Rattle.job_store.specs.Shelves.{HasGoneBack, HasSettled, HasCome, IsListed, AreKnown, HasGrown, AreInDoubt, ListsMore, PutsInDoubt}

module _ {X : Type 0} where
  pub in-front : (x : X) (xs ys : List X) → In x xs → In x (xs ++ ys)
  in-front x [] ys i = absurd i
  in-front x (z ∷ xs) ys (inl here) = inl here
  in-front x (z ∷ xs) ys (inr later) = inr (in-front x xs ys later)

  pub in-last : (x : X) (xs : List X) → In x (xs ++ x ∷ [])
  in-last x [] = inl refl
  in-last x (z ∷ xs) = inr (in-last x xs)

  pub in-push : (x y : X) (xs : List X) → In x (xs ++ y ∷ []) → In x xs ⊎ (x ≡ y)
  in-push x y [] (inl here) = inr here
  in-push x y [] (inr later) = absurd later
  in-push x y (z ∷ xs) (inl here) = inl (inl here)
  in-push x y (z ∷ xs) (inr later) =
      elim (in-push x y xs later) as (λ v. In x (z ∷ xs) ⊎ (x ≡ y)) [ inl i ↦ inl (inr i) | inr last ↦ inr last ]

  pub not_ok : {E : Type 0} (P : Type 0) (r : Result X E) → IsErr r → OnOk r P
  not_ok P (Ok x) failed = cc
  not_ok P (Err e) failed = tt

  pub nothing : {P : Type 0} (o : Option X) → is_some o ≡ false → IfNone o P → P
  nothing None e p = p
  nothing (Some x) e p = cc

-- A job stands where its spot says

pub of-spot : (l : Label) (p : ℕ × ℕ) (id : ℕ) (job : Job) → BelongsAt l p (id, at_spot (spot_of job)) → BelongsAt l p (id, job)
of-spot (Label.Ready tube) p id job b = b
of-spot (Label.Delayed tube) p id job b = b
of-spot (Label.Buried tube) p id job b = b
of-spot (Label.Held x) p id job b = b
of-spot Label.Scheduled p id job b = b
of-spot (Label.Reserved tube) p id job b = b

pub to-spot : (l : Label) (p : ℕ × ℕ) (id : ℕ) (job : Job) → BelongsAt l p (id, job) → BelongsAt l p (id, at_spot (spot_of job))
to-spot (Label.Ready tube) p id job b = b
to-spot (Label.Delayed tube) p id job b = b
to-spot (Label.Buried tube) p id job b = b
to-spot (Label.Held x) p id job b = b
to-spot Label.Scheduled p id job b = b
to-spot (Label.Reserved tube) p id job b = b

-- of two jobs at one spot, each stands where the other does
pub like-spot : (l : Label) (p : ℕ × ℕ) (e : ℕ × Job) (x : ℕ × Spot) → (e.0, spot_of e.1) ≡ x → BelongsAt l p e → BelongsAt l p (x.0, at_spot x.1)
like-spot l p e x same b = subst (λ (y : ℕ × Spot). BelongsAt l p (y.0, at_spot y.1)) same (to-spot l p e.0 e.1 b)

pub come-at : (s : Shelves) (id : ℕ) (job : Job) → HasCome s (id, at_spot (spot_of job)) → HasCome s (id, job)
come-at s id job come = record {
  placed = λ l p b. come.placed l p (to-spot l p id job b);
  ahead = λ l p b. come.ahead l p (to-spot l p id job b);
}

-- The same shelves

pub same-grown : (s t : Shelves) → ((l : Label) → shelf t l ≡ shelf s l) → ((e : ℕ × Job) → IsListed s.came.items e → IsListed t.came.items e) → HasGrown s t
same-grown s t same came = record {
  keeps = λ l p i. subst (λ x. In p x.places) (sym (same l)) i;
  came = came;
  only = λ l p i. inl (subst (λ x. In p x.places) (same l) i);
  ahead = λ l p h. subst (λ x. IsFrom x.from p) (sym (same l)) h;
}

pub same-doubt : (s t : Shelves) → ((l : Label) → shelf t l ≡ shelf s l) → ((e : ℕ × Job) → IsListed s.went.items e → IsListed t.went.items e) → AreInDoubt s t
same-doubt s t same went = record {
  went = went;
  only = λ l p i. inl (subst (λ x. In p x.places) (same l) i);
}

pub more-listed : (old new : List (ℕ × Spot)) (x : ℕ × Spot) → new ≡ old ++ (x ∷ []) → (e : ℕ × Job) → IsListed old e → IsListed new e
more-listed old new x is e i = subst (In (e.0, spot_of e.1)) (sym is) (in-front (e.0, spot_of e.1) old (x ∷ []) i)

pub still-listed : (old new : List (ℕ × Spot)) → new ≡ old → (e : ℕ × Job) → IsListed old e → IsListed new e
still-listed old new same e i = subst (λ x. IsListed x e) (sym same) i

pub last-listed : (old new : List (ℕ × Spot)) (e : ℕ × Job) → new ≡ old ++ ((e.0, spot_of e.1) ∷ []) → IsListed new e
last-listed old new e is = subst (In (e.0, spot_of e.1)) (sym is) (in-last (e.0, spot_of e.1) old)

-- Growth on growth

pub grown-twice : (s t u : Shelves) → HasGrown s t → HasGrown t u → HasGrown s u
grown-twice s t u one two = record {
  keeps = λ l p i. two.keeps l p (one.keeps l p i);
  came = λ e i. two.came e (one.came e i);
  only = λ l p i.
      elim (two.only l p i) as (λ v. In p (places s l) ⊎ ((d : ℕ × Job) × BelongsAt l p d × IsListed u.came.items d)) [
        | inl old ↦ elim (one.only l p old) as (λ v. In p (places s l) ⊎ ((d : ℕ × Job) × BelongsAt l p d × IsListed u.came.items d)) [
          | inl older ↦ inl older
          | inr w ↦ inr (w.0, w.1, two.came w.0 w.2)
        ]
        | inr w ↦ inr w
      ];
  ahead = λ l p h. two.ahead l p (one.ahead l p h);
}

pub doubt-twice : (s t u : Shelves) → AreInDoubt s t → AreInDoubt t u → AreInDoubt s u
doubt-twice s t u one two = record {
  went = λ e i. two.went e (one.went e i);
  only = λ l p i.
      elim (two.only l p i) as (λ v. In p (places s l) ⊎ ((d : ℕ × Job) × BelongsAt l p d × IsListed u.went.items d)) [
        | inl old ↦ elim (one.only l p old) as (λ v. In p (places s l) ⊎ ((d : ℕ × Job) × BelongsAt l p d × IsListed u.went.items d)) [
          | inl older ↦ inl older
          | inr w ↦ inr (w.0, w.1, two.went w.0 w.2)
        ]
        | inr w ↦ inr w
      ];
}

-- A job is put that is listed

put-grown : (s t u : Shelves) (e : ℕ × Job) → HasGrown s t → IsListed t.came.items e → HasPut t u e → HasGrown s u
put-grown s t u e grown there put =
    let same : u.came.items ≡ t.came.items = ap (λ (x : List (ℕ × Spot) × List (ℕ × Spot)). x.0) put.lists in
    record {
      keeps = λ l p i. put.keeps l p (grown.keeps l p i);
      came = λ d i. subst (λ x. IsListed x d) (sym same) (grown.came d i);
      only = λ l p i.
          elim (put.only l p i) as (λ v. In p (places s l) ⊎ ((d : ℕ × Job) × BelongsAt l p d × IsListed u.came.items d)) [
            | inl old ↦ elim (grown.only l p old) as (λ v. In p (places s l) ⊎ ((d : ℕ × Job) × BelongsAt l p d × IsListed u.came.items d)) [
              | inl older ↦ inl older
              | inr w ↦ inr (w.0, w.1, subst (λ x. IsListed x w.0) (sym same) w.2)
            ]
            | inr b ↦ inr (e, b, subst (λ x. IsListed x e) (sym same) there)
          ];
      ahead = λ l p h. put.ahead l p (grown.ahead l p h);
    }

put-doubt : (s t u : Shelves) (e : ℕ × Job) → AreInDoubt s t → IsListed t.went.items e → HasPut t u e → AreInDoubt s u
put-doubt s t u e doubt there put =
    let same : u.went.items ≡ t.went.items = ap (λ (x : List (ℕ × Spot) × List (ℕ × Spot)). x.1) put.lists in
    record {
      went = λ d i. subst (λ x. IsListed x d) (sym same) (doubt.went d i);
      only = λ l p i.
          elim (put.only l p i) as (λ v. In p (places s l) ⊎ ((d : ℕ × Job) × BelongsAt l p d × IsListed u.went.items d)) [
            | inl old ↦ elim (doubt.only l p old) as (λ v. In p (places s l) ⊎ ((d : ℕ × Job) × BelongsAt l p d × IsListed u.went.items d)) [
              | inl older ↦ inl older
              | inr w ↦ inr (w.0, w.1, subst (λ x. IsListed x w.0) (sym same) w.2)
            ]
            | inr b ↦ inr (e, b, subst (λ x. IsListed x e) (sym same) there)
          ];
    }

-- A job is listed, and then put

only-put : (s t u : Shelves) (e : ℕ × Job) → ((l : Label) → shelf t l ≡ shelf s l) → HasPut t u e
    → (l : Label) (p : ℕ × ℕ) → In p (places u l) → In p (places s l) ⊎ BelongsAt l p e
only-put s t u e same put l p i =
    elim (put.only l p i) as (λ v. In p (places s l) ⊎ BelongsAt l p e) [
      | inl old ↦ inl (subst (λ x. In p x.places) (same l) old)
      | inr b ↦ inr b
    ]

pub puts-listed : {E : Type 0} (s t u : Shelves) (id : ℕ) (spot : Spot) (result : Result Unit E) → ListsMore s t
    → t.came.items ≡ s.came.items ++ (id, spot) ∷ [] → t.went.items ≡ s.went.items ++ (id, spot) ∷ []
    → HasPut t u (id, at_spot spot) → OnOk result (HasCome u (id, at_spot spot)) → PutsInDoubt s u (id, at_spot spot) result
puts-listed s t u id spot result left came went put come = record {
  grown = put-grown s t u (id, at_spot spot) (same-grown s t left.shelves left.came)
      (last-listed s.came.items t.came.items (id, at_spot spot) came) put;
  doubt = put-doubt s t u (id, at_spot spot) (same-doubt s t left.shelves left.went)
      (last-listed s.went.items t.went.items (id, at_spot spot) went) put;
  only = only-put s t u (id, at_spot spot) left.shelves put;
  come = come;
}

-- Where memory was refused before the job was put, more may be listed
pub puts-nothing : {E : Type 0} (s t : Shelves) (e : ℕ × Job) (result : Result Unit E) → IsErr result → ListsMore s t → PutsInDoubt s t e result
puts-nothing s t e result failed left = record {
  grown = same-grown s t left.shelves left.came;
  doubt = same-doubt s t left.shelves left.went;
  only = λ l p i. inl (subst (λ y. In p y.places) (left.shelves l) i);
  come = not_ok _ result failed;
}

-- A changed job is put

pub changed-went : (s t u : Shelves) (id pri : ℕ) (state : State) (tube : List ℕ) (job : Job) → tube ≡ job.tube
    → t.went.items ≡ s.went.items ++ (id, spot_of job) ∷ []
    → u.went.items ≡ t.went.items ++ (id, record { tube = tube; pri = pri; state = state }) ∷ []
    → u.went.items ≡ (s.went.items ++ (id, spot_of job) ∷ []) ++ (id, changed_spot pri state job) ∷ []
changed-went s t u id pri state tube job is one two =
    two ∙ ap (λ (xs : List (ℕ × Spot)). xs ++ (id, record { tube = tube; pri = pri; state = state }) ∷ []) one ∙ ap
    (λ (n : List ℕ). (s.went.items ++ (id, spot_of job) ∷ []) ++ (id, record { tube = n; pri = pri; state = state }) ∷ []) is

pub changed-put : {E F : Type 0} (s t u : Shelves) (id pri : ℕ) (state : State) (tube : List ℕ) (job : Job)
    (one : Result Unit E) (two : Result Unit F) → tube ≡ job.tube → ListsMore s t
    → PutsInDoubt t u (id, at_spot (record { tube = tube; pri = pri; state = state })) one
    → OnOk two (HasCome u (id, at_spot (record { tube = tube; pri = pri; state = state })))
    → PutsInDoubt s u (id, at_spot (changed_spot pri state job)) two
changed-put s t u id pri state tube job one two is left put come =
    subst (λ (n : List ℕ). PutsInDoubt s u (id, at_spot (record { tube = n; pri = pri; state = state })) two) is
    (record {
      grown = grown-twice s t u (same-grown s t left.shelves left.came) put.grown;
      doubt = doubt-twice s t u (same-doubt s t left.shelves left.went) put.doubt;
      only = λ l p i.
          elim (put.only l p i) as (λ v. In p (places s l) ⊎ BelongsAt l p (id, at_spot (record { tube = tube; pri = pri; state = state }))) [
            | inl old ↦ inl (subst (λ x. In p x.places) (left.shelves l) old)
            | inr b ↦ inr b
          ];
      come = come;
    })

-- Where no job of the map stands

pub untaken : (label : Label) (id n : ℕ) (spot : Spot) (jobs : List (ℕ × Job)) → belongs label (id, at_spot spot) ≡ true
    → n ≡ number label (at_spot spot)
    → ((p : ℕ × ℕ) → BelongsAt label p (id, at_spot spot) → (e : ℕ × Job) → In e jobs → BelongsAt label p e → ⊥)
    → (e : ℕ × Job) → In e jobs → BelongsAt label (n, id) e → ⊥
untaken label id n spot jobs fits is none = none (n, id) (fits, ap (λ m. (m, id)) is)

pub alone-without : (label : Label) (id : ℕ) (job : Job) (jobs : List (ℕ × Job)) → LacksJob id jobs → IsAlone label jobs (id, job)
alone-without label id job jobs lacks p b d i at =
    lacks d.1 (subst (λ k. In (k, d.1) jobs) (ap (λ (q : ℕ × ℕ). q.1) (sym at.1 ∙ b.1)) i)

-- The same shelves hold the same jobs

pub held-listed : (s : Shelves) (jobs : List (ℕ × Job)) (old new : List (ℕ × Spot)) → new ≡ old → HoldJobs s jobs old → HoldJobs s jobs new
held-listed s jobs old new same held = subst (HoldJobs s jobs) (sym same) held

pub held-same : (s t : Shelves) (jobs : List (ℕ × Job)) (old new : List (ℕ × Spot)) → ((l : Label) → shelf t l ≡ shelf s l)
    → new ≡ old → HoldJobs s jobs old → HoldJobs t jobs new
held-same s t jobs old new same is held =
    held-listed t jobs old new is (record {
      rising = held.rising;
      placed = λ e i l p b. subst (λ y. In p y.places) (sym (same l)) (held.placed e i l p b);
      ahead = λ e i l p b. subst (λ y. IsFrom y.from p) (sym (same l)) (held.ahead e i l p b);
      known = λ l p i. held.known l p (subst (λ x. In p x.places) (same l) i);
    })

pub reach-same : (s t : Shelves) (jobs : List (ℕ × Job)) (listed : List (ℕ × Spot)) → ((l : Label) → shelf t l ≡ shelf s l)
    → HoldJobs s jobs listed → AreInReach t jobs
reach-same s t jobs listed same held =
    let there = held-same s t jobs listed listed same refl held in
    record { rising = there.rising; ahead = there.ahead }

-- A listed job is taken out

pub record AreBeingSwept (s : Shelves) (jobs : List (ℕ × Job)) : Type 0 where
  pub held : HoldJobs s jobs s.went.items
  pub none : s.came.items ≡ []

pub sweep-step : (s t u : Shelves) (jobs : List (ℕ × Job)) (x : ℕ × Spot) → ((l : Label) → shelf t l ≡ shelf s l)
    → t.came.items ≡ s.came.items → s.went.items ≡ t.went.items ++ (x ∷ []) → HasTaken t u jobs
    → ((l : Label) → IsGone u jobs (x.0, at_spot x.1) l) → AreBeingSwept s jobs → AreBeingSwept u jobs
sweep-step s t u jobs x same came popped taken gone swept =
    let came-same : u.came.items ≡ t.came.items = ap (λ (y : List (ℕ × Spot) × List (ℕ × Spot)). y.0) taken.lists in
    let went-same : u.went.items ≡ t.went.items = ap (λ (y : List (ℕ × Spot) × List (ℕ × Spot)). y.1) taken.lists in
    let held = swept.held in
    record {
      held = record {
        rising = held.rising;
        placed = λ e i l p b. taken.keeps l p e i b (subst (λ y. In p y.places) (sym (same l)) (held.placed e i l p b));
        ahead = λ e i l p b. taken.ahead l p (subst (λ y. IsFrom y.from p) (sym (same l)) (held.ahead e i l p b));
        known = λ l p i.
            let w = held.known l p (subst (λ y. In p y.places) (same l) (taken.only l p i)) in
            elim w.2 as (λ v. (e : ℕ × Job) × BelongsAt l p e × (In e jobs ⊎ IsListed u.went.items e)) [
              | inl job ↦ (w.0, w.1, inl job)
              | inr listed ↦ elim (in-push (w.0.0, spot_of w.0.1) x t.went.items
                  (subst (In (w.0.0, spot_of w.0.1)) popped listed)) as (λ v. (e : ℕ × Job) × BelongsAt l p e
                  × (In e jobs ⊎ IsListed u.went.items e)) [
                    | inl before ↦ (w.0, w.1, inr (subst (λ y. IsListed y w.0) (sym went-same) before))
                    | inr last ↦ let y = gone l p i (like-spot l p w.0 x last w.1) in (y.0, y.1, inl y.2)
                  ]
            ];
      };
      none = came-same ∙ came ∙ swept.none;
    }

-- Look-ups find those again that went

pub record AreReached (first s : Shelves) : Type 0 where
  pub places : (l : Label) → places s l ≡ places first l
  pub ahead : BeginNoLater first s
  pub came : s.came.items ≡ first.came.items
  pub reached : (e : ℕ × Job) → IsListed first.went.items e → IsListed s.went.items e ⊎ IsAhead s e

pub none-reached : (s : Shelves) → AreReached s s
none-reached s = record { places = λ l. refl; ahead = λ l p h. h; came = refl; reached = λ e i. inl i }

pub reach-step : (first s t u : Shelves) (x : ℕ × Spot) → ((l : Label) → shelf t l ≡ shelf s l)
    → t.came.items ≡ s.came.items → s.went.items ≡ t.went.items ++ (x ∷ []) → HasGoneBack t u
    → IsAhead u (x.0, at_spot x.1) → AreReached first s → AreReached first u
reach-step first s t u x same came popped back ahead reached =
    let came-same : u.came.items ≡ t.came.items = ap (λ (y : List (ℕ × Spot) × List (ℕ × Spot)). y.0) back.lists in
    let went-same : u.went.items ≡ t.went.items = ap (λ (y : List (ℕ × Spot) × List (ℕ × Spot)). y.1) back.lists in
    record {
      places = λ l. back.places l ∙ ap (λ x. x.places) (same l) ∙ reached.places l;
      ahead = λ l p h. back.ahead l p (subst (λ y. IsFrom y.from p) (sym (same l)) (reached.ahead l p h));
      came = came-same ∙ came ∙ reached.came;
      reached = λ e i.
          elim (reached.reached e i) as (λ v. IsListed u.went.items e ⊎ IsAhead u e) [
            | inl listed ↦ elim (in-push (e.0, spot_of e.1) x t.went.items
                (subst (In (e.0, spot_of e.1)) popped listed)) as (λ v. IsListed u.went.items e ⊎ IsAhead u e) [
                  | inl before ↦ inl (subst (λ y. IsListed y e) (sym went-same) before)
                  | inr last ↦ inr (λ l p b. ahead l p (like-spot l p e x last b))
                ]
            | inr old ↦ inr (λ l p b. back.ahead l p (subst (λ y. IsFrom y.from p) (sym (same l)) (old l p b)))
          ];
    }

pub all-reached : (first s t : Shelves) → ((l : Label) → shelf t l ≡ shelf s l) → s.went.items ≡ [] → AreReached first s
    → (e : ℕ × Job) → IsListed first.went.items e → IsAhead t e
all-reached first s t same none reached e i =
    elim (reached.reached e i) as (λ v. IsAhead t e) [
      | inl listed ↦ absurd (subst (λ x. IsListed x e) none listed)
      | inr ahead ↦ λ l p b. subst (λ y. IsFrom y.from p) (sym (same l)) (ahead l p b)
    ]

-- the shelves hold the jobs, where places are to go of those that came
pub held-back : (s t u : Shelves) (jobs : List (ℕ × Job)) (listed : List (ℕ × Spot)) → Rising 0 (2 ^ 64) jobs → CanGoBack s jobs
    → ((l : Label) → places t l ≡ places s l) → BeginNoLater s t
    → ((e : ℕ × Job) → IsListed s.went.items e → IsAhead t e) → ((l : Label) → shelf u l ≡ shelf t l)
    → listed ≡ s.came.items → HoldJobs u jobs listed
held-back s t u jobs listed r back places later reached same is =
    held-same t u jobs s.came.items listed same is (record {
      rising = r;
      placed = λ e i l p b. subst (In p) (sym (places l)) (back.placed e i l p b);
      ahead = λ e i.
          elim (back.ahead e i) as (λ v. IsAhead t e) [
            | inl old ↦ λ l p b. later l p (old l p b)
            | inr went ↦ reached e went
          ];
      known = λ l p i. back.known l p (subst (In p) (places l) i);
    })

-- Look-ups begin later

pub settled-twice : (s t u : Shelves) (jobs : List (ℕ × Job)) → HasSettled s t jobs → HasSettled t u jobs → HasSettled s u jobs
settled-twice s t u jobs one two = record {
  shelves = λ l. record {
    places = (two.shelves l).places ∙ (one.shelves l).places;
    passed = λ p e i b f. (two.shelves l).passed p e i b (subst (In p) (sym (one.shelves l).places) f.0, (one.shelves l).passed p e i b f);
  };
  lists = two.lists ∙ one.lists;
}

pub placed-settled : (s t : Shelves) (jobs of : List (ℕ × Job)) → HasSettled s t jobs → HavePlaces s of → HavePlaces t of
placed-settled s t jobs of settled placed e i l p b = subst (In p) (sym (settled.shelves l).places) (placed e i l p b)

pub known-settled : (s t : Shelves) (jobs of : List (ℕ × Job)) (listed : List (ℕ × Spot)) → HasSettled s t jobs → AreKnown s of listed → AreKnown t of listed
known-settled s t jobs of listed settled known l p i = known l p (subst (In p) (settled.shelves l).places i)

pub held-settled : (s t : Shelves) (jobs : List (ℕ × Job)) → HasSettled s t jobs → HoldJobs s jobs s.went.items → HoldJobs t jobs t.went.items
held-settled s t jobs settled held =
    held-listed t jobs s.went.items t.went.items (ap (λ (x : List (ℕ × Spot) × List (ℕ × Spot)). x.1) settled.lists) (record {
      rising = held.rising;
      placed = placed-settled s t jobs jobs settled held.placed;
      ahead = λ e i l p b. (settled.shelves l).passed p e i b (held.placed e i l p b, held.ahead e i l p b);
      known = known-settled s t jobs jobs s.went.items settled held.known;
    })

-- The place of a job

pub only-place : (label : Label) (id n : ℕ) (job : Job) (p : ℕ × ℕ) → n ≡ number label job → BelongsAt label p (id, job) → p ≡ (n, id)
only-place label id n job p e b = b.1 ∙ ap (λ m. (m, id)) (sym e)

-- The jobs of a map are put one after another

pub record ArePut (s : Shelves) (rest jobs : List (ℕ × Job)) : Type 0 where
  pub found : (e : ℕ × Job) → In e jobs → In e rest ⊎ HasCome s e
  pub known : AreKnown s jobs []
  pub within : (e : ℕ × Job) → In e rest → In e jobs
  pub listed : lists s ≡ ([], [])

pub none-put : (s : Shelves) (jobs : List (ℕ × Job)) → ((l : Label) → shelf s l ≡ bare) → lists s ≡ ([], []) → ArePut s jobs jobs
none-put s jobs none listed = record {
  found = λ e i. inl i;
  known = λ l p i. absurd (subst (λ x. In p x.places) (none l) i);
  within = λ e i. i;
  listed = listed;
}

pub all-put : (s : Shelves) (rest jobs : List (ℕ × Job)) → Rising 0 (2 ^ 64) jobs → rest ≡ [] → ArePut s rest jobs → AreSwept s jobs
all-put s rest jobs r none put = record {
  held = record {
    rising = r;
    placed = λ e i. elim (put.found e i) as (λ v. HasPlaces s e) [ inl more ↦ absurd (subst (In e) none more) | inr there ↦ there.placed ];
    ahead = λ e i. elim (put.found e i) as (λ v. IsAhead s e) [ inl more ↦ absurd (subst (In e) none more) | inr there ↦ there.ahead ];
    known = put.known;
  };
  listed = put.listed;
}

pub one-put : (s t : Shelves) (e : ℕ × Job) (spot : Spot) (all rest jobs : List (ℕ × Job)) → all ≡ e ∷ rest
    → spot ≡ spot_of e.1 → HasCome t (e.0, at_spot spot) → HasPut s t (e.0, at_spot spot) → ArePut s all jobs
    → ArePut t rest jobs
one-put s t e spot all rest jobs is at come one put =
    let here : HasCome t e = come-at t e.0 e.1 (subst (λ x. HasCome t (e.0, at_spot x)) at come) in
    record {
      found = λ d i.
          elim (put.found d i) as (λ v. In d rest ⊎ HasCome t d) [
            | inl j ↦ elim (subst (In d) is j) as (λ v. In d rest ⊎ HasCome t d) [
              | inl same ↦ inr (subst (HasCome t) (sym same) here)
              | inr later ↦ inl later
            ]
            | inr there ↦ inr (record { placed = λ l p b. one.keeps l p (there.placed l p b); ahead = λ l p b. one.ahead l p (there.ahead l p b) })
          ];
      known = λ l p i.
          elim (one.only l p i) as (λ v. (d : ℕ × Job) × BelongsAt l p d × (In d jobs ⊎ IsListed [] d)) [
            | inl old ↦ put.known l p old
            | inr b ↦ (e, of-spot l p e.0 e.1 (subst (λ x. BelongsAt l p (e.0, at_spot x)) at b), inl (put.within e (subst (In e) (sym is) (inl refl))))
          ];
      within = λ d i. put.within d (subst (In d) (sym is) (inr i));
      listed = one.lists ∙ put.listed;
    }
