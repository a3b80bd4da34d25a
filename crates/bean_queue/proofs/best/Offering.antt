-- What is offered, as offers come and go.
use Rattle.std.proofs.Common.{◌≡◌, ℕ, suc, ◌+◌, ◌<◌, true, false, cond, ◌⊎◌, inl, inr, List, [], ◌∷◌, Bool, Option, Some, None}
use Rattle.std.proofs.Common.{IfSome, is_some, option_map, length, get_or, drop, drop-cons, refl, sym, ap, ap₂, subst, ◌∙◌, arith, true≢false}
use Rattle.std.proofs.lemmas.Bool.{and_parts, and_from, cases_eq}
use Rattle.std.specs.List.{list_any}
use Rattle.std.specs.Ordering.{nat_cmp, ordering_then, is_eq, is_gt}
use Rattle.std.specs.BTreeMap.{is_at}
use Rattle.std.specs.BTreeSet.{contains, IsLowerBound}
use Rattle.object.specs.Lists.{In}
use Rattle.job_store.specs.declared.job.Job.{Job}
use Rattle.job_store.specs.Entries.{Rising, value_at, altered}
use Rattle.job_store.specs.EntryLaws.{cmp_equal, cmp_greater, value_at-In, value_at-altered_same, value_at-altered_other}
use Rattle.job_store.specs.Least.{IsLeast, NonePasses, least}
use Rattle.job_store.specs.LookUps.{first_ready, pri_of_job, is_among}
use Rattle.job_store.specs.States.{is_ready, reserved_job}
use Rattle.job_store.proofs.least.Least.{same_entry, never_between, among-member}
use Rattle.job_store.proofs.maps.Members.{value-in}
use Rattle.job_store.proofs.shelving.Places.{at_place}
use Rattle.session_store.specs.declared.session.SessionState.{SessionState}
use Rattle.session_store.specs.Sessions.{with_wait_ended}
use Rattle.session_store.proofs.TubeSets.{stays_but}
use Rattle.bean_queue.specs.declared.offers.Offers.{Offers}
use Rattle.bean_queue.specs.Offers.{offer_cmp, offer_place, is_takable, takable_at, next_beside, IsOffered, IsReadyAt, HasOffer, HasOffers}
use Rattle.bean_queue.specs.Queue.{QueueState, paused_tubes}
use Rattle.bean_queue.specs.TurnLaws.{next_job-in, least-none}
use Rattle.bean_queue.specs.Turns.{next_job}
use Rattle.bean_queue.specs.Woken.{has_taker}
use Rattle.bean_queue.specs.Offers.{CoverTakable, OffersJobsOf, OffersToo, OffersInstead, Withdraws}
use Rattle.bean_queue.proofs.best.Takable.{best_is, best_for, in_one, chosen, taker-before}
use Rattle.bean_queue.proofs.calm.Calm.{changed-calmer}

-- Places

at_itself : (p : ℕ × ℕ) → is_at (offer_cmp p) p ≡ true
at_itself p = ap is_eq (ap₂ ordering_then (cmp_equal p.0 p.0 refl) (cmp_equal p.1 p.1 refl))

the_place : (p q : ℕ × ℕ) → Some p ≡ Some q → p ≡ q
the_place p q e = cc

the_job : (a b : Job) → Some a ≡ Some b → a ≡ b
the_job a b e = cc

no_job : (a : Job) → None ≡ Some a → ⊥
no_job a e = cc

no_place : (p : ℕ × ℕ) → None ≡ Some p → ⊥
no_place p e = cc

-- a place that comes before another is the smaller
pub is_above : (p q : ℕ × ℕ) → (q.0 < p.0) ⊎ ((q.0 ≡ p.0) × (q.1 < p.1)) → is_gt (offer_cmp p q) ≡ true
is_above p q (inl below) = ap (λ o. is_gt (ordering_then o (nat_cmp p.1 q.1))) (cmp_greater p.0 q.0 below)
is_above p q (inr both) = ap₂ (λ a b. is_gt (ordering_then a b)) (cmp_equal p.0 q.0 (sym both.0)) (cmp_greater p.1 q.1 both.1)

-- Offers that come and go

module _ (old new : Offers) where
  -- a job that is offered too
  pub one-too : (e : ℕ × Job)
      → ((p : ℕ × ℕ) → contains offer_cmp new.places p
      ≡ cond (is_at (offer_cmp (offer_place e)) p) true (contains offer_cmp old.places p))
      → OffersToo old new (Some e)
  one-too e updates p = (
    λ i.
        elim (is_at (offer_cmp (offer_place e)) p) as (λ b. is_at (offer_cmp (offer_place e)) p ≡ b
        → cond b true (contains offer_cmp old.places p) ≡ true
        → IsOffered old p ⊎ (Some (offer_place e) ≡ Some p)) [
          | true ↦ λ here _. inr (ap Some (at_place (offer_place e) p here))
          | false ↦ λ _ was. inl was
        ] refl (sym (updates p) ∙ i),
    λ v.
        updates p ∙
        elim v as (λ _. cond (is_at (offer_cmp (offer_place e)) p) true (contains offer_cmp old.places p) ≡ true) [
          | inl was ↦ elim (is_at (offer_cmp (offer_place e)) p) as (λ b. cond b true (contains offer_cmp old.places p) ≡ true) [
            | true ↦ refl
            | false ↦ was
          ]
          | inr same ↦ ap (λ b. cond b true (contains offer_cmp old.places p))
              (subst (λ q. is_at (offer_cmp (offer_place e)) q ≡ true) (the_place (offer_place e) p same) (at_itself (offer_place e)))
        ],
  )

  -- a place that is taken out
  pub taken-out : (k : ℕ × ℕ)
      → ((p : ℕ × ℕ) → contains offer_cmp new.places p ≡ cond (is_at (offer_cmp k) p) false (contains offer_cmp old.places p))
      → Withdraws old new k
  taken-out k updates p = (
    λ i.
        elim (is_at (offer_cmp k) p) as (λ b. is_at (offer_cmp k) p ≡ b
        → cond b false (contains offer_cmp old.places p) ≡ true → IsOffered old p × (p ≡ k → ⊥)) [
          | true ↦ λ _ never. absurd (true≢false (sym never))
          | false ↦ λ apart was. (
            was,
            λ same. true≢false (sym (subst (λ q. is_at (offer_cmp k) q ≡ true) (sym same) (at_itself k)) ∙ apart),
          )
        ] refl (sym (updates p) ∙ i),
    λ v. stays_but offer_cmp at_place k p old.places new.places (updates p) (λ same. v.1 (sym same)) v.0,
  )

-- no job is offered too
pub none-too : (offers : Offers) → OffersToo offers offers None
none-too offers p = (λ i. inl i, λ v. elim v as (λ _. IsOffered offers p) [ inl was ↦ was | inr never ↦ absurd (no_place p never) ])

-- a place that is taken out, and then a job that is offered too
pub too-instead : (old mid new : Offers) (k : ℕ × ℕ) (o : Option (ℕ × Job)) → Withdraws old mid k → OffersToo mid new o → OffersInstead old new k o
too-instead old mid new k o gone too p = (
  λ i. elim ((too p).0 i) as (λ _. (IsOffered old p × (p ≡ k → ⊥)) ⊎ (option_map offer_place o ≡ Some p)) [
    | inl was ↦ inl ((gone p).0 was)
    | inr here ↦ inr here
  ],
  λ v. (too p).1 (elim v as (λ _. IsOffered mid p ⊎ (option_map offer_place o ≡ Some p)) [
    | inl was ↦ inl ((gone p).1 was)
    | inr here ↦ inr here
  ]),
)

-- The next ready job of a tube

module _ (tube : List ℕ) (jobs : List (ℕ × Job)) where
  alone : is_among tube (tube ∷ []) ≡ true
  alone = (among-member tube (tube ∷ [])).1 (inl refl)

  -- at its place a ready job stands
  next-ready : (p : ℕ × ℕ) → option_map offer_place (first_ready tube jobs) ≡ Some p → IsReadyAt jobs p
  next-ready p e =
      elim (first_ready tube jobs) as (λ o. first_ready tube jobs ≡ o → option_map offer_place o ≡ Some p → IsReadyAt jobs p) [
        | None ↦ λ _ never. absurd (no_place p never)
        | Some d ↦ λ first here.
            let best = best_is (tube ∷ []) jobs d first in
            let tests = and_parts (is_ready d.1.state) (is_among d.1.tube (tube ∷ [])) best.passes in
            subst (IsReadyAt jobs) (the_place (offer_place d) p here)
            (record { job = d.1; there = best.member; ready = tests.0; pri = refl })
      ] refl e

  -- and a ready job of the tube doesn't come before it
  next-covers : (offers : Offers) (j : ℕ × Job) → In j jobs → is_ready j.1.state ≡ true → j.1.tube ≡ tube
      → ((p : ℕ × ℕ) → option_map offer_place (first_ready tube jobs) ≡ Some p → IsOffered offers p) → HasOffer offers jobs j
  next-covers offers j there ready its offered =
      let best = best_for (tube ∷ []) jobs j there
      (and_from (is_ready j.1.state) (is_among j.1.tube (tube ∷ [])) ready
      (subst (λ t. is_among t (tube ∷ []) ≡ true) (sym its) alone)) in
      let least = best_is (tube ∷ []) jobs best.0 best.1 in
      record {
        job = best.0;
        there = least.member;
        tube =
            in_one tube best.0.1.tube (and_parts (is_ready best.0.1.state) (is_among best.0.1.tube (tube ∷ [])) least.passes).1 ∙ sym its;
        not_after = best.2;
        offered = offered (offer_place best.0) (ap (option_map offer_place) best.1);
      }

-- The job at a place

module _ (takes : List ℕ → Bool) (jobs : List (ℕ × Job)) (hi : ℕ) (r : Rising 0 hi jobs) where
  abbrev seen : Option Job → Option Job
  seen o = elim o as (λ _. Option Job) [ None ↦ None | Some job ↦ cond (takes job.tube) (Some job) None ]

  takable-found : (e : ℕ × Job) (id : ℕ) → In e jobs → e.0 ≡ id → takes e.1.tube ≡ true → takable_at takes id jobs ≡ Some e.1
  takable-found e id there same t =
      ap (λ k. seen (value_at k jobs)) (sym same) ∙ ap seen (value_at-In 0 hi jobs e r there) ∙
      ap (λ b. cond b (Some e.1) None) t

  -- what is found at a place where a ready job stands
  found-takable : (p : ℕ × ℕ) (at : IsReadyAt jobs p) (job : Job) → Some job ≡ takable_at takes p.1 jobs
      → (takes at.job.tube ≡ true) × (at.job ≡ job)
  found-takable p at job found =
      let both = chosen (takes at.job.tube) (Some at.job) job
      (sym (ap seen (value_at-In 0 hi jobs (p.1, at.job) r at.there)) ∙ sym found) in
      (both.0, the_job at.job job both.1)

  -- What is found, and what is left

  module _ (offers : Offers) (has : HasOffers offers takes jobs) where
    -- the most urgent offer, if its tube has a taker
    pub first-takable : (p : ℕ × ℕ) (job : Job) → IsOffered offers p → IsLowerBound offer_cmp offers.places p
        → Some job ≡ takable_at takes p.1 jobs → IsLeast (is_takable takes) pri_of_job jobs (p.1, job)
    first-takable p job offered lowest found =
        let at = has.ready p offered in
        let both = found-takable p at job found in
        subst (λ j. IsLeast (is_takable takes) pri_of_job jobs (p.1, j)) both.1
        (record {
          member = at.there;
          passes = and_from (is_ready at.job.state) (takes at.job.tube) at.ready both.0;
          least = λ d there t before.
              let c = has.each d there t in
              never_between pri_of_job d (p.1, at.job) c.job
              (λ first. true≢false
              (sym (is_above p (offer_place c.job)
              (elim first as (λ _. (c.job.1.pri < p.0) ⊎ ((c.job.1.pri ≡ p.0) × (c.job.0 < p.1))) [
                | inl below ↦ inl (subst (λ n. c.job.1.pri < n) (sym at.pri) below)
                | inr even ↦ inr (even.0 ∙ sym at.pri, even.1)
              ])) ∙ lowest (offer_place c.job) c.offered))
              c.not_after before;
        })

    -- where nothing is offered
    pub none-takable : offers.places.keys ≡ [] → NonePasses (is_takable takes) jobs
    none-takable empty e there t =
        let c = has.each e there t in
        true≢false (sym c.offered ∙ ap (λ ps. list_any (is_at (offer_cmp (offer_place c.job))) ps) empty)

    -- an offer whose tube has no taker isn't needed
    pub still-offers : (offers' : Offers) (p : ℕ × ℕ) → None ≡ takable_at takes p.1 jobs → Withdraws offers offers' p → HasOffers offers' takes jobs
    still-offers offers' p none gone = record {
      ready = λ q i. has.ready q ((gone q).0 i).0;
      each = λ j there t.
          let c = has.each j there t in
          let its = ap takes c.tube ∙ (and_parts (is_ready j.1.state) (takes j.1.tube) t).1 in
          record {
            job = c.job;
            there = c.there;
            tube = c.tube;
            not_after = c.not_after;
            offered =
                (gone (offer_place c.job)).1 (
                  c.offered,
                  λ same. no_job c.job.1 (none ∙ takable-found c.job p.1 c.there (ap (λ (q : ℕ × ℕ). q.1) same) its),
                );
          };
    }

    -- a job on offer is given, and the next one of its tube is offered in its place
    module _ (f : Job → Job) (unready : (job : Job) → is_ready (f job).state ≡ false) (same_tube : (job : Job) → (f job).tube ≡ job.tube)
        (e : ℕ × Job) (its : In e jobs) where
      next-beside : next_beside e.0 (altered e.0 f jobs) ≡ first_ready e.1.tube (altered e.0 f jobs)
      next-beside =
          let there = value_at-altered_same e.0 f jobs e.1 (value_at-In 0 hi jobs e r its) in
          ap (λ o. elim o as (λ _. Option (ℕ × Job)) [ None ↦ None | Some job ↦ first_ready job.tube (altered e.0 f jobs) ]) there ∙
          ap (λ t. first_ready t (altered e.0 f jobs)) (same_tube e.1)

      others-stay : (d : ℕ × Job) → In d jobs → (e.0 ≡ d.0 → ⊥) → In d (altered e.0 f jobs)
      others-stay d there apart =
          value-in d.0 d.1 (altered e.0 f jobs) (value_at-altered_other e.0 d.0 f jobs apart ∙ value_at-In 0 hi jobs d r there)

      pub given-offers : (takes' : List ℕ → Bool) (offers' : Offers) → ((tube : List ℕ) → takes' tube ≡ true → takes tube ≡ true)
          → OffersInstead offers offers' (offer_place e) (next_beside e.0 (altered e.0 f jobs))
          → HasOffers offers' takes' (altered e.0 f jobs)
      given-offers takes' offers' fewer instead = record {
        ready = λ p i. elim ((instead p).0 i) as (λ _. IsReadyAt (altered e.0 f jobs) p) [
          | inl was ↦
              let at = has.ready p was.0 in
              record {
                job = at.job;
                there =
                    others-stay (p.1, at.job) at.there
                    (λ same.
                    let it : (p.1, at.job) ≡ e = same_entry 0 hi jobs (p.1, at.job) e r at.there its (sym same) in
                    was.1 (ap₂ (λ a b. (a, b)) (at.pri ∙ ap (λ (d : ℕ × Job). d.1.pri) it) (sym same)));
                ready = at.ready;
                pri = at.pri;
              }
          | inr here ↦ next-ready e.1.tube (altered e.0 f jobs) p (sym (ap (option_map offer_place) next-beside) ∙ here)
        ];
        each = λ j there t.
            let tests = and_parts (is_ready j.1.state) (takes' j.1.tube) t in
            let c = has.each j (changed-calmer e.0 f jobs unready j there tests.0)
            (and_from (is_ready j.1.state) (takes j.1.tube) tests.0 (fewer j.1.tube tests.1)) in
            elim (cases_eq e.0 c.job.0) as (λ _. HasOffer offers' (altered e.0 f jobs) j) [
              | inl same ↦
                  let it : c.job ≡ e = same_entry 0 hi jobs c.job e r c.there its (sym same) in
                  next-covers e.1.tube (altered e.0 f jobs) offers' j there tests.0
                  (sym c.tube ∙ ap (λ (d : ℕ × Job). d.1.tube) it)
                  (λ p here. (instead p).1 (inr (ap (option_map offer_place) next-beside ∙ here)))
              | inr apart ↦ record {
                job = c.job;
                there = others-stay c.job c.there apart;
                tube = c.tube;
                not_after = c.not_after;
                offered =
                    (instead (offer_place c.job)).1
                    (inl (c.offered, λ same. apart (sym (ap (λ (q : ℕ × ℕ). q.1) same))));
              }
            ];
      }

-- where a tube that has a taker has a ready job, one is takable
pub some-takable : (takes : List ℕ → Bool) (jobs : List (ℕ × Job)) (tube : List ℕ) (o : Option (ℕ × Job)) → takes tube ≡ true
    → o ≡ first_ready tube jobs → is_some o ≡ true → is_some (least (is_takable takes) pri_of_job jobs) ≡ true
some-takable takes jobs tube None t e some = cc
some-takable takes jobs tube (Some d) t e some =
    let best = best_is (tube ∷ []) jobs d (sym e) in
    let tests = and_parts (is_ready d.1.state) (is_among d.1.tube (tube ∷ [])) best.passes in
    elim (least (is_takable takes) pri_of_job jobs) as (λ o. least (is_takable takes) pri_of_job jobs ≡ o → is_some o ≡ true) [
      | None ↦ λ none. absurd (least-none (is_takable takes) pri_of_job jobs d none best.member
          (and_from (is_ready d.1.state) (takes d.1.tube) tests.0 (ap takes (in_one tube d.1.tube tests.1) ∙ t)))
      | Some c ↦ λ _. refl
    ] refl

pub shown-some : {A B : Type 0} (show : A → B) (o : Option A) → is_some o ≡ true → is_some (option_map show o) ≡ true
shown-some show None e = cc
shown-some show (Some a) e = refl

-- Offers that are gathered, tube by tube

-- each offer is a ready job; and the tube of each ready job that is takable is still to come, or it is covered
pub record AreGathered (offers : Offers) (takes : List ℕ → Bool) (jobs : List (ℕ × Job)) (rest : List (List ℕ)) : Type 0 where
  pub ready : (p : ℕ × ℕ) → IsOffered offers p → IsReadyAt jobs p
  pub each : (j : ℕ × Job) → In j jobs → is_takable takes j ≡ true → In j.1.tube rest ⊎ HasOffer offers jobs j

-- what is left of some tubes
pub cut-tubes : (xs : List (List ℕ)) (i : ℕ) (x y : List ℕ) → i < length xs → x ≡ get_or xs i y → drop i xs ≡ x ∷ drop (i + 1) xs
cut-tubes xs i x y below here = let next : suc i ≡ i + 1 = omega arith in drop-cons xs i y below ∙ ap₂ (λ z n. z ∷ drop n xs) (sym here) next

module _ (takes : List ℕ → Bool) (jobs : List (ℕ × Job)) where
  pub gathered-none : (offers : Offers) (tubes : List (List ℕ)) → ((p : ℕ × ℕ) → IsOffered offers p → ⊥)
      → CoverTakable tubes takes jobs → AreGathered offers takes jobs tubes
  gathered-none offers tubes none cover = record { ready = λ p i. absurd (none p i); each = λ j there t. inl (cover j there t) }

  pub gathered-all : (offers : Offers) (rest : List (List ℕ)) → rest ≡ [] → AreGathered offers takes jobs rest → HasOffers offers takes jobs
  gathered-all offers rest end g = record {
    ready = g.ready;
    each = λ j there t. elim (g.each j there t) as (λ _. HasOffer offers jobs j) [
      | inl later ↦ absurd (subst (In j.1.tube) end later)
      | inr covered ↦ covered
    ];
  }

  -- a tube that has no taker
  pub gathered-other : (offers : Offers) (tube : List ℕ) (items rest : List (List ℕ)) → items ≡ tube ∷ rest → takes tube ≡ false
      → AreGathered offers takes jobs items → AreGathered offers takes jobs rest
  gathered-other offers tube items rest cut none g = record {
    ready = g.ready;
    each = λ j there t. elim (g.each j there t) as (λ _. In j.1.tube rest ⊎ HasOffer offers jobs j) [
      | inl later ↦ elim (subst (In j.1.tube) cut later) as (λ _. In j.1.tube rest ⊎ HasOffer offers jobs j) [
        | inl here ↦ absurd (true≢false (sym (and_parts (is_ready j.1.state) (takes j.1.tube) t).1 ∙ ap takes here ∙ none))
        | inr further ↦ inl further
      ]
      | inr covered ↦ inr covered
    ];
  }

  -- a tube that has one
  pub gathered-one : (offers offers' : Offers) (tube : List ℕ) (items rest : List (List ℕ)) → items ≡ tube ∷ rest
      → OffersToo offers offers' (first_ready tube jobs) → AreGathered offers takes jobs items → AreGathered offers' takes jobs rest
  gathered-one offers offers' tube items rest cut too g = record {
    ready = λ p i. elim ((too p).0 i) as (λ _. IsReadyAt jobs p) [
      | inl was ↦ g.ready p was
      | inr here ↦ next-ready tube jobs p here
    ];
    each = λ j there t. elim (g.each j there t) as (λ _. In j.1.tube rest ⊎ HasOffer offers' jobs j) [
      | inl later ↦ elim (subst (In j.1.tube) cut later) as (λ _. In j.1.tube rest ⊎ HasOffer offers' jobs j) [
        | inl here ↦ inr (next-covers tube jobs offers' j there (and_parts (is_ready j.1.state) (takes j.1.tube) t).0 here (λ p e. (too p).1 (inr e)))
        | inr further ↦ inl further
      ]
      | inr c ↦ inr (record {
        job = c.job;
        there = c.there;
        tube = c.tube;
        not_after = c.not_after;
        offered = (too (offer_place c.job)).1 (inl c.offered);
      })
    ];
  }

-- A turn

-- the next job was given, and the next ready one of its tube is offered in its place
pub served-offers : (s : QueueState) (offers offers' : Offers) (e : ℕ × Job) (x due hi : ℕ) (jobs shown : List (ℕ × Job))
    (sessions : List (ℕ × SessionState)) → Rising 0 hi s.jobs → OffersJobsOf offers s → next_job s ≡ Some e
    → jobs ≡ altered e.0 (reserved_job x due) s.jobs → sessions ≡ with_wait_ended x s.sessions → shown ≡ jobs
    → OffersInstead offers offers' (offer_place e) (next_beside e.0 shown)
    → HasOffers offers' (has_taker (paused_tubes s) sessions) jobs
served-offers s offers offers' e x due hi jobs shown sessions r has next made ended seen_jobs instead =
    let its = (subst (λ o. IfSome o (λ j. In j s.jobs × (is_ready j.1.state ≡ true))) next (next_job-in s)).0 in
    subst (HasOffers offers' (has_taker (paused_tubes s) sessions)) (sym made)
    (subst (λ ss. HasOffers offers' (has_taker (paused_tubes s) ss) (altered e.0 (reserved_job x due) s.jobs)) (sym ended)
    (given-offers (has_taker (paused_tubes s) s.sessions) s.jobs hi r offers has (reserved_job x due) (λ job. refl) (λ job. refl) e its
    (has_taker (paused_tubes s) (with_wait_ended x s.sessions)) offers' (taker-before (paused_tubes s) x s.sessions)
    (subst (λ js. OffersInstead offers offers' (offer_place e) (next_beside e.0 js)) (seen_jobs ∙ made) instead)))
