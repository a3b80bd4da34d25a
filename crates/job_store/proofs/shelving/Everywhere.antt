-- A job that is put onto all its shelves, or taken from them.
use Rattle.std.proofs.Common.{◌≡◌, ℕ, Bool, true, ◌⊎◌, inl, inr, List, sym, subst, ◌∙◌, nat_cmp, ◌&&◌, bytes_eq, eqb-true}
use Rattle.std.proofs.lemmas.Bool.{and_parts}
use Rattle.std.proofs.lemmas.Slice.Eq.{bytes_eq-Decides}
use Rattle.object.specs.Lists.{In}
use Rattle.job_store.specs.declared.job.Job.{Job}
use Rattle.job_store.specs.declared.state.State.{State}
use Rattle.job_store.specs.declared.label.Label.{Label}
use Rattle.job_store.specs.declared.shelves.Shelves.{Shelves}
use Rattle.job_store.specs.States.{is_ready, is_delayed, is_buried, is_reserved, is_held, is_scheduled, holder_of}
use Rattle.job_store.specs.LookUps.{pri_of_job, due_of_job, rank_of_job}
use Rattle.job_store.specs.ShelfStates.{ShelfState, IsFound}
use Rattle.job_store.specs.Racks.{shelf_at}
use Rattle.bean_words.specs.Names.{name_cmp}
use Rattle.job_store.specs.Shelves.{BelongsAt, shelf, places, AreAhead, AreInReach, HasPut, HasTaken, HasGoneBack, HasCome}

pub put-twice : {s t u : Shelves} {e : ℕ × Job} → HasPut s t e → HasPut t u e → HasPut s u e
put-twice {s} {t} {u} {e} one two = record {
  keeps = λ l p i. two.keeps l p (one.keeps l p i);
  only = λ l p i. elim (two.only l p i) as (λ v. In p (places s l) ⊎ BelongsAt l p e) [ inl old ↦ one.only l p old | inr b ↦ inr b ];
  ahead = λ l p h. two.ahead l p (one.ahead l p h);
  lists = two.lists ∙ one.lists;
}

pub taken-twice : {s t u : Shelves} {jobs : List (ℕ × Job)} → HasTaken s t jobs → HasTaken t u jobs → HasTaken s u jobs
taken-twice one two = record {
  keeps = λ l p e i b j. two.keeps l p e i b (one.keeps l p e i b j);
  only = λ l p i. one.only l p (two.only l p i);
  ahead = λ l p h. two.ahead l p (one.ahead l p h);
  lists = two.lists ∙ one.lists;
}

pub back-twice : {s t u : Shelves} → HasGoneBack s t → HasGoneBack t u → HasGoneBack s u
back-twice one two = record {
  places = λ l. two.places l ∙ one.places l;
  ahead = λ l p h. two.ahead l p (one.ahead l p h);
  lists = two.lists ∙ one.lists;
}

pub ahead-taken : {s t : Shelves} {jobs : List (ℕ × Job)} → HasTaken s t jobs → AreAhead s jobs → AreAhead t jobs
ahead-taken taken ahead e i l p b = taken.ahead l p (ahead e i l p b)

pub reach-taken : {s t : Shelves} {jobs : List (ℕ × Job)} → HasTaken s t jobs → AreInReach s jobs → AreInReach t jobs
reach-taken taken reach = record {
  rising = reach.rising;
  ahead = ahead-taken taken reach.ahead;
}

its-tube : (b : Bool) (tube of : List ℕ) → (b && bytes_eq tube of) ≡ true → tube ≡ of
its-tube b tube of t = (bytes_eq-Decides tube of).0 (and_parts b (bytes_eq tube of) t).1

its-holder : (x : ℕ) (state : State) → is_held x state ≡ true → x ≡ holder_of state
its-holder x State.Ready t = cc
its-holder x (State.Delayed due) t = cc
its-holder x (State.Reserved y due) t = eqb-true x y t
its-holder x (State.Buried rank) t = cc

pub found-put : (s t : Shelves) (e : ℕ × Job) → HasPut s t e → (l : Label) (p : ℕ × ℕ) → IsFound (shelf s l) p → IsFound (shelf t l) p
found-put s t e put l p f = (put.keeps l p f.0, put.ahead l p f.1)

pub come-found : (s : Shelves) (e : ℕ × Job) → ((l : Label) (p : ℕ × ℕ) → BelongsAt l p e → IsFound (shelf s l) p) → HasCome s e
come-found s e found = record {
  placed = λ l p b. (found l p b).0;
  ahead = λ l p b. (found l p b).1;
}

-- what holds of the place of a job on each of its shelves, and stays so, holds of all
pub everywhere : (Q : ShelfState → ℕ × ℕ → Type 0) (a b c d e f : Shelves) (id : ℕ) (job : Job) (holder : ℕ)
    → holder ≡ holder_of job.state
    → ((p : ℕ × ℕ) → ((is_ready job.state && bytes_eq job.tube job.tube) ≡ true) × (p ≡ (pri_of_job job, id))
    → Q (shelf_at name_cmp a.ready.shelves job.tube) p)
    → ((p : ℕ × ℕ) → ((is_delayed job.state && bytes_eq job.tube job.tube) ≡ true) × (p ≡ (due_of_job job, id))
    → Q (shelf_at name_cmp b.delayed.shelves job.tube) p)
    → ((p : ℕ × ℕ) → ((is_buried job.state && bytes_eq job.tube job.tube) ≡ true) × (p ≡ (rank_of_job job, id))
    → Q (shelf_at name_cmp c.buried.shelves job.tube) p)
    → ((p : ℕ × ℕ) → ((is_held holder job.state) ≡ true) × (p ≡ (due_of_job job, id))
    → Q (shelf_at nat_cmp d.held.shelves holder) p)
    → ((p : ℕ × ℕ) → ((is_scheduled job.state) ≡ true) × (p ≡ (due_of_job job, id)) → Q e.scheduled p)
    → ((p : ℕ × ℕ) → ((is_reserved job.state && bytes_eq job.tube job.tube) ≡ true) × (p ≡ (due_of_job job, id))
    → Q (shelf_at name_cmp f.reserved.shelves job.tube) p)
    → ((l : Label) (p : ℕ × ℕ) → Q (shelf a l) p → Q (shelf b l) p)
    → ((l : Label) (p : ℕ × ℕ) → Q (shelf b l) p → Q (shelf c l) p)
    → ((l : Label) (p : ℕ × ℕ) → Q (shelf c l) p → Q (shelf d l) p)
    → ((l : Label) (p : ℕ × ℕ) → Q (shelf d l) p → Q (shelf e l) p)
    → ((l : Label) (p : ℕ × ℕ) → Q (shelf e l) p → Q (shelf f l) p) → (l : Label) (p : ℕ × ℕ) → BelongsAt l p (id, job)
    → Q (shelf f l) p
everywhere Q a b c d e f id job holder known ready delayed buried held scheduled reserved ab bc cd de ef (Label.Ready t) p i =
    let same = its-tube (is_ready job.state) t.now job.tube i.0 in
    ef (Label.Ready t) p (de (Label.Ready t) p
    (cd (Label.Ready t) p (bc (Label.Ready t) p
    (ab (Label.Ready t) p (subst (λ k. Q (shelf_at name_cmp a.ready.shelves k) p) (sym same)
    (ready p (subst (λ k. (is_ready job.state && bytes_eq k job.tube) ≡ true) same i.0, i.1)))))))
everywhere Q a b c d e f id job holder known ready delayed buried held scheduled reserved ab bc cd de ef (Label.Delayed t) p i =
    let same = its-tube (is_delayed job.state) t.now job.tube i.0 in
    ef (Label.Delayed t) p (de (Label.Delayed t) p
    (cd (Label.Delayed t) p (bc (Label.Delayed t) p
    (subst (λ k. Q (shelf_at name_cmp b.delayed.shelves k) p) (sym same)
    (delayed p (subst (λ k. (is_delayed job.state && bytes_eq k job.tube) ≡ true) same i.0, i.1))))))
everywhere Q a b c d e f id job holder known ready delayed buried held scheduled reserved ab bc cd de ef (Label.Buried t) p i =
    let same = its-tube (is_buried job.state) t.now job.tube i.0 in
    ef (Label.Buried t) p (de (Label.Buried t) p
    (cd (Label.Buried t) p (subst (λ k. Q (shelf_at name_cmp c.buried.shelves k) p) (sym same)
    (buried p (subst (λ k. (is_buried job.state && bytes_eq k job.tube) ≡ true) same i.0, i.1)))))
everywhere Q a b c d e f id job holder known ready delayed buried held scheduled reserved ab bc cd de ef (Label.Held t) p i =
    let same = its-holder t job.state i.0 ∙ sym known in
    ef (Label.Held t) p (de (Label.Held t) p
    (subst (λ k. Q (shelf_at nat_cmp d.held.shelves k) p) (sym same)
    (held p (subst (λ k. (is_held k job.state) ≡ true) same i.0, i.1))))
everywhere Q a b c d e f id job holder known ready delayed buried held scheduled reserved ab bc cd de ef Label.Scheduled
    p i = ef Label.Scheduled p (scheduled p i)
everywhere Q a b c d e f id job holder known ready delayed buried held scheduled reserved ab bc cd de ef (Label.Reserved t) p i =
    let same = its-tube (is_reserved job.state) t.now job.tube i.0 in
    subst (λ k. Q (shelf_at name_cmp f.reserved.shelves k) p) (sym same)
    (reserved p (subst (λ k. (is_reserved job.state && bytes_eq k job.tube) ≡ true) same i.0, i.1))

pub gone-everywhere : (a b c d e f : Shelves) (jobs : List (ℕ × Job)) (id : ℕ) (job : Job) (holder : ℕ)
    → holder ≡ holder_of job.state
    → ((p : ℕ × ℕ) → In p (shelf_at name_cmp a.ready.shelves job.tube).places
    → ((is_ready job.state && bytes_eq job.tube job.tube) ≡ true) × (p ≡ (pri_of_job job, id)) → (x : ℕ × Job)
    × (((is_ready x.1.state && bytes_eq job.tube x.1.tube) ≡ true) × (p ≡ (pri_of_job x.1, x.0))) × In x jobs)
    → ((p : ℕ × ℕ) → In p (shelf_at name_cmp b.delayed.shelves job.tube).places
    → ((is_delayed job.state && bytes_eq job.tube job.tube) ≡ true) × (p ≡ (due_of_job job, id)) → (x : ℕ × Job)
    × (((is_delayed x.1.state && bytes_eq job.tube x.1.tube) ≡ true) × (p ≡ (due_of_job x.1, x.0))) × In x jobs)
    → ((p : ℕ × ℕ) → In p (shelf_at name_cmp c.buried.shelves job.tube).places
    → ((is_buried job.state && bytes_eq job.tube job.tube) ≡ true) × (p ≡ (rank_of_job job, id)) → (x : ℕ × Job)
    × (((is_buried x.1.state && bytes_eq job.tube x.1.tube) ≡ true) × (p ≡ (rank_of_job x.1, x.0))) × In x jobs)
    → ((p : ℕ × ℕ) → In p (shelf_at nat_cmp d.held.shelves holder).places → ((is_held holder job.state) ≡ true)
    × (p ≡ (due_of_job job, id)) → (x : ℕ × Job) × (((is_held holder x.1.state) ≡ true) × (p ≡ (due_of_job x.1, x.0)))
    × In x jobs) → ((p : ℕ × ℕ) → In p e.scheduled.places → ((is_scheduled job.state) ≡ true)
    × (p ≡ (due_of_job job, id)) → (x : ℕ × Job) × (((is_scheduled x.1.state) ≡ true) × (p ≡ (due_of_job x.1, x.0)))
    × In x jobs) → ((p : ℕ × ℕ) → In p (shelf_at name_cmp f.reserved.shelves job.tube).places
    → ((is_reserved job.state && bytes_eq job.tube job.tube) ≡ true) × (p ≡ (due_of_job job, id)) → (x : ℕ × Job)
    × (((is_reserved x.1.state && bytes_eq job.tube x.1.tube) ≡ true) × (p ≡ (due_of_job x.1, x.0))) × In x jobs)
    → HasTaken a b jobs → HasTaken b c jobs → HasTaken c d jobs → HasTaken d e jobs → HasTaken e f jobs
    → (l : Label) (p : ℕ × ℕ) → In p (places f l) → BelongsAt l p (id, job) → (x : ℕ × Job) × BelongsAt l p x
    × In x jobs
gone-everywhere a b c d e f jobs id job holder known ready delayed buried held scheduled reserved ab bc cd de ef (Label.Ready t) p i h =
    let same = its-tube (is_ready job.state) t.now job.tube h.0 in
    let w = ready p (subst (λ k. In p (shelf_at name_cmp a.ready.shelves k).places) same
    (ab.only (Label.Ready t) p (bc.only (Label.Ready t) p
    (cd.only (Label.Ready t) p (de.only (Label.Ready t) p (ef.only (Label.Ready t) p i))))))
    (subst (λ k. (is_ready job.state && bytes_eq k job.tube) ≡ true) same h.0, h.1) in
    (w.0, (subst (λ k. (is_ready w.0.1.state && bytes_eq k w.0.1.tube) ≡ true) (sym same) w.1.0, w.1.1), w.2)
gone-everywhere a b c d e f jobs id job holder known ready delayed buried held scheduled reserved ab bc cd de ef (Label.Delayed t) p i h =
    let same = its-tube (is_delayed job.state) t.now job.tube h.0 in
    let w = delayed p (subst (λ k. In p (shelf_at name_cmp b.delayed.shelves k).places) same
    (bc.only (Label.Delayed t) p (cd.only (Label.Delayed t) p
    (de.only (Label.Delayed t) p (ef.only (Label.Delayed t) p i)))))
    (subst (λ k. (is_delayed job.state && bytes_eq k job.tube) ≡ true) same h.0, h.1) in
    (w.0, (subst (λ k. (is_delayed w.0.1.state && bytes_eq k w.0.1.tube) ≡ true) (sym same) w.1.0, w.1.1), w.2)
gone-everywhere a b c d e f jobs id job holder known ready delayed buried held scheduled reserved ab bc cd de ef (Label.Buried t) p i h =
    let same = its-tube (is_buried job.state) t.now job.tube h.0 in
    let w = buried p (subst (λ k. In p (shelf_at name_cmp c.buried.shelves k).places) same
    (cd.only (Label.Buried t) p (de.only (Label.Buried t) p (ef.only (Label.Buried t) p i))))
    (subst (λ k. (is_buried job.state && bytes_eq k job.tube) ≡ true) same h.0, h.1) in
    (w.0, (subst (λ k. (is_buried w.0.1.state && bytes_eq k w.0.1.tube) ≡ true) (sym same) w.1.0, w.1.1), w.2)
gone-everywhere a b c d e f jobs id job holder known ready delayed buried held scheduled reserved ab bc cd de ef (Label.Held t) p i h =
    let same = its-holder t job.state h.0 ∙ sym known in
    let w = held p (subst (λ k. In p (shelf_at nat_cmp d.held.shelves k).places) same
    (de.only (Label.Held t) p (ef.only (Label.Held t) p i)))
    (subst (λ k. (is_held k job.state) ≡ true) same h.0, h.1) in
    (w.0, (subst (λ k. (is_held k w.0.1.state) ≡ true) (sym same) w.1.0, w.1.1), w.2)
gone-everywhere a b c d e f jobs id job holder known ready delayed buried held scheduled reserved ab bc cd de ef
    Label.Scheduled p i h = scheduled p (ef.only Label.Scheduled p i) h
gone-everywhere a b c d e f jobs id job holder known ready delayed buried held scheduled reserved ab bc cd de ef (Label.Reserved t) p i h =
    let same = its-tube (is_reserved job.state) t.now job.tube h.0 in
    let w = reserved p (subst (λ k. In p (shelf_at name_cmp f.reserved.shelves k).places) same i)
    (subst (λ k. (is_reserved job.state && bytes_eq k job.tube) ≡ true) same h.0, h.1) in
    (w.0, (subst (λ k. (is_reserved w.0.1.state && bytes_eq k w.0.1.tube) ≡ true) (sym same) w.1.0, w.1.1), w.2)
