-- Places at which just the jobs stand that pass a test: there are as many as such jobs.
use Rattle.std.proofs.Common.{◌≡◌, ℕ, suc, Bool, true, ◌&&◌, nat_lt, inl, inr, List, [], ◌∷◌, length, map, arith, refl, sym, ap, subst, ◌∙◌, cond, false}
use Rattle.std.proofs.lemmas.Bool.{and_parts, and_from}
use Rattle.std.proofs.lemmas.List.{length-map}
use Rattle.std.specs.List.{filter}
use Rattle.object.specs.Lists.{In}
use Rattle.job_store.specs.declared.count.Count.{Count}
use Rattle.job_store.specs.declared.job.Job.{Job}
use Rattle.job_store.specs.declared.label.Label.{Label}
use Rattle.job_store.specs.declared.shelves.Shelves.{Shelves}
use Rattle.job_store.specs.declared.spot.Spot.{Spot}
use Rattle.job_store.specs.Counts.{is_low, count_of, AreApart}
use Rattle.job_store.specs.Entries.{Rising}
use Rattle.job_store.specs.EntryLaws.{key_from}
use Rattle.job_store.specs.Shelves.{belongs, number, places, HoldJobs, IsListed}
use Rattle.job_store.proofs.counting.Apart.{in-filter, from-filter, apart-filter, as-long}

-- the jobs that pass the test stand at the places, and no others do
pub record AreOn (by : Job → ℕ) (test : ℕ × Job → Bool) (jobs : List (ℕ × Job)) (ps : List (ℕ × ℕ)) : Type 0 where
  pub known : (p : ℕ × ℕ) → In p ps → (e : ℕ × Job) × In e jobs × (test e ≡ true) × (p ≡ (by e.1, e.0))
  pub placed : (e : ℕ × Job) → In e jobs → test e ≡ true → In (by e.1, e.0) ps

module _ (by : Job → ℕ) where
  abbrev place : ℕ × Job → ℕ × ℕ
  place e = (by e.1, e.0)

  module _ (test : ℕ × Job → Bool) where
    of-places : (p : ℕ × ℕ) (es : List (ℕ × Job)) → In p (map place es) → (e : ℕ × Job) × In e es × (p ≡ (by e.1, e.0))
    of-places p [] i = absurd i
    of-places p (e ∷ es) (inl here) = (e, inl refl, here)
    of-places p (e ∷ es) (inr later) = let w = of-places p es later in (w.0, inr w.1, w.2)

    to-places : (e : ℕ × Job) (es : List (ℕ × Job)) → In e es → In (by e.1, e.0) (map place es)
    to-places e [] i = absurd i
    to-places e (d ∷ ds) (inl here) = inl (ap place here)
    to-places e (d ∷ ds) (inr later) = inr (to-places e ds later)

    places-apart : (lo hi : ℕ) (es : List (ℕ × Job)) → Rising lo hi es → AreApart (map place (filter test es))
    places-apart lo hi [] r = tt
    places-apart lo hi (e ∷ es) r =
        elim (test e) as (λ b. AreApart (map place (cond b (e ∷ filter test es) (filter test es)))) [
          | true ↦ (
            λ i.
                let w = of-places (by e.1, e.0) (filter test es) i in
                let above = key_from (suc e.0) hi es w.0 r.1 (from-filter test w.0 es w.1).0 in
                let same : e.0 ≡ w.0.0 = ap (λ (p : ℕ × ℕ). p.1) w.2 in
                omega (arith, above, same),
            places-apart (suc e.0) hi es r.1,
          )
          | false ↦ places-apart (suc e.0) hi es r.1
        ]

    -- as many places as jobs
    pub how-many : (lo hi : ℕ) (jobs : List (ℕ × Job)) (ps : List (ℕ × ℕ)) → Rising lo hi jobs → AreApart ps
        → AreOn by test jobs ps → length ps ≡ length (filter test jobs)
    how-many lo hi jobs ps r apart on =
        as-long ps (map place (filter test jobs)) apart (places-apart lo hi jobs r)
        (λ p i.
        let w = on.known p i in
        subst (λ q. In q (map place (filter test jobs))) (sym w.3)
        (to-places w.0 (filter test jobs) (in-filter test w.0 jobs w.1 w.2)))
        (λ p i.
        let w = of-places p (filter test jobs) i in
        let f = from-filter test w.0 jobs w.1 in
        subst (λ q. In q ps) (sym w.2) (on.placed w.0 f.0 f.1))
        ∙ length-map (filter test jobs) place

    -- and those at a low number
    pub low-on : (jobs : List (ℕ × Job)) (ps : List (ℕ × ℕ)) → AreOn by test jobs ps
        → AreOn by (λ e. test e && nat_lt (by e.1) 1024) jobs (filter is_low ps)
    low-on jobs ps on = record {
      known = λ p i.
          let f = from-filter is_low p ps i in
          let w = on.known p f.0 in (
            w.0,
            w.1,
            and_from (test w.0) (nat_lt (by w.0.1) 1024) w.2
                (subst (λ q. is_low q ≡ true) w.3 f.1),
            w.3,
          );
      placed = λ e i t.
          let a = and_parts (test e) (nat_lt (by e.1) 1024) t in
          in-filter is_low (by e.1, e.0) ps (on.placed e i a.0) a.1;
    }

pub same-count : (a b : Count) → a.all ≡ b.all → a.low ≡ b.low → a ≡ b
same-count a b all low = λ i. record { all = all i; low = low i }

-- a count of places tells how many jobs stand there, and how many of them at a low number
pub record IsCountOf (by : Job → ℕ) (test : ℕ × Job → Bool) (jobs : List (ℕ × Job)) (count : Count) : Type 0 where
  pub all : count.all ≡ length (filter test jobs)
  pub low : count.low ≡ length (filter (λ e. test e && nat_lt (by e.1) 1024) jobs)

pub counted : (by : Job → ℕ) (test : ℕ × Job → Bool) (lo hi : ℕ) (jobs : List (ℕ × Job)) (ps : List (ℕ × ℕ))
    (count : Count) → Rising lo hi jobs → AreApart ps → AreOn by test jobs ps → count ≡ count_of ps → IsCountOf by test jobs count
counted by test lo hi jobs ps count r apart on is = record {
  all = ap (λ (c : Count). c.all) is ∙ how-many by test lo hi jobs ps r apart on;
  low = ap (λ (c : Count). c.low) is ∙ how-many by (λ e. test e && nat_lt (by e.1) 1024) lo hi jobs (filter is_low ps) r
      (apart-filter is_low ps apart) (low-on by test jobs ps on);
}

-- where no job is listed, just those that belong there stand on a shelf
pub on-shelf : (s : Shelves) (jobs : List (ℕ × Job)) (listed : List (ℕ × Spot)) (label : Label) → HoldJobs s jobs listed → listed ≡ []
    → AreOn (number label) (belongs label) jobs (places s label)
on-shelf s jobs listed label held none = record {
  known = λ p i.
      let w = held.known label p i in
      (w.0, elim w.2 as (λ v. In w.0 jobs) [ inl there ↦ there | inr l ↦ absurd (subst (λ xs. IsListed xs w.0) none l) ], w.1.0, w.1.1);
  placed = λ e i t. held.placed e i label (number label e.1, e.0) (t, refl);
}
