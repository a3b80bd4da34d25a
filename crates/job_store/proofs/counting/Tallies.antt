-- Tallies of jobs, one after the other.
use Rattle.std.proofs.Common.{◌≡◌, ℕ, ◌+◌, ◌<◌, ◌≤◌, ◌^◌, Bool, true, false, ◌&&◌, cond, List, [], ◌∷◌, length, arith, refl, sym, ap, subst, ◌∙◌, nat_lt}
use Rattle.std.proofs.Math.Bool.{and-true}
use Rattle.std.proofs.lemmas.List.Elements.{filter_agree}
use Rattle.std.proofs.lemmas.List.Sums.{length-filter, count_by-le-length}
use Rattle.std.specs.List.{filter}
use Rattle.job_store.specs.declared.count.Count.{Count}
use Rattle.job_store.specs.declared.job.Job.{Job}
use Rattle.job_store.specs.declared.tally.Tally.{Tally}
use Rattle.job_store.specs.LookUps.{pri_of_job, due_of_job, rank_of_job}
use Rattle.job_store.specs.States.{is_ready, is_delayed, is_buried, is_reserved}
use Rattle.job_store.specs.Tallies.{is_urgent, how_many, tally_of, tally_all, together, HasRoom}
use Rattle.job_store.proofs.counting.Counted.{IsCountOf}

module _ (one test : ℕ × Job → Bool) where
  many-more : (e : ℕ × Job) (es : List (ℕ × Job)) → test e ≡ true
      → how_many one test (e ∷ es) ≡ how_many one (λ e. true) (e ∷ []) + how_many one test es
  many-more e es t =
      ap (λ b. length (cond (one e && b) (e ∷ filter (λ e. one e && test e) es) (filter (λ e. one e && test e) es))) t ∙
      elim (one e) as (λ b. length (cond (b && true) (e ∷ filter (λ e. one e && test e) es) (filter (λ e. one e && test e) es))
      ≡ length (cond (b && true) (e ∷ []) []) + how_many one test es) [ true ↦ omega arith | false ↦ omega arith ]

  many-le : (es : List (ℕ × Job)) → how_many one test es ≤ length es
  many-le es = omega (arith, length-filter (λ e. one e && test e) es, count_by-le-length (λ e. one e && test e) es)

same-tally : (a b : Tally) → a.urgent ≡ b.urgent → a.ready ≡ b.ready → a.reserved ≡ b.reserved → a.delayed ≡ b.delayed
    → a.buried ≡ b.buried → a ≡ b
same-tally a b urgent ready reserved delayed buried =
    λ i. record { urgent = urgent i; ready = ready i; reserved = reserved i; delayed = delayed i; buried = buried i }

-- the tally so far, and that of the rest, are that of all
pub record IsTallied (test : ℕ × Job → Bool) (tally : Tally) (rest all : List (ℕ × Job)) : Type 0 where
  pub whole : together tally (tally_of test rest) ≡ tally_of test all

module _ (test : ℕ × Job → Bool) (all : List (ℕ × Job)) where
  pub tallied-more : (tally more : Tally) (e : ℕ × Job) (old rest : List (ℕ × Job)) → old ≡ e ∷ rest → test e ≡ true
      → more ≡ together tally (tally_all (e ∷ [])) → IsTallied test tally old all → IsTallied test more rest all
  tallied-more tally more e old rest is t m so-far = record {
    whole = ap (λ x. together x (tally_of test rest)) m ∙
        same-tally (together (together tally (tally_all (e ∷ []))) (tally_of test rest)) (together tally (tally_of test (e ∷ rest)))
        (omega (arith, many-more is_urgent test e rest t))
        (omega (arith, many-more (λ e. is_ready e.1.state) test e rest t))
        (omega (arith, many-more (λ e. is_reserved e.1.state) test e rest t))
        (omega (arith, many-more (λ e. is_delayed e.1.state) test e rest t))
        (omega (arith, many-more (λ e. is_buried e.1.state) test e rest t)) ∙
        ap (λ es. together tally (tally_of test es)) (sym is) ∙
        so-far.whole;
  }

  -- a number that is a part of how many there are
  room : (one : ℕ × Job → Bool) (part rest : ℕ) → part + rest ≡ how_many one test all → length all < 2 ^ 63 → part < 2 ^ 63
  room one part rest whole few = omega (arith, whole, many-le one test all, few)

  pub has-room : (tally : Tally) (rest : List (ℕ × Job)) → length all < 2 ^ 63 → IsTallied test tally rest all → HasRoom tally
  has-room tally rest few so-far = record {
    urgent = room is_urgent tally.urgent (how_many is_urgent test rest) (ap (λ (t : Tally). t.urgent) so-far.whole) few;
    ready = room (λ e. is_ready e.1.state) tally.ready (how_many (λ e. is_ready e.1.state) test rest)
        (ap (λ (t : Tally). t.ready) so-far.whole) few;
    reserved = room (λ e. is_reserved e.1.state) tally.reserved (how_many (λ e. is_reserved e.1.state) test rest)
        (ap (λ (t : Tally). t.reserved) so-far.whole) few;
    delayed = room (λ e. is_delayed e.1.state) tally.delayed (how_many (λ e. is_delayed e.1.state) test rest)
        (ap (λ (t : Tally). t.delayed) so-far.whole) few;
    buried = room (λ e. is_buried e.1.state) tally.buried (how_many (λ e. is_buried e.1.state) test rest)
        (ap (λ (t : Tally). t.buried) so-far.whole) few;
  }

-- What counts of shelves tell

swapped : (a b c : Bool) → ((a && b) && c) ≡ ((a && c) && b)
swapped true true c = sym (and-true c)
swapped true false true = refl
swapped true false false = refl
swapped false b c = refl

-- a count of ready jobs by their priority tells how many are urgent
pub tally-by : (test : ℕ × Job → Bool) (jobs : List (ℕ × Job)) (ready reserved delayed buried : Count)
    → IsCountOf pri_of_job (λ e. is_ready e.1.state && test e) jobs ready
    → IsCountOf due_of_job (λ e. is_reserved e.1.state && test e) jobs reserved
    → IsCountOf due_of_job (λ e. is_delayed e.1.state && test e) jobs delayed
    → IsCountOf rank_of_job (λ e. is_buried e.1.state && test e) jobs buried
    → record { urgent = ready.low; ready = ready.all; reserved = reserved.all; delayed = delayed.all; buried = buried.all } ≡ tally_of test jobs
tally-by test jobs ready reserved delayed buried of-ready of-reserved of-delayed of-buried =
    same-tally _ (tally_of test jobs)
    (of-ready.low ∙ ap length (filter_agree (λ (e : ℕ × Job). (is_ready e.1.state && test e) && nat_lt e.1.pri 1024)
    (λ e. is_urgent e && test e) (λ e. swapped (is_ready e.1.state) (test e) (nat_lt e.1.pri 1024)) jobs))
    of-ready.all of-reserved.all of-delayed.all of-buried.all

-- a state alone, as of jobs in any tube
pub in-any : (by : Job → ℕ) (state : ℕ × Job → Bool) (jobs : List (ℕ × Job)) (count : Count) → IsCountOf by state jobs count
    → IsCountOf by (λ e. state e && true) jobs count
in-any by state jobs count is =
    let same : state ≡ (λ (e : ℕ × Job). state e && true) = λ i e. sym (and-true (state e)) i in
    subst (λ (test : ℕ × Job → Bool). IsCountOf by test jobs count) same is
