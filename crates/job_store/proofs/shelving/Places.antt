-- What stands on a shelf, in its order, and after a place is put or taken out.
use Rattle.std.proofs.Common.{◌≡◌, ℕ, ◌<◌, Bool, true, false, cond, ◌⊎◌, inl, inr, List, [], ◌∷◌, Some, None, refl, sym, ap}
use Rattle.std.proofs.Common.{ap₂, subst, eq-eqb, eqb-true, ◌&&◌, ◌==◌, ◌∙◌, arith, Less, Equal, Greater, nat_cmp}
use Rattle.std.proofs.Common.{nat_lt, ◌||◌, Ordering, Bor}
use Rattle.std.proofs.lemmas.Bool.{cases_order, both_ways, and_parts, and_from, or_left, or_right}
use Rattle.std.proofs.Math.Bool.{and-true}
use Rattle.std.specs.Ordering.{ordering_then, match_ordering, is_le, is_lt}
use Rattle.std.specs.List.Sorted.{IsStrictlySortedBy}
use Rattle.std.specs.List.{AllByRecursion, list_any, slice_get}
use Rattle.std.specs.BTreeMap.{is_at}
use Rattle.std.specs.BTreeSet.{insert_key}
use Rattle.std.specs.Set.{remove_key}
use Rattle.object.specs.Lists.{In}
use Rattle.job_store.specs.declared.job.Job.{Job}
use Rattle.job_store.specs.declared.label.Label.{Label}
use Rattle.job_store.specs.Entries.{Rising, value_at}
use Rattle.job_store.specs.Least.{ComesBefore, IsLeast, NonePasses}
use Rattle.job_store.specs.LookUps.{is_after}
use Rattle.job_store.specs.ShelfStates.{ShelfState, IsFrom, bare, HasLost, HasReached, HasGained, IsFound}
use Rattle.job_store.specs.Shelves.{belongs, belongs_after, number, belongs_at, BelongsAt, AreAllFound, FindsFirst, IsPassed}
use Rattle.job_store.proofs.least.Least.{least-only, least-nothing}
use Rattle.job_store.proofs.maps.Members.{value-in}
use Rattle.job_store.specs.EntryLaws.{cmp_less, cmp_equal, cmp_greater, value_at-In}
use Rattle.job_store.proofs.maps.Entries.{same_number}

-- The order of places

abbrev pub shelf_cmp : ℕ × ℕ → ℕ × ℕ → Ordering
shelf_cmp p q = ordering_then (nat_cmp p.0 q.0) (nat_cmp p.1 q.1)

below_number : (a b : ℕ) → nat_cmp a b ≡ Less → a < b
below_number a b h =
    elim (cases_order a b) [
      | inl same ↦ let e : Equal ≡ Less = sym (cmp_equal a b same) ∙ h in cc
      | inr (inl below) ↦ below
      | inr (inr above) ↦ let e : Greater ≡ Less = sym (cmp_greater a b above) ∙ h in cc
    ]

same_place : (p q : ℕ × ℕ) → shelf_cmp p q ≡ Equal → p ≡ q
same_place p q h =
    elim (nat_cmp p.0 q.0) as (λ o. nat_cmp p.0 q.0 ≡ o → ordering_then o (nat_cmp p.1 q.1) ≡ Equal → p ≡ q) [
      | Less ↦ λ o e. cc
      | Equal ↦ λ o e. ap₂ (λ a b. (a, b)) (same_number p.0 q.0 o) (same_number p.1 q.1 e)
      | Greater ↦ λ o e. cc
    ] refl h

pub before_place : (p q : ℕ × ℕ) → shelf_cmp p q ≡ Less → (p.0 < q.0) ⊎ ((p.0 ≡ q.0) × (p.1 < q.1))
before_place p q h =
    elim (nat_cmp p.0 q.0) as (λ o. nat_cmp p.0 q.0 ≡ o → ordering_then o (nat_cmp p.1 q.1) ≡ Less → (p.0 < q.0) ⊎ ((p.0 ≡ q.0) × (p.1 < q.1))) [
      | Less ↦ λ o e. inl (below_number p.0 q.0 o)
      | Equal ↦ λ o e. inr (same_number p.0 q.0 o, below_number p.1 q.1 e)
      | Greater ↦ λ o e. cc
    ] refl h

-- From which place on

from-zero : (p : ℕ × ℕ) → IsFrom (0, 0) p
from-zero p =
    elim (cases_order 0 p.0) as (λ v. IsFrom (0, 0) p) [
      | inl same ↦ inr (same, omega arith)
      | inr (inl below) ↦ inl below
      | inr (inr above) ↦ absurd (omega (arith, above))
    ]

from-itself : (p : ℕ × ℕ) → IsFrom p p
from-itself p = inr (refl, omega arith)

from-less : (p q : ℕ × ℕ) → shelf_cmp p q ≡ Less → IsFrom p q
from-less p q h =
    elim (before_place p q h) as (λ v. IsFrom p q) [ inl below ↦ inl below | inr w ↦ inr (w.0, omega (arith, w.1)) ]

pub from-le : (p q : ℕ × ℕ) → IsFrom p q → is_le (shelf_cmp p q) ≡ true
from-le p q (inl below) = rw (cmp_less p.0 q.0 below) refl
from-le p q (inr w) =
    rw (cmp_equal p.0 q.0 w.0)
    (elim (cases_order p.1 q.1) as (λ v. is_le (nat_cmp p.1 q.1) ≡ true) [
      | inl same ↦ rw (cmp_equal p.1 q.1 same) refl
      | inr (inl below) ↦ rw (cmp_less p.1 q.1 below) refl
      | inr (inr above) ↦ absurd (omega (arith, w.1, above))
    ])

-- After which place

pub lt-after : (p q : ℕ × ℕ) → is_lt (shelf_cmp p q) ≡ is_after p q
lt-after p q =
    elim (nat_lt p.0 q.0) as (λ b. is_lt
    (ordering_then (cond b Less (cond (p.0 == q.0) Equal Greater)) (nat_cmp p.1 q.1))
    ≡ (b || (p.0 == q.0 && nat_lt p.1 q.1))) [
      | true ↦ refl
      | false ↦
          elim (p.0 == q.0) as (λ b. is_lt (ordering_then (cond b Equal Greater) (nat_cmp p.1 q.1)) ≡ (b && nat_lt p.1 q.1)) [
            | true ↦
                elim (nat_lt p.1 q.1) as (λ b. is_lt (cond b Less (cond (p.1 == q.1) Equal Greater)) ≡ b) [
                  | true ↦ refl
                  | false ↦ elim (p.1 == q.1) as (λ b. is_lt (cond b Equal Greater) ≡ false) [ true ↦ refl | false ↦ refl ]
                ]
            | false ↦ refl
          ]
    ]

pub from-before : (from p q : ℕ × ℕ) → is_lt (shelf_cmp q p) ≡ false → IsFrom from p → IsFrom from q
from-before from p q late f =
    let not-after : is_after q p ≡ false = sym (lt-after q p) ∙ late in
    grind arith

-- At which place

pub at_place : (p q : ℕ × ℕ) → is_at (shelf_cmp p) q ≡ true → p ≡ q
at_place p q h =
    elim (shelf_cmp p q) as (λ o. shelf_cmp p q ≡ o → is_at (λ (r : ℕ × ℕ). o) q ≡ true → p ≡ q) [
      | Less ↦ λ o e. cc
      | Equal ↦ λ o e. same_place p q o
      | Greater ↦ λ o e. cc
    ] refl h

at_itself : (p : ℕ × ℕ) → is_at (shelf_cmp p) p ≡ true
at_itself p = rw (cmp_equal p.0 p.0 refl) (rw (cmp_equal p.1 p.1 refl) refl)

-- A place that is put

put-keeps : (k p : ℕ × ℕ) (ps : List (ℕ × ℕ)) → In p ps → In p (insert_key shelf_cmp ps k)
put-keeps k p [] i = absurd i
put-keeps k p (x ∷ xs) i =
    elim (shelf_cmp k x) as (λ o. In p (match_ordering o (k ∷ x ∷ xs) (x ∷ xs) (x ∷ insert_key shelf_cmp xs k))) [
      | Less ↦ inr i
      | Equal ↦ i
      | Greater ↦ elim i as (λ i. In p (x ∷ insert_key shelf_cmp xs k)) [ inl here ↦ inl here | inr later ↦ inr (put-keeps k p xs later) ]
    ]

put-only : (k p : ℕ × ℕ) (ps : List (ℕ × ℕ)) → In p (insert_key shelf_cmp ps k) → (p ≡ k) ⊎ In p ps
put-only k p [] i = i
put-only k p (x ∷ xs) i =
    elim (shelf_cmp k x) as (λ o. In p (match_ordering o (k ∷ x ∷ xs) (x ∷ xs) (x ∷ insert_key shelf_cmp xs k)) → (p ≡ k) ⊎ In p (x ∷ xs)) [
      | Less ↦ λ i. i
      | Equal ↦ λ i. inr i
      | Greater ↦ λ i. elim i as (λ i. (p ≡ k) ⊎ In p (x ∷ xs)) [
        | inl here ↦ inr (inl here)
        | inr later ↦ elim (put-only k p xs later) as (λ v. (p ≡ k) ⊎ In p (x ∷ xs)) [ inl it ↦ inl it | inr old ↦ inr (inr old) ]
      ]
    ] i

put-there : (k : ℕ × ℕ) (ps : List (ℕ × ℕ)) → In k (insert_key shelf_cmp ps k)
put-there k [] = inl refl
put-there k (x ∷ xs) =
    elim (shelf_cmp k x) as (λ o. shelf_cmp k x ≡ o → In k (match_ordering o (k ∷ x ∷ xs) (x ∷ xs) (x ∷ insert_key shelf_cmp xs k))) [
      | Less ↦ λ o. inl refl
      | Equal ↦ λ o. inl (same_place k x o)
      | Greater ↦ λ o. inr (put-there k xs)
    ] refl

-- A place that is taken out

take-was : (test : ℕ × ℕ → Bool) (p : ℕ × ℕ) (ps : List (ℕ × ℕ)) → In p (remove_key test ps) → In p ps
take-was test p [] i = i
take-was test p (x ∷ xs) i =
    elim (test x) as (λ b. In p (cond b xs (x ∷ remove_key test xs)) → In p (x ∷ xs)) [
      | true ↦ λ i. inr i
      | false ↦ λ i. elim i as (λ i. In p (x ∷ xs)) [ inl here ↦ inl here | inr later ↦ inr (take-was test p xs later) ]
    ] i

take-others : (test : ℕ × ℕ → Bool) (p : ℕ × ℕ) (ps : List (ℕ × ℕ)) → In p ps → test p ≡ false → In p (remove_key test ps)
take-others test p [] i t = i
take-others test p (x ∷ xs) i t =
    elim (test x) as (λ b. test x ≡ b → In p (cond b xs (x ∷ remove_key test xs))) [
      | true ↦ λ b. elim i as (λ i. In p xs) [ inl here ↦ absurd (both_ways (test p) t (ap test here ∙ b)) | inr later ↦ later ]
      | false ↦ λ b. elim i as (λ i. In p (x ∷ remove_key test xs)) [ inl here ↦ inl here | inr later ↦ inr (take-others test p xs later t) ]
    ] refl

take-keeps : (k p : ℕ × ℕ) (ps : List (ℕ × ℕ)) → In p ps → (p ≡ k → ⊥) → In p (remove_key (is_at (shelf_cmp k)) ps)
take-keeps k p ps i apart =
    elim (is_at (shelf_cmp k) p) as (λ b. is_at (shelf_cmp k) p ≡ b → In p (remove_key (is_at (shelf_cmp k)) ps)) [
      | true ↦ λ b. absurd (apart (sym (at_place k p b)))
      | false ↦ λ b. take-others (is_at (shelf_cmp k)) p ps i b
    ] refl

list_any-in : (test : ℕ × ℕ → Bool) (p : ℕ × ℕ) (ps : List (ℕ × ℕ)) → In p ps → test p ≡ true → list_any test ps ≡ true
list_any-in test p [] i t = absurd i
list_any-in test p (x ∷ xs) (inl here) t = or_left (test x) (list_any test xs) (ap test (sym here) ∙ t)
list_any-in test p (x ∷ xs) (inr later) t = or_right (test x) (list_any test xs) (list_any-in test p xs later t)

take-gone : (k p : ℕ × ℕ) (ps : List (ℕ × ℕ)) → list_any (is_at (shelf_cmp k)) ps ≡ false → In p ps → p ≡ k → ⊥
take-gone k p ps none i same =
    both_ways (list_any (is_at (shelf_cmp k)) ps) none (list_any-in (is_at (shelf_cmp k)) p ps i (ap (is_at (shelf_cmp k)) same ∙ at_itself k))

-- The test for a place

passes-belongs : (label : Label) (p : ℕ × ℕ) (e : ℕ × Job) → belongs_at label p e ≡ true → BelongsAt label p e
passes-belongs label p e t =
    let a = and_parts (belongs label e && number label e.1 == p.0) (e.0 == p.1) t in
    let b = and_parts (belongs label e) (number label e.1 == p.0) a.0 in
    (b.0, ap₂ (λ x y. (x, y)) (sym (eqb-true (number label e.1) p.0 b.1)) (sym (eqb-true e.0 p.1 a.1)))

belongs-passes : (label : Label) (p : ℕ × ℕ) (e : ℕ × Job) → BelongsAt label p e → belongs_at label p e ≡ true
belongs-passes label p e b =
    and_from (belongs label e && number label e.1 == p.0) (e.0 == p.1)
    (and_from (belongs label e) (number label e.1 == p.0) b.0
    (eq-eqb (number label e.1) p.0 (sym (ap (λ (q : ℕ × ℕ). q.0) b.1))))
    (eq-eqb e.0 p.1 (sym (ap (λ (q : ℕ × ℕ). q.1) b.1)))

-- The job that a map has at an id, where it belongs at the place and where not

pub at-id : (label : Label) (number id : ℕ) (job : Job) (jobs : List (ℕ × Job)) → Some job ≡ value_at id jobs
    → belongs_at label (number, id) (id, job) ≡ true → In (id, job) jobs × BelongsAt label (number, id) (id, job)
at-id label number id job jobs e t = (value-in id job jobs (sym e), passes-belongs label (number, id) (id, job) t)

pub none-at-id : (label : Label) (number id : ℕ) (lo hi : ℕ) (jobs : List (ℕ × Job)) → Rising lo hi jobs
    → ((job : Job) → value_at id jobs ≡ Some job → belongs_at label (number, id) (id, job) ≡ false) → (e : ℕ × Job)
    → In e jobs → BelongsAt label (number, id) e → ⊥
none-at-id label number id lo hi jobs r none e i b =
    let same : id ≡ e.0 = ap (λ (q : ℕ × ℕ). q.1) b.1 in
    let there : value_at id jobs ≡ Some e.1 = ap (λ k. value_at k jobs) same ∙ value_at-In lo hi jobs e r i in
    both_ways (belongs_at label (number, id) (id, e.1)) (none e.1 there)
    (belongs-passes label (number, id) (id, e.1) (subst (λ k. BelongsAt label (number, id) (k, e.1)) (sym same) b))

-- A shelf whose places have changed

pub gained-by : (old mid new : ShelfState) (k : ℕ × ℕ) → mid.places ≡ insert_key shelf_cmp old.places k
    → mid.from ≡ old.from → HasReached mid new k → HasGained old new k
gained-by old mid new k put same reached = record {
  keeps = λ p i. subst (In p) (sym (reached.places ∙ put)) (put-keeps k p old.places i);
  only = λ p i.
      elim (put-only k p old.places (subst (In p) (reached.places ∙ put) i)) as (λ v. In p old.places ⊎ (p ≡ k)) [ inl it ↦ inr it | inr before ↦ inl before ];
  ahead = λ p h. reached.ahead p (subst (λ from. IsFrom from p) (sym same) h);
}

pub gained-none : (old new : ShelfState) (k : ℕ × ℕ) → new.places ≡ old.places → new.from ≡ old.from → HasGained old new k
gained-none old new k places from = record {
  keeps = λ p i. subst (In p) (sym places) i;
  only = λ p i. inl (subst (In p) places i);
  ahead = λ p h. subst (λ from. IsFrom from p) (sym from) h;
}

pub found-by : (old mid new : ShelfState) (k : ℕ × ℕ) → mid.places ≡ insert_key shelf_cmp old.places k → HasReached mid new k → IsFound new k
found-by old mid new k put reached = (subst (In k) (sym (reached.places ∙ put)) (put-there k old.places), reached.reached)

pub lost-by : (old new : ShelfState) (k : ℕ × ℕ) → new.places ≡ remove_key (is_at (shelf_cmp k)) old.places
    → list_any (is_at (shelf_cmp k)) new.places ≡ false → new.from ≡ old.from → HasLost old new k
lost-by old new k taken gone same = record {
  keeps = λ p f apart. subst (In p) (sym taken) (take-keeps k p old.places f.0 apart);
  only = λ p i. (take-was (is_at (shelf_cmp k)) p old.places (subst (In p) taken i), take-gone k p new.places gone i);
  ahead = λ p h. subst (λ from. IsFrom from p) (sym same) h;
}

pub lost-all : (old new : ShelfState) (k : ℕ × ℕ) → HasLost old new k → ((p : ℕ × ℕ) → In p new.places → ⊥) → HasLost old bare k
lost-all old new k lost none = record {
  keeps = λ p f apart. none p (lost.keeps p f apart);
  only = λ p i. absurd i;
  ahead = λ p h. from-zero p;
}

-- What a look-up finds

pub finds-some : (test : ℕ × Job → Bool) (by : Job → ℕ) (jobs : List (ℕ × Job)) (lo hi : ℕ) (x : ℕ × Bor Job)
    → Rising lo hi jobs → IsLeast test by jobs (x.0, x.1.now) → FindsFirst test by jobs (Some x)
finds-some test by jobs lo hi x r best = record {
  job = sym (least-only test by jobs lo hi (x.0, x.1.now) r best);
  found = best;
  none = tt;
}

pub finds-none : (test : ℕ × Job → Bool) (by : Job → ℕ) (jobs : List (ℕ × Job)) → NonePasses test jobs → FindsFirst test by jobs None
finds-none test by jobs none = record { job = least-nothing test by jobs none; found = tt; none = none }

-- The first place where a job stands by the map

pub begins-with : {X : Type 0} (x : X) (xs : List X) → slice_get xs 0 ≡ Some x → (rest : List X) × (xs ≡ x ∷ rest)
begins-with x [] first = cc
begins-with x (y ∷ ys) first = let same : y ≡ x = cc in (ys, ap (λ z. z ∷ ys) same)

-- each of the jobs that a look-up of the shelf finds stands at one of these places
abbrev pub AreAllFrom : Label → ShelfState → List (ℕ × Job) → List (ℕ × ℕ) → Type 0
AreAllFrom label s jobs places = (p : ℕ × ℕ) (e : ℕ × Job) → In e jobs → BelongsAt label p e → IsFound s p → In p places

-- each of the jobs that belongs on the shelf stands at one of these places
abbrev pub AreAllOn : Label → List (ℕ × ℕ) → List (ℕ × Job) → Type 0
AreAllOn label places jobs = (p : ℕ × ℕ) (e : ℕ × Job) → In e jobs → BelongsAt label p e → In p places

pub sorted-rest : (k : ℕ × ℕ) (ps : List (ℕ × ℕ)) → IsStrictlySortedBy shelf_cmp (k ∷ ps) → IsStrictlySortedBy shelf_cmp ps
unfolding IsStrictlySortedBy
sorted-rest k ps s = s.1

all-in : (P : ℕ × ℕ → Type 0) (p : ℕ × ℕ) (ps : List (ℕ × ℕ)) → AllByRecursion P ps → In p ps → P p
all-in P p [] a i = absurd i
all-in P p (x ∷ xs) a (inl here) = subst P (sym here) a.0
all-in P p (x ∷ xs) a (inr later) = all-in P p xs a.1 later

pub sorted-first : (k p : ℕ × ℕ) (ps : List (ℕ × ℕ)) → IsStrictlySortedBy shelf_cmp (k ∷ ps) → In p ps → shelf_cmp k p ≡ Less
unfolding IsStrictlySortedBy
sorted-first k p ps s i = all-in (λ q. shelf_cmp k q ≡ Less) p ps s.0 i

pub first-from : (k p : ℕ × ℕ) (ps : List (ℕ × ℕ)) → IsStrictlySortedBy shelf_cmp (k ∷ ps) → In p (k ∷ ps) → IsFrom k p
first-from k p ps s (inl here) = subst (IsFrom k) (sym here) (from-itself k)
first-from k p ps s (inr later) = from-less k p (sorted-first k p ps s later)

pub passed-to : (label : Label) (s : ShelfState) (jobs : List (ℕ × Job)) (k : ℕ × ℕ) (ps : List (ℕ × ℕ))
    → AreAllFrom label s jobs (k ∷ ps) → IsStrictlySortedBy shelf_cmp (k ∷ ps) → IsPassed label jobs s k
passed-to label s jobs k ps all sorted p e i b f = first-from k p ps sorted (all p e i b f)

pub passed-here : (label : Label) (s : ShelfState) (jobs : List (ℕ × Job)) (k : ℕ × ℕ) (ps : List (ℕ × ℕ))
    → ((e : ℕ × Job) → In e jobs → BelongsAt label k e → ⊥) → AreAllFrom label s jobs (k ∷ ps)
    → AreAllFrom label s jobs ps
passed-here label s jobs k ps none all p e i b f =
    elim (all p e i b f) as (λ v. In p ps) [ inl here ↦ absurd (none e i (subst (λ q. BelongsAt label q e) here b)) | inr later ↦ later ]

pub none-here : (label : Label) (k : ℕ × ℕ) (ps : List (ℕ × ℕ)) (jobs : List (ℕ × Job))
    → ((e : ℕ × Job) → In e jobs → BelongsAt label k e → ⊥) → AreAllOn label (k ∷ ps) jobs → AreAllOn label ps jobs
none-here label k ps jobs none all p e i b =
    elim (all p e i b) as (λ v. In p ps) [ inl here ↦ absurd (none e i (subst (λ q. BelongsAt label q e) here b)) | inr later ↦ later ]

never-before : (label : Label) (k : ℕ × ℕ) (ps : List (ℕ × ℕ)) (d e : ℕ × Job) → IsStrictlySortedBy shelf_cmp (k ∷ ps)
    → k ≡ (number label e.1, e.0) → In (number label d.1, d.0) (k ∷ ps) → ComesBefore (number label) d e → ⊥
never-before label k ps d e s is (inl here) first =
    let a : number label d.1 ≡ number label e.1 = ap (λ (p : ℕ × ℕ). p.0) (here ∙ is) in
    let b : d.0 ≡ e.0 = ap (λ (p : ℕ × ℕ). p.1) (here ∙ is) in
    elim first as (λ v. ⊥) [ inl h ↦ omega (arith, a) | inr h ↦ omega (arith, b, h.1) ]
never-before label k ps d e s is (inr later) first =
    let less = before_place (number label e.1, e.0) (number label d.1, d.0)
    (subst (λ q. shelf_cmp q (number label d.1, d.0) ≡ Less) is (sorted-first k (number label d.1, d.0) ps s later))
    in
    grind arith

never-before-from : (label : Label) (k : ℕ × ℕ) (d e : ℕ × Job) → k ≡ (number label e.1, e.0)
    → IsFrom k (number label d.1, d.0) → ComesBefore (number label) d e → ⊥
never-before-from label k d e is from first =
    let later = subst (λ q. IsFrom q (number label d.1, d.0)) is from in
    grind arith

-- where each job that belongs on the shelf stands at this place or later, the one that stands there is the first
pub from-is-least : (label : Label) (k : ℕ × ℕ) (jobs : List (ℕ × Job)) (e : ℕ × Job)
    → ((p : ℕ × ℕ) (d : ℕ × Job) → In d jobs → BelongsAt label p d → IsFrom k p) → In e jobs → BelongsAt label k e
    → IsLeast (belongs label) (number label) jobs e
from-is-least label k jobs e all i b = record {
  member = i;
  passes = b.0;
  least = λ d j t first. never-before-from label k d e b.1 (all (number label d.1, d.0) d j (t, refl)) first;
}

pub first-is-least : (label : Label) (k : ℕ × ℕ) (ps : List (ℕ × ℕ)) (jobs : List (ℕ × Job)) (e : ℕ × Job)
    → AreAllOn label (k ∷ ps) jobs → IsStrictlySortedBy shelf_cmp (k ∷ ps) → In e jobs → BelongsAt label k e
    → IsLeast (belongs label) (number label) jobs e
first-is-least label k ps jobs e all s i b = record {
  member = i;
  passes = b.0;
  least = λ d j t first. never-before label k ps d e s b.1 (all (number label d.1, d.0) d j (t, refl)) first;
}

pub none-on : (label : Label) (jobs : List (ℕ × Job)) → AreAllOn label [] jobs → NonePasses (belongs label) jobs
none-on label jobs all e i t = all (number label e.1, e.0) e i (t, refl)

pub none-found : (label : Label) (jobs : List (ℕ × Job)) → AreAllFound label bare jobs → NonePasses (belongs label) jobs
none-found label jobs all e i t = (all (number label e.1, e.0) e i (t, refl)).0

-- The first place after another where a job stands by the map

-- each of the jobs that belongs on the shelf after a place stands at one of these places
abbrev pub AreAllAfter : Label → ℕ × ℕ → List (ℕ × ℕ) → List (ℕ × Job) → Type 0
AreAllAfter label after places jobs =
    (p : ℕ × ℕ) (e : ℕ × Job) → In e jobs → BelongsAt label p e → is_after after p ≡ true → In p places

-- each of these places comes after one
abbrev pub AreAfter : ℕ × ℕ → List (ℕ × ℕ) → Type 0
AreAfter after places = (p : ℕ × ℕ) → In p places → is_after after p ≡ true

pub none-here-after : (label : Label) (after k : ℕ × ℕ) (ps : List (ℕ × ℕ)) (jobs : List (ℕ × Job))
    → ((e : ℕ × Job) → In e jobs → BelongsAt label k e → ⊥) → AreAllAfter label after (k ∷ ps) jobs
    → AreAllAfter label after ps jobs
none-here-after label after k ps jobs none all p e i b t =
    elim (all p e i b t) as (λ v. In p ps) [ inl here ↦ absurd (none e i (subst (λ q. BelongsAt label q e) here b)) | inr later ↦ later ]

pub first-after-is-least : (label : Label) (after k : ℕ × ℕ) (ps : List (ℕ × ℕ)) (jobs : List (ℕ × Job)) (e : ℕ × Job)
    → AreAllAfter label after (k ∷ ps) jobs → IsStrictlySortedBy shelf_cmp (k ∷ ps) → AreAfter after (k ∷ ps)
    → In e jobs → BelongsAt label k e → IsLeast (belongs_after label after) (number label) jobs e
first-after-is-least label after k ps jobs e all s later i b = record {
  member = i;
  passes = and_from (belongs label e) (is_after after (number label e.1, e.0)) b.0 (subst (λ p. is_after after p ≡ true) b.1 (later k (inl refl)));
  least = λ d j t first.
      let both = and_parts (belongs label d) (is_after after (number label d.1, d.0)) t in
      never-before label k ps d e s b.1 (all (number label d.1, d.0) d j (both.0, refl) both.1) first;
}

pub none-after : (label : Label) (after : ℕ × ℕ) (jobs : List (ℕ × Job)) → AreAllAfter label after [] jobs → NonePasses (belongs_after label after) jobs
none-after label after jobs all e i t =
    let both = and_parts (belongs label e) (is_after after (number label e.1, e.0)) t in
    all (number label e.1, e.0) e i (both.0, refl) both.1

-- Whether a job belongs at a place of its own id

pub at-test : (label : Label) (at id n : ℕ) (job : Job) → belongs label (id, job) ≡ true → n ≡ number label job
    → (n == at) ≡ belongs_at label (at, id) (id, job)
at-test label at id n job fits is =
    ap (λ m. m == at) is ∙
    sym (ap (λ t. t && number label job == at && id == id) fits ∙ ap (λ t. number label job == at && t) (eq-eqb id id refl) ∙ and-true (number label job == at))

pub not-at : (label : Label) (at id : ℕ) (job : Job) → belongs label (id, job) ≡ false → false ≡ belongs_at label (at, id) (id, job)
not-at label at id job apart = sym (ap (λ t. t && number label job == at && id == id) apart)
