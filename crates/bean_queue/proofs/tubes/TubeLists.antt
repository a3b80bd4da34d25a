-- The list of all tubes: in order, each once, and no others.
use Rattle.std.proofs.Common.{◌≡◌, ◌↔◌, ℕ, ◌⊎◌, inl, inr, List, [], ◌∷◌, ◌++◌, map, flat_map, fold, codes}
use Rattle.std.proofs.Common.{Less, Equal, Greater, refl, sym, ap, ap₂, subst, ◌∙◌}
use Rattle.std.specs.Ordering.{match_ordering, ordering_reverse}
use Rattle.std.specs.BTreeSet.{insert_key}
use Rattle.std.specs.List.{AllByRecursion}
use Rattle.std.specs.List.Sorted.{IsStrictlySortedBy}
use Rattle.std.proofs.lemmas.Cmp.{nat_list_cmp_total}
use Rattle.object.specs.Lists.{In}
use Rattle.job_store.specs.declared.job.Job.{Job}
use Rattle.bean_words.specs.Names.{name_cmp}
use Rattle.bean_words.proofs.naming.NameSets.{from-insert, to-insert}
use Rattle.job_store.proofs.shelving.Shelving.{in-front}
use Rattle.session_store.specs.declared.session.SessionState.{SessionState}
use Rattle.bean_queue.specs.Queue.{QueueState}
use Rattle.bean_queue.specs.Tubes.{all_tubes, IsTube}
use Rattle.bean_queue.specs.WaitLaws.{in-append}

all-insert : (P : List ℕ → Type 0) (x : List ℕ) (xs : List (List ℕ)) → P x → AllByRecursion P xs → AllByRecursion P (insert_key name_cmp xs x)
all-insert P x [] p h = (p, tt)
all-insert P x (y ∷ ys) p h =
    elim (name_cmp x y) as (λ r. AllByRecursion P (match_ordering r (x ∷ y ∷ ys) (y ∷ ys) (y ∷ insert_key name_cmp ys x))) [
      | Less ↦ (p, h)
      | Equal ↦ h
      | Greater ↦ (h.0, all-insert P x ys p h.1)
    ]

all-below : (x y : List ℕ) (ys : List (List ℕ)) → name_cmp x y ≡ Less → AllByRecursion (λ z. name_cmp y z ≡ Less) ys
    → AllByRecursion (λ z. name_cmp x z ≡ Less) ys
all-below x y [] e h = tt
all-below x y (z ∷ zs) e h = (nat_list_cmp_total.trans x y z e h.0, all-below x y zs e h.1)

insert-sorted : (x : List ℕ) (xs : List (List ℕ)) → IsStrictlySortedBy name_cmp xs → IsStrictlySortedBy name_cmp (insert_key name_cmp xs x)
unfolding IsStrictlySortedBy
insert-sorted x [] h = (tt, tt)
insert-sorted x (y ∷ ys) h =
    elim (name_cmp x y) as (λ r. name_cmp x y ≡ r → IsStrictlySortedBy name_cmp (match_ordering r (x ∷ y ∷ ys) (y ∷ ys) (y ∷ insert_key name_cmp ys x))) [
      | Less ↦ λ e. ((e, all-below x y ys e h.0), h)
      | Equal ↦ λ e. h
      | Greater ↦ λ e. (all-insert (λ z. name_cmp y z ≡ Less) x ys (nat_list_cmp_total.antisymm y x ∙ ap ordering_reverse e) h.0, insert-sorted x ys h.1)
    ] refl

fold-sorted : (names acc : List (List ℕ)) → IsStrictlySortedBy name_cmp acc → IsStrictlySortedBy name_cmp (fold (insert_key name_cmp) acc names)
fold-sorted [] acc h = h
fold-sorted (x ∷ xs) acc h = fold-sorted xs (insert_key name_cmp acc x) (insert-sorted x acc h)

pub from-fold : (t : List ℕ) (names acc : List (List ℕ)) → In t (fold (insert_key name_cmp) acc names) → In t names ⊎ In t acc
from-fold t [] acc i = inr i
from-fold t (x ∷ xs) acc i =
    elim (from-fold t xs (insert_key name_cmp acc x) i) as (λ v. In t (x ∷ xs) ⊎ In t acc) [
      | inl later ↦ inl (inr later)
      | inr j ↦ elim (from-insert t x acc j) as (λ v. In t (x ∷ xs) ⊎ In t acc) [ inl k ↦ inr k | inr same ↦ inl (inl same) ]
    ]

pub to-fold : (t : List ℕ) (names acc : List (List ℕ)) → In t names ⊎ In t acc → In t (fold (insert_key name_cmp) acc names)
to-fold t [] acc i = elim i as (λ v. In t acc) [ inl never ↦ absurd never | inr j ↦ j ]
to-fold t (x ∷ xs) acc i =
    to-fold t xs (insert_key name_cmp acc x) (elim i as (λ v. In t xs ⊎ In t (insert_key name_cmp acc x)) [
      | inl j ↦ elim j as (λ v. In t xs ⊎ In t (insert_key name_cmp acc x)) [ inl same ↦ inr (to-insert t x acc (inr same)) | inr later ↦ inl later ]
      | inr k ↦ inr (to-insert t x acc (inl k))
    ])

-- The tubes of a state

module _ {X : Type 0} where
  behind : (x : X) (xs ys : List X) → In x ys → In x (xs ++ ys)
  behind x [] ys i = i
  behind x (y ∷ xs) ys i = inr (behind x xs ys i)

abbrev pub tubes_of_jobs : List (ℕ × Job) → List (List ℕ)
tubes_of_jobs jobs = map (λ e. e.1.tube) jobs

abbrev pub tubes_of_sessions : List (ℕ × SessionState) → List (List ℕ)
tubes_of_sessions sessions = flat_map (λ e. e.1.used ∷ e.1.watched) sessions

from-jobs : (t : List ℕ) (jobs : List (ℕ × Job)) → In t (tubes_of_jobs jobs) → (j : ℕ × Job) × In j jobs × (t ≡ j.1.tube)
from-jobs t [] i = absurd i
from-jobs t (e ∷ es) (inl same) = (e, inl refl, same)
from-jobs t (e ∷ es) (inr later) = let r = from-jobs t es later in (r.0, inr r.1, r.2)

to-jobs : (t : List ℕ) (jobs : List (ℕ × Job)) (j : ℕ × Job) → In j jobs → t ≡ j.1.tube → In t (tubes_of_jobs jobs)
to-jobs t [] j i e = absurd i
to-jobs t (d ∷ ds) j (inl same) e = inl (e ∙ ap (λ (p : ℕ × Job). p.1.tube) same)
to-jobs t (d ∷ ds) j (inr later) e = inr (to-jobs t ds j later e)

pub from-sessions : (t : List ℕ) (sessions : List (ℕ × SessionState)) → In t (tubes_of_sessions sessions)
    → (w : ℕ × SessionState) × In w sessions × ((t ≡ w.1.used) ⊎ In t w.1.watched)
from-sessions t [] i = absurd i
from-sessions t (e ∷ es) i =
    elim (in-append (e.1.used ∷ e.1.watched) (tubes_of_sessions es) t i) as (λ v. (w : ℕ × SessionState) × In w (e ∷ es)
    × ((t ≡ w.1.used) ⊎ In t w.1.watched)) [
      | inl here ↦ (e, inl refl, here)
      | inr later ↦ let r = from-sessions t es later in (r.0, inr r.1, r.2)
    ]

pub to-sessions : (t : List ℕ) (sessions : List (ℕ × SessionState)) (w : ℕ × SessionState) → In w sessions
    → (t ≡ w.1.used) ⊎ In t w.1.watched → In t (tubes_of_sessions sessions)
to-sessions t [] w i h = absurd i
to-sessions t (e ∷ es) w (inl same) h =
    in-front t (e.1.used ∷ e.1.watched) (tubes_of_sessions es) (subst (λ (p : ℕ × SessionState). (t ≡ p.1.used) ⊎ In t p.1.watched) same h)
to-sessions t (e ∷ es) w (inr later) h = behind t (e.1.used ∷ e.1.watched) (tubes_of_sessions es) (to-sessions t es w later h)

pub tubes-sorted : (s : QueueState) → IsStrictlySortedBy name_cmp (all_tubes s)
unfolding all_tubes IsStrictlySortedBy
tubes-sorted s = fold-sorted (codes "default" ∷ tubes_of_jobs s.jobs ++ tubes_of_sessions s.sessions) [] tt

is-tube : (s : QueueState) (t : List ℕ) → In t (all_tubes s) → IsTube s t
unfolding all_tubes
is-tube s t i =
    elim (from-fold t (codes "default" ∷ tubes_of_jobs s.jobs ++ tubes_of_sessions s.sessions) [] i) as (λ v. IsTube s t) [
      | inr never ↦ absurd never
      | inl named ↦ elim named as (λ v. IsTube s t) [
        | inl same ↦ IsTube.default same
        | inr later ↦ elim (in-append (tubes_of_jobs s.jobs) (tubes_of_sessions s.sessions) t later) as (λ v. IsTube s t) [
          | inl of ↦ let r = from-jobs t s.jobs of in IsTube.of_job r.0 r.1 r.2
          | inr of ↦ let r = from-sessions t s.sessions of
              in elim r.2 as (λ v. IsTube s t) [ inl it ↦ IsTube.used r.0 r.1 it | inr it ↦ IsTube.watched r.0 r.1 it ]
        ]
      ]
    ]

named-tube : (s : QueueState) (t : List ℕ) → IsTube s t → In t (codes "default" ∷ tubes_of_jobs s.jobs ++ tubes_of_sessions s.sessions)
named-tube s t (IsTube.default same) = inl same
named-tube s t (IsTube.of_job j i e) = inr (in-front t (tubes_of_jobs s.jobs) (tubes_of_sessions s.sessions) (to-jobs t s.jobs j i e))
named-tube s t (IsTube.used w i e) = inr (behind t (tubes_of_jobs s.jobs) (tubes_of_sessions s.sessions) (to-sessions t s.sessions w i (inl e)))
named-tube s t (IsTube.watched w i e) = inr (behind t (tubes_of_jobs s.jobs) (tubes_of_sessions s.sessions) (to-sessions t s.sessions w i (inr e)))

lists-tube : (s : QueueState) (t : List ℕ) → IsTube s t → In t (all_tubes s)
unfolding all_tubes
lists-tube s t is = to-fold t (codes "default" ∷ tubes_of_jobs s.jobs ++ tubes_of_sessions s.sessions) [] (inl (named-tube s t is))

pub tubes-all : (s : QueueState) (t : List ℕ) → In t (all_tubes s) ↔ IsTube s t
tubes-all s t = (is-tube s t, lists-tube s t)

-- Two lists in order that have the same names are one

later-than : (x t : List ℕ) (xs : List (List ℕ)) → AllByRecursion (λ z. name_cmp x z ≡ Less) xs → In t xs → name_cmp x t ≡ Less
later-than x t [] a i = absurd i
later-than x t (y ∷ ys) a (inl same) = subst (λ u. name_cmp x u ≡ Less) (sym same) a.0
later-than x t (y ∷ ys) a (inr later) = later-than x t ys a.1 later

not-both : (x y : List ℕ) → name_cmp x y ≡ Less → name_cmp y x ≡ Less → ⊥
not-both x y e f = let never : Less ≡ Greater = sym f ∙ nat_list_cmp_total.antisymm y x ∙ ap ordering_reverse e in cc

module _ (x : List ℕ) (xs ys : List (List ℕ)) (head : AllByRecursion (λ z. name_cmp x z ≡ Less) xs) where
  rest-in : ((t : List ℕ) → In t (x ∷ xs) → In t (x ∷ ys)) → (t : List ℕ) → In t xs → In t ys
  rest-in all t i = elim (all t (inr i)) as (λ v. In t ys) [
    | inl same ↦ let less : name_cmp x x ≡ Less = subst (λ u. name_cmp x u ≡ Less) same (later-than x t xs head i) in absurd (not-both x x less less)
    | inr later ↦ later
  ]

same-heads : (x y : List ℕ) (xs ys : List (List ℕ)) → AllByRecursion (λ z. name_cmp x z ≡ Less) xs
    → AllByRecursion (λ z. name_cmp y z ≡ Less) ys → In x (y ∷ ys) → In y (x ∷ xs) → x ≡ y
same-heads x y xs ys hx hy (inl same) j = same
same-heads x y xs ys hx hy (inr later) (inl same) = sym same
same-heads x y xs ys hx hy (inr later) (inr earlier) = absurd (not-both x y (later-than x y xs hx earlier) (later-than y x ys hy later))

pub same-names : (xs ys : List (List ℕ)) → IsStrictlySortedBy name_cmp xs → IsStrictlySortedBy name_cmp ys
    → ((t : List ℕ) → In t xs → In t ys) → ((t : List ℕ) → In t ys → In t xs) → xs ≡ ys
unfolding IsStrictlySortedBy
same-names [] [] s s' to from = refl
same-names [] (y ∷ ys) s s' to from = absurd (from y (inl refl))
same-names (x ∷ xs) [] s s' to from = absurd (to x (inl refl))
same-names (x ∷ xs) (y ∷ ys) s s' to from =
    let same : x ≡ y = same-heads x y xs ys s.0 s'.0 (to x (inl refl)) (from y (inl refl)) in
    ap₂ (λ z zs. z ∷ zs) same
    (same-names xs ys s.1 s'.1
    (rest-in x xs ys s.0 (λ t i. subst (λ z. In t (z ∷ ys)) (sym same) (to t i)))
    (rest-in x ys xs (subst (λ u. AllByRecursion (λ z. name_cmp u z ≡ Less) ys) (sym same) s'.0) (λ t i. from t (subst (λ z. In t (z ∷ ys)) same i))))
