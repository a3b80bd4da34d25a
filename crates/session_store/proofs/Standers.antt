-- Who stands at a place, and that the first that stands in a line is the least.
use Rattle.std.proofs.Common.{◌≡◌, ℕ, ◌<◌, ◌^◌, Bool, true, false, cond, ◌&&◌, inl, inr, List, [], ◌∷◌, Option, Some, None}
use Rattle.std.proofs.Common.{IfSome, filter_map, is_some, refl, sym, ap, ap₂, subst, ◌∙◌, arith, eqb-true, ◌==◌, eq-eqb, ◌⊎◌}
use Rattle.std.specs.declared.cmp.Ordering.{Ordering}
use Rattle.std.specs.declared.cmp.Ordering.TheVariants.{Less, Equal, Greater}
use Rattle.std.specs.Ordering.{nat_cmp, ordering_then}
use Rattle.std.specs.List.{cons_option, slice_get, AllByRecursion}
use Rattle.std.specs.List.Sorted.{IsStrictlySortedBy}
use Rattle.std.proofs.lemmas.Map.Keys.{sorted_head, sorted_tail}
use Rattle.std.proofs.lemmas.Bool.{cases_order, cond-true, and_parts, and_from}
use Rattle.object.specs.Lists.{In}
use Rattle.job_store.specs.Entries.{Rising, value_at}
use Rattle.job_store.specs.EntryLaws.{cmp_equal, cmp_greater, value_at-found}
use Rattle.job_store.specs.Least.{ComesBefore, IsLeast, least}
use Rattle.job_store.proofs.least.Least.{least-found, least-only}
use Rattle.session_store.specs.declared.session.SessionState.{SessionState}
use Rattle.session_store.specs.declared.session.Wait.{Wait}
use Rattle.session_store.specs.declared.place.LinePlace.{LinePlace}
use Rattle.session_store.specs.Sessions.{is_waiting, wait_rank}
use Rattle.session_store.specs.Lines.{line_cmp, place, rank_place, stander_at}
use Rattle.session_store.proofs.Places.{some_place}
use Rattle.session_store.proofs.Found.{mapped-from}
use Rattle.session_store.proofs.Late.{some_entry}

-- The place of a session that waits

waiting_place_of : (x : ℕ) (wait : Option Wait) → is_some wait ≡ true
    → rank_place x wait ≡ Some (place (elim wait as (λ _. ℕ) [ None ↦ 0 | Some w ↦ w.rank ]) x)
waiting_place_of x None e = cc
waiting_place_of x (Some w) e = refl

pub waiting-place : (x : ℕ) (c : SessionState) → is_waiting c ≡ true → rank_place x c.wait ≡ Some (place (wait_rank c) x)
waiting-place x c e = waiting_place_of x c.wait e

some_place_of : (x : ℕ) (wait : Option Wait) (p : LinePlace) → rank_place x wait ≡ Some p → (is_some wait ≡ true)
    × ((elim wait as (λ _. ℕ) [ None ↦ 0 | Some w ↦ w.rank ]) ≡ p.order) × (p.session ≡ x)
some_place_of x None p e = cc
some_place_of x (Some w) p e =
    let it : place w.rank x ≡ p = some_place (place w.rank x) p e in
    (refl, ap (λ (q : LinePlace). q.order) it, ap (λ (q : LinePlace). q.session) (sym it))

pub rank_place-of : (x : ℕ) (c : SessionState) (p : LinePlace) → rank_place x c.wait ≡ Some p → (is_waiting c ≡ true) × (wait_rank c ≡ p.order) × (p.session ≡ x)
rank_place-of x c p e = some_place_of x c.wait p e

-- Places go by their number

apart_orders : (o : Ordering) → o ≡ Less → elim o as (λ _. Type 0) [ Less ↦ Unit {0} | Equal ↦ ⊥ | Greater ↦ ⊥ ]
apart_orders Less e = tt
apart_orders Equal e = cc
apart_orders Greater e = cc

pub less_by : (p q : LinePlace) → line_cmp p q ≡ Less → (p.order < q.order) ⊎ ((p.order ≡ q.order) × (p.session < q.session))
less_by p q e =
    elim (cases_order p.order q.order) as (λ v. (p.order < q.order) ⊎ ((p.order ≡ q.order) × (p.session < q.session))) [
      | inr (inl below) ↦ inl below
      | inl same ↦ inr (
        same,
        elim (cases_order p.session q.session) as (λ v. p.session < q.session) [
          | inr (inl less) ↦ less
          | inl equal ↦ absurd (apart_orders Equal (sym (ap₂ ordering_then (cmp_equal p.order q.order same) (cmp_equal p.session q.session equal)) ∙ e))
          | inr (inr more) ↦ absurd (apart_orders Greater (sym (ap₂ ordering_then (cmp_equal p.order q.order same) (cmp_greater p.session q.session more)) ∙ e))
        ],
      )
      | inr (inr above) ↦ absurd (apart_orders Greater (sym (ap (λ o. ordering_then o (nat_cmp p.session q.session)) (cmp_greater p.order q.order above)) ∙ e))
    ]

-- who stands later in the line does not come before who stands earlier
later-not : (p q : LinePlace) (d e : ℕ × SessionState) → line_cmp p q ≡ Less → wait_rank e.1 ≡ p.order → e.0 ≡ p.session
    → wait_rank d.1 ≡ q.order → d.0 ≡ q.session → ComesBefore wait_rank d e → ⊥
later-not p q d e less re se rd sd before =
    elim (less_by p q less) as (λ v. ⊥) [
      | inl order ↦ elim before as (λ v. ⊥) [ inl h ↦ omega (arith, re, rd, h, order) | inr h ↦ omega (arith, re, rd, h.0, order) ]
      | inr both ↦ elim before as (λ v. ⊥) [ inl h ↦ omega (arith, re, rd, h, both.0) | inr h ↦ omega (arith, se, sd, h.1, both.1) ]
    ]

-- Small facts

pub none_some : (e : ℕ × SessionState) → None ≡ Some e → ⊥
none_some e h = cc

not_empty : (e : ℕ × SessionState) (es : List (ℕ × SessionState)) → slice_get es 0 ≡ None → In e es → ⊥
not_empty e [] none i = i
not_empty e (d ∷ ds) none i = none_some d (sym none)

never_itself : (by : SessionState → ℕ) (e : ℕ × SessionState) → ComesBefore by e e → ⊥
never_itself by e (inl h) = omega arith
never_itself by e (inr h) = omega (arith, h.1)

in_all : {X : Type 0} (P : X → Type 0) (x : X) (xs : List X) → AllByRecursion P xs → In x xs → P x
in_all P x [] all i = absurd i
in_all P x (y ∷ ys) all (inl same) = subst P (sym same) all.0
in_all P x (y ∷ ys) all (inr later) = in_all P x ys all.1 later

module _ (test : ℕ × SessionState → Bool) (sessions : List (ℕ × SessionState)) where
  -- Who stands at a place

  pub standing-at : (p : LinePlace) (c : SessionState) → value_at p.session sessions ≡ Some c
      → test (p.session, c) ≡ true → wait_rank c ≡ p.order → stander_at test sessions p ≡ Some (p.session, c)
  standing-at p c there passes rank =
      let seen : Option SessionState → Option (ℕ × SessionState) =
      λ o. elim o as (λ _. Option (ℕ × SessionState)) [
        | None ↦ None
        | Some s ↦ cond (test (p.session, s) && wait_rank s == p.order) (Some (p.session, s)) None
      ] in
      ap seen there ∙
      cond-true (test (p.session, c) && wait_rank c == p.order) (Some (p.session, c)) None
      (and_from (test (p.session, c)) (wait_rank c == p.order) passes (eq-eqb (wait_rank c) p.order rank))

  pub standing-from : (p : LinePlace) (e : ℕ × SessionState) → stander_at test sessions p ≡ Some e → In e sessions
      × (test e ≡ true) × (wait_rank e.1 ≡ p.order) × (e.0 ≡ p.session)
  standing-from p e seen =
      elim (value_at p.session sessions) as (λ o. value_at p.session sessions ≡ o
      → (elim o as (λ o. Option (ℕ × SessionState)) [
        | None ↦ None
        | Some s ↦ cond (test (p.session, s) && wait_rank s == p.order) (Some (p.session, s)) None
      ]) ≡ Some e
      → In e sessions × (test e ≡ true) × (wait_rank e.1 ≡ p.order) × (e.0 ≡ p.session)) [
        | None ↦ λ v h. cc
        | Some c ↦ λ v.
            elim (test (p.session, c) && wait_rank c == p.order) as (λ b.
            (test (p.session, c) && wait_rank c == p.order) ≡ b
            → cond b (Some (p.session, c)) None ≡ Some e → In e sessions
            × (test e ≡ true) × (wait_rank e.1 ≡ p.order) × (e.0 ≡ p.session)) [
              | false ↦ λ t h. cc
              | true ↦ λ t h.
                  let same : (p.session, c) ≡ e = some_entry (p.session, c) e h in
                  let there = value_at-found p.session sessions c v in
                  let it : there.0 ≡ (p.session, c) = λ i. (there.2 i, there.3 i) in
                  let both = and_parts (test (p.session, c)) (wait_rank c == p.order) t in
                  subst (λ (d : ℕ × SessionState). In d sessions × (test d ≡ true)
                  × (wait_rank d.1 ≡ p.order) × (d.0 ≡ p.session)) same
                  (subst (λ d. In d sessions) it there.1, both.0, eqb-true (wait_rank c) p.order both.1, refl)
            ] refl
      ] refl seen

  -- The first that stands is the least

  -- each session that passes is seen at a place of the list
  abbrev pub AreSeen : List LinePlace → Type 0
  AreSeen ks = (e : ℕ × SessionState) → In e sessions → test e ≡ true → In e (filter_map (stander_at test sessions) ks)

  first-least : (e : ℕ × SessionState) (ks : List LinePlace) → IsStrictlySortedBy line_cmp ks
      → slice_get (filter_map (stander_at test sessions) ks) 0 ≡ Some e
      → In e (filter_map (stander_at test sessions) ks)
      × ((d : ℕ × SessionState) → In d (filter_map (stander_at test sessions) ks) → ComesBefore wait_rank d e → ⊥)
  first-least e [] sorted f = cc
  first-least e (k ∷ ks) sorted f =
      elim (stander_at test sessions k) as (λ o. stander_at test sessions k ≡ o
      → slice_get (cons_option o (filter_map (stander_at test sessions) ks)) 0 ≡ Some e
      → In e (cons_option o (filter_map (stander_at test sessions) ks))
      × ((d : ℕ × SessionState) → In d (cons_option o (filter_map (stander_at test sessions) ks))
      → ComesBefore wait_rank d e → ⊥)) [
        | None ↦ λ s f. first-least e ks (sorted_tail line_cmp k ks sorted) f
        | Some c ↦ λ s f.
            let it : c ≡ e = some_entry c e f in
            let at = standing-from k e (s ∙ f) in (
              inl (sym it),
              λ d i before.
                  elim i as (λ i. ⊥) [
                    | inl same ↦ never_itself wait_rank e (subst (λ z. ComesBefore wait_rank z e) (same ∙ it) before)
                    | inr later ↦
                        let from = mapped-from (stander_at test sessions) d ks later in
                        let then = standing-from from.0 d from.2 in
                        later-not k from.0 d e (in_all (λ q. line_cmp k q ≡ Less) from.0 ks
                        (sorted_head line_cmp k ks sorted) from.1) at.2 at.3 then.2 then.3 before
                  ],
            )
      ] refl f

  pub nobody-stands : (ks : List LinePlace) → AreSeen ks → slice_get (filter_map (stander_at test sessions) ks) 0 ≡ None
      → None ≡ least test wait_rank sessions
  nobody-stands ks seen none =
      elim (least test wait_rank sessions) as (λ o. IfSome o (IsLeast test wait_rank sessions) → None ≡ o) [
        | None ↦ λ _. refl
        | Some e ↦ λ found. absurd (not_empty e _ none (seen e found.member found.passes))
      ] (least-found test wait_rank sessions)

  pub first-stands : (ks : List LinePlace) → Rising 0 (2 ^ 32) sessions → AreSeen ks → IsStrictlySortedBy line_cmp ks
      → slice_get (filter_map (stander_at test sessions) ks) 0 ≡ least test wait_rank sessions
  first-stands ks rising seen sorted =
      elim (slice_get (filter_map (stander_at test sessions) ks) 0) as (λ o. slice_get
      (filter_map (stander_at test sessions) ks) 0 ≡ o → o ≡ least test wait_rank sessions) [
        | None ↦ λ none. nobody-stands ks seen none
        | Some e ↦ λ some.
            let best = first-least e ks sorted some in
            let from = mapped-from (stander_at test sessions) e ks best.0 in
            let there = standing-from from.0 e from.2 in
            sym (least-only test wait_rank sessions 0 (2 ^ 32) e rising (record {
              member = there.0;
              passes = there.1;
              least = λ d i t. best.1 d (seen d i t);
            }))
      ] refl
