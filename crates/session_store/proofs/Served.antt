-- The lines of tubes, and who is served.
use Rattle.std.proofs.Common.{◌≡◌, ℕ, ◌<◌, ◌^◌, ◌&&◌, ◌==◌, ◌⊎◌, inl, inr, cond, true, false, List, Option, Some, None, IfSome, Result, Ok, Err, OnOk, OnErr, option_map, filter_map, is_some, unwrap_or}
use Rattle.std.proofs.Common.{refl, sym, ap, ap₂, subst, ◌∙◌}
use Rattle.std.specs.declared.cmp.Ordering.{Ordering}
use Rattle.std.specs.declared.cmp.Ordering.TheVariants.{Less, Equal}
use Rattle.std.specs.declared.ops.Bound.TheVariants.{Included, Unbounded}
use Rattle.std.specs.Ordering.{nat_cmp, ordering_then, is_le}
use Rattle.std.specs.BTreeMap.Range.{range_contains}
use Rattle.std.specs.List.{slice_get}
use Rattle.std.specs.Cmp.Lexicographic.{slice_cmp}
use Rattle.std.specs.BTreeMap.{get, is_at, Updates, IsUnchanged}
use Rattle.std.specs.Map.{lookup}
use Rattle.bean_words.specs.Names.{name_cmp}
use Rattle.bean_words.proofs.naming.NameSets.{at-name}
use Rattle.std.specs.List.Sorted.{IsStrictlySortedBy}
use Rattle.std.specs.BTreeSet.{BTreeSet}
use Rattle.std.proofs.lemmas.List.Kept.{IsStrictlySortedBy-filter}
use Rattle.std.proofs.lemmas.Bool.{and_parts, and_from, cases_order}
use Rattle.job_store.specs.Entries.{value_at}
use Rattle.job_store.specs.EntryLaws.{cmp_less, cmp_equal, value_at-In, altered-in}
use Rattle.job_store.specs.Least.{IsLeast}
use Rattle.job_store.proofs.least.Least.{least-found}
use Rattle.job_store.specs.LookUps.{is_among}
use Rattle.session_store.specs.declared.session.SessionState.{SessionState}
use Rattle.session_store.specs.declared.place.LinePlace.{LinePlace}
use Rattle.session_store.specs.declared.tube_lines.TubeLines.{TubeLines}
use Rattle.session_store.specs.Sessions.{is_waiting, wait_rank, first_waiting, with_wait, with_wait_ended}
use Rattle.session_store.specs.Lines.{line_cmp, place, IsIn, rank_place, tube_line, line_from, StandsByTubes, AllStand, StillStand, wants_from, waiter_at}
use Rattle.session_store.specs.declared.fronts.Fronts.{Fronts}
use Rattle.session_store.specs.Fronts.{front_of, IsFront, AreFronts}
use Rattle.session_store.proofs.TubeSets.{found-set, no-set}
use Rattle.session_store.proofs.Places.{in_keys}
use Rattle.session_store.proofs.Found.{mapped-in, filtered-in}
use Rattle.session_store.proofs.Standers.{waiting-place, rank_place-of, less_by, none_some, standing-at, AreSeen, nobody-stands, first-stands}

-- each session that waits for a job of the tube is seen at its place in the line
seen-in : (tube : List ℕ) (sessions : List (ℕ × SessionState)) (tubes : TubeLines)
    → AllStand (StandsByTubes tubes) sessions → AreSeen (wants_from tube) sessions (tube_line tube tubes).keys
seen-in tube sessions tubes all e i t =
    let both = and_parts (is_waiting e.1) (is_among tube e.1.watched) t in
    let p : LinePlace = place (wait_rank e.1) e.0 in
    let stands : IsIn (tube_line tube tubes) p =
    subst (λ o. IfSome o (IsIn (tube_line tube tubes))) (waiting-place e.0 e.1 both.0) (all.each e i tube both.1) in
    mapped-in (waiter_at tube sessions) p e (tube_line tube tubes).keys (in_keys p (tube_line tube tubes).keys stands)
    (standing-at (wants_from tube) sessions p e.1 (value_at-In 0 (2 ^ 32) sessions e all.rising i) t refl)

-- Places from a front on

less_cmp : (p q : LinePlace) → (p.order < q.order) ⊎ ((p.order ≡ q.order) × (p.session < q.session)) → line_cmp p q ≡ Less
less_cmp p q (inl below) = ap (λ o. ordering_then o (nat_cmp p.session q.session)) (cmp_less p.order q.order below)
less_cmp p q (inr both) = ap₂ ordering_then (cmp_equal p.order q.order both.0) (cmp_less p.session q.session both.1)

from_start : (o : Ordering) → (o ≡ Less) ⊎ (o ≡ Equal) → (is_le o && true) ≡ true
from_start o (inl less) = ap (λ o. is_le o && true) less
from_start o (inr equal) = ap (λ o. is_le o && true) equal

-- a place that isn't before another is among those from it on
not-before : (p q : LinePlace) → (line_cmp q p ≡ Less → ⊥) → range_contains line_cmp (Included p) Unbounded q ≡ true
not-before p q never =
    from_start (line_cmp p q)
    (elim (cases_order p.order q.order) as (λ v. (line_cmp p q ≡ Less) ⊎ (line_cmp p q ≡ Equal)) [
      | inr (inl below) ↦ inl (less_cmp p q (inl below))
      | inr (inr above) ↦ absurd (never (less_cmp q p (inl above)))
      | inl same ↦
          elim (cases_order p.session q.session) as (λ v. (line_cmp p q ≡ Less) ⊎ (line_cmp p q ≡ Equal)) [
            | inl equal ↦ inr (ap₂ ordering_then (cmp_equal p.order q.order same) (cmp_equal p.session q.session equal))
            | inr (inl less) ↦ inl (less_cmp p q (inr (same, less)))
            | inr (inr more) ↦ absurd (never (less_cmp q p (inr (sym same, more))))
          ]
    ])

-- each session that waits for a job of the tube is seen at its place in the line, from the front on
seen-from : (tube : List ℕ) (sessions : List (ℕ × SessionState)) (tubes : TubeLines) (p : LinePlace)
    → AllStand (StandsByTubes tubes) sessions → IsFront tube sessions p
    → AreSeen (wants_from tube) sessions (line_from p (tube_line tube tubes))
seen-from tube sessions tubes p all front e i t =
    let both = and_parts (is_waiting e.1) (is_among tube e.1.watched) t in
    let q : LinePlace = place (wait_rank e.1) e.0 in
    let stands : IsIn (tube_line tube tubes) q =
    subst (λ o. IfSome o (IsIn (tube_line tube tubes))) (waiting-place e.0 e.1 both.0) (all.each e i tube both.1) in
    mapped-in (waiter_at tube sessions) q e (line_from p (tube_line tube tubes))
    (filtered-in (range_contains line_cmp (Included p) Unbounded) q (tube_line tube tubes).keys
    (in_keys q (tube_line tube tubes).keys stands) (not-before p q (front e i t)))
    (standing-at (wants_from tube) sessions q e.1 (value_at-In 0 (2 ^ 32) sessions e all.rising i) t refl)

-- the first that stands in a line that is found, from the tube's front on
pub first-in-line : (tube : List ℕ) (sessions : List (ℕ × SessionState)) (tubes : TubeLines) (line : BTreeSet LinePlace)
    (fronts : Fronts) (p : LinePlace) → Some line ≡ get (slice_cmp nat_cmp) tubes.lines tube
    → AllStand (StandsByTubes tubes) sessions → AreFronts fronts sessions → p ≡ front_of tube fronts
    → IsStrictlySortedBy line_cmp line.keys → slice_get (filter_map (waiter_at tube sessions) (line_from p line)) 0
    ≡ first_waiting (λ e. is_among tube e.1.watched) sessions
first-in-line tube sessions tubes line fronts p value all were at sorted =
    let it : line ≡ tube_line tube tubes = sym (found-set line_cmp tube tubes.lines line (sym value)) in
    let all-sorted : IsStrictlySortedBy line_cmp (tube_line tube tubes).keys =
    subst (λ (l : BTreeSet LinePlace). IsStrictlySortedBy line_cmp l.keys) it sorted in
    ap (λ (l : BTreeSet LinePlace). slice_get (filter_map (waiter_at tube sessions) (line_from p l)) 0) it ∙
    first-stands (wants_from tube) sessions (line_from p (tube_line tube tubes)) all.rising
    (seen-from tube sessions tubes p all (subst (IsFront tube sessions) (sym at) (were tube)))
    (IsStrictlySortedBy-filter line_cmp (range_contains line_cmp (Included p) Unbounded) (tube_line tube tubes).keys all-sorted)

-- and where there is no line
pub none-in-line : (tube : List ℕ) (sessions : List (ℕ × SessionState)) (tubes : TubeLines)
    → None ≡ get (slice_cmp nat_cmp) tubes.lines tube
    → AllStand (StandsByTubes tubes) sessions → None ≡ first_waiting (λ e. is_among tube e.1.watched) sessions
none-in-line tube sessions tubes value all =
    nobody-stands (wants_from tube) sessions (tube_line tube tubes).keys (seen-in tube sessions tubes all)
    (ap (λ (l : BTreeSet LinePlace). slice_get (filter_map (waiter_at tube sessions) l.keys) 0)
    (no-set line_cmp tube tubes.lines (sym value)))

-- who is the first that waits is a front of the tube
pub front-first : (tube : List ℕ) (sessions : List (ℕ × SessionState)) (e : ℕ × SessionState) (p : LinePlace)
    → Some e ≡ first_waiting (λ e. is_among tube e.1.watched) sessions → p ≡ place (wait_rank e.1) e.0 → IsFront tube sessions p
front-first tube sessions e p first at d i t less =
    let best : IsLeast (wants_from tube) wait_rank sessions e =
    subst (λ o. IfSome o (IsLeast (wants_from tube) wait_rank sessions)) (sym first) (least-found (wants_from tube) wait_rank sessions) in
    best.least d i t
    (less_by (place (wait_rank d.1) d.0) (place (wait_rank e.1) e.0) (ap (λ q. line_cmp (place (wait_rank d.1) d.0) q) (sym at) ∙ less))

-- what is noted of a tube, where memory is there
pub front-noted : {T E : Type 0} (tube t : List ℕ) (p : LinePlace) (fronts fronts' : Fronts) (r : Result T E)
    → OnOk r (Updates name_cmp fronts.places fronts'.places tube (Some p)) → OnErr r (IsUnchanged fronts.places fronts'.places)
    → (front_of t fronts' ≡ front_of t fronts) ⊎ ((t ≡ tube) × (front_of t fronts' ≡ p))
front-noted tube t p fronts fronts' (Ok v) updates err =
    elim (is_at (name_cmp tube) t) as (λ b. is_at (name_cmp tube) t ≡ b
    → get name_cmp fronts'.places t ≡ cond b (Some p) (get name_cmp fronts.places t)
    → (front_of t fronts' ≡ front_of t fronts) ⊎ ((t ≡ tube) × (front_of t fronts' ≡ p))) [
      | true ↦ λ a e. inr (sym (at-name tube t a), ap (λ o. unwrap_or o (place 0 0)) e)
      | false ↦ λ a e. inl (ap (λ o. unwrap_or o (place 0 0)) e)
    ] refl (updates.0 t)
front-noted tube t p fronts fronts' (Err e) updates err =
    inl (ap (λ es. unwrap_or (lookup (is_at (name_cmp t)) es) (place 0 0)) err)

-- a front that is noted, beside the others
pub fronts-noted : (tube : List ℕ) (sessions : List (ℕ × SessionState)) (fronts fronts' : Fronts) (p : LinePlace)
    → AreFronts fronts sessions → IsFront tube sessions p
    → ((t : List ℕ) → (front_of t fronts' ≡ front_of t fronts) ⊎ ((t ≡ tube) × (front_of t fronts' ≡ p))) → AreFronts fronts' sessions
fronts-noted tube sessions fronts fronts' p were front noted t =
    elim (noted t) as (λ v. IsFront t sessions (front_of t fronts')) [
      | inl same ↦ subst (IsFront t sessions) (sym same) (were t)
      | inr new ↦ subst (IsFront t sessions) (sym new.1) (subst (λ u. IsFront u sessions p) (sym new.0) front)
    ]

-- fronts stay where a wait ends
pub fronts-ended : (x : ℕ) (sessions : List (ℕ × SessionState)) (fronts : Fronts) → AreFronts fronts sessions
    → AreFronts fronts (with_wait_ended x sessions)
fronts-ended x sessions fronts were tube =
    altered-in x (with_wait None)
    (λ e. wants_from tube e ≡ true → line_cmp (place (wait_rank e.1) e.0) (front_of tube fronts) ≡ Less → ⊥) sessions
    (λ d i.
    elim (x == d.0) as (λ b. wants_from tube (d.0, cond b (with_wait None d.1) d.1) ≡ true
    → line_cmp (place (wait_rank (cond b (with_wait None d.1) d.1)) d.0) (front_of tube fronts) ≡ Less → ⊥) [
      | true ↦ λ t. cc
      | false ↦ λ t less. were tube d i t less
    ])

-- Places that are left

pub tube-left : (tube : List ℕ) (k : LinePlace) (tubes tubes' : TubeLines) (sessions : List (ℕ × SessionState))
    → waiter_at tube sessions k ≡ None
    → ((t : List ℕ) (p : LinePlace) → (t ≡ tube → k ≡ p → ⊥) → IsIn (tube_line t tubes) p → IsIn (tube_line t tubes') p)
    → StillStand (StandsByTubes tubes) (StandsByTubes tubes') sessions
tube-left tube k tubes tubes' sessions gone stays all = record {
  rising = all.rising;
  each = λ e i t among.
      elim (rank_place e.0 e.1.wait) as (λ o. rank_place e.0 e.1.wait ≡ o → IfSome o (IsIn (tube_line t tubes)) → IfSome o (IsIn (tube_line t tubes'))) [
        | None ↦ λ _ _. tt
        | Some p ↦ λ at there.
            stays t p
            (λ same it.
            let of = rank_place-of e.0 e.1 p at in
            let who : value_at k.session sessions ≡ Some e.1 =
            ap (λ (q : LinePlace). value_at q.session sessions) it ∙ ap
            (λ x. value_at x sessions) of.2 ∙ value_at-In 0 (2 ^ 32) sessions e all.rising i in
            let seen : waiter_at tube sessions k ≡ Some (k.session, e.1) =
            standing-at (wants_from tube) sessions k e.1 who
            (and_from (is_waiting e.1) (is_among tube e.1.watched) of.0 (ap (λ u. is_among u e.1.watched) (sym same) ∙ among))
            (of.1 ∙ ap (λ (q : LinePlace). q.order) (sym it)) in
            none_some (k.session, e.1) (sym gone ∙ seen))
            there
      ] refl (all.each e i t among);
}

pub none-seen : {A : Type 0} (view : A → ℕ × SessionState) (o : Option A) → is_some o ≡ false → option_map view o ≡ None
none-seen view None e = refl
none-seen view (Some a) e = cc
