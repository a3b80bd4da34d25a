-- Sessions whose waits are over, in the order in which they are told.
use Rattle.std.proofs.Common.{◌≡◌, ℕ, ◌<◌, ◌^◌, true, false, cond, ◌&&◌, ◌==◌, ◌⊎◌, inl, inr, List, [], ◌∷◌, Some, None}
use Rattle.std.proofs.Common.{IfSome, IsSome, IfNone, filter_map, length, refl, sym, ap, subst, ◌∙◌, arith, eq-eqb, true≢false}
use Rattle.std.specs.List.{All, AllByRecursion, cons_option, slice_get}
use Rattle.std.specs.List.Sorted.{IsStrictlySortedBy}
use Rattle.std.specs.BTreeMap.{is_at}
use Rattle.std.specs.declared.cmp.Ordering.TheVariants.{Less}
use Rattle.std.specs.BTreeSet.{contains}
use Rattle.std.proofs.lemmas.List.Elements.{recursion_from_All}
use Rattle.std.proofs.lemmas.Bool.{and_parts, and_from}
use Rattle.object.specs.Lists.{In}
use Rattle.job_store.specs.Entries.{Rising}
use Rattle.job_store.specs.EntryLaws.{value_at-In, altered-in}
use Rattle.job_store.specs.Least.{NonePasses, least}
use Rattle.job_store.proofs.least.Least.{least-none}
use Rattle.session_store.specs.declared.session.SessionState.{SessionState}
use Rattle.session_store.specs.declared.place.LinePlace.{LinePlace}
use Rattle.session_store.specs.declared.time_outs.TimeOuts.{TimeOuts}
use Rattle.session_store.specs.declared.late_line.LateLine.{LateLine}
use Rattle.session_store.specs.Sessions.{is_waiting, wait_rank, first_waiting, with_wait, with_wait_ended}
use Rattle.session_store.specs.Lines.{line_cmp, place, places_by, over_at, rank_place, IsIn, HasAll, AllStand, StandsByTimeOut, stander_at}
use Rattle.session_store.specs.LateLines.{is_late, StandsIfLate, HasLate}
use Rattle.session_store.proofs.TubeSets.{stays_but}
use Rattle.session_store.proofs.Places.{same_place, in_keys, some_in}
use Rattle.session_store.proofs.Found.{least_alike, mapped-in}
use Rattle.session_store.proofs.Late.{over_waits, over-from, late-seen}
use Rattle.session_store.proofs.Standers.{waiting-place, none_some, standing-at, standing-from, AreSeen, nobody-stands, first-stands}

-- of those whose waits are over all wait
late-least : (second : ℕ) (sessions : List (ℕ × SessionState)) → Rising 0 (2 ^ 32) sessions
    → least (is_late second) wait_rank sessions ≡ first_waiting (is_late second) sessions
late-least second sessions rising =
    least_alike (λ e. is_waiting e.1 && is_late second e) (is_late second) wait_rank sessions sessions 0 (2 ^ 32) rising
    (λ e i t. (i, and_from (is_waiting e.1) (is_late second e) (over_waits second e.1.wait t) t))
    (λ e i t. (i, (and_parts (is_waiting e.1) (is_late second e) t).1))

-- where one of them stands
late-place : (second : ℕ) (sessions : List (ℕ × SessionState)) (line : LateLine) → AllStand (StandsIfLate second line) sessions
    → (e : ℕ × SessionState) → In e sessions → is_late second e ≡ true → IsIn line.places (place (wait_rank e.1) e.0)
late-place second sessions line all e i t =
    subst (λ o. IfSome o (IsIn line.places)) (waiting-place e.0 e.1 (over_waits second e.1.wait t)) (all.each e i t)

seen-at : (second : ℕ) (sessions : List (ℕ × SessionState)) → Rising 0 (2 ^ 32) sessions → (e : ℕ × SessionState)
    → In e sessions → is_late second e ≡ true
    → stander_at (is_late second) sessions (place (wait_rank e.1) e.0) ≡ Some e
seen-at second sessions rising e i t =
    standing-at (is_late second) sessions (place (wait_rank e.1) e.0) e.1 (value_at-In 0 (2 ^ 32) sessions e rising i) t refl

seen-late : (second : ℕ) (sessions : List (ℕ × SessionState)) (line : LateLine) → AllStand (StandsIfLate second line) sessions
    → AreSeen (is_late second) sessions line.places.keys
seen-late second sessions line all e i t =
    mapped-in (stander_at (is_late second) sessions) (place (wait_rank e.1) e.0) e line.places.keys
    (in_keys (place (wait_rank e.1) e.0) line.places.keys (late-place second sessions line all e i t))
    (seen-at second sessions all.rising e i t)

sorted-cons : (k : LinePlace) (ks : List LinePlace) → AllByRecursion (λ q. line_cmp k q ≡ Less) ks
    → IsStrictlySortedBy line_cmp ks → IsStrictlySortedBy line_cmp (k ∷ ks)
unfolding IsStrictlySortedBy
sorted-cons k ks above sorted = (above, sorted)

module _ (second : ℕ) (sessions : List (ℕ × SessionState)) (line line' : LateLine) (k : LinePlace)
    (all : AllStand (StandsIfLate second line) sessions) where
  -- who stands at the first place is told next
  pub next-found : (e : ℕ × SessionState) → line.places.keys ≡ k ∷ line'.places.keys
      → All (λ q. line_cmp k q ≡ Less) line'.places.keys → IsStrictlySortedBy line_cmp line'.places.keys
      → Some e ≡ stander_at (is_late second) sessions k → Some e ≡ first_waiting (is_late second) sessions
  next-found e keys above sorted at =
      let f = stander_at (is_late second) sessions in
      ap (λ o. slice_get (cons_option o (filter_map f line'.places.keys)) 0) at ∙
      ap (λ ks. slice_get (filter_map f ks) 0) (sym keys) ∙
      first-stands (is_late second) sessions line.places.keys all.rising (seen-late second sessions line all)
      (subst (IsStrictlySortedBy line_cmp) (sym keys)
      (sorted-cons k line'.places.keys (recursion_from_All (λ q. line_cmp k q ≡ Less) line'.places.keys above) sorted)) ∙
      late-least second sessions all.rising

  module _ (taken : (p : LinePlace) → contains line_cmp line'.places p ≡ cond (is_at (line_cmp k) p) false (contains line_cmp line.places p)) where
    -- where nobody stands at the first place, all others stand
    pub still-late : stander_at (is_late second) sessions k ≡ None → AllStand (StandsIfLate second line') sessions
    still-late gone = record {
      rising = all.rising;
      each = λ e i t.
          let p = place (wait_rank e.1) e.0 in
          subst (λ o. IfSome o (IsIn line'.places)) (sym (waiting-place e.0 e.1 (over_waits second e.1.wait t)))
          (stays_but line_cmp same_place k p line.places line'.places (taken p)
          (λ same. none_some e (sym gone ∙ ap (stander_at (is_late second) sessions) same ∙ seen-at second sessions all.rising e i t))
          (late-place second sessions line all e i t));
    }

    -- and so they do when the wait of the one who stood there has ended
    pub late-after : (x : ℕ) → x ≡ k.session → HasLate second line' (with_wait_ended x sessions)
    late-after x whose =
        altered-in x (with_wait None) (StandsIfLate second line') sessions
        (λ d i.
        elim (x == d.0) as (λ b. (x == d.0) ≡ b → StandsIfLate second line' (d.0, cond b (with_wait None d.1) d.1)) [
          | true ↦ λ _ t. cc
          | false ↦ λ apart t.
              let p = place (wait_rank d.1) d.0 in
              subst (λ o. IfSome o (IsIn line'.places)) (sym (waiting-place d.0 d.1 (over_waits second d.1.wait t)))
              (stays_but line_cmp same_place k p line.places line'.places (taken p)
              (λ same. true≢false (sym (eq-eqb x d.0 (whose ∙ ap (λ (q : LinePlace). q.session) same)) ∙ apart))
              (late-place second sessions line all d i t))
        ] refl)

-- in an empty line nobody stands, so nobody is told
pub nobody-next : (second : ℕ) (sessions : List (ℕ × SessionState)) (line : LateLine) → AllStand (StandsIfLate second line) sessions
    → line.places.keys ≡ [] → None ≡ first_waiting (is_late second) sessions
nobody-next second sessions line all none =
    nobody-stands (is_late second) sessions line.places.keys (seen-late second sessions line all)
    (ap (λ ks. slice_get (filter_map (stander_at (is_late second) sessions) ks) 0) none) ∙
    late-least second sessions all.rising

-- whose place it is
pub next-session : (second : ℕ) (sessions : List (ℕ × SessionState)) (k : LinePlace) (e : ℕ × SessionState)
    → Some e ≡ stander_at (is_late second) sessions k → e.0 ≡ k.session
next-session second sessions k e at = (standing-from (is_late second) sessions k e (sym at)).3

-- A line that is made

-- each session that is seen at a place is still to come, or stands in the line
abbrev pub AreAdded : ℕ → List (ℕ × SessionState) → List LinePlace → List LinePlace → LateLine → Type 0
AreAdded second sessions all rest line =
    (e : ℕ × SessionState) → In e (filter_map (over_at second sessions) all)
    → In e (filter_map (over_at second sessions) rest) ⊎ IfSome (rank_place e.0 e.1.wait) (IsIn line.places)

pub added-nobody : (second : ℕ) (sessions : List (ℕ × SessionState)) (all items rest : List LinePlace) (k : LinePlace) (line : LateLine)
    → items ≡ k ∷ rest → None ≡ over_at second sessions k → AreAdded second sessions all items line
    → AreAdded second sessions all rest line
added-nobody second sessions all items rest k line one none was =
    subst (λ es. (e : ℕ × SessionState) → In e (filter_map (over_at second sessions) all)
    → In e es ⊎ IfSome (rank_place e.0 e.1.wait) (IsIn line.places))
    (ap (filter_map (over_at second sessions)) one ∙ ap (λ o. cons_option o (filter_map (over_at second sessions) rest)) (sym none)) was

pub added-one : (second : ℕ) (sessions : List (ℕ × SessionState)) (all items rest : List LinePlace) (k : LinePlace)
    (d : ℕ × SessionState) (line line' : LateLine) → items ≡ k ∷ rest → Some d ≡ over_at second sessions k
    → HasAll line.places line'.places → IfSome (rank_place d.0 d.1.wait) (IsIn line'.places)
    → AreAdded second sessions all items line → AreAdded second sessions all rest line'
added-one second sessions all items rest k d line line' one some grown stands was =
    let split : (e : ℕ × SessionState) → In e (filter_map (over_at second sessions) all)
    → In e (d ∷ filter_map (over_at second sessions) rest) ⊎ IfSome (rank_place e.0 e.1.wait) (IsIn line.places) =
    subst (λ es. (e : ℕ × SessionState) → In e (filter_map (over_at second sessions) all)
    → In e es ⊎ IfSome (rank_place e.0 e.1.wait) (IsIn line.places))
    (ap (filter_map (over_at second sessions)) one ∙ ap (λ o. cons_option o (filter_map (over_at second sessions) rest)) (sym some)) was in
    λ e i.
    elim (split e i) as (λ v. In e (filter_map (over_at second sessions) rest) ⊎ IfSome (rank_place e.0 e.1.wait) (IsIn line'.places)) [
      | inl (inl same) ↦ inr (subst (λ (z : ℕ × SessionState). IfSome (rank_place z.0 z.1.wait) (IsIn line'.places)) (sym same) stands)
      | inl (inr later) ↦ inl later
      | inr there ↦ inr (some_in line.places line'.places (rank_place e.0 e.1.wait) grown there)
    ]

pub added-all : (second : ℕ) (sessions : List (ℕ × SessionState)) (time_outs : TimeOuts) (items : List LinePlace) (line : LateLine)
    → AllStand (StandsByTimeOut time_outs) sessions → items ≡ []
    → AreAdded second sessions (places_by second time_outs.line) items line → HasLate second line sessions
added-all second sessions time_outs items line all none was e i t =
    elim (was e (late-seen second sessions time_outs all e i t)) as (λ v. IfSome (rank_place e.0 e.1.wait) (IsIn line.places)) [
      | inl more ↦ absurd (subst (λ ks. In e (filter_map (over_at second sessions) ks)) none more)
      | inr there ↦ there
    ]

-- where a wait is over at a place, somebody is told
pub somebody-late : (second : ℕ) (sessions : List (ℕ × SessionState)) (k : LinePlace) (d : ℕ × SessionState)
    → Some d ≡ over_at second sessions k → IsSome (first_waiting (is_late second) sessions)
somebody-late second sessions k d some =
    let there = over-from second sessions k d (sym some) in
    elim (first_waiting (is_late second) sessions) as (λ o. IfNone o (NonePasses (λ e. is_waiting e.1 && is_late second e) sessions) → IsSome o) [
      | Some e ↦ λ _. refl
      | None ↦ λ none. absurd (none d there.0 (and_from (is_waiting d.1) (is_late second d) (over_waits second d.1.wait there.1) there.1))
    ] (least-none (λ e. is_waiting e.1 && is_late second e) wait_rank sessions)

-- a line of no length is empty
pub no-keys : (ks : List LinePlace) → (0 < length ks → false ≡ true) → ks ≡ []
no-keys [] h = refl
no-keys (k ∷ ks) h = absurd (true≢false (sym (h (omega arith))))
