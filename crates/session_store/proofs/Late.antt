-- Waits that are over.
use Rattle.std.proofs.Common.{◌≡◌, ℕ, ◌<◌, ◌≤◌, ◌^◌, Bool, true, false, cond, List, Option, Some, None, IfSome}
use Rattle.std.proofs.Common.{option_map, filter_map, is_some, nat_le, refl, sym, ap, subst, ◌∙◌, arith, leb-true}
use Rattle.std.proofs.Common.{unwrap_or}
use Rattle.std.specs.declared.ops.Bound.TheVariants.{Included, Unbounded}
use Rattle.std.specs.BTreeMap.{is_at}
use Rattle.std.specs.BTreeMap.Range.{range_contains}
use Rattle.std.specs.BTreeSet.{BTreeSet, contains}
use Rattle.std.proofs.lemmas.Bool.{cond-true}
use Rattle.std.proofs.lemmas.Bool.Decides.{nat_tests}
use Rattle.object.specs.Lists.{In}
use Rattle.job_store.specs.Entries.{value_at}
use Rattle.job_store.specs.EntryLaws.{value_at-In, value_at-found, value_at-below}
use Rattle.session_store.specs.declared.session.SessionState.{SessionState}
use Rattle.session_store.specs.declared.session.Wait.{Wait}
use Rattle.session_store.specs.declared.place.LinePlace.{LinePlace}
use Rattle.session_store.specs.declared.time_outs.TimeOuts.{TimeOuts}
use Rattle.session_store.specs.Sessions.{new_session, session_of, has_timed_out}
use Rattle.session_store.specs.Lines.{line_cmp, place, IsIn, time_out_place, places_by, StandsByTimeOut, AllStand, StillStand, over_at}
use Rattle.session_store.proofs.TubeSets.{stays_but}
use Rattle.session_store.proofs.Places.{same_place, in_keys, some_place}
use Rattle.session_store.proofs.Found.{mapped-in, filtered-in}

pub some_entry : (d e : ℕ × SessionState) → Some d ≡ Some e → d ≡ e
some_entry d e h = cc

-- a time-out is over by the second
abbrev has_ended : ℕ → Option ℕ → Bool
has_ended second None = false
has_ended second (Some s) = nat_le s second

up_to : (second s x : ℕ) → x < 2 ^ 32 → s ≤ second → range_contains line_cmp Unbounded (Included (place second 4294967295)) (place s x) ≡ true
up_to second s x below h = grind (arith, nat_tests)

pub over_waits : (second : ℕ) (wait : Option Wait) → has_timed_out second wait ≡ true → is_some wait ≡ true
over_waits second None e = e
over_waits second (Some w) e = refl

over-at : (second : ℕ) (sessions : List (ℕ × SessionState)) (p : LinePlace) (c : SessionState)
    → value_at p.session sessions ≡ Some c → has_timed_out second c.wait ≡ true
    → over_at second sessions p ≡ Some (p.session, c)
over-at second sessions p c there over =
    let seen : Option SessionState → Option (ℕ × SessionState) =
    λ o. elim o as (λ _. Option (ℕ × SessionState)) [
      | None ↦ None
      | Some s ↦ cond (has_timed_out second s.wait)
          (Some (p.session, s)) None
    ] in
    ap seen there ∙ cond-true (has_timed_out second c.wait) (Some (p.session, c)) None over

-- who is seen at a place is there, and its wait is over
pub over-from : (second : ℕ) (sessions : List (ℕ × SessionState)) (p : LinePlace) (e : ℕ × SessionState)
    → over_at second sessions p ≡ Some e → In e sessions × (has_timed_out second e.1.wait ≡ true)
over-from second sessions p e seen =
    elim (value_at p.session sessions) as (λ o. value_at p.session sessions ≡ o
    → (elim o as (λ o. Option (ℕ × SessionState)) [
      | None ↦ None
      | Some s ↦ cond (has_timed_out second s.wait)
          (Some (p.session, s)) None
    ]) ≡ Some e → In e sessions × (has_timed_out second e.1.wait ≡ true)) [
      | None ↦ λ v h. cc
      | Some c ↦ λ v.
          elim (has_timed_out second c.wait) as (λ b. has_timed_out second c.wait ≡ b
          → cond b (Some (p.session, c)) None ≡ Some e → In e sessions × (has_timed_out second e.1.wait ≡ true)) [
            | false ↦ λ t h. cc
            | true ↦ λ t h.
                let same : (p.session, c) ≡ e = some_entry (p.session, c) e h in
                let there = value_at-found p.session sessions c v in
                let it : there.0 ≡ (p.session, c) = λ i. (there.2 i, there.3 i) in
                (subst (λ d. In d sessions) (it ∙ same) there.1, subst (λ d. has_timed_out second d.1.wait ≡ true) same t)
          ] refl
    ] refl seen

over_by : (second x : ℕ) (time_out : Option ℕ) (line : BTreeSet LinePlace) → x < 2 ^ 32
    → IfSome (option_map (λ s. place s x) time_out) (IsIn line) → has_ended second time_out ≡ true → (p : LinePlace)
    × In p (places_by second line) × (p.session ≡ x)
over_by second x None line below h e = cc
over_by second x (Some s) line below h e = (
  place s x,
  filtered-in (range_contains line_cmp Unbounded (Included (place second 4294967295)))
      (place s x) line.keys (in_keys (place s x) line.keys h) (up_to second s x below (leb-true s second e)),
  refl,
)

-- the place of a wait that is over by the second stands among the places up to it
over_in : (second x : ℕ) (wait : Option Wait) (line : BTreeSet LinePlace) → x < 2 ^ 32
    → IfSome (time_out_place x wait) (IsIn line) → has_timed_out second wait ≡ true → (p : LinePlace)
    × In p (places_by second line) × (p.session ≡ x)
over_in second x None line below h e = cc
over_in second x (Some w) line below h e = over_by second x w.time_out line below h e

-- each session whose wait is over by the second is seen at its place
pub late-seen : (second : ℕ) (sessions : List (ℕ × SessionState)) (time_outs : TimeOuts)
    → AllStand (StandsByTimeOut time_outs) sessions → (e : ℕ × SessionState) → In e sessions
    → has_timed_out second e.1.wait ≡ true
    → In e (filter_map (over_at second sessions) (places_by second time_outs.line))
late-seen second sessions time_outs all e i over =
    let v : value_at e.0 sessions ≡ Some e.1 = value_at-In 0 (2 ^ 32) sessions e all.rising i in
    let p = over_in second e.0 e.1.wait time_outs.line (value_at-below 0 (2 ^ 32) e.0 sessions e.1 all.rising v) (all.each e i) over in
    let seen : over_at second sessions p.0 ≡ Some e =
    over-at second sessions p.0 e.1 (ap (λ x. value_at x sessions) p.2 ∙ v) over ∙ ap (λ x. Some (x, e.1)) p.2 in
    mapped-in (over_at second sessions) p.0 e _ p.1 seen

-- Places that are left

time_out_of : (x : ℕ) (time_out : Option ℕ) (p : LinePlace) → option_map (λ s. place s x) time_out ≡ Some p → p.session ≡ x
time_out_of x None p e = cc
time_out_of x (Some s) p e = ap (λ (q : LinePlace). q.session) (sym (some_place (place s x) p e))

-- whose place it is
pub time_out_place-of : (x : ℕ) (wait : Option Wait) (p : LinePlace) → time_out_place x wait ≡ Some p → p.session ≡ x
time_out_place-of x None p e = cc
time_out_place-of x (Some w) p e = time_out_of x w.time_out p e

-- a place at which nobody stands is taken out
pub late-left : (x : ℕ) (k : LinePlace) (time_outs time_outs' : TimeOuts) (sessions : List (ℕ × SessionState))
    → k.session ≡ x → (time_out_place x (session_of x sessions).wait ≡ Some k → ⊥)
    → ((p : LinePlace) → contains line_cmp time_outs'.line p
    ≡ cond (is_at (line_cmp k) p) false (contains line_cmp time_outs.line p))
    → StillStand (StandsByTimeOut time_outs) (StandsByTimeOut time_outs') sessions
late-left x k time_outs time_outs' sessions whose gone updates all = record {
  rising = all.rising;
  each = λ e i.
      elim (time_out_place e.0 e.1.wait) as (λ o. time_out_place e.0 e.1.wait ≡ o → IfSome o (IsIn time_outs.line) → IfSome o (IsIn time_outs'.line)) [
        | None ↦ λ _ _. tt
        | Some p ↦ λ at there.
            stays_but line_cmp same_place k p time_outs.line time_outs'.line (updates p)
            (λ same.
            let who : e.0 ≡ x = sym (time_out_place-of e.0 e.1.wait p at) ∙ ap (λ (q : LinePlace). q.session) (sym same) ∙ whose in
            let found : value_at x sessions ≡ Some e.1 =
            ap (λ q. value_at q sessions) (sym who) ∙ value_at-In 0 (2 ^ 32) sessions e all.rising i in
            gone (ap (λ o. time_out_place x (unwrap_or o new_session).wait) found ∙ ap (λ q. time_out_place q e.1.wait) (sym who) ∙ at ∙ ap Some (sym same)))
            there
      ] refl (all.each e i);
}
