-- A tube is paused.
use Rattle.std.proofs.Common.{◌≡◌, ℕ, ◌+◌, true, false, cond, List, Result, Ok, Err, OnOk, OnErr, ◌==◌, refl, ap, ◌∙◌, arith, eqb-true, le-ltb, lt-ltb}
use Rattle.std.proofs.lemmas.Bool.{eqb-false}
use Rattle.std.specs.List.Sorted.{IsStrictlySortedBy}
use Rattle.std.specs.Map.{keys_of}
use Rattle.std.specs.BTreeMap.{insert_entry}
use Rattle.object.specs.Lists.{In}
use Rattle.bean_words.specs.Names.{name_cmp}
use Rattle.pause_store.specs.declared.pause.Pause.{Pause}
use Rattle.pause_store.specs.Pauses.{HasEnds, PauseState, left_at, unpaused, paused_until, paused_for, pauses_at}
use Rattle.pause_store.proofs.Seconds.{left-insert, left-over}
use Rattle.pause_store.proofs.Ends.{ends-insert, ends-grown}

left-paused : (second seconds : ℕ) (tube : List ℕ) (es : List (List ℕ × ℕ)) → IsStrictlySortedBy name_cmp (keys_of es)
    → left_at second (insert_entry name_cmp es tube (second + seconds))
    ≡ cond (seconds == 0) (unpaused tube (left_at second es)) (paused_until tube (second + seconds) (left_at second es))
left-paused second seconds tube es sorted =
    elim (seconds == 0) as (λ b. (seconds == 0) ≡ b
    → left_at second (insert_entry name_cmp es tube (second + seconds))
    ≡ cond b (unpaused tube (left_at second es)) (paused_until tube (second + seconds) (left_at second es))) [
      | true ↦ λ t. let none = eqb-true seconds 0 t in left-over second tube (second + seconds) es sorted
          (le-ltb second (second + seconds) (omega (arith, none)))
      | false ↦ λ t. let some = eqb-false seconds 0 t in left-insert second tube (second + seconds) es sorted
          (lt-ltb second (second + seconds) (omega (arith, some)))
    ] refl

pub paused-then : {X E : Type 0} (r : Result X E) (second seconds added : ℕ) (tube : List ℕ) (es fs : List (List ℕ × ℕ))
    (s : PauseState) → IsStrictlySortedBy name_cmp (keys_of es) → pauses_at second es ≡ s → added ≡ seconds
    → OnOk r (fs ≡ insert_entry name_cmp es tube (second + added))
    → OnOk r (pauses_at second fs ≡ paused_for tube seconds s)
paused-then (Ok x) second seconds added tube es fs s sorted was same is =
    ap (pauses_at second) (is ∙ ap (λ n. insert_entry name_cmp es tube (second + n)) same) ∙ ap
    (λ zs. record { second = second; pauses = zs }) (left-paused second seconds tube es sorted) ∙ ap
    (paused_for tube seconds) was
paused-then (Err e) second seconds added tube es fs s sorted was same is = tt

-- its end is there, if it was set
pub ends-set : {X E : Type 0} (r : Result X E) (second : ℕ) (ends more : List Pause) (tube : List ℕ) (v : ℕ)
    (es fs : List (List ℕ × ℕ)) → OnOk r (fs ≡ insert_entry name_cmp es tube v) → OnErr r (fs ≡ es)
    → ((p : Pause) → In p ends → In p more) → In (record { until = v; tube = tube }) more → HasEnds second ends es
    → HasEnds second more fs
ends-set (Ok x) second ends more tube v es fs ok err grown there has =
    ends-insert second more tube v es fs ok there (ends-grown second ends more es es refl grown has)
ends-set (Err e) second ends more tube v es fs ok err grown there has = ends-grown second ends more es fs err grown has
