use Rattle.std.proofs.Common.{◌≡◌, ℕ, ◌+◌, ◌==◌, List, ◌++◌, length, take, Some, None, sym, ap, ap₂, subst, ◌∙◌, arith, add-one}
use Rattle.std.proofs.lemmas.Bool.{eqb-true, false≢true}
use Rattle.std.proofs.lemmas.List.{take-append-drop}
use Rattle.chronicle_text.specs.declared.draft.ChronicleDraft.{ChronicleDraft}
use Rattle.chronicle_text.specs.Entries.{Says}
use Rattle.chronicle_text.proofs.stops.ReadOn.{Reads, none_unread, none_next, none_ended, read_on, few_lines, stop_here, read_all, some_rest, whole_is, no_rest}
use Rattle.chronicle_text.proofs.reader.read_text.Goals.{in_default-draft-via-in-Whole+else-is_empty, in_default-draft-via-in_default-draft}
use Rattle.chronicle_text.proofs.reader.read_text.Goals as goal

pub returns-in_default-2-clause-err : goal.returns-in_default-2-clause-err
returns-in_default-2-clause-err c =
    let rest = c.loop-end.rest.now in
    let line = c.split_at.result.0.now in
    let front = c.split_at.ensures.front ∙ ap (λ (k : ℕ). take k rest) (add-one c.in-Some.end) in
    let nothing : Says line None = subst (Says line) c.in_default-2.is c.in_ok-entry.ensures in
    stop_here c.loop-end.draft c.args.text.now rest c.loop-end.number c.loop-end.invariant
    (none_unread c.loop-end.draft rest line c.in-Some.end c.in-Some.ensures front nothing)
    (λ none w. some_rest rest c.in-Some.end c.in-Some.ensures none)

pub returns-in_default-3-clause-err : goal.returns-in_default-3-clause-err
returns-in_default-3-clause-err c =
    let rest = c.loop-end.rest.now in
    let line = c.split_at.result.0.now in
    let front = c.split_at.ensures.front ∙ ap (λ (k : ℕ). take k rest) (add-one c.in-Some.end) in
    let says : Says line (Some c.in-Some-2.entry) = subst (Says line) c.in-Some-2.is c.in_ok-entry.ensures in
    stop_here c.loop-end.draft c.args.text.now rest c.loop-end.number c.loop-end.invariant
    (none_next c.loop-end.draft rest line c.in-Some.end c.in-Some-2.entry c.in-Some.ensures front says (sym c.in_ok-next.ensures ∙ c.in_default-3.is))
    (λ none w. some_rest rest c.in-Some.end c.in-Some.ensures none)

pub overflow_add-number : goal.overflow_add-number
overflow_add-number c =
    let few = few_lines c.loop-end.draft c.args.text.now c.loop-end.rest.now c.loop-end.number c.loop-end.invariant in
    omega (arith, few)

pub loop-end-preserved : goal.loop-end-preserved
loop-end-preserved c =
    let rest = c.loop-end.rest.now in
    let line = c.split_at.result.0.now in
    let says : Says line (Some c.in-Some-2.entry) = subst (Says line) c.in-Some-2.is c.in_ok-entry.ensures in
    let cut : rest ≡ line ++ c.split_at.result.1.now =
    sym (take-append-drop (c.in-Some.end + 1) rest) ∙ ap₂ (λ (a b : List ℕ). a ++ b) (sym c.split_at.ensures.front)
    (sym c.split_at.ensures.back) in
    read_on c.loop-end.draft c.in-Some-3.next c.in-Some-2.entry c.args.text.now rest line c.split_at.result.1.now
    c.loop-end.number c.loop-end.invariant says cut (sym c.in-Some-3.is ∙ c.in_ok-next.ensures)

pub returns-in-Whole-clause-ok : goal.returns-in-Whole-clause-ok
returns-in-Whole-clause-ok c =
    let rest = c.loop-end.rest.now in
    let here = subst (λ (d : ChronicleDraft). Reads d c.args.text.now rest c.loop-end.number) c.in-Whole.is c.loop-end.invariant in
    read_all c.in-Whole.chronicle c.args.text.now rest c.loop-end.number here (no_rest rest (eqb-true (length rest) 0 (sym c.if-is_empty.ensures)))

pub returns-in_default-draft-clause-err : goal.returns-in_default-draft-clause-err
returns-in_default-draft-clause-err c =
    let rest = c.loop-end.rest.now in
    let draft = c.loop-end.draft in
    stop_here draft c.args.text.now rest c.loop-end.number c.loop-end.invariant (none_ended draft rest c.in_default.ensures)
    (λ none whole. elim c.in_default-draft.branch [
      | in_default-draft-via-in-Whole+else-is_empty w ↦ false≢true (w.if-is_empty.ensures ∙ ap (λ (r : List ℕ). length r == 0) none)
      | in_default-draft-via-in_default-draft w ↦ whole_is draft whole w.in_default-draft.not-Whole
    ])
