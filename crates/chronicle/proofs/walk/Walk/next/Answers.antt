use Rattle.std.proofs.Common.{◌≡◌, ◌+◌, ◌≤◌, ℕ, length, get_or, Some, sym, ap, subst, ◌∙◌, arith, rules}
use Rattle.chronicle.specs.Checking.{ordered_commands}
use Rattle.std.specs.BTreeMap.{get}
use Rattle.object.specs.Keys.{key_cmp}
use Rattle.chronicle.specs.Walks.{IsMisplaced, HasWalked}
use Rattle.chronicle.proofs.verdicts.Answered.{given_within}
use Rattle.chronicle.proofs.verdicts.Walked.{submission_passed, submission_fault, answer_passed, answer_fault, answer_left, given_at, order_distinct}
use Rattle.chronicle.proofs.walk.Walk.next.Goals as goal

pub bounds-answers-self : goal.bounds-answers-self
bounds-answers-self c =
    let left = answer_left c.args.chronicle.now c.args.self c.requires.walked c.due.ensures.kept (c.due.ensures.none (search rules)) c.requires.more in
    let same = ap length c.answers.ensures.answers in
    omega arith

pub returns-in_err-check_submission-in-Some-clause-err : goal.returns-in_err-check_submission-in-Some-clause-err
returns-in_err-check_submission-in-Some-clause-err c =
    let key = c.key.ensures.key in
    let wrong = submission_fault c.args.chronicle.now c.args.self c.requires.walked c.args.replayed.now
    c.requires.replayed c.in-Some.submission.now c.in-Some.ensures.some c.in-Some.ensures.now
    c.in_err-check_submission-in-Some.field-0.0 c.requires.order
    (subst (λ k. IsMisplaced c.args.replayed.now c.args.self.submitted k c.args.self.reach
    c.in_err-check_submission-in-Some.field-0.0) key c.in_err-check_submission-in-Some.ensures.err) in
    search rules

pub returns-in_ok-check_submission-in-Some-clause-ok : goal.returns-in_ok-check_submission-in-Some-clause-ok
returns-in_ok-check_submission-in-Some-clause-ok c =
    let key = c.key.ensures.key in
    submission_passed c.args.chronicle.now c.args.self c.requires.walked c.args.replayed.now c.requires.replayed
    c.in-Some.submission.now c.in-Some.ensures.some c.in-Some.ensures.now
    (subst (λ k. get key_cmp c.args.replayed.now.firsts k ≡ Some c.args.self.submitted) key c.in_ok-check_submission-in-Some.ensures.first)
    (subst (λ k. (n : ℕ) → get key_cmp c.args.replayed.now.places k ≡ Some n → c.args.self.reach ≤ n) key c.in_ok-check_submission-in-Some.ensures.later)

pub overflow_add-place : goal.overflow_add-place
overflow_add-place c =
    let given = given_at c.args.chronicle.now c.args.replayed.now c.requires.replayed
    (c.one_answer.ensures (ordered_commands c.args.chronicle.now)
    (order_distinct c.args.chronicle.now c.requires.order)) c.index-answers-self.result c.in_ok-place-in-None.place
    c.in_ok-place-in-None.ensures.ok in
    let inside = given_within c.args.chronicle.now c.in_ok-place-in-None.place _ given in
    search rules

pub returns-in_err-place-in-None-clause-err : goal.returns-in_err-place-in-None-clause-err
returns-in_err-place-in-None-clause-err c =
    let h = c.args.chronicle.now in
    let w = c.args.self in
    let left = answer_left h w c.requires.walked c.due.ensures.kept (c.due.ensures.none (search rules)) c.requires.more in
    let a = c.index-answers-self.result in
    let at : a ≡ get_or h.answers w.answered a = c.index-answers-self.is ∙ ap (λ xs. get_or xs w.answered a) c.answers.ensures.answers in
    let wrong = answer_fault h w c.requires.walked c.args.replayed.now c.requires.replayed
    (c.one_answer.ensures (ordered_commands h) (order_distinct h c.requires.order)) a left at
    (c.due.ensures.none (search rules))
    c.in_err-place-in-None.field-0.0 c.requires.order c.in_err-place-in-None.ensures.err in
    search rules

pub returns-in_ok-place-in-None-clause-ok : goal.returns-in_ok-place-in-None-clause-ok
returns-in_ok-place-in-None-clause-ok c =
    let h = c.args.chronicle.now in
    let w = c.args.self in
    let left = answer_left h w c.requires.walked c.due.ensures.kept (c.due.ensures.none (search rules)) c.requires.more in
    let a = c.index-answers-self.result in
    let at : a ≡ get_or h.answers w.answered a = c.index-answers-self.is ∙ ap (λ xs. get_or xs w.answered a) c.answers.ensures.answers in
    let passed = answer_passed h w c.requires.walked c.args.replayed.now c.requires.replayed
    (c.one_answer.ensures (ordered_commands h) (order_distinct h c.requires.order)) a left at
    (c.due.ensures.none (search rules))
    c.in_ok-place-in-None.place c.in_ok-place-in-None.ensures.ok in
    subst (λ n. HasWalked h (record w { answered = w.answered + 1; reach = n })) (sym c.max.ensures) passed
