use Rattle.std.proofs.Common.{◌+◌, ◌-◌, [], ◌++◌, length, take, drop, refl, sym, subst, ap, ◌∙◌, arith, rules, length-drop}
use Rattle.std.proofs.lemmas.List.{drop_all, take_all}
use Rattle.std.proofs.lemmas.Result.{on_ok_weaker}
use Rattle.std.specs.List.{AllByRecursion, flat_map}
use Rattle.object.specs.declared.command.Submission.{Submission}
use Rattle.chronicle_text.specs.Values.{IsAnswerValue, IsCommandValue}
use Rattle.chronicle_text.proofs.spelling.ValueLists.{all_joined, all_next, all_through}
use Rattle.chronicle_text.specs.Dump.{submission_line, answer_line, happening_line}
use Rattle.chronicle_text.specs.Happenings.{happenings_from}
use Rattle.recorder.proofs.Between.{between_timeline, between_rest, drop_item, from_item, least, most}
use Rattle.chronicle_text.proofs.texts.Texts.{front_kept, lines_from, lines_last, grow, regroup}
use Rattle.chronicle_text.proofs.writer.append_happenings.Goals as goal

pub loop-submission-init : goal.loop-submission-init
loop-submission-init c = record {
  told = refl;
  grown = ([], search rules);
  between = between_timeline (record { submitted = c.args.submitted.now; answers = c.args.answers.now }) c.requires;
  within = omega arith;
  submitted = tt;
  answered = tt;
}

pub slice_bounds-append_answers-count : goal.slice_bounds-append_answers-count
slice_bounds-append_answers-count c =
    let b = from_item c.loop-submission.given
    (length c.args.answers.now) c.args.submitted.now c.loop-submission.submission-index c.submission-item.result
    c.loop-submission-test.true c.submission-item.is c.loop-submission.invariant.between in
    least c.loop-submission.given (length c.args.answers.now) c.submission-item.result (drop (c.loop-submission.submission-index + 1) c.args.submitted.now) b

pub slice_bounds-append_answers-start : goal.slice_bounds-append_answers-start
slice_bounds-append_answers-start c =
    let b = from_item c.loop-submission.given
    (length c.args.answers.now) c.args.submitted.now c.loop-submission.submission-index c.submission-item.result
    c.loop-submission-test.true c.submission-item.is c.loop-submission.invariant.between in
    let low = least c.loop-submission.given (length c.args.answers.now) c.submission-item.result
    (drop (c.loop-submission.submission-index + 1) c.args.submitted.now) b in
    let high = most c.loop-submission.given (length c.args.answers.now) c.submission-item.result
    (drop (c.loop-submission.submission-index + 1) c.args.submitted.now) b in
    search rules

pub slice_bounds-append_answers-end : goal.slice_bounds-append_answers-end
slice_bounds-append_answers-end c =
    let b = from_item c.loop-submission.given
    (length c.args.answers.now) c.args.submitted.now c.loop-submission.submission-index c.submission-item.result
    c.loop-submission-test.true c.submission-item.is c.loop-submission.invariant.between in
    let low = least c.loop-submission.given (length c.args.answers.now) c.submission-item.result
    (drop (c.loop-submission.submission-index + 1) c.args.submitted.now) b in
    let high = most c.loop-submission.given (length c.args.answers.now) c.submission-item.result
    (drop (c.loop-submission.submission-index + 1) c.args.submitted.now) b in
    search rules

pub returns-in_err-append_answers-clause-ok : goal.returns-in_err-append_answers-clause-ok
returns-in_err-append_answers-clause-ok c = (
  search rules,
  front_kept c.args.out.now.items c.loop-submission.invariant.grown.0 c.loop-submission.out.items
      c.append_answers.new.out.items _ _ c.args.out.now.ok.0 c.loop-submission.out.ok.0
      c.loop-submission.invariant.grown.1 c.append_answers.ensures.ok.1,
)

pub returns-in_err-append_submission-clause-ok : goal.returns-in_err-append_submission-clause-ok
returns-in_err-append_submission-clause-ok c =
    let told = c.in_ok-append_answers.ensures.ok.0 in
    let grown = c.loop-submission.invariant.grown in (
      search rules,
      front_kept c.args.out.now.items _ c.append_answers.new.out.items c.append_submission.new.out.items _ _
          c.args.out.now.ok.0 c.append_answers.new.out.ok.0
          (grow c.args.out.now.items grown.0 c.loop-submission.out.items _ c.append_answers.new.out.items grown.1 told)
          c.append_submission.ensures.ok.1,
    )

pub loop-submission-preserved : goal.loop-submission-preserved
loop-submission-preserved c =
    let s = c.submission-item.result in
    let rest = drop (c.loop-submission.submission-index + 1) c.args.submitted.now in
    let given = c.loop-submission.given in
    let answers = c.args.answers.now in
    let b = from_item given (length answers) c.args.submitted.now c.loop-submission.submission-index s
    c.loop-submission-test.true c.submission-item.is c.loop-submission.invariant.between in
    let low = least given (length answers) s rest b in
    let high = most given (length answers) s rest b in
    let lines = lines_from given s rest answers b low high in
    let cut = drop_item c.args.submitted.now c.loop-submission.submission-index s c.loop-submission-test.true c.submission-item.is in
    let wrote = c.in_ok-append_submission.ensures.ok.0 in
    let told = c.in_ok-append_answers.ensures.ok.0 in
    let grown = c.loop-submission.invariant.grown in
    let said = flat_map answer_line (take (s.after - given) (drop given answers)) in
    let later = flat_map happening_line (happenings_from s.after rest (drop s.after answers)) in
    record {
      told = regroup c.loop-submission.out.items said
          (submission_line s.command) later c.append_answers.new.out.items c.append_submission.new.out.items told wrote
          ∙ ap (λ t. c.loop-submission.out.items ++ t) (sym lines ∙ sym (ap (λ d. flat_map happening_line (happenings_from given d (drop given answers))) cut))
          ∙ c.loop-submission.invariant.told;
      grown = (
        grown.0 ++ said ++ submission_line s.command,
        grow c.args.out.now.items (grown.0 ++ said) c.append_answers.new.out.items (submission_line s.command) c.append_submission.new.out.items
            (grow c.args.out.now.items grown.0 c.loop-submission.out.items said c.append_answers.new.out.items grown.1 told) wrote,
      );
      between = between_rest given (length answers) s rest b;
      within = high;
      submitted = all_next (λ (t : Submission _). IsCommandValue t.command) c.args.submitted.now
          c.loop-submission.submission-index s c.loop-submission-test.true c.submission-item.is
          c.loop-submission.invariant.submitted c.in_ok-append_submission.ensures.value;
      answered = subst (λ n. AllByRecursion IsAnswerValue (take n answers)) (omega (arith, low))
          (all_joined IsAnswerValue answers given
          (s.after - given) c.loop-submission.invariant.answered c.in_ok-append_answers.ensures.value);
    }

pub returns-clause-ok : goal.returns-clause-ok
returns-clause-ok c =
    let given = c.loop-submission.given in
    let answers = c.args.answers.now in
    let none = drop_all c.loop-submission.submission-index c.args.submitted.now c.loop-submission-test.false in
    let left = lines_last given (drop given answers) in
    let all = ap (λ t. c.loop-submission.out.items ++ t)
    (sym left ∙ sym (ap (λ d. flat_map happening_line (happenings_from given d (drop given answers))) none)) ∙
    c.loop-submission.invariant.told in
    let rest = take_all (length answers - given) (drop given answers) (omega (arith, length-drop given answers)) in (
      on_ok_weaker c.append_answers-2.result
          (λ wrote. wrote ∙ ap (λ a. c.loop-submission.out.items ++ flat_map answer_line a) rest ∙ all)
          c.append_answers-2.ensures.ok.0,
      front_kept c.args.out.now.items c.loop-submission.invariant.grown.0 c.loop-submission.out.items
          c.append_answers-2.new.out.items _ _ c.args.out.now.ok.0 c.loop-submission.out.ok.0
          c.loop-submission.invariant.grown.1 c.append_answers-2.ensures.ok.1,
    )

pub returns-clause-submitted : goal.returns-clause-submitted
returns-clause-submitted c =
    on_ok_weaker c.append_answers-2.result
    (λ value. all_through (λ (t : Submission _). IsCommandValue t.command) c.args.submitted.now
    c.loop-submission.submission-index c.loop-submission-test.false c.loop-submission.invariant.submitted)
    c.append_answers-2.ensures.value

pub returns-clause-answered : goal.returns-clause-answered
returns-clause-answered c =
    let given = c.loop-submission.given in
    let answers = c.args.answers.now in
    on_ok_weaker c.append_answers-2.result
    (λ value. all_through IsAnswerValue answers (given + (length answers - given)) (omega arith)
    (all_joined IsAnswerValue answers given (length answers - given) c.loop-submission.invariant.answered value))
    c.append_answers-2.ensures.value
