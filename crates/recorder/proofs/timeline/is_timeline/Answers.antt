use Rattle.std.proofs.Common.{◌+◌, drop, length, refl, subst, sym, arith}
use Rattle.std.proofs.lemmas.Bool.{false≢true}
use Rattle.std.proofs.lemmas.List.{drop_all}
use Rattle.recorder.proofs.Between.{ComeBetween, between_timeline, timeline_between, between_none, between_rest, between_first, from_item, to_item, least, most}
use Rattle.recorder.proofs.timeline.is_timeline.Goals.{then-submission-before-via-then-submission-before}
use Rattle.recorder.proofs.timeline.is_timeline.Goals.{then-submission-before-via-else-submission-before+then-submission-given}
use Rattle.recorder.proofs.timeline.is_timeline.Goals as goal

pub loop-submission-init : goal.loop-submission-init
loop-submission-init g c = record {
  forth = timeline_between (record { submitted = c.args.submitted.now; answers = c.args.answers.now });
  back = between_timeline (record { submitted = c.args.submitted.now; answers = c.args.answers.now });
}

pub returns-then-submission-before : goal.returns-then-submission-before
returns-then-submission-before g c =
    let s = c.submission-item.result in
    let rest = drop (c.loop-submission.submission-index + 1) c.args.submitted.now in (
      λ h. absurd (false≢true h),
      λ h.
          let b = from_item c.loop-submission.before
          (length c.args.answers.now) c.args.submitted.now c.loop-submission.submission-index s
          c.loop-submission-test.true c.submission-item.is (c.loop-submission.invariant.back h) in
          let low = least c.loop-submission.before (length c.args.answers.now) s rest b in
          let high = most c.loop-submission.before (length c.args.answers.now) s rest b in
          elim c.then-submission-before.branch [
            | then-submission-before-via-then-submission-before w ↦ let w_is = w.if-submission-before.true in absurd (omega arith)
            | then-submission-before-via-else-submission-before+then-submission-given w ↦ let w_is = w.if-submission-given.true in absurd (omega arith)
          ],
    )

pub loop-submission-preserved : goal.loop-submission-preserved
loop-submission-preserved g c =
    let s = c.submission-item.result in
    let rest = drop (c.loop-submission.submission-index + 1) c.args.submitted.now in
    record {
      forth = λ b. c.loop-submission.invariant.forth
          (to_item c.loop-submission.before
          (length c.args.answers.now) c.args.submitted.now c.loop-submission.submission-index s
          c.loop-submission-test.true c.submission-item.is
          (between_first c.loop-submission.before (length c.args.answers.now) s rest (omega arith) (omega arith) b));
      back = λ t. between_rest c.loop-submission.before (length c.args.answers.now) s rest
          (from_item c.loop-submission.before
          (length c.args.answers.now) c.args.submitted.now c.loop-submission.submission-index s
          c.loop-submission-test.true c.submission-item.is (c.loop-submission.invariant.back t));
    }

pub returns : goal.returns
returns g c = (
  λ h. c.loop-submission.invariant.forth
      (subst (ComeBetween c.loop-submission.before (length c.args.answers.now))
      (sym (drop_all c.loop-submission.submission-index c.args.submitted.now (omega arith)))
      (between_none c.loop-submission.before (length c.args.answers.now))),
  λ h. refl,
)
