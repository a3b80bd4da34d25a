use Rattle.std.proofs.Common.{drop, length}
use Rattle.object.specs.Happenings.{IsTimeline}
use Rattle.recorder.proofs.Between.{ComeBetween}
use Rattle.recorder.proofs.timeline.is_timeline.Given as goal

-- the whole is one list in time exactly where the rest goes on from the submission before
abbrev pub invariant-loop-submission : goal.invariant-loop-submission
invariant-loop-submission g l = record {
  forth : ComeBetween l.before (length l.answers) (drop l.submission-index l.submitted) → IsTimeline (record { submitted = l.submitted; answers = l.answers });
  back : IsTimeline (record { submitted = l.submitted; answers = l.answers }) → ComeBetween l.before (length l.answers) (drop l.submission-index l.submitted);
}
