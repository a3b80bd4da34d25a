use Rattle.std.proofs.Common.{◌≡◌, take, false}
use Rattle.object.specs.Happenings.{is_submitted}
use Rattle.world.proofs.rescuing.last_command.Given as goal

abbrev pub invariant-loop-submission : goal.invariant-loop-submission
invariant-loop-submission g l = is_submitted l.key (take l.submission-index l.submitted) ≡ false
