use Rattle.std.proofs.Common.{◌≡◌, true, reverse, length}
use Rattle.object.specs.Lists.{In}
use Rattle.object.specs.Happenings.{is_submitted}
use Rattle.object.specs.declared.command.Answer.{Answer}
use Rattle.recorder.specs.Records.{IsRecord, with_first_answers}
use Rattle.recorder.proofs.recorder.Recorder.answer_all.Given as goal

-- the answers that are left, from the last to the first, lead to the same record as all of them
abbrev pub invariant-loop-answer : goal.invariant-loop-answer
invariant-loop-answer g l = record {
  left : with_first_answers (reverse l.given.items) l.self ≡ with_first_answers (reverse l.initial.given.items) l.initial.self;
  recorded : IsRecord l.self;
  known : (a : Answer g.row.Reply.Denot) → In a l.given.items → is_submitted a.to l.self.happenings.submitted ≡ true;
}

abbrev pub decreases-loop-answer : goal.decreases-loop-answer
decreases-loop-answer g l = length l.given.items
