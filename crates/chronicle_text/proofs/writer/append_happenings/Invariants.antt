use Rattle.std.proofs.Common.{◌≡◌, ◌≤◌, ℕ, List, ◌++◌, length, take, drop}
use Rattle.std.specs.List.{AllByRecursion, flat_map}
use Rattle.object.specs.declared.command.Submission.{Submission}
use Rattle.chronicle_text.specs.Dump.{happening_line}
use Rattle.chronicle_text.specs.Happenings.{happenings, happenings_from}
use Rattle.chronicle_text.specs.Values.{IsAnswerValue, IsCommandValue}
use Rattle.recorder.proofs.Between.{ComeBetween}
use Rattle.chronicle_text.proofs.writer.append_happenings.Given as goal

-- what is written and the lines of what is left are all lines
abbrev pub invariant-loop-submission : goal.invariant-loop-submission
invariant-loop-submission l = record {
  told : l.out.items ++ flat_map happening_line
      (happenings_from l.given (drop l.submission-index l.submitted) (drop l.given l.answers))
      ≡ l.fn.out.items ++ flat_map happening_line (happenings l.submitted l.answers);
  grown : (text : List ℕ) × (l.out.items ≡ l.fn.out.items ++ text);
  between : ComeBetween l.given (length l.answers) (drop l.submission-index l.submitted);
  within : l.given ≤ length l.answers;
  submitted : AllByRecursion (λ (s : Submission _). IsCommandValue s.command) (take l.submission-index l.submitted);
  answered : AllByRecursion IsAnswerValue (take l.given l.answers);
}
