use Rattle.std.proofs.Common.{refl, sym, subst, ◌∙◌}
use Rattle.command_log.specs.Reading.{EndsInHead}
use Rattle.command_log.proofs.Feeding.{reads_part}
use Rattle.command_log.proofs.reader.LogReader.begin_line.Goals.{in-Head+in_ok-begun-in-Head, in_default}
use Rattle.command_log.proofs.reader.LogReader.begin_line.Goals as goal

pub returns : goal.returns
returns c = λ commands.
    reads_part c.args.self (record { line = c.keep.new.line; begun = c.match-stage.begun; stage = c.args.self.stage }) commands c.args.part.now
    c.requires c.in_ok-keep.ensures refl
    (λ head. elim c.match-stage.branch [
      | in-Head+in_ok-begun-in-Head w ↦ (
        (λ is. subst EndsInHead w.deref.ensures.value (w.in_ok-begun-in-Head.ensures.0 (sym w.begun-is ∙ is))),
        (λ begins. w.begun-is ∙ w.in_ok-begun-in-Head.ensures.1 (subst EndsInHead (sym w.deref.ensures.value) begins)),
      )
      | in_default w ↦ absurd (w.in_default.not-Head head)
    ])
