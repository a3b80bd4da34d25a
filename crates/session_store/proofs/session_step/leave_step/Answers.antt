use Rattle.session_store.proofs.session_step.leave_step.Goals as goal

pub returns-in-Waited : goal.returns-in-Waited
returns-in-Waited c = λ h. c.leave_lines-in-Waited.ensures (c.leave_lines.ensures h)
