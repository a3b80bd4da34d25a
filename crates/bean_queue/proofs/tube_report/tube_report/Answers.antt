use Rattle.std.proofs.Common.{◌++◌, codes, ap₂, ◌∙◌}
use Rattle.std.proofs.lemmas.Result.{IfOk-weaker}
use Rattle.bean_queue.specs.Reports.{report_line, tube_report}
use Rattle.bean_queue.proofs.Written.{onward}
use Rattle.bean_queue.proofs.tube_report.tube_report.Goals as goal

pub returns : goal.returns
unfolding tube_report
returns c =
    IfOk-weaker c.text.result _ _
    (λ text e. e ∙ onward _ c.number-7.new.self c.number-8.new.self _
    (onward _ c.number-6.new.self c.number-7.new.self _
    (onward _ c.number-5.new.self c.number-6.new.self _
    (onward _ c.number-4.new.self c.number-5.new.self _
    (onward _ c.number-3.new.self c.number-4.new.self _
    (onward _ c.number-2.new.self c.number-3.new.self _
    (onward _ c.number.new.self c.number-2.new.self _
    (onward _ c.tally.new.self c.number.new.self _
    (onward _ c.line.new.self c.tally.new.self _
    (c.in_ok-line.ensures ∙ ap₂ (λ a b. a ++ report_line (codes "name") b) c.in_ok-report.ensures c.as_slice.ensures.bytes)
    c.in_ok-tally.ensures) c.in_ok-number.ensures) c.in_ok-number-2.ensures) c.in_ok-number-3.ensures) c.in_ok-number-4.ensures)
    c.in_ok-number-5.ensures) c.in_ok-number-6.ensures) c.in_ok-number-7.ensures) c.in_ok-number-8.ensures)
    c.text.ensures
