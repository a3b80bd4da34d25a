use Rattle.inspection.proofs.OneVerdict.{one_dump_verdict, one_log_verdict, one_of_both}
use Rattle.inspection.proofs.laws.one_verdict.Goals as goal

pub returns : goal.returns
returns c = λ text v w.
    one_of_both text v w (one_log_verdict c.kept_is_read.ensures.kept c.kept_is_read.ensures.behind text v w)
    (one_dump_verdict c.one_dump.ensures c.one_fault.ensures.one c.one_fault.ensures.none c.one_bad_line.ensures text v w)
