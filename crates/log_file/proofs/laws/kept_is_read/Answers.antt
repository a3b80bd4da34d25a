use Rattle.log_file.proofs.CutLogs.{faulty_behind, no_fault, reads_all, reads_kept, reads_noted}
use Rattle.log_file.proofs.laws.kept_is_read.Goals as goal

pub returns-clause-kept : goal.returns-clause-kept
returns-clause-kept c = reads_kept

pub returns-clause-behind : goal.returns-clause-behind
returns-clause-behind c = faulty_behind

pub returns-clause-noted : goal.returns-clause-noted
returns-clause-noted c = reads_noted

pub returns-clause-no_fault : goal.returns-clause-no_fault
returns-clause-no_fault c = no_fault

pub returns-clause-all : goal.returns-clause-all
returns-clause-all c = reads_all
