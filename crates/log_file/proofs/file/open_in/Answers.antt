use Rattle.log_file.proofs.Opened.{held_of, opened_of, unread_of}
use Rattle.log_file.proofs.file.open_in.Goals as goal

pub returns-clause-opens : goal.returns-clause-opens
returns-clause-opens g c = opened_of _ _ _ c.open_read.result c.read_log-read.ensures c.open_read.ensures.opens c.open_read.ensures.cut

pub returns-clause-holds : goal.returns-clause-holds
returns-clause-holds g c = held_of _ _ _ c.open_read.result c.read_log-read.ensures c.open_read.ensures.holds

pub returns-clause-fault : goal.returns-clause-fault
returns-clause-fault g c = unread_of _ _ c.open_read.result c.read_log-read.ensures c.open_read.ensures.fault
