use Rattle.log_file.proofs.CutLogs.{stray_told, stray_unread}
use Rattle.log_file.proofs.laws.stray_is_damage.Goals as goal

pub returns-clause-unread : goal.returns-clause-unread
returns-clause-unread c = stray_unread

pub returns-clause-told : goal.returns-clause-told
returns-clause-told c = stray_told
