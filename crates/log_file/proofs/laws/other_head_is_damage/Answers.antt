use Rattle.std.proofs.Common.{[]}
use Rattle.log_file.proofs.CutLogs.{other_is_stray, stray_told, stray_unread}
use Rattle.log_file.proofs.laws.other_head_is_damage.Goals as goal

pub returns-clause-unread : goal.returns-clause-unread
returns-clause-unread c = λ text read whole h. stray_unread text h.version h.members [] read whole (other_is_stray text h)

pub returns-clause-told : goal.returns-clause-told
returns-clause-told c = λ text fault h. stray_told text h.version h.members [] fault (other_is_stray text h)
