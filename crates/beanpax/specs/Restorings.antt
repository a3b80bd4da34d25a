-- A server that starts from a log with a hall that keeps all.
use Rattle.std.specs.Prelude.{◌≡◌, ℕ, false, List, [], ◌++◌, length, Option}
use Rattle.object.specs.declared.command.Command.{Command}
use Rattle.bean_words.specs.declared.op.Op.{Op}
use Rattle.hall.specs.Halls.{has_unplaced}
use Rattle.log_file.specs.Logs.{HoldsLog}
use Rattle.log_file.specs.declared.file.OpenedLog.{OpenedLog}
use Rattle.recorder.specs.Records.{commands_from}
use Rattle.recovery.specs.Clocks.{last_second_in}
use Rattle.recovery.specs.Opened.{EndsAll}
use Rattle.beanpax.specs.declared.restoring.Restored.{Restored}

-- In the hall of these members the commands of the log took effect, in their order, and then one Close for each session that they leave
-- open, and nothing else, nor does anything wait there; its clock stands where that of the log does; the journal counts so many; and all of
-- these are kept in the log, if it held what was read of it.
pub record IsRestored {W : Type 0} (contents : W → Option (List ℕ)) (members : List ℕ) (opened : OpenedLog W) (restored : Restored W) : Type 0 where
  pub closes : List (Command Op)
  pub ends : EndsAll opened.commands.items closes
  pub has_members : restored.kept.hall.nodes.network.members ≡ members
  pub placed : commands_from 0 restored.kept.hall.nodes.past ≡ opened.commands.items ++ closes
  pub settled : has_unplaced restored.kept.hall ≡ false
  pub second : restored.kept.hall.second ≡ last_second_in opened.commands.items
  pub kept : restored.journal.synced ≡ length (opened.commands.items ++ closes)
  pub waiting : restored.journal.waiting ≡ []
  pub log : (log_members : List ℕ)
      → HoldsLog (contents opened.log.writer) opened.log.batch opened.log.chain log_members opened.commands.items
      → HoldsLog (contents restored.journal.log.writer) [] restored.journal.log.chain log_members (opened.commands.items ++ closes)
