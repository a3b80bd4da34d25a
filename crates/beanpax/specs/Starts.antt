-- A server that starts from a log.
use Rattle.std.specs.Prelude.{◌≡◌, ℕ, List, [], ◌++◌, length, Option}
use Rattle.object.specs.Objects.{Rules}
use Rattle.object.specs.declared.command.Command.{Command}
use Rattle.bean_words.specs.declared.op.Op.{Op}
use Rattle.bean_words.specs.declared.reply.Reply.{Reply}
use Rattle.bean_queue.specs.Queue.{QueueState}
use Rattle.forgetting_hall.specs.Handing.{second_of}
use Rattle.forgetting_hall.specs.Telling.{HasTold}
use Rattle.log_file.specs.Logs.{HoldsLog}
use Rattle.log_file.specs.declared.file.OpenedLog.{OpenedLog}
use Rattle.recovery.specs.Clocks.{last_second_in}
use Rattle.recovery.specs.Opened.{EndsAll}
use Rattle.beanpax.specs.declared.starting.Started.{Started}

-- In the hall of these members the commands of the log took effect, in their order, and then one Close for each session that they leave
-- open, and nothing else, nor does anything wait to take effect; so many of them the hall and the journal count; its clock stands where
-- that of the log does; and all of these are kept in the log, if it held what was read of it.
pub record IsStarted {W : Type 0} (rules : Rules QueueState Op Reply) (contents : W → Option (List ℕ)) (members : List ℕ)
    (opened : OpenedLog W) (started : Started W) : Type 0 where
  pub closes : List (Command Op)
  pub ends : EndsAll opened.commands.items closes
  pub told : HasTold rules members started.hall (opened.commands.items ++ closes)
  pub gathered : started.hall.gathering.commands ≡ []
  pub placed : started.hall.summary.placed ≡ length (opened.commands.items ++ closes)
  pub settled : started.hall.summary.submitted ≡ started.hall.summary.placed
  pub second : second_of started.hall ≡ last_second_in opened.commands.items
  pub kept : started.journal.synced ≡ length (opened.commands.items ++ closes)
  pub waiting : started.journal.waiting ≡ []
  pub log : (log_members : List ℕ)
      → HoldsLog (contents opened.log.writer) opened.log.batch opened.log.chain log_members opened.commands.items
      → HoldsLog (contents started.journal.log.writer) [] started.journal.log.chain log_members (opened.commands.items ++ closes)
