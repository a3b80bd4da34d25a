-- What a log has led to.
use Rattle.std.specs.Prelude.{ℕ, List, Option}
use Rattle.object.specs.Objects.{Rules}
use Rattle.bean_words.specs.declared.op.Op.{Op}
use Rattle.bean_words.specs.declared.reply.Reply.{Reply}
use Rattle.bean_queue.specs.Queue.{QueueState}
use Rattle.log_file.specs.declared.file.OpenedLog.{OpenedLog}
use Rattle.std.specs.declared.fs.File.{File}
use Rattle.beanpax.specs.declared.opening.FromLog.{FromLog}
use Rattle.beanpax.specs.declared.opening.FromLog.TheVariants.{Forgetting, Keeping}
use Rattle.beanpax.specs.declared.restoring.Restored.{Restored}
use Rattle.beanpax.specs.declared.starting.Started.{Started}
use Rattle.beanpax.specs.Restorings.{IsRestored}
use Rattle.beanpax.specs.Starts.{IsStarted}

-- a hall of these members has started from this log, or was restored from it
abbrev pub HasLedFrom : Rules QueueState Op Reply → (File → Option (List ℕ)) → List ℕ → OpenedLog File → FromLog → Type 0
HasLedFrom rules contents members opened (Forgetting file started) = IsStarted rules contents members opened started
HasLedFrom rules contents members opened (Keeping file restored dump) = IsRestored contents members opened restored

-- so it is with some log
abbrev pub HasLed : Rules QueueState Op Reply → (File → Option (List ℕ)) → List ℕ → FromLog → Type 0
HasLed rules contents members from = (opened : OpenedLog File) × HasLedFrom rules contents members opened from

-- a hall of these members has started from some log, or was restored from one
abbrev pub HasStarted : Rules QueueState Op Reply → (File → Option (List ℕ)) → List ℕ → Started File → Type 0
HasStarted rules contents members started = (opened : OpenedLog File) × IsStarted rules contents members opened started

abbrev pub HasRestored : (File → Option (List ℕ)) → List ℕ → Restored File → Type 0
HasRestored contents members restored = (opened : OpenedLog File) × IsRestored contents members opened restored
