use Rattle.std.proofs.Common.{◌≡◌, ◌-◌, ℕ, List, Option, length, drop}
use Rattle.journal.specs.Waiting.{JournalState, LosesNothing}
use Rattle.journal.proofs.journal.Journal.note_all.Given as goal

-- what was noted stands in the log, and the rest waits
pub record Noting (W : Type 0) (contents : W → Option (List ℕ)) (old new : JournalState W) : Type 0 where
  pub log : LosesNothing contents old new
  pub due : new.due ≡ old.due
  pub written : new.written ≡ old.written
  pub synced : new.synced ≡ old.synced

abbrev pub invariant-loop-self : goal.invariant-loop-self
invariant-loop-self g l = Noting g.row.W.Denot g.W.Write.contents l.fn.self (record {
  log = l.self-inside.log;
  waiting = drop l.self-inside.noted l.self-inside.waiting.items;
  due = l.self-inside.due;
  written = l.self-inside.written;
  synced = l.self-inside.synced;
})

abbrev pub decreases-loop-self : goal.decreases-loop-self
decreases-loop-self g l = length l.self-inside.waiting.items - l.self-inside.noted
