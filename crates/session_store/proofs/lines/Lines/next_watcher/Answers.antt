use Rattle.session_store.proofs.Standing.{stand-so}
use Rattle.session_store.proofs.lines.Lines.next_watcher.Goals as goal

pub next-requires-clause-stand : goal.next-requires-clause-stand
next-requires-clause-stand c = stand-so c.requires.stand (λ e h. h.1)
