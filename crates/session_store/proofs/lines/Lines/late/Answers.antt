use Rattle.session_store.proofs.Standing.{stand-so}
use Rattle.session_store.proofs.lines.Lines.late.Goals as goal

pub late-requires : goal.late-requires
late-requires c = stand-so c.requires (λ e h. h.0)
