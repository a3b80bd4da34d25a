use Rattle.session_store.proofs.Standing.{stand-so}
use Rattle.session_store.proofs.lines.Lines.add_tubes.Goals as goal

pub add_tubes-requires : goal.add_tubes-requires
add_tubes-requires c = stand-so c.requires (λ e h. h.2)
