use Rattle.session_store.proofs.Standing.{stand-so}
use Rattle.session_store.proofs.lines.Lines.has_named.Goals as goal

pub has_named-requires : goal.has_named-requires
has_named-requires c = stand-so c.requires (λ e h. h.2)
