use Rattle.pause_store.proofs.OneTube.{goes-on-or-over}
use Rattle.pause_store.proofs.laws.a_pause_goes_on_or_is_over.Goals as goal

pub returns : goal.returns
returns c = λ tube second s. goes-on-or-over tube second s.pauses
