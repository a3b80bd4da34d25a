use Rattle.std.proofs.Common.{refl, ◌∙◌}
use Rattle.recovery.proofs.Live.{none_in, none_left}
use Rattle.recovery.proofs.recovery.Recovery.begin.Goals as goal

pub returns-clause-obeyed : goal.returns-clause-obeyed
returns-clause-obeyed g c = record { told = c.in_ok-begun.ensures; live = λ q. none_in c.new.result c.new.ensures.len q ∙ none_left _ q; second = refl }
