use Rattle.session_store.proofs.Standing.{stand-so}
use Rattle.session_store.proofs.lines.Lines.strike.Goals as goal

pub returns : goal.returns
returns c all =
    let rolls = c.strike.ensures (stand-so all (λ e h. h.2)) in
    record { rising = all.rising; each = λ e i. ((all.each e i).0, (all.each e i).1, rolls.each e i) }
