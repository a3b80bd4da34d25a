use Rattle.session_store.proofs.Standing.{stand-so}
use Rattle.session_store.proofs.lines.Lines.leave_tube.Goals as goal

pub returns : goal.returns
returns c all =
    let tubes = c.leave_tube.ensures (stand-so all (λ e h. h.1)) in
    record { rising = all.rising; each = λ e i. ((all.each e i).0, tubes.each e i, (all.each e i).2) }
