use Rattle.session_store.proofs.Standing.{stand-so}
use Rattle.session_store.proofs.lines.Lines.leave.Goals as goal

pub returns : goal.returns
returns c all =
    let time_outs = c.leave.ensures (stand-so all (λ e h. h.0)) in
    let tubes = c.leave-2.ensures (stand-so all (λ e h. h.1)) in
    record { rising = all.rising; each = λ e i. (time_outs.each e i, tubes.each e i, (all.each e i).2) }
