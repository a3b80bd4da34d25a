use Rattle.std.proofs.Common.{◌∙◌, sym, ap}
use Rattle.session_store.specs.Lines.{time_out_place}
use Rattle.session_store.proofs.Places.{another}
use Rattle.session_store.proofs.Late.{late-left, time_out_place-of}
use Rattle.session_store.proofs.time_outs.TimeOuts.leave.Goals as goal

pub returns-then-ne : goal.returns-then-ne
returns-then-ne c =
    late-left c.args.number c.in-Some.place c.args.self.now (record { line = c.remove.new.self }) c.args.sessions.now.entries
    (time_out_place-of c.args.number c.args.wait c.in-Some.place (sym c.time_out_place.ensures ∙ c.in-Some.is))
    (λ same. another c.time_out_place-2.result c.in-Some.place (sym c.if-ne.true ∙ c.ne.ensures)
    (c.time_out_place-2.ensures ∙ ap (time_out_place c.args.number) c.wait_of-standing.ensures ∙ same))
    c.remove.ensures.updates.0
