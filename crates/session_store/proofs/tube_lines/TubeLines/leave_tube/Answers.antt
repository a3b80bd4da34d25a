use Rattle.std.proofs.Common.{◌∙◌, sym}
use Rattle.session_store.proofs.Served.{tube-left, none-seen}
use Rattle.session_store.proofs.tube_lines.TubeLines.leave_tube.Goals as goal

pub returns-then-is_none : goal.returns-then-is_none
returns-then-is_none c = tube-left c.args.tube.now c.in-Some.place c.args.self.now c.take_out.new.self
    c.args.sessions.now.entries
    (sym c.waiter_at.ensures ∙ none-seen _ c.waiter_at.result c.if-is_none.ensures) c.take_out.ensures
