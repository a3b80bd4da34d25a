use Rattle.std.proofs.Common.{◌∙◌, sym}
use Rattle.session_store.proofs.Enrolled.{struck}
use Rattle.session_store.proofs.rolls.Rolls.strike.Goals as goal

pub returns-then-not-names_tube : goal.returns-then-not-names_tube
returns-then-not-names_tube c =
    struck c.args.tube.now c.args.number c.args.self.now c.take_out.new.self c.args.sessions.now.entries
    (sym c.names_tube.ensures ∙ c.if-not-names_tube.true) c.take_out.ensures
