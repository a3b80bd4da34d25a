use Rattle.std.proofs.Common.{◌∙◌}
use Rattle.session_store.proofs.Enrolled.{named-by-roll, unnamed-by-rolls}
use Rattle.session_store.proofs.rolls.Rolls.has_named.Goals as goal

pub returns-in-Some : goal.returns-in-Some
returns-in-Some c = c.has_one.ensures ∙ named-by-roll c.args.tube.now c.args.sessions.now.entries c.args.self.now
    c.in-Some.roll.now c.in-Some.ensures.value c.requires

pub returns-in-None : goal.returns-in-None
returns-in-None c = unnamed-by-rolls c.args.tube.now c.args.sessions.now.entries c.args.self.now c.in-None.ensures.value c.requires
