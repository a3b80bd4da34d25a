use Rattle.session_store.specs.Lines.{places_by}
use Rattle.session_store.proofs.LateTurns.{AreAdded}
use Rattle.session_store.proofs.time_outs.TimeOuts.late.Given as goal

abbrev pub invariant-loop-place : goal.invariant-loop-place
invariant-loop-place l = AreAdded l.second l.sessions.entries (places_by l.second l.self.line) l.place-iterator l.late
