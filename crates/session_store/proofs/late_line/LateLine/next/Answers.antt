use Rattle.std.proofs.Common.{sym}
use Rattle.session_store.proofs.LateTurns.{next-found, next-session, still-late, late-after, nobody-next, no-keys}
use Rattle.session_store.proofs.late_line.LateLine.next.Goals as goal

pub returns-in-Some-late_at-clause-first : goal.returns-in-Some-late_at-clause-first
returns-in-Some-late_at-clause-first c =
    next-found c.args.second c.args.sessions.now.entries c.loop-place.self (record { places = c.pop_first.new.self }) c.in-Some.place
    c.loop-place.invariant (c.in-Some-late_at.found.0, c.in-Some-late_at.found.1.now) c.in-Some.ensures.removal
    c.in-Some.ensures.all_above c.in-Some.ensures.ordered c.in-Some-late_at.ensures

pub returns-in-Some-late_at-clause-left : goal.returns-in-Some-late_at-clause-left
returns-in-Some-late_at-clause-left c =
    late-after c.args.second c.args.sessions.now.entries c.loop-place.self (record { places = c.pop_first.new.self }) c.in-Some.place
    c.loop-place.invariant c.in-Some.ensures.updates.0 c.in-Some-late_at.found.0
    (next-session c.args.second c.args.sessions.now.entries c.in-Some.place
    (c.in-Some-late_at.found.0, c.in-Some-late_at.found.1.now) c.in-Some-late_at.ensures)

pub loop-place-preserved : goal.loop-place-preserved
loop-place-preserved c =
    still-late c.args.second c.args.sessions.now.entries c.loop-place.self (record { places = c.pop_first.new.self }) c.in-Some.place
    c.loop-place.invariant c.in-Some.ensures.updates.0 (sym c.in_default-late_at.ensures)

pub returns-clause-first : goal.returns-clause-first
returns-clause-first c =
    nobody-next c.args.second c.args.sessions.now.entries c.loop-place.self c.loop-place.invariant
    (no-keys c.loop-place.self.places.keys c.in_default.ensures.variant.1)
