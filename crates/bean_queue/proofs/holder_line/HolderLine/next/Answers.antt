use Rattle.bean_queue.proofs.due.Lines.{first-told, nobody-told, still-all, left-all, no-places}
use Rattle.bean_queue.proofs.holder_line.HolderLine.next.Goals as goal

pub returns-in-Some-holder_at-clause-first : goal.returns-in-Some-holder_at-clause-first
returns-in-Some-holder_at-clause-first g c =
    first-told c.args.second (g.M.JobMap.entries c.args.jobs.now) c.args.sessions.now.entries c.requires.rising c.places.self c.places.invariant
    c.in-Some.place (c.in-Some-holder_at.found.0, c.in-Some-holder_at.found.1.now) c.in-Some.ensures.least c.in-Some-holder_at.ensures

pub returns-in-Some-holder_at-clause-left : goal.returns-in-Some-holder_at-clause-left
returns-in-Some-holder_at-clause-left g c =
    left-all c.args.second (g.M.JobMap.entries c.args.jobs.now) c.args.sessions.now.entries c.requires.rising c.places.self c.places.invariant
    (record { places = c.pop_first.new.self }) c.in-Some.place c.in-Some.ensures.updates.0
    (c.in-Some-holder_at.found.0, c.in-Some-holder_at.found.1.now) c.in-Some-holder_at.ensures

pub places-preserved : goal.places-preserved
places-preserved g c =
    still-all c.args.second (g.M.JobMap.entries c.args.jobs.now) c.args.sessions.now.entries c.requires.rising c.places.self c.places.invariant
    (record { places = c.pop_first.new.self }) c.in-Some.place c.in-Some.ensures.updates.0 c.in_default-holder_at.ensures

pub returns-clause-first : goal.returns-clause-first
returns-clause-first g c =
    nobody-told c.args.second (g.M.JobMap.entries c.args.jobs.now) c.args.sessions.now.entries c.requires.rising c.places.self c.places.invariant
    (no-places c.places.self.places.keys c.in_default.ensures.variant.1)
