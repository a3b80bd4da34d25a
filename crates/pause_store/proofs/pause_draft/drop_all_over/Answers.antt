use Rattle.pause_store.proofs.Ends.{ends-less, drops-none, drops-twice}
use Rattle.pause_store.proofs.pause_draft.drop_all_over.Goals as goal

pub over-init : goal.over-init
over-init c = record {
  dropped = drops-none c.args.second c.args.seconds.now.now;
  kept = c.requires.kept;
  ends = c.requires.ends;
}

pub over-preserved-in-Some : goal.over-preserved-in-Some
over-preserved-in-Some c = record {
  dropped = drops-twice c.over.invariant.dropped c.drop_over.ensures.dropped;
  kept = c.drop_over.ensures.kept;
  ends = ends-less c.args.second c.in-Some.end c.over.ends.keys c.pop_over.new.ends.keys c.over.seconds.now
      c.drop_over.new.seconds.now c.in-Some.ensures.some.0 c.in-Some.ensures.some.1 c.drop_over.ensures.dropped.fewer
      c.over.invariant.ends;
}

pub over-preserved : goal.over-preserved
over-preserved c = record {
  dropped = drops-twice c.over.invariant.dropped c.drop_over.ensures.dropped;
  kept = c.drop_over.ensures.kept;
  ends = ends-less c.args.second c.in-Some.end c.over.ends.keys c.pop_over.new.ends.keys c.over.seconds.now
      c.drop_over.new.seconds.now c.in-Some.ensures.some.0 c.in-Some.ensures.some.1 c.drop_over.ensures.dropped.fewer
      c.over.invariant.ends;
}
