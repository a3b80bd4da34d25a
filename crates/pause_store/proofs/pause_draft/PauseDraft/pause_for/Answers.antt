use Rattle.std.proofs.Common.{refl, ap, rules}
use Rattle.session_store.specs.Drafts.{Draft}
use Rattle.pause_store.specs.Pauses.{PauseState}
use Rattle.pause_store.proofs.Ends.{ends-grown}
use Rattle.pause_store.proofs.Pausing.{ends-set, paused-then}
use Rattle.pause_store.proofs.pause_draft.PauseDraft.pause_for.Goals as goal

pub invariant_of-self : goal.invariant_of-self
invariant_of-self c = record {
  later = c.self.invariant.later;
  in_range = c.self.invariant.in_range;
  now = ends-grown c.self.inside.kept c.self.inside.ends.keys c.note_end.new.ends.keys _ _ refl c.note_end.ensures.grown c.self.invariant.now;
  before = ends-grown c.self.inside.kept c.self.inside.ends.keys c.note_end.new.ends.keys _ _ refl c.note_end.ensures.grown c.self.invariant.before;
}

pub invariant_of-self-2 : goal.invariant_of-self-2
invariant_of-self-2 c = record {
  later = c.self.invariant.later;
  in_range = c.self.invariant.in_range;
  now = ends-set c.set.result c.self.inside.kept c.self.inside.ends.keys c.note_end.new.ends.keys c.args.tube.now
      _ c.self.inside.seconds.now c.set.new.self.now c.set.ensures.drafts.now
      c.set.ensures.drafts.err c.note_end.ensures.grown c.in_ok-note_end.ensures.ok c.self.invariant.now;
  before = ends-grown c.self.inside.kept c.self.inside.ends.keys c.note_end.new.ends.keys _ _
      c.set.ensures.drafts.before c.note_end.ensures.grown c.self.invariant.before;
}

pub returns : goal.returns
returns c = record {
  now = paused-then c.set.result c.self.inside.second c.args.seconds c.from.result c.args.tube.now
      c.self.inside.seconds.now c.set.new.self.now c.args.self.now.now c.set.ensures.ordered
      (ap (λ (d : Draft PauseState). d.now) c.self.view_is) c.from.ensures c.set.ensures.drafts.now;
  err = search rules;
  before = search rules;
}
