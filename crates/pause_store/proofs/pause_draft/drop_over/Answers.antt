use Rattle.std.proofs.Common.{ap, subst, sym, ◌∙◌, le-ltb}
use Rattle.object.specs.Lists.{In}
use Rattle.pause_store.specs.Pauses.{left_at}
use Rattle.pause_store.proofs.Seconds.{left-remove, in-remove}
use Rattle.pause_store.proofs.Ends.{drops-none}
use Rattle.pause_store.proofs.pause_draft.drop_over.Goals as goal

pub returns-in-Some-clause-dropped : goal.returns-in-Some-clause-dropped
returns-in-Some-clause-dropped c = record {
  left = ap (left_at c.args.second) c.forget_for_good.ensures.kept.now ∙
      left-remove c.args.second c.args.tube.now c.in-Some.until c.args.seconds.now.now
      (sym c.in-Some.ensures.value) (le-ltb c.args.second c.in-Some.until c.if-until-second.true);
  fewer = λ p i. in-remove c.args.tube.now p c.args.seconds.now.now (subst (In p) c.forget_for_good.ensures.kept.now i);
}

pub returns-else-until-second-clause-dropped : goal.returns-else-until-second-clause-dropped
returns-else-until-second-clause-dropped c = drops-none c.args.second c.args.seconds.now.now

pub returns-clause-dropped : goal.returns-clause-dropped
returns-clause-dropped c = drops-none c.args.second c.args.seconds.now.now
