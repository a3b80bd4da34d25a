use Rattle.std.proofs.Common.{◌∙◌, sym, subst, arith}
use Rattle.std.proofs.lemmas.Bool.{false≢true}
use Rattle.object.specs.Lists.{In}
use Rattle.job_store.proofs.shelving.Shelving.{not_ok}
use Rattle.pause_store.specs.Pauses.{left_at, tubes_over}
use Rattle.pause_store.proofs.Ends.{sorted-rest}
use Rattle.pause_store.proofs.Seconds.{over-in}
use Rattle.pause_store.proofs.Over.{joined-keeps, none-but, gathered-more, gathered-past, all-gathered, none-left, all-late}
use Rattle.pause_store.proofs.pause_draft.add_tubes_over.Goals as goal

pub loop-end-preserved-in_ok-insert : goal.loop-end-preserved-in_ok-insert
loop-end-preserved-in_ok-insert c =
    let es = c.args.seconds.now.now in
    let end = c.in-Some.end.now in
    let by = c.if-end-second.false in
    record {
      grown = λ tube i. subst (In tube) (sym c.in_ok-insert.ensures.keys)
          (joined-keeps c.in_ok-copy.field-0 c.loop-end.tubes.keys tube (c.loop-end.invariant.grown tube i));
      over = gathered-more c.args.earlier es c.args.ends.now.keys c.loop-end.end-iterator c.next.new.self end
          c.loop-end.tubes.keys c.insert.new.self.keys c.in_ok-copy.field-0 c.in-Some.ensures.steps c.in_ok-copy.ensures
          c.in_ok-insert.ensures.keys c.loop-end.invariant.over;
      no_others = none-but c.args.tubes.now.keys
          (tubes_over c.args.second (left_at c.args.earlier es)) c.loop-end.tubes.keys c.insert.new.self.keys
          c.in_ok-copy.field-0 end.tube c.in_ok-insert.ensures.keys c.in_ok-copy.ensures
          (over-in c.args.second (end.tube, end.until) (left_at c.args.earlier es) (c.is_end.ensures.0 c.if-is_end.true)
          (omega (arith, by))) c.loop-end.invariant.no_others;
      sorted = sorted-rest c.loop-end.end-iterator c.next.new.self end c.in-Some.ensures.steps c.loop-end.invariant.sorted;
    }

pub loop-end-preserved : goal.loop-end-preserved
loop-end-preserved c = record {
  grown = c.loop-end.invariant.grown;
  over = gathered-past c.args.earlier c.args.seconds.now.now c.args.ends.now.keys c.loop-end.end-iterator
      c.next.new.self c.in-Some.end.now c.loop-end.tubes.keys c.in-Some.ensures.steps
      (λ i. absurd (false≢true (sym c.if-is_end.false ∙ c.is_end.ensures.1 i))) c.loop-end.invariant.over;
  no_others = c.loop-end.invariant.no_others;
  sorted = sorted-rest c.loop-end.end-iterator c.next.new.self c.in-Some.end.now c.in-Some.ensures.steps c.loop-end.invariant.sorted;
}

pub returns-in-None : goal.returns-in-None
returns-in-None c = record {
  kept = c.loop-end.invariant.grown;
  only = c.loop-end.invariant.no_others;
  all = all-gathered c.args.earlier c.args.seconds.now.now c.args.ends.now.keys c.args.second c.loop-end.end-iterator
      c.loop-end.tubes.keys c.requires
      (none-left c.args.second c.loop-end.end-iterator c.in-None.ensures.steps.0) c.loop-end.invariant.over;
}

pub returns-then-end-second : goal.returns-then-end-second
returns-then-end-second c = record {
  kept = c.loop-end.invariant.grown;
  only = c.loop-end.invariant.no_others;
  all = all-gathered c.args.earlier c.args.seconds.now.now c.args.ends.now.keys c.args.second c.loop-end.end-iterator
      c.loop-end.tubes.keys c.requires
      (all-late c.args.second c.loop-end.end-iterator c.next.new.self c.in-Some.end.now c.in-Some.ensures.steps
      c.if-end-second.true c.loop-end.invariant.sorted) c.loop-end.invariant.over;
}

pub returns-in_err-copy : goal.returns-in_err-copy
returns-in_err-copy c = record {
  kept = c.loop-end.invariant.grown;
  only = c.loop-end.invariant.no_others;
  all = not_ok _ c.from_residual.result c.from_residual.ensures.0;
}

pub returns-in_err-insert : goal.returns-in_err-insert
returns-in_err-insert c = record {
  kept = λ tube i. subst (In tube) (sym c.in_err-insert.ensures.err) (c.loop-end.invariant.grown tube i);
  only = λ tube i. c.loop-end.invariant.no_others tube (subst (In tube) c.in_err-insert.ensures.err i);
  all = not_ok _ c.from_residual-in_err-insert.result c.from_residual-in_err-insert.ensures.0;
}
