use Rattle.std.proofs.Common.{◌≡◌, ◌∙◌, sym, subst}
use Rattle.beanpax.specs.Program.{WritesMore}
use Rattle.beanpax.proofs.Starts.{more_told}
use Rattle.beanpax.proofs.restoring.obey_keeping.Goals as goal
use Rattle.beanpax.proofs.restoring.obey_keeping.Goals.{then-has_passed, else-has_passed}

pub loop-done-preserved : goal.loop-done-preserved
loop-done-preserved g c =
    let so_far = c.loop-done.invariant in (
      c.in_ok-obey.ensures ∙ so_far.0,
      elim c.if-has_passed.branch [
        | then-has_passed w ↦ subst (WritesMore g.E.ByteOut c.args.errors.now) (sym w.errors-is)
            (more_told g.E.ByteOut c.args.errors.now c.loop-done.errors w.tell_obeyed.new.errors so_far.1 w.tell_obeyed.ensures)
        | else-has_passed w ↦ subst (WritesMore g.E.ByteOut c.args.errors.now) (sym w.errors-is) so_far.1
      ],
    )
