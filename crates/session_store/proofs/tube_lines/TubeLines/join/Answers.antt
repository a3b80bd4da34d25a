use Rattle.std.proofs.Common.{◌∙◌, sym, subst, inl, inr, IfSome}
use Rattle.session_store.specs.Lines.{IsIn, tube_line, rank_place}
use Rattle.session_store.proofs.Places.{some_in}
use Rattle.session_store.proofs.Standing.{among-more}
use Rattle.session_store.proofs.tube_lines.TubeLines.join.Goals as goal

pub returns-in_err-join_tube-clause-grown : goal.returns-in_err-join_tube-clause-grown
returns-in_err-join_tube-clause-grown c = λ t p h. c.join_tube.ensures.grown t p (c.loop-tube.invariant.0 t p h)

pub loop-tube-preserved : goal.loop-tube-preserved
loop-tube-preserved c = (
  λ t p h. c.join_tube.ensures.grown t p (c.loop-tube.invariant.0 t p h),
  λ t among.
      elim (among-more t c.args.watched.now c.loop-tube.tube-index c.tube-item.result c.loop-tube-test.true
      among) as (λ v. IfSome (rank_place c.args.number c.args.wait) (IsIn (tube_line t c.join_tube.new.self))) [
        | inl old ↦
            some_in (tube_line t c.loop-tube.self) (tube_line t c.join_tube.new.self)
            (rank_place c.args.number c.args.wait) (c.join_tube.ensures.grown t) (c.loop-tube.invariant.1 t old)
        | inr same ↦ subst (λ u. IfSome (rank_place c.args.number c.args.wait)
            (IsIn (tube_line u c.join_tube.new.self)))
            (sym (same ∙ sym c.tube-item.is)) c.in_ok-join_tube.ensures.stands
      ],
)
