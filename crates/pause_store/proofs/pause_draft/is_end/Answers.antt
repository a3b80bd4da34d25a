use Rattle.std.proofs.Common.{◌∙◌, Some, is_some, sym, ap, arith, eqb-true, eq-eqb}
use Rattle.std.proofs.lemmas.Bool.{false≢true}
use Rattle.tube_store.proofs.NameMaps.{the_some}
use Rattle.pause_store.proofs.Seconds.{in-left, in-lookup, left-in, lookup-in}
use Rattle.pause_store.proofs.pause_draft.is_end.Goals as goal

pub returns-then-end-second : goal.returns-then-end-second
returns-then-end-second c =
    let over = c.if-end-second.true in (
      λ e. absurd (false≢true e),
      λ i. let later = (in-left c.args.second
          (c.args.end.now.tube, c.args.end.now.until) c.args.seconds.now.now i).1 in absurd
          (omega (arith, over, later)),
    )

pub returns-in-Some : goal.returns-in-Some
returns-in-Some c =
    let end = c.args.end.now in
    let es = c.args.seconds.now.now in (
      λ e. left-in c.args.second (end.tube, end.until) es
          (in-lookup end.tube end.until es
          (sym c.in-Some.ensures.value ∙ ap Some (eqb-true c.in-Some.until end.until e))) c.if-end-second.false,
      λ i. eq-eqb c.in-Some.until end.until
          (the_some c.in-Some.until end.until
          (c.in-Some.ensures.value ∙ lookup-in end.tube end.until es c.get.ensures.ordered
          (in-left c.args.second (end.tube, end.until) es i).0)),
    )

pub returns-in-None : goal.returns-in-None
returns-in-None c =
    let end = c.args.end.now in
    let es = c.args.seconds.now.now in (
      λ e. absurd (false≢true e),
      λ i. ap is_some (c.in-None.ensures.value ∙ lookup-in end.tube end.until es c.get.ensures.ordered (in-left c.args.second (end.tube, end.until) es i).0),
    )
