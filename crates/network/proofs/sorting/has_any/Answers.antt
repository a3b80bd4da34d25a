use Rattle.std.proofs.Common.{sym, ap, ◌∙◌, arith}
use Rattle.ballot.specs.declared.letter.Letter.{Letter}
use Rattle.network.proofs.Posts.{found, not_found, one_more_not}
use Rattle.network.proofs.sorting.has_any.Goals as goal

pub returns-then-letters-place : goal.returns-then-letters-place
returns-then-letters-place g c =
    sym (found c.args.to c.args.letters.now c.loop-place.place c.index-letters-place.result c.index-letters-place.is
    c.loop-place-test.true (ap (λ (l : Letter g.row.C.Denot). l.to) c.index-letters-place.is ∙
    c.if-letters-place.true) c.loop-place.invariant).0

pub loop-place-preserved : goal.loop-place-preserved
loop-place-preserved g c =
    one_more_not c.args.to c.args.letters.now c.loop-place.place c.index-letters-place.result c.index-letters-place.is
    c.loop-place-test.true (λ e. c.if-letters-place.false
    (sym (ap (λ (l : Letter g.row.C.Denot). l.to) c.index-letters-place.is) ∙ e)) c.loop-place.invariant

pub returns : goal.returns
returns g c =
    sym (not_found c.args.to c.args.letters.now (λ k d h. c.loop-place.invariant k d (omega (arith, h, c.loop-place-test.false)))).0
