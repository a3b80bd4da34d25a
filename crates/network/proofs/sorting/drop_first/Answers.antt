use Rattle.std.proofs.Common.{length, sym, ap, ◌∙◌, arith}
use Rattle.std.specs.Prelude.{is_some}
use Rattle.network.specs.Networks.{letters_to, front}
use Rattle.network.specs.Posting.{but_first}
use Rattle.network.proofs.Posts.{found, not_found, one_more_not}
use Rattle.network.proofs.sorting.drop_first.Goals as goal

pub returns-then-index-to-clause-does : goal.returns-then-index-to-clause-does
returns-then-index-to-clause-does g c =
    sym (found c.args.to c.loop-place.letters.items c.loop-place.place c.index.result.now c.index.ensures
    (omega (
      arith,
      c.loop-place-test.true,
      c.len-place-end.ensures,
      c.args.letters.now.ok.0,
      ap length
          c.loop-place.invariant.same,
    )) c.if-index-to.true c.loop-place.invariant.none).0
    ∙ ap (λ xs. is_some (front (letters_to c.args.to xs))) c.loop-place.invariant.same

pub returns-then-index-to-clause-left : goal.returns-then-index-to-clause-left
returns-then-index-to-clause-left g c =
    c.remove.ensures.items
    ∙ sym (found c.args.to c.loop-place.letters.items c.loop-place.place c.index.result.now c.index.ensures
    (omega (
      arith,
      c.loop-place-test.true,
      c.len-place-end.ensures,
      c.args.letters.now.ok.0,
      ap length
          c.loop-place.invariant.same,
    )) c.if-index-to.true c.loop-place.invariant.none).1
    ∙ ap (but_first c.args.to) c.loop-place.invariant.same

pub loop-place-preserved : goal.loop-place-preserved
loop-place-preserved g c = record {
  same = c.loop-place.invariant.same;
  none = one_more_not c.args.to c.loop-place.letters.items c.loop-place.place c.index.result.now c.index.ensures
      (omega (
        arith,
        c.loop-place-test.true,
        c.len-place-end.ensures,
        c.args.letters.now.ok.0,
        ap length
            c.loop-place.invariant.same,
      )) c.if-index-to.false c.loop-place.invariant.none;
}

pub returns-clause-does : goal.returns-clause-does
returns-clause-does g c =
    sym (not_found c.args.to c.loop-place.letters.items
    (λ k d h. c.loop-place.invariant.none k d
    (omega (
      arith,
      h,
      c.loop-place-test.false,
      c.len-place-end.ensures,
      c.args.letters.now.ok.0,
      ap length
          c.loop-place.invariant.same,
    )))).0
    ∙ ap (λ xs. is_some (front (letters_to c.args.to xs))) c.loop-place.invariant.same

pub returns-clause-left : goal.returns-clause-left
returns-clause-left g c =
    sym (not_found c.args.to c.loop-place.letters.items
    (λ k d h. c.loop-place.invariant.none k d
    (omega (
      arith,
      h,
      c.loop-place-test.false,
      c.len-place-end.ensures,
      c.args.letters.now.ok.0,
      ap length
          c.loop-place.invariant.same,
    )))).1
    ∙ ap (but_first c.args.to) c.loop-place.invariant.same
