use Rattle.std.proofs.Common.{◌≤◌, sym, ◌∙◌, arith}
use Rattle.world.proofs.ways.LetterTests.{is_sent, letter_at, no_letter, none_more, tests_decisions}
use Rattle.world.specs.WaysOut.{Decides}
use Rattle.world.proofs.letters.find_decision.Goals as goal

pub returns-then-decides-clause-some : goal.returns-then-decides-clause-some
returns-then-decides-clause-some g c =
    letter_at tests_decisions c.args.slot c.loop-place-test.true c.index-letters-place.is (sym c.decides.ensures ∙ c.if-decides.true)

pub loop-place-preserved : goal.loop-place-preserved
loop-place-preserved g c = λ j low under there. none_more
    (λ k. (c.args.start ≤ k) × Decides c.args.letters.now k c.args.slot) c.loop-place.place
    (λ k under h. c.loop-place.invariant k h.0 under h.1)
    (λ h. no_letter tests_decisions c.args.slot c.loop-place-test.true c.index-letters-place.is
    (sym c.decides.ensures ∙ c.if-decides.false) h.1) j under (low, there)

pub returns-clause-none : goal.returns-clause-none
returns-clause-none g c = λ place low h. let within = is_sent h in let end =
    c.loop-place-test.false in c.loop-place.invariant place low (omega arith) h
