use Rattle.std.proofs.Common.{◌≡◌, Some, arith, sym, ap, ◌∙◌, cond}
use Rattle.std.specs.FinMap.{get, insert}
use Rattle.std.proofs.lemmas.Bool.Decides.{nat_tests}
use Rattle.ballot.specs.Ballots.{is_promise_below}
use Rattle.leader.proofs.GreatestValues.{option_below, noted_turn}
use Rattle.leader.proofs.greatest.note_greatest.Goals as goal
use Rattle.leader.proofs.greatest.note_greatest.Goals.{then-lt+in_ok-insert, else-lt}

pub loop-pvalue-preserved : goal.loop-pvalue-preserved
loop-pvalue-preserved g c =
    let p = c.pvalue-item.result in
    let now = c.loop-pvalue.greatest in
    let test : is_promise_below (get now p.slot) (Some p.ballot) ≡ c.lt.result =
    ap (λ o. is_promise_below o (Some p.ballot)) (sym c.get.ensures ∙ sym c.copied.ensures) ∙
    sym (option_below _ (λ a b. grind (arith, nat_tests)) c.copied.result p.ballot) ∙ sym c.lt.ensures in
    let next = noted_turn c.args.pvalues.now c.loop-pvalue.pvalue-index p c.pvalue-item.is c.loop-pvalue-test.true
    c.args.greatest.now now c.if-lt.greatest c.loop-pvalue.invariant in
    elim c.if-lt.branch [
      | then-lt+in_ok-insert w ↦ next
          (w.greatest-is ∙ w.in_ok-insert.ensures.ok.0 ∙ ap (λ b. cond b (insert now p.slot p.ballot) now)
          (sym (test ∙ w.if-lt.true)))
      | else-lt w ↦ next (w.greatest-is ∙ ap (λ b. cond b (insert now p.slot p.ballot) now) (sym (test ∙ w.if-lt.false)))
    ]
