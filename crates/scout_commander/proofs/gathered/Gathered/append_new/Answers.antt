use Rattle.std.proofs.Common.{◌≡◌, ◌++◌, ◌+◌, List, take, true≢false, sym, subst, ◌∙◌}
use Rattle.ballot.specs.declared.pvalue.Pvalue.{Pvalue}
use Rattle.scout_commander.specs.Reports.{IsFresh, beyond}
use Rattle.scout_commander.proofs.Fresh.{turn_news, turn_seen, turn_more, on_err}
use Rattle.scout_commander.proofs.gathered.Gathered.append_new.Goals as goal
use Rattle.scout_commander.proofs.gathered.Gathered.append_new.Goals.{then-not-contains+in_ok-copy+in_ok-push, else-not-contains}

pub loop-pvalue-preserved : goal.loop-pvalue-preserved
loop-pvalue-preserved g c =
    let old = c.args.self.now in
    let now = c.loop-pvalue.self in
    let i = c.loop-pvalue.pvalue-index in
    let p = c.pvalue-item.result in
    let kept = c.loop-pvalue.invariant.kept in
    let fresh = c.loop-pvalue.invariant.fresh in
    let P : List (Pvalue g.row.C.Denot) → Type 0 =
    λ new. record {
      kept : new ≡ old ++ beyond old new;
      fresh : IsFresh old (take (i + 1) c.args.report.now) (beyond old new);
    } in
    elim c.if-not-contains.branch [
      | then-not-contains+in_ok-copy+in_ok-push w ↦
          let unseen = λ (j : Rattle.object.specs.Lists.In p now). true≢false (sym (c.contains.ensures.1 j) ∙ w.if-not-contains.true) in
          let t = turn_more old now c.args.report.now i p kept fresh c.loop-pvalue-test.true c.pvalue-item.is
          w.push.new.self w.in_ok-copy.field-0 unseen w.in_ok-copy.ensures w.in_ok-push.ensures.ok.0 in
          subst P (sym w.self-is) (record { kept = t.0; fresh = t.1 })
      | else-not-contains w ↦
          let seen = c.contains.ensures.0 w.if-not-contains.false in
          subst P (sym w.self-is) (record {
            kept = kept;
            fresh =
                turn_seen old now c.args.report.now i p kept fresh c.loop-pvalue-test.true c.pvalue-item.is seen;
          })
    ]

pub returns-in_err-copy-clause-known : goal.returns-in_err-copy-clause-known
returns-in_err-copy-clause-known g c =
    on_err c.from_residual.result
    (turn_news c.args.self.now c.loop-pvalue.self c.args.report.now c.loop-pvalue.pvalue-index c.pvalue-item.result
    c.loop-pvalue.invariant.kept c.loop-pvalue.invariant.fresh c.loop-pvalue-test.true c.pvalue-item.is
    (λ there. true≢false (sym (c.contains.ensures.1 there) ∙ c.if-not-contains.true)))

pub returns-in_err-push-clause-known : goal.returns-in_err-push-clause-known
returns-in_err-push-clause-known g c =
    on_err c.from_residual-in_err-push.result
    (turn_news c.args.self.now c.loop-pvalue.self c.args.report.now c.loop-pvalue.pvalue-index c.pvalue-item.result
    c.loop-pvalue.invariant.kept c.loop-pvalue.invariant.fresh c.loop-pvalue-test.true c.pvalue-item.is
    (λ there. true≢false (sym (c.contains.ensures.1 there) ∙ c.if-not-contains.true)))
