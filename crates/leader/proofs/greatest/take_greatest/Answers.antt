use Rattle.std.proofs.Common.{◌≡◌, Bool, true, false, not, ◌&&◌, sym, ap, ◌∙◌, cond}
use Rattle.std.specs.FinMap.{get, contains_key, insert}
use Rattle.ballot.specs.Ballots.{is_promise}
use Rattle.leader.proofs.GreatestValues.{promise_test, taken_turn}
use Rattle.leader.proofs.greatest.take_greatest.Goals as goal
use Rattle.leader.proofs.greatest.take_greatest.Goals.{then-eq+then-not-contains+in_ok-copy+in_ok-insert, else-eq}
use Rattle.leader.proofs.greatest.take_greatest.Goals.{else-eq-via-then-eq+else-not-contains, else-eq-via-else-eq}

pub loop-pvalue-preserved : goal.loop-pvalue-preserved
loop-pvalue-preserved g c =
    let p = c.pvalue-item.result in
    let greatest = c.args.greatest.now in
    let now = c.loop-pvalue.taken in
    let promised = is_promise (get greatest p.slot) p.ballot in
    let contained = contains_key now p.slot in
    let test : promised ≡ c.eq.result =
    ap (λ o. is_promise o p.ballot) (sym c.get.ensures ∙ sym c.copied.ensures) ∙
    sym (promise_test c.copied.result p.ballot) ∙ sym c.eq.ensures in
    let chosen = λ (b : Bool). cond b (insert now p.slot p.value) now in
    let next = taken_turn c.args.pvalues.now c.loop-pvalue.pvalue-index p c.pvalue-item.is c.loop-pvalue-test.true
    greatest c.args.taken.now now c.if-eq.taken c.loop-pvalue.invariant in
    elim c.if-eq.branch [
      | then-eq+then-not-contains+in_ok-copy+in_ok-insert w ↦
          let yes : (promised && not contained) ≡ true =
          ap (λ b. b && not contained) (test ∙ w.if-eq.true) ∙ ap not
          (sym w.contains.ensures ∙ w.if-not-contains.true) in
          next (w.taken-is ∙ w.in_ok-insert.ensures.ok.0 ∙ ap (λ v. insert now p.slot v) w.in_ok-copy.ensures ∙ ap chosen (sym yes))
      | else-eq w ↦
          elim w.else-eq.branch [
            | else-eq-via-then-eq+else-not-contains v ↦
                let no : (promised && not contained) ≡ false =
                ap (λ b. b && not contained) (test ∙ v.if-eq.true) ∙ ap not
                (sym v.contains.ensures ∙ v.if-not-contains.false) in
                next (w.taken-is ∙ ap chosen (sym no))
            | else-eq-via-else-eq v ↦
                let no : (promised && not contained) ≡ false = ap (λ b. b && not contained) (test ∙ v.if-eq.false) in
                next (w.taken-is ∙ ap chosen (sym no))
          ]
    ]
