use Rattle.std.proofs.lemmas.Result.{on_ok_weaker}
use Rattle.chronicle.proofs.checker.check.Goals as goal

pub returns-clause-legal : goal.returns-clause-legal
returns-clause-legal c same =
    let h = c.args.chronicle.now in
    on_ok_weaker c.check_happenings.result
    (λ right. c.faultless_is_legal.ensures.legal same h c.check_happenings.ensures.kept (record { order = c.in_ok-replayed.ensures.right; happened = right }))
    c.check_happenings.ensures.right

pub returns-clause-held : goal.returns-clause-held
returns-clause-held c =
    on_ok_weaker c.check_happenings.result (λ right. c.faultless_is_legal.ensures.held c.args.chronicle.now) c.check_happenings.ensures.right
