use Rattle.std.proofs.Common.{◌++◌, ap, length, append-nil, sym, subst, ◌∙◌}
use Rattle.forgetting_hall.specs.Gathered.{Gathering}
use Rattle.recovery.specs.Obeyed.{AreLeftOpen, RecoveryState}
use Rattle.recovery.specs.Opened.{EndsAll}
use Rattle.recovery.specs.Sessions.{KeepsNoneOf}
use Rattle.recovery.proofs.recovery.Recovery.finish.Goals as goal

pub loop-session-preserved : goal.loop-session-preserved
loop-session-preserved g c = λ members told has. c.close.ensures members told (c.loop-session.invariant members told has)

pub returns-clause-told : goal.returns-clause-told
returns-clause-told g c = λ members before has.
    c.forget.ensures.told members (before ++ c.in_ok-closes.closes.items)
    (c.in_ok-closes.ensures.told members before (c.loop-session.invariant members before has.told))

pub returns-clause-closes : goal.returns-clause-closes
returns-clause-closes g c = λ members before has.
    subst (EndsAll before) c.deref.ensures.value
    (c.end_all.ensures c.if-not-end_all.false before (subst (λ (r : RecoveryState _ _ _). AreLeftOpen r.live before) (sym c.self.view_is) has.live))

pub returns-clause-counted : goal.returns-clause-counted
returns-clause-counted g c = λ members before has.
    let all = before ++ c.in_ok-closes.closes.items in
    c.tells_in_order.ensures.counted c.forget.new.hall members all
    (c.forget.ensures.told members all (c.in_ok-closes.ensures.told members before (c.loop-session.invariant members before has.told)))
    ∙ ap (λ cs. length (all ++ cs)) (ap (λ (q : Gathering _). q.commands) c.forget.ensures.gathering ∙ c.in_ok-closes.ensures.none)
    ∙ ap length (append-nil all)

pub returns-clause-settled : goal.returns-clause-settled
returns-clause-settled g c = λ members before has.
    let all = before ++ c.in_ok-closes.closes.items in
    c.has_settled.ensures c.if-not-has_settled.false members all
    (c.forget.ensures.told members all (c.in_ok-closes.ensures.told members before (c.loop-session.invariant members before has.told)))

pub returns-clause-let_go : goal.returns-clause-let_go
returns-clause-let_go g c =
    subst (λ ss. KeepsNoneOf c.forget.new.hall ss) (c.deref-3.ensures.value ∙ ap (λ (r : RecoveryState _ _ _). r.sessions) c.self.view_is)
    (c.keeps_none_of.ensures c.if-not-keeps_none_of.false)
