use Rattle.std.proofs.Common.{◌≡◌, [], ◌∷◌, ◌++◌, map, sym, ap, subst, ◌∙◌, not, refl}
use Rattle.std.specs.FinMap.{entries}
use Rattle.ballot.specs.Slots.{Slots}
use Rattle.ballot.specs.Ballots.{is_promise}
use Rattle.acceptor.specs.Reports.{IsReport}
use Rattle.acceptor.specs.Acceptors.{Acceptances}
use Rattle.acceptor.specs.Places.{pvalue_of, is_higher}
use Rattle.acceptor.specs.declared.accepted.Accepted.{Accepted}
use Rattle.acceptor.proofs.Kept.{kept_refused, kept_report, report_of_put, report_of_lower, is_promised}
use Rattle.acceptor.proofs.acceptor.Acceptor.on_p2a.Goals as goal

pub returns-then-ne-clause-state : goal.returns-then-ne-clause-state
returns-then-ne-clause-state g c =
    kept_refused c.args.self.now c.args.pvalue
    (ap (λ (a : Acceptances _). is_promise a.promised c.args.pvalue.ballot)
    (sym c.self.view_is) ∙ is_promised c.self.inside.promised c.args.pvalue.ballot c.ne.result c.ne.ensures ∙ ap not
    c.if-ne.true)

pub returns-then-is_higher-clause-state : goal.returns-then-is_higher-clause-state
returns-then-is_higher-clause-state g c =
    let m = c.self.inside.accepted in
    let p = c.args.pvalue in
    let own : c.args.self.now.accepted ≡ map pvalue_of (entries m) = ap (λ (a : Acceptances _). a.accepted) (sym c.self.view_is) in
    kept_report c.args.self.now c.args.self.now p (map pvalue_of (entries m)) (map pvalue_of (entries m))
    (ap (λ (a : Acceptances _). is_promise a.promised p.ballot)
    (sym c.self.view_is) ∙ is_promised c.self.inside.promised p.ballot c.ne.result c.ne.ensures ∙ ap not
    c.if-ne.false)
    own refl own
    (report_of_lower m p.slot (record { ballot = p.ballot; value = p.value })
    (ap (λ o. is_higher o p.ballot) (sym c.get.ensures) ∙ sym c.is_higher.ensures ∙ c.if-is_higher.true))

pub returns-clause-state : goal.returns-clause-state
returns-clause-state g c =
    let m = c.self.inside.accepted in
    let p = c.args.pvalue in
    let x : Accepted g.row.C.Denot = record { ballot = p.ballot; value = p.value } in
    kept_report c.args.self.now _ p (map pvalue_of (entries m)) (map pvalue_of (entries c.insert.new.self))
    (ap (λ (a : Acceptances _). is_promise a.promised p.ballot)
    (sym c.self.view_is) ∙ is_promised c.self.inside.promised p.ballot c.ne.result c.ne.ensures ∙ ap not
    c.if-ne.false)
    (ap (λ (a : Acceptances _). a.accepted) (sym c.self.view_is))
    (ap (λ (a : Acceptances _). a.promised) c.self.view_is)
    refl
    (subst (λ (n : Slots (Accepted g.row.C.Denot)). IsReport (map pvalue_of (entries m) ++ p ∷ []) (map pvalue_of (entries n)))
    (sym c.in_ok-insert.ensures.ok.0)
    (report_of_put m p.slot x (ap (λ o. is_higher o p.ballot) (sym c.get.ensures) ∙ sym c.is_higher.ensures ∙ c.if-is_higher.false)))
