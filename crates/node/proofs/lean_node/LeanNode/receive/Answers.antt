use Rattle.std.proofs.Common.{OnOk, subst, sym}
use Rattle.node.specs.Receiving.{ShowsReceived}
use Rattle.node.proofs.lean_node.LeanNode.receive.Goals as goal

pub returns-in-P1a-clause-ok : goal.returns-in-P1a-clause-ok
returns-in-P1a-clause-ok g c =
    subst (λ b. OnOk c.on_p1a.result
    (ShowsReceived c.args.«from» c.args.self.now.state b c.on_p1a.new.self.state c.args.out.now.items c.on_p1a.new.out.items))
    (sym c.in-P1a.is) c.on_p1a.ensures.ok

pub returns-in-P2a-clause-ok : goal.returns-in-P2a-clause-ok
returns-in-P2a-clause-ok g c =
    subst (λ b. OnOk c.on_p2a.result
    (ShowsReceived c.args.«from» c.args.self.now.state b c.on_p2a.new.self.state c.args.out.now.items c.on_p2a.new.out.items))
    (sym c.in-P2a.is) c.on_p2a.ensures.ok

pub returns-in-P1b-clause-ok : goal.returns-in-P1b-clause-ok
returns-in-P1b-clause-ok g c =
    subst (λ b. OnOk c.on_p1b.result
    (ShowsReceived c.args.«from» c.args.self.now.state b c.on_p1b.new.self.state c.args.out.now.items c.on_p1b.new.out.items))
    (sym c.in-P1b.is) c.on_p1b.ensures.ok

pub returns-in-P2b-clause-ok : goal.returns-in-P2b-clause-ok
returns-in-P2b-clause-ok g c =
    subst (λ b. OnOk c.on_p2b.result
    (ShowsReceived c.args.«from» c.args.self.now.state b c.on_p2b.new.self.state c.args.out.now.items c.on_p2b.new.out.items))
    (sym c.in-P2b.is) c.on_p2b.ensures.ok

pub returns-in-Propose-clause-ok : goal.returns-in-Propose-clause-ok
returns-in-Propose-clause-ok g c =
    subst (λ b. OnOk c.on_propose.result
    (ShowsReceived c.args.«from» c.args.self.now.state b c.on_propose.new.self.state c.args.out.now.items
    c.on_propose.new.out.items)) (sym c.in-Propose.is) c.on_propose.ensures.ok

pub returns-in-Decision-clause-ok : goal.returns-in-Decision-clause-ok
returns-in-Decision-clause-ok g c =
    subst (λ b. OnOk c.on_decision.result
    (ShowsReceived c.args.«from» c.args.self.now.state b c.on_decision.new.self.state c.args.out.now.items
    c.on_decision.new.out.items)) (sym c.in-Decision.is) c.on_decision.ensures.ok

pub returns-in-Ask-clause-ok : goal.returns-in-Ask-clause-ok
returns-in-Ask-clause-ok g c =
    subst (λ b. OnOk c.on_ask.result
    (ShowsReceived c.args.«from» c.args.self.now.state b c.on_ask.new.self.state c.args.out.now.items c.on_ask.new.out.items))
    (sym c.in-Ask.is) c.on_ask.ensures.ok
