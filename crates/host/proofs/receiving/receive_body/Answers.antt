use Rattle.host.proofs.Received.{received_alone}
use Rattle.host.proofs.receiving.receive_body.Goals as goal

pub returns-clause-ok : goal.returns-clause-ok
returns-clause-ok g c =
    let r = received_alone c.args.«from» c.args.node.now.state c.args.body.now c.receive.new.self.state
    c.args.sent.now.items c.receive.new.out.items c.in_ok-receive.ensures.ok in
    (r.0, r.1, c.in_ok-receive.ensures.object, r.2)
