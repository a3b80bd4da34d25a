use Rattle.std.proofs.Common.{sym, subst, ◌∙◌}
use Rattle.object.specs.ListLaws.{In-get}
use Rattle.node.specs.Receiving.{IsFit}
use Rattle.node.specs.Rests.{rest_of_node}
use Rattle.network.specs.Networks.{node_of, mail_of}
use Rattle.agreement.specs.Nodes.{node}
use Rattle.hall.proofs.Events.{number_in}
use Rattle.forgetting_hall.proofs.fitting.letters_fit.Goals as goal

pub returns : goal.returns
returns g c = λ h w n l left i s member at was.
    let sent = s.cluster.letters n l (In-get (mail_of h.network n) 0 l at) in
    let place = number_in sent.0 w.cluster.letters sent.1 in
    c.deeds_are_shown.ensures.fit (node_of h.network n) (rest_of_node h.base (node w.cluster n)) left (s.cluster.nodes n member)
    (c.nodes_rest.ensures.fit h.base (node w.cluster n) sent.0.body left (sym sent.2.left ∙ was)
    (subst (λ m. IsFit (node w.cluster m) sent.0.body) sent.2.receiver (c.every_world.ensures.letters w i place.0 sent.0 place.1).fit))
