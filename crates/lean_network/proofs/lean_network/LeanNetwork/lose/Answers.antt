use Rattle.std.proofs.Common.{drop, refl, ap, ◌∙◌}
use Rattle.std.specs.Prelude.{is_some}
use Rattle.network.specs.Networks.{mail_in, front, put_mail}
use Rattle.network.proofs.Turned.{among_mails, on_way_is}
use Rattle.network.proofs.Delivering.{sorted_whole}
use Rattle.lean_network.proofs.Placed.{at_lean_place, place_of, with_mails}
use Rattle.lean_network.proofs.lean_network.LeanNetwork.lose.Goals as goal

pub lose-requires-clause-among : goal.lose-requires-clause-among
lose-requires-clause-among g c = among_mails (place_of (at_lean_place c.self.invariant c.self.view_is refl c.requires))

pub lose-requires-clause-post : goal.lose-requires-clause-post
lose-requires-clause-post g c = c.self.invariant.post

pub invariant_of-self : goal.invariant_of-self
invariant_of-self g c = sorted_whole c.self.invariant _ _ c.lose.ensures.size c.lose.ensures.post

pub returns-clause-lost : goal.returns-clause-lost
returns-clause-lost g c =
    let at = at_lean_place c.self.invariant c.self.view_is refl c.requires in
    c.lose.ensures.lost ∙ ap (λ z. is_some (front z)) (on_way_is (place_of at))

pub returns-clause-left : goal.returns-clause-left
returns-clause-left g c =
    let at = at_lean_place c.self.invariant c.self.view_is refl c.requires in
    with_mails at _ _ _ (c.lose.ensures.left ∙ ap (λ k. put_mail k.mails c.args.id (drop 1 (mail_in k.mails c.args.id))) c.self.view_is)
