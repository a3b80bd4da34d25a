use Rattle.std.proofs.Common.{◌++◌, ◌∷◌, [], refl, ap, ◌∙◌}
use Rattle.std.specs.Prelude.{is_some}
use Rattle.std.proofs.lemmas.Result.{on_ok_weaker}
use Rattle.network.specs.Networks.{mail_in, front, put_mail}
use Rattle.network.proofs.Turned.{among_mails, on_way_is}
use Rattle.network.proofs.Delivering.{sorted_whole}
use Rattle.lean_network.proofs.Placed.{at_lean_place, place_of, with_mails}
use Rattle.lean_network.proofs.lean_network.LeanNetwork.repeat.Goals as goal

pub repeat-requires-clause-among : goal.repeat-requires-clause-among
repeat-requires-clause-among g c = among_mails (place_of (at_lean_place c.self.invariant c.self.view_is refl c.requires))

pub repeat-requires-clause-post : goal.repeat-requires-clause-post
repeat-requires-clause-post g c = c.self.invariant.post

pub invariant_of-self : goal.invariant_of-self
invariant_of-self g c = sorted_whole c.self.invariant _ _ c.repeat.ensures.size c.repeat.ensures.post

pub returns-clause-ok : goal.returns-clause-ok
returns-clause-ok g c =
    let at = at_lean_place c.self.invariant c.self.view_is refl c.requires in
    on_ok_weaker c.repeat.result
    (λ repeated l first. with_mails at _ _ _
    (repeated l (ap front (on_way_is (place_of at)) ∙ first)
    ∙ ap (λ k. put_mail k.mails c.args.id (mail_in k.mails c.args.id ++ (l ∷ []))) c.self.view_is))
    c.repeat.ensures.ok
