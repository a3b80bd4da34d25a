use Rattle.std.proofs.Common.{length, refl, sym, ap, ap₂, ◌∙◌, subst}
use Rattle.std.specs.Prelude.{is_some}
use Rattle.network.specs.Networks.{front}
use Rattle.network.specs.Posting.{IsAmong, on_way}
use Rattle.network.proofs.Turned.{at_place, among_mails, on_way_is}
use Rattle.network.proofs.network.Network.has_mail.Goals as goal

pub has_mail-requires : goal.has_mail-requires
has_mail-requires g c = subst (λ z. IsAmong (length z) c.args.id) (sym c.deref.ensures.value)
    (among_mails (at_place c.self.invariant c.self.view_is refl c.requires))

pub returns : goal.returns
returns g c =
    c.has_mail.ensures
    ∙ ap₂ (λ mails fresh. is_some (front (on_way mails fresh c.args.id))) c.deref.ensures.value c.deref-2.ensures.value
    ∙ ap (λ z. is_some (front z)) (on_way_is (at_place c.self.invariant c.self.view_is refl c.requires))
