use Rattle.std.proofs.Common.{length, refl, sym, ap, ap₂, ◌∙◌, subst}
use Rattle.std.specs.Prelude.{is_some}
use Rattle.network.specs.Networks.{front}
use Rattle.network.specs.Posting.{IsAmong, on_way}
use Rattle.network.proofs.Turned.{among_mails, on_way_is}
use Rattle.lean_network.proofs.Placed.{at_lean_place, place_of}
use Rattle.lean_network.proofs.lean_network.LeanNetwork.has_mail.Goals as goal

pub has_mail-requires : goal.has_mail-requires
has_mail-requires g c = subst (λ z. IsAmong (length z) c.args.id) (sym c.deref.ensures.value)
    (among_mails (place_of (at_lean_place c.self.invariant c.self.view_is refl c.requires)))

pub returns : goal.returns
returns g c =
    c.has_mail.ensures
    ∙ ap₂ (λ mails fresh. is_some (front (on_way mails fresh c.args.id))) c.deref.ensures.value c.deref-2.ensures.value
    ∙ ap (λ z. is_some (front z)) (on_way_is (place_of (at_lean_place c.self.invariant c.self.view_is refl c.requires)))
