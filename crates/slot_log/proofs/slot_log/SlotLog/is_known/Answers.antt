use Rattle.std.proofs.Common.{◌≡◌, Option, Bor, false, sym, ap, ◌∙◌}
use Rattle.std.proofs.lemmas.Bool.{or_left}
use Rattle.std.specs.List.{list_any}
use Rattle.std.specs.Option.{option_copied, option_map_or}
use Rattle.object.specs.KeyMaps.{at_key}
use Rattle.slot_log.specs.Requests.{is_known}
use Rattle.slot_log.specs.Kept.{standing}
use Rattle.slot_log.proofs.Known.{known_is, found_nowhere, found_at}
use Rattle.slot_log.proofs.slot_log.SlotLog.is_known.Goals as goal
use Rattle.slot_log.proofs.slot_log.SlotLog.is_known.Goals.{in-Requested, in-Proposed, in-Decided}

pub returns-in_default : goal.returns-in_default
returns-in_default g c =
    let a = c.self.inside in
    let look = at_key a.places.by_key in
    c.has_other.ensures
    ∙ sym (found_nowhere g.C.PartialEq.eq g.C.Keyed.key_of look (standing a) a.places.others.items c.args.command.now
    (ap look (sym c.key.ensures) ∙ sym c.of.ensures ∙ c.in_default.is))
    ∙ known_is g.C.PartialEq.eq g.C.Keyed.key_of g.met.C.Value.exact g.met.C.Eq.laws.refl a c.self.invariant c.args.command.now
    ∙ ap (λ b. is_known g.C.PartialEq.eq b c.args.command.now) c.self.view_is

pub returns-in-Some-standing : goal.returns-in-Some-standing
returns-in-Some-standing g c =
    let a = c.self.inside in
    let look = at_key a.places.by_key in
    let E = λ (d : g.row.C.Denot). g.C.PartialEq.eq d c.args.command.now in
    let here : option_copied c.match-place.standing ≡ standing a c.in-Some.place =
    elim c.match-place.branch as (λ _. option_copied c.match-place.standing ≡ standing a c.in-Some.place) [
      | in-Requested w ↦ ap option_copied w.standing-is ∙ w.ranked-standing.ensures ∙ ap (standing a) (sym w.in-Requested.is)
      | in-Proposed w ↦ ap option_copied w.standing-is ∙ w.get-standing.ensures ∙ ap (standing a) (sym w.in-Proposed.is)
      | in-Decided w ↦ ap option_copied w.standing-is ∙ w.get-standing-in-Decided.ensures ∙ ap (standing a) (sym w.in-Decided.is)
    ] in
    sym (or_left (option_map_or E (option_copied c.match-place.standing) false) (list_any E a.places.others.items)
    (ap (λ (o : Option _). option_map_or E (option_copied o) false) c.in-Some-standing.is ∙ ap
    (λ (r : Bor g.row.C.Denot). E r.now) (sym c.in-Some-standing.other-is) ∙ sym c.eq.ensures ∙ c.if-eq.true))
    ∙ sym (found_at g.C.PartialEq.eq g.C.Keyed.key_of look
    (standing a) a.places.others.items c.args.command.now c.in-Some.place (option_copied c.match-place.standing)
    (ap look (sym c.key.ensures) ∙ sym c.of.ensures ∙ c.in-Some.is) here)
    ∙ known_is g.C.PartialEq.eq g.C.Keyed.key_of g.met.C.Value.exact g.met.C.Eq.laws.refl a c.self.invariant c.args.command.now
    ∙ ap (λ b. is_known g.C.PartialEq.eq b c.args.command.now) c.self.view_is
