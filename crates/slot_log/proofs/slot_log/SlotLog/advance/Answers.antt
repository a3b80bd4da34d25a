use Rattle.std.proofs.Common.{◌≡◌, ◌≤◌, ◌<◌, ◌+◌, ◌^◌, length, Some, None, ap, subst, sym, ◌∙◌, arith}
use Rattle.std.specs.VecDeque.{deque_len, deque_capacity}
use Rattle.std.specs.FinMap.{get, remove}
use Rattle.std.specs.Option.{is_some, option_copied}
use Rattle.ballot.specs.Slots.{Slots}
use Rattle.slot_log.specs.Books.{SlotBook}
use Rattle.slot_log.specs.Decisions.{next_decided}
use Rattle.object.specs.KeyMaps.{at_key, with_key}
use Rattle.slot_log.specs.declared.places.Place.TheVariants.{Decided}
use Rattle.slot_log.specs.Kept.{KeepsBook}
use Rattle.slot_log.proofs.Maps.{len_removed}
use Rattle.slot_log.proofs.Advancing.{value_when, pushed, longer, once_decided, none_kept, proposal_placed, won_kept, lost_kept}
use Rattle.slot_log.proofs.slot_log.SlotLog.advance.Goals as goal

pub invariant_of-self : goal.invariant_of-self
invariant_of-self g c =
    let a = c.self.inside in
    let own = value_when ((0 < a.slot_out) × (a.slot_out ≤ 2 ^ 62)) c.new.result a.slot_out c.unwrap-slot.result c.new.ensures c.unwrap-slot.ensures in
    let there = ap (λ (b : SlotBook _). is_some (next_decided b)) c.self.view_is ∙ c.requires in
    let none : get a.proposals a.slot_out ≡ None = ap (get a.proposals) (sym own) ∙ sym c.in_default.ensures.value in
    subst (λ (ps : Slots g.row.C.Denot). KeepsBook g.C.PartialEq.eq g.C.Keyed.key_of
    (record a { slot_out = a.slot_out + 1; proposals = ps }))
    (sym (c.remove.ensures.rest ∙ ap (remove a.proposals) own))
    (none_kept g.C.PartialEq.eq g.C.Keyed.key_of g.met.C.Value.exact g.met.C.Eq.laws.refl a c.self.invariant none
    (once_decided g.C.PartialEq.eq g.C.Keyed.key_of g.met.C.Value.exact g.met.C.Eq.laws.refl a c.self.invariant there))

pub relocate-requires : goal.relocate-requires
relocate-requires g c =
    let a = c.self.inside in
    let own = value_when ((0 < a.slot_out) × (a.slot_out ≤ 2 ^ 62)) c.new.result a.slot_out c.unwrap-slot.result c.new.ensures c.unwrap-slot.ensures in
    proposal_placed g.C.PartialEq.eq g.C.Keyed.key_of g.met.C.Value.exact g.met.C.Eq.laws.refl a c.self.invariant
    c.in-Some.proposal (ap (get a.proposals) (sym own) ∙ sym c.in-Some.ensures.value)

pub relocate-requires-else-eq : goal.relocate-requires-else-eq
relocate-requires-else-eq g c =
    let a = c.self.inside in
    let own = value_when ((0 < a.slot_out) × (a.slot_out ≤ 2 ^ 62)) c.new.result a.slot_out c.unwrap-slot.result c.new.ensures c.unwrap-slot.ensures in
    proposal_placed g.C.PartialEq.eq g.C.Keyed.key_of g.met.C.Value.exact g.met.C.Eq.laws.refl a c.self.invariant
    c.in-Some.proposal (ap (get a.proposals) (sym own) ∙ sym c.in-Some.ensures.value)

pub invariant_of-self-then-eq : goal.invariant_of-self-then-eq
invariant_of-self-then-eq g c =
    let a = c.self.inside in
    let x = c.in-Some.proposal in
    let own = value_when ((0 < a.slot_out) × (a.slot_out ≤ 2 ^ 62)) c.new.result a.slot_out c.unwrap-slot.result c.new.ensures c.unwrap-slot.ensures in
    let there : get a.proposals a.slot_out ≡ Some x = ap (get a.proposals) (sym own) ∙ sym c.in-Some.ensures.value in
    let won : x ≡ c.unwrap.result.now = g.met.C.Value.exact x c.unwrap.result.now (sym c.eq.ensures ∙ c.if-eq.true) in
    let decided : get a.decisions a.slot_out ≡ Some x =
    ap (get a.decisions) (sym own) ∙ sym c.get.ensures ∙ ap option_copied c.unwrap.ensures ∙ ap (λ y. Some y)
    (sym won) in
    let less = len_removed a.proposals a.slot_out x there in
    let room = c.self.invariant.room in
    subst (λ (ps : Slots g.row.C.Denot). KeepsBook g.C.PartialEq.eq g.C.Keyed.key_of
    (record a { slot_out = a.slot_out + 1; proposals = ps; places = c.relocate.new.self }))
    (sym (c.remove.ensures.rest ∙ ap (remove a.proposals) own))
    (won_kept g.C.PartialEq.eq g.C.Keyed.key_of g.met.C.Value.exact g.met.C.Eq.laws.refl a c.self.invariant x there decided c.relocate.new.self
    (λ f q. c.relocate.ensures.here f q ∙ ap
    (λ s. with_key (at_key a.places.by_key) (g.C.Keyed.key_of x) (Decided s) q) own) c.relocate.ensures.other
    c.relocate.ensures.others (omega arith))

pub unwrap-requires-else-eq : goal.unwrap-requires-else-eq
unwrap-requires-else-eq g c =
    let a = c.self.inside in
    let own = value_when ((0 < a.slot_out) × (a.slot_out ≤ 2 ^ 62)) c.new.result a.slot_out c.unwrap-slot.result c.new.ensures c.unwrap-slot.ensures in
    let less = len_removed a.proposals a.slot_out c.in-Some.proposal (ap (get a.proposals) (sym own) ∙ sym c.in-Some.ensures.value) in
    let room = c.self.invariant.room in
    let space : deque_len a.requests < deque_capacity a.requests = omega arith in
    c.push_back.ensures.succeeds space

pub invariant_of-self-else-eq : goal.invariant_of-self-else-eq
invariant_of-self-else-eq g c =
    let a = c.self.inside in
    let x = c.in-Some.proposal in
    let own = value_when ((0 < a.slot_out) × (a.slot_out ≤ 2 ^ 62)) c.new.result a.slot_out c.unwrap-slot.result c.new.ensures c.unwrap-slot.ensures in
    let decided = ap (λ (b : SlotBook _). is_some (next_decided b)) c.self.view_is ∙ c.requires in
    let there : get a.proposals a.slot_out ≡ Some x = ap (get a.proposals) (sym own) ∙ sym c.in-Some.ensures.value in
    let less = len_removed a.proposals a.slot_out x there in
    let room = c.self.invariant.room in
    let space : deque_len a.requests < deque_capacity a.requests = omega arith in
    let place = c.push_back.ensures.in_place space in
    let more = longer (deque_len c.push_back.new.self)
    (deque_len a.requests) c.push_back.result c.unwrap-else-eq.result c.push_back.ensures.len
    c.unwrap-else-eq.ensures in
    let items = pushed c.push_back.new.self.items a.requests.items x c.push_back.result c.unwrap-else-eq.result
    c.push_back.ensures.items c.unwrap-else-eq.ensures in
    let rank = a.front_rank + c.len.result in
    let last : rank ≡ a.front_rank + length a.requests.items = let len = c.len.ensures in let all = a.requests.ok.0 in omega arith in
    subst (λ (ps : Slots g.row.C.Denot). KeepsBook g.C.PartialEq.eq g.C.Keyed.key_of
    (record a {
      slot_out = a.slot_out + 1;
      requests = c.push_back.new.self;
      proposals = ps;
      places =
          c.relocate-else-eq.new.self;
    })) (sym (c.remove.ensures.rest ∙ ap (remove a.proposals) own))
    (lost_kept g.C.PartialEq.eq g.C.Keyed.key_of g.met.C.Value.exact g.met.C.Eq.laws.refl a c.self.invariant x there
    (once_decided g.C.PartialEq.eq g.C.Keyed.key_of g.met.C.Value.exact g.met.C.Eq.laws.refl a c.self.invariant decided) c.push_back.new.self items rank last c.relocate-else-eq.new.self
    c.relocate-else-eq.ensures.here c.relocate-else-eq.ensures.other c.relocate-else-eq.ensures.others (omega arith))
