use Rattle.std.proofs.Common.{◌≡◌, ◌+◌, ◌<◌, ◌≤◌, ◌^◌, true, List, length, Some, refl, sym, subst, ◌∙◌, arith}
use Rattle.std.proofs.lemmas.Option.{slice_get_read}
use Rattle.std.specs.List.{slice_get}
use Rattle.std.specs.Option.{SomeIff}
use Rattle.ballot.specs.Rests.{kept_from}
use Rattle.ballot.proofs.Rests.{get_high}
use Rattle.object.specs.KeyMaps.{at_key}
use Rattle.slot_log.specs.Places.{stands_at, is_found}
use Rattle.slot_log.specs.declared.places.Place.TheVariants.{Requested, Proposed, Decided}
use Rattle.slot_log.specs.declared.places.Places.{Places}
use Rattle.slot_log.proofs.Forgetting.{kept_stands}
use Rattle.slot_log.proofs.Ranks.{ranked_at}
use Rattle.slot_log.proofs.Seen.{next_request, all_requests, next_proposal, no_proposal, all_proposals, next_decision, no_decision, all_decisions}
use Rattle.slot_log.proofs.Settling.{Settles, ranks_below, proposals_below, decisions_below, settled_placed, settled_more, settled_still}
use Rattle.slot_log.proofs.slot_log.forgetting.settle.Goals as goal
use Rattle.slot_log.proofs.slot_log.forgetting.settle.Goals.{in-Some, in_default, in-Some-get, in_default-get}

pub relocate-requires : goal.relocate-requires
relocate-requires g c =
    let rs = c.args.requests.now.items in
    let f = c.args.front_rank in
    let ps = c.args.proposals.now in
    let ds = c.args.decisions.now in
    let b = c.args.base in
    let all = c.args.requests.now.ok.0 in
    let len = c.len-index-end.ensures in
    let i = c.loop-index.index in
    let x = c.index.result.now in
    let got : slice_get rs i ≡ Some x = slice_get_read rs (length rs) i x refl (omega arith) c.index.ensures in
    settled_placed g.C.PartialEq.eq g.C.Keyed.key_of g.met.C.Value.exact g.met.C.Eq.laws.refl (stands_at rs f ps ds)
    (stands_at rs f ps (kept_from b ds)) c.args.places.now.others.items (ranks_below (f + i)) (ranks_below (f + (i + 1)))
    (kept_stands b rs f ps ds) c.loop-index.places c.loop-index.invariant
    (Requested (f + i)) x (ranked_at rs f (f + i) i refl ∙ got)

pub loop-index-preserved : goal.loop-index-preserved
loop-index-preserved g c =
    let rs = c.args.requests.now.items in
    let f = c.args.front_rank in
    let ps = c.args.proposals.now in
    let ds = c.args.decisions.now in
    let b = c.args.base in
    let all = c.args.requests.now.ok.0 in
    let len = c.len-index-end.ensures in
    let i = c.loop-index.index in
    let x = c.index.result.now in
    let got : slice_get rs i ≡ Some x = slice_get_read rs (length rs) i x refl (omega arith) c.index.ensures in
    settled_more g.C.PartialEq.eq g.C.Keyed.key_of g.met.C.Value.exact g.met.C.Eq.laws.refl (stands_at rs f ps ds)
    (stands_at rs f ps (kept_from b ds)) c.args.places.now.others.items (ranks_below (f + i)) (ranks_below (f + (i + 1)))
    (kept_stands b rs f ps ds) c.loop-index.places c.loop-index.invariant
    c.relocate.new.self x (Requested (f + i)) c.relocate.ensures.here c.relocate.ensures.other c.relocate.ensures.others
    (ranked_at rs f (f + i) i refl ∙ got) (next_request rs f ps ds b i x got)

pub loop-number-init : goal.loop-number-init
loop-number-init g c =
    let rs = c.args.requests.now.items in
    let f = c.args.front_rank in
    let ps = c.args.proposals.now in
    let ds = c.args.decisions.now in
    let b = c.args.base in
    let all = c.args.requests.now.ok.0 in
    let len = c.len-index-end.ensures in
    settled_still g.C.PartialEq.eq g.C.Keyed.key_of g.met.C.Value.exact g.met.C.Eq.laws.refl (stands_at rs f ps ds)
    (stands_at rs f ps (kept_from b ds)) c.args.places.now.others.items (ranks_below (f + c.loop-index.index)) (proposals_below b)
    (kept_stands b rs f ps ds) c.loop-index.places c.loop-index.invariant
    (all_requests rs f ps ds b c.loop-index.index (omega arith) (λ s there. (c.requires.proposals s there).0))

pub relocate-requires-in-Some : goal.relocate-requires-in-Some
relocate-requires-in-Some g c =
    let rs = c.args.requests.now.items in
    let f = c.args.front_rank in
    let ps = c.args.proposals.now in
    let ds = c.args.decisions.now in
    let b = c.args.base in
    settled_placed g.C.PartialEq.eq g.C.Keyed.key_of g.met.C.Value.exact g.met.C.Eq.laws.refl (stands_at rs f ps ds)
    (stands_at rs f ps (kept_from b ds)) c.args.places.now.others.items (proposals_below c.loop-number.number) (proposals_below c.loop-number.number)
    (kept_stands b rs f ps ds) c.loop-number.places c.loop-number.invariant
    (Proposed c.unwrap-slot.result) c.in-Some.command.now (sym c.in-Some.ensures)

pub loop-number-preserved : goal.loop-number-preserved
loop-number-preserved g c =
    let rs = c.args.requests.now.items in
    let f = c.args.front_rank in
    let ps = c.args.proposals.now in
    let ds = c.args.decisions.now in
    let b = c.args.base in
    let n = c.loop-number.number in
    let slot = c.unwrap-slot.result in
    let own : slot ≡ n = (subst (λ r. SomeIff r ((0 < n) × (n ≤ 2 ^ 62)) n) c.unwrap-slot.ensures c.new.ensures).1 in
    let Then = λ (places : Places g.row.C.Denot). Settles g.C.PartialEq.eq g.C.Keyed.key_of (stands_at rs f ps ds)
    (stands_at rs f ps (kept_from b ds)) c.args.places.now.others.items (proposals_below (n + 1)) places in
    elim c.match-get.branch as (λ _. Then c.match-get.places) [
      | in-Some w ↦ subst Then (sym w.places-is)
          (settled_more g.C.PartialEq.eq g.C.Keyed.key_of g.met.C.Value.exact g.met.C.Eq.laws.refl (stands_at rs f ps ds)
          (stands_at rs f ps (kept_from b ds)) c.args.places.now.others.items (proposals_below n) (proposals_below (n + 1))
          (kept_stands b rs f ps ds) c.loop-number.places c.loop-number.invariant
          w.relocate-in-Some.new.self w.in-Some.command.now (Proposed slot) w.relocate-in-Some.ensures.here w.relocate-in-Some.ensures.other
          w.relocate-in-Some.ensures.others
          (sym w.in-Some.ensures) (next_proposal rs f ps ds b n slot own w.in-Some.command.now (sym w.in-Some.ensures)))
      | in_default w ↦ subst Then (sym w.places-is)
          (settled_still g.C.PartialEq.eq g.C.Keyed.key_of g.met.C.Value.exact g.met.C.Eq.laws.refl (stands_at rs f ps ds)
          (stands_at rs f ps (kept_from b ds)) c.args.places.now.others.items (proposals_below n) (proposals_below (n + 1))
          (kept_stands b rs f ps ds) c.loop-number.places c.loop-number.invariant
          (no_proposal rs f ps ds b n slot own (sym w.in_default.ensures)))
    ]

pub loop-number-2-init : goal.loop-number-2-init
loop-number-2-init g c =
    let rs = c.args.requests.now.items in
    let f = c.args.front_rank in
    let ps = c.args.proposals.now in
    let ds = c.args.decisions.now in
    let b = c.args.base in
    settled_still g.C.PartialEq.eq g.C.Keyed.key_of g.met.C.Value.exact g.met.C.Eq.laws.refl (stands_at rs f ps ds)
    (stands_at rs f ps (kept_from b ds)) c.args.places.now.others.items (proposals_below c.loop-number.number) (decisions_below b)
    (kept_stands b rs f ps ds) c.loop-number.places c.loop-number.invariant
    (all_proposals rs f ps ds b c.loop-number.number c.args.end (omega arith) (λ s there. (c.requires.proposals s there).1))

pub relocate-requires-in-Some-get : goal.relocate-requires-in-Some-get
relocate-requires-in-Some-get g c =
    let rs = c.args.requests.now.items in
    let f = c.args.front_rank in
    let ps = c.args.proposals.now in
    let ds = c.args.decisions.now in
    let b = c.args.base in
    settled_placed g.C.PartialEq.eq g.C.Keyed.key_of g.met.C.Value.exact g.met.C.Eq.laws.refl (stands_at rs f ps ds)
    (stands_at rs f ps (kept_from b ds)) c.args.places.now.others.items (decisions_below c.loop-number-2.number) (decisions_below c.loop-number-2.number)
    (kept_stands b rs f ps ds) c.loop-number-2.places c.loop-number-2.invariant
    (Decided c.unwrap-slot-in-loop-number-2.result) c.in-Some-get.command.now (sym c.in-Some-get.ensures)

pub loop-number-2-preserved : goal.loop-number-2-preserved
loop-number-2-preserved g c =
    let rs = c.args.requests.now.items in
    let f = c.args.front_rank in
    let ps = c.args.proposals.now in
    let ds = c.args.decisions.now in
    let b = c.args.base in
    let n = c.loop-number-2.number in
    let slot = c.unwrap-slot-in-loop-number-2.result in
    let own : slot ≡ n = (subst (λ r. SomeIff r ((0 < n) × (n ≤ 2 ^ 62)) n) c.unwrap-slot-in-loop-number-2.ensures c.new-in-loop-number-2.ensures).1 in
    let Then = λ (places : Places g.row.C.Denot). Settles g.C.PartialEq.eq g.C.Keyed.key_of (stands_at rs f ps ds)
    (stands_at rs f ps (kept_from b ds)) c.args.places.now.others.items (decisions_below (n + 1)) places in
    elim c.match-get-2.branch as (λ _. Then c.match-get-2.places) [
      | in-Some-get w ↦ subst Then (sym w.places-is)
          (settled_more g.C.PartialEq.eq g.C.Keyed.key_of g.met.C.Value.exact g.met.C.Eq.laws.refl (stands_at rs f ps ds)
          (stands_at rs f ps (kept_from b ds)) c.args.places.now.others.items (decisions_below n) (decisions_below (n + 1))
          (kept_stands b rs f ps ds) c.loop-number-2.places c.loop-number-2.invariant
          w.relocate-in-Some-get.new.self w.in-Some-get.command.now (Decided slot)
          w.relocate-in-Some-get.ensures.here w.relocate-in-Some-get.ensures.other w.relocate-in-Some-get.ensures.others
          (get_high b ds slot (omega arith) ∙ sym w.in-Some-get.ensures) (next_decision rs f ps ds b n slot own w.in-Some-get.command.now
          (sym w.in-Some-get.ensures)))
      | in_default-get w ↦ subst Then (sym w.places-is)
          (settled_still g.C.PartialEq.eq g.C.Keyed.key_of g.met.C.Value.exact g.met.C.Eq.laws.refl (stands_at rs f ps ds)
          (stands_at rs f ps (kept_from b ds)) c.args.places.now.others.items (decisions_below n) (decisions_below (n + 1))
          (kept_stands b rs f ps ds) c.loop-number-2.places c.loop-number-2.invariant
          (no_decision rs f ps ds b n slot own (sym w.in_default-get.ensures)))
    ]

pub returns : goal.returns
returns g c = λ p d there.
    let rs = c.args.requests.now.items in
    let f = c.args.front_rank in
    let ps = c.args.proposals.now in
    let ds = c.args.decisions.now in
    let b = c.args.base in
    subst (λ (os : List _). is_found g.C.PartialEq.eq g.C.Keyed.key_of (at_key c.loop-number-2.places.by_key)
    (stands_at rs f ps (kept_from b ds)) os d ≡ true)
    (sym c.loop-number-2.invariant.left)
    (c.loop-number-2.invariant.mine p d
    (all_decisions rs f ps ds b c.loop-number-2.number c.args.end (omega arith) c.requires.decisions p d there) there)
