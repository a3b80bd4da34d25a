use Rattle.std.proofs.Common.{◌≡◌, ◌+◌, List, ◌∷◌, ◌++◌, length, Option, ap, subst, sym, ◌∙◌, arith}
use Rattle.std.specs.FinMap.{len, insert}
use Rattle.std.specs.Option.{option_to_list}
use Rattle.std.specs.List.{slice_index_or}
use Rattle.ballot.specs.Slots.{Slots}
use Rattle.slot_log.specs.Proposals.{open_slot, IsLeastOpen}
use Rattle.slot_log.specs.Kept.{book_of, KeepsBook}
use Rattle.slot_log.proofs.Maps.{len_inserted}
use Rattle.slot_log.proofs.OpenSlots.{open_is}
use Rattle.slot_log.proofs.Proposing.{proposal_kept}
use Rattle.slot_log.proofs.slot_log.SlotLog.propose_next.Goals as goal

pub invariant_of-self-2 : goal.invariant_of-self-2
invariant_of-self-2 g c =
    let a = c.self.inside in
    let kept = c.self.invariant in
    let slot = c.in-Some-open_slot.slot in
    let x = c.unwrap-command.result in
    let least : IsLeastOpen (book_of a) slot = open_is (book_of a) slot (ap open_slot c.self.view_is ∙ sym c.in-Some-open_slot.ensures) in
    let first : a.requests.items ≡ x ∷ c.pop_front.new.self.items =
    c.pop_front.ensures.items ∙ ap
    (λ (o : Option _). option_to_list o ++ c.pop_front.new.self.items) c.unwrap-command.ensures in
    let copy : c.in_ok-copy.copy ≡ x = c.in_ok-copy.ensures ∙ c.in-Some.ensures.lookup ∙ ap (λ (xs : List _). slice_index_or xs 0 c.in-Some.first.now) first in
    let popped = c.pop_front.ensures.len in
    let one = ap (λ (o : Option _). length (option_to_list o)) c.unwrap-command.ensures in
    let grown : len (insert a.proposals slot x) ≡ len a.proposals + 1 = len_inserted a.proposals slot x (kept.ahead slot least.next) in
    let puts : c.insert.new.self ≡ insert a.proposals slot x = c.in_ok-insert.ensures.ok.0 ∙ ap (insert a.proposals slot) copy in
    let room = kept.room in
    let rest = c.pop_front.ensures.capacity in
    subst (λ (ps : Slots g.row.C.Denot). KeepsBook g.C.PartialEq.eq g.C.Keyed.key_of
    (record a {
      slot_in = c.number.result + 1;
      requests = c.pop_front.new.self;
      proposals = ps;
      front_rank =
          a.front_rank + 1;
      places = c.relocate.new.self;
    })) (sym puts)
    (proposal_kept g.C.PartialEq.eq g.C.Keyed.key_of g.met.C.Value.exact g.met.C.Eq.laws.refl a kept
    c.pop_front.new.self x first slot (c.number.result + 1) least
    (ap (λ n. n + 1) c.number.ensures.number) c.relocate.new.self
    c.relocate.ensures.here c.relocate.ensures.other c.relocate.ensures.others (omega arith))
