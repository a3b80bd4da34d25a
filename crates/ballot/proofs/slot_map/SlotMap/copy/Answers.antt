use Rattle.std.proofs.Common.{rules, List, ℕ, map, sym, ap, ap₂, ◌∙◌}
use Rattle.std.proofs.lemmas.List.{map-id}
use Rattle.std.specs.Ordering.{nat_cmp}
use Rattle.std.specs.FinMap.{insert, from_entries, entries-from_sorted}
use Rattle.std.specs.Map.Iter.{deref_pair}
use Rattle.ballot.proofs.SlotMaps.{from_its_entries}
use Rattle.ballot.proofs.Turns.{turn, whole}
use Rattle.ballot.proofs.slot_map.SlotMap.copy.Goals as goal

pub loop-slot-preserved : goal.loop-slot-preserved
loop-slot-preserved g c =
    c.in_ok-insert.ensures.ok.0 ∙
    ap₂ (λ m v. insert m c.in-Some.slot.now v) c.loop-slot.invariant c.in_ok-copy.ensures ∙
    turn deref_pair (λ k v. v) c.self.inside.entries.entries c.loop-slot.yielded c.into_iter-slot-iterator.result
    c.loop-slot.slot-iterator c.next.new.self c.next.result
    (search rules) c.loop-slot.yielded_by c.self.invariant (c.in-Some.slot, c.in-Some.value) c.in-Some.is c.next.ensures.steps

pub returns : goal.returns
returns g c =
    c.loop-slot.invariant ∙
    ap (λ (es : List (ℕ × g.row.C.Denot)). from_entries {R = nat_cmp} es)
    (map-id (map deref_pair c.loop-slot.yielded) ∙
    whole deref_pair (λ k v. v) c.self.inside.entries.entries c.loop-slot.yielded c.into_iter-slot-iterator.result
    c.loop-slot.slot-iterator c.next.new.self c.next.result
    (search rules) c.loop-slot.yielded_by c.in-None.is c.next.ensures.steps ∙
    sym (entries-from_sorted nat_cmp c.self.inside.entries.entries c.self.invariant)) ∙
    from_its_entries _ ∙ c.self.view_is
