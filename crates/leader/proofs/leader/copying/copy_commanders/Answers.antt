use Rattle.std.proofs.Common.{rules, List, ℕ, ap, ap₂, ◌∙◌}
use Rattle.std.proofs.lemmas.List.{map-id}
use Rattle.std.specs.Ordering.{nat_cmp}
use Rattle.std.specs.FinMap.{insert, entries, from_entries, entries_sorted}
use Rattle.std.specs.Map.Iter.{deref_pair}
use Rattle.std.proofs.Common.{map}
use Rattle.scout_commander.specs.Commanders.{Commanding}
use Rattle.ballot.specs.Slots.{Slots}
use Rattle.ballot.proofs.SlotMaps.{from_its_entries}
use Rattle.ballot.proofs.Turns.{turn, whole}
use Rattle.leader.proofs.leader.copying.copy_commanders.Goals as goal

pub loop-slot-preserved : goal.loop-slot-preserved
loop-slot-preserved g c =
    c.in_ok-insert.ensures.ok.0 ∙
    ap₂ (λ (m : Slots (Commanding g.row.C.Denot)) v. insert m c.in-Some.slot.now v) c.loop-slot.invariant c.in_ok-copy.ensures ∙
    turn deref_pair (λ s v. v) (entries c.args.commanders.now) c.loop-slot.yielded c.into_iter-slot-iterator.result
    c.loop-slot.slot-iterator c.next.new.self c.next.result
    (search rules) c.loop-slot.yielded_by (entries_sorted c.args.commanders.now) (c.in-Some.slot, c.in-Some.commander) c.in-Some.is c.next.ensures.steps

pub returns : goal.returns
returns g c =
    c.loop-slot.invariant ∙
    ap (λ (es : List (ℕ × Commanding g.row.C.Denot)). from_entries {R = nat_cmp} es)
    (map-id (map deref_pair c.loop-slot.yielded) ∙
    whole deref_pair (λ s v. v) (entries c.args.commanders.now) c.loop-slot.yielded c.into_iter-slot-iterator.result
    c.loop-slot.slot-iterator c.next.new.self c.next.result
    (search rules) c.loop-slot.yielded_by c.in-None.is c.next.ensures.steps) ∙
    from_its_entries c.args.commanders.now
