use Rattle.std.proofs.Common.{rules, ℕ, List, sym, ap, ◌∙◌}
use Rattle.std.specs.Option.{option_or}
use Rattle.std.specs.Ordering.{nat_cmp}
use Rattle.std.specs.FinMap.{get, find, insert, entries, get-entries}
use Rattle.std.specs.Map.Iter.{deref_pair}
use Rattle.ballot.proofs.Turns.{whole}
use Rattle.leader.proofs.GreatestValues.{open_taken, open_kept}
use Rattle.leader.proofs.greatest.take_open.Goals as goal

pub loop-slot-preserved-in_ok-insert : goal.loop-slot-preserved-in_ok-insert
loop-slot-preserved-in_ok-insert g c = λ s.
    open_taken deref_pair c.loop-slot.yielded (c.in-Some.slot, c.in-Some.command) c.args.taken.now c.loop-slot.taken s c.insert.new.self
    (sym c.contains.ensures ∙ c.if-not-contains.true)
    (c.in_ok-insert.ensures.ok.0 ∙ ap (λ v. insert c.loop-slot.taken c.in-Some.slot.now v) c.in_ok-copy.ensures)
    (c.loop-slot.invariant s)

pub loop-slot-preserved : goal.loop-slot-preserved
loop-slot-preserved g c = λ s.
    open_kept deref_pair c.loop-slot.yielded (c.in-Some.slot, c.in-Some.command) c.args.taken.now c.loop-slot.taken s
    (sym c.contains.ensures ∙ c.if-not-contains.false) (c.loop-slot.invariant s)

pub returns : goal.returns
returns g c = λ s.
    c.loop-slot.invariant s ∙
    ap (λ o. option_or (get c.args.taken.now s) o)
    (ap (λ (es : List (ℕ × g.row.C.Denot)). find nat_cmp s es)
    (whole deref_pair (λ (k : ℕ) (v : g.row.C.Denot). v)
    (entries c.args.proposals.now) c.loop-slot.yielded c.into_iter-slot-iterator.result c.loop-slot.slot-iterator
    c.next.new.self c.next.result
    (search rules) c.loop-slot.yielded_by c.in-None.is c.next.ensures.steps) ∙ sym (get-entries c.args.proposals.now s))
