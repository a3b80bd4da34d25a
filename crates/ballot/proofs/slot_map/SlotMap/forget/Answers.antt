use Rattle.std.proofs.Common.{ℕ, List, sym, ap, subst, ◌∙◌}
use Rattle.std.specs.Prelude.{T}
use Rattle.std.specs.Ordering.{nat_cmp}
use Rattle.std.specs.FinMap.{is_sorted}
use Rattle.ballot.specs.Slots.{Slots}
use Rattle.ballot.specs.Rests.{kept_from}
use Rattle.ballot.proofs.Rests.{kept_sorted, kept_view}
use Rattle.ballot.proofs.slot_map.SlotMap.forget.Goals as goal

pub invariant_of-self : goal.invariant_of-self
invariant_of-self g c =
    subst (λ (es : List (ℕ × g.row.X.Denot)). T (is_sorted nat_cmp es)) (sym c.drop_below.ensures)
    (kept_sorted c.args.base c.self.inside.entries.entries c.self.invariant)

pub returns : goal.returns
returns g c =
    kept_view c.args.base c.self.inside.entries.entries c.drop_below.new.entries.entries c.self.invariant c.drop_below.ensures ∙
    ap (λ (m : Slots g.row.X.Denot). kept_from c.args.base m) c.self.view_is
