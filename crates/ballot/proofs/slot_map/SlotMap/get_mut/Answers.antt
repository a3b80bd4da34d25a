use Rattle.std.proofs.Common.{ℕ, sym, ap, subst, ◌∙◌, BTreeMap}
use Rattle.std.specs.Prelude.{T}
use Rattle.std.specs.Ordering.{nat_cmp}
use Rattle.std.specs.Map.{lookup}
use Rattle.std.specs.BTreeMap.{is_at}
use Rattle.std.specs.FinMap.{get, insert, from_sorted, is_sorted}
use Rattle.ballot.specs.Slots.{Slots}
use Rattle.ballot.proofs.Lending.{same_loan, there_where_lent}
use Rattle.ballot.proofs.SlotMaps.{sorted_from, get_view, insert_view}
use Rattle.ballot.proofs.slot_map.SlotMap.get_mut.Goals as goal

pub invariant_of-self-lent : goal.invariant_of-self-lent
invariant_of-self-lent g c = λ _. (
  λ w. sorted_from _ (c.get_mut.follows.holds w).4,
  subst (λ (m : BTreeMap ℕ g.row.X.Denot). T (is_sorted nat_cmp m.entries)) (sym c.get_mut.follows.holds-at-none) c.self.invariant,
)

pub returns : goal.returns
returns g c =
    let entries = c.self.inside.entries.entries in (
      same_loan c.get_mut.result _ _ _ _
          (λ lent w.
          insert_view entries (c.get_mut.follows.lender w).entries c.self.invariant (sorted_from _ (c.get_mut.follows.holds w).4) c.args.slot w
          ((c.get_mut.follows.holds w).3 (there_where_lent c.get_mut.result (lookup (is_at (nat_cmp c.args.slot)) entries) c.get_mut.ensures.value lent)).0 ∙
          ap (λ (m : Slots g.row.X.Denot). insert m c.args.slot w) c.self.view_is)
          (λ none. ap (λ (m : BTreeMap ℕ g.row.X.Denot). from_sorted {R = nat_cmp} m.entries) c.get_mut.follows.holds-at-none ∙ c.self.view_is),
      record {
        writes_back = tt;
        value = c.get_mut.ensures.value ∙ sym (get_view entries c.self.invariant c.args.slot) ∙ ap
            (λ (m : Slots g.row.X.Denot). get m c.args.slot) c.self.view_is;
      },
    )
