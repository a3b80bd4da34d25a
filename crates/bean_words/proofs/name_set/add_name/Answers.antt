use Rattle.std.proofs.Common.{◌⊎◌, ◌≡◌, ◌∙◌, inl, inr, sym, subst}
use Rattle.object.specs.Lists.{In}
use Rattle.bean_words.proofs.naming.NameSets.{from-insert, to-insert, found-in}
use Rattle.bean_words.proofs.name_set.add_name.Goals as goal

pub returns-else-not-contains-clause-there : goal.returns-else-not-contains-clause-there
returns-else-not-contains-clause-there c = found-in c.args.name.now c.args.names.now.keys (sym c.contains.ensures ∙ c.if-not-contains.false)

pub returns-in_ok-insert-clause-kept : goal.returns-in_ok-insert-clause-kept
returns-in_ok-insert-clause-kept c = λ t i. subst (In t) (sym c.in_ok-insert.ensures.keys) (to-insert t c.in_ok-copy.field-0 c.args.names.now.keys (inl i))

pub returns-in_ok-insert-clause-only : goal.returns-in_ok-insert-clause-only
returns-in_ok-insert-clause-only c = λ t i.
    elim (from-insert t c.in_ok-copy.field-0 c.args.names.now.keys
    (subst (In t) c.in_ok-insert.ensures.keys i)) as (λ v. In t c.args.names.now.keys ⊎ (t ≡ c.args.name.now)) [
      | inl old ↦ inl old
      | inr same ↦ inr (same ∙ c.in_ok-copy.ensures)
    ]

pub returns-in_ok-insert-clause-there : goal.returns-in_ok-insert-clause-there
returns-in_ok-insert-clause-there c =
    subst (In c.args.name.now) (sym c.in_ok-insert.ensures.keys)
    (to-insert c.args.name.now c.in_ok-copy.field-0 c.args.names.now.keys (inr (sym c.in_ok-copy.ensures)))
