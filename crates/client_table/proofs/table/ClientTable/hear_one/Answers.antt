use Rattle.std.proofs.Common.{[], ◌∷◌, sym, ap, subst, ◌∙◌, refl, BTreeMap, ℕ, IsSome}
use Rattle.std.specs.Option.{option_copied_mut}
use Rattle.std.specs.FinMap.{from_entries}
use Rattle.client_table.specs.Clients.{Summary, HasOwnCommands, told}
use Rattle.client_table.specs.declared.client.Client.{Client}
use Rattle.client_table.proofs.Tables.{own_told, told_in, told_in_none, with_same}
use Rattle.client_table.proofs.table.ClientTable.hear_one.Goals.{in-Some, in_default}
use Rattle.client_table.proofs.table.ClientTable.hear_one.Goals as goal

pub invariant_of-self : goal.invariant_of-self
invariant_of-self g c = elim c.match-get_mut.branch [
  | in-Some w ↦ subst (λ inside. HasOwnCommands (from_entries inside.clients.entries)) (sym w.self-inside-is)
      (subst HasOwnCommands
      (sym (told_in c.self.inside.clients.entries (c.get_mut.follows.lender w.hear.new.self).entries c.args.answer w.in-Some.client.now w.hear.new.self
      c.self.invariant w.in-Some.ensures.value w.hear.ensures
      ((c.get_mut.follows.holds w.hear.new.self).3 (subst IsSome w.in-Some.ensures.value refl)).0))
      (own_told _ (c.args.answer ∷ []) c.self.invariant))
  | in_default w ↦ subst (λ inside. HasOwnCommands (from_entries inside.clients.entries)) (sym w.self-inside-is)
      (subst (λ (m : BTreeMap ℕ (Client _ _)). HasOwnCommands (from_entries m.entries)) (sym c.get_mut.follows.holds-at-none) c.self.invariant)
]

pub returns : goal.returns
returns g c = elim c.match-get_mut.branch [
  | in-Some w ↦ ap (λ inside. record {
    clients = from_entries inside.clients.entries;
    submitted = inside.submitted;
    answered = inside.answered;
    placed = inside.placed;
  }) w.self-inside-is
      ∙ with_same _ _ c.self.inside.submitted c.self.inside.answered c.self.inside.placed
      (told_in c.self.inside.clients.entries (c.get_mut.follows.lender w.hear.new.self).entries c.args.answer w.in-Some.client.now w.hear.new.self
      c.self.invariant w.in-Some.ensures.value w.hear.ensures
      ((c.get_mut.follows.holds w.hear.new.self).3 (subst IsSome w.in-Some.ensures.value refl)).0)
      ∙ ap (λ (s : Summary _ _). told (c.args.answer ∷ []) s) c.self.view_is
  | in_default w ↦ ap (λ inside. record {
    clients = from_entries inside.clients.entries;
    submitted = inside.submitted;
    answered = inside.answered;
    placed = inside.placed;
  }) w.self-inside-is
      ∙ with_same _ _ c.self.inside.submitted c.self.inside.answered c.self.inside.placed
      (ap (λ (m : BTreeMap ℕ (Client _ _)). from_entries m.entries) c.get_mut.follows.holds-at-none
      ∙ told_in_none c.self.inside.clients.entries c.args.answer c.self.invariant (sym c.get_mut.ensures.value ∙ ap option_copied_mut w.in_default.is))
      ∙ ap (λ (s : Summary _ _). told (c.args.answer ∷ []) s) c.self.view_is
]
