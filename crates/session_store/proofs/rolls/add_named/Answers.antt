use Rattle.std.proofs.Common.{◌≡◌, ◌⊎◌, ◌∙◌, true, ap, inl, inr, sym, true≢false}
use Rattle.std.proofs.lemmas.Result.{on_ok_weaker}
use Rattle.object.specs.Lists.{In}
use Rattle.session_store.specs.Rolls.{is_named}
use Rattle.session_store.proofs.rolls.add_named.Goals as goal

pub returns-then-not-has_named-clause-there : goal.returns-then-not-has_named-clause-there
returns-then-not-has_named-clause-there c = λ has. absurd (true≢false (sym has ∙ sym c.has_named.ensures ∙ c.if-not-has_named.true))

pub returns-clause-added : goal.returns-clause-added
returns-clause-added c = record {
  kept = c.add_name.ensures.kept;
  only = λ t i.
      elim (c.add_name.ensures.only t i) as (λ v. In t c.args.names.now.keys ⊎ (is_named t c.args.sessions.now.entries ≡ true)) [
        | inl was ↦ inl was
        | inr same ↦ inr (ap (λ u. is_named u c.args.sessions.now.entries) same ∙ sym c.has_named.ensures ∙ c.if-not-has_named.false)
      ];
}

pub returns-clause-there : goal.returns-clause-there
returns-clause-there c = on_ok_weaker c.add_name.result (λ there has. there) c.add_name.ensures.there
