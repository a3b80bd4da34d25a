use Rattle.std.proofs.Common.{ℕ, List, subst, sym}
use Rattle.object.specs.Lists.{In}
use Rattle.pause_store.proofs.Ends.{kept-key, new-key}
use Rattle.pause_store.proofs.pause_draft.note_end.Goals as goal

pub returns-clause-grown : goal.returns-clause-grown
returns-clause-grown c = λ p i. subst (In p) (sym c.in_ok-insert.ensures.keys)
    (kept-key (record { until = c.args.until; tube = c.in_ok-copy.field-0 }) p c.args.ends.now.keys i)

pub returns-clause-ok : goal.returns-clause-ok
returns-clause-ok c =
    subst (λ (t : List ℕ). In (record { until = c.args.until; tube = t }) c.insert.new.self.keys) c.in_ok-copy.ensures
    (subst (In (record { until = c.args.until; tube = c.in_ok-copy.field-0 })) (sym c.in_ok-insert.ensures.keys)
    (new-key (record { until = c.args.until; tube = c.in_ok-copy.field-0 }) c.args.ends.now.keys))
