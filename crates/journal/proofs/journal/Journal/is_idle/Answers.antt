use Rattle.std.proofs.Common.{◌≡◌, ◌≤◌, [], length, sym, subst, ◌∙◌}
use Rattle.journal.specs.Waiting.{JournalState}
use Rattle.journal.proofs.journal.Journal.is_idle.Goals as goal
use Rattle.journal.proofs.Rests.{rest_none, none_rest, le_true, true_le}

pub returns : goal.returns
returns g c =
    let items = c.self.inside.waiting.items in
    let len : c.len.result ≡ length items = c.len.ensures ∙ c.self.inside.waiting.ok.0 in (
      λ all. subst (λ (j : JournalState _). j.waiting ≡ []) c.self.view_is
          (rest_none items c.self.inside.noted (subst (λ n. n ≤ c.self.inside.noted) len (le_true c.len.result c.self.inside.noted all))),
      λ none. true_le c.len.result c.self.inside.noted (subst (λ n. n ≤ c.self.inside.noted) (sym len)
          (none_rest items c.self.inside.noted (subst (λ (j : JournalState _). j.waiting ≡ []) (sym c.self.view_is) none))),
    )
