use Rattle.std.proofs.Common.{◌≤◌, ◌<◌, ◌↔◌, List, ℕ, sym, ap, subst, ◌∙◌}
use Rattle.object.specs.Lists.{In}
use Rattle.session_store.specs.Drafts.{Draft}
use Rattle.pause_store.specs.Pauses.{PauseState, at_second, left_at}
use Rattle.pause_store.proofs.Seconds.{each-left, left-later}
use Rattle.pause_store.proofs.pause_draft.PauseDraft.pass.Goals as goal

pub returns-clause-now : goal.returns-clause-now
returns-clause-now c =
    ap (λ (es : List (List ℕ × ℕ)). record { second = c.args.second; pauses = es })
    (sym (left-later c.self.inside.second c.args.second c.self.inside.seconds.now
    (subst (λ (d : Draft PauseState). d.now.second ≤ c.args.second) (sym c.self.view_is) c.requires.later))) ∙
    ap (λ (d : Draft PauseState). at_second c.args.second d.now) c.self.view_is

pub returns-clause-each : goal.returns-clause-each
returns-clause-each c p =
    subst (λ (d : Draft PauseState). In p (left_at c.args.second c.self.inside.seconds.now) ↔ (In p d.now.pauses × (c.args.second < p.1))) c.self.view_is
    (each-left c.self.inside.second c.args.second p c.self.inside.seconds.now
    (subst (λ (d : Draft PauseState). d.now.second ≤ c.args.second) (sym c.self.view_is) c.requires.later))
