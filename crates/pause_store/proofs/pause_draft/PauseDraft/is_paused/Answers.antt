use Rattle.std.proofs.Common.{sym, ap, ◌∙◌}
use Rattle.session_store.specs.Drafts.{Draft}
use Rattle.pause_store.specs.Pauses.{PauseState, is_paused}
use Rattle.pause_store.proofs.Seconds.{paused-there, paused-nowhere}
use Rattle.pause_store.proofs.pause_draft.PauseDraft.is_paused.Goals as goal

pub returns-in-Some : goal.returns-in-Some
returns-in-Some c =
    sym (paused-there c.self.inside.second c.args.tube.now c.in-Some.until c.self.inside.seconds.now
    c.get.ensures.ordered (sym c.in-Some.ensures.value)) ∙
    ap (λ (d : Draft PauseState). is_paused c.args.tube.now d.now.pauses) c.self.view_is

pub returns-in-None : goal.returns-in-None
returns-in-None c =
    sym (paused-nowhere c.self.inside.second c.args.tube.now c.self.inside.seconds.now (sym c.in-None.ensures.value)) ∙
    ap (λ (d : Draft PauseState). is_paused c.args.tube.now d.now.pauses) c.self.view_is
