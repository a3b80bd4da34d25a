use Rattle.std.proofs.Common.{Some, None, unwrap_or, nat_lt, lt-ltb, le-ltb, sym, ap, ◌∙◌}
use Rattle.std.proofs.lemmas.Bool.{cond-true, cond-false}
use Rattle.session_store.specs.Drafts.{Draft}
use Rattle.pause_store.specs.Pauses.{PauseState, pause_end}
use Rattle.pause_store.proofs.Seconds.{end-there, end-nowhere}
use Rattle.pause_store.proofs.pause_draft.PauseDraft.end.Goals as goal

pub returns-then-until-self : goal.returns-then-until-self
returns-then-until-self c =
    let v = c.in-Some.until in
    sym (ap (λ o. unwrap_or o 0) (end-there c.self.inside.second c.args.tube.now c.in-Some.until c.self.inside.seconds.now
    c.get.ensures.ordered (sym c.in-Some.ensures.value) ∙ cond-true (nat_lt c.self.inside.second c.in-Some.until) (Some c.in-Some.until) None
    (lt-ltb c.self.inside.second c.in-Some.until c.if-until-self.true))) ∙
    ap (λ (d : Draft PauseState). pause_end c.args.tube.now d.now.pauses) c.self.view_is

pub returns-else-until-self : goal.returns-else-until-self
returns-else-until-self c =
    sym (ap (λ o. unwrap_or o 0) (end-there c.self.inside.second c.args.tube.now c.in-Some.until c.self.inside.seconds.now
    c.get.ensures.ordered (sym c.in-Some.ensures.value) ∙ cond-false (nat_lt c.self.inside.second c.in-Some.until) (Some c.in-Some.until) None
    (le-ltb c.self.inside.second c.in-Some.until c.if-until-self.false))) ∙
    ap (λ (d : Draft PauseState). pause_end c.args.tube.now d.now.pauses) c.self.view_is

pub returns-in-None : goal.returns-in-None
returns-in-None c =
    sym (ap (λ o. unwrap_or o 0) (end-nowhere c.self.inside.second c.args.tube.now c.self.inside.seconds.now (sym c.in-None.ensures.value))) ∙
    ap (λ (d : Draft PauseState). pause_end c.args.tube.now d.now.pauses) c.self.view_is
