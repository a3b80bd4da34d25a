use Rattle.std.proofs.Common.{[], ◌∷◌, ◌++◌, ap, sym, subst, ◌∙◌, append_assoc, rules, ◌<◌, ◌+◌, ◌^◌}
use Rattle.client_table.specs.Clients.{Summary, told}
use Rattle.client_table.proofs.Tables.{told_none, told_both, none_left}
use Rattle.client_table.proofs.table.ClientTable.hear.Goals as goal

pub loop-answer-init : goal.loop-answer-init
loop-answer-init g c = (told_none c.args.self.now, search rules)

pub loop-answer-preserved : goal.loop-answer-preserved
loop-answer-preserved g c = (
  c.hear_one.ensures ∙ ap (told (c.in-Some.answer ∷ [])) c.loop-answer.invariant.0
      ∙ told_both c.loop-answer.yielded (c.in-Some.answer ∷ []) c.args.self.now,
  append_assoc c.loop-answer.yielded (c.in-Some.answer ∷ []) c.next.new.self.rest.items
      ∙ ap (λ items. c.loop-answer.yielded ++ items) (sym c.in-Some.ensures.steps.0) ∙ c.loop-answer.invariant.1,
)

pub overflow_add-self : goal.overflow_add-self
overflow_add-self g c =
    let few : c.self.inside.answered + c.len-count.result < 2 ^ 64 =
    subst (λ n. n + c.len-count.result < 2 ^ 64)
    (sym (ap (λ (s : Summary _ _). s.answered) (c.self.view_is ∙ c.loop-answer.invariant.0)))
    (subst (λ n. c.args.self.now.answered + n < 2 ^ 64) (sym (c.len-count.ensures ∙ c.args.given.ok.0)) c.requires.room) in
    search rules

pub returns : goal.returns
returns g c =
    ap (λ (s : Summary _ _). record s { answered = s.answered + c.len-count.result })
    (c.self.view_is ∙ c.loop-answer.invariant.0
    ∙ ap (λ given. told given c.args.self.now)
    (none_left c.loop-answer.yielded c.loop-answer.answer-iterator.rest.items c.args.given.items c.loop-answer.invariant.1
    (sym c.loop-answer.answer-iterator.rest.ok.0 ∙ c.in-None.ensures.steps.0)))
    ∙ ap (λ n. record (told c.args.given.items c.args.self.now) { answered = c.args.self.now.answered + n }) (c.len-count.ensures ∙ c.args.given.ok.0)
