use Rattle.std.proofs.Common.{[], ◌∷◌, reverse, inl, refl, sym, ap, subst, ◌∙◌}
use Rattle.std.proofs.lemmas.List.{append-nil, reverse-append, reverse-reverse}
use Rattle.object.specs.Answers.{answered_key}
use Rattle.object.specs.Happenings.{is_submitted}
use Rattle.object.specs.Lists.{In}
use Rattle.object.specs.ListLaws.{In-left, In-right}
use Rattle.recorder.specs.Firsts.{firsts}
use Rattle.recorder.specs.Records.{IsRecord, record_of, with_first_answers}
use Rattle.recorder.proofs.Cuts.{firsts_all}
use Rattle.recorder.proofs.LookUps.{in_reverse, empty, firsts_next}
use Rattle.recorder.proofs.recorder.Recorder.answer_all.Goals as goal

pub loop-answer-init : goal.loop-answer-init
loop-answer-init g c = record {
  left = refl;
  recorded = subst IsRecord c.self.view_is c.self.invariant.recorded;
  known = λ a i. c.requires a (in_reverse a c.args.given.now.items (subst (In a) c.reverse.ensures.items i));
}

pub answer-requires : goal.answer-requires
answer-requires g c =
    c.loop-answer.invariant.known c.in-Some.answer
    (subst (In c.in-Some.answer) (sym c.in-Some.ensures.items) (In-right c.in-Some.answer c.pop.new.self.items (c.in-Some.answer ∷ []) (inl refl)))

pub loop-answer-preserved : goal.loop-answer-preserved
loop-answer-preserved g c =
    let r = c.loop-answer.self in
    let a = c.in-Some.answer in
    let left = c.pop.new.self.items in
    record {
      left = ap (with_first_answers (reverse left)) c.answer.ensures.answers
          ∙ ap (λ xs. record_of r.happenings.submitted xs r.order) (firsts_next answered_key r.happenings.answers (reverse left) a)
          ∙ ap (λ xs. with_first_answers xs r) (sym (reverse-append left (a ∷ [])) ∙ ap reverse (sym c.in-Some.ensures.items))
          ∙ c.loop-answer.invariant.left;
      recorded = c.answer.ensures.kept;
      known = λ b i. ap (λ q. is_submitted b.to q.happenings.submitted) c.answer.ensures.answers
          ∙ c.loop-answer.invariant.known b (subst (In b) (sym c.in-Some.ensures.items) (In-left b left (a ∷ []) i));
    }

pub returns-clause-answers : goal.returns-clause-answers
returns-clause-answers g c =
    let r = c.loop-answer.self in
    let none = empty c.loop-answer.given.items (sym c.loop-answer.given.ok.0 ∙ c.in_default.ensures.cases.0) in
    ap (λ xs. record_of r.happenings.submitted xs r.order)
    (sym (firsts_all answered_key r.happenings.answers c.loop-answer.invariant.recorded.answered_once) ∙ ap
    (firsts answered_key) (sym (append-nil r.happenings.answers)))
    ∙ ap (λ xs. with_first_answers (reverse xs) r) (sym none)
    ∙ c.loop-answer.invariant.left
    ∙ ap (λ xs. with_first_answers xs c.args.self.now) (ap reverse c.reverse.ensures.items ∙ reverse-reverse c.args.given.now.items)
