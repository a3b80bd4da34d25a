use Rattle.std.proofs.Common.{[], ◌∷◌, ◌++◌, map, sym, ap, subst, ◌∙◌, arith}
use Rattle.std.specs.Option.{is_some}
use Rattle.object.specs.Answers.{answered_key}
use Rattle.object.specs.Happenings.{submitted_key, is_submitted}
use Rattle.recorder.specs.Fates.{fate_at}
use Rattle.recorder.specs.Records.{record_of, with_first_answers, IsRecord}
use Rattle.recorder.proofs.Cuts.{firsts_all}
use Rattle.recorder.proofs.Places.{stands_at}
use Rattle.recorder.proofs.LookUps.{has_place, fate_read, fate_within, firsts_known}
use Rattle.recorder.proofs.Steps.{answered_told, answers_room, answered_fates}
use Rattle.recorder.proofs.recorder.Recorder.answer.Goals as goal

pub unreachable-requires : goal.unreachable-requires
unreachable-requires g c =
    has_place submitted_key c.args.answer.to c.self.inside.submitted
    (ap (λ r. is_submitted c.args.answer.to r.happenings.submitted) c.self.view_is ∙ c.requires) (sym c.place_of.ensures ∙ c.in_default.is)

pub index_mut-fate-requires : goal.index_mut-fate-requires
index_mut-fate-requires g c =
    let r = record_of c.self.inside.submitted c.self.inside.answers.items c.self.inside.order.items in
    let inside = fate_within r c.self.inside.fates.items c.args.answer.to c.in-Some.place c.self.invariant.fated (sym c.place_of.ensures ∙ c.in-Some.is) in
    let long = c.self.inside.fates.ok.0 in
    omega arith

pub push_reserved-requires : goal.push_reserved-requires
push_reserved-requires g c =
    let S = c.self.inside.submitted in
    let A = c.self.inside.answers.items in
    let O = c.self.inside.order.items in
    let a = c.args.answer in
    let known = ap (λ r. is_submitted a.to r.happenings.submitted) c.self.view_is ∙ c.requires in
    let fate = fate_read (record_of S A O) c.self.inside.fates.items a.to c.in-Some.place c.index_mut-fate.result.now
    c.self.invariant.fated (sym c.place_of.ensures ∙ c.in-Some.is) c.index_mut-fate.ensures.value in
    let new = sym (ap (λ f. is_some f.answer) fate ∙ stands_at answered_key a.to A) ∙ c.if-is_none.ensures in
    let room = answers_room S A O a c.self.invariant.recorded known new in
    let fits = c.self.invariant.answers_fit in
    let long = c.self.inside.answers.ok.0 in
    omega arith

pub invariant_of-self : goal.invariant_of-self
invariant_of-self g c =
    let S = c.self.inside.submitted in
    let A = c.self.inside.answers.items in
    let O = c.self.inside.order.items in
    let a = c.args.answer in
    let at = sym c.place_of.ensures ∙ c.in-Some.is in
    let known = ap (λ r. is_submitted a.to r.happenings.submitted) c.self.view_is ∙ c.requires in
    let fate = fate_read (record_of S A O) c.self.inside.fates.items a.to c.in-Some.place c.index_mut-fate.result.now
    c.self.invariant.fated at c.index_mut-fate.ensures.value in
    let new = sym (ap (λ f. is_some f.answer) fate ∙ stands_at answered_key a.to A) ∙ c.if-is_none.ensures in
    let items = c.push_reserved.ensures.items in
    record {
      recorded = subst (λ xs. IsRecord (record_of S xs O)) (sym items) (answered_told S A O a c.self.invariant.recorded known new);
      fated = answered_fates S A O c.self.inside.fates.items a c.in-Some.place c.len.result c.index_mut-fate.result.now
          c.index_mut-fate.result.now.is_placed c.self.invariant.recorded c.self.invariant.fated at new
          (c.len.ensures ∙ c.self.inside.answers.ok.0) (ap (λ f. f.is_placed) c.index_mut-fate.ensures.value)
          ∙ ap (λ xs. map (λ t. fate_at (record_of S xs O) (submitted_key t)) S) (sym items);
      answers_fit = let fits = c.self.invariant.answers_fit in let same = c.push_reserved.ensures.capacity in omega arith;
      places_fit = c.self.invariant.places_fit;
    }

pub returns-then-is_none-clause-kept : goal.returns-then-is_none-clause-kept
returns-then-is_none-clause-kept g c =
    let S = c.self.inside.submitted in
    let A = c.self.inside.answers.items in
    let O = c.self.inside.order.items in
    let a = c.args.answer in
    let known = ap (λ r. is_submitted a.to r.happenings.submitted) c.self.view_is ∙ c.requires in
    let fate = fate_read (record_of S A O) c.self.inside.fates.items a.to c.in-Some.place c.index_mut-fate.result.now
    c.self.invariant.fated (sym c.place_of.ensures ∙ c.in-Some.is) c.index_mut-fate.ensures.value in
    let new = sym (ap (λ f. is_some f.answer) fate ∙ stands_at answered_key a.to A) ∙ c.if-is_none.ensures in
    subst (λ xs. IsRecord (record_of S xs O)) (sym c.push_reserved.ensures.items) (answered_told S A O a c.self.invariant.recorded known new)

pub returns-then-is_none-clause-answers : goal.returns-then-is_none-clause-answers
returns-then-is_none-clause-answers g c =
    let S = c.self.inside.submitted in
    let A = c.self.inside.answers.items in
    let O = c.self.inside.order.items in
    let a = c.args.answer in
    let known = ap (λ r. is_submitted a.to r.happenings.submitted) c.self.view_is ∙ c.requires in
    let fate = fate_read (record_of S A O) c.self.inside.fates.items a.to c.in-Some.place c.index_mut-fate.result.now
    c.self.invariant.fated (sym c.place_of.ensures ∙ c.in-Some.is) c.index_mut-fate.ensures.value in
    let new = sym (ap (λ f. is_some f.answer) fate ∙ stands_at answered_key a.to A) ∙ c.if-is_none.ensures in
    let once = (answered_told S A O a c.self.invariant.recorded known new).answered_once in
    ap (λ xs. record_of S xs O) (c.push_reserved.ensures.items ∙ sym (firsts_all answered_key (A ++ a ∷ []) once)) ∙ ap
    (with_first_answers (a ∷ [])) c.self.view_is

pub returns-else-is_none-clause-answers : goal.returns-else-is_none-clause-answers
returns-else-is_none-clause-answers g c =
    let S = c.self.inside.submitted in
    let A = c.self.inside.answers.items in
    let O = c.self.inside.order.items in
    let a = c.args.answer in
    let fate = fate_read (record_of S A O) c.self.inside.fates.items a.to c.in-Some.place c.index_mut-fate.result.now
    c.self.invariant.fated (sym c.place_of.ensures ∙ c.in-Some.is) c.index_mut-fate.ensures.value in
    let known = sym (ap (λ f. is_some f.answer) fate ∙ stands_at answered_key a.to A) ∙ c.if-is_none.ensures in
    ap (λ xs. record_of S xs O) (sym (firsts_known answered_key A a c.self.invariant.recorded.answered_once known)) ∙ ap
    (with_first_answers (a ∷ [])) c.self.view_is
