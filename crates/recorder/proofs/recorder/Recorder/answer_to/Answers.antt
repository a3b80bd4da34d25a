use Rattle.std.proofs.Common.{sym, ap, ◌∙◌}
use Rattle.std.specs.Option.{option_copied, option_map}
use Rattle.std.specs.List.{slice_get}
use Rattle.object.specs.Answers.{answered_key}
use Rattle.object.specs.Happenings.{is_submitted}
use Rattle.recorder.specs.Fates.{fate_at}
use Rattle.recorder.proofs.Places.{place_none}
use Rattle.recorder.proofs.LookUps.{chosen_none, chosen_some, found_none, found_there, slice_given}
use Rattle.recorder.proofs.Steps.{no_answer}
use Rattle.recorder.proofs.recorder.Recorder.answer_to.Goals as goal

pub returns-in_err-fate_of : goal.returns-in_err-fate_of
returns-in_err-fate_of g c =
    let r = c.args.self.now in
    let A = r.happenings.answers in
    let new = chosen_none (is_submitted c.args.key r.happenings.submitted) (fate_at r c.args.key) c.in_err-fate_of.ensures.fate in
    ap option_copied c.from_residual.ensures
    ∙ ap (option_map (λ a. a.reply))
    (sym (found_none answered_key c.args.key A
    (place_none answered_key c.args.key A
    (no_answer r.happenings.submitted A r.order c.args.key c.fate_of.ensures.kept new))))

pub returns-in_err-place : goal.returns-in_err-place
returns-in_err-place g c =
    let r = c.args.self.now in
    let A = r.happenings.answers in
    let fate = chosen_some (is_submitted c.args.key r.happenings.submitted) c.in_ok-fate_of.field-0 (fate_at r c.args.key) c.in_ok-fate_of.ensures.fate in
    ap option_copied c.from_residual-in_err-place.ensures
    ∙ ap (option_map (λ a. a.reply)) (sym (found_none answered_key c.args.key A (sym (ap (λ f. f.answer) fate) ∙ c.in_err-place.was)))

pub returns-in_err-answer : goal.returns-in_err-answer
returns-in_err-answer g c =
    let r = c.args.self.now in
    let A = r.happenings.answers in
    let fate = chosen_some (is_submitted c.args.key r.happenings.submitted) c.in_ok-fate_of.field-0 (fate_at r c.args.key) c.in_ok-fate_of.ensures.fate in
    let there = found_there answered_key c.args.key A c.in_ok-place.place (sym (ap (λ f. f.answer) fate) ∙ c.in_ok-place.was) in
    let read = slice_given c.deref.result.now c.in_ok-place.place c.get.result c.get.ensures.lookup.3 ∙ ap
    (λ xs. slice_get xs c.in_ok-place.place)
    (c.deref.ensures.value ∙ ap (λ q. q.happenings.answers) c.self.view_is) in
    ap option_copied c.from_residual-in_err-answer.ensures
    ∙ ap (λ o. option_map (λ a. a.reply) (option_copied o)) (sym c.in_err-answer.was)
    ∙ ap (option_map (λ a. a.reply)) (read ∙ sym there)

pub returns : goal.returns
returns g c =
    let r = c.args.self.now in
    let A = r.happenings.answers in
    let fate = chosen_some (is_submitted c.args.key r.happenings.submitted) c.in_ok-fate_of.field-0 (fate_at r c.args.key) c.in_ok-fate_of.ensures.fate in
    let there = found_there answered_key c.args.key A c.in_ok-place.place (sym (ap (λ f. f.answer) fate) ∙ c.in_ok-place.was) in
    let read = slice_given c.deref.result.now c.in_ok-place.place c.get.result c.get.ensures.lookup.3 ∙ ap
    (λ xs. slice_get xs c.in_ok-place.place)
    (c.deref.ensures.value ∙ ap (λ q. q.happenings.answers) c.self.view_is) in
    ap (λ o. option_map (λ a. a.reply) (option_copied o)) (sym c.in_ok-answer.was)
    ∙ ap (option_map (λ a. a.reply)) (read ∙ sym there)
