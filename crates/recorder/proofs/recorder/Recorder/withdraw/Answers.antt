use Rattle.std.proofs.Common.{◌≡◌, ◌-◌, length, min, map, take, sym, ap, ap₂, subst, ◌∙◌, arith}
use Rattle.std.proofs.lemmas.List.{length-map, length-take, take-map}
use Rattle.object.specs.Answers.{answered_key}
use Rattle.object.specs.Happenings.{submitted_key}
use Rattle.object.specs.Keys.{stands}
use Rattle.recorder.specs.Fates.{fate_at}
use Rattle.recorder.specs.Records.{IsRecord, record_of, own_key}
use Rattle.recorder.proofs.LookUps.{all_but_last}
use Rattle.recorder.proofs.Steps.{withdrawn_told}
use Rattle.recorder.proofs.recorder.Recorder.withdraw.Goals as goal

pub invariant_of-self : goal.invariant_of-self
invariant_of-self g c =
    let S = c.self.inside.submitted in
    let A = c.self.inside.answers.items in
    let O = c.self.inside.order.items in
    let before = c.requires.before in
    let s = c.requires.last in
    let split = ap (λ r. r.happenings.submitted) c.self.view_is ∙ c.requires.ends in
    let left = c.pop.ensures ∙ ap (λ xs. take (length xs - 1) xs) split ∙ all_but_last before s in
    let unanswered = ap (λ r. stands answered_key s.command.key r.happenings.answers) c.self.view_is ∙ c.requires.unanswered in
    let unplaced = ap (λ r. stands own_key s.command.key r.order) c.self.view_is ∙ c.requires.unplaced in
    let short : length c.pop.new.self ≡ min (length S - 1) (length S) = ap length c.pop.ensures ∙ length-take (length S - 1) S in
    let answers_fit = c.self.invariant.answers_fit in
    let places_fit = c.self.invariant.places_fit in
    record {
      recorded = subst (λ xs. IsRecord (record_of xs A O)) (sym left)
          (withdrawn_told before A O s (subst (λ xs. IsRecord (record_of xs A O)) split c.self.invariant.recorded)
          unanswered unplaced);
      fated = c.pop-2.ensures.rest
          ∙ ap₂ (λ n fs. take (n - 1) fs)
          (c.self.inside.fates.ok.0 ∙ ap length c.self.invariant.fated ∙ length-map S
          (λ t. fate_at (record_of S A O) (submitted_key t))) c.self.invariant.fated
          ∙ take-map (λ t. fate_at (record_of S A O) (submitted_key t)) (length S - 1) S
          ∙ ap (map (λ t. fate_at (record_of S A O) (submitted_key t))) (sym c.pop.ensures);
      answers_fit = omega arith;
      places_fit = omega arith;
    }
