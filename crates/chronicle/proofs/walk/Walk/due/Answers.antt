use Rattle.std.proofs.Common.{◌≡◌, length, Some, refl, sym, ap, subst, ◌∙◌, arith}
use Rattle.std.proofs.lemmas.List.{drop_all}
use Rattle.std.proofs.lemmas.Option.{slice_get_read}
use Rattle.std.specs.Prelude.{slice_get}
use Rattle.object.specs.Lists.{In}
use Rattle.chronicle.proofs.verdicts.Walked.{first_left}
use Rattle.chronicle.proofs.walk.Walk.due.Goals.{in_default-via-in-Some+else-submission-self, in_default-via-in_default}
use Rattle.chronicle.proofs.walk.Walk.due.Goals as goal

pub returns-in_default-clause-none : goal.returns-in_default-clause-none
returns-in_default-clause-none c _ s i =
    let h = c.args.chronicle.now in
    let n = c.args.self.submitted in
    let same = c.submitted.ensures.submitted in
    elim c.in_default.branch [
      | in_default-via-in-Some+else-submission-self w ↦
          let t = w.in-Some.submission.now in
          let at : slice_get h.submitted n ≡ Some t =
          ap (λ xs. slice_get xs n) (sym same) ∙ slice_get_read c.submitted.result.now
          (length c.submitted.result.now) n t refl w.in-Some.ensures.lookup.3.0 (w.in-Some.ensures.lookup.3.1 t) in
          let order = c.submitted.ensures.kept.timeline.ordered in
          let first = first_left h.submitted n t order at s i in
          let late = w.if-submission-self.false in
          omega arith
      | in_default-via-in_default w ↦
          let past = w.in_default.ensures.lookup.3 in
          let none = drop_all n h.submitted (let l = ap length same in omega arith) in
          absurd (subst (In s) none i)
    ]
