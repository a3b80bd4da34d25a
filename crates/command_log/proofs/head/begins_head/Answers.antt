use Rattle.std.proofs.Common.{◌≡◌, ◌≢◌, false, inl, inr, codes, ◌++◌, List, [], ◌∷◌, ℕ, Bool, Result, Ok, Err, IsTrue, ◌↔◌, refl, sym, ◌∙◌}
use Rattle.std.proofs.lemmas.Bool.{false≢true}
use Rattle.std.specs.Prelude.{IfOk}
use Rattle.object.specs.Lists.{IsBeginning}
use Rattle.command_log.specs.declared.version.LogVersion.{LogVersion}
use Rattle.command_log.specs.declared.version.LogVersion.TheVariants.{One, Two}
use Rattle.command_log.specs.Lines.{IsHead}
use Rattle.command_log.specs.Reading.{EndsInHead}
use Rattle.command_log.specs.Text.{log_name}
use Rattle.command_log.proofs.Begun.{GoesOn, goes_on, head_begins, name_begins}
use Rattle.command_log.proofs.head.begins_head.Goals.{then-begins_name-via-then-begins_name, then-begins_name-via-else-begins_name+then-begins_name-2}
use Rattle.command_log.proofs.head.begins_head.Goals as goal

some : (b : ℕ) (rest : List ℕ) → b ∷ rest ≢ []
some b rest same = cc

named : (text : List ℕ) → (IsBeginning text (log_name One) → ⊥) → (IsBeginning text (log_name Two) → ⊥)
    → (version : LogVersion) → IsBeginning text (log_name version) → ⊥
named text one two One h = one h
named text one two Two h = two h

decided : {E : Type 0} (text : List ℕ) (r : Result Bool E) → (IsBeginning text (log_name One) → ⊥) → (IsBeginning text (log_name Two) → ⊥)
    → (IsHead (text ++ codes "\n") → ⊥) → IfOk r (λ is. IsTrue is ↔ IsHead (text ++ codes "1\n"))
    → IfOk r (λ begins. IsTrue begins ↔ EndsInHead text)
decided text (Ok b) one two feed h = (
  (λ is. head_begins text (codes "1\n") (some 49 (codes "\n")) (h.0 is)),
  (λ begins. left (goes_on text begins)),
)
  where
    left : GoesOn text → IsTrue b
    left (inl name) = absurd (named text one two name.0 name.1)
    left (inr (inl head)) = absurd (feed head)
    left (inr (inr head)) = h.1 head
decided text (Err e) one two feed h = tt

not_so : {P : Type 0} (b : Bool) → (IsTrue b ↔ P) → b ≡ false → P → ⊥
not_so b h is p = false≢true (sym is ∙ h.1 p)

pub returns-then-begins_name : goal.returns-then-begins_name
returns-then-begins_name c =
    elim c.then-begins_name.branch [
      | then-begins_name-via-then-begins_name w ↦
          ((λ _. name_begins One c.args.text.now (c.begins_name.ensures.0 w.if-begins_name.true)), (λ _. refl))
      | then-begins_name-via-else-begins_name+then-begins_name-2 w ↦
          ((λ _. name_begins Two c.args.text.now (w.begins_name-else-begins_name.ensures.0 w.if-begins_name-2.true)), (λ _. refl))
    ]

pub returns : goal.returns
returns c =
    decided c.args.text.now c.is_head_with-2.result (not_so c.begins_name.result c.begins_name.ensures c.if-begins_name.false)
    (not_so c.begins_name-else-begins_name.result c.begins_name-else-begins_name.ensures c.if-begins_name-2.false)
    (not_so c.in_ok-is_head_with.field-0 c.in_ok-is_head_with.ensures c.if-branch.false) c.is_head_with-2.ensures
