-- What is told for some first items is a beginning of what is told for all.
use Rattle.std.proofs.Common.{◌≡◌, ℕ, Bool, List, [], ◌∷◌, ◌++◌, Ok, Err, MatchBool, refl, sym, ap, subst, ◌∙◌}
use Rattle.std.proofs.lemmas.List.{append_assoc, append-nil}
use Rattle.bean_codec.specs.declared.profile.Profile.{Profile}
use Rattle.bean_codec.specs.declared.request.Request.TheVariants.{Do, Quit}
use Rattle.bean_codec.specs.Grammar.{Item}
use Rattle.bean_codec.specs.Replies.{fault_text}
use Rattle.session.specs.declared.faults.End.{End}
use Rattle.session.specs.Items.{Response, Reads, ReadsFirst, operations, told_text, answer_text}
use Rattle.beanpax.specs.Sessions.{AreQueueAnswers}
use Rattle.beanpax.specs.Told.{BeginsTold}
use Rattle.session.proofs.Whole.{HasFront, reads_as_items}

-- with more items and more answers more is told
pub told_begins : (items more : List Item) (xs ys : List Response) → (left : List ℕ) × (told_text items xs ++ left ≡ told_text (items ++ more) (xs ++ ys))
told_begins [] more xs ys = (told_text more (xs ++ ys), refl)
told_begins (Ok (Do op) ∷ items) more [] ys = (told_text (Ok (Do op) ∷ items ++ more) ys, refl)
told_begins (Ok (Do op) ∷ items) more (x ∷ xs) ys =
    let r = told_begins items more xs ys in
    (r.0, append_assoc (answer_text x) (told_text items xs) r.0 ∙ ap (λ text. answer_text x ++ text) r.1)
told_begins (Ok Quit ∷ items) more xs ys = told_begins items more xs ys
told_begins (Err f ∷ items) more xs ys =
    let r = told_begins items more xs ys in
    (r.0, append_assoc (fault_text f) (told_text items xs) r.0 ∙ ap (λ text. fault_text f ++ text) r.1)

operations-append : (is js : List Item) → operations (is ++ js) ≡ operations is ++ operations js
operations-append [] js = refl
operations-append (Ok (Do op) ∷ is) js = ap (λ ops. op ∷ ops) (operations-append is js)
operations-append (Ok Quit ∷ is) js = operations-append is js
operations-append (Err f ∷ is) js = operations-append is js

module _ (profile : Profile) where
  -- a beginning of what is told for the first items
  pub begins : (input output left : List ℕ) (items tail : List Item) (end : End) (answers : List Response)
      → Reads profile input (items ++ tail) end → AreQueueAnswers (operations items) answers
      → output ++ left ≡ told_text items answers → BeginsTold profile input output
  begins input output left items tail end answers reads answered told_so =
      let l = told_begins items tail answers [] in (
        items ++ tail,
        end,
        answers,
        left ++ l.0,
        reads,
        (operations items, operations tail, operations-append items tail, answered),
        sym (append_assoc output left l.0) ∙ ap (λ text. text ++ l.0) told_so ∙ l.1 ∙ ap (told_text (items ++ tail)) (append-nil answers),
      )

  -- items that are read first, and then the others
  goes_on : (input : List ℕ) (firsts others : List Item) (rest : List ℕ) (end : End) → ReadsFirst profile input firsts rest
      → Reads profile rest others end → Reads profile input (firsts ++ others) end
  goes_on input [] others rest end first r = subst (λ text. Reads profile text others end) (sym first) r
  goes_on input (i ∷ firsts) others rest end first r = (
    first.0,
    first.1,
    first.2,
    first.3,
    subst
        (λ (b : Bool). MatchBool b ((firsts ++ others ≡ []) × (end ≡ End.Quit)) (Reads profile first.1 (firsts ++ others) end))
        (sym first.4) (goes_on first.1 firsts others rest end first.5 r),
  )

  -- the same, where more was read than these items
  pub begins_first : ((text : List ℕ) → HasFront profile text)
      → (input output left : List ℕ) (items more : List Item) (rest : List ℕ) (answers : List Response)
      → ReadsFirst profile input (items ++ more) rest → AreQueueAnswers (operations items) answers
      → output ++ left ≡ told_text items answers → BeginsTold profile input output
  begins_first front input output left items more rest answers first answered told_so =
      let r = reads_as_items profile front rest in
      begins input output left items (more ++ r.0) r.1 answers
      (subst (λ is. Reads profile input is r.1) (append_assoc items more r.0) (goes_on input (items ++ more) r.0 rest r.1 first r.2)) answered told_so
