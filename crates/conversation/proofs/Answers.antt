-- Items that are answered, and one more.
use Rattle.std.proofs.Common.{◌≡◌, ℕ, List, [], ◌∷◌, ◌++◌, Ok, length, refl, sym, ap, ◌∙◌, length-append, arith}
use Rattle.std.proofs.lemmas.List.{append-nil}
use Rattle.bean_words.specs.declared.op.Op.{Op}
use Rattle.bean_words.specs.declared.reply.Reply.{Reply}
use Rattle.bean_codec.specs.declared.request.Fault.{Fault}
use Rattle.bean_codec.specs.declared.request.Request.TheVariants.{Do, Quit}
use Rattle.bean_codec.specs.Grammar.{Item}
use Rattle.session.specs.Items.{Response, operations, told_text, answer_text}
use Rattle.session.specs.Held.{faulty}
use Rattle.session.proofs.Items.{operations_faulty, operations-append, told_text-append}
use Rattle.hall.specs.declared.ticket.NotedAct.{NotedAct}
use Rattle.conversation.specs.Conversing.{acts_of, HasAnswered}
use Rattle.conversation.proofs.Acts.{acts_of-append}

pub answered_nothing : HasAnswered [] [] [] []
answered_nothing = record { each = refl; noted = refl; text = refl }

-- items more without an operation
answered_others : (items others : List Item) (answers : List Response) (acts : List (NotedAct Op Reply)) (told : List ℕ)
    → operations others ≡ [] → HasAnswered items answers acts told
    → HasAnswered (items ++ others) answers acts (told ++ told_text others [])
answered_others items others answers acts told none a =
    let same : operations (items ++ others) ≡ operations items =
    operations-append items others ∙ (ap (λ ops. operations items ++ ops) none ∙ append-nil (operations items)) in
    record {
      each = a.each ∙ ap (λ (ops : List Op). length ops) (sym same);
      noted = a.noted ∙ ap (λ ops. acts_of ops answers) (sym same);
      text = ap (λ u. u ++ told_text others []) a.text ∙
          (sym (told_text-append items others answers [] a.each) ∙ ap (λ xs. told_text (items ++ others) xs) (append-nil answers));
    }

-- faults more
pub answered_faults : (items : List Item) (faults : List Fault) (answers : List Response) (acts : List (NotedAct Op Reply)) (told : List ℕ)
    → HasAnswered items answers acts told → HasAnswered (items ++ faulty faults) answers acts (told ++ told_text (faulty faults) [])
answered_faults items faults answers acts told a = answered_others items (faulty faults) answers acts told (operations_faulty faults) a

-- a quit
pub answered_quit : (items : List Item) (answers : List Response) (acts : List (NotedAct Op Reply)) (told : List ℕ)
    → HasAnswered items answers acts told → HasAnswered (items ++ Ok Quit ∷ []) answers acts told
answered_quit items answers acts told a =
    let more = answered_others items (Ok Quit ∷ []) answers acts told refl a in
    record { each = more.each; noted = more.noted; text = sym (append-nil told) ∙ more.text }

-- an operation more, with its answer
pub answered_op : (items : List Item) (answers : List Response) (acts : List (NotedAct Op Reply)) (told : List ℕ) (op : Op) (answer : Response)
    → HasAnswered items answers acts told
    → HasAnswered (items ++ Ok (Do op) ∷ []) (answers ++ answer ∷ []) (acts ++ acts_of (op ∷ []) (answer ∷ [])) (told ++ answer_text answer)
answered_op items answers acts told op answer a =
    let ops : operations (items ++ Ok (Do op) ∷ []) ≡ operations items ++ op ∷ [] = operations-append items (Ok (Do op) ∷ []) in
    let many = ap (λ (os : List Op). length os) ops in
    record {
      each = omega (arith, a.each, many, length-append answers (answer ∷ []), length-append (operations items) (op ∷ []));
      noted = ap (λ acts. acts ++ acts_of (op ∷ []) (answer ∷ [])) a.noted ∙
          (sym (acts_of-append (operations items) (op ∷ []) answers (answer ∷ []) a.each) ∙ ap (λ os. acts_of os (answers ++ answer ∷ [])) (sym ops));
      text = ap (λ u. u ++ answer_text answer) a.text ∙
          (ap (λ u. told_text items answers ++ u) (sym (append-nil (answer_text answer))) ∙
          sym (told_text-append items (Ok (Do op) ∷ []) answers (answer ∷ []) a.each));
    }
