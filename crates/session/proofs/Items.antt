-- Items one after the other, and what is told for them.
use Rattle.std.proofs.Common.{◌≡◌, ℕ, false, List, [], ◌∷◌, ◌++◌, Ok, Err, length, refl, sym, ap, subst, ◌∙◌, arith}
use Rattle.std.proofs.lemmas.List.{append-nil, append_assoc, map-append}
use Rattle.bean_codec.specs.declared.profile.Profile.{Profile}
use Rattle.bean_codec.specs.declared.request.Fault.{Fault}
use Rattle.bean_codec.specs.declared.request.Request.TheVariants.{Do, Quit}
use Rattle.bean_codec.specs.Grammar.{Item, Spells}
use Rattle.bean_codec.specs.Replies.{fault_text}
use Rattle.session.specs.Items.{Response, ReadsFirst, is_quit, operations, told_text, answer_text}
use Rattle.session.specs.Held.{faulty}

-- one item more
pub reads_one : (profile : Profile) (t : List ℕ) (items : List Item) (rest front more : List ℕ) (item : Item) → ReadsFirst profile t items rest
    → rest ≡ front ++ more → Spells profile front item → is_quit item ≡ false → ReadsFirst profile t (items ++ item ∷ []) more
reads_one profile t [] rest front more item r cut spelled goes = (front, more, r ∙ cut, spelled, goes, refl)
reads_one profile t (i ∷ items) rest front more item r cut spelled goes =
    (r.0, r.1, r.2, r.3, r.4, reads_one profile r.1 items rest front more item r.5 cut spelled goes)

-- many items more
pub reads_more : (profile : Profile) (t : List ℕ) (items others : List Item) (rest more : List ℕ) → ReadsFirst profile t items rest
    → ReadsFirst profile rest others more → ReadsFirst profile t (items ++ others) more
reads_more profile t [] others rest more r q = subst (λ u. ReadsFirst profile u others more) (sym r) q
reads_more profile t (i ∷ items) others rest more r q = (r.0, r.1, r.2, r.3, r.4, reads_more profile r.1 items others rest more r.5 q)

pub operations_faulty : (faults : List Fault) → operations (faulty faults) ≡ []
operations_faulty [] = refl
operations_faulty (f ∷ faults) = operations_faulty faults

pub operations-append : (is js : List Item) → operations (is ++ js) ≡ operations is ++ operations js
operations-append [] js = refl
operations-append (Ok (Do op) ∷ is) js = ap (λ ops. op ∷ ops) (operations-append is js)
operations-append (Ok Quit ∷ is) js = operations-append is js
operations-append (Err f ∷ is) js = operations-append is js

-- with xs many answers xs operations, what is told comes one after the other
pub told_text-append : (is js : List Item) (xs ys : List Response) → length xs ≡ length (operations is)
    → told_text (is ++ js) (xs ++ ys) ≡ told_text is xs ++ told_text js ys
told_text-append [] js [] ys n = refl
told_text-append [] js (a ∷ xs) ys n = absurd (omega (arith, n))
told_text-append (Ok (Do op) ∷ is) js [] ys n = absurd (omega (arith, n))
told_text-append (Ok (Do op) ∷ is) js (a ∷ xs) ys n =
    ap (λ text. answer_text a ++ text) (told_text-append is js xs ys (omega (arith, n))) ∙ sym
    (append_assoc (answer_text a) (told_text is xs) (told_text js ys))
told_text-append (Ok Quit ∷ is) js xs ys n = told_text-append is js xs ys n
told_text-append (Err f ∷ is) js xs ys n =
    ap (λ text. fault_text f ++ text) (told_text-append is js xs ys n) ∙ sym (append_assoc (fault_text f) (told_text is xs) (told_text js ys))

pub faulty-one : (faults : List Fault) (fault : Fault) → faulty (faults ++ fault ∷ []) ≡ faulty faults ++ Err fault ∷ []
faulty-one faults fault = map-append Err faults (fault ∷ [])

pub told_text-fault : (faults : List Fault) (fault : Fault) → told_text (faulty (faults ++ fault ∷ [])) [] ≡ told_text (faulty faults) [] ++ fault_text fault
told_text-fault faults fault =
    ap (λ items. told_text items []) (faulty-one faults fault) ∙
    (told_text-append (faulty faults) (Err fault ∷ []) [] [] (sym (ap (λ ops. length ops) (operations_faulty faults))) ∙
    ap (λ text. told_text (faulty faults) [] ++ text) (append-nil (fault_text fault)))
