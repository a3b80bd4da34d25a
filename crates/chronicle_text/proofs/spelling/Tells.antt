-- What was read of a line, and what the line says.
use Rattle.std.proofs.Common.{◌≡◌, ℕ, List, [], ◌∷◌, ◌++◌, Option, Some, None, refl, sym, ap, subst, ◌∙◌}
use Rattle.std.specs.Prelude.{IfSome}
use Rattle.bean_codec.specs.Words.{words}
use Rattle.chronicle_text.specs.declared.entry.Entry.{Entry}
use Rattle.chronicle_text.specs.Entries.{entry_line, IsEntryValue, Says}
use Rattle.chronicle_text.specs.Told.{entry_of_words}
use Rattle.chronicle_text.proofs.spelling.EntryLines.{said, said_told, line_is}
use Rattle.chronicle_text.proofs.spelling.ToldValues.{entry_value}

same_front : (xs ys : List ℕ) → xs ++ (10 ∷ []) ≡ ys ++ (10 ∷ []) → xs ≡ ys
same_front [] [] same = refl
same_front [] (y ∷ []) same = absurd (cc)
same_front [] (y ∷ z ∷ ys) same = absurd (cc)
same_front (x ∷ []) [] same = absurd (cc)
same_front (x ∷ z ∷ xs) [] same = absurd (cc)
same_front (x ∷ xs) (y ∷ ys) same =
    let rest : xs ++ (10 ∷ []) ≡ ys ++ (10 ∷ []) = cc in
    let t : xs ≡ ys = same_front xs ys rest in
    let first : x ≡ y = cc in
    cc

tells : (line text : List ℕ) (e : Entry) → IsEntryValue e → line ≡ text ++ (10 ∷ []) → entry_line e ≡ line → entry_of_words (words text) ≡ Some e
tells line text e h cut same =
    ap (λ t. entry_of_words (words t)) (same_front text (said e) (sym cut ∙ sym same ∙ line_is e)) ∙ said_told e h

some_none : (e : Entry) → Some e ≡ None → ⊥
some_none e same = cc

one_some : (e f : Entry) → Some e ≡ Some f → e ≡ f
one_some e f same = cc

-- its words tell nothing
pub says_nothing : (line text : List ℕ) → line ≡ text ++ (10 ∷ []) → entry_of_words (words text) ≡ None → Says line None
says_nothing line text cut none e h same = some_none e (sym (tells line text e h cut same) ∙ none)

-- what they tell is written otherwise
pub says_otherwise : (line text : List ℕ) (e : Entry) → line ≡ text ++ (10 ∷ []) → entry_of_words (words text) ≡ Some e
    → (entry_line e ≡ line → ⊥) → Says line None
says_otherwise line text e cut told other f h same =
    other (subst (λ (g : Entry). entry_line g ≡ line) (one_some f e (sym (tells line text f h cut same) ∙ told)) same)

-- it ends with no line feed
pub says_no_line : (line : List ℕ) → ((text : List ℕ) → line ≡ text ++ (10 ∷ []) → ⊥) → Says line None
says_no_line line none e h same = none (said e) (sym same ∙ line_is e)

pub says_it : (line text : List ℕ) (e : Entry) → entry_of_words (words text) ≡ Some e → entry_line e ≡ line → Says line (Some e)
says_it line text e told same = (same, subst (λ (o : Option Entry). IfSome o IsEntryValue) told (entry_value (words text)))
