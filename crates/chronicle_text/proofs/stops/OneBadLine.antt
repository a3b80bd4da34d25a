-- A text has one bad line at most.
use Rattle.std.proofs.Common.{◌≡◌, ℕ, suc, ◌⊎◌, inl, inr, List, [], ◌∷◌, ◌++◌, map, length, refl, sym, ap, ap₂, ◌∙◌, append_assoc}
use Rattle.std.specs.List.{AllByRecursion}
use Rattle.chronicle_text.specs.declared.entry.Entry.{Entry}
use Rattle.chronicle_text.specs.Entries.{entry_line, IsEntryValue}
use Rattle.chronicle_text.specs.Lines.{text_of_lines}
use Rattle.chronicle_text.specs.Reading.{BeginsDump, IsBadLine}
use Rattle.chronicle_text.proofs.stops.Drafted.{entries}
use Rattle.chronicle_text.proofs.spelling.EntryLines.{one_front}
use Rattle.chronicle_text.proofs.stops.Stops.{lines_are, entry_values, map_more, map_length}

-- lines, as what they say
record Said (lines : List (List ℕ)) : Type 0 where
  es : List Entry
  is : lines ≡ map entry_line es
  values : AllByRecursion IsEntryValue es

no_front : (l : List ℕ) (more : List (List ℕ)) → [] ≡ l ∷ more → ⊥
no_front l more same = cc

parts : (x y : List ℕ) (xs ys : List (List ℕ)) → x ∷ xs ≡ y ∷ ys → (x ≡ y) × (xs ≡ ys)
parts x y xs ys same = let first : x ≡ y = cc in let rest : xs ≡ ys = cc in (first, rest)

said_front : (xs : List Entry) (lines more : List (List ℕ)) → AllByRecursion IsEntryValue xs → map entry_line xs ≡ lines ++ more → Said lines
said_front xs [] more h same = record { es = []; is = refl; values = tt }
said_front [] (l ∷ lines) more h same = absurd (no_front l (lines ++ more) same)
said_front (x ∷ xs) (l ∷ lines) more h same =
    let cut = parts (entry_line x) l (map entry_line xs) (lines ++ more) same in
    let r = said_front xs lines more h.1 cut.1 in
    record { es = x ∷ r.es; is = ap₂ (λ (a : List ℕ) as'. a ∷ as') (sym cut.0) r.is; values = (h.0, r.values) }

said_lines : (lines : List (List ℕ)) → BeginsDump lines → Said lines
said_lines lines b = said_front (entries b.chronicle) lines b.begins.0 (entry_values b.chronicle b.is_value) (lines_are b.chronicle ∙ b.begins.1)

-- the others go on where these end
record GoesOn (es fs : List Entry) (rest : List ℕ) : Type 0 where
  entry : Entry
  more : List Entry
  later : List ℕ
  is : fs ≡ es ++ (entry ∷ more)
  at : rest ≡ entry_line entry ++ later

abbrev text_of : List Entry → List ℕ
text_of es = text_of_lines (map entry_line es)

on : (e f : Entry) (es fs : List Entry) (rest : List ℕ) → e ≡ f → GoesOn es fs rest → GoesOn (e ∷ es) (f ∷ fs) rest
on e f es fs rest same g = record { entry = g.entry; more = g.more; later = g.later; is = ap₂ (λ (a : Entry) as'. a ∷ as') (sym same) g.is; at = g.at }

fronts : (es fs : List Entry) (x y : List ℕ) → AllByRecursion IsEntryValue es → AllByRecursion IsEntryValue fs
    → text_of es ++ x ≡ text_of fs ++ y → (length es ≡ length fs) ⊎ GoesOn es fs x ⊎ GoesOn fs es y
fronts [] [] x y h k same = inl refl
fronts [] (f ∷ fs) x y h k same =
    inr (inl (record {
      entry = f;
      more = fs;
      later = text_of fs ++ y;
      is = refl;
      at =
          same ∙ append_assoc (entry_line f) (text_of fs) y;
    }))
fronts (e ∷ es) [] x y h k same =
    inr (inr (record {
      entry = e;
      more = es;
      later = text_of es ++ x;
      is = refl;
      at =
          sym same ∙ append_assoc (entry_line e) (text_of es) x;
    }))
fronts (e ∷ es) (f ∷ fs) x y h k same =
    let cut = one_front e f (text_of es ++ x) (text_of fs ++ y) h.0 k.0
    (sym (append_assoc (entry_line e) (text_of es) x) ∙ same ∙ append_assoc (entry_line f) (text_of fs) y) in
    elim (fronts es fs x y h.1 k.1 cut.1) as (λ v. (length (e ∷ es) ≡ length (f ∷ fs)) ⊎ GoesOn (e ∷ es) (f ∷ fs) x ⊎ GoesOn (f ∷ fs) (e ∷ es) y) [
      | inl long ↦ inl (ap suc long)
      | inr (inl g) ↦ inr (inl (on e f es fs x cut.0 g))
      | inr (inr g) ↦ inr (inr (on f e fs es y (sym cut.0) g))
    ]

beyond : (n m : ℕ) (text : List ℕ) (h : IsBadLine n text) (k : IsBadLine m text) (s : Said h.before) (t : Said k.before) → GoesOn s.es t.es h.rest → ⊥
beyond n m text h k s t g =
    let line = entry_line g.entry in
    let later : k.before ≡ (h.before ++ (line ∷ [])) ++ map entry_line g.more =
    t.is ∙ ap (map entry_line) g.is ∙ map_more s.es (g.entry ∷ g.more) ∙ ap (λ l. l ++ (line ∷ map entry_line g.more)) (sym s.is)
    ∙ sym (append_assoc h.before (line ∷ []) (map entry_line g.more)) in
    let b = k.begins in
    h.stops line g.later g.at (record {
      chronicle = b.chronicle;
      is_value = b.is_value;
      begins = (
        map entry_line g.more ++ b.begins.0,
        b.begins.1 ∙ ap (λ l. l ++ b.begins.0) later ∙ append_assoc (h.before ++ (line ∷ [])) (map entry_line g.more) b.begins.0,
      );
    })

numbered : (n : ℕ) (text : List ℕ) (h : IsBadLine n text) (s : Said h.before) → n ≡ suc (length s.es)
numbered n text h s = h.number ∙ ap (λ (l : List (List ℕ)). suc (length l)) s.is ∙ ap suc (map_length s.es)

pub one_bad_line : (text : List ℕ) (n m : ℕ) → IsBadLine n text → IsBadLine m text → n ≡ m
one_bad_line text n m h k =
    let s = said_lines h.before h.begins in
    let t = said_lines k.before k.begins in
    let same : text_of s.es ++ h.rest ≡ text_of t.es ++ k.rest =
    ap (λ l. text_of_lines l ++ h.rest) (sym s.is) ∙ sym h.cut ∙ k.cut ∙ ap (λ l. text_of_lines l ++ k.rest) t.is in
    elim (fronts s.es t.es h.rest k.rest s.values t.values same) as (λ v. n ≡ m) [
      | inl long ↦ numbered n text h s ∙ ap suc long ∙ sym (numbered m text k t)
      | inr (inl g) ↦ absurd (beyond n m text h k s t g)
      | inr (inr g) ↦ absurd (beyond m n text k h t s g)
    ]
