-- Reading a text line by line.
use Rattle.std.proofs.Common.{◌≡◌, ℕ, zero, suc, ◌+◌, ◌≤◌, List, [], ◌∷◌, ◌++◌, map, length, take, Option, Some, None}
use Rattle.std.proofs.Common.{refl, sym, ap, subst, ◌∙◌, arith, append_assoc, append-nil, length-append}
use Rattle.std.proofs.lemmas.Bool.{eqb-true}
use Rattle.std.specs.List.{AllByRecursion}
use Rattle.std.specs.Prelude.{IfSome}
use Rattle.bstr.specs.Find.{IsFirstByte, Nowhere, Passes, is_byte}
use Rattle.bean_words.specs.declared.op.Op.{Op}
use Rattle.bean_words.specs.declared.reply.Reply.{Reply}
use Rattle.chronicle_text.specs.declared.draft.ChronicleDraft.{ChronicleDraft}
use Rattle.chronicle_text.specs.declared.draft.ChronicleDraft.TheVariants.{Start, Head, Counted, Happenings, Order, Whole}
use Rattle.chronicle_text.specs.declared.entry.Entry.{Entry}
use Rattle.recorder.specs.Chronicles.{Chronicle}
use Rattle.chronicle_text.specs.Drafts.{next}
use Rattle.chronicle_text.specs.Dump.{dump_text}
use Rattle.chronicle_text.specs.Entries.{entry_line, IsEntryValue, Says}
use Rattle.chronicle_text.specs.Lines.{NoFeed, text_of_lines}
use Rattle.chronicle_text.specs.Reading.{IsBadLine}
use Rattle.chronicle_text.proofs.stops.Drafted.{IsDraft, IsWhole, taken, entries, next_draft}
use Rattle.chronicle_text.proofs.spelling.EntryLines.{said, said_no_feed, line_is, one_front}
use Rattle.chronicle_text.proofs.stops.Stops.{NoneFollows, bad_line, entries_text, text_of_lines_more, map_more, lines_long}

-- ---- the first line of a text

pub cut_at : (text later : List ℕ) (end : ℕ) → NoFeed text → IsFirstByte (is_byte 10) (text ++ (10 ∷ later)) (Some end)
    → take (suc end) (text ++ (10 ∷ later)) ≡ text ++ (10 ∷ [])
cut_at [] later zero none found = refl
cut_at [] later (suc end) none found = absurd (found.0.before 0 (omega arith) (omega arith) refl)
cut_at (b ∷ text) later zero none found = absurd (none.0 (eqb-true b 10 found.1))
cut_at (b ∷ text) later (suc end) none found =
    let inside = found.0.high in
    ap (λ t. b ∷ t) (cut_at text later end none.1 (
      record {
        low = omega arith;
        high = omega arith;
        before =
            λ k l m p. found.0.before (suc k) (omega arith) (omega arith) p;
      },
      found.1,
    ))

pub none_left : (text later : List ℕ) → Nowhere (Passes (is_byte 10) (text ++ (10 ∷ later))) 0 (length (text ++ (10 ∷ later))) → ⊥
none_left [] later none = none 0 (omega arith) (omega arith) refl
none_left (b ∷ text) later none = none_left text later (λ k l m p. none (suc k) (omega arith) (omega arith) p)

spelled : (e : Entry) (rest later : List ℕ) → rest ≡ entry_line e ++ later → rest ≡ said e ++ (10 ∷ later)
spelled e rest later at = at ∙ ap (λ l. l ++ later) (line_is e) ∙ append_assoc (said e) (10 ∷ []) later

-- a line that stands in front is all up to the first line feed
first_line : (e : Entry) (rest later line : List ℕ) (end : ℕ) → IsEntryValue e
    → IsFirstByte (is_byte 10) rest (Some end) → line ≡ take (suc end) rest → rest ≡ entry_line e ++ later
    → entry_line e ≡ line
first_line e rest later line end value found is at =
    let words = spelled e rest later at in
    let here : IsFirstByte (is_byte 10) (said e ++ (10 ∷ later)) (Some end) = subst (λ (t : List ℕ). IsFirstByte (is_byte 10) t (Some end)) words found in
    line_is e ∙ sym (cut_at (said e) later end (said_no_feed e value) here) ∙ ap (take (suc end)) (sym words) ∙ sym is

-- ---- none follows

pub none_unread : (d : ChronicleDraft) (rest line : List ℕ) (end : ℕ) → IsFirstByte (is_byte 10) rest (Some end)
    → line ≡ take (suc end) rest → Says line None → NoneFollows d rest
none_unread d rest line end found is says e later value may at = says e value (first_line e rest later line end value found is at)

same_entry : (e f : Entry) (line : List ℕ) → IsEntryValue e → IsEntryValue f → entry_line e ≡ line → entry_line f ≡ line → e ≡ f
same_entry e f line h k same also = (one_front e f [] [] h k (ap (λ t. t ++ []) (same ∙ sym also))).0

pub none_next : (d : ChronicleDraft) (rest line : List ℕ) (end : ℕ) (f : Entry)
    → IsFirstByte (is_byte 10) rest (Some end) → line ≡ take (suc end) rest → Says line (Some f) → next d f ≡ None
    → NoneFollows d rest
none_next d rest line end f found is says none e later value may at =
    let same = same_entry e f line value says.1 (first_line e rest later line end value found is at) says.0 in
    may (ap (next d) same ∙ none)

pub none_ended : (d : ChronicleDraft) (rest : List ℕ) → IsFirstByte (is_byte 10) rest None → NoneFollows d rest
none_ended d rest none e later value may at =
    let words = spelled e rest later at in
    none_left (said e) later (subst (λ (t : List ℕ). Nowhere (Passes (is_byte 10) t) 0 (length t)) words none)

-- ---- the lines so far

-- the draft holds the lines before this one, and the rest of the text follows them
pub record Reads (d : ChronicleDraft) (text rest : List ℕ) (n : ℕ) : Type 0 where
  pub drafted : IsDraft d
  pub values : AllByRecursion IsEntryValue (taken d)
  pub cut : text ≡ text_of_lines (map entry_line (taken d)) ++ rest
  pub number : n ≡ suc (length (taken d))

text_of_lines_last : (es : List Entry) (e : Entry) → text_of_lines (map entry_line (es ++ (e ∷ []))) ≡ text_of_lines (map entry_line es) ++ entry_line e
text_of_lines_last es e = ap text_of_lines (map_more es (e ∷ [])) ∙ text_of_lines_more (map entry_line es)
    (entry_line e ∷ []) ∙ ap (λ t. text_of_lines (map entry_line es) ++ t) (append-nil (entry_line e))

value_last : (es : List Entry) (e : Entry) → AllByRecursion IsEntryValue es → IsEntryValue e → AllByRecursion IsEntryValue (es ++ (e ∷ []))
value_last [] e h v = (v, tt)
value_last (x ∷ es) e h v = (h.0, value_last es e h.1 v)

pub read_start : (text : List ℕ) (d : ChronicleDraft) → IsDraft d → taken d ≡ [] → Reads d text text 1
read_start text d h none = record {
  drafted = h;
  values = subst (AllByRecursion IsEntryValue) (sym none) tt;
  cut = ap (λ es. text_of_lines (map entry_line es) ++ text) (sym none);
  number = ap (λ (es : List Entry). suc (length es)) (sym none);
}

grown : (d f : ChronicleDraft) (e : Entry) (text rest line more : List ℕ) (n : ℕ) → Reads d text rest n
    → Says line (Some e) → rest ≡ line ++ more → IsDraft f × (taken f ≡ taken d ++ (e ∷ [])) → Reads f text more (n + 1)
grown d f e text rest line more n r says cut h =
    let es = taken d in
    let whole = text_of_lines (map entry_line es) in
    record {
      drafted = h.0;
      values = subst (AllByRecursion IsEntryValue) (sym h.1) (value_last es e r.values says.1);
      cut = r.cut ∙ ap (λ t. whole ++ t) (cut ∙ ap (λ l. l ++ more) (sym says.0)) ∙ sym (append_assoc whole (entry_line e) more)
          ∙ ap (λ t. t ++ more) (sym (text_of_lines_last es e)) ∙ ap (λ t. text_of_lines (map entry_line t) ++ more) (sym h.1);
      number = let number = r.number in let long = ap (λ (t : List Entry). length t) h.1 in omega (arith, number, long, length-append es (e ∷ []));
    }

pub read_on : (d f : ChronicleDraft) (e : Entry) (text rest line more : List ℕ) (n : ℕ) → Reads d text rest n
    → Says line (Some e) → rest ≡ line ++ more → Some f ≡ next d e → Reads f text more (n + 1)
read_on d f e text rest line more n r says cut goes =
    grown d f e text rest line more n r says cut
    (subst (λ (o : Option ChronicleDraft). IfSome o (λ g. IsDraft g × (taken g ≡ taken d ++ (e ∷ [])))) (sym goes)
    (next_draft d e r.drafted says.1))

-- so many lines fit
pub few_lines : (d : ChronicleDraft) (text rest : List ℕ) (n : ℕ) → Reads d text rest n → n + n ≤ length text + 2
few_lines d text rest n r =
    let number = r.number in
    let cut = ap length r.cut in
    omega (arith, number, cut, length-append (text_of_lines (map entry_line (taken d))) rest, lines_long (taken d))

pub stop_here : (d : ChronicleDraft) (text rest : List ℕ) (n : ℕ) → Reads d text rest n → NoneFollows d rest → (rest ≡ [] → IsWhole d → ⊥) → IsBadLine n text
stop_here d text rest n r none unended = bad_line d text rest n r.drafted r.values r.number r.cut none unended

pub read_all : (c : Chronicle Op Reply) (text rest : List ℕ) (n : ℕ) → Reads (Whole c) text rest n → rest ≡ [] → dump_text c ≡ text
read_all c text rest n r none =
    entries_text c ∙ sym (r.cut ∙ ap (λ t. text_of_lines (map entry_line (entries c)) ++ t) none ∙ append-nil
    (text_of_lines (map entry_line (entries c))))

-- where a line feed stands, something does
pub some_rest : (rest : List ℕ) (end : ℕ) → IsFirstByte (is_byte 10) rest (Some end) → rest ≡ [] → ⊥
some_rest rest end found none =
    let inside = found.0.high in
    let empty = ap length none in
    omega arith

pub whole_is : (d : ChronicleDraft) → IsWhole d → ((c : Chronicle Op Reply) → d ≡ Whole c → ⊥) → ⊥
whole_is (Whole c) h other = other c refl
whole_is Start h other = h
whole_is (Head v) h other = h
whole_is (Counted n) h other = h
whole_is (Happenings c) h other = h
whole_is (Order c) h other = h

pub no_rest : (rest : List ℕ) → length rest ≡ 0 → rest ≡ []
no_rest [] h = refl
no_rest (b ∷ rest) h = absurd (omega arith)
