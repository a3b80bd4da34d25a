-- Where reading stops, in the words of the lines of a dump.
use Rattle.std.proofs.Common.{◌≡◌, ℕ, suc, ◌+◌, ◌≤◌, ◌==◌, true, false, cond, List, [], ◌∷◌, ◌++◌, map, length, None}
use Rattle.std.proofs.Common.{refl, sym, ap, ap₂, subst, ◌∙◌, arith, append_assoc, append-nil, length-append}
use Rattle.std.specs.List.{flat_map, AllByRecursion}
use Rattle.ballot.specs.Members.{IsMembers}
use Rattle.object.specs.declared.command.Answer.{Answer}
use Rattle.object.specs.declared.command.Key.{Key}
use Rattle.object.specs.declared.command.Submission.{Submission}
use Rattle.bean_words.specs.declared.op.Op.{Op}
use Rattle.bean_words.specs.declared.reply.Reply.{Reply}
use Rattle.chronicle_text.specs.declared.draft.ChronicleDraft.{ChronicleDraft}
use Rattle.chronicle_text.specs.declared.entry.Entry.{Entry}
use Rattle.chronicle_text.specs.declared.entry.Entry.TheVariants.{Placed, End}
use Rattle.chronicle_text.specs.declared.version.Version.{Version}
use Rattle.chronicle_text.specs.declared.version.Version.TheVariants.{One, Two}
use Rattle.recorder.specs.Chronicles.{Chronicle}
use Rattle.chronicle_text.specs.Drafts.{next}
use Rattle.chronicle_text.specs.Dump.{version_of, head_of, head_lines, submission_line, answer_line, happening_line, order_line, end_line, dump_text}
use Rattle.chronicle_text.specs.Entries.{entry_line, IsEntryValue}
use Rattle.chronicle_text.specs.Happenings.{Happening, happenings, happenings_from, moment, came_at}
use Rattle.chronicle_text.specs.Happenings.Happening.{Submitted as WasSubmitted, Answered as WasAnswered}
use Rattle.chronicle_text.specs.Lines.{text_of_lines}
use Rattle.chronicle_text.specs.Reading.{dump_lines, BeginsDump, IsBadLine}
use Rattle.chronicle_text.specs.Values.{IsChronicleValue, IsCommandValue, IsAnswerValue, IsKeyValue}
use Rattle.chronicle_text.proofs.stops.Drafted.{happened, head_entries, head, after_head, tail_entries, entries, taken}
use Rattle.chronicle_text.proofs.stops.Drafted.{IsDraft, IsWhole, whole, whole_value, whole_begins, follows, all_read}
use Rattle.chronicle_text.proofs.spelling.EntryLines.{one_front, line_long}
use Rattle.chronicle_text.proofs.texts.LineLists.{to_right}
use Rattle.chronicle_text.proofs.spelling.ValueLists.{all_both}

-- ---- the lines of a chronicle are those of its entries

order_lines : (order : List Key) → map entry_line (map Placed order ++ (End ∷ [])) ≡ map order_line order ++ (end_line ∷ [])
order_lines [] = refl
order_lines (key ∷ order) = ap (λ t. order_line key ∷ t) (order_lines order)

tail_lines : (hs : List (Happening Op Reply)) (order : List Key)
    → map entry_line ((map happened hs ++ map Placed order) ++ (End ∷ []))
    ≡ map happening_line hs ++ (map order_line order ++ (end_line ∷ []))
tail_lines [] order = order_lines order
tail_lines (WasSubmitted c ∷ hs) order = ap (λ t. submission_line c ∷ t) (tail_lines hs order)
tail_lines (WasAnswered a ∷ hs) order = ap (λ t. answer_line a ∷ t) (tail_lines hs order)

head_said : (v : Version) (ws : List ℕ) → map entry_line (head_entries v ws) ≡ head_of v ws
head_said One ws = refl
head_said Two ws = refl

pub map_more : (xs ys : List Entry) → map entry_line (xs ++ ys) ≡ map entry_line xs ++ map entry_line ys
map_more [] ys = refl
map_more (x ∷ xs) ys = ap (λ t. entry_line x ∷ t) (map_more xs ys)

pub lines_are : (c : Chronicle Op Reply) → map entry_line (entries c) ≡ dump_lines c
lines_are c =
    ap (map entry_line) (after_head c (End ∷ [])) ∙ map_more (head c.members) (tail_entries c)
    ∙ ap₂ (λ (a b : List (List ℕ)). a ++ b) (head_said (version_of c.members) c.members) (tail_lines (happenings c.submitted c.answers) c.order)

join_map : {A : Type 0} (f : A → List ℕ) (xs : List A) (more : List (List ℕ)) → text_of_lines (map f xs ++ more) ≡ flat_map f xs ++ text_of_lines more
join_map f [] more = refl
join_map f (x ∷ xs) more = ap (λ t. f x ++ t) (join_map f xs more) ∙ sym (append_assoc (f x) (flat_map f xs) (text_of_lines more))

pub text_of_lines_more : (ls ms : List (List ℕ)) → text_of_lines (ls ++ ms) ≡ text_of_lines ls ++ text_of_lines ms
text_of_lines_more [] ms = refl
text_of_lines_more (l ∷ ls) ms = ap (λ t. l ++ t) (text_of_lines_more ls ms) ∙ sym (append_assoc l (text_of_lines ls) (text_of_lines ms))

text_is : (c : Chronicle Op Reply) → dump_text c ≡ text_of_lines (dump_lines c)
unfolding dump_text
text_is c =
    let hs = happenings c.submitted c.answers in
    to_right (text_of_lines (head_lines c.members)) (flat_map happening_line hs) (flat_map order_line c.order) end_line
    ∙ ap (λ t. text_of_lines (head_lines c.members) ++ t)
    (ap (λ t. flat_map happening_line hs ++ t)
    (ap (λ t. flat_map order_line c.order ++ t) (sym (append-nil end_line)) ∙ sym
    (join_map order_line c.order (end_line ∷ [])))
    ∙ sym (join_map happening_line hs (map order_line c.order ++ (end_line ∷ []))))
    ∙ sym (text_of_lines_more (head_lines c.members) (map happening_line hs ++ (map order_line c.order ++ (end_line ∷ []))))

pub entries_text : (c : Chronicle Op Reply) → dump_text c ≡ text_of_lines (map entry_line (entries c))
entries_text c = text_is c ∙ ap text_of_lines (sym (lines_are c))

-- ---- they are values

values_came : (given : ℕ) (submitted : List (Submission Op))
    → AllByRecursion (λ (s : Submission Op). IsCommandValue s.command) submitted
    → AllByRecursion (λ (s : Submission Op). IsCommandValue s.command) (came_at given submitted)
values_came given [] h = tt
values_came given (s ∷ rest) h =
    elim (s.after == given) as (λ b. AllByRecursion (λ (s : Submission Op). IsCommandValue s.command) (cond b (s ∷ came_at given rest) (came_at given rest))) [
      | true ↦ (h.0, values_came given rest h.1)
      | false ↦ values_came given rest h.1
    ]

values_each : (came : List (Submission Op)) → AllByRecursion (λ (s : Submission Op). IsCommandValue s.command) came
    → AllByRecursion (λ h. IsEntryValue (happened h)) (map (λ (s : Submission Op). WasSubmitted s.command) came)
values_each [] h = tt
values_each (s ∷ came) h = (h.0, values_each came h.1)

happening_values : (given : ℕ) (submitted : List (Submission Op)) (answers : List (Answer Reply))
    → AllByRecursion (λ (s : Submission Op). IsCommandValue s.command) submitted → AllByRecursion IsAnswerValue answers
    → AllByRecursion (λ h. IsEntryValue (happened h)) (happenings_from given submitted answers)
happening_values given submitted [] h k = values_each (came_at given submitted) (values_came given submitted h)
happening_values given submitted (a ∷ later) h k =
    all_both (λ x. IsEntryValue (happened x)) (moment given submitted)
    (WasAnswered a ∷ happenings_from (suc given) submitted later)
    (values_each (came_at given submitted) (values_came given submitted h))
    (k.0, happening_values (suc given) submitted later h k.1)

happened_values : (hs : List (Happening Op Reply)) → AllByRecursion (λ h. IsEntryValue (happened h)) hs → AllByRecursion IsEntryValue (map happened hs)
happened_values [] h = tt
happened_values (x ∷ hs) h = (h.0, happened_values hs h.1)

placed_values : (order : List Key) → AllByRecursion IsKeyValue order → AllByRecursion IsEntryValue (map Placed order)
placed_values [] h = tt
placed_values (key ∷ order) h = (h.0, placed_values order h.1)

head_values : (v : Version) (ws : List ℕ) → IsMembers ws → AllByRecursion IsEntryValue (head_entries v ws)
head_values One ws h = (tt, ((h.some, h.few), tt))
head_values Two ws h = (tt, ((h.some, h.few), (h, tt)))

pub entry_values : (c : Chronicle Op Reply) → IsChronicleValue c → AllByRecursion IsEntryValue (entries c)
entry_values c v =
    let hs = map happened (happenings c.submitted c.answers) in
    subst (AllByRecursion IsEntryValue) (sym (after_head c (End ∷ [])))
    (all_both IsEntryValue (head c.members) (tail_entries c) (head_values (version_of c.members) c.members v.chronicle.members)
    (all_both IsEntryValue (hs ++ map Placed c.order) (End ∷ [])
    (all_both IsEntryValue hs (map Placed c.order)
    (happened_values (happenings c.submitted c.answers)
    (happening_values 0 c.submitted c.answers v.submitted v.answers)) (placed_values c.order v.order))
    (tt, tt)))

-- ---- entries, from their lines

pub map_length : (xs : List Entry) → length (map entry_line xs) ≡ length xs
map_length [] = refl
map_length (x ∷ xs) = let e = map_length xs in omega (arith, e)

-- the next entry, by its line
record NextEntry (xs ys : List Entry) (line : List ℕ) : Type 0 where
  entry : Entry
  rest : List Entry
  is : xs ≡ ys ++ (entry ∷ rest)
  says : entry_line entry ≡ line
  value : IsEntryValue entry

no_front : (l : List ℕ) (more : List (List ℕ)) → [] ≡ l ∷ more → ⊥
no_front l more same = cc

cons_parts : {A : Type 0} (x y : A) (xs ys : List A) → x ∷ xs ≡ y ∷ ys → (x ≡ y) × (xs ≡ ys)
cons_parts x y xs ys same = let first : x ≡ y = cc in let rest : xs ≡ ys = cc in (first, rest)

same_line : (x y : Entry) → IsEntryValue x → IsEntryValue y → entry_line x ≡ entry_line y → x ≡ y
same_line x y h k same = (one_front x y [] [] h k (ap (λ t. t ++ []) same)).0

unmap : (xs ys : List Entry) (line : List ℕ) (later : List (List ℕ)) → AllByRecursion IsEntryValue xs
    → AllByRecursion IsEntryValue ys → map entry_line xs ≡ map entry_line ys ++ (line ∷ later) → NextEntry xs ys line
unmap [] [] line later h k same = absurd (no_front line later same)
unmap (x ∷ xs) [] line later h k same =
    record { entry = x; rest = xs; is = refl; says = (cons_parts (entry_line x) line (map entry_line xs) later same).0; value = h.0 }
unmap [] (y ∷ ys) line later h k same = absurd (no_front (entry_line y) (map entry_line ys ++ (line ∷ later)) same)
unmap (x ∷ xs) (y ∷ ys) line later h k same =
    let parts = cons_parts (entry_line x) (entry_line y) (map entry_line xs) (map entry_line ys ++ (line ∷ later)) same in
    let r = unmap xs ys line later h.1 k.1 parts.1 in
    record {
      entry = r.entry;
      rest = r.rest;
      is = ap₂ (λ (a : Entry) as'. a ∷ as') (same_line x y h.0 k.0 parts.0) r.is;
      says = r.says;
      value = r.value;
    }

record MoreEntries (xs ys : List Entry) (rest : List ℕ) : Type 0 where
  more : List Entry
  is : xs ≡ ys ++ more
  says : rest ≡ text_of_lines (map entry_line more)
  values : AllByRecursion IsEntryValue more

no_line : (y : Entry) (text rest : List ℕ) → [] ≡ (entry_line y ++ text) ++ rest → ⊥
no_line y text rest same =
    let e = ap length same in
    omega (arith, e, length-append (entry_line y ++ text) rest, length-append (entry_line y) text, line_long y)

unjoin : (xs ys : List Entry) (rest : List ℕ) → AllByRecursion IsEntryValue xs → AllByRecursion IsEntryValue ys
    → text_of_lines (map entry_line xs) ≡ text_of_lines (map entry_line ys) ++ rest → MoreEntries xs ys rest
unjoin xs [] rest h k same = record { more = xs; is = refl; says = sym same; values = h }
unjoin [] (y ∷ ys) rest h k same = absurd (no_line y (text_of_lines (map entry_line ys)) rest same)
unjoin (x ∷ xs) (y ∷ ys) rest h k same =
    let cut = one_front x y (text_of_lines (map entry_line xs)) (text_of_lines (map entry_line ys) ++ rest) h.0 k.0
    (same ∙ append_assoc (entry_line y) (text_of_lines (map entry_line ys)) rest) in
    let r = unjoin xs ys rest h.1 k.1 cut.1 in
    record { more = r.more; is = ap₂ (λ (a : Entry) as'. a ∷ as') cut.0 r.is; says = r.says; values = r.values }

-- ---- the bad line

-- no line that may come next stands at the front of the rest
abbrev pub NoneFollows : ChronicleDraft → List ℕ → Type 0
NoneFollows d rest = (e : Entry) (later : List ℕ) → IsEntryValue e → (next d e ≡ None → ⊥) → rest ≡ entry_line e ++ later → ⊥

begins : (d : ChronicleDraft) → IsDraft d → BeginsDump (map entry_line (taken d))
begins d h =
    let left = whole_begins d h in
    record {
      chronicle = whole d;
      is_value = whole_value d h;
      begins = (map entry_line left.0, sym (lines_are (whole d)) ∙ ap (map entry_line) left.1 ∙ map_more (taken d) left.0);
    }

stops : (d : ChronicleDraft) (rest line later : List ℕ) → IsDraft d → AllByRecursion IsEntryValue (taken d)
    → NoneFollows d rest → rest ≡ line ++ later → BeginsDump (map entry_line (taken d) ++ (line ∷ [])) → ⊥
stops d rest line later h values none at b =
    let c = b.chronicle in
    let same : map entry_line (entries c) ≡ map entry_line (taken d) ++ (line ∷ b.begins.0) =
    lines_are c ∙ b.begins.1 ∙ append_assoc (map entry_line (taken d)) (line ∷ []) b.begins.0 in
    let r = unmap (entries c) (taken d) line b.begins.0 (entry_values c b.is_value) values same in
    none r.entry later r.value (follows d r.entry r.rest c h r.is) (at ∙ ap (λ l. l ++ later) (sym r.says))

ended : (d : ChronicleDraft) (c : Chronicle Op Reply) (rest : List ℕ) (later : List Entry) → IsDraft d
    → NoneFollows d rest → (rest ≡ [] → IsWhole d → ⊥) → entries c ≡ taken d ++ later
    → rest ≡ text_of_lines (map entry_line later) → AllByRecursion IsEntryValue later → ⊥
ended d c rest [] h none unended same says values = unended says (all_read d c (same ∙ append-nil (taken d)))
ended d c rest (e ∷ later) h none unended same says values = none e (text_of_lines (map entry_line later)) values.0 (follows d e later c h same) says

unfinished : (d : ChronicleDraft) (text rest : List ℕ) (c : Chronicle Op Reply) → IsDraft d
    → AllByRecursion IsEntryValue (taken d) → NoneFollows d rest → (rest ≡ [] → IsWhole d → ⊥)
    → text ≡ text_of_lines (map entry_line (taken d)) ++ rest → IsChronicleValue c → dump_text c ≡ text → ⊥
unfinished d text rest c h values none unended cut v same =
    let r = unjoin (entries c) (taken d) rest (entry_values c v) values (sym (entries_text c) ∙ same ∙ cut) in
    ended d c rest r.more h none unended r.is r.says r.values

pub bad_line : (d : ChronicleDraft) (text rest : List ℕ) (n : ℕ) → IsDraft d → AllByRecursion IsEntryValue (taken d)
    → n ≡ suc (length (taken d)) → text ≡ text_of_lines (map entry_line (taken d)) ++ rest → NoneFollows d rest
    → (rest ≡ [] → IsWhole d → ⊥) → IsBadLine n text
bad_line d text rest n h values number cut none unended = record {
  before = map entry_line (taken d);
  rest = rest;
  number = number ∙ ap suc (sym (map_length (taken d)));
  cut = cut;
  begins = begins d h;
  stops = λ line later at b. stops d rest line later h values none at b;
  unfinished = λ c v same. unfinished d text rest c h values none unended cut v same;
}

-- each line has two bytes at least
pub lines_long : (es : List Entry) → length es + length es ≤ length (text_of_lines (map entry_line es))
lines_long [] = omega arith
lines_long (e ∷ es) = omega (arith, lines_long es, line_long e, length-append (entry_line e) (text_of_lines (map entry_line es)))
