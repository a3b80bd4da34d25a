-- Which lines may come next, and which begin a chronicle's text.
use Rattle.std.proofs.Common.{◌≡◌, ◌≢◌, ℕ, ◌<◌, ◌≤◌, ◌==◌, ◌&&◌, not, false, List, [], ◌∷◌, ◌++◌, map, length}
use Rattle.std.proofs.Common.{replicate, Option, Some, None, refl, sym, ap, subst, ◌∙◌, arith, append_assoc, append-nil}
use Rattle.std.proofs.lemmas.Bool.{and_parts, not-true, eq-eqb, eqb-true}
use Rattle.std.proofs.lemmas.List.{length-replicate}
use Rattle.std.specs.List.{AllByRecursion}
use Rattle.std.specs.Prelude.{IfSome}
use Rattle.ballot.specs.Members.{is_unweighted}
use Rattle.ballot.proofs.WeightRows.{ones_are}
use Rattle.object.specs.declared.command.Answer.{Answer}
use Rattle.object.specs.declared.command.Command.{Command}
use Rattle.object.specs.declared.command.Key.{Key}
use Rattle.bean_words.specs.declared.op.Op.{Op}
use Rattle.bean_words.specs.declared.reply.Reply.{Reply}
use Rattle.chronicle_text.specs.declared.draft.ChronicleDraft.{ChronicleDraft}
use Rattle.chronicle_text.specs.declared.draft.ChronicleDraft.TheVariants.{Start, Head, Counted, Happenings, Order, Whole}
use Rattle.chronicle_text.specs.declared.entry.Entry.{Entry}
use Rattle.chronicle_text.specs.declared.entry.Entry.TheVariants.{Version, Members, Weights, Submitted, Answered, Placed, End}
use Rattle.chronicle_text.specs.declared.version.Version.{Version as Form}
use Rattle.chronicle_text.specs.declared.version.Version.TheVariants.{One, Two}
use Rattle.recorder.specs.Chronicles.{Chronicle}
use Rattle.chronicle_text.specs.Drafts.{next}
use Rattle.chronicle_text.specs.Dump.{version_of}
use Rattle.chronicle_text.specs.Entries.{IsEntryValue}
use Rattle.recorder.specs.Growing.{begun, submitted_last, answered_last}
use Rattle.chronicle_text.specs.Happenings.{Happening, happenings}
use Rattle.chronicle_text.specs.Happenings.Happening.{Submitted as WasSubmitted, Answered as WasAnswered}
use Rattle.chronicle_text.specs.Values.{IsChronicleValue}
use Rattle.chronicle_text.proofs.stops.Grown.{submitted_value, answered_value, placed_value, begun_value, happens_submitted, happens_answered, map_last}
use Rattle.chronicle_text.proofs.spelling.Heads.{version_two, two_weighted, ones_version, twos_version, twos_are}
use Rattle.chronicle_text.proofs.spelling.ToldValues.{where_so}
use Rattle.chronicle_text.proofs.spelling.ValueLists.{all_both}

-- ---- the entries of a chronicle

abbrev pub happened : Happening Op Reply → Entry
happened (WasSubmitted c) = Submitted c
happened (WasAnswered a) = Answered a

-- those before what happened
abbrev pub head_entries : Form → List ℕ → List Entry
head_entries One ws = Version One ∷ Members (length ws) ∷ []
head_entries Two ws = Version Two ∷ Members (length ws) ∷ Weights ws ∷ []

abbrev pub head : List ℕ → List Entry
head ws = head_entries (version_of ws) ws

abbrev pub first_entries : Chronicle Op Reply → List Entry
first_entries c = head c.members ++ map happened (happenings c.submitted c.answers)

-- those before the last line
abbrev pub open_entries : Chronicle Op Reply → List Entry
open_entries c = first_entries c ++ map Placed c.order

abbrev pub entries : Chronicle Op Reply → List Entry
entries c = open_entries c ++ (End ∷ [])

-- what was read so far
abbrev pub taken : ChronicleDraft → List Entry
taken Start = []
taken (Head v) = Version v ∷ []
taken (Counted n) = Version Two ∷ Members n ∷ []
taken (Happenings c) = open_entries c
taken (Order c) = open_entries c
taken (Whole c) = entries c

abbrev pub IsDraft : ChronicleDraft → Type 0
IsDraft (Counted n) = (0 < n) × (n ≤ 7)
IsDraft (Happenings c) = IsChronicleValue c × (c.order ≡ [])
IsDraft (Order c) = IsChronicleValue c × (c.order ≢ [])
IsDraft (Whole c) = IsChronicleValue c
IsDraft _ = Unit {0}

-- ---- a line more

last_happened : (firsts : List Entry) (order : List Key) (e : Entry) → order ≡ []
    → (firsts ++ (e ∷ [])) ++ map Placed order ≡ (firsts ++ map Placed order) ++ (e ∷ [])
last_happened firsts order e none =
    subst (λ (o : List Key). (firsts ++ (e ∷ [])) ++ map Placed o ≡ (firsts ++ map Placed o) ++ (e ∷ [])) (sym none)
    (append-nil (firsts ++ (e ∷ [])) ∙ ap (λ t. t ++ (e ∷ [])) (sym (append-nil firsts)))

last_placed : (firsts : List Entry) (order : List Key) (key : Key)
    → firsts ++ map Placed (order ++ (key ∷ [])) ≡ (firsts ++ map Placed order) ++ (Placed key ∷ [])
last_placed firsts order key = ap (λ t. firsts ++ t) (map_last Placed order key) ∙ sym (append_assoc firsts (map Placed order) (Placed key ∷ []))

some_last : (order : List Key) (key : Key) → order ++ (key ∷ []) ≢ []
some_last [] key same = cc
some_last (k ∷ order) key same = cc

happened_last : (ws : List ℕ) (hs : List (Happening Op Reply)) (h : Happening Op Reply)
    → head ws ++ map happened (hs ++ (h ∷ [])) ≡ (head ws ++ map happened hs) ++ (happened h ∷ [])
happened_last ws hs h = ap (λ t. head ws ++ t) (map_last happened hs h) ∙ sym (append_assoc (head ws) (map happened hs) (happened h ∷ []))

submitted_entries : (c : Chronicle Op Reply) (s : Command Op) → first_entries (submitted_last s c) ≡ first_entries c ++ (Submitted s ∷ [])
submitted_entries c s =
    ap (λ hs. head c.members ++ map happened hs) (happens_submitted s c) ∙ happened_last c.members (happenings c.submitted c.answers) (WasSubmitted s)

answered_entries : (c : Chronicle Op Reply) (a : Answer Reply) → IsChronicleValue c → first_entries (answered_last a c) ≡ first_entries c ++ (Answered a ∷ [])
answered_entries c a v =
    ap (λ hs. head c.members ++ map happened hs) (happens_answered a c v.chronicle) ∙ happened_last c.members (happenings c.submitted c.answers) (WasAnswered a)

-- before anything happened there is the head alone
begun_entries : (v : Form) (ws : List ℕ) → version_of ws ≡ v → open_entries (begun ws) ≡ head_entries v ws
begun_entries v ws is = append-nil (head ws ++ []) ∙ append-nil (head ws) ∙ ap (λ w. head_entries w ws) is

ones_begun : (n : ℕ) → open_entries (begun (replicate n 1)) ≡ Version One ∷ Members n ∷ []
ones_begun n = begun_entries One (replicate n 1) (ones_version n) ∙ ap (λ k. Version One ∷ Members k ∷ []) (length-replicate n 1)

twos_begun : (n : ℕ) → 0 < n → open_entries (begun (replicate n 2)) ≡ Version Two ∷ Members n ∷ Weights (replicate n 2) ∷ []
twos_begun n some =
    begun_entries Two (replicate n 2) (twos_version n some) ∙ ap (λ k. Version Two ∷ Members k ∷ Weights (replicate n 2) ∷ []) (length-replicate n 2)

weights_begun : (n : ℕ) (ws : List ℕ) → length ws ≡ n → is_unweighted ws ≡ false → open_entries (begun ws) ≡ Version Two ∷ Members n ∷ Weights ws ∷ []
weights_begun n ws long some = begun_entries Two ws (version_two ws some) ∙ ap (λ k. Version Two ∷ Members k ∷ Weights ws ∷ []) long

pub next_draft : (d : ChronicleDraft) (e : Entry) → IsDraft d → IsEntryValue e → IfSome (next d e) (λ f. IsDraft f × (taken f ≡ taken d ++ (e ∷ [])))
next_draft Start (Version form) d v = (tt, refl)
next_draft (Head One) (Members n) d v = ((begun_value (replicate n 1) (ones_are n v.0 v.1), refl), ones_begun n)
next_draft (Head Two) (Members n) d v = (v, refl)
next_draft (Counted n) (Weights ws) d v =
    where_so (length ws == n && not (is_unweighted ws)) (Happenings (begun ws)) (λ f. IsDraft f × (taken f ≡ Version Two ∷ Members n ∷ Weights ws ∷ []))
    (λ so.
    let both = and_parts (length ws == n) (not (is_unweighted ws)) so in
    ((begun_value ws v, refl), weights_begun n ws (eqb-true (length ws) n both.0) (not-true (is_unweighted ws) both.1)))
next_draft (Happenings c) (Submitted s) d v =
    ((submitted_value s c d.0 v, d.1), ap (λ t. t ++ map Placed c.order) (submitted_entries c s) ∙ last_happened (first_entries c) c.order (Submitted s) d.1)
next_draft (Happenings c) (Answered a) d v =
    ((answered_value a c d.0 v, d.1), ap (λ t. t ++ map Placed c.order) (answered_entries c a d.0) ∙ last_happened (first_entries c) c.order (Answered a) d.1)
next_draft (Happenings c) (Placed key) d v = ((placed_value key c d.0 v, some_last c.order key), last_placed (first_entries c) c.order key)
next_draft (Happenings c) End d v = (d.0, refl)
next_draft (Order c) (Placed key) d v = ((placed_value key c d.0 v, some_last c.order key), last_placed (first_entries c) c.order key)
next_draft (Order c) End d v = (d.0, refl)
next_draft _ _ d v = tt

-- ---- what was read begins a chronicle

-- a chronicle that begins so
abbrev pub whole : ChronicleDraft → Chronicle Op Reply
whole Start = begun (1 ∷ [])
whole (Head One) = begun (1 ∷ [])
whole (Head Two) = begun (2 ∷ [])
whole (Counted n) = begun (replicate n 2)
whole (Happenings c) = c
whole (Order c) = c
whole (Whole c) = c

abbrev left : ChronicleDraft → List Entry
left Start = Version One ∷ Members 1 ∷ End ∷ []
left (Head One) = Members 1 ∷ End ∷ []
left (Head Two) = Members 1 ∷ Weights (2 ∷ []) ∷ End ∷ []
left (Counted n) = Weights (replicate n 2) ∷ End ∷ []
left (Whole c) = []
left _ = End ∷ []

pub whole_value : (d : ChronicleDraft) → IsDraft d → IsChronicleValue (whole d)
whole_value Start h = begun_value (1 ∷ []) (ones_are 1 (omega arith) (omega arith))
whole_value (Head One) h = begun_value (1 ∷ []) (ones_are 1 (omega arith) (omega arith))
whole_value (Head Two) h = begun_value (2 ∷ []) (twos_are 1 (omega arith) (omega arith))
whole_value (Counted n) h = begun_value (replicate n 2) (twos_are n h.0 h.1)
whole_value (Happenings c) h = h.0
whole_value (Order c) h = h.0
whole_value (Whole c) h = h

pub whole_begins : (d : ChronicleDraft) → IsDraft d → (more : List Entry) × (entries (whole d) ≡ taken d ++ more)
whole_begins Start h = (left Start, refl)
whole_begins (Head One) h = (left (Head One), refl)
whole_begins (Head Two) h = (left (Head Two), refl)
whole_begins (Counted n) h = (left (Counted n), ap (λ t. t ++ (End ∷ [])) (twos_begun n h.0))
whole_begins (Happenings c) h = (End ∷ [], refl)
whole_begins (Order c) h = (End ∷ [], refl)
whole_begins (Whole c) h = ([], sym (append-nil (entries c)))

-- ---- what follows what was read may come next

abbrev IsHead : Entry → Type 0
IsHead (Version v) = Unit {0}
IsHead (Members n) = Unit {0}
IsHead (Weights ws) = Unit {0}
IsHead _ = ⊥

abbrev NoHead : Entry → Type 0
NoHead e = ¬ (IsHead e)

abbrev IsLate : Entry → Type 0
IsLate (Placed key) = Unit {0}
IsLate End = Unit {0}
IsLate _ = ⊥

abbrev IsEnd : Entry → Type 0
IsEnd End = Unit {0}
IsEnd _ = ⊥

abbrev NoEnd : Entry → Type 0
NoEnd e = ¬ (IsEnd e)

all_mid : (P : Entry → Type 0) (xs : List Entry) (e : Entry) (more : List Entry) → AllByRecursion P (xs ++ (e ∷ more)) → P e
all_mid P [] e more h = h.0
all_mid P (x ∷ xs) e more h = all_mid P xs e more h.1

-- the entries after the head
abbrev pub tail_entries : Chronicle Op Reply → List Entry
tail_entries c = (map happened (happenings c.submitted c.answers) ++ map Placed c.order) ++ (End ∷ [])

no_heads : (hs : List (Happening Op Reply)) → AllByRecursion NoHead (map happened hs)
no_heads [] = tt
no_heads (WasSubmitted c ∷ hs) = ((λ h. h), no_heads hs)
no_heads (WasAnswered a ∷ hs) = ((λ h. h), no_heads hs)

placed_no_heads : (order : List Key) → AllByRecursion NoHead (map Placed order)
placed_no_heads [] = tt
placed_no_heads (key ∷ order) = ((λ h. h), placed_no_heads order)

tail_no_heads : (c : Chronicle Op Reply) → AllByRecursion NoHead (tail_entries c)
tail_no_heads c =
    let hs = map happened (happenings c.submitted c.answers) in
    all_both NoHead (hs ++ map Placed c.order) (End ∷ [])
    (all_both NoHead hs (map Placed c.order) (no_heads (happenings c.submitted c.answers))
    (placed_no_heads c.order)) ((λ h. h), tt)

-- after a late entry all are late
abbrev LateLast : List Entry → Type 0
LateLast [] = Unit {0}
LateLast (x ∷ xs) = (IsLate x → AllByRecursion IsLate xs) × LateLast xs

late_all : (xs : List Entry) → AllByRecursion IsLate xs → LateLast xs
late_all [] h = tt
late_all (x ∷ xs) h = ((λ l. h.1), late_all xs h.1)

late_happened : (hs : List (Happening Op Reply)) (xs : List Entry) → LateLast xs → LateLast (map happened hs ++ xs)
late_happened [] xs h = h
late_happened (WasSubmitted c ∷ hs) xs h = ((λ l. absurd l), late_happened hs xs h)
late_happened (WasAnswered a ∷ hs) xs h = ((λ l. absurd l), late_happened hs xs h)

late_placed : (order : List Key) → AllByRecursion IsLate (map Placed order ++ (End ∷ []))
late_placed [] = (tt, tt)
late_placed (key ∷ order) = (tt, late_placed order)

tail_late : (c : Chronicle Op Reply) → LateLast (tail_entries c)
tail_late c =
    let hs = happenings c.submitted c.answers in
    subst LateLast (sym (append_assoc (map happened hs) (map Placed c.order) (End ∷ [])))
    (late_happened hs (map Placed c.order ++ (End ∷ [])) (late_all _ (late_placed c.order)))

after_late : (xs : List Entry) (x : Entry) (ys : List Entry) (e : Entry) (more : List Entry) → LateLast (xs ++ (x ∷ (ys ++ (e ∷ more)))) → IsLate x → IsLate e
after_late [] x ys e more h l = all_mid IsLate ys e more (h.0 l)
after_late (y ∷ xs) x ys e more h l = after_late xs x ys e more h.1 l

-- nothing comes after the end
abbrev EndLast : List Entry → Type 0
EndLast [] = Unit {0}
EndLast (x ∷ xs) = (IsEnd x → xs ≡ []) × EndLast xs

end_happened : (hs : List (Happening Op Reply)) (xs : List Entry) → EndLast xs → EndLast (map happened hs ++ xs)
end_happened [] xs h = h
end_happened (WasSubmitted c ∷ hs) xs h = ((λ l. absurd l), end_happened hs xs h)
end_happened (WasAnswered a ∷ hs) xs h = ((λ l. absurd l), end_happened hs xs h)

end_placed : (order : List Key) → EndLast (map Placed order ++ (End ∷ []))
end_placed [] = ((λ l. refl), tt)
end_placed (key ∷ order) = ((λ l. absurd l), end_placed order)

tail_end : (c : Chronicle Op Reply) → EndLast (tail_entries c)
tail_end c =
    let hs = happenings c.submitted c.answers in
    subst EndLast (sym (append_assoc (map happened hs) (map Placed c.order) (End ∷ [])))
    (end_happened hs (map Placed c.order ++ (End ∷ [])) (end_placed c.order))

after_end : (xs : List Entry) (e : Entry) (more : List Entry) → EndLast (xs ++ (End ∷ (e ∷ more))) → ⊥
after_end [] e more h = let none = h.0 tt in cc
after_end (x ∷ xs) e more h = after_end xs e more h.1

some_next : {A : Type 0} (o : Option A) (a : A) → o ≡ Some a → o ≡ None → ⊥
some_next o a some none = cc

happenings_next : (c : Chronicle Op Reply) (e : Entry) → ¬ (IsHead e) → next (Happenings c) e ≡ None → ⊥
happenings_next c (Version v) h none = h tt
happenings_next c (Members n) h none = h tt
happenings_next c (Weights ws) h none = h tt
happenings_next c (Submitted s) h none = cc
happenings_next c (Answered a) h none = cc
happenings_next c (Placed key) h none = cc
happenings_next c End h none = cc

order_next : (c : Chronicle Op Reply) (e : Entry) → IsLate e → next (Order c) e ≡ None → ⊥
order_next c (Placed key) h none = cc
order_next c End h none = cc
order_next c (Version v) h none = h
order_next c (Members n) h none = h
order_next c (Weights ws) h none = h
order_next c (Submitted s) h none = h
order_next c (Answered a) h none = h

late_in_order : (firsts : List Entry) (order : List Key) (e : Entry) (more : List Entry) → order ≢ []
    → LateLast ((firsts ++ map Placed order) ++ (e ∷ more)) → IsLate e
late_in_order firsts [] e more some h = absurd (some refl)
late_in_order firsts (key ∷ order) e more some h =
    after_late firsts (Placed key) (map Placed order) e more (subst LateLast (append_assoc firsts (Placed key ∷ map Placed order) (e ∷ more)) h) tt

start_next : (v : Form) (e : Entry) → Version v ≡ e → next Start e ≡ None → ⊥
start_next v e same = subst (λ (x : Entry). next Start x ≡ None → ⊥) same (λ none. cc)

head_next : (v : Form) (n : ℕ) (e : Entry) → Members n ≡ e → next (Head v) e ≡ None → ⊥
head_next One n e same = subst (λ (x : Entry). next (Head One) x ≡ None → ⊥) same (λ none. cc)
head_next Two n e same = subst (λ (x : Entry). next (Head Two) x ≡ None → ⊥) same (λ none. cc)

weights_taken : (n : ℕ) (ws : List ℕ) → length ws ≡ n → is_unweighted ws ≡ false → next (Counted n) (Weights ws) ≡ Some (Happenings (begun ws))
weights_taken n ws long some = rw (eq-eqb (length ws) n long, some) refl

count_next : (n : ℕ) (ws : List ℕ) (e : Entry) → length ws ≡ n → is_unweighted ws ≡ false → Weights ws ≡ e → next (Counted n) e ≡ None → ⊥
count_next n ws e long some same =
    subst (λ (x : Entry). next (Counted n) x ≡ None → ⊥) same (some_next (next (Counted n) (Weights ws)) (Happenings (begun ws)) (weights_taken n ws long some))

same_first : (x y : Entry) (xs ys : List Entry) → x ∷ xs ≡ y ∷ ys → x ≡ y
same_first x y xs ys same = cc

same_second : (x y z w : Entry) (xs ys : List Entry) → x ∷ z ∷ xs ≡ y ∷ w ∷ ys → z ≡ w
same_second x y z w xs ys same = cc

same_third : (a b c d x y : Entry) (xs ys : List Entry) → a ∷ b ∷ x ∷ xs ≡ c ∷ d ∷ y ∷ ys → x ≡ y
same_third a b c d x y xs ys same = cc

same_count : (m n : ℕ) → Members m ≡ Members n → m ≡ n
same_count m n same = cc

-- what follows a head, whichever it is
starts : (v : Form) (ws : List ℕ) (ts : List Entry) (e : Entry) (more : List Entry) → head_entries v ws ++ ts ≡ e ∷ more → next Start e ≡ None → ⊥
starts One ws ts e more same none = start_next One e (same_first _ _ _ _ same) none
starts Two ws ts e more same none = start_next Two e (same_first _ _ _ _ same) none

counts : (v w : Form) (ws : List ℕ) (ts : List Entry) (e : Entry) (more : List Entry)
    → head_entries w ws ++ ts ≡ Version v ∷ e ∷ more → next (Head v) e ≡ None → ⊥
counts One One ws ts e more same none = head_next One (length ws) e (same_second _ _ _ _ _ _ same) none
counts One Two ws ts e more same none = absurd (cc)
counts Two One ws ts e more same none = absurd (cc)
counts Two Two ws ts e more same none = head_next Two (length ws) e (same_second _ _ _ _ _ _ same) none

weighs : (w : Form) (ws : List ℕ) (n : ℕ) (ts : List Entry) (e : Entry) (more : List Entry) → version_of ws ≡ w
    → head_entries w ws ++ ts ≡ Version Two ∷ Members n ∷ e ∷ more → next (Counted n) e ≡ None → ⊥
weighs One ws n ts e more is same none = absurd (cc)
weighs Two ws n ts e more is same none =
    count_next n ws e (same_count (length ws) n (same_second _ _ _ _ _ _ same)) (two_weighted ws is) (same_third _ _ _ _ _ _ _ _ same) none

one_tail : (v w : Form) (xs ys : List ℕ) (ts us : List Entry) → head_entries v xs ++ ts ≡ head_entries w ys ++ us → ts ≡ us
one_tail One One xs ys ts us same = cc
one_tail One Two xs ys ts us same = absurd (cc)
one_tail Two One xs ys ts us same = absurd (cc)
one_tail Two Two xs ys ts us same = cc

-- those of a chronicle before the last line, by its head
pub after_head : (b : Chronicle Op Reply) (more : List Entry)
    → open_entries b ++ more ≡ head b.members ++
    ((map happened (happenings b.submitted b.answers) ++ map Placed b.order) ++ more)
after_head b more =
    let hs = map happened (happenings b.submitted b.answers) in
    ap (λ t. t ++ more) (append_assoc (head b.members) hs (map Placed b.order)) ∙ append_assoc (head b.members) (hs ++ map Placed b.order) more

same_tail : (c b : Chronicle Op Reply) (more : List Entry) → entries c ≡ open_entries b ++ more
    → tail_entries c ≡ (map happened (happenings b.submitted b.answers) ++ map Placed b.order) ++ more
same_tail c b more same =
    one_tail (version_of c.members) (version_of b.members) c.members b.members (tail_entries c)
    ((map happened (happenings b.submitted b.answers) ++ map Placed b.order) ++ more)
    (sym (after_head c (End ∷ [])) ∙ same ∙ after_head b more)

pub follows : (d : ChronicleDraft) (e : Entry) (more : List Entry) (c : Chronicle Op Reply) → IsDraft d
    → entries c ≡ taken d ++ (e ∷ more) → next d e ≡ None → ⊥
follows Start e more c d same none = starts (version_of c.members) c.members (tail_entries c) e more (sym (after_head c (End ∷ [])) ∙ same) none
follows (Head v) e more c d same none = counts v (version_of c.members) c.members (tail_entries c) e more (sym (after_head c (End ∷ [])) ∙ same) none
follows (Counted n) e more c d same none = weighs (version_of c.members) c.members n (tail_entries c) e more refl (sym (after_head c (End ∷ [])) ∙ same) none
follows (Happenings b) e more c d same none =
    let tail = same_tail c b (e ∷ more) same in
    happenings_next b e (all_mid NoHead (map happened (happenings b.submitted b.answers) ++ map Placed b.order) e more
    (subst (AllByRecursion NoHead) tail (tail_no_heads c))) none
follows (Order b) e more c d same none =
    let tail = same_tail c b (e ∷ more) same in
    order_next b e (late_in_order (map happened (happenings b.submitted b.answers)) b.order e more d.1 (subst LateLast tail (tail_late c))) none
follows (Whole b) e more c d same none =
    let opened = map happened (happenings b.submitted b.answers) ++ map Placed b.order in
    let tail = same_tail c b (End ∷ (e ∷ more)) (same ∙ append_assoc (open_entries b) (End ∷ []) (e ∷ more)) in
    after_end opened e more (subst EndLast tail (tail_end c))

-- ---- all lines of a chronicle were read

abbrev pub IsWhole : ChronicleDraft → Type 0
IsWhole (Whole c) = Unit {0}
IsWhole _ = ⊥

open_no_end : (hs : List (Happening Op Reply)) (order : List Key) → AllByRecursion NoEnd (map happened hs ++ map Placed order)
open_no_end [] [] = tt
open_no_end [] (key ∷ order) = ((λ h. h), open_no_end [] order)
open_no_end (WasSubmitted c ∷ hs) order = ((λ h. h), open_no_end hs order)
open_no_end (WasAnswered a ∷ hs) order = ((λ h. h), open_no_end hs order)

ended : (c b : Chronicle Op Reply) → entries c ≡ open_entries b → ⊥
ended c b same =
    let opened = map happened (happenings b.submitted b.answers) ++ map Placed b.order in
    let tail = same_tail c b [] (same ∙ sym (append-nil (open_entries b))) ∙ append-nil opened in
    all_mid NoEnd (map happened (happenings c.submitted c.answers) ++ map Placed c.order) End []
    (subst (AllByRecursion NoEnd) (sym tail) (open_no_end (happenings b.submitted b.answers) b.order)) tt

-- a head is longer than what is read before its end
none_read : (v : Form) (ws : List ℕ) (ts : List Entry) → head_entries v ws ++ ts ≡ [] → ⊥
none_read One ws ts same = cc
none_read Two ws ts same = cc

one_read : (v w : Form) (ws : List ℕ) (ts : List Entry) → head_entries w ws ++ ts ≡ Version v ∷ [] → ⊥
one_read v One ws ts same = cc
one_read v Two ws ts same = cc

two_read : (w : Form) (ws : List ℕ) (n : ℕ) (ts : List Entry) → head_entries w ws ++ ts ≡ Version Two ∷ Members n ∷ [] → ⊥
two_read One ws n ts same = cc
two_read Two ws n ts same = cc

pub all_read : (d : ChronicleDraft) (c : Chronicle Op Reply) → entries c ≡ taken d → IsWhole d
all_read Start c same = absurd (none_read (version_of c.members) c.members (tail_entries c) (sym (after_head c (End ∷ [])) ∙ same))
all_read (Head v) c same = absurd (one_read v (version_of c.members) c.members (tail_entries c) (sym (after_head c (End ∷ [])) ∙ same))
all_read (Counted n) c same = absurd (two_read (version_of c.members) c.members n (tail_entries c) (sym (after_head c (End ∷ [])) ∙ same))
all_read (Happenings b) c same = absurd (ended c b same)
all_read (Order b) c same = absurd (ended c b same)
all_read (Whole b) c same = tt
