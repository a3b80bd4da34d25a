-- Where a session stands in a text.
use Rattle.std.proofs.Common.{◌≡◌, ℕ, ◌+◌, ◌*◌, ◌<◌, ◌≤◌, Bool, true, false, if◌then◌else◌, List, [], ◌∷◌, ◌++◌, Option}
use Rattle.std.proofs.Common.{Some, None, Result, Ok, Err, OnOk, OnErr, length, take, drop, refl, sym, ap, subst, ◌∙◌}
use Rattle.std.proofs.Common.{length-append, length-take, arith}
use Rattle.std.proofs.lemmas.List.{append-nil, append_assoc, take-append-drop, take-append-le, drop-append-le}
use Rattle.bean_codec.specs.declared.profile.Profile.{Profile}
use Rattle.bean_codec.specs.declared.reader.Want.{Want}
use Rattle.bean_codec.specs.declared.reader.Want.TheVariants.{Line, Rest, Big}
use Rattle.bean_codec.specs.declared.request.Fault.{Fault}
use Rattle.bean_codec.specs.declared.request.Request.{Request}
use Rattle.bean_codec.specs.Lines.{crlf}
use Rattle.bean_codec.specs.Grammar.{Item, Spells}
use Rattle.bean_codec.specs.Memory.{TakesMemory}
use Rattle.bean_codec.specs.Wants.{Fits}
use Rattle.bean_codec.specs.Reads.{BeginsWith, BeginsWithNone, EndsItem}
use Rattle.bean_codec.specs.Replies.{fault_text}
use Rattle.session.specs.Items.{ReadsFirst, told_text}
use Rattle.session.specs.Held.{Held, MayKeep, StandsBefore, TakesRoom, FrontTakesRoom, ComesTo, Finds, holding, faulty}
use Rattle.session.proofs.FitsMore.{fits_more}
use Rattle.session.proofs.Items.{reads_one, told_text-fault, faulty-one}

pub on_ok : {X E P Q : Type 0} (r : Result X E) → (P → Q) → OnOk r P → OnOk r Q
on_ok (Ok x) f p = f p
on_ok (Err e) f p = tt

pub if_err : {X E P : Type 0} (r : Result X E) → P → OnErr r P
if_err (Ok x) p = tt
if_err (Err e) p = p

-- a piece more
pub stands_more : (s t : Held) (piece : List ℕ)
    → t ≡ record s { kept = s.kept ++ piece; read_len = 0; capacity = t.capacity } → (text : List ℕ)
    → StandsBefore s text → StandsBefore t (text ++ piece)
stands_more s t piece e text st =
    subst (λ (h : Held). StandsBefore h (text ++ piece)) (sym e)
    (st.0, fits_more s.profile s.want st.0 s.kept piece st.1, ap (λ u. u ++ piece) st.2 ∙ append_assoc st.0 s.kept piece)

cut_in : (d kept : List ℕ) (used : ℕ) → d ++ kept ≡ (d ++ take used kept) ++ drop used kept
cut_in d kept used = ap (λ u. d ++ u) (sym (take-append-drop used kept)) ∙ sym (append_assoc d (take used kept) (drop used kept))

-- what a reader has yet to do: each byte counts twice, and what is dropped once more
abbrev pub rank : Want → ℕ
rank Line = 0
rank Rest = 1
rank (Big n) = 1

pub rank_bound : (want : Want) → rank want ≤ 1
rank_bound Line = omega arith
rank_bound Rest = omega arith
rank_bound (Big n) = omega arith

-- a text that grows keeps its front
pub still_front : (n : ℕ) (text more front new : List ℕ) → new ≡ text ++ more → n ≤ length text → take n text ≡ front → take n new ≡ front
still_front n text more front new e within same = ap (take n) e ∙ (take-append-le n text more within ∙ same)

takes_room : (item : Item) → TakesMemory item → TakesRoom item
takes_room (Ok request) takes = takes
takes_room (Err fault) takes = tt

module _ (profile : Profile) where
  -- what a reader tells of the bytes that it keeps: an item, that some may be dropped, or that more are wanted
  abbrev pub Continues : Want → List ℕ → Item × ℕ → Type 0
  Continues want kept found = (dropped : List ℕ) → Fits profile want dropped kept → EndsItem profile dropped kept found

  abbrev pub Drops : Want → List ℕ → ℕ → Want → Type 0
  Drops want kept used next = (dropped : List ℕ) → Fits profile want dropped kept → (1 ≤ used) × (used ≤ length kept)
      × Fits profile next (dropped ++ take used kept) (drop used kept)

  abbrev pub NeedsMore : Want → List ℕ → Type 0
  NeedsMore want kept = (dropped : List ℕ) → Fits profile want dropped kept → BeginsWithNone profile (dropped ++ kept)

  -- the faults in front of any text at which it stood are told, and it stands behind them
  abbrev pub Looks : Held → Held → Type 0
  Looks old now = (t : List ℕ) → StandsBefore old t →
      (faults : List Fault) × (rest : List ℕ) × ReadsFirst profile t (faulty faults) rest
      × (now.unsent ≡ old.unsent ++ told_text (faulty faults) []) × StandsBefore now rest

  pub looks_at_first : (s : Held) → Looks s s
  looks_at_first s t st = ([], t, refl, sym (append-nil s.unsent), st)

  pub looks_dropping : (old : Held) (want next : Want) (kept unsent : List ℕ) (used : ℕ) → Drops want kept used next
      → Looks old (holding profile want kept unsent) → Looks old (holding profile next (drop used kept) unsent)
  looks_dropping old want next kept unsent used drops looks t st =
      let l = looks t st in
      let d = l.4.0 in
      (l.0, l.1, l.2, l.3, (d ++ take used kept, (drops d l.4.1).2, l.4.2 ∙ cut_in d kept used))

  pub looks_past_fault : (old : Held) (want : Want) (kept unsent new : List ℕ) (fault : Fault) (used : ℕ)
      → Continues want kept (Err fault, used) → new ≡ unsent ++ fault_text fault → Looks old (holding profile want kept unsent)
      → Looks old (holding profile Line (drop used kept) new)
  looks_past_fault old want kept unsent new fault used item e looks t st =
      let l = looks t st in
      let d = l.4.0 in (
        l.0 ++ fault ∷ [],
        drop used kept,
        subst (λ items. ReadsFirst profile t items (drop used kept)) (sym (faulty-one l.0 fault))
            (reads_one profile t (faulty l.0) l.1 (d ++ take used kept) (drop used kept) (Err fault) l.2
            (l.4.2 ∙ cut_in d kept used) ((item d l.4.1).1) refl),
        e ∙ (ap (λ u. u ++ fault_text fault) l.3 ∙
            (append_assoc old.unsent (told_text (faulty l.0) []) (fault_text fault) ∙ ap (λ u. old.unsent ++ u)
            (sym (told_text-fault l.0 fault)))),
        ([], refl, refl),
      )

  pub finds_none : (old : Held) (want : Want) (kept unsent : List ℕ) → NeedsMore want kept
      → Looks old (holding profile want kept unsent) → (t : List ℕ) → StandsBefore old t
      → Finds profile old (holding profile want kept unsent) t None
  finds_none old want kept unsent more looks t st =
      let l = looks t st in
      (l.0, l.1, l.2, l.3, (l.4, subst (λ u. BeginsWithNone profile u) (sym l.4.2) (more l.4.0 l.4.1)))

  pub finds_request : (old : Held) (want : Want) (kept unsent : List ℕ) (request : Request) (used : ℕ)
      → Continues want kept (Ok request, used) → Looks old (holding profile want kept unsent) → (t : List ℕ) → StandsBefore old t
      → Finds profile old (holding profile Line (drop used kept) unsent) t (Some request)
  finds_request old want kept unsent request used item looks t st =
      let l = looks t st in
      let d = l.4.0 in
      (l.0, l.1, l.2, l.3, (d ++ take used kept, drop used kept, l.4.2 ∙ cut_in d kept used, (item d l.4.1).1, ([], refl, refl)))

  -- what stands behind faults takes memory, and so does what stands in front
  front_of_faults : (t rest : List ℕ) (faults : List Fault) → ReadsFirst profile t (faulty faults) rest → FrontTakesRoom profile rest → FrontTakesRoom profile t
  front_of_faults t rest [] r room = subst (FrontTakesRoom profile) (sym r) room
  front_of_faults t rest (fault ∷ faults) r room = (Err fault, r.0, r.1, r.2, r.3, tt)

  pub request_takes_room : (old : Held) (want : Want) (kept unsent : List ℕ) → (want ≡ Line)
      × ((found : Item × ℕ) × TakesMemory found.0 × BeginsWith profile kept found) → Looks old (holding profile want kept unsent)
      → (t : List ℕ) → StandsBefore old t → FrontTakesRoom profile t
  request_takes_room old want kept unsent (line, needs) looks t st =
      let l = looks t st in
      let none : l.4.0 ≡ [] = subst (λ w. Fits profile w l.4.0 kept) line l.4.1 in
      let same : l.1 ≡ kept = l.4.2 ∙ ap (λ d. d ++ kept) none in
      let here : FrontTakesRoom profile kept = (
        needs.0.0,
        take needs.0.1 kept,
        drop needs.0.1 kept,
        sym
            (take-append-drop needs.0.1 kept),
        needs.2.1,
        takes_room needs.0.0 needs.1,
      ) in
      front_of_faults t l.1 l.0 l.2 (subst (FrontTakesRoom profile) (sym same) here)

  pub fault_takes_room : (old : Held) (want : Want) (kept unsent : List ℕ) (fault : Fault) (used : ℕ)
      → Continues want kept (Err fault, used) → Looks old (holding profile want kept unsent) → (t : List ℕ) → StandsBefore old t
      → FrontTakesRoom profile t
  fault_takes_room old want kept unsent fault used item looks t st =
      let l = looks t st in
      let d = l.4.0 in
      front_of_faults t l.1 l.0 l.2 (Err fault, d ++ take used kept, drop used kept, l.4.2 ∙ cut_in d kept used, (item d l.4.1).1, tt)

  spelled_length : (text : List ℕ) (item : Item) → Spells profile text item → 2 ≤ length text
  spelled_length text item spelled = let e =
      ap (λ bytes. length bytes) spelled.cut in omega
      (arith, length-append spelled.line (crlf ++ spelled.rest), length-append crlf spelled.rest)

  -- an item takes a byte, or ends a part that was dropped
  pub takes : (want : Want) (kept : List ℕ) (item : Item) (used : ℕ) → Continues want kept (item, used) → 0 < 2 * used + rank want
  takes Line kept item used c =
      let two = spelled_length (take used kept) item (c [] refl).1 in
      omega (arith, length-take used kept)
  takes Rest kept item used c = omega arith
  takes (Big n) kept item used c = omega arith

  comes_same : (found : Option Request) (want : Want) (kept a b t : List ℕ) (p q : Bool) (i j k l m : ℕ)
      → ComesTo profile found (record {
        profile = profile;
        want = want;
        kept = kept;
        unsent = a;
        is_open = p;
        read_len = i;
        sent_len = j;
        capacity =
            0;
      }) t → ComesTo profile found (record {
        profile = profile;
        want = want;
        kept = kept;
        unsent = b;
        is_open = q;
        read_len = k;
        sent_len =
            l;
        capacity = m;
      }) t
  comes_same None want kept a b t p q i j k l m c = c
  comes_same (Some request) want kept a b t p q i j k l m c = c

  -- what is found where only a part of the text is unsent
  pub finds_unsent : (want next : Want) (kept rest text new : List ℕ) (sent start at room : ℕ) (p q : Bool)
      (found : Option Request) → sent ≤ length text
      → ((t : List ℕ) → StandsBefore (holding profile want kept text) t
      → Finds profile (holding profile want kept text) (holding profile next rest new) t found)
      → (t : List ℕ) → StandsBefore (record {
        profile = profile;
        want = want;
        kept = kept;
        unsent = drop sent text;
        is_open = p;
        read_len =
            start;
        sent_len = sent;
        capacity = room;
      }) t
      → Finds profile (record {
        profile = profile;
        want = want;
        kept = kept;
        unsent = drop sent text;
        is_open = p;
        read_len = start;
        sent_len =
            sent;
        capacity = room;
      }) (record {
        profile = profile;
        want = next;
        kept = rest;
        unsent = drop sent new;
        is_open = q;
        read_len =
            at;
        sent_len = sent;
        capacity = room;
      }) t found
  finds_unsent want next kept rest text new sent start at room p q found within finds t st =
      let f = finds t st in (
        f.0,
        f.1,
        f.2,
        ap (drop sent) f.3 ∙ drop-append-le sent text
            (told_text (faulty f.0) []) within,
        comes_same found next rest new
            (drop sent new) f.1 false q 0 0 at sent room f.4,
      )

  -- bytes that may be kept, and perhaps a piece more
  pub keeps_more : (want : Want) (start : ℕ) (old new piece : List ℕ) (ok : Bool) → start ≤ length old
      → new ≡ (if ok then old ++ piece else old) → MayKeep profile want (drop start old) → MayKeep profile want (drop start new)
  keeps_more want start old new piece true within e keep =
      subst (MayKeep profile want) (sym (ap (drop start) e ∙ drop-append-le start old piece within))
      (keep.0, fits_more profile want keep.0 (drop start old) piece keep.1)
  keeps_more want start old new piece false within e keep = subst (λ bytes. MayKeep profile want (drop start bytes)) (sym e) keep
