-- A session on its way: what was read, asked and written so far.
use Rattle.std.proofs.Common.{◌≡◌, ◌≤◌, ◌+◌, ◌⊎◌, inl, ℕ, suc, List, [], ◌∷◌, ◌++◌, Option, Result, Ok, Err, IfErr}
use Rattle.std.proofs.Common.{length, take, drop, refl, sym, ap, subst, ◌∙◌, length-append, arith}
use Rattle.std.proofs.lemmas.List.{append-nil, append_assoc, take-append-drop}
use Rattle.bean_words.specs.declared.op.Op.{Op}
use Rattle.bean_codec.specs.declared.profile.Profile.{Profile}
use Rattle.bean_codec.specs.declared.request.Fault.{Fault}
use Rattle.bean_codec.specs.declared.request.Request.{Request}
use Rattle.bean_codec.specs.Grammar.{Item}
use Rattle.session.specs.declared.faults.ServiceFault.{ServiceFault}
use Rattle.session.specs.declared.faults.SessionFault.{SessionFault}
use Rattle.session.specs.declared.faults.SessionFault.TheVariants.{OutOfMemory, ServiceStopped}
use Rattle.session.specs.Items.{Response, ReadsFirst, operations, told_text}
use Rattle.session.specs.Held.{Held, StandsBefore, ComesTo, Finds, nothing_held, faulty}
use Rattle.session.specs.Serving.{Asks, Asked, Shortage, RunsShort, Partly, BreaksOff, result_of}
use Rattle.session.proofs.Items.{reads_more, operations_faulty, operations-append, told_text-append}

-- an answer that could not be written down
pub refuses : {X S : Type 0} (asks : Asks S) (old new : S) (op : Op) (answer : Response) (r : Result X SessionFault)
    → IfErr r (λ f. f ≡ OutOfMemory) → asks old op (result_of answer) new
    → IfErr r (λ f. ((f ≡ OutOfMemory) × (a : Response) × asks old op (result_of a) new)
    ⊎ ((f ≡ ServiceStopped) × asks old op (Err ServiceFault.Stopped) new))
refuses asks old new op answer (Ok x) e a = tt
refuses asks old new op answer (Err f) e a = inl (e, answer, a)

-- what holds where memory was short, where no other fault comes
pub short_of : {X : Type 0} (P : SessionFault → Type 0) (r : Result X SessionFault) → IfErr r (λ f. f ≡ OutOfMemory) → P OutOfMemory → IfErr r P
short_of P (Ok x) e p = tt
short_of P (Err f) e p = subst P (sym e) p

-- as many answers as operations
pub asked_length : {S : Type 0} (asks : Asks S) (old new : S) (ops : List Op) (answers : List Response)
    → Asked asks old ops answers new → length answers ≡ length ops
asked_length asks old new [] [] a = refl
asked_length asks old new [] (x ∷ answers) a = absurd a
asked_length asks old new (op ∷ ops) [] a = absurd a
asked_length asks old new (op ∷ ops) (x ∷ answers) a = ap suc (asked_length asks a.0 new ops answers a.2)

-- one ask more
pub asked_one : {S : Type 0} (asks : Asks S) (old now new : S) (ops : List Op) (answers : List Response) (op : Op)
    (answer : Response) → Asked asks old ops answers now → asks now op (result_of answer) new
    → Asked asks old (ops ++ op ∷ []) (answers ++ answer ∷ []) new
asked_one asks old now new [] [] op answer a one = (new, subst (λ s. asks s op (result_of answer) new) (sym a) one, refl)
asked_one asks old now new [] (x ∷ answers) op answer a one = absurd a
asked_one asks old now new (o ∷ ops) [] op answer a one = absurd a
asked_one asks old now new (o ∷ ops) (x ∷ answers) op answer a one = (a.0, a.1, asked_one asks a.0 now new ops answers op answer a.2 one)

-- faults are no operations
operations_more : (items : List Item) (faults : List Fault) → operations (items ++ faulty faults) ≡ operations items
operations_more items faults =
    operations-append items (faulty faults) ∙
    (ap (λ ops. operations items ++ ops) (operations_faulty faults) ∙ append-nil (operations items))

module _ (profile : Profile) where
  -- The output is what is told for the items, and with the text still unsent for those after them too. Of these at most
  -- one was asked. What is left to read is so. Each turn asked for one or read a byte.
  pub record Going {S : Type 0} (asks : Asks S) (old now : S) (turns : ℕ) (input output unsent : List ℕ) (IsLeft : List ℕ → Type 0) : Type 0 where
    pub items : List Item
    pub more : List Item
    pub answers : List Response
    pub rest : List ℕ
    pub reads : ReadsFirst profile input (items ++ more) rest
    pub few : length (operations more) ≤ 1
    pub asked : Asked asks old (operations (items ++ more)) answers now
    pub whole : output ≡ told_text items answers
    pub all : output ++ unsent ≡ told_text (items ++ more) answers
    pub left : IsLeft rest
    pub counted : turns ≤ length input + length answers

  -- at first nothing is read, asked or written
  pub goes_at_first : {S : Type 0} (asks : Asks S) (s : S) → Going asks s s 0 [] [] [] (StandsBefore (nothing_held profile))
  goes_at_first asks s = record {
    items = [];
    more = [];
    answers = [];
    rest = [];
    reads = refl;
    few = omega arith;
    asked = refl;
    whole = refl;
    all = refl;
    left = ([], refl, refl);
    counted = omega arith;
  }

  -- memory was refused
  pub runs_short : {S : Type 0} (asks : Asks S) (old now : S) (turns : ℕ) (input output unsent : List ℕ)
      (P : List ℕ → Type 0) (g : Going asks old now turns input output unsent P)
      → Shortage profile g.more g.rest (length input + length g.answers) → RunsShort profile asks old now input output
  runs_short asks old now turns input output unsent P g why = (g.items, g.more, g.answers, g.rest, g.reads, g.few, g.asked, g.whole, why)

  pub is_partly : {S : Type 0} (asks : Asks S) (old now : S) (input output : List ℕ)
      → RunsShort profile asks old now input output → Partly profile asks old now input output
  is_partly asks old now input output r = (r.0, r.1, r.2, r.3, r.4, r.5, r.6, r.7)

  -- more is read
  pub reads_in_front : (t more rest : List ℕ) (items : List Item) → ReadsFirst profile t items rest → ReadsFirst profile (t ++ more) items (rest ++ more)
  reads_in_front t more rest [] r = ap (λ u. u ++ more) r
  reads_in_front t more rest (i ∷ items) r = (
    r.0,
    r.1 ++ more,
    ap (λ u. u ++ more) r.2 ∙ append_assoc r.0 r.1 more,
    r.3,
    r.4,
    reads_in_front r.1 more rest items
        r.5,
  )

  unfoldable pub goes_reading : {S : Type 0} (asks : Asks S) (old now : S) (turns next : ℕ)
      (input output unsent bytes : List ℕ) (P Q : List ℕ → Type 0) → next ≤ turns + length bytes
      → ((t : List ℕ) → P t → Q (t ++ bytes)) → Going asks old now turns input output unsent P
      → Going asks old now next (input ++ bytes) output unsent Q
  goes_reading asks old now turns next input output unsent bytes P Q on f g = record {
    items = g.items;
    more = g.more;
    answers = g.answers;
    rest = g.rest ++ bytes;
    reads = reads_in_front input bytes g.rest (g.items ++ g.more) g.reads;
    few = g.few;
    asked = g.asked;
    whole = g.whole;
    all = g.all;
    left = f g.rest g.left;
    counted = omega (arith, g.counted, on, length-append input bytes);
  }

  -- faults more are found
  pub goes_finding : {S : Type 0} (asks : Asks S) (old now : S) (turns : ℕ) (input output : List ℕ) (s t : Held)
      (found : Option Request) → ((text : List ℕ) → StandsBefore s text → Finds profile s t text found)
      → Going asks old now turns input output s.unsent (StandsBefore s)
      → Going asks old now turns input output t.unsent (ComesTo profile found t)
  goes_finding asks old now turns input output s t found finds g =
      let f = finds g.rest g.left in
      let items : (g.items ++ g.more) ++ faulty f.0 ≡ g.items ++ (g.more ++ faulty f.0) = append_assoc g.items g.more (faulty f.0) in
      let same : operations ((g.items ++ g.more) ++ faulty f.0) ≡ operations (g.items ++ g.more) = operations_more (g.items ++ g.more) f.0 in
      record {
        items = g.items;
        more = g.more ++ faulty f.0;
        answers = g.answers;
        rest = f.1;
        reads = subst (λ is. ReadsFirst profile input is f.1) items (reads_more profile input (g.items ++ g.more) (faulty f.0) g.rest f.1 g.reads f.2);
        few = subst (λ (ops : List Op). length ops ≤ 1) (sym (operations_more g.more f.0)) g.few;
        asked = subst (λ is. Asked asks old (operations is) g.answers now) items (subst (λ ops. Asked asks old ops g.answers now) (sym same) g.asked);
        whole = g.whole;
        all =
            ap (λ u. output ++ u) f.3 ∙
            (sym (append_assoc output s.unsent (told_text (faulty f.0) [])) ∙
            (ap (λ u. u ++ told_text (faulty f.0) []) g.all ∙
            (sym (told_text-append (g.items ++ g.more) (faulty f.0) g.answers []
            (asked_length asks old now (operations (g.items ++ g.more)) g.answers g.asked)) ∙
            (ap (λ xs. told_text ((g.items ++ g.more) ++ faulty f.0) xs) (append-nil g.answers) ∙
            ap (λ is. told_text is g.answers) items))));
        left = f.4;
        counted = g.counted;
      }

  -- all that was unsent is sent
  pub goes_sending : {S : Type 0} (asks : Asks S) (old now : S) (turns : ℕ) (input output unsent : List ℕ)
      (P : List ℕ → Type 0) → Going asks old now turns input output unsent P
      → Going asks old now turns input (output ++ unsent) [] P
  goes_sending asks old now turns input output unsent P g =
      let items : g.items ++ g.more ≡ (g.items ++ g.more) ++ [] = sym (append-nil (g.items ++ g.more)) in
      record {
        items = g.items ++ g.more;
        more = [];
        answers = g.answers;
        rest = g.rest;
        reads = subst (λ is. ReadsFirst profile input is g.rest) items g.reads;
        few = omega arith;
        asked = subst (λ is. Asked asks old (operations is) g.answers now) items g.asked;
        whole = g.all;
        all = append-nil (output ++ unsent) ∙ (g.all ∙ ap (λ is. told_text is g.answers) items);
        left = g.left;
        counted = g.counted;
      }

  -- or a part of it
  pub breaks_off : {S : Type 0} (asks : Asks S) (old now : S) (turns : ℕ) (input output unsent : List ℕ)
      (P : List ℕ → Type 0) (n : ℕ) → Going asks old now turns input output unsent P
      → BreaksOff profile asks old now input (output ++ take n unsent)
  breaks_off asks old now turns input output unsent P n g = (
    g.items,
    g.more,
    g.answers,
    g.rest,
    take n unsent,
    drop n unsent,
    g.reads,
    g.few,
    g.asked,
    ap (λ u. u ++ take n unsent) g.whole,
    append_assoc output (take n unsent) (drop n unsent) ∙ (ap (λ u. output ++ u) (take-append-drop n unsent) ∙ g.all),
  )
