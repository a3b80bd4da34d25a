-- How a session that is on its way goes on or ends.
use Rattle.std.proofs.Common.{◌≡◌, ◌⊎◌, inl, inr, ℕ, ◌+◌, ◌<◌, ◌≤◌, ◌^◌, Bool, List, [], ◌∷◌, ◌++◌, Option, Some, None}
use Rattle.std.proofs.Common.{Result, Ok, Err, OnOk, OnErr, MatchBool, length, take, refl, sym, ap, subst, ◌∙◌}
use Rattle.std.proofs.Common.{length-append, arith}
use Rattle.std.proofs.lemmas.List.{append-nil}
use Rattle.std.proofs.Math.Seq.{take-length}
use Rattle.std.proofs.KnownBytes.{Appends-nil, Appends-trans, Consumes-nil, Consumes-trans, Consumes-kept}
use Rattle.std.specs.Io.KnownBytes.{Appends, Consumes, Keeps}
use Rattle.bean_words.specs.declared.op.Op.{Op}
use Rattle.bean_codec.specs.declared.profile.Profile.{Profile}
use Rattle.bean_codec.specs.declared.request.Request.TheVariants.{Do, Quit}
use Rattle.bean_codec.specs.Grammar.{Item, Spells}
use Rattle.bean_codec.specs.Reads.{BeginsWithNone}
use Rattle.session.specs.declared.faults.End.{End}
use Rattle.session.specs.declared.faults.ServiceFault.{ServiceFault}
use Rattle.session.specs.declared.faults.SessionFault.{SessionFault}
use Rattle.session.specs.declared.faults.SessionFault.TheVariants.{OutOfMemory, ReadFailed, WriteFailed, ServiceStopped}
use Rattle.session.specs.Streams.{AppendsBeginning}
use Rattle.session.specs.Items.{Response, Reads, ReadsFirst, operations, told_text, answer_text}
use Rattle.session.specs.Held.{Held, StandsBefore, FrontTakesRoom, ComesTo, Finds, nothing_held}
use Rattle.session.specs.Serving.{Asks, Asked, Whole, StopsAt, Conversed, Over, Shortage, result_of}
use Rattle.session.proofs.Items.{reads_one, operations-append, told_text-append}
use Rattle.session.proofs.Going.{Going, asked_length, asked_one, goes_at_first, goes_finding, goes_reading, goes_sending, runs_short, breaks_off}

-- whether it went wrong or not, a beginning of the text was written
pub began : {X E : Type 0} (r : Result X E) (k l : Option (List ℕ)) (text : List ℕ) → OnOk r (Appends k l text)
    → OnErr r (AppendsBeginning k l text) → AppendsBeginning k l text
began (Ok x) k l text all some = (length text, subst (Appends k l) (sym (take-length text)) all)
began (Err e) k l text all some = some

module _ (profile : Profile) where
  -- no item is left
  pub reads_to_end : (t : List ℕ) (items : List Item) (rest : List ℕ) → ReadsFirst profile t items rest → BeginsWithNone profile rest
      → Reads profile t items End.Eof
  reads_to_end t [] rest r none = (subst (BeginsWithNone profile) (sym r) none, refl)
  reads_to_end t (i ∷ items) rest r none = (
    r.0,
    r.1,
    r.2,
    r.3,
    subst (λ (b : Bool). MatchBool b ((items ≡ []) × (End.Eof ≡ End.Quit))
        (Reads profile r.1 items End.Eof)) (sym r.4) (reads_to_end r.1 items rest r.5 none),
  )

  -- a quit is next
  pub reads_to_quit : (t : List ℕ) (items : List Item) (rest front more : List ℕ) → ReadsFirst profile t items rest
      → rest ≡ front ++ more → Spells profile front (Ok Quit) → Reads profile t (items ++ Ok Quit ∷ []) End.Quit
  reads_to_quit t [] rest front more r cut spelled = (front, more, r ∙ cut, spelled, (refl, refl))
  reads_to_quit t (i ∷ items) rest front more r cut spelled = (
    r.0,
    r.1,
    r.2,
    r.3,
    subst (λ (b : Bool). MatchBool b ((items ++ Ok Quit ∷ [] ≡ []) × (End.Quit ≡ End.Quit))
        (Reads profile r.1 (items ++ Ok Quit ∷ []) End.Quit)) (sym r.4)
        (reads_to_quit r.1 items rest front more r.5 cut spelled),
  )

  -- where nothing is unsent, the output is what is told for all that was read
  all_told : {S : Type 0} (asks : Asks S) (old now : S) (turns : ℕ) (input output : List ℕ) (P : List ℕ → Type 0)
      (g : Going profile asks old now turns input output [] P) → output ≡ told_text (g.items ++ g.more) g.answers
  all_told asks old now turns input output P g = sym (append-nil output) ∙ g.all

  as_many : {S : Type 0} (asks : Asks S) (old now : S) (turns : ℕ) (input output unsent : List ℕ) (P : List ℕ → Type 0)
      (g : Going profile asks old now turns input output unsent P) → length g.answers ≡ length (operations (g.items ++ g.more))
  as_many asks old now turns input output unsent P g = asked_length asks old now (operations (g.items ++ g.more)) g.answers g.asked

  pub whole_eof : {S : Type 0} (asks : Asks S) (old now : S) (turns : ℕ) (input output : List ℕ) (t : Held)
      → Going profile asks old now turns input output [] (ComesTo profile None t) → Whole profile asks old now input output End.Eof
  whole_eof asks old now turns input output t g =
      (g.items ++ g.more, g.answers, reads_to_end input (g.items ++ g.more) g.rest g.reads g.left.1, g.asked, all_told asks old now turns input output _ g)

  pub whole_quit : {S : Type 0} (asks : Asks S) (old now : S) (turns : ℕ) (input output : List ℕ) (t : Held)
      → Going profile asks old now turns input output [] (ComesTo profile (Some Quit) t) → Whole profile asks old now input output End.Quit
  whole_quit asks old now turns input output t g =
      let items = g.items ++ g.more in (
        items ++ Ok Quit ∷ [],
        g.answers,
        reads_to_quit input items g.rest g.left.0 g.left.1 g.reads g.left.2 g.left.3,
        subst (λ ops. Asked asks old ops g.answers now) (sym (operations-append items (Ok Quit ∷ []) ∙ append-nil (operations items))) g.asked,
        all_told asks old now turns input output _ g ∙
            (sym (append-nil (told_text items g.answers)) ∙
            (sym (told_text-append items (Ok Quit ∷ []) g.answers [] (as_many asks old now turns input output [] _ g)) ∙
            ap (λ xs. told_text (items ++ Ok Quit ∷ []) xs) (append-nil g.answers))),
      )

  pub stops_at : {S : Type 0} (asks : Asks S) (old now last : S) (turns : ℕ) (input output : List ℕ) (t : Held) (op : Op)
      → asks now op (Err ServiceFault.Stopped) last → Going profile asks old now turns input output [] (ComesTo profile (Some (Do op)) t)
      → StopsAt profile asks old last input output
  stops_at asks old now last turns input output t op one g = (
    g.items ++ g.more,
    g.answers,
    op,
    g.left.1,
    now,
    reads_one profile input (g.items ++ g.more) g.rest g.left.0 g.left.1 (Ok (Do op)) g.reads g.left.2 g.left.3 refl,
    g.asked,
    one,
    all_told asks old now turns input output _ g,
  )

  pub goes_answered : {S : Type 0} (asks : Asks S) (old now last : S) (turns : ℕ) (input output : List ℕ) (t : Held)
      (op : Op) (answer : Response) → asks now op (result_of answer) last
      → Going profile asks old now turns input output [] (ComesTo profile (Some (Do op)) t)
      → Going profile asks old last (turns + 1) input output (answer_text answer) (StandsBefore t)
  goes_answered asks old now last turns input output t op answer one g =
      let items = g.items ++ g.more in
      let many = as_many asks old now turns input output [] _ g in
      let so_far = all_told asks old now turns input output _ g in
      record {
        items = items;
        more = Ok (Do op) ∷ [];
        answers = g.answers ++ answer ∷ [];
        rest = g.left.1;
        reads = reads_one profile input items g.rest g.left.0 g.left.1 (Ok (Do op)) g.reads g.left.2 g.left.3 refl;
        few = omega arith;
        asked = subst (λ ops. Asked asks old ops (g.answers ++ answer ∷ []) last)
            (sym (operations-append items (Ok (Do op) ∷ [])))
            (asked_one asks old now last (operations items) g.answers op answer g.asked one);
        whole = so_far ∙ (sym (append-nil (told_text items g.answers)) ∙
            (sym (told_text-append items [] g.answers (answer ∷ []) many) ∙ ap
            (λ is. told_text is (g.answers ++ answer ∷ [])) (append-nil items)));
        all =
            ap (λ u. u ++ answer_text answer) so_far ∙
            (ap (λ u. told_text items g.answers ++ u) (sym (append-nil (answer_text answer))) ∙
            sym (told_text-append items (Ok (Do op) ∷ []) g.answers (answer ∷ []) many));
        left = g.left.4;
        counted = let count = g.counted in omega (arith, count, length-append g.answers (answer ∷ []));
      }

  -- Over streams: a is what the reader would give at first and b what it would now, h what the writer held at first and
  -- k what it holds now.
  abbrev pub Goes : {S : Type 0} → Asks S → S → S → ℕ → Option (List ℕ) → Option (List ℕ) → Option (List ℕ)
      → Option (List ℕ) → List ℕ → (List ℕ → Type 0) → Type 0
  Goes asks old now turns a b h k unsent P = Over a b h k (λ input output. Going profile asks old now turns input output unsent P)

  abbrev pub Ends : {S : Type 0} → Asks S → S → S → Option (List ℕ) → Option (List ℕ) → Option (List ℕ) → Option (List ℕ) → Result End SessionFault → Type 0
  Ends asks old now a b h k result = Over a b h k (λ input output. Conversed profile asks old now input output result)

  pub sets_out : {S : Type 0} (asks : Asks S) (s : S) (a h : Option (List ℕ)) → Goes asks s s 0 a a h h [] (StandsBefore (nothing_held profile))
  sets_out asks s a h = ([], [], Consumes-nil a, Appends-nil h, goes_at_first profile asks s)

  pub finds : {S : Type 0} (asks : Asks S) (old now : S) (turns : ℕ) (a b h k : Option (List ℕ)) (s t : Held) (found : _)
      → s.profile ≡ profile → ((text : List ℕ) → StandsBefore s text → Finds s.profile s t text found)
      → Goes asks old now turns a b h k s.unsent (StandsBefore s)
      → Goes asks old now turns a b h k t.unsent (ComesTo profile found t)
  finds asks old now turns a b h k s t found speaks f g =
      let finds = subst (λ p. (text : List ℕ) → StandsBefore s text → Finds p s t text found) speaks f in
      (g.0, g.1, g.2, g.3, goes_finding profile asks old now turns g.0 g.1 s t found finds g.4)

  pub sends : {S : Type 0} (asks : Asks S) (old now : S) (turns : ℕ) (a b h k l : Option (List ℕ)) (unsent : List ℕ)
      (P : List ℕ → Type 0) → Appends k l unsent → Goes asks old now turns a b h k unsent P
      → Goes asks old now turns a b h l [] P
  sends asks old now turns a b h k l unsent P sent g = (
    g.0,
    g.1 ++ unsent,
    g.2,
    Appends-trans h k l g.1 unsent g.3 sent,
    goes_sending profile asks old now turns g.0 g.1 unsent P
        g.4,
  )

  pub reads : {S : Type 0} (asks : Asks S) (old now : S) (turns : ℕ) (a b c h k : Option (List ℕ)) (bytes : List ℕ)
      (t s : Held) → 0 < length bytes → Consumes b c bytes
      → ((text : List ℕ) → StandsBefore t text → StandsBefore s (text ++ bytes))
      → Goes asks old now turns a b h k [] (ComesTo profile None t) → Goes asks old now (turns + 1) a c h k [] (StandsBefore s)
  reads asks old now turns a b c h k bytes t s some read f g = (
    g.0 ++ bytes,
    g.1,
    Consumes-trans a b c g.0 bytes g.2 read,
    g.3,
    goes_reading profile asks old now turns
        (turns + 1) g.0 g.1 [] bytes (ComesTo profile None t) (StandsBefore s) (omega (arith, some)) (λ text l. f text l.0) g.4,
  )

  pub answers : {S : Type 0} (asks : Asks S) (old now last : S) (turns : ℕ) (a b h k : Option (List ℕ)) (t : Held)
      (op : Op) (answer : Response) → asks now op (result_of answer) last
      → Goes asks old now turns a b h k [] (ComesTo profile (Some (Do op)) t)
      → Goes asks old last (turns + 1) a b h k (answer_text answer) (StandsBefore t)
  answers asks old now last turns a b h k t op answer one g = (g.0, g.1, g.2, g.3, goes_answered asks old now last turns g.0 g.1 t op answer one g.4)

  -- the text at which it stood begins with an item that takes memory
  pub ends_looking : {S : Type 0} (asks : Asks S) (old now : S) (turns : ℕ) (a b h k : Option (List ℕ)) (s : Held)
      (r : Result End SessionFault) → r ≡ Err OutOfMemory → s.profile ≡ profile
      → ((text : List ℕ) → StandsBefore s text → FrontTakesRoom s.profile text)
      → Goes asks old now turns a b h k s.unsent (StandsBefore s) → Ends asks old now a b h k r
  ends_looking asks old now turns a b h k s r e speaks room g =
      let front = subst (λ p. FrontTakesRoom p g.4.rest) speaks (room g.4.rest g.4.left) in (
        g.0,
        g.1,
        g.2,
        g.3,
        subst (Conversed profile asks old now g.0 g.1) (sym e)
            (runs_short profile asks old now turns g.0 g.1 s.unsent (StandsBefore s) g.4 (Shortage.item front)),
      )

  -- so many turns were taken as can be counted
  pub ends_counting : {S : Type 0} (asks : Asks S) (old now : S) (turns : ℕ) (a b h k : Option (List ℕ)) (unsent : List ℕ)
      (P : List ℕ → Type 0) (r : Result End SessionFault) → r ≡ Err OutOfMemory → 2 ^ 64 ≤ turns + 1
      → Goes asks old now turns a b h k unsent P → Ends asks old now a b h k r
  ends_counting asks old now turns a b h k unsent P r e many g = (
    g.0,
    g.1,
    g.2,
    g.3,
    subst (Conversed profile asks old now g.0 g.1) (sym e)
        (runs_short profile asks old now turns g.0 g.1 unsent P g.4
        (Shortage.turns (let count = g.4.counted in omega (arith, count, many)))),
  )

  pub ends_writing : {S : Type 0} (asks : Asks S) (old now : S) (turns : ℕ) (a b h k l : Option (List ℕ))
      (unsent : List ℕ) (P : List ℕ → Type 0) (r : Result End SessionFault) → r ≡ Err WriteFailed
      → AppendsBeginning k l unsent → Goes asks old now turns a b h k unsent P → Ends asks old now a b h l r
  ends_writing asks old now turns a b h k l unsent P r e some g = (
    g.0,
    g.1 ++ take some.0 unsent,
    g.2,
    Appends-trans h k l g.1 (take some.0 unsent) g.3 some.1,
    subst
        (Conversed profile asks old now g.0 (g.1 ++ take some.0 unsent)) (sym e)
        (breaks_off profile asks old now turns g.0 g.1 unsent P some.0 g.4),
  )

  pub ends_eof : {S : Type 0} (asks : Asks S) (old now : S) (turns : ℕ) (a b c h k : Option (List ℕ)) (t : Held)
      (r : Result End SessionFault) → r ≡ Ok End.Eof → Consumes b c []
      → Goes asks old now turns a b h k [] (ComesTo profile None t) → Ends asks old now a c h k r
  ends_eof asks old now turns a b c h k t r e read g = (
    g.0,
    g.1,
    subst (Consumes a c) (append-nil g.0) (Consumes-trans a b c g.0 [] g.2 read),
    g.3,
    subst
        (Conversed profile asks old now g.0 g.1) (sym e) (whole_eof asks old now turns g.0 g.1 t g.4),
  )

  pub ends_quit : {S : Type 0} (asks : Asks S) (old now : S) (turns : ℕ) (a b h k : Option (List ℕ)) (t : Held)
      → Goes asks old now turns a b h k [] (ComesTo profile (Some Quit) t) → Ends asks old now a b h k (Ok End.Quit)
  ends_quit asks old now turns a b h k t g = (g.0, g.1, g.2, g.3, whole_quit asks old now turns g.0 g.1 t g.4)

  pub ends_reading : {S X : Type 0} (asks : Asks S) (old now : S) (turns : ℕ) (gives : X → Option (List ℕ))
      (a h k : Option (List ℕ)) (was next : X) (t : Held) (fault : SessionFault) (Failed : Type 0)
      → ((fault ≡ OutOfMemory) × (next ≡ was)) ⊎ ((fault ≡ ReadFailed) × Failed × Keeps (gives was) (gives next))
      → Goes asks old now turns a (gives was) h k [] (ComesTo profile None t) → Ends asks old now a (gives next) h k (Err fault)
  ends_reading asks old now turns gives a h k was next t fault Failed (inl short) g = (
    g.0,
    g.1,
    subst (λ r. Consumes a (gives r) g.0) (sym short.1) g.2,
    g.3,
    subst
        (λ f. Conversed profile asks old now g.0 g.1 (Err f)) (sym short.0)
        (runs_short profile asks old now turns g.0 g.1 [] (ComesTo profile None t) g.4 (Shortage.piece g.4.left.1)),
  )
  ends_reading asks old now turns gives a h k was next t fault Failed (inr failed) g = (
    g.0,
    g.1,
    Consumes-kept a (gives was) (gives next) g.0 g.2 failed.2,
    g.3,
    subst
        (λ f. Conversed profile asks old now g.0 g.1 (Err f)) (sym failed.0) (whole_eof asks old now turns g.0 g.1 t g.4),
  )

  pub ends_answering : {S : Type 0} (asks : Asks S) (old now last : S) (turns : ℕ) (a b h k : Option (List ℕ)) (t : Held)
      (op : Op) (fault : SessionFault)
      → ((fault ≡ OutOfMemory) × (answer : Response) × asks now op (result_of answer) last)
      ⊎ ((fault ≡ ServiceStopped) × asks now op (Err ServiceFault.Stopped) last)
      → Goes asks old now turns a b h k [] (ComesTo profile (Some (Do op)) t) → Ends asks old last a b h k (Err fault)
  unfolding goes_answered
  ends_answering asks old now last turns a b h k t op fault (inl lost) g = (
    g.0,
    g.1,
    g.2,
    g.3,
    subst (λ f. Conversed profile asks old last g.0 g.1 (Err f)) (sym lost.0)
        (runs_short profile asks old last (turns + 1) g.0 g.1 (answer_text lost.1) (StandsBefore t)
        (goes_answered asks old now last turns g.0 g.1 t op lost.1 lost.2 g.4) (Shortage.answer refl)),
  )
  ends_answering asks old now last turns a b h k t op fault (inr stopped) g =
      let stops = stops_at asks old now last turns g.0 g.1 t op stopped.1 g.4 in
      (g.0, g.1, g.2, g.3, subst (λ f. Conversed profile asks old last g.0 g.1 (Err f)) (sym stopped.0) stops)

  -- the same state under other names
  pub goes_as : {S : Type 0} (asks : Asks S) (old now last : S) (turns : ℕ) (a b c h k : Option (List ℕ))
      (unsent : List ℕ) (s t : Held) → last ≡ now → c ≡ b → t ≡ s → s.unsent ≡ unsent
      → Goes asks old now turns a b h k unsent (StandsBefore s)
      → Goes asks old last turns a c h k t.unsent (StandsBefore t)
  goes_as asks old now last turns a b c h k unsent s t services readers sessions text g =
      subst (λ (u : Held). Goes asks old last turns a c h k u.unsent (StandsBefore u)) (sym sessions)
      (subst (λ (r : Option (List ℕ)). Goes asks old last turns a r h k s.unsent (StandsBefore s)) (sym readers)
      (subst (λ v. Goes asks old v turns a b h k s.unsent (StandsBefore s)) (sym services)
      (subst (λ u. Goes asks old now turns a b h k u (StandsBefore s)) (sym text) g)))
