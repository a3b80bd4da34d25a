-- What is legal for its order has no fault.
use Rattle.std.proofs.Common.{◌≡◌, ◌≢◌, ℕ, zero, suc, ◌+◌, ◌<◌, ◌==◌, ◌||◌, ◌⊎◌, append-nil, Bool, true, false, cond}
use Rattle.std.proofs.Common.{inl, inr, List, [], ◌∷◌, ◌++◌, map, take, Some, refl, sym, ap, subst, ◌∙◌, arith}
use Rattle.std.proofs.lemmas.Bool.{false_from_ne_true, eqb-true}
use Rattle.std.specs.List.{filter_map}
use Rattle.std.specs.Option.{option_map}
use Rattle.std.specs.Prelude.{slice_get}
use Rattle.object.specs.Happenings.{submitted_key, SubmittedOnce}
use Rattle.object.specs.Keys.{stands, found, same_key, KeysOnce}
use Rattle.object.specs.KeyLaws.{same_is, same_when}
use Rattle.object.specs.Legal.{IsLegal, IsRising, WasSubmitted}
use Rattle.object.specs.ListLaws.{In-cases, In-right}
use Rattle.object.specs.Lists.{In}
use Rattle.object.specs.declared.command.Answer.{Answer}
use Rattle.object.specs.declared.command.Command.{Command}
use Rattle.object.specs.declared.command.Key.{Key}
use Rattle.object.specs.declared.command.Submission.{Submission}
use Rattle.bean_queue.specs.Places.{queue_replay}
use Rattle.bean_words.specs.declared.op.Op.{Op}
use Rattle.bean_words.specs.declared.reply.Reply.{Reply}
use Rattle.recorder.specs.Chronicles.{Chronicle}
use Rattle.chronicle.specs.Checking.{ordered_commands, IsAbove, IsRightPlace, IsRightLine, IsFirstOfKey, IsFaultless}
use Rattle.bean_queue.specs.Effects.{queue_rules}
use Rattle.chronicle_text.specs.Happenings.{Happening, happenings, happenings_from, came_at, moment}
use Rattle.chronicle_text.specs.Happenings.Happening.{Submitted, Answered}

-- ---- items of different keys

-- two of them with one key are one
once_one : {X : Type 0} (key_of : X → Key) (xs : List X) → KeysOnce key_of xs → (x y : X) → In x xs → In y xs → key_of x ≡ key_of y → x ≡ y
once_one key_of [] once x y i j same = absurd i
once_one key_of (z ∷ zs) once x y (inl e) (inl f) same = e ∙ sym f
once_one key_of (z ∷ zs) once x y (inl e) (inr j) same = absurd (once.0 y j (sym same ∙ ap key_of e))
once_one key_of (z ∷ zs) once x y (inr i) (inl f) same = absurd (once.0 x i (same ∙ ap key_of f))
once_one key_of (z ∷ zs) once x y (inr i) (inr j) same = once_one key_of zs once.1 x y i j same

-- each of them is found under its key
found_once : {X : Type 0} (key_of : X → Key) (xs : List X) → KeysOnce key_of xs → (x : X) → In x xs → found key_of (key_of x) xs ≡ Some x
found_once key_of [] once x i = absurd i
found_once key_of (y ∷ ys) once x (inl same) =
    ap (λ b. cond b (Some y) (found key_of (key_of x) ys)) (same_when (key_of y) (key_of x) (ap key_of (sym same))) ∙ ap Some (sym same)
found_once key_of (y ∷ ys) once x (inr i) =
    ap (λ b. cond b (Some y) (found key_of (key_of x) ys))
    (false_from_ne_true (same_key (key_of y) (key_of x)) (λ s. once.0 x i (sym (same_is (key_of y) (key_of x) s))))
    ∙ found_once key_of ys once.1 x i

-- and so its key stands there
stands_in : {X : Type 0} (key_of : X → Key) (xs : List X) (x : X) → In x xs → stands key_of (key_of x) xs ≡ true
stands_in key_of [] x i = absurd i
stands_in key_of (y ∷ ys) x (inl same) = ap (λ b. b || stands key_of (key_of x) ys) (same_when (key_of y) (key_of x) (ap key_of (sym same)))
stands_in key_of (y ∷ ys) x (inr i) =
    elim (same_key (key_of y) (key_of x)) as (λ b. (b || stands key_of (key_of x) ys) ≡ true) [
      | true ↦ refl
      | false ↦ stands_in key_of ys x i
    ]

-- ---- the order

-- the keys of commands
abbrev keys_of : List (Command Op) → List Key
keys_of cs = map (λ (d : Command Op). d.key) cs

-- where the keys are cut, the commands are
record CutAt (commands : List (Command Op)) (earlier : List Key) (key : Key) : Type 0 where
  command : Command Op
  among : In command commands
  has : command.key ≡ key
  above : IsAbove key earlier

cut_at : (commands : List (Command Op)) → IsRising commands → (earlier : List Key) (key : Key) (later : List Key)
    → keys_of commands ≡ earlier ++ (key ∷ later) → CutAt commands earlier key
cut_at [] rises [] key later is = absurd (cc)
cut_at [] rises (k ∷ earlier) key later is = absurd (cc)
cut_at (d ∷ ds) rises [] key later is =
    let same : d.key ≡ key = cc in
    record { command = d; among = inl refl; has = same; above = λ k i. absurd i }
cut_at (d ∷ ds) rises (k ∷ earlier) key later is =
    let same : d.key ≡ k = cc in
    let rest : keys_of ds ≡ earlier ++ (key ∷ later) = cc in
    let r = cut_at ds rises.1 earlier key later rest in
    record {
      command = r.command;
      among = inr r.among;
      has = r.has;
      above = λ j i session. elim i as (λ v. j.number < key.number) [
        | inl it ↦
            let first : j ≡ d.key = it ∙ sym same in
            let less = rises.0 r.command r.among (ap (λ (u : Key). u.session) r.has ∙ sym session ∙ ap (λ (u : Key). u.session) first) in
            subst (λ (u : Key). u.number < key.number) (sym first) (subst (λ (u : Key). d.key.number < u.number) r.has less)
        | inr more ↦ r.above j more session
      ];
    }

-- the commands of the keys are these commands
commands_back : (submitted : List (Submission Op)) → SubmittedOnce submitted → (commands : List (Command Op))
    → ((d : Command Op) → In d commands → WasSubmitted d submitted) →
    filter_map (λ key. option_map (λ (s : Submission Op). s.command) (found submitted_key key submitted)) (keys_of commands) ≡ commands
commands_back submitted once [] was = refl
commands_back submitted once (d ∷ ds) was =
    let it = was d (inl refl) in
    let key_same : submitted_key it.0 ≡ d.key = ap (λ (e : Command Op). e.key) it.2 in
    let at : found submitted_key d.key submitted ≡ Some it.0 =
    ap (λ k. found submitted_key k submitted) (sym key_same) ∙ found_once submitted_key submitted once it.0 it.1 in
    let rest = commands_back submitted once ds (λ e i. was e (inr i)) in
    rw at (ap (λ (e : Command Op). e ∷ filter_map
    (λ key. option_map (λ (s : Submission Op). s.command) (found submitted_key key submitted)) (keys_of ds)) it.2 ∙
    ap (λ t. d ∷ t) rest)

-- the command at a key's place
command_there : (commands : List (Command Op)) (n : ℕ) (key : Key) → slice_get (keys_of commands) n ≡ Some key
    → (d : Command Op) × (slice_get commands n ≡ Some d) × (d.key ≡ key)
command_there [] n key at = absurd (cc)
command_there (d ∷ ds) zero key at = let same : d.key ≡ key = cc in (d, refl, same)
command_there (d ∷ ds) (suc n) key at = command_there ds n key at

-- ---- what happened

happening_item : {X : Type 0} (x y : X) (xs ys : List X) → x ∷ xs ≡ y ∷ ys → (x ≡ y) × (xs ≡ ys)
happening_item x y xs ys same = let first : x ≡ y = cc in let rest : xs ≡ ys = cc in (first, rest)

came_of : (given : ℕ) (xs : List (Submission Op)) (t : Submission Op) → In t (came_at given xs) → In t xs × (t.after ≡ given)
came_of given [] t i = absurd i
came_of given (x ∷ xs) t i =
    elim (x.after == given) as (λ b. (x.after == given) ≡ b → In t (cond b (x ∷ came_at given xs) (came_at given xs)) → In t (x ∷ xs) × (t.after ≡ given)) [
      | true ↦ λ now j. elim j as (λ v. In t (x ∷ xs) × (t.after ≡ given)) [
        | inl same ↦ (inl same, ap (λ (u : Submission Op). u.after) same ∙ eqb-true x.after given now)
        | inr more ↦ let r = came_of given xs t more in (inr r.0, r.1)
      ]
      | false ↦ λ other j. let r = came_of given xs t j in (inr r.0, r.1)
    ] refl i

came_once : (given : ℕ) (xs : List (Submission Op)) → SubmittedOnce xs → SubmittedOnce (came_at given xs)
came_once given [] once = tt
came_once given (x ∷ xs) once =
    elim (x.after == given) as (λ b. SubmittedOnce (cond b (x ∷ came_at given xs) (came_at given xs))) [
      | true ↦ (λ t i. once.0 t (came_of given xs t i).0, came_once given xs once.1)
      | false ↦ came_once given xs once.1
    ]

no_answer : (came : List (Submission Op)) (a : Answer Reply)
    → In {X = Happening Op Reply} (Answered a) (map (λ (t : Submission Op). Submitted t.command) came) → ⊥
no_answer [] a i = i
no_answer (t ∷ came) a (inl same) = absurd (cc)
no_answer (t ∷ came) a (inr more) = no_answer came a more

-- each answer among what happened was given
was_given : (given : ℕ) (submitted : List (Submission Op)) (answers : List (Answer Reply)) (a : Answer Reply)
    → In (Answered a) (happenings_from given submitted answers) → In a answers
was_given given submitted [] a i = no_answer (came_at given submitted) a i
was_given given submitted (b ∷ more) a i =
    elim (In-cases (Answered a) (moment given submitted) (Answered b ∷ happenings_from (suc given) submitted more) i) as (λ v. In a (b ∷ more)) [
      | inl before ↦ absurd (no_answer (came_at given submitted) a before)
      | inr (inl same) ↦ let is : a ≡ b = cc in inl is
      | inr (inr later) ↦ inr (was_given (suc given) submitted more a later)
    ]

module _ (submitted : List (Submission Op)) (once : SubmittedOnce submitted) where
  -- the command was submitted after n answers more, which are all that stand before it, and its key not before
  record Came (given : ℕ) (answers : List (Answer Reply)) (s : Command Op) (earlier : List (Happening Op Reply)) : Type 0 where
    sub : Submission Op
    among : In sub submitted
    is : sub.command ≡ s
    n : ℕ
    now : sub.after ≡ given + n
    told : (a : Answer Reply) → In (Answered a) earlier → In a (take n answers)
    first : IsFirstOfKey s earlier

  -- it is one of these, or came later
  record Cut (given : ℕ) (answers : List (Answer Reply)) (came : List (Submission Op)) (s : Command Op) (earlier : List (Happening Op Reply)) : Type 0 where
    it : Came given answers s earlier
    where_from : In it.sub came ⊎ (given < it.sub.after)

  abbrev Onward : ℕ → List (Answer Reply) → List (Happening Op Reply) → Type 0
  Onward given answers tail = (s : Command Op) (earlier later : List (Happening Op Reply))
      → tail ≡ earlier ++ (Submitted s ∷ later) → Cut given answers [] s earlier

  abbrev said : List (Submission Op) → List (Happening Op Reply)
  said came = map (λ (t : Submission Op). Submitted t.command) came

  -- another's key is another
  apart : (given : ℕ) (t u : Submission Op) (came : List (Submission Op)) → In t submitted → t.after ≡ given
      → ((v : Submission Op) → In v came → submitted_key v ≢ submitted_key t) → In u submitted → In u came
      ⊎ (given < u.after) → submitted_key t ≡ submitted_key u → ⊥
  apart given t u came i now others j (inl here) same = others u here (sym same)
  apart given t u came i now others j (inr later) same =
      let one = once_one submitted_key submitted once t u i j same in
      let then : t.after ≡ u.after = ap (λ (v : Submission Op). v.after) one in
      absurd (omega arith)

  cut_moment : (given : ℕ) (answers : List (Answer Reply)) (came : List (Submission Op)) → SubmittedOnce came
      → ((t : Submission Op) → In t came → In t submitted × (t.after ≡ given)) → (tail : List (Happening Op Reply))
      → Onward given answers tail →
      (s : Command Op) (earlier later : List (Happening Op Reply)) → said came ++ tail ≡ earlier ++ (Submitted s ∷ later) → Cut given answers came s earlier
  cut_moment given answers [] lone of tail onward s earlier later is = onward s earlier later is
  cut_moment given answers (t ∷ came) lone of tail onward s [] later is =
      let same : t.command ≡ s = cc in
      let at = of t (inl refl) in
      record {
        it = record { sub = t; among = at.0; is = same; n = 0; now = omega (arith, at.1); told = λ a i. absurd i; first = λ d i. absurd i };
        where_from = inl (inl refl);
      }
  cut_moment given answers (t ∷ came) lone of tail onward s (h ∷ earlier) later is =
      let parts = happening_item (Submitted t.command) h (said came ++ tail) (earlier ++ (Submitted s ∷ later)) is in
      let head : Submitted t.command ≡ h = parts.0 in
      let r = cut_moment given answers came lone.1 (λ u i. of u (inr i)) tail onward s earlier later parts.1 in
      let at = of t (inl refl) in
      record {
        it = record {
          sub = r.it.sub;
          among = r.it.among;
          is = r.it.is;
          n = r.it.n;
          now = r.it.now;
          told = λ a i. elim i as (λ v. In a (take r.it.n answers)) [
            | inl same ↦ let wrong : Answered a ≡ Submitted t.command = same ∙ sym head in absurd (cc)
            | inr more ↦ r.it.told a more
          ];
          first = λ d i. elim i as (λ v. d.key ≢ s.key) [
            | inl same ↦ λ key.
                let one : Submitted d ≡ Submitted t.command = same ∙ sym head in
                let command : d ≡ t.command = cc in
                apart given t r.it.sub came at.0 at.1 lone.0 r.it.among r.where_from
                (ap (λ (e : Command Op). e.key) (sym command) ∙ key ∙ ap (λ (e : Command Op). e.key) (sym r.it.is))
            | inr more ↦ r.it.first d more
          ];
        };
        where_from = elim r.where_from as (λ v. In r.it.sub (t ∷ came) ⊎ (given < r.it.sub.after)) [
          | inl here ↦ inl (inr here)
          | inr then ↦ inr then
        ];
      }

  nothing_more : (given : ℕ) → Onward given [] []
  nothing_more given s [] later is = absurd (cc)
  nothing_more given s (h ∷ earlier) later is = absurd (cc)

  -- what happened is cut at a submission
  abbrev IsCut : ℕ → List (Answer Reply) → Type 0
  IsCut given answers = (s : Command Op) (earlier later : List (Happening Op Reply))
      → happenings_from given submitted answers ≡ earlier ++ (Submitted s ∷ later)
      → Cut given answers (came_at given submitted) s earlier

  after_answer : (given : ℕ) (b : Answer Reply) (more : List (Answer Reply)) → IsCut (suc given) more
      → Onward given (b ∷ more) (Answered b ∷ happenings_from (suc given) submitted more)
  after_answer given b more again s [] later is = absurd (cc)
  after_answer given b more again s (h ∷ earlier) later is =
      let parts = happening_item (Answered b) h (happenings_from (suc given) submitted more) (earlier ++ (Submitted s ∷ later)) is in
      let head : Answered b ≡ h = parts.0 in
      let r = again s earlier later parts.1 in
      let now = r.it.now in
      record {
        it = record {
          sub = r.it.sub;
          among = r.it.among;
          is = r.it.is;
          n = suc r.it.n;
          now = omega (arith, now);
          told = λ a i. elim i as (λ v. In a (take (suc r.it.n) (b ∷ more))) [
            | inl same ↦ let one : Answered a ≡ Answered b = same ∙ sym head in let is_it : a ≡ b = cc in inl is_it
            | inr later_on ↦ inr (r.it.told a later_on)
          ];
          first = λ d i. elim i as (λ v. d.key ≢ s.key) [
            | inl same ↦ let wrong : Submitted d ≡ Answered b = same ∙ sym head in absurd (cc)
            | inr later_on ↦ r.it.first d later_on
          ];
        };
        where_from = inr (omega (arith, now));
      }

  cut_there : (given : ℕ) (answers : List (Answer Reply)) → IsCut given answers
  cut_there given [] s earlier later is =
      cut_moment given [] (came_at given submitted) (came_once given submitted once)
      (λ t i. came_of given submitted t i) [] (nothing_more given) s earlier later
      (append-nil (moment given submitted) ∙ is)
  cut_there given (b ∷ more) s earlier later is =
      cut_moment given (b ∷ more) (came_at given submitted) (came_once given submitted once)
      (λ t i. came_of given submitted t i) (Answered b ∷ happenings_from (suc given) submitted more)
      (after_answer given b more (cut_there (suc given) more)) s earlier later is

-- ---- what is legal has no fault

module _ (same : Op → Op → Bool) (c : Chronicle Op Reply) (commands : List (Command Op))
    (once : SubmittedOnce c.submitted) (keys : c.order ≡ keys_of commands)
    (legal : IsLegal (queue_rules same) (record { submitted = c.submitted; answers = c.answers }) commands) where
  obeyed : ordered_commands c ≡ commands
  obeyed = ap (filter_map (λ key. option_map (λ (s : Submission Op). s.command) (found submitted_key key c.submitted)))
      keys ∙ commands_back c.submitted once commands legal.submitted

  place : (earlier : List Key) (key : Key) (later : List Key) → c.order ≡ earlier ++ (key ∷ later) → IsRightPlace c earlier key
  place earlier key later is =
      let cut = cut_at commands legal.rising earlier key later (sym keys ∙ is) in
      let was = legal.submitted cut.command cut.among in
      let under : submitted_key was.0 ≡ key = ap (λ (e : Command Op). e.key) was.2 ∙ cut.has in
      record {
        submitted = subst (λ (k : Key). stands submitted_key k c.submitted ≡ true) under (stands_in submitted_key c.submitted was.0 was.1);
        kept = cut.above;
      }

  line : (earlier : List (Happening Op Reply)) (h : Happening Op Reply) (later : List (Happening Op Reply))
      → happenings c.submitted c.answers ≡ earlier ++ (h ∷ later) → IsRightLine c earlier h
  line earlier (Submitted s) later is =
      let r = (cut_there c.submitted once 0 c.answers s earlier later is).it in
      let now = r.now in
      let after : r.n ≡ r.sub.after = omega (arith, now) in (
        r.first,
        λ a i m n given at.
            let there = command_there commands n s.key (sym (ap (λ ks. slice_get ks n) keys) ∙ at) in
            let before : In a (take r.sub.after c.answers) = subst (λ (k : ℕ). In a (take k c.answers)) after (r.told a i) in
            legal.later r.sub r.among a before m n
            (subst (λ cs. In (record { place = m; answer = a }) (queue_replay cs)) obeyed given)
            (there.0, there.1, there.2 ∙ ap (λ (e : Command Op). e.key) (sym r.is)),
      )
  line earlier (Answered a) later is =
      let i = was_given 0 c.submitted c.answers a (subst (In (Answered a)) (sym is) (In-right (Answered a) earlier (Answered a ∷ later) (inl refl))) in
      let given = legal.answered a i in
      (given.0, subst (λ cs. In (record { place = given.0; answer = a }) (queue_replay cs)) (sym obeyed) given.1)

pub legal_is_faultless : (same : Op → Op → Bool) (c : Chronicle Op Reply) (commands : List (Command Op))
    → SubmittedOnce c.submitted → c.order ≡ map (λ (d : Command Op). d.key) commands →
    IsLegal (queue_rules same) (record { submitted = c.submitted; answers = c.answers }) commands → IsFaultless c
legal_is_faultless same c commands once keys legal = record {
  order = λ earlier key later is. place same c commands once keys legal earlier key later is;
  happened = λ earlier h later is. line same c commands once keys legal earlier h later is;
}
