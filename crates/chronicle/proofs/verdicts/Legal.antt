-- What has no fault is legal for its order.
use Rattle.std.proofs.Common.{◌≡◌, ℕ, zero, suc, ◌+◌, ◌<◌, ◌≤◌, ◌==◌, Bool, true, false, cond, inl, inr, List, [], ◌∷◌}
use Rattle.std.proofs.Common.{◌++◌, map, length, take, Option, Some, refl, sym, ap, ap₂, subst, ◌∙◌, arith}
use Rattle.std.proofs.Common.{append_assoc}
use Rattle.std.proofs.lemmas.Bool.{and_parts, eqb-true, eq-eqb}
use Rattle.std.specs.List.{filter_map}
use Rattle.std.specs.Option.{option_map}
use Rattle.std.specs.Prelude.{slice_get}
use Rattle.object.specs.Answers.{AnswersOnce}
use Rattle.object.specs.Happenings.{submitted_key}
use Rattle.object.specs.Keys.{stands, found, same_key}
use Rattle.object.specs.Legal.{IsLegal, IsRising, StandsAt, WasSubmitted, given_before}
use Rattle.object.specs.Lists.{In}
use Rattle.object.specs.declared.command.Answer.{Answer}
use Rattle.object.specs.declared.command.Command.{Command}
use Rattle.object.specs.declared.command.Key.{Key}
use Rattle.object.specs.declared.command.Submission.{Submission}
use Rattle.bean_queue.specs.Places.{queue_replay, HasDistinctKeys}
use Rattle.bean_words.specs.declared.op.Op.{Op}
use Rattle.bean_words.specs.declared.reply.Reply.{Reply}
use Rattle.recorder.specs.Chronicles.{Chronicle, IsChronicle}
use Rattle.chronicle.specs.Checking.{ordered_commands, IsGivenBy, IsAbove, IsFaultless}
use Rattle.bean_queue.specs.Effects.{queue_rules}
use Rattle.chronicle_text.specs.Happenings.{Happening, happenings, happenings_from, came_at, moment}
use Rattle.chronicle_text.specs.Happenings.Happening.{Submitted, Answered}

-- ---- lists

pub record Split {X : Type 0} (x : X) (xs : List X) : Type 0 where
  pub before : List X
  pub after : List X
  pub is : xs ≡ before ++ (x ∷ after)

pub split : {X : Type 0} (x : X) (xs : List X) → In x xs → Split x xs
split x [] i = absurd i
split x (y ∷ xs) (inl same) = record { before = []; after = xs; is = ap (λ z. z ∷ xs) (sym same) }
split x (y ∷ xs) (inr more) =
    let r = split x xs more in record { before = y ∷ r.before; after = r.after; is = ap (λ t. y ∷ t) r.is }

in_mid : {X : Type 0} (x : X) (before after : List X) → In x (before ++ (x ∷ after))
in_mid x [] after = inl refl
in_mid x (y ∷ before) after = inr (in_mid x before after)

-- ---- submissions, by their keys

keys_same : (a b : Key) → same_key a b ≡ true → a ≡ b
keys_same a b h =
    let both = and_parts (a.session == b.session) (a.number == b.number) h in
    ap₂ (λ (s n : ℕ). let k : Key = record { session = s; number = n } in k) (eqb-true a.session b.session both.0) (eqb-true a.number b.number both.1)

-- a submission of the key
record Here (key : Key) (submitted : List (Submission Op)) : Type 0 where
  first : Submission Op
  found_it : found submitted_key key submitted ≡ Some first
  among : In first submitted
  has : first.command.key ≡ key

here : (key : Key) (submitted : List (Submission Op)) → stands submitted_key key submitted ≡ true → Here key submitted
here key [] h = absurd (cc)
here key (s ∷ rest) h =
    elim (same_key s.command.key key) as (λ b. same_key s.command.key key ≡ b → Here key (s ∷ rest)) [
      | true ↦ λ same. record { first = s; found_it = rw same refl; among = inl refl; has = keys_same s.command.key key same }
      | false ↦ λ other. let r = here key rest (rw other at h) in record { first = r.first; found_it = rw other r.found_it; among = inr r.among; has = r.has }
    ] refl

-- the commands of keys that were submitted
abbrev pub command_at : Chronicle Op Reply → Key → Option (Command Op)
command_at c key = option_map (λ (s : Submission Op). s.command) (found submitted_key key c.submitted)

abbrev pub commands_of : Chronicle Op Reply → List Key → List (Command Op)
commands_of c order = filter_map (command_at c) order

-- one command of the order, by its key
record Stands (c : Chronicle Op Reply) (order : List Key) (d : Command Op) : Type 0 where
  among : In d.key order
  was : WasSubmitted d c.submitted

submitted_at : (c : Chronicle Op Reply) (key : Key) → Here key c.submitted → (d : Command Op)
    → command_at c key ≡ Some d → (d.key ≡ key) × WasSubmitted d c.submitted
submitted_at c key h d same =
    let one : Some h.first.command ≡ Some d = sym (ap (option_map (λ (s : Submission Op). s.command)) h.found_it) ∙ same in
    let is : h.first.command ≡ d = cc in
    (ap (λ (e : Command Op). e.key) (sym is) ∙ h.has, (h.first, h.among, is))

-- the first of them, and the others
some_command : (c : Chronicle Op Reply) (key : Key) (rest : List Key) (h : Here key c.submitted)
    → commands_of c (key ∷ rest) ≡ h.first.command ∷ commands_of c rest
some_command c key rest h = rw h.found_it refl

-- a command of the order stands under a key of it, and was submitted
in_commands : (c : Chronicle Op Reply) (order : List Key) (d : Command Op)
    → ((key : Key) → In key order → stands submitted_key key c.submitted ≡ true) → In d (commands_of c order)
    → Stands c order d
in_commands c [] d all i = absurd i
in_commands c (key ∷ rest) d all i =
    let h = here key c.submitted (all key (inl refl)) in
    elim (subst (In d) (some_command c key rest h) i) as (λ v. Stands c (key ∷ rest) d) [
      | inl same ↦ record { among = inl (ap (λ (e : Command Op). e.key) same ∙ h.has); was = (h.first, h.among, sym same) }
      | inr more ↦
          let r = in_commands c rest d (λ k j. all k (inr j)) more in
          record { among = inr r.among; was = r.was }
    ]

pub rising : (c : Chronicle Op Reply) (order : List Key) → ((key : Key) → In key order → stands submitted_key key c.submitted ≡ true) →
    ((before : List Key) (key : Key) (after : List Key) → order ≡ before ++ (key ∷ after) → IsAbove key before) → IsRising (commands_of c order)
rising c [] all above = tt
rising c (key ∷ rest) all above =
    let h = here key c.submitted (all key (inl refl)) in
    subst IsRising (sym (some_command c key rest h)) (
      (λ d i same.
          let s = in_commands c rest d (λ k j. all k (inr j)) i in
          let cut = split d.key rest s.among in
          let over = above (key ∷ cut.before) d.key cut.after (ap (λ t. key ∷ t) cut.is) key (inl refl) (sym (ap (λ (k : Key). k.session) h.has) ∙ sym same) in
          subst (λ (k : Key). k.number < d.key.number) (sym h.has) over),
      rising c rest (λ k j. all k (inr j)) (λ before k after is x j same. above (key ∷ before) k after (ap (λ t. key ∷ t) is) x (inr j) same),
    )

pub distinct : (cs : List (Command Op)) → IsRising cs → HasDistinctKeys cs
distinct [] h = tt
distinct (c ∷ cs) h = (
  (λ d i same. let less = h.0 d i (ap (λ (k : Key). k.session) same) in let number = ap (λ (k : Key). k.number) same in absurd (omega arith)),
  distinct cs h.1,
)

-- the key of the command at a place of the order
placed_key : (c : Chronicle Op Reply) (order : List Key) (n : ℕ) (d : Command Op)
    → ((key : Key) → In key order → stands submitted_key key c.submitted ≡ true)
    → slice_get (commands_of c order) n ≡ Some d → slice_get order n ≡ Some d.key
placed_key c [] n d all at = absurd (cc)
placed_key c (key ∷ rest) zero d all at =
    let h = here key c.submitted (all key (inl refl)) in
    let first : Some h.first.command ≡ Some d = sym (ap (λ (cs : List (Command Op)). slice_get cs 0) (some_command c key rest h)) ∙ at in
    let same : h.first.command ≡ d = cc in
    ap Some (sym h.has ∙ ap (λ (e : Command Op). e.key) same)
placed_key c (key ∷ rest) (suc n) d all at =
    let h = here key c.submitted (all key (inl refl)) in
    placed_key c rest n d (λ k j. all k (inr j)) (sym (ap (λ (cs : List (Command Op)). slice_get cs (suc n)) (some_command c key rest h)) ∙ at)

-- ---- what happened

in_more : {X : Type 0} (x : X) (xs ys : List X) → In x ys → In x (xs ++ ys)
in_more x [] ys i = i
in_more x (y ∷ xs) ys i = inr (in_more x xs ys i)

in_front : {X : Type 0} (x : X) (xs ys : List X) → In x xs → In x (xs ++ ys)
in_front x [] ys i = absurd i
in_front x (y ∷ xs) ys (inl same) = inl same
in_front x (y ∷ xs) ys (inr more) = inr (in_front x xs ys more)

came_then : (given : ℕ) (submitted : List (Submission Op)) (s : Submission Op) → In s submitted → s.after ≡ given → In s (came_at given submitted)
came_then given [] s i now = absurd i
came_then given (t ∷ rest) s (inl same) now =
    let then : (t.after == given) ≡ true = eq-eqb t.after given (ap (λ (u : Submission Op). u.after) (sym same) ∙ now) in
    subst (In s) (sym (ap (λ b. cond b (t ∷ came_at given rest) (came_at given rest)) then)) (inl same)
came_then given (t ∷ rest) s (inr more) now =
    elim (t.after == given) as (λ b. In s (cond b (t ∷ came_at given rest) (came_at given rest))) [
      | true ↦ inr (came_then given rest s more now)
      | false ↦ came_then given rest s more now
    ]

in_map : (came : List (Submission Op)) (s : Submission Op) → In s came
    → In {X = Happening Op Reply} (Submitted s.command) (map (λ (t : Submission Op). Submitted t.command) came)
in_map [] s i = absurd i
in_map (t ∷ came) s (inl same) = inl (ap (λ (u : Submission Op). Submitted u.command) same)
in_map (t ∷ came) s (inr more) = inr (in_map came s more)

-- a submission among what happened, after the answers that were given before it
record Then (s : Submission Op) (given : List (Answer Reply)) (hs : List (Happening Op Reply)) : Type 0 where
  earlier : List (Happening Op Reply)
  later : List (Happening Op Reply)
  is : hs ≡ earlier ++ (Submitted s.command ∷ later)
  told : (a : Answer Reply) → In a given → In (Answered a) earlier

happens_then : (given n : ℕ) (submitted : List (Submission Op)) (answers : List (Answer Reply)) (s : Submission Op)
    → In s submitted → s.after ≡ given + n → n ≤ length answers
    → Then s (take n answers) (happenings_from given submitted answers)
happens_then given zero submitted [] s i now few =
    let cut = split (Submitted s.command) (moment given submitted) (in_map (came_at given submitted) s (came_then given submitted s i (omega arith))) in
    record { earlier = cut.before; later = cut.after; is = cut.is; told = λ a j. absurd j }
happens_then given zero submitted (b ∷ more) s i now few =
    let cut = split (Submitted s.command) (moment given submitted) (in_map (came_at given submitted) s (came_then given submitted s i (omega arith))) in
    let rest = Answered b ∷ happenings_from (suc given) submitted more in
    record {
      earlier = cut.before;
      later = cut.after ++ rest;
      is =
          ap (λ t. t ++ rest) cut.is ∙ append_assoc cut.before (Submitted s.command ∷ cut.after) rest;
      told =
          λ a j. absurd j;
    }
happens_then given (suc n) submitted [] s i now few = absurd (omega arith)
happens_then given (suc n) submitted (b ∷ more) s i now few =
    let r = happens_then (suc given) n submitted more s i (omega arith) (omega arith) in
    let first = moment {Reply = Reply} given submitted in
    record {
      earlier = first ++ (Answered b ∷ r.earlier);
      later = r.later;
      is = ap (λ t. first ++ (Answered b ∷ t)) r.is ∙ sym (append_assoc first (Answered b ∷ r.earlier) (Submitted s.command ∷ r.later));
      told = λ a j. elim j as (λ v. In (Answered a) (first ++ (Answered b ∷ r.earlier))) [
        | inl same ↦ in_more (Answered a) first (Answered b ∷ r.earlier) (inl (ap Answered same))
        | inr later ↦ in_more (Answered a) first (Answered b ∷ r.earlier) (inr (r.told a later))
      ];
    }

answer_happens : (given : ℕ) (submitted : List (Submission Op)) (answers : List (Answer Reply)) (a : Answer Reply)
    → In a answers → In (Answered a) (happenings_from given submitted answers)
answer_happens given submitted [] a i = absurd i
answer_happens given submitted (b ∷ more) a (inl same) =
    in_more (Answered a) (moment given submitted) (Answered b ∷ happenings_from (suc given) submitted more)
    (inl (ap Answered same))
answer_happens given submitted (b ∷ more) a (inr later) =
    in_more (Answered a) (moment given submitted) (Answered b ∷ happenings_from (suc given) submitted more)
    (inr (answer_happens (suc given) submitted more a later))

-- ---- what has no fault is legal

all_submitted : (c : Chronicle Op Reply) → IsFaultless c → (key : Key) → In key c.order → stands submitted_key key c.submitted ≡ true
all_submitted c h key i =
    let cut = split key c.order i in
    let right = h.order cut.before key cut.after cut.is in
    right.submitted

later_than : (c : Chronicle Op Reply) → IsChronicle c → IsFaultless c → (s : Submission Op) → In s c.submitted
    → (a : Answer Reply) → In a (given_before s c.answers) → (m n : ℕ) → IsGivenBy c m a
    → StandsAt s.command.key (ordered_commands c) n → m < n
later_than c is h s i a j m n given at =
    let few = is.timeline.within s i in
    let then = happens_then 0 s.after c.submitted c.answers s i (omega arith) few in
    let right = h.happened then.earlier (Submitted s.command) then.later then.is in
    right.1 a (then.told a j) m n given (placed_key c c.order n at.0 (all_submitted c h) at.1 ∙ ap Some at.2)

pub faultless_is_legal : ((commands : List (Command Op)) → HasDistinctKeys commands
    → AnswersOnce (map (λ p. p.answer) (queue_replay commands))) → (same : Op → Op → Bool) (c : Chronicle Op Reply)
    → IsChronicle c → IsFaultless c →
    IsLegal (queue_rules same) (record { submitted = c.submitted; answers = c.answers }) (ordered_commands c)
faultless_is_legal once same c is h =
    let all = all_submitted c h in
    let rises = rising c c.order all (λ before key after cut. let right = h.order before key after cut in right.kept) in
    record {
      submitted = λ d i. let s = in_commands c c.order d all i in s.was;
      rising = rises;
      answered = λ a i.
          let cut = split (Answered a) (happenings c.submitted c.answers) (answer_happens 0 c.submitted c.answers a i) in
          h.happened cut.before (Answered a) cut.after cut.is;
      once = once (ordered_commands c) (distinct (ordered_commands c) rises);
      later = λ s i a j m n given at. later_than c is h s i a j m n given at;
    }
