-- A chronicle with one thing more.
use Rattle.std.proofs.Common.{◌≡◌, ℕ, suc, ◌+◌, ◌<◌, ◌≤◌, ◌==◌, Bool, true, false, cond, inl, inr, List, [], ◌∷◌, ◌++◌}
use Rattle.std.proofs.Common.{map, length, refl, sym, ap, ◌∙◌, arith, append_assoc}
use Rattle.std.proofs.lemmas.Bool.{ne_eqb, eq-eqb}
use Rattle.std.specs.List.{AllByRecursion}
use Rattle.ballot.specs.Members.{IsMembers}
use Rattle.object.specs.Lists.{In}
use Rattle.object.specs.declared.command.Answer.{Answer}
use Rattle.object.specs.declared.command.Command.{Command}
use Rattle.object.specs.declared.command.Key.{Key}
use Rattle.object.specs.declared.command.Submission.{Submission}
use Rattle.bean_words.specs.declared.op.Op.{Op}
use Rattle.bean_words.specs.declared.reply.Reply.{Reply}
use Rattle.recorder.proofs.Grown.{begun_is, submitted_is, answered_is, placed_is}
use Rattle.recorder.specs.Chronicles.{Chronicle, IsChronicle}
use Rattle.recorder.specs.Growing.{begun, submitted_last, answered_last, placed_last}
use Rattle.chronicle_text.specs.Happenings.{came_at, moment, happenings, happenings_from}
use Rattle.chronicle_text.specs.Happenings.Happening.{Submitted, Answered}
use Rattle.chronicle_text.specs.Values.{IsChronicleValue, IsCommandValue, IsAnswerValue, IsKeyValue}

pub map_last : {A B : Type 0} (f : A → B) (xs : List A) (x : A) → map f (xs ++ (x ∷ [])) ≡ map f xs ++ (f x ∷ [])
map_last f [] x = refl
map_last f (y ∷ xs) x = ap (λ t. f y ∷ t) (map_last f xs x)

-- ---- what happens

came_other : {Op : Type 0} (given : ℕ) (submitted : List (Submission Op)) (s : Submission Op) → (s.after ≡ given → ⊥)
    → came_at given (submitted ++ (s ∷ [])) ≡ came_at given submitted
came_other given [] s other = ap (λ b. cond b (s ∷ []) []) (ne_eqb s.after given other)
came_other given (t ∷ submitted) s other = ap (λ l. cond (t.after == given) (t ∷ l) l) (came_other given submitted s other)

came_last : {Op : Type 0} (given : ℕ) (submitted : List (Submission Op)) (s : Submission Op) → s.after ≡ given
    → came_at given (submitted ++ (s ∷ [])) ≡ came_at given submitted ++ (s ∷ [])
came_last given [] s now = ap (λ b. cond b (s ∷ []) []) (eq-eqb s.after given now)
came_last given (t ∷ submitted) s now =
    ap (λ l. cond (t.after == given) (t ∷ l) l) (came_last given submitted s now) ∙ either (t.after == given) t (came_at given submitted) (s ∷ [])
  where
    either : {A : Type 0} (b : Bool) (x : A) (xs ys : List A) → cond b (x ∷ (xs ++ ys)) (xs ++ ys) ≡ cond b (x ∷ xs) xs ++ ys
    either true x xs ys = refl
    either false x xs ys = refl

submitted_from : {Op Reply : Type 0} (given : ℕ) (submitted : List (Submission Op)) (answers : List (Answer Reply))
    (s : Submission Op) → s.after ≡ given + length answers
    → happenings_from given (submitted ++ (s ∷ [])) answers
    ≡ happenings_from given submitted answers ++ (Submitted s.command ∷ [])
submitted_from given submitted [] s now =
    let at : s.after ≡ given = omega arith in
    ap (map (λ t. Submitted t.command)) (came_last given submitted s at) ∙ map_last (λ t. Submitted t.command) (came_at given submitted) s
submitted_from given submitted (a ∷ more) s now =
    let next : s.after ≡ suc given + length more = omega arith in
    ap (λ came. map (λ t. Submitted t.command) came ++
    (Answered a ∷ happenings_from (suc given) (submitted ++ (s ∷ [])) more))
    (came_other given submitted s (λ same. omega arith))
    ∙ ap (λ later. moment given submitted ++ (Answered a ∷ later)) (submitted_from (suc given) submitted more s next)
    ∙ sym (append_assoc (moment given submitted) (Answered a ∷ happenings_from (suc given) submitted more) (Submitted s.command ∷ []))

pub happens_submitted : {Op Reply : Type 0} (command : Command Op) (c : Chronicle Op Reply)
    → happenings (submitted_last command c).submitted c.answers
    ≡ happenings c.submitted c.answers ++ (Submitted command ∷ [])
happens_submitted command c = submitted_from 0 c.submitted c.answers (record { command = command; after = length c.answers }) (omega arith)

none_later : {Op : Type 0} (given : ℕ) (submitted : List (Submission Op))
    → ((s : Submission Op) → In s submitted → s.after < given) → came_at given submitted ≡ []
none_later given [] earlier = refl
none_later given (s ∷ submitted) earlier =
    let first = earlier s (inl refl) in
    ap (λ b. cond b (s ∷ came_at given submitted) (came_at given submitted))
    (ne_eqb s.after given (λ same. omega arith)) ∙ none_later given submitted (λ t i. earlier t (inr i))

answered_from : {Op Reply : Type 0} (given : ℕ) (submitted : List (Submission Op)) (answers : List (Answer Reply))
    (a : Answer Reply) → ((s : Submission Op) → In s submitted → s.after ≤ given + length answers)
    → happenings_from given submitted (answers ++ (a ∷ []))
    ≡ happenings_from given submitted answers ++ (Answered a ∷ [])
answered_from given submitted [] a within =
    ap (λ came. moment given submitted ++ (Answered a ∷ map (λ t. Submitted t.command) came))
    (none_later (suc given) submitted (λ s i. let h = within s i in omega arith))
answered_from given submitted (b ∷ more) a within =
    ap (λ later. moment given submitted ++ (Answered b ∷ later)) (answered_from (suc given) submitted more a (λ s i. let h = within s i in omega arith))
    ∙ sym (append_assoc (moment given submitted) (Answered b ∷ happenings_from (suc given) submitted more) (Answered a ∷ []))

pub happens_answered : {Op Reply : Type 0} (a : Answer Reply) (c : Chronicle Op Reply) → IsChronicle c
    → happenings c.submitted (answered_last a c).answers ≡ happenings c.submitted c.answers ++ (Answered a ∷ [])
happens_answered a c is = answered_from 0 c.submitted c.answers a (λ s i. let h = is.timeline.within s i in omega arith)

-- ---- what it is

all_last : {A : Type 0} (P : A → Type 0) (xs : List A) (x : A) → AllByRecursion P xs → P x → AllByRecursion P (xs ++ (x ∷ []))
all_last P [] x h p = (p, tt)
all_last P (y ∷ xs) x h p = (h.0, all_last P xs x h.1 p)

pub begun_value : (ws : List ℕ) → IsMembers ws → IsChronicleValue (begun ws)
begun_value ws is = record {
  chronicle = begun_is ws is;
  submitted = tt;
  answers = tt;
  order = tt;
}

pub submitted_value : (s : Command Op) (c : Chronicle Op Reply) → IsChronicleValue c → IsCommandValue s → IsChronicleValue (submitted_last s c)
submitted_value s c v h = record {
  chronicle = submitted_is s c v.chronicle;
  submitted = all_last (λ (t : Submission Op). IsCommandValue t.command) c.submitted (record { command = s; after = length c.answers }) v.submitted h;
  answers = v.answers;
  order = v.order;
}

pub answered_value : (a : Answer Reply) (c : Chronicle Op Reply) → IsChronicleValue c → IsAnswerValue a → IsChronicleValue (answered_last a c)
answered_value a c v h = record {
  chronicle = answered_is a c v.chronicle;
  submitted = v.submitted;
  answers =
      all_last IsAnswerValue c.answers a v.answers h;
  order = v.order;
}

pub placed_value : (key : Key) (c : Chronicle Op Reply) → IsChronicleValue c → IsKeyValue key → IsChronicleValue (placed_last key c)
placed_value key c v h = record {
  chronicle = placed_is key c v.chronicle;
  submitted = v.submitted;
  answers =
      v.answers;
  order = all_last IsKeyValue c.order key v.order h;
}
