-- One answer a key.
use Rattle.std.proofs.Common.{◌≡◌, ℕ, suc, ◌+◌, ◌<◌, ◌≤◌, true, false, inl, inr, List, [], ◌∷◌, map, length, Option, Some, None, refl, sym, ap, ◌∙◌, arith}
use Rattle.std.specs.List.{filter_map}
use Rattle.std.specs.Option.{option_map}
use Rattle.object.specs.Answers.{AnswersOnce}
use Rattle.object.specs.Happenings.{submitted_key}
use Rattle.object.specs.KeyLaws.{same_is, same_when}
use Rattle.object.specs.Keys.{same_key, found}
use Rattle.object.specs.ListLaws.{In-map, In-cases}
use Rattle.object.specs.Lists.{In}
use Rattle.object.specs.Replays.{Placed, replay_from}
use Rattle.object.specs.declared.command.Answer.{Answer}
use Rattle.object.specs.declared.command.Command.{Command}
use Rattle.object.specs.declared.command.Key.{Key}
use Rattle.object.specs.declared.command.Submission.{Submission}
use Rattle.bean_queue.specs.Effects.{effect}
use Rattle.bean_queue.specs.Queue.{fresh}
use Rattle.bean_words.specs.declared.op.Op.{Op}
use Rattle.bean_words.specs.declared.reply.Reply.{Reply}
use Rattle.chronicle.specs.Checking.{IsGivenBy, ordered_commands}
use Rattle.recorder.specs.Chronicles.{Chronicle}
use Rattle.chronicle.specs.Replaying.{placed}
use Rattle.chronicle.specs.declared.replay.Given.{Given}
use Rattle.std.proofs.lemmas.Bool.{false≢true}

-- where no key is answered twice, two answers to one key are one, and have one place
pub one_place_each : (ps : List (Placed Reply)) → AnswersOnce (map (λ (p : Placed Reply). p.answer) ps)
    → (p q : Placed Reply) → In p ps → In q ps → p.answer.to ≡ q.answer.to → p ≡ q
one_place_each [] once p q i j same = absurd i
one_place_each (x ∷ ps) once p q (inl a) (inl b) same = a ∙ sym b
one_place_each (x ∷ ps) once p q (inl a) (inr j) same =
    absurd (once.0 q.answer (In-map (λ (r : Placed Reply). r.answer) q ps j) (sym same ∙ ap (λ (r : Placed Reply). r.answer.to) a))
one_place_each (x ∷ ps) once p q (inr i) (inl b) same =
    absurd (once.0 p.answer (In-map (λ (r : Placed Reply). r.answer) p ps i) (same ∙ ap (λ (r : Placed Reply). r.answer.to) b))
one_place_each (x ∷ ps) once p q (inr i) (inr j) same = one_place_each ps once.1 p q i j same

-- the first of these that answers the key
pub record Answers (key : Key) (given : List Given) : Type 0 where
  pub first : Given
  pub found_it : found (λ (g : Given). g.answer.to) key given ≡ Some first
  pub among : In (placed first) (map placed given)
  pub to : first.answer.to ≡ key

pub answers : (given : List Given) (p : Placed Reply) → In p (map placed given) → Answers p.answer.to given
answers [] p i = absurd i
answers (g ∷ given) p i =
    elim (same_key g.answer.to p.answer.to) as (λ b. same_key g.answer.to p.answer.to ≡ b → Answers p.answer.to (g ∷ given)) [
      | true ↦ λ same. record { first = g; found_it = rw same refl; among = inl refl; to = same_is g.answer.to p.answer.to same }
      | false ↦ λ other. elim i as (λ v. Answers p.answer.to (g ∷ given)) [
        | inl is ↦ absurd (false≢true (sym other ∙ same_when g.answer.to p.answer.to (ap (λ (q : Placed Reply). q.answer.to) (sym is))))
        | inr more ↦ let r = answers given p more in record { first = r.first; found_it = rw other r.found_it; among = inr r.among; to = r.to }
      ]
    ] refl

-- each answer of a replay has the place of a command
replay_within : {S Op : Type 0} (after : S → Command Op → S) (answers : S → Command Op → List (Answer Reply)) (s : S)
    (n : ℕ) (cs : List (Command Op)) (p : Placed Reply) → In p (replay_from after answers s n cs)
    → p.place < n + length cs
replay_within after answers s n [] p i = absurd i
replay_within after answers s n (c ∷ cs) p i =
    elim (In-cases p (map (λ (a : Answer Reply). record { place = n; answer = a }) (answers s c))
    (replay_from after answers (after s c) (suc n) cs) i) as (λ v. p.place < n + length (c ∷ cs)) [
      | inl j ↦ let here = noted (answers s c) j in omega arith
      | inr j ↦ let later = replay_within after answers (after s c) (suc n) cs p j in omega arith
    ]
  where
    noted : (given : List (Answer Reply)) → In p (map (λ (a : Answer Reply). record { place = n; answer = a }) given) → p.place ≡ n
    noted [] j = absurd j
    noted (a ∷ given) (inl same) = ap (λ (q : Placed Reply). q.place) same
    noted (a ∷ given) (inr more) = noted given more

fewer : {X Y : Type 0} (f : X → Option Y) (xs : List X) → length (filter_map f xs) ≤ length xs
fewer f [] = omega arith
fewer f (x ∷ xs) =
    let rest = fewer f xs in
    elim (f x) as (λ o. f x ≡ o → length (filter_map f (x ∷ xs)) ≤ length (x ∷ xs)) [
      | None ↦ λ is. let same : filter_map f (x ∷ xs) ≡ filter_map f xs = rw is refl in let n = ap length same in omega arith
      | Some y ↦ λ is. let same : filter_map f (x ∷ xs) ≡ y ∷ filter_map f xs = rw is refl in let n = ap length same in omega arith
    ] refl

-- so it is below the length of the order
pub given_within : (c : Chronicle Op Reply) (place : ℕ) (a : Answer Reply) → IsGivenBy c place a → place < length c.order
given_within c place a given =
    let inside = replay_within (λ s d. (effect d s).state) (λ s d. (effect d s).answers) fresh 0 (ordered_commands c)
    (record { place = place; answer = a }) given in
    let few = fewer (λ key. option_map (λ (s : Submission Op). s.command) (found submitted_key key c.submitted)) c.order in
    omega arith
