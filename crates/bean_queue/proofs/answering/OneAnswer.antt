-- In a replay of distinct keys each key has at most one answer.
use Rattle.std.proofs.Common.{◌≡◌, ℕ, suc, ◌⊎◌, inl, inr, List, [], ◌∷◌, ◌++◌, map, refl, sym, ap, ap₂, subst, ◌∙◌}
use Rattle.object.specs.Lists.{In}
use Rattle.object.specs.Answers.{AnswersOnce}
use Rattle.object.specs.Replays.{Placed, replay_from}
use Rattle.object.specs.declared.command.Answer.{Answer}
use Rattle.object.specs.declared.command.Command.{Command}
use Rattle.object.specs.declared.command.Key.{Key}
use Rattle.bean_words.specs.declared.op.Op.{Op}
use Rattle.bean_words.specs.declared.reply.Reply.{Reply}
use Rattle.bean_queue.specs.Queue.{QueueState, fresh}
use Rattle.bean_queue.specs.Effects.{effect}
use Rattle.bean_queue.specs.Places.{places_from, placed_from, HasDistinctKeys}
use Rattle.bean_queue.specs.Waits.{Waits}
use Rattle.bean_queue.specs.WaitLaws.{in-append, effect-lawful, effect-once, fresh-idle}

-- the answers from this state on, without their places
abbrev answers_from : QueueState → List (Command Op) → List (Answer Reply)
answers_from s [] = []
answers_from s (c ∷ cs) = (effect c s).answers ++ answers_from (effect c s).state cs

-- whom the answers of a replay name
abbrev Named : QueueState → List (Command Op) → Key → Type 0
Named s cs k = Waits s k ⊎ ((c : Command Op) × In c cs × (k ≡ c.key))

named : (cs : List (Command Op)) (s : QueueState) (a : Answer Reply) → In a (answers_from s cs) → Named s cs a.to
named [] s a i = absurd i
named (c ∷ cs) s a i =
    let l = effect-lawful c s in
    elim (in-append (effect c s).answers (answers_from (effect c s).state cs) a i) as (λ v. Named s (c ∷ cs) a.to) [
      | inl here ↦ elim (l.named a here) as (λ v. Named s (c ∷ cs) a.to) [ inl e ↦ inr (c, inl refl, e) | inr w ↦ inl w ]
      | inr later ↦
          elim (named cs (effect c s).state a later) as (λ v. Named s (c ∷ cs) a.to) [
            | inl w ↦ elim (l.waits a.to w) as (λ v. Named s (c ∷ cs) a.to) [ inl w ↦ inl w | inr e ↦ inr (c, inl refl, e) ]
            | inr d ↦ inr (d.0, inr d.1, d.2)
          ]
    ]

once-append : (xs ys : List (Answer Reply)) → AnswersOnce xs → AnswersOnce ys
    → ((a b : Answer Reply) → In a xs → In b ys → b.to ≡ a.to → ⊥) → AnswersOnce (xs ++ ys)
once-append [] ys p q h = q
once-append (x ∷ xs) ys p q h = (
  λ b i e. elim (in-append xs ys b i) as (λ v. ⊥) [ inl j ↦ p.0 b j e | inr j ↦ h x b (inl refl) j e ],
  once-append xs ys p.1 q (λ a b i j. h a b (inr i) j),
)

each_once-from : (cs : List (Command Op)) (s : QueueState) → HasDistinctKeys cs
    → ((k : Key) (c : Command Op) → Waits s k → In c cs → k ≡ c.key → ⊥) → AnswersOnce (answers_from s cs)
each_once-from [] s d new = tt
each_once-from (c ∷ cs) s d new =
    let l = effect-lawful c s in
    once-append (effect c s).answers (answers_from (effect c s).state cs) (effect-once c s)
    (each_once-from cs (effect c s).state d.1
    (λ k e w i same. elim (l.waits k w) as (λ v. ⊥) [ inl was ↦ new k e was (inr i) same | inr it ↦ d.0 e i (sym same ∙ it) ]))
    (λ a b i j same.
    elim (named cs (effect c s).state b j) as (λ v. ⊥) [
      | inl w ↦ l.over a i (subst (λ k. Waits (effect c s).state k) same w)
      | inr e ↦
          elim (l.named a i) as (λ v. ⊥) [
            | inl own ↦ d.0 e.0 e.1 (sym e.2 ∙ same ∙ own)
            | inr w ↦ new a.to e.0 w (inr e.1) (sym same ∙ e.2)
          ]
    ])

map-append : (f : Placed Reply → Answer Reply) (xs ys : List (Placed Reply)) → map f (xs ++ ys) ≡ map f xs ++ map f ys
map-append f [] ys = refl
map-append f (x ∷ xs) ys = ap (λ zs. f x ∷ zs) (map-append f xs ys)

unplaced : (n : ℕ) (xs : List (Answer Reply)) → map (λ p. p.answer) (map (λ a. let p : Placed Reply = record { place = n; answer = a } in p) xs) ≡ xs
unplaced n [] = refl
unplaced n (x ∷ xs) = ap (λ zs. x ∷ zs) (unplaced n xs)

replayed : (n : ℕ) (cs : List (Command Op)) (s : QueueState)
    → map (λ p. p.answer) (replay_from (λ s c. (effect c s).state) (λ s c. (effect c s).answers) s n cs)
    ≡ answers_from s cs
replayed n [] s = refl
replayed n (c ∷ cs) s =
    map-append (λ p. p.answer) (map (λ a. record { place = n; answer = a }) (effect c s).answers)
    (replay_from (λ s c. (effect c s).state) (λ s c. (effect c s).answers) (effect c s).state (suc n) cs) ∙
    ap₂ (λ xs ys. xs ++ ys) (unplaced n (effect c s).answers) (replayed (suc n) cs (effect c s).state)

pub each_once : (cs : List (Command Op)) → HasDistinctKeys cs
    → AnswersOnce (map (λ p. p.answer)
    (replay_from (λ s c. (effect c s).state) (λ s c. (effect c s).answers) fresh 0 cs))
each_once cs d = subst AnswersOnce (sym (replayed 0 cs fresh)) (each_once-from cs fresh d (λ k c w i e. fresh-idle k w))

-- the answers with their places are those of the places
pub placed : (n : ℕ) (cs : List (Command Op)) (s : QueueState)
    → replay_from (λ s c. (effect c s).state) (λ s c. (effect c s).answers) s n cs ≡ placed_from n (places_from s cs)
unfolding places_from placed_from
placed n [] s = refl
placed n (c ∷ cs) s = ap (λ zs. map (λ a. record { place = n; answer = a }) (effect c s).answers ++ zs) (placed (suc n) cs (effect c s).state)
