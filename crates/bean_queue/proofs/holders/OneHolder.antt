-- No job is held by two: over whole replays.
use Rattle.std.proofs.Common.{◌≡◌, ℕ, ◌≤◌, cond, inl, inr, List, [], ◌∷◌, ◌++◌, length, sym, ap, ap₂, subst, ◌∙◌, arith}
use Rattle.object.specs.Lists.{In}
use Rattle.object.specs.declared.command.Answer.{Answer}
use Rattle.object.specs.declared.command.Command.{Command}
use Rattle.bean_words.specs.declared.op.Op.{Op}
use Rattle.bean_words.specs.declared.reply.Reply.{Reply}
use Rattle.bean_queue.specs.Queue.{QueueState, fresh, HasRisingIds}
use Rattle.bean_queue.specs.Turns.{QueueOutcome}
use Rattle.bean_queue.specs.Effects.{effect}
use Rattle.bean_queue.specs.Places.{QueuePlace, queue_place, places_from, queue_places}
use Rattle.bean_queue.specs.Holds.{handing_out, Gets, HasEnded, touches, ttr_in, ttr_of, IsGivenOnce, IsHeldByOne}
use Rattle.bean_queue.proofs.holders.Held.{Held, IsQuiet}
use Rattle.bean_queue.proofs.holders.Given.{GivesOnce}
use Rattle.bean_queue.proofs.holders.EffectHolds.{effect-gives, effect-holds, HoldsOn}

not_empty : (before rest : List QueuePlace) (p : QueuePlace) → [] ≡ before ++ p ∷ rest → ⊥
not_empty [] rest p e = cc
not_empty (b ∷ before) rest p e = cc

same_head : (a b : QueuePlace) (xs ys : List QueuePlace) → a ∷ xs ≡ b ∷ ys → a ≡ b
same_head a b xs ys e = cc

same_tail : (a b : QueuePlace) (xs ys : List QueuePlace) → a ∷ xs ≡ b ∷ ys → xs ≡ ys
same_tail a b xs ys e = cc

pub effect-sound : (c : Command Op) (s : QueueState) → HasRisingIds s → HasRisingIds (effect c s).state
effect-sound c s sound = (effect-gives 0 c s sound).sound

gives_one : (id now : ℕ) (o : QueueOutcome) → GivesOnce id now o → length (handing_out id o.answers) ≤ 1
gives_one id now o g =
    elim g.given as (λ v. length (handing_out id o.answers) ≤ 1) [
      | inl quiet ↦ rw quiet (omega arith)
      | inr gave ↦ rw gave.only (omega arith)
    ]

given_once-from : (cs : List (Command Op)) (s : QueueState) → HasRisingIds s → IsGivenOnce (places_from s cs)
unfolding places_from
given_once-from [] s sound before rest p id e = absurd (not_empty before rest p e)
given_once-from (c ∷ cs) s sound [] rest p id e =
    subst (λ (p : QueuePlace). length (handing_out id p.answers) ≤ 1)
    (same_head (queue_place c (effect c s)) p (places_from (effect c s).state cs) rest e)
    (gives_one id _ (effect c s) (effect-gives id c s sound))
given_once-from (c ∷ cs) s sound (b ∷ before) rest p id e =
    given_once-from cs (effect c s).state (effect-sound c s sound) before rest p id
    (same_tail (queue_place c (effect c s)) b (places_from (effect c s).state cs) (before ++ p ∷ rest) e)

-- nobody gets what a quiet place does not give
none_gets : (p : QueuePlace) (y id : ℕ) → IsQuiet id p.answers → Gets p y id → ⊥
none_gets p y id quiet g = subst (λ zs. In g.0 zs) quiet g.1

after_hold : (cs : List (Command Op)) (s : QueueState) (between rest : List QueuePlace) (q : QueuePlace)
    (x y id ttr second : ℕ) → HasRisingIds s → Held s.jobs x id ttr second → places_from s cs ≡ between ++ q ∷ rest
    → Gets q y id → HasEnded between q x id second ttr
unfolding places_from
after_hold [] s between rest q x y id ttr second sound h e g = absurd (not_empty between rest q e)
after_hold (c ∷ cs) s [] rest q x y id ttr second sound h e g =
    let same : queue_place c (effect c s) ≡ q = same_head (queue_place c (effect c s)) q (places_from (effect c s).state cs) rest e in
    elim (effect-holds x id ttr second c s sound h) as (λ v. HasEnded [] q x id second ttr) [
      | HoldsOn.ends ended ↦ ([], queue_place c (effect c s), [], ap (λ z. z ∷ []) (sym same), ended)
      | HoldsOn.on quiet later held ↦ absurd (none_gets q y id (subst (λ (q : QueuePlace). IsQuiet id q.answers) same quiet) g)
    ]
after_hold (c ∷ cs) s (b ∷ between) rest q x y id ttr second sound h e g =
    let same : queue_place c (effect c s) ≡ b = same_head (queue_place c (effect c s)) b (places_from (effect c s).state cs) (between ++ q ∷ rest) e in
    let next : places_from (effect c s).state cs ≡ between ++ q ∷ rest =
    same_tail (queue_place c (effect c s)) b (places_from (effect c s).state cs) (between ++ q ∷ rest) e in
    elim (effect-holds x id ttr second c s sound h) as (λ v. HasEnded (b ∷ between) q x id second ttr) [
      | HoldsOn.ends ended ↦ ([], queue_place c (effect c s), between ++ q ∷ [], ap (λ z. z ∷ (between ++ q ∷ [])) (sym same), ended)
      | HoldsOn.on quiet later held ↦
          let r = after_hold cs (effect c s).state between rest q x y id ttr
          (cond (touches (queue_place c (effect c s)) x id) (effect c s).state.now second) later held next g in
          (queue_place c (effect c s) ∷ r.0, r.1, r.2, ap₂ (λ z zs. z ∷ zs) (sym same) r.3, r.4)
    ]

ttr_held : (s : QueueState) (x id ttr second : ℕ) → Held s.jobs x id ttr second → ttr ≡ ttr_of id s
ttr_held s x id ttr second h = sym (ap ttr_in h.there ∙ h.runs)

-- the place c gives x the job
holder : (c : Command Op) (s : QueueState) (x id : ℕ) → HasRisingIds s → Gets (queue_place c (effect c s)) x id
    → Held (effect c s).state.jobs x id (ttr_of id (effect c s).state) (effect c s).state.now
holder c s x id sound g =
    let o = effect c s in
    let v : GivesOnce id (effect c s).state.now (effect c s) = effect-gives id c s sound in
    elim v.given as (λ v. Held (effect c s).state.jobs x id (ttr_of id (effect c s).state) (effect c s).state.now) [
      | inl quiet ↦ absurd (none_gets (queue_place c (effect c s)) x id quiet g)
      | inr gave ↦
          let i : In g.0 (gave.answer ∷ []) = subst (λ zs. In g.0 zs) gave.only g.1 in
          let same : g.0 ≡ gave.answer = elim i as (λ i. g.0 ≡ gave.answer) [ inl here ↦ here | inr never ↦ absurd never ] in
          subst (λ t. Held (effect c s).state.jobs x id t (effect c s).state.now)
          (ttr_held (effect c s).state gave.answer.to.session id gave.ttr (effect c s).state.now gave.held)
          (subst (λ z. Held (effect c s).state.jobs z id gave.ttr (effect c s).state.now) (ap (λ (a : Answer Reply). a.to.session) (sym same) ∙ g.2) gave.held)
    ]

held_by_one-from : (cs : List (Command Op)) (s : QueueState) → HasRisingIds s → IsHeldByOne (places_from s cs)
unfolding places_from
held_by_one-from [] s sound before between rest p q x y id e gp gq = absurd (not_empty before (between ++ q ∷ rest) p e)
held_by_one-from (c ∷ cs) s sound [] between rest p q x y id e gp gq =
    let same : queue_place c (effect c s) ≡ p = same_head (queue_place c (effect c s)) p (places_from (effect c s).state cs) (between ++ q ∷ rest) e in
    let next : places_from (effect c s).state cs ≡ between ++ q ∷ rest =
    same_tail (queue_place c (effect c s)) p (places_from (effect c s).state cs) (between ++ q ∷ rest) e in
    subst (λ (p : QueuePlace). HasEnded between q x id p.state.now (ttr_of id p.state)) same
    (after_hold cs (effect c s).state between rest q x y id (ttr_of id (effect c s).state) (effect c s).state.now (effect-sound c s sound)
    (holder c s x id sound (subst (λ (p : QueuePlace). Gets p x id) (sym same) gp)) next gq)
held_by_one-from (c ∷ cs) s sound (b ∷ before) between rest p q x y id e gp gq =
    held_by_one-from cs (effect c s).state (effect-sound c s sound) before between rest p q x y id
    (same_tail (queue_place c (effect c s)) b (places_from (effect c s).state cs) (before ++ p ∷ (between ++ q ∷ rest)) e) gp gq

fresh-sound : HasRisingIds fresh
fresh-sound = omega arith

pub given_once : (cs : List (Command Op)) → IsGivenOnce (queue_places cs)
given_once cs = given_once-from cs fresh fresh-sound

pub held_by_one : (cs : List (Command Op)) → IsHeldByOne (queue_places cs)
held_by_one cs = held_by_one-from cs fresh fresh-sound
