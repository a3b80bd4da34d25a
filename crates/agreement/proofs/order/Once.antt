-- An object answers no key twice that obeys commands whose numbers rise.
use Rattle.std.proofs.Common.{◌≡◌, ◌≢◌, ◌⊎◌, inl, inr, ⊎_elim, ℕ, suc, List, [], ◌∷◌, ◌++◌, refl, sym, ap, ◌∙◌, subst}
use Rattle.std.proofs.lemmas.List.{map-append}
use Rattle.object.specs.Lists.{In}
use Rattle.object.specs.Answers.{AnswersOnce}
use Rattle.object.specs.Replays.{Placed, replay_from}
use Rattle.object.specs.declared.command.Answer.{Answer}
use Rattle.object.specs.declared.command.Command.{Command}
use Rattle.object.specs.declared.command.Key.{Key}
use Rattle.object.specs.Objects.{Rules, replay_of}
use Rattle.object.specs.Legal.{IsRising}
use Rattle.object.specs.ListLaws.{In-cases}
use Rattle.object.specs.ReplayLaws.{noted_at, answers_in}
use Rattle.agreement.proofs.order.Rising.{other_keys}

-- the laws of an object, as their crate states them
pub record ObjectLaws {O Op Reply : Type 0} (rules : Rules O Op Reply) (waits : O → Key → Type 0) : Type 0 where
  pub idle : (k : Key) → waits rules.fresh k → ⊥
  pub waited : (s : O) (c : Command Op) (k : Key) → waits (rules.after s c) k → waits s k ⊎ (k ≡ c.key)
  pub named : (s : O) (c : Command Op) (a : Answer Reply) → In a (rules.answers s c) → (a.to ≡ c.key) ⊎ waits s a.to
  pub over : (s : O) (c : Command Op) (a : Answer Reply) → In a (rules.answers s c) → waits (rules.after s c) a.to → ⊥
  pub once : (s : O) (c : Command Op) → AnswersOnce (rules.answers s c)

once_append : {Reply : Type 0} (xs ys : List (Answer Reply)) → AnswersOnce xs → AnswersOnce ys
    → ((a b : Answer Reply) → In a xs → In b ys → b.to ≢ a.to) → AnswersOnce (xs ++ ys)
once_append [] ys p q apart = q
once_append (x ∷ xs) ys p q apart = (
  λ b i. ⊎_elim (λ (j : In b xs). p.0 b j) (λ (j : In b ys). apart x b (inl refl) j) (In-cases b xs ys i),
  once_append xs ys p.1 q (λ a b i j. apart a b (inr i) j),
)

-- the answers of a replay, one command after the other
abbrev answers_from : {O Op Reply : Type 0} (rules : Rules O Op Reply) (s : O) (cs : List (Command Op)) → List (Answer Reply)
answers_from rules s [] = []
answers_from rules s (c ∷ cs) = rules.answers s c ++ answers_from rules (rules.after s c) cs

noted_back : {Reply : Type 0} (p : ℕ) (given : List (Answer Reply)) → answers_in (noted_at p given) ≡ given
noted_back p [] = refl
noted_back p (a ∷ given) = ap (λ r. a ∷ r) (noted_back p given)

module _ {O Op Reply : Type 0} (rules : Rules O Op Reply) where
  replay_answers : (s : O) (p : ℕ) (cs : List (Command Op)) → answers_in (replay_from rules.after rules.answers s p cs) ≡ answers_from rules s cs
  replay_answers s p [] = refl
  replay_answers s p (c ∷ cs) =
      map-append (λ (x : Placed Reply). x.answer) (noted_at p (rules.answers s c)) (replay_from rules.after rules.answers (rules.after s c) (suc p) cs)
      ∙ ap (λ r. r ++ answers_in (replay_from rules.after rules.answers (rules.after s c) (suc p) cs)) (noted_back p (rules.answers s c))
      ∙ ap (λ r. rules.answers s c ++ r) (replay_answers (rules.after s c) (suc p) cs)

  module _ (waits : O → Key → Type 0) (laws : ObjectLaws rules waits) where
    -- the key waits, or comes
    abbrev Expected : O → List (Command Op) → Key → Type 0
    Expected s cs k = waits s k ⊎ ((c : Command Op) × In c cs × (k ≡ c.key))

    expected_before : (s : O) (c : Command Op) (cs : List (Command Op)) (k : Key) → Expected (rules.after s c) cs k → Expected s (c ∷ cs) k
    expected_before s c cs k (inl w) = ⊎_elim (λ (x : waits s k). inl x) (λ (e : k ≡ c.key). inr (c, inl refl, e)) (laws.waited s c k w)
    expected_before s c cs k (inr d) = inr (d.0, inr d.1, d.2)

    named_all : (s : O) (cs : List (Command Op)) (a : Answer Reply) → In a (answers_from rules s cs) → Expected s cs a.to
    named_all s [] a i = absurd i
    named_all s (c ∷ cs) a i = ⊎_elim
        (λ (j : In a (rules.answers s c)). ⊎_elim (λ (e : a.to ≡ c.key). inr (c, inl refl, e)) (λ (w : waits s a.to). inl w) (laws.named s c a j))
        (λ (j : In a (answers_from rules (rules.after s c) cs)). expected_before s c cs a.to (named_all (rules.after s c) cs a j))
        (In-cases a (rules.answers s c) (answers_from rules (rules.after s c) cs) i)

    -- of a command that is over, nothing is said any more
    apart : (s : O) (c : Command Op) (cs : List (Command Op)) → IsRising (c ∷ cs)
        → ((d : Command Op) → In d (c ∷ cs) → waits s d.key → ⊥) → (a b : Answer Reply) → In a (rules.answers s c)
        → Expected (rules.after s c) cs b.to → b.to ≢ a.to
    apart s c cs rises fresh a b i (inl w) same = laws.over s c a i (subst (waits (rules.after s c)) same w)
    apart s c cs rises fresh a b i (inr d) same = ⊎_elim
        (λ (e : a.to ≡ c.key). other_keys c cs rises d.0 d.1 (sym d.2 ∙ same ∙ e))
        (λ (w : waits s a.to). fresh d.0 (inr d.1) (subst (waits s) (sym same ∙ d.2) w))
        (laws.named s c a i)

    still_fresh : (s : O) (c : Command Op) (cs : List (Command Op)) → IsRising (c ∷ cs)
        → ((d : Command Op) → In d (c ∷ cs) → waits s d.key → ⊥) → (d : Command Op) → In d cs
        → waits (rules.after s c) d.key → ⊥
    still_fresh s c cs rises fresh d i w =
        ⊎_elim (λ (x : waits s d.key). fresh d (inr i) x) (λ (e : d.key ≡ c.key). other_keys c cs rises d i e)
        (laws.waited s c d.key w)

    once_from : (s : O) (cs : List (Command Op)) → IsRising cs → ((d : Command Op) → In d cs → waits s d.key → ⊥) → AnswersOnce (answers_from rules s cs)
    once_from s [] rises fresh = tt
    once_from s (c ∷ cs) rises fresh =
        once_append (rules.answers s c) (answers_from rules (rules.after s c) cs) (laws.once s c)
        (once_from (rules.after s c) cs rises.1 (still_fresh s c cs rises fresh))
        (λ a b i j. apart s c cs rises fresh a b i (named_all (rules.after s c) cs b j))

    -- each answer of a replay is to a key that it obeyed
    pub replay_named : (cs : List (Command Op)) (a : Answer Reply) → In a (answers_in (replay_of rules cs)) → (c : Command Op) × In c cs × (a.to ≡ c.key)
    replay_named cs a i = ⊎_elim
        (λ (w : waits rules.fresh a.to). absurd (laws.idle a.to w))
        (λ (h : (c : Command Op) × In c cs × (a.to ≡ c.key)). h)
        (named_all rules.fresh cs a (subst (In a) (replay_answers rules.fresh 0 cs) i))

    -- a replay of rising commands answers no key twice
    pub replay_once : (cs : List (Command Op)) → IsRising cs → AnswersOnce (answers_in (replay_of rules cs))
    replay_once cs rises = subst AnswersOnce (sym (replay_answers rules.fresh 0 cs)) (once_from rules.fresh cs rises (λ d i w. laws.idle d.key w))

pub In-placed : {Reply : Type 0} (x : Placed Reply) (xs : List (Placed Reply)) → In x xs → In x.answer (answers_in xs)
In-placed x [] i = absurd i
In-placed x (y ∷ ys) (inl e) = inl (ap (λ (z : Placed _). z.answer) e)
In-placed x (y ∷ ys) (inr i) = inr (In-placed x ys i)

-- where no key is answered twice, two answers to one key are one
pub one_answer : {Reply : Type 0} (xs : List (Placed Reply)) → AnswersOnce (answers_in xs) → (x y : Placed Reply)
    → In x xs → In y xs → x.answer.to ≡ y.answer.to → x ≡ y
one_answer [] once x y i j same = absurd i
one_answer (z ∷ zs) once x y (inl e) (inl f) same = e ∙ sym f
one_answer {Reply} (z ∷ zs) once x y (inl e) (inr j) same = absurd (once.0 y.answer (In-placed y zs j) (sym same ∙ ap (λ (p : Placed Reply). p.answer.to) e))
one_answer {Reply} (z ∷ zs) once x y (inr i) (inl f) same = absurd (once.0 x.answer (In-placed x zs i) (same ∙ ap (λ (p : Placed Reply). p.answer.to) f))
one_answer (z ∷ zs) once x y (inr i) (inr j) same = one_answer zs once.1 x y i j same
