-- What a replay gives for one command more, and to whom it answers.
use Rattle.std.proofs.Common.{◌≡◌, ◌≢◌, ◌⊎◌, inl, inr, ⊎_elim, ℕ, suc, Bool, true, false, true≢false, List, [], ◌∷◌}
use Rattle.std.proofs.Common.{◌++◌, fold, None, Some, refl, sym, ap, ap₂, ◌∙◌, subst, append_assoc}
use Rattle.std.specs.Prelude.{cond, option_map}
use Rattle.std.proofs.lemmas.List.{append-nil}
use Rattle.object.specs.Lists.{In}
use Rattle.object.specs.Answers.{answered_key, AnswersOnce}
use Rattle.object.specs.Replays.{Placed, replay_from}
use Rattle.object.specs.declared.command.Answer.{Answer}
use Rattle.object.specs.declared.command.Command.{Command}
use Rattle.object.specs.declared.command.Key.{Key}
use Rattle.object.specs.Objects.{Rules}
use Rattle.object.specs.Keys.{same_key, found}
use Rattle.object.specs.KeyLaws.{same_is, same_itself, same_when}
use Rattle.object.specs.ListLaws.{In-cases}
use Rattle.object.specs.ReplayLaws.{answers_in, noted_at}
use Rattle.simulated_hall.specs.OneClient.{reply_among}
use Rattle.simulated_hall.proofs.Lists.{In-image}

pub answers_at : {Reply : Type 0} (place : ℕ) (answers : List (Answer Reply)) → answers_in (noted_at place answers) ≡ answers
answers_at place [] = refl
answers_at place (a ∷ answers) = ap (λ more. a ∷ more) (answers_at place answers)

module _ {O Op Reply : Type 0} (rules : Rules O Op Reply) where
  abbrev pub replayed : O → ℕ → List (Command Op) → List (Placed Reply)
  replayed s place cs = replay_from rules.after rules.answers s place cs

  pub state_more : (s : O) (cs : List (Command Op)) (c : Command Op) → fold rules.after s (cs ++ (c ∷ [])) ≡ rules.after (fold rules.after s cs) c
  state_more s [] c = refl
  state_more s (d ∷ cs) c = state_more (rules.after s d) cs c

  -- the last command's answers stand last
  pub one_more : (s : O) (place : ℕ) (before : List (Command Op)) (c : Command Op) → (n : ℕ)
      × (replayed s place (before ++ (c ∷ []))
      ≡ replayed s place before ++ noted_at n (rules.answers (fold rules.after s before) c))
  one_more s place [] c = (place, append-nil (noted_at place (rules.answers s c)))
  one_more s place (d ∷ before) c =
      let r = one_more (rules.after s d) (suc place) before c in (
        r.0,
        ap (λ more. noted_at place (rules.answers s d) ++ more) r.1 ∙ sym
            (append_assoc (noted_at place (rules.answers s d)) (replayed (rules.after s d) (suc place) before)
            (noted_at r.0 (rules.answers (fold rules.after s (d ∷ before)) c))),
      )

  -- an answer is to one of the commands, or to what waited before them
  pub answers_to : (waits : O → Key → Type 0)
      → ((s : O) (c : Command Op) (k : Key) → waits (rules.after s c) k → waits s k ⊎ (k ≡ c.key))
      → ((s : O) (c : Command Op) (a : Answer Reply) → In a (rules.answers s c) → (a.to ≡ c.key) ⊎ waits s a.to)
      → (s : O) (place : ℕ) (cs : List (Command Op)) (p : Placed Reply) → In p (replayed s place cs)
      → ((c : Command Op) × In c cs × (c.key ≡ p.answer.to)) ⊎ waits s p.answer.to
  answers_to waits waited named s place [] p i = absurd i
  answers_to waits waited named s place (c ∷ cs) p i = ⊎_elim
      (λ (here : In p (noted_at place (rules.answers s c))).
      let r = In-image (λ (a : Answer Reply). record { place = place; answer = a }) p (rules.answers s c) here in
      let to = ap (λ (q : Placed Reply). q.answer.to) r.2 in
      ⊎_elim (λ (own : r.0.to ≡ c.key). inl (c, inl refl, sym (to ∙ own))) (λ (w : waits s r.0.to). inr (subst (waits s) (sym to) w)) (named s c r.0 r.1))
      (λ (later : In p (replayed (rules.after s c) (suc place) cs)).
      ⊎_elim
      (λ (r : (d : Command Op) × In d cs × (d.key ≡ p.answer.to)). inl (r.0, inr r.1, r.2))
      (λ (w : waits (rules.after s c) p.answer.to).
      ⊎_elim (λ (v : waits s p.answer.to). inr v) (λ (own : p.answer.to ≡ c.key). inl (c, inl refl, sym own)) (waited s c p.answer.to w))
      (answers_to waits waited named (rules.after s c) (suc place) cs p later))
      (In-cases p (noted_at place (rules.answers s c)) (replayed (rules.after s c) (suc place) cs) i)

pub once-right : {Reply : Type 0} (xs ys : List (Answer Reply)) → AnswersOnce (xs ++ ys) → AnswersOnce ys
once-right [] ys once = once
once-right (x ∷ xs) ys once = once-right xs ys once.1

-- the reply to a key, where no key stands twice
pub reply_found : {Reply : Type 0} (xs : List (Answer Reply)) (a : Answer Reply) → AnswersOnce xs → In a xs → reply_among a.to xs ≡ Some a.reply
reply_found [] a once i = absurd i
reply_found {Reply} (x ∷ xs) a once (inl e) =
    ap (λ b. option_map (λ (y : Answer Reply). y.reply) (cond b (Some x) (found answered_key a.to xs)))
    (subst (λ (y : Answer Reply). same_key x.to y.to ≡ true) (sym e) (same_itself x.to))
    ∙ ap (λ (y : Answer Reply). Some y.reply) (sym e)
reply_found {Reply} (x ∷ xs) a once (inr i) = at (same_key x.to a.to) refl (reply_found xs a once.1 i)
  where
    at : (b : Bool) → same_key x.to a.to ≡ b → reply_among a.to xs ≡ Some a.reply
        → option_map (λ (y : Answer Reply). y.reply) (cond b (Some x) (found answered_key a.to xs)) ≡ Some a.reply
    at true e later = absurd (once.0 a i (sym (same_is x.to a.to e)))
    at false e later = later

pub reply_missing : {Reply : Type 0} (xs : List (Answer Reply)) (key : Key) → ((a : Answer Reply) → In a xs → a.to ≢ key) → reply_among key xs ≡ None
reply_missing [] key none = refl
reply_missing {Reply} (x ∷ xs) key none = at (same_key x.to key) refl (reply_missing xs key (λ a i. none a (inr i)))
  where
    at : (b : Bool) → same_key x.to key ≡ b → reply_among key xs ≡ None
        → option_map (λ (y : Answer Reply). y.reply) (cond b (Some x) (found answered_key key xs)) ≡ None
    at true e later = absurd (none x (inl refl) (same_is x.to key e))
    at false e later = later

-- what there is to a key, and that it is there
pub reply_there : {Reply : Type 0} (xs : List (Answer Reply)) (key : Key) (reply : Reply)
    → reply_among key xs ≡ Some reply → In (record { to = key; reply = reply }) xs
reply_there [] key reply e = absurd (cc)
reply_there {Reply} (x ∷ xs) key reply e = at (same_key x.to key) refl (reply_there xs key reply) e
  where
    at : (b : Bool) → same_key x.to key ≡ b
        → (reply_among key xs ≡ Some reply → In (record { to = key; reply = reply }) xs)
        → option_map (λ (y : Answer Reply). y.reply) (cond b (Some x) (found answered_key key xs)) ≡ Some reply
        → In (record { to = key; reply = reply }) (x ∷ xs)
    at true same later e =
        let own : x.reply ≡ reply = cc in
        inl (sym (ap₂ (λ (k : Key) (r : Reply). record { to = k; reply = r }) (same_is x.to key same) own))
    at false same later e = inr (later e)

-- and where there is none, nothing is to that key
pub reply_none : {Reply : Type 0} (xs : List (Answer Reply)) (key : Key) → reply_among key xs ≡ None → (a : Answer Reply) → In a xs → a.to ≡ key → ⊥
reply_none [] key e a i to = absurd i
reply_none {Reply} (x ∷ xs) key e a i to = at (same_key x.to key) refl (reply_none xs key) e i to
  where
    at : (b : Bool) → same_key x.to key ≡ b
        → (reply_among key xs ≡ None → (a : Answer Reply) → In a xs → a.to ≡ key → ⊥)
        → option_map (λ (y : Answer Reply). y.reply) (cond b (Some x) (found answered_key key xs)) ≡ None
        → In a (x ∷ xs) → a.to ≡ key → ⊥
    at true same later e i to = absurd (cc)
    at false same later e (inl here) to = true≢false (sym (same_when x.to key (ap (λ (b : Answer Reply). b.to) (sym here) ∙ to)) ∙ same)
    at false same later e (inr j) to = later e a j to
