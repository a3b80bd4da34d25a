-- What clients of hosts saw is a part of what happened in the world.
use Rattle.std.proofs.Common.{◌≡◌, ◌≤◌, ◌⊎◌, inl, inr, ⊎_elim, ℕ, Bool, true, false, cond, ◌||◌, List, [], ◌∷◌, ◌++◌}
use Rattle.std.proofs.Common.{length, length-append, take, refl, sym, ap, ◌∙◌, subst, arith}
use Rattle.std.specs.List.{list_any}
use Rattle.std.proofs.lemmas.List.{take-append-le, take_all}
use Rattle.object.specs.Happenings.{Happenings, nothing, with_submission, with_answers, is_submitted, submitted_key}
use Rattle.object.specs.Keys.{same_key}
use Rattle.object.specs.Legal.{IsLegal, StandsAt}
use Rattle.object.specs.ListLaws.{In-left, In-right, In-cases}
use Rattle.object.specs.Lists.{In}
use Rattle.object.specs.Objects.{Rules}
use Rattle.object.specs.declared.command.Answer.{Answer}
use Rattle.object.specs.declared.command.Command.{Command}
use Rattle.object.specs.declared.command.Submission.{Submission}
use Rattle.node.specs.declared.deed.Deed.{Deed}
use Rattle.node.specs.declared.deed.Deed.TheVariants as deeds
use Rattle.cluster.specs.Asking.{with_asked}
use Rattle.cluster.specs.Showing.{IsPartOf}

any_end : {X : Type 0} (f : X → Bool) (xs ys : List X) → list_any f (xs ++ ys) ≡ list_any f xs || list_any f ys
any_end f [] ys = refl
any_end f (x ∷ xs) ys = ap (λ b. f x || b) (any_end f xs ys) ∙ turn (f x) (list_any f xs) (list_any f ys)
  where
    turn : (a b c : Bool) → a || (b || c) ≡ (a || b) || c
    turn true b c = refl
    turn false b c = refl

module _ {Op Reply : Type 0} where
  pub nothing_part : IsPartOf {Op = Op} {Reply = Reply} nothing nothing
  nothing_part = record {
    keys = λ key. refl;
    submitted = λ s i. absurd i;
    back = λ t i. absurd i;
    answers = λ a i. i;
    within = λ s i. absurd i;
    beyond = λ t i. absurd i;
  }

  module _ (h g : Happenings Op Reply) (part : IsPartOf h g) where
    -- more answers than those before a submission
    before_more : (xs more : List (Answer Reply)) (n : ℕ) → n ≤ length xs → (a : Answer Reply)
        → In a (take n (xs ++ more)) → In a (take n xs)
    before_more xs more n low a i = subst (In a) (take-append-le n xs more low) i

    before_fewer : (xs more : List (Answer Reply)) (n : ℕ) → n ≤ length xs → (a : Answer Reply) → In a (take n xs)
        → In a (take n (xs ++ more))
    before_fewer xs more n low a i = subst (In a) (sym (take-append-le n xs more low)) i

    longer : (xs more : List (Answer Reply)) (n : ℕ) → n ≤ length xs → n ≤ length (xs ++ more)
    longer xs more n low = let count = length-append xs more in omega (arith, low, count)

    -- the same is answered in both
    pub answered_part : (given : List (Answer Reply)) → IsPartOf (with_answers given h) (with_answers given g)
    answered_part given = record {
      keys = part.keys;
      submitted = λ s i. let t = part.submitted s i in (
        t.0,
        t.1,
        t.2,
        λ a j. before_fewer g.answers given t.0.after (part.beyond t.0 t.1) a
            (t.3 a (before_more h.answers given s.after (part.within s i) a j)),
      );
      back = part.back;
      answers = λ a i. ⊎_elim
          (λ (j : In a h.answers). In-left a g.answers given (part.answers a j))
          (λ (j : In a given). In-right a g.answers given j)
          (In-cases a h.answers given i);
      within = λ s i. longer h.answers given s.after (part.within s i);
      beyond = λ t i. longer g.answers given t.after (part.beyond t i);
    }

    -- or in the world alone
    pub told_part : (given : List (Answer Reply)) → IsPartOf h (with_answers given g)
    told_part given = record {
      keys = part.keys;
      submitted = λ s i. let t = part.submitted s i in (
        t.0,
        t.1,
        t.2,
        λ a j. before_fewer g.answers given t.0.after (part.beyond t.0 t.1) a (t.3 a j),
      );
      back = part.back;
      answers = λ a i. In-left a g.answers given (part.answers a i);
      within = part.within;
      beyond = λ t i. longer g.answers given t.after (part.beyond t i);
    }

    -- or, again, at a host alone
    pub relayed_part : (a : Answer Reply) → In a h.answers → IsPartOf (with_answers (a ∷ []) h) g
    relayed_part a was = record {
      keys = part.keys;
      submitted = λ s i. let t = part.submitted s i in (
        t.0,
        t.1,
        t.2,
        λ b j. t.3 b (before_more h.answers (a ∷ []) s.after (part.within s i) b j),
      );
      back = part.back;
      answers = λ b i. ⊎_elim
          (λ (j : In b h.answers). part.answers b j)
          (λ (j : In b (a ∷ [])). ⊎_elim (λ (e : b ≡ a). part.answers b (subst (λ z. In z h.answers) (sym e) was))
          (λ none. absurd none) j)
          (In-cases b h.answers (a ∷ []) i);
      within = λ s i. longer h.answers (a ∷ []) s.after (part.within s i);
      beyond = part.beyond;
    }

    -- a command is submitted
    module _ (c : Command Op) where
      abbrev s₀ : Submission Op
      s₀ = record { command = c; after = length h.answers }

      abbrev t₀ : Submission Op
      t₀ = record { command = c; after = length g.answers }

      all_before : (a : Answer Reply) → In a (take (length h.answers) h.answers)
          → In a (take (length g.answers) g.answers)
      all_before a i = subst (In a) (sym (take_all (length g.answers) g.answers (omega arith)))
          (part.answers a (subst (In a) (take_all (length h.answers) h.answers (omega arith)) i))

      one_more : IsPartOf (record h { submitted = h.submitted ++ (s₀ ∷ []) })
          (record g { submitted = g.submitted ++ (t₀ ∷ []) })
      one_more = record {
        keys = λ key.
            any_end (λ s. same_key (submitted_key s) key) h.submitted (s₀ ∷ [])
            ∙ ap (λ b. b || list_any (λ s. same_key (submitted_key s) key) (s₀ ∷ [])) (part.keys key)
            ∙ sym (any_end (λ s. same_key (submitted_key s) key) g.submitted (t₀ ∷ []));
        submitted = λ s i. ⊎_elim
            (λ (j : In s h.submitted). let t = part.submitted s j in
            (t.0, In-left t.0 g.submitted (t₀ ∷ []) t.1, t.2, t.3))
            (λ (j : In s (s₀ ∷ [])). ⊎_elim
            (λ (e : s ≡ s₀). (
              t₀,
              In-right t₀ g.submitted (t₀ ∷ []) (inl refl),
              ap (λ (z : Submission Op). z.command) (sym e),
              λ a k. all_before a (subst (λ (z : Submission Op). In a (take z.after h.answers)) e k),
            ))
            (λ none. absurd none) j)
            (In-cases s h.submitted (s₀ ∷ []) i);
        back = λ t i. ⊎_elim
            (λ (j : In t g.submitted). let s = part.back t j in (s.0, In-left s.0 h.submitted (s₀ ∷ []) s.1, s.2))
            (λ (j : In t (t₀ ∷ [])). ⊎_elim
            (λ (e : t ≡ t₀). (
              s₀,
              In-right s₀ h.submitted (s₀ ∷ []) (inl refl),
              ap (λ (z : Submission Op). z.command)
                  (sym e),
            ))
            (λ none. absurd none) j)
            (In-cases t g.submitted (t₀ ∷ []) i);
        answers = part.answers;
        within = λ s i. ⊎_elim
            (λ (j : In s h.submitted). part.within s j)
            (λ (j : In s (s₀ ∷ [])). ⊎_elim
            (λ (e : s ≡ s₀). let same = ap (λ (z : Submission Op). z.after) e in omega (arith, same))
            (λ none. absurd none) j)
            (In-cases s h.submitted (s₀ ∷ []) i);
        beyond = λ t i. ⊎_elim
            (λ (j : In t g.submitted). part.beyond t j)
            (λ (j : In t (t₀ ∷ [])). ⊎_elim
            (λ (e : t ≡ t₀). let same = ap (λ (z : Submission Op). z.after) e in omega (arith, same))
            (λ none. absurd none) j)
            (In-cases t g.submitted (t₀ ∷ []) i);
      }

      by_test : (a b : Bool) → a ≡ b → IsPartOf (cond a h (record h { submitted = h.submitted ++ (s₀ ∷ []) }))
          (cond b g (record g { submitted = g.submitted ++ (t₀ ∷ []) }))
      by_test true true e = part
      by_test false false e = one_more
      by_test true false e = absurd (cc)
      by_test false true e = absurd (cc)

      pub submitted_part : IsPartOf (with_submission c h) (with_submission c g)
      submitted_part = by_test (is_submitted c.key h.submitted) (is_submitted c.key g.submitted) (part.keys c.key)

    pub asked_part : (d : Deed Op) → IsPartOf (with_asked d h) (with_asked d g)
    asked_part (deeds.Request c) = submitted_part c
    asked_part deeds.Wake = part
    asked_part deeds.Nudge = part
    asked_part deeds.Propose = part
    asked_part deeds.Perform = part
    asked_part deeds.Restart = part

    -- what is legal for the world is legal for the hosts
    pub legal_part : {O : Type 0} (rules : Rules O Op Reply) (order : List (Command Op)) → IsLegal rules g order
        → IsLegal rules h order
    legal_part rules order legal = record {
      submitted = λ c i. let t = legal.submitted c i in let s = part.back t.0 t.1 in (s.0, s.1, s.2 ∙ t.2);
      rising = legal.rising;
      answered = λ a i. legal.answered a (part.answers a i);
      once = legal.once;
      later = λ s i a before m n given stands.
          let t = part.submitted s i in
          legal.later t.0 t.1 a (t.3 a before) m n given
          (subst (λ (k : Command Op). StandsAt k.key order n) (sym t.2) stands);
    }

-- what was submitted, after one command more
module _ {Op Reply : Type 0} (c : Command Op) (h : Happenings Op Reply) where
  abbrev last : Submission Op
  last = record { command = c; after = length h.answers }

  pub submitted_before : (t : Submission Op) → In t (with_submission c h).submitted → In t h.submitted ⊎ (t.command ≡ c)
  submitted_before t i = at (is_submitted c.key h.submitted) i
    where
      at : (b : Bool) → In t (cond b h (record h { submitted = h.submitted ++ (last ∷ []) })).submitted
          → In t h.submitted ⊎ (t.command ≡ c)
      at true j = inl j
      at false j = ⊎_elim
          (λ (k : In t h.submitted). inl k)
          (λ (k : In t (last ∷ [])). ⊎_elim (λ (e : t ≡ last). inr (ap (λ (z : Submission Op). z.command) e))
          (λ none. absurd none) k)
          (In-cases t h.submitted (last ∷ []) j)
