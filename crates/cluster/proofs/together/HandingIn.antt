-- One command more is handed in at a host: a key has one command still.
use Rattle.std.proofs.Common.{◌≡◌, ◌≢◌, ◌⊎◌, inl, inr, ⊎_elim, ℕ, ◌==◌, Bool, true, false, cond, List, [], ◌∷◌, ◌++◌}
use Rattle.std.proofs.Common.{sym, ap, ◌∙◌, subst}
use Rattle.std.proofs.lemmas.Bool.{cases_eq}
use Rattle.object.specs.ListLaws.{In-cases, In-left}
use Rattle.object.specs.Lists.{In}
use Rattle.object.specs.declared.command.Command.{Command}
use Rattle.object.specs.declared.command.Key.{Key}
use Rattle.cluster.specs.Clusters.{with_handed}
use Rattle.cluster.specs.Showing.{IsHandedIn}
use Rattle.cluster.proofs.together.Counting.{other_number}
use Rattle.cluster.proofs.alone.Acting.{same_number}

module _ {Op : Type 0} (handed : ℕ → List (Command Op)) (n : ℕ) (c : Command Op) where
  -- what was handed in at a node is of before, or the new one at its node
  handed_cases : (m : ℕ) (d : Command Op) → In d (with_handed handed n c m) → In d (handed m) ⊎ ((d ≡ c) × (m ≡ n))
  handed_cases m d i = ⊎_elim
      (λ (e : m ≡ n). ⊎_elim
      (λ (j : In d (handed m)). inl j)
      (λ (j : In d (c ∷ [])). ⊎_elim (λ (f : d ≡ c). inr (f, e)) (λ none. absurd none) j)
      (In-cases d (handed m) (c ∷ []) (subst (In d)
      (ap (λ b. cond b (handed m ++ (c ∷ [])) (handed m)) (same_number m n e)) i)))
      (λ (apart : m ≢ n). inl (subst (In d) (ap (λ b. cond b (handed m ++ (c ∷ [])) (handed m)) (other_number m n apart)) i))
      (cases_eq m n)

  pub handed_still : (m : ℕ) (d : Command Op) → In d (handed m) → In d (with_handed handed n c m)
  handed_still m d i = at (m == n)
    where
      at : (b : Bool) → In d (cond b (handed m ++ (c ∷ [])) (handed m))
      at true = In-left d (handed m) (c ∷ []) i
      at false = i

  module _ (owner : ℕ → ℕ) (before : IsHandedIn owner handed) (mine : owner c.key.session ≡ n)
      (own : (d : Command Op) → In d (handed n) → d.key ≡ c.key → d ≡ c) where
    -- one of its key is itself
    it_is : (m : ℕ) (d : Command Op) → In d (handed m) → d.key ≡ c.key → d ≡ c
    it_is m d i same =
        let there : m ≡ n = sym (before.owned m d i) ∙ ap (λ (q : Key). owner q.session) same ∙ mine in
        own d (subst (λ o. In d (handed o)) there i) same

    one_each : (m : ℕ) (a b : Command Op) → In a (with_handed handed n c m) → In b (with_handed handed n c m)
        → a.key ≡ b.key → a ≡ b
    one_each m a b i j e = ⊎_elim
        (λ (old : In a (handed m)). ⊎_elim
        (λ (too : In b (handed m)). before.one m a b old too e)
        (λ (new : (b ≡ c) × (m ≡ n)). it_is m a old (e ∙ ap (λ (q : Command Op). q.key) new.0) ∙ sym new.0)
        (handed_cases m b j))
        (λ (new : (a ≡ c) × (m ≡ n)). ⊎_elim
        (λ (old : In b (handed m)). new.0 ∙ sym (it_is m b old (sym e ∙ ap (λ (q : Command Op). q.key) new.0)))
        (λ (too : (b ≡ c) × (m ≡ n)). new.0 ∙ sym too.0)
        (handed_cases m b j))
        (handed_cases m a i)

    pub handed_more : IsHandedIn owner (with_handed handed n c)
    handed_more = record {
      owned = λ m d i. ⊎_elim
          (λ (old : In d (handed m)). before.owned m d old)
          (λ (new : (d ≡ c) × (m ≡ n)). ap (λ (q : Command Op). owner q.key.session) new.0 ∙ mine ∙ sym new.1)
          (handed_cases m d i);
      one = one_each;
    }
