-- Reports that are alike, and what an adopted leader takes of them.
use Rattle.std.proofs.Common.{◌≡◌, ◌⊎◌, inl, inr, ⊎_elim, ℕ, true, false, List, ◌++◌, Some, refl, sym, ap, ◌∙◌}
use Rattle.std.specs.FinMap.{get, same_map, nat_cmp-IsAntisymmetric}
use Rattle.std.specs.Cmp.{nat_cmp_total}
use Rattle.object.specs.Lists.{In}
use Rattle.object.specs.ListLaws.{In-left, In-right, In-cases}
use Rattle.ballot.specs.Ballots.{is_below}
use Rattle.ballot.specs.OrderLaws.{BallotLaws, not_both, upto_trans}
use Rattle.ballot.specs.Slots.{Slots}
use Rattle.ballot.specs.declared.pvalue.Pvalue.{Pvalue}
use Rattle.acceptor.specs.Reports.{IsReport}
use Rattle.scout_commander.specs.Reports.{IsFresh}
use Rattle.leader.specs.Adoptions.{IsGreatest, IsOpen, TakesGreatest}
use Rattle.world.specs.Alike.{IsCovered, IsAlikeReport}

-- a list of pvalues is alike itself
pub report_itself : (laws : BallotLaws) {C : Type 0} (ps : List (Pvalue C)) → IsAlikeReport ps ps
report_itself laws ps = record { covered = λ p i. (p, i, refl, laws.itself p.ballot); covers = λ p i. (p, i, refl, laws.itself p.ballot) }

-- and so are two reports of one acceptor
pub reports_alike : {C : Type 0} (all ps qs : List (Pvalue C)) → IsReport all ps → IsReport all qs → IsAlikeReport ps qs
reports_alike all ps qs r t = record { covered = λ p i. t.greatest p (r.part p i); covers = λ p i. r.greatest p (t.part p i) }

-- what is gathered and what is reported is covered, where the one and the other are
gathers_covered : {C : Type 0} (ps qs : List (Pvalue C)) (rs ts : List (Pvalue C)) (fs gs : List (Pvalue C))
    → IsCovered ps qs → IsCovered rs ts → IsFresh ps rs fs → IsFresh qs ts gs → IsCovered (ps ++ fs) (qs ++ gs)
gathers_covered ps qs rs ts fs gs old new f g p i =
    ⊎_elim
    (λ (at : In p ps). let h = old p at in (h.0, In-left h.0 qs gs h.1, h.2, h.3))
    (λ (at : In p fs).
    let h = new p (f.part p at) in
    (h.0, ⊎_elim (λ (a : In h.0 qs). In-left h.0 qs gs a) (λ (b : In h.0 gs). In-right h.0 qs gs b) (g.all h.0 h.1), h.2, h.3))
    (In-cases p ps fs i)

-- what scouts gather of alike reports stays alike
pub gathers_alike : {C : Type 0} (ps qs : List (Pvalue C)) (rs ts : List (Pvalue C)) (fs gs : List (Pvalue C))
    → IsAlikeReport ps qs → IsAlikeReport rs ts → IsFresh ps rs fs → IsFresh qs ts gs
    → IsAlikeReport (ps ++ fs) (qs ++ gs)
gathers_alike ps qs rs ts fs gs old new f g = record {
  covered = gathers_covered ps qs rs ts fs gs old.covered new.covered f g;
  covers = gathers_covered qs ps ts rs gs fs old.covers new.covers g f;
}

module _ (laws : BallotLaws) {C : Type 0} (ps qs : List (Pvalue C)) (alike : IsAlikeReport ps qs)
    (unique : (p q : Pvalue C) → In p ps → In q qs → p.ballot ≡ q.ballot → p.slot ≡ q.slot → p.value ≡ q.value) where
  -- the greatest of the one is not below the greatest of the other
  not_below : (these others : List (Pvalue C)) → IsCovered others these → (s : ℕ) (p q : Pvalue C)
      → IsGreatest these s p → IsGreatest others s q → is_below p.ballot q.ballot ≡ false
  not_below these others covered s p q g h =
      let r = covered q h.within in
      upto_trans laws q.ballot r.0.ballot p.ballot r.3 (g.greatest r.0 r.1 (r.2 ∙ h.slot))

  same_ballot : (s : ℕ) (p q : Pvalue C) → IsGreatest ps s p → IsGreatest qs s q → p.ballot ≡ q.ballot
  same_ballot s p q g h =
      ⊎_elim
      (λ (x : is_below p.ballot q.ballot ≡ true). not_both x (not_below ps qs alike.covers s p q g h))
      (λ (r : (p.ballot ≡ q.ballot) ⊎ (is_below q.ballot p.ballot ≡ true)). ⊎_elim
      (λ (e : p.ballot ≡ q.ballot). e)
      (λ (x : is_below q.ballot p.ballot ≡ true). not_both x (not_below qs ps alike.covered s q p h g))
      r)
      (laws.total p.ballot q.ballot)

  same_value : (s : ℕ) (p q : Pvalue C) → IsGreatest ps s p → IsGreatest qs s q → p.value ≡ q.value
  same_value s p q g h = unique p q g.within h.within (same_ballot s p q g h) (g.slot ∙ sym h.slot)

  same_at : (old new other : Slots C) (s : ℕ)
      → (IsOpen ps s × (get new s ≡ get old s)) ⊎ ((p : Pvalue C) × IsGreatest ps s p × (get new s ≡ Some p.value))
      → (IsOpen qs s × (get other s ≡ get old s)) ⊎ ((q : Pvalue C) × IsGreatest qs s q × (get other s ≡ Some q.value))
      → get new s ≡ get other s
  same_at old new other s (inl a) (inl b) = a.1 ∙ sym b.1
  same_at old new other s (inl a) (inr b) = let h = alike.covers b.0 b.1.within in absurd (a.0 h.0 h.1 (h.2 ∙ b.1.slot))
  same_at old new other s (inr a) (inl b) = let h = alike.covered a.0 a.1.within in absurd (b.0 h.0 h.1 (h.2 ∙ a.1.slot))
  same_at old new other s (inr a) (inr b) = a.2 ∙ ap (λ c. Some c) (same_value s a.0 b.0 a.1 b.1) ∙ sym b.2

  -- adopted leaders take the same proposals
  pub taken_alike : (old new other : Slots C) → TakesGreatest old ps new → TakesGreatest old qs other → new ≡ other
  taken_alike old new other a b = same_map nat_cmp_total nat_cmp-IsAntisymmetric new other (λ s. same_at old new other s (a s) (b s))
