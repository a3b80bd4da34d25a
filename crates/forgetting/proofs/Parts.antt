-- Lists of pvalues from a base on and up to it; what a whole list can be, of which this is the rest.
use Rattle.std.proofs.Common.{◌≡◌, ◌⊎◌, inl, inr, ⊎_elim, ℕ, Bool, true, false, true≢false, not, List, [], ◌∷◌}
use Rattle.std.proofs.Common.{◌++◌, filter, refl, sym, ap, ap₂, ◌∙◌, arith}
use Rattle.std.specs.Prelude.{nat_le}
use Rattle.std.proofs.lemmas.Bool.Decides.{nat_tests}
use Rattle.std.proofs.lemmas.List.{append-nil}
use Rattle.std.proofs.lemmas.List.Elements.{filter-append}
use Rattle.object.specs.Lists.{In}
use Rattle.object.specs.ListLaws.{In-left, In-right, In-cases}
use Rattle.ballot.specs.Ballots.{Numbers, is_below}
use Rattle.ballot.specs.declared.pvalue.Pvalue.{Pvalue}
use Rattle.acceptor.specs.Reports.{IsReport}
use Rattle.scout_commander.specs.Reports.{IsOnce, IsFresh}
use Rattle.scout_commander.proofs.Fresh.{some_fresh}
use Rattle.ballot.specs.Rests.{pvalues_from}
use Rattle.ballot.proofs.Filters.{In_filter, filter_In, filter_all, filter_none}

pub not_below_itself : (b : Numbers) → is_below b b ≡ false
not_below_itself b = grind (arith, nat_tests)

pub test_cases : (b : Bool) → (b ≡ true) ⊎ (b ≡ false)
test_cases true = inl refl
test_cases false = inr refl

pub turned : (b : Bool) → b ≡ false → not b ≡ true
turned b e = ap not e

once_both : {X : Type 0} (xs ys : List X) → IsOnce xs → IsOnce ys → ((x : X) → In x xs → In x ys → ⊥) → IsOnce (xs ++ ys)
once_both [] ys a b h = b
once_both (x ∷ xs) ys a b h = (
  λ i. ⊎_elim (λ (j : In x xs). a.0 j) (λ (j : In x ys). h x (inl refl) j)
      (In-cases x xs ys i),
  once_both xs ys a.1 b (λ y i j. h y (inr i) j),
)

module _ {C : Type 0} (base : ℕ) where
  abbrev is_high : Pvalue C → Bool
  is_high p = nat_le base p.slot

  abbrev is_low : Pvalue C → Bool
  is_low p = not (nat_le base p.slot)

  low_is : (p : Pvalue C) → is_low p ≡ true → is_high p ≡ false
  low_is p h = ⊎_elim (λ (e : is_high p ≡ true). absurd (true≢false (sym h ∙ ap not e))) (λ (e : is_high p ≡ false). e) (test_cases (is_high p))

  pub above_In : (p : Pvalue C) (ps : List (Pvalue C)) → In p (pvalues_from base ps) → In p ps × (nat_le base p.slot ≡ true)
  above_In p ps i = In_filter is_high p ps i

  pub In_above : (p : Pvalue C) (ps : List (Pvalue C)) → nat_le base p.slot ≡ true → In p ps → In p (pvalues_from base ps)
  In_above p ps h i = filter_In is_high p ps h i

  -- these, all from the base on, and some up to it
  rest_of_both : (high low : List (Pvalue C)) → ((p : Pvalue C) → In p high → is_high p ≡ true)
      → ((p : Pvalue C) → In p low → is_high p ≡ false) → pvalues_from base (high ++ low) ≡ high
  rest_of_both high low h l = filter-append is_high high low ∙ ap₂ (λ xs ys. xs ++ ys) (filter_all is_high high h) (filter_none is_high low l) ∙ append-nil high

  -- a report of the rest is the rest of a report
  pub whole_report : (accepted report : List (Pvalue C)) → IsReport (pvalues_from base accepted) report
      → (whole : List (Pvalue C)) × IsReport accepted whole × (pvalues_from base whole ≡ report)
  whole_report accepted report is = (
    report ++ filter is_low accepted,
    record {
      part = λ p i. ⊎_elim (λ (j : In p report). (above_In p accepted (is.part p j)).0)
          (λ (j : In p (filter is_low accepted)). (In_filter is_low p accepted j).0)
          (In-cases p report (filter is_low accepted) i);
      greatest = λ p i. ⊎_elim
          (λ (h : is_high p ≡ true). let q = is.greatest p (In_above p accepted h i) in (q.0, In-left q.0 report (filter is_low accepted) q.1, q.2, q.3))
          (λ (l : is_high p ≡ false). (
            p,
            In-right p report (filter is_low accepted)
                (filter_In is_low p accepted (turned (is_high p) l) i),
            refl,
            not_below_itself p.ballot,
          ))
          (test_cases (is_high p));
    },
    rest_of_both report (filter is_low accepted) (λ p i. (above_In p accepted (is.part p i)).1) (λ p i. low_is p (In_filter is_low p accepted i).1),
  )

  -- and the rest of a report is a report of the rest
  pub rest_of_report : (accepted report : List (Pvalue C)) → IsReport accepted report → IsReport (pvalues_from base accepted) (pvalues_from base report)
  rest_of_report accepted report is = record {
    part = λ p i. let r = above_In p report i in In_above p accepted r.1 (is.part p r.0);
    greatest = λ p i.
        let a = above_In p accepted i in
        let q = is.greatest p a.0 in
        (q.0, In_above q.0 report (ap (nat_le base) q.2 ∙ a.1) q.1, q.2, q.3);
  }

  -- what is fresh of the rest of a report is the rest of what is fresh of it
  pub whole_fresh : ((p : Pvalue C) (ps : List (Pvalue C)) → In p ps ⊎ (In p ps → ⊥))
      → (gathered report fresh : List (Pvalue C))
      → IsFresh (pvalues_from base gathered) (pvalues_from base report) fresh → (whole : List (Pvalue C))
      × IsFresh gathered report whole × (pvalues_from base whole ≡ fresh)
  whole_fresh decide gathered report fresh is =
      let low = some_fresh decide gathered (filter is_low report) in
      let high : (p : Pvalue C) → In p fresh → In p report × (is_high p ≡ true) = λ p i. above_In p report (is.part p i) in
      let under : (p : Pvalue C) → In p low.0 → In p report × (is_low p ≡ true) = λ p i. In_filter is_low p report (low.1.part p i) in (
        fresh ++ low.0,
        record {
          part = λ p i. ⊎_elim (λ (j : In p fresh). (high p j).0) (λ (j : In p low.0). (under p j).0) (In-cases p fresh low.0 i);
          all = λ p i. ⊎_elim
              (λ (h : is_high p ≡ true). ⊎_elim
              (λ (j : In p (pvalues_from base gathered)). inl (above_In p gathered j).0)
              (λ (j : In p fresh). inr (In-left p fresh low.0 j)) (is.all p (In_above p report h i)))
              (λ (l : is_high p ≡ false). ⊎_elim (λ (j : In p gathered). inl j)
              (λ (j : In p low.0). inr (In-right p fresh low.0 j))
              (low.1.all p (filter_In is_low p report (turned (is_high p) l) i)))
              (test_cases (is_high p));
          new = λ p i g. ⊎_elim
              (λ (j : In p fresh). is.new p j (In_above p gathered (high p j).1 g))
              (λ (j : In p low.0). low.1.new p j g)
              (In-cases p fresh low.0 i);
          once = once_both fresh low.0 is.once low.1.once (λ p i j. true≢false (sym (high p i).1 ∙ low_is p (under p j).1));
        },
        rest_of_both fresh low.0 (λ p i. (high p i).1) (λ p i. low_is p (under p i).1),
      )
