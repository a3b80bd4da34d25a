-- What an acceptor keeps is a report of what it accepted.
use Rattle.std.proofs.Common.{◌≡◌, inl, inr, ℕ, Bool, true, false, not, Option, None, Some, List, [], ◌∷◌, ◌++◌, map, refl, sym, ap, subst, ◌∙◌, arith}
use Rattle.std.proofs.lemmas.Bool.Decides.{nat_tests}
use Rattle.std.proofs.lemmas.Bool.{cond-true, cond-false}
use Rattle.std.specs.Option.{option_eq}
use Rattle.std.specs.Ordering.{nat_cmp}
use Rattle.std.specs.Cmp.{nat_cmp_total}
use Rattle.std.specs.FinMap.{get, insert, entries, entries_sorted, entries-insert, get-entries}
use Rattle.std.specs.FinMap.Entries.{put}
use Rattle.object.specs.Lists.{In}
use Rattle.ballot.specs.Slots.{Slots}
use Rattle.ballot.specs.Ballots.{Numbers, is_below, is_same, is_promise}
use Rattle.ballot.specs.declared.pvalue.Pvalue.{Pvalue}
use Rattle.acceptor.specs.declared.accepted.Accepted.{Accepted}
use Rattle.acceptor.specs.Places.{pvalue_of, is_higher}
use Rattle.acceptor.specs.Reports.{IsReport}
use Rattle.acceptor.specs.Acceptors.{Acceptances, after_p2a, Keeps}
use Rattle.acceptor.proofs.Memberships.{in_cases, in_left, in_last, in_map, made_of, put_here, put_only, put_keeps, found_in, in_found}

not_below_itself : (a : Numbers) → is_below a a ≡ false
not_below_itself a = grind (arith, nat_tests)

not_both : (a b : Numbers) → is_below a b ≡ true → is_below b a ≡ false
not_both a b h = grind (arith, nat_tests, h)

-- all is a report
pub report_of_all : {C : Type 0} (xs ys : List (Pvalue C)) → ys ≡ xs → IsReport xs ys
report_of_all {C = C} xs ys e = subst (IsReport xs) (sym e) (record { part = λ p i. i; greatest = λ p i. (p, i, refl, not_below_itself p.ballot) })

-- one more pvalue, in the place of one of its slot that is of no higher ballot
pub report_of_put : {C : Type 0} (m : Slots (Accepted C)) (k : ℕ) (x : Accepted C)
    → is_higher (get m k) x.ballot ≡ false
    → IsReport (map pvalue_of (entries m) ++ pvalue_of (k, x) ∷ []) (map pvalue_of (entries (insert m k x)))
report_of_put {C = C} m k x not_higher =
    subst (λ (fs : List (ℕ × Accepted C)). IsReport (map pvalue_of (entries m) ++ pvalue_of (k, x) ∷ [])
    (map pvalue_of fs)) (sym (entries-insert nat_cmp_total m k x)) (record {
      part = λ p i.
          let made = made_of pvalue_of p new i in
          elim (put_only k x es made.0 made.1) as (λ o. In p (map pvalue_of es ++ pvalue_of (k, x) ∷ [])) [
            | inl old ↦ in_left p (map pvalue_of es) (pvalue_of (k, x) ∷ [])
                (subst (λ q. In q (map pvalue_of es)) (sym made.2) (in_map pvalue_of made.0 es old))
            | inr same ↦ subst (λ q. In q (map pvalue_of es ++ pvalue_of (k, x) ∷ []))
                (sym (made.2 ∙ ap pvalue_of same)) (in_last (map pvalue_of es) (pvalue_of (k, x)))
          ];
      greatest = λ p i.
          elim (in_cases p (map pvalue_of es) (pvalue_of (k, x)) i) as (λ o. (q : Pvalue C) × In q (map pvalue_of new)
          × (q.slot ≡ p.slot) × (is_below q.ballot p.ballot ≡ false)) [
            | inl old ↦
                let made = made_of pvalue_of p es old in
                elim (put_keeps k x es made.0 made.1) as (λ o. (q : Pvalue C) × In q (map pvalue_of new)
                × (q.slot ≡ p.slot) × (is_below q.ballot p.ballot ≡ false)) [
                  | inl stays ↦ (p, subst (λ q. In q (map pvalue_of new)) (sym made.2) (in_map pvalue_of made.0 new stays), refl, not_below_itself p.ballot)
                  | inr same ↦ (
                    pvalue_of (k, x),
                    here,
                    sym same ∙ ap (λ (q : Pvalue C). q.slot) (sym made.2),
                    subst (λ (q : Pvalue C). is_below x.ballot q.ballot ≡ false) (sym made.2)
                        (ap (λ o. is_higher o x.ballot)
                        (sym (in_found made.0 es (entries_sorted m) made.1) ∙ ap (λ n. find_at n) same ∙ sym
                        (get-entries m k)) ∙ not_higher),
                  )
                ]
            | inr same ↦ (
              pvalue_of (k, x),
              here,
              ap (λ (q : Pvalue C). q.slot) (sym same),
              subst
                  (λ (q : Pvalue C). is_below x.ballot q.ballot ≡ false) (sym same) (not_below_itself x.ballot),
            )
          ];
    })
  where
    es : List (ℕ × Accepted C)
    es = entries m

    new : List (ℕ × Accepted C)
    new = put nat_cmp k x (entries m)

    find_at : ℕ → Option (Accepted C)
    find_at n = Rattle.std.specs.FinMap.Entries.find nat_cmp n (entries m)

    here : In (pvalue_of (k, x)) (map pvalue_of (put nat_cmp k x (entries m)))
    here = in_map pvalue_of (k, x) (put nat_cmp k x (entries m)) (put_here k x (entries m))

-- a pvalue of a lower ballot than that which is kept of its slot
pub report_of_lower : {C : Type 0} (m : Slots (Accepted C)) (k : ℕ) (x : Accepted C)
    → is_higher (get m k) x.ballot ≡ true
    → IsReport (map pvalue_of (entries m) ++ pvalue_of (k, x) ∷ []) (map pvalue_of (entries m))
report_of_lower {C = C} m k x higher =
    elim (get m k) as (λ o. get m k ≡ o → is_higher o x.ballot ≡ true
    → IsReport (map pvalue_of (entries m) ++ pvalue_of (k, x) ∷ []) (map pvalue_of (entries m))) [
      | None ↦ λ is h. absurd (cc)
      | Some kept ↦ λ is h. record {
        part = λ p i. in_left p (map pvalue_of (entries m)) (pvalue_of (k, x) ∷ []) i;
        greatest = λ p i.
            elim (in_cases p (map pvalue_of (entries m)) (pvalue_of (k, x)) i) as (λ o. (q : Pvalue C)
            × In q (map pvalue_of (entries m)) × (q.slot ≡ p.slot) × (is_below q.ballot p.ballot ≡ false)) [
              | inl old ↦ (p, old, refl, not_below_itself p.ballot)
              | inr same ↦ (
                pvalue_of (k, kept),
                in_map pvalue_of (k, kept) (entries m) (found_in k kept (entries m) (sym (get-entries m k) ∙ is)),
                ap (λ (q : Pvalue C). q.slot) (sym same),
                subst (λ (q : Pvalue C). is_below kept.ballot q.ballot ≡ false) (sym same) (not_both x.ballot kept.ballot h),
              )
            ];
      }
    ] refl higher

-- a pvalue of another ballot changes nothing
pub kept_refused : {C : Type 0} (a : Acceptances C) (p : Pvalue C) → is_promise a.promised p.ballot ≡ false → Keeps (after_p2a a p) a
kept_refused {C = C} a p other = record {
  promised = refl;
  accepted = report_of_all (after_p2a a p).accepted a.accepted (sym (cond-false (is_promise a.promised p.ballot) (a.accepted ++ p ∷ []) a.accepted other));
}

-- a pvalue of the promised ballot is accepted
pub kept_report : {C : Type 0} (a b : Acceptances C) (p : Pvalue C) (before now : List (Pvalue C))
    → is_promise a.promised p.ballot ≡ true → a.accepted ≡ before → b.promised ≡ a.promised → b.accepted ≡ now
    → IsReport (before ++ p ∷ []) now → Keeps (after_p2a a p) b
kept_report {C = C} a b p before now promised was same is report = record {
  promised = same;
  accepted =
      subst (IsReport (after_p2a a p).accepted) (sym is)
      (subst (λ (ps : List (Pvalue C)). IsReport ps now)
      (ap (λ ps. ps ++ p ∷ []) (sym was) ∙ sym
      (cond-true (is_promise a.promised p.ballot) (a.accepted ++ p ∷ []) a.accepted promised)) report);
}

pub is_promised : (promised : Option Numbers) (b : Numbers) (test : Bool) → test ≡ not (option_eq is_same promised (Some b)) → is_promise promised b ≡ not test
is_promised None b test e = ap not (sym e)
is_promised (Some a) b test e = sym (not_not (is_same a b)) ∙ ap not (sym e)
  where
    not_not : (b : Bool) → not (not b) ≡ b
    not_not true = refl
    not_not false = refl
