-- What becomes of the commands that a replica holds.
use Rattle.std.proofs.Common.{◌≡◌, ◌≢◌, ◌⊎◌, inl, inr, ⊎_elim, ℕ, ◌+◌, Bool, true, false, cond, List, [], ◌∷◌, ◌++◌}
use Rattle.std.proofs.Common.{drop, length, None, Some, is_some, refl, sym, ap, ◌∙◌, subst, arith}
use Rattle.std.specs.FinMap.{get, insert, remove, entries, values, get-remove, len, len-insert}
use Rattle.std.specs.List.{list_any}
use Rattle.std.specs.Prelude.{◌||◌, map}
use Rattle.std.proofs.lemmas.Bool.Decides.{nat_tests}
use Rattle.std.specs.Ordering.{nat_cmp, eq_by_cmp}
use Rattle.std.specs.Cmp.{nat_cmp_total}
use Rattle.std.proofs.lemmas.Bool.{cases_eq}
use Rattle.object.specs.Lists.{In}
use Rattle.object.specs.ListLaws.{In-left, In-right, Each-at}
use Rattle.node.specs.SlotLaws.{get_insert_same, get_insert_other, entries_get}
use Rattle.slot_log.specs.Books.{SlotBook}
use Rattle.slot_log.specs.Proposals.{proposed as with_proposal}
use Rattle.slot_log.specs.Decisions.{learnt, next_decided}
use Rattle.slot_log.specs.Advances.{advanced, lost}
use Rattle.slot_log.specs.Requests.{requested as with_request, is_known}
use Rattle.ballot.specs.Slots.{Slots}
use Rattle.agreement.proofs.order.Deciding.{any_found}
use Rattle.agreement.proofs.chosen.LeaderRows.{none_not}
use Rattle.agreement.specs.SlotBooks.{pending}
use Rattle.world.specs.WaysOut.{Holds, in_requests, in_proposals, in_decisions}

get_remove_other : {X : Type 0} (m : Slots X) (s q : ℕ) → q ≢ s → get (remove m s) q ≡ get m q
get_remove_other m s q apart = get-remove nat_cmp_total m s q ∙ ap (λ b. cond b None (get m q)) (eq_other q s apart)
  where
    eq_other : (a b : ℕ) → a ≢ b → eq_by_cmp nat_cmp a b ≡ false
    eq_other a b n = grind (arith, nat_tests)

in_pairs : {X : Type 0} (v : X) (es : List (ℕ × X)) → In v (map (λ e. e.1) es) → (s : ℕ) × In (s, v) es
in_pairs v [] within = absurd within
in_pairs v (e ∷ es) (inl same) = (e.0, inl (λ i. (e.0, same i)))
in_pairs v (e ∷ es) (inr later) = let h = in_pairs v es later in (h.0, inr h.1)

in_values : {X : Type 0} (m : Slots X) (v : X) → In v (values m) → (s : ℕ) × (get m s ≡ Some v)
in_values m v within =
    let h = in_pairs v (entries m) within in
    (h.0, Each-at (λ e. get m e.0 ≡ Some e.1) (entries m) (h.0, v) (entries_get m) h.1)

-- what is known is held
pub held_known : {C : Type 0} (same : C → C → Bool) (exact : (x y : C) → same x y ≡ true → x ≡ y) (book : SlotBook C)
    (c : C) → is_known same book c ≡ true → Holds book c
held_known same exact book c e = at (list_any (λ d. same d c) book.requests) (list_any (λ d. same d c) (values book.proposals)) refl refl e
  where
    at : (a b : Bool) → list_any (λ d. same d c) book.requests ≡ a
        → list_any (λ d. same d c) (values book.proposals) ≡ b
        → (a || (b || list_any (λ d. same d c) (values book.decisions))) ≡ true → Holds book c
    at true b p q e = let h = any_found (λ d. same d c) book.requests p in in_requests (subst (λ x. In x book.requests) (exact h.0 c h.2) h.1)
    at false true p q e = let h = any_found (λ d. same d c) (values book.proposals) q in let v =
        in_values book.proposals h.0 h.1 in in_proposals v.0 (v.1 ∙ ap (λ x. Some x) (exact h.0 c h.2))
    at false false p q e = let h = any_found (λ d. same d c) (values book.decisions) e in let v =
        in_values book.decisions h.0 h.1 in in_decisions v.0 (v.1 ∙ ap (λ x. Some x) (exact h.0 c h.2))

module _ {C : Type 0} (book : SlotBook C) where
  -- the first request is proposed at a slot that had no proposal
  module _ (s : ℕ) (c : C) (more : List C) (first : book.requests ≡ c ∷ more) (none : get book.proposals s ≡ None) where
    not_there : (t : ℕ) (d : C) → get book.proposals t ≡ Some d → t ≢ s
    not_there t d there e = none_not none (subst (λ q. get book.proposals q ≡ Some d) e there)

    in_first : (d : C) → In d (c ∷ more) → Holds (with_proposal book (Some (s, c))) d
    in_first d (inl e) = in_proposals s (get_insert_same book.proposals s c ∙ ap (λ x. Some x) (sym e))
    in_first d (inr later) = in_requests (subst (λ rs. In d (drop 1 rs)) (sym first) later)

    pub holds_proposed : (d : C) → Holds book d → Holds (with_proposal book (Some (s, c))) d
    holds_proposed d (in_requests within) = in_first d (subst (In d) first within)
    holds_proposed d (in_proposals t there) = in_proposals t (get_insert_other book.proposals s c t (not_there t d there) ∙ there)
    holds_proposed d (in_decisions t there) = in_decisions t there

    pub pending_proposed : pending (with_proposal book (Some (s, c))) ≡ pending book
    pending_proposed =
        let a = ap (λ rs. length (drop 1 rs)) first in
        let b = ap (λ rs. length rs) first in
        let e = len-insert nat_cmp_total book.proposals s c ∙ ap (λ o. cond (is_some o) (len book.proposals) (len book.proposals + 1)) none in
        let l : len (insert book.proposals s c) ≡ len book.proposals + 1 = e in
        let n : length (c ∷ more) ≡ length more + 1 = omega arith in
        let m : length (drop 1 (c ∷ more)) ≡ length more = refl in
        omega arith

  -- a decision is learnt where none was known
  pub holds_learnt : (s : ℕ) (c : C) → get book.decisions s ≡ None → (d : C) → Holds book d → Holds (learnt book s c) d
  holds_learnt s c none d (in_requests within) = in_requests within
  holds_learnt s c none d (in_proposals t there) = in_proposals t there
  holds_learnt s c none d (in_decisions t there) =
      in_decisions t (get_insert_other book.decisions s c t
      (λ e. none_not none (subst (λ q. get book.decisions q ≡ Some d) e there)) ∙ there)

  -- the decision at slot_out is performed
  module _ (same : C → C → Bool) (exact : (x y : C) → same x y ≡ true → x ≡ y) (c : C) (known : next_decided book ≡ Some c) where
    lost_or_decided : (d : C) (test : Bool) → same d c ≡ test → get book.proposals book.slot_out ≡ Some d → In d (cond test [] (d ∷ [])) ⊎ (d ≡ c)
    lost_or_decided d true e there = inr (exact d c e)
    lost_or_decided d false e there = inl (inl refl)

    of_out : (d : C) → get book.proposals book.slot_out ≡ Some d → Holds (advanced same book) d
    of_out d there = ⊎_elim
        (λ (within : In d (cond (same d c) [] (d ∷ []))). in_requests
        (In-right d book.requests (lost same (get book.proposals book.slot_out) (next_decided book))
        (subst (λ o. In d (lost same o (next_decided book))) (sym there) (subst (λ o. In d (lost same (Some d) o)) (sym known) within))))
        (λ (e : d ≡ c). in_decisions book.slot_out (known ∙ ap (λ x. Some x) (sym e)))
        (lost_or_decided d (same d c) refl there)

    pub holds_advanced : (d : C) → Holds book d → Holds (advanced same book) d
    holds_advanced d (in_requests within) = in_requests (In-left d book.requests (lost same (get book.proposals book.slot_out) (next_decided book)) within)
    holds_advanced d (in_proposals t there) = ⊎_elim
        (λ (e : t ≡ book.slot_out). of_out d (subst (λ q. get book.proposals q ≡ Some d) e there))
        (λ (apart : t ≢ book.slot_out). in_proposals t (get_remove_other book.proposals book.slot_out t apart ∙ there))
        (cases_eq t book.slot_out)
    holds_advanced d (in_decisions t there) = in_decisions t there

  -- a command that is submitted is held
  module _ (same : C → C → Bool) (exact : (x y : C) → same x y ≡ true → x ≡ y) where
    pub holds_requested : (c : C) → Holds (with_request same book c) c
    holds_requested c = at (is_known same book c) refl
      where
        at : (test : Bool) → is_known same book c ≡ test → Holds (cond test book (record book { requests = book.requests ++ c ∷ [] })) c
        at true e = held_known same exact book c e
        at false e = in_requests (In-right c book.requests (c ∷ []) (inl refl))
