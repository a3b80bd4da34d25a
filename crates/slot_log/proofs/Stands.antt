-- A command that is known stands somewhere.
use Rattle.std.proofs.Common.{◌≡◌, ⊎_elim, ℕ, suc, ◌+◌, Bool, true, false, cond, ◌||◌, Option, Some, None, List, [], ◌∷◌, refl, sym, ap, ◌∙◌, arith}
use Rattle.std.specs.Prelude.{T}
use Rattle.std.proofs.lemmas.Bool.{false≢true, false_from_ne_true}
use Rattle.std.specs.List.{list_any, slice_get}
use Rattle.std.specs.Map.{values_of}
use Rattle.std.specs.Ordering.{nat_cmp, eq_by_cmp}
use Rattle.std.specs.FinMap.{get, values, entries, entries_sorted, find, get-entries}
use Rattle.std.specs.FinMap.Entries.{below_all, is_sorted}
use Rattle.ballot.specs.Slots.{Slots}
use Rattle.ballot.proofs.SlotMaps.{same_key}
use Rattle.slot_log.specs.declared.places.Place.{Place}
use Rattle.slot_log.specs.declared.places.Place.TheVariants.{Requested, Proposed, Decided}
use Rattle.slot_log.specs.declared.slot_log.SlotLog.TheInside.{Inside}
use Rattle.slot_log.specs.Requests.{is_known}
use Rattle.slot_log.specs.Kept.{book_of, standing}
use Rattle.slot_log.proofs.Maps.{key_itself}
use Rattle.slot_log.proofs.Ranks.{ranked_at}
use Rattle.slot_log.proofs.Standing.{or_cases}
use Rattle.slot_log.proofs.Windows.{first, second, none_found}

module _ {X : Type 0} (p : X → Bool) where
  -- a value of a list that passes, and one of a map by slot
  record InList (xs : List X) : Type 0 where
    index : ℕ
    value : X
    got : slice_get xs index ≡ Some value
    passes : p value ≡ true

  pub record InEntries (es : List (ℕ × X)) : Type 0 where
    pub slot : ℕ
    pub value : X
    pub got : find nat_cmp slot es ≡ Some value
    pub passes : p value ≡ true

  in_list : (xs : List X) → list_any p xs ≡ true → InList xs
  in_list [] h = absurd (false≢true h)
  in_list (x ∷ xs) h =
      ⊎_elim (λ (t : p x ≡ true). record { index = 0; value = x; got = refl; passes = t })
      (λ (t : list_any p xs ≡ true). let more = in_list xs t in record { index = suc more.index; value = more.value; got = more.got; passes = more.passes })
      (or_cases (p x) (list_any p xs) h)

  -- an entry behind the first one is found too
  behind : (e : ℕ × X) (es : List (ℕ × X)) → T (below_all nat_cmp e.0 es) → (s : ℕ) (x : X)
      → find nat_cmp s es ≡ Some x → find nat_cmp s (e ∷ es) ≡ Some x
  behind e es up s x got =
      elim (eq_by_cmp nat_cmp s e.0) as (λ b. eq_by_cmp nat_cmp s e.0 ≡ b → cond b (Some e.1) (find nat_cmp s es) ≡ Some x) [
        | true ↦ λ t. let same = same_key e.0 s t in absurd (none_is_some (sym (none_found s e.0 es up (omega arith)) ∙ got))
        | false ↦ λ f. got
      ] refl
    where
      none_is_some : None ≡ Some x → ⊥
      none_is_some h = cc

  pub in_entries : (es : List (ℕ × X)) → T (is_sorted nat_cmp es) → list_any p (values_of es) ≡ true → InEntries es
  in_entries [] sorted h = absurd (false≢true h)
  in_entries (e ∷ es) sorted h =
      ⊎_elim
      (λ (t : p e.1 ≡ true).
      record { slot = e.0; value = e.1; got = ap (λ b. cond b (Some e.1) (find nat_cmp e.0 es)) (key_itself e.0); passes = t })
      (λ (t : list_any p (values_of es) ≡ true).
      let more = in_entries es (second (below_all nat_cmp e.0 es) (is_sorted nat_cmp es) sorted) t in
      record {
        slot = more.slot;
        value = more.value;
        got = behind e es (first (below_all nat_cmp e.0 es) (is_sorted nat_cmp es) sorted) more.slot more.value more.got;
        passes = more.passes;
      })
      (or_cases (p e.1) (list_any p (values_of es)) h)

  pub in_slots : (m : Slots X) → list_any p (values m) ≡ true → InEntries (entries m)
  in_slots m h = in_entries (entries m) (entries_sorted m) h

  -- where none passes
  pub none_in_slots : (m : Slots X) → ((s : ℕ) (x : X) → get m s ≡ Some x → p x ≡ false) → list_any p (values m) ≡ false
  none_in_slots m fails = false_from_ne_true (list_any p (values m)) (λ t.
      let at = in_slots m t in false≢true (sym (fails at.slot at.value (get-entries m at.slot ∙ at.got)) ∙ at.passes))

-- where a command stands
pub record Stands {C : Type 0} (stands : Place → Option C) (c : C) : Type 0 where
  pub place : Place
  pub there : stands place ≡ Some c

module _ {C : Type 0} (same : C → C → Bool) (exact : (x y : C) → same x y ≡ true → x ≡ y) (a : Inside C) (c : C) where
  in_requests : list_any (λ d. same d c) a.requests.items ≡ true → Stands (standing a) c
  in_requests h =
      let at = in_list (λ d. same d c) a.requests.items h in
      record {
        place = Requested (a.front_rank + at.index);
        there = ranked_at a.requests.items a.front_rank (a.front_rank + at.index) at.index refl ∙ at.got ∙ ap (λ x. Some x) (exact at.value c at.passes);
      }

  in_proposals : list_any (λ d. same d c) (values a.proposals) ≡ true → Stands (standing a) c
  in_proposals h =
      let at = in_slots (λ d. same d c) a.proposals h in
      record { place = Proposed at.slot; there = get-entries a.proposals at.slot ∙ at.got ∙ ap (λ x. Some x) (exact at.value c at.passes) }

  in_decisions : list_any (λ d. same d c) (values a.decisions) ≡ true → Stands (standing a) c
  in_decisions h =
      let at = in_slots (λ d. same d c) a.decisions h in
      record { place = Decided at.slot; there = get-entries a.decisions at.slot ∙ at.got ∙ ap (λ x. Some x) (exact at.value c at.passes) }

  pub known_stands : is_known same (book_of a) c ≡ true → Stands (standing a) c
  known_stands h =
      ⊎_elim in_requests
      (λ (t : (list_any (λ d. same d c) (values a.proposals) || list_any (λ d. same d c) (values a.decisions)) ≡ true).
      ⊎_elim in_proposals in_decisions
      (or_cases (list_any (λ d. same d c) (values a.proposals)) (list_any (λ d. same d c) (values a.decisions)) t))
      (or_cases (list_any (λ d. same d c) a.requests.items)
      (list_any (λ d. same d c) (values a.proposals) || list_any (λ d. same d c) (values a.decisions)) h)
