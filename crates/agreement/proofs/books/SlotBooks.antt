-- Each row of a replica leaves its book as books are.
use Rattle.std.proofs.Common.{◌≡◌, ◌≢◌, ◌⊎◌, inl, inr, ⊎_elim, ℕ, ◌+◌, ◌-◌, ◌<◌, ◌≤◌, Bool, true, false, cond, List, []}
use Rattle.std.proofs.Common.{◌∷◌, ◌++◌, length, Some, None, Option, refl, sym, ap, ap₂, ◌∙◌, subst, append-nil}
use Rattle.std.proofs.Common.{length-append, length-drop, arith}
use Rattle.std.specs.Prelude.{IsSome, is_some}
use Rattle.std.specs.FinMap.{get, insert, remove, len, contains_key, get-empty, get-remove, len-empty, len-insert, len-remove, empty_of_len}
use Rattle.std.specs.Ordering.{nat_cmp, eq_by_cmp}
use Rattle.std.specs.Cmp.{nat_cmp_total}
use Rattle.std.proofs.lemmas.Bool.{cases_eq, cases_lt, false≢true}
use Rattle.std.proofs.lemmas.Bool.Decides.{nat_tests}
use Rattle.ballot.specs.Slots.{Slots}
use Rattle.slot_log.specs.Advances.{lost, advanced}
use Rattle.slot_log.specs.Books.{SlotBook, new_book}
use Rattle.slot_log.specs.Decisions.{learnt, next_decided}
use Rattle.slot_log.specs.Proposals.{first_for, open_slot, next_proposal, proposed, IsLeastOpen, IsInWindow}
use Rattle.slot_log.specs.Requests.{is_known, requested}
use Rattle.node.specs.SlotLaws.{get_insert_same, get_insert_other, get_insert_cases, get_remove_cases, none_in_empty}
use Rattle.agreement.specs.SlotBooks.{pending, IsBookAfter}
use Rattle.agreement.proofs.chosen.LeaderRows.{none_not}
use Rattle.agreement.proofs.books.LeadingSlots.{is_there, still_there, others_there}
use Rattle.agreement.proofs.books.MentionsEvery.{next_open}

-- what is taken out of a map
own_test : (s : ℕ) → eq_by_cmp nat_cmp s s ≡ true
own_test s = grind (arith, nat_tests)

taken_out : {X : Type 0} (m : Slots X) (s : ℕ) → get (remove m s) s ≡ None
taken_out m s = get-remove nat_cmp_total m s s ∙ ap (λ b. cond b None (get m s)) (own_test s)

none_if : {X : Type 0} (test : Bool) (o : Option X) → o ≡ None → cond test None o ≡ None
none_if true o e = refl
none_if false o e = e

still_none : {X : Type 0} (m : Slots X) (s t : ℕ) → get m t ≡ None → get (remove m s) t ≡ None
still_none m s t e = get-remove nat_cmp_total m s t ∙ none_if (eq_by_cmp nat_cmp t s) (get m t) e

not_taken_out : {X : Type 0} (m : Slots X) (s t : ℕ) (v : X) → get (remove m s) t ≡ Some v → t ≢ s
not_taken_out m s t v e same = none_not (ap (λ y. get (remove m s) y) same ∙ taken_out m s) e

fewer : (test : Bool) (n : ℕ) → cond test (n - 1) n ≤ n
fewer true n = omega arith
fewer false n = omega arith

len_without : {X : Type 0} (m : Slots X) (s : ℕ) → len (remove m s) ≤ len m
len_without m s = let e = len-remove nat_cmp_total m s in let f = fewer (contains_key m s) (len m) in omega arith

some_len : {X : Type 0} (m : Slots X) (s : ℕ) (v : X) → get m s ≡ Some v → 0 < len m
some_len {X} m s v e = ⊎_elim
    (λ (some : 0 < len m). some)
    (λ (none : len m ≤ 0). none_in_empty s v (subst (λ (y : Slots X). get y s ≡ Some v) (empty_of_len m (omega arith)) e))
    (cases_lt 0 (len m))

len_less : {X : Type 0} (m : Slots X) (s : ℕ) (v : X) → get m s ≡ Some v → len (remove m s) + 1 ≡ len m
len_less m s v e =
    let some = some_len m s v e in
    let less : len (remove m s) ≡ len m - 1 = len-remove nat_cmp_total m s ∙ ap (λ o. cond (is_some o) (len m - 1) (len m)) e in
    omega arith

len_more : {X : Type 0} (m : Slots X) (s : ℕ) (v : X) → get m s ≡ None → len (insert m s v) ≡ len m + 1
len_more m s v e = len-insert nat_cmp_total m s v ∙ ap (λ o. cond (is_some o) (len m) (len m + 1)) e

pub new_booked : {C : Type 0} (n : ℕ) → IsBookAfter n (new_book {C = C})
new_booked {C} n = record {
  performed = record { first = omega arith; known = λ s low high. absurd (omega arith) };
  first = omega arith;
  near = λ s c e. none_in_empty s c e;
  ahead = λ s low. get-empty nat_cmp s;
  filled = λ s low high. absurd (omega arith);
  few = let e = len-empty nat_cmp C in omega arith;
}

pub more_booked : {C : Type 0} (m n : ℕ) → m ≤ n → (r : SlotBook C) → IsBookAfter m r → IsBookAfter n r
more_booked m n more r h = record {
  performed = h.performed;
  first = h.first;
  near = h.near;
  ahead = h.ahead;
  filled = h.filled;
  few = let few = h.few in omega arith;
}

pub requested_booked : {C : Type 0} (same : C → C → Bool) (r : SlotBook C) (c : C) (n : ℕ) → IsBookAfter n r → IsBookAfter (n + 1) (requested same r c)
requested_booked same r c n h = at (is_known same r c)
  where
    at : (test : Bool) → IsBookAfter (n + 1) (cond test r (record r { requests = r.requests ++ (c ∷ []) }))
    at true = more_booked n (n + 1) (omega arith) r h
    at false = record {
      performed = record { first = h.performed.first; known = h.performed.known };
      first = h.first;
      near = h.near;
      ahead = h.ahead;
      filled = h.filled;
      few = let few = h.few in let e = length-append r.requests (c ∷ []) in omega arith;
    }

pub learnt_booked : {C : Type 0} (r : SlotBook C) (s : ℕ) (c : C) (n : ℕ) → IsBookAfter n r → IsBookAfter n (learnt r s c)
learnt_booked r s c n h = record {
  performed = record { first = h.performed.first; known = λ t low high. still_there r.decisions s c t (h.performed.known t low high) };
  first = h.first;
  near = h.near;
  ahead = h.ahead;
  filled = λ t low high. ⊎_elim
      (λ (known : IsSome (get r.decisions t)). inl (still_there r.decisions s c t known))
      (λ (there : IsSome (get r.proposals t)). inr there)
      (h.filled t low high);
  few = h.few;
}

-- a request is proposed
some_requests : {C : Type 0} (requests : List C) (o : Option ℕ) (p : ℕ × C) → first_for requests o ≡ Some p → 0 < length requests
some_requests [] o p e = none_not refl e
some_requests (c ∷ more) o p e = omega arith

module _ {C : Type 0} (r : SlotBook C) (n : ℕ) (h : IsBookAfter n r) where
  module _ (s : ℕ) (c : C) (open_at : IsLeastOpen r s) where
    -- the slots before slot_out are known, and this one isn't
    in_window : IsInWindow r.slot_out s
    in_window = record {
      low = ⊎_elim
          (λ (before : s < r.slot_out). let first = h.first in let next =
          open_at.next in absurd (false≢true
          (subst IsSome open_at.unknown (h.performed.known s (omega arith) before))))
          (λ (from : r.slot_out ≤ s). from)
          (cases_lt s r.slot_out);
      high = open_at.within;
    }

    near_now : (t : ℕ) (d : C) → get (insert r.proposals s c) t ≡ Some d → IsInWindow r.slot_out t
    near_now t d e = ⊎_elim
        (λ (same : (t ≡ s) × (get (insert r.proposals s c) t ≡ Some c)). subst (IsInWindow r.slot_out) (sym same.0) in_window)
        (λ (apart : (t ≢ s) × (get (insert r.proposals s c) t ≡ get r.proposals t)). h.near t d (sym apart.1 ∙ e))
        (get_insert_cases r.proposals s c t)

    filled_now : (t : ℕ) → r.slot_out ≤ t → t < s + 1 → IsSome (get r.decisions t) ⊎ IsSome (get (insert r.proposals s c) t)
    filled_now t low high = ⊎_elim
        (λ (here : t ≡ s). inr (is_there (get (insert r.proposals s c) t) c (ap (λ y. get (insert r.proposals s c) y) here ∙ get_insert_same r.proposals s c)))
        (λ (apart : t ≢ s). ⊎_elim
        (λ (before : t < r.slot_in). ⊎_elim
        (λ (known : IsSome (get r.decisions t)). inl known)
        (λ (there : IsSome (get r.proposals t)). inr (still_there r.proposals s c t there))
        (h.filled t low before))
        (λ (from : r.slot_in ≤ t). inl (open_at.least t from (omega arith)))
        (cases_lt t r.slot_in))
        (cases_eq t s)

  proposed_booked : (o : Option (ℕ × C)) → next_proposal r ≡ o → IsBookAfter n (proposed r o)
  proposed_booked None e = h
  proposed_booked (Some p) e =
      let open_at = next_open r p.0 p.1 e in
      let next = open_at.next in
      record {
        performed = record { first = h.performed.first; known = h.performed.known };
        first = omega arith;
        near = near_now p.0 p.1 open_at;
        ahead = λ t low. get_insert_other r.proposals p.0 p.1 t (λ same. absurd (omega arith)) ∙ h.ahead t (omega arith);
        filled = filled_now p.0 p.1 open_at;
        few =
            let few = h.few in
            let some = some_requests r.requests (open_slot r) p e in
            let less = length-drop 1 r.requests in
            let more = len_more r.proposals p.0 p.1 (h.ahead p.0 next) in
            omega arith;
      }

  pub proposed_next_booked : IsBookAfter n (proposed r (next_proposal r))
  proposed_next_booked = proposed_booked (next_proposal r) refl

-- what is pending when a decision is performed: a proposal goes, and comes back as a request where it was lost
lost_few : {C : Type 0} (same : C → C → Bool) (r : SlotBook C) (o d : Option C) → get r.proposals r.slot_out ≡ o
    → length (r.requests ++ lost same o d) + len (remove r.proposals r.slot_out) ≤ pending r
lost_few same r None d e = let a = ap length (append-nil r.requests) in let l = len_without r.proposals r.slot_out in omega arith
lost_few same r (Some p) None e = let a = ap length (append-nil r.requests) in let l = len_without r.proposals r.slot_out in omega arith
lost_few same r (Some p) (Some c) e = at (same p c)
  where
    at : (test : Bool) → length (r.requests ++ cond test [] (p ∷ [])) + len (remove r.proposals r.slot_out) ≤ pending r
    at true = let a = ap length (append-nil r.requests) in let l = len_without r.proposals r.slot_out in omega arith
    at false = let a = length-append r.requests (p ∷ []) in let l = len_less r.proposals r.slot_out p e in omega arith

-- no more are pending then
pub advanced_few : {C : Type 0} (same : C → C → Bool) (r : SlotBook C) → pending (advanced same r) ≤ pending r
advanced_few same r = lost_few same r (get r.proposals r.slot_out) (next_decided r) refl

-- and one less, where the proposal is the one that was decided
pub advanced_fewer : {C : Type 0} (same : C → C → Bool) (r : SlotBook C) (p c : C) → next_decided r ≡ Some c
    → get r.proposals r.slot_out ≡ Some p → same p c ≡ true → pending (advanced same r) + 1 ≡ pending r
advanced_fewer same r p c decided there is =
    let none : lost same (get r.proposals r.slot_out) (next_decided r) ≡ [] = ap₂ (lost same) there decided ∙ ap (λ b. cond b [] (p ∷ [])) is in
    let count = ap length none in
    let all = length-append r.requests (lost same (get r.proposals r.slot_out) (next_decided r)) in
    let less = len_less r.proposals r.slot_out p there in
    omega arith

pub advanced_booked : {C : Type 0} (same : C → C → Bool) (r : SlotBook C) (c : C) (n : ℕ) → next_decided r ≡ Some c
    → IsBookAfter n r → IsBookAfter n (advanced same r)
advanced_booked same r c n decided h = record {
  performed = record {
    first = omega arith;
    known = λ t low high. ⊎_elim
        (λ (last : t ≡ r.slot_out). is_there (get r.decisions t) c (ap (λ s. get r.decisions s) last ∙ decided))
        (λ (apart : t ≢ r.slot_out). h.performed.known t low (omega arith))
        (cases_eq t r.slot_out);
  };
  first = h.first;
  near = λ t d e.
      let apart = not_taken_out r.proposals r.slot_out t d e in
      let old = h.near t d (get_remove_cases r.proposals r.slot_out t d e) in
      record { low = let low = old.low in omega arith; high = let high = old.high in omega arith };
  ahead = λ t low. still_none r.proposals r.slot_out t (h.ahead t low);
  filled = λ t low high. ⊎_elim
      (λ (known : IsSome (get r.decisions t)). inl known)
      (λ (there : IsSome (get r.proposals t)). inr (others_there r.proposals r.slot_out t (λ same. absurd (omega arith)) there))
      (h.filled t (omega arith) high);
  few = let few = h.few in let less = advanced_few same r in omega arith;
}
