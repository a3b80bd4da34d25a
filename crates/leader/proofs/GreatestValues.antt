-- The greatest ballots and their values, one pvalue after another.
use Rattle.std.proofs.Common.{◌≡◌, ◌≢◌, ◌⊎◌, inl, inr, ⊎_elim, ℕ, Bool, true, false, not, cond, ◌&&◌, List, [], ◌∷◌}
use Rattle.std.proofs.Common.{◌++◌, ◌+◌, ◌<◌, map, length, take, get_or, Option, None, Some, refl, sym, ap, subst, ◌∙◌}
use Rattle.std.proofs.Common.{append_assoc, arith}
use Rattle.std.proofs.lemmas.List.{append-nil, take_more}
use Rattle.std.specs.Ordering.{nat_cmp, eq_by_cmp, partial_lt}
use Rattle.std.specs.declared.cmp.Ordering.{Ordering}
use Rattle.std.specs.Option.{option_eq, option_partial_cmp, option_or, is_some}
use Rattle.std.specs.Cmp.{nat_cmp_total}
use Rattle.std.specs.FinMap.{empty, get, contains_key, insert, find, get-empty, get-insert}
use Rattle.std.proofs.lemmas.Bool.Decides.{nat_tests}
use Rattle.std.proofs.lemmas.Bool.{cases_eq}
use Rattle.object.specs.Lists.{In}
use Rattle.ballot.specs.Ballots.{Numbers, is_same, is_below, is_promise, is_promise_below}
use Rattle.ballot.specs.Slots.{Slots}
use Rattle.ballot.specs.declared.pvalue.Pvalue.{Pvalue}
use Rattle.scout_commander.proofs.Members.{in_cases, in_left, in_right, only_one}
use Rattle.leader.proofs.Outcomes.{none_there}
use Rattle.leader.specs.Adoptions.{IsGreatest, IsOpen, TakesGreatest}
use Rattle.leader.specs.Greatest.{raised, all_raised, value_taken, all_taken}

not_below_itself : (a : Numbers) → is_below a a ≡ false
not_below_itself a = grind (arith, nat_tests)

through : (a b c : Numbers) → is_below a b ≡ true → is_below b c ≡ true → is_below a c ≡ true
through a b c h k = grind (arith, nat_tests)

false_or_true : (b : Bool) → (b ≡ false) ⊎ (b ≡ true)
false_or_true true = inr refl
false_or_true false = inl refl

-- what is below a greater one is not above it
not_below_greater : (r p q : Numbers) → is_below r p ≡ true → is_below r q ≡ false → is_below p q ≡ false
not_below_greater r p q h k = ⊎_elim (λ (e : is_below p q ≡ false). e)
    (λ (e : is_below p q ≡ true). let t = through r p q h e in absurd (cc)) (false_or_true (is_below p q))

key_here : (k s : ℕ) → s ≡ k → eq_by_cmp nat_cmp s k ≡ true
key_here k s e = grind (arith, nat_tests)

key_apart : (k s : ℕ) → s ≢ k → eq_by_cmp nat_cmp s k ≡ false
key_apart k s n = grind (arith, nat_tests)

get_here : {X : Type 0} (m : Slots X) (k : ℕ) (v : X) (s : ℕ) → s ≡ k → get (insert m k v) s ≡ Some v
get_here m k v s e = get-insert nat_cmp_total m k v s ∙ ap (λ b. cond b (Some v) (get m s)) (key_here k s e)

get_there : {X : Type 0} (m : Slots X) (k : ℕ) (v : X) (s : ℕ) → s ≢ k → get (insert m k v) s ≡ get m s
get_there m k v s n = get-insert nat_cmp_total m k v s ∙ ap (λ b. cond b (Some v) (get m s)) (key_apart k s n)

-- None comes first in the order of options too
pub option_below : (cmp : Numbers → Numbers → Option Ordering) → ((a b : Numbers) → partial_lt cmp a b ≡ is_below a b)
    → (o : Option Numbers) (b : Numbers) → partial_lt (option_partial_cmp cmp) o (Some b) ≡ is_promise_below o (Some b)
option_below cmp same None b = refl
option_below cmp same (Some a) b = same a b

-- slot s, once these were heard: its greatest ballot is noted
abbrev Noted : {C : Type 0} → List (Pvalue C) → Slots Numbers → ℕ → Type 0
Noted {C} heard greatest s =
    (IsOpen heard s × (get greatest s ≡ None))
    ⊎ ((p : Pvalue C) × IsGreatest heard s p × (get greatest s ≡ Some p.ballot))

-- and the value of the first pvalue of the noted ballot is taken
abbrev Taken : {C : Type 0} → Slots Numbers → List (Pvalue C) → Slots C → ℕ → Type 0
Taken {C} greatest heard taken s =
    ((get taken s ≡ None) × ((q : Pvalue C) → In q heard → q.slot ≡ s → is_promise (get greatest s) q.ballot ≡ false))
    ⊎ ((q : Pvalue C) × In q heard × (q.slot ≡ s) × (is_promise (get greatest s) q.ballot ≡ true) × (get taken s ≡ Some q.value))

both_true : (a b : Bool) → (a && not b) ≡ true → (a ≡ true) × (b ≡ false)
both_true true true h = cc
both_true true false h = (refl, refl)
both_true false b h = cc

module _ {C : Type 0} (heard : List (Pvalue C)) (p : Pvalue C) (s : ℕ) where
  is_last : (q : Pvalue C) → In q (p ∷ []) → q.slot ≡ s → p.slot ≡ s
  is_last q i h = ap (λ (r : Pvalue C). r.slot) (sym (only_one q p i)) ∙ h

  -- at another slot nothing changes
  at_other : (greatest greatest' : Slots Numbers) → (p.slot ≡ s → ⊥) → get greatest' s ≡ get greatest s
      → Noted heard greatest s → Noted (heard ++ p ∷ []) greatest' s
  at_other greatest greatest' apart b n =
      elim n as (λ o. Noted (heard ++ p ∷ []) greatest' s) [
        | inl x ↦ inl (λ q i h. ⊎_elim (λ (j : In q heard). x.0 q j h) (λ (j : In q (p ∷ [])). apart (is_last q j h)) (in_cases q heard (p ∷ []) i), b ∙ x.1)
        | inr x ↦ inr (
          x.0,
          record {
            within = in_left x.0 heard (p ∷ []) x.1.within;
            slot = x.1.slot;
            greatest = λ q i h. ⊎_elim (λ (j : In q heard). x.1.greatest q j h)
                (λ (j : In q (p ∷ [])). absurd (apart (is_last q j h))) (in_cases q heard (p ∷ []) i);
          },
          b ∙ x.2,
        )
      ]

  -- a pvalue that is not greater changes nothing
  at_lower : (greatest : Slots Numbers) → p.slot ≡ s → is_promise_below (get greatest s) (Some p.ballot) ≡ false
      → Noted heard greatest s → Noted (heard ++ p ∷ []) greatest s
  at_lower greatest here low n =
      elim n as (λ o. Noted (heard ++ p ∷ []) greatest s) [
        | inl x ↦ let no : true ≡ false = sym (ap (λ o. is_promise_below o (Some p.ballot)) x.1) ∙ low in absurd (cc)
        | inr x ↦
            let below : is_below x.0.ballot p.ballot ≡ false = sym (ap (λ o. is_promise_below o (Some p.ballot)) x.2) ∙ low in
            inr (
              x.0,
              record {
                within = in_left x.0 heard (p ∷ []) x.1.within;
                slot = x.1.slot;
                greatest = λ q i h. ⊎_elim (λ (j : In q heard). x.1.greatest q j h)
                    (λ (j : In q (p ∷ [])). ap (λ (r : Pvalue C). is_below x.0.ballot r.ballot)
                    (only_one q p j) ∙ below) (in_cases q heard (p ∷ []) i);
              },
              x.2,
            )
      ]

  -- a greater one is noted
  at_greater : (greatest greatest' : Slots Numbers) → p.slot ≡ s → get greatest' s ≡ Some p.ballot
      → is_promise_below (get greatest s) (Some p.ballot) ≡ true → Noted heard greatest s
      → Noted (heard ++ p ∷ []) greatest' s
  at_greater greatest greatest' here b high n = inr (
    p,
    record {
      within = in_right p heard (p ∷ []) (inl refl);
      slot = here;
      greatest = λ q i h.
          ⊎_elim
          (λ (j : In q heard).
          elim n as (λ o. is_below p.ballot q.ballot ≡ false) [
            | inl x ↦ absurd (x.0 q j h)
            | inr x ↦
                let below : is_below x.0.ballot p.ballot ≡ true = sym (ap (λ o. is_promise_below o (Some p.ballot)) x.2) ∙ high in
                not_below_greater x.0.ballot p.ballot q.ballot below (x.1.greatest q j h)
          ])
          (λ (j : In q (p ∷ [])). ap (λ (r : Pvalue C). is_below p.ballot r.ballot) (only_one q p j) ∙ not_below_itself p.ballot) (in_cases q heard (p ∷ []) i);
    },
    b,
  )

  noted_next : (greatest : Slots Numbers) → Noted heard greatest s → Noted (heard ++ p ∷ []) (raised greatest p) s
  noted_next greatest n = go (is_promise_below (get greatest p.slot) (Some p.ballot)) refl
    where
      go : (test : Bool) → is_promise_below (get greatest p.slot) (Some p.ballot) ≡ test
          → Noted (heard ++ p ∷ []) (cond test (insert greatest p.slot p.ballot) greatest) s
      go true high =
          ⊎_elim
          (λ (e : p.slot ≡ s).
          at_greater greatest (insert greatest p.slot p.ballot) e (get_here greatest p.slot p.ballot s (sym e))
          (subst (λ k. is_promise_below (get greatest k) (Some p.ballot) ≡ true) e high) n)
          (λ (apart : p.slot ≢ s).
          at_other greatest (insert greatest p.slot p.ballot) apart (get_there greatest p.slot p.ballot s (λ e. apart (sym e))) n) (cases_eq p.slot s)
      go false low =
          ⊎_elim
          (λ (e : p.slot ≡ s). at_lower greatest e (subst (λ k. is_promise_below (get greatest k) (Some p.ballot) ≡ false) e low) n)
          (λ (apart : p.slot ≢ s). at_other greatest greatest apart refl n) (cases_eq p.slot s)

  -- what is taken stays, where the pvalue is not one to be taken
  stays : (greatest : Slots Numbers) (taken taken' : Slots C) → get taken' s ≡ get taken s
      → (p.slot ≡ s → is_promise (get greatest s) p.ballot ≡ true → get taken s ≡ None → ⊥)
      → Taken greatest heard taken s → Taken greatest (heard ++ p ∷ []) taken' s
  stays greatest taken taken' same never t =
      elim t as (λ o. Taken greatest (heard ++ p ∷ []) taken' s) [
        | inl x ↦ inl (
          same ∙ x.0,
          λ q i h.
              ⊎_elim (λ (j : In q heard). x.1 q j h)
              (λ (j : In q (p ∷ [])).
              ⊎_elim (λ (n : is_promise (get greatest s) q.ballot ≡ false). n)
              (λ (y : is_promise (get greatest s) q.ballot ≡ true).
              absurd (never (is_last q j h) (ap (λ (r : Pvalue C). is_promise (get greatest s) r.ballot) (sym (only_one q p j)) ∙ y) x.0))
              (false_or_true (is_promise (get greatest s) q.ballot)))
              (in_cases q heard (p ∷ []) i),
        )
        | inr x ↦ inr (x.0, in_left x.0 heard (p ∷ []) x.1, x.2, x.3, same ∙ x.4)
      ]

  taken_next : (greatest : Slots Numbers) (taken : Slots C) → Taken greatest heard taken s → Taken greatest (heard ++ p ∷ []) (value_taken greatest taken p) s
  taken_next greatest taken t = go (is_promise (get greatest p.slot) p.ballot && not (contains_key taken p.slot)) refl
    where
      go : (test : Bool) → (is_promise (get greatest p.slot) p.ballot && not (contains_key taken p.slot)) ≡ test
          → Taken greatest (heard ++ p ∷ []) (cond test (insert taken p.slot p.value) taken) s
      go true h =
          ⊎_elim
          (λ (e : p.slot ≡ s). inr (
            p,
            in_right p heard (p ∷ []) (inl refl),
            e,
            subst (λ k. is_promise (get greatest k) p.ballot ≡ true) e (both_true (is_promise (get greatest p.slot) p.ballot) (contains_key taken p.slot) h).0,
            get_here taken p.slot p.value s (sym e),
          ))
          (λ (apart : p.slot ≢ s).
          stays greatest taken (insert taken p.slot p.value) (get_there taken p.slot p.value s (λ e. apart (sym e)))
          (λ e y none. apart e) t) (cases_eq p.slot s)
      go false h =
          stays greatest taken taken refl
          (λ e y none.
          let promised : is_promise (get greatest p.slot) p.ballot ≡ true = subst (λ k. is_promise (get greatest k) p.ballot ≡ true) (sym e) y in
          let free : contains_key taken p.slot ≡ false = ap is_some (ap (λ k. get taken k) e ∙ none) in
          let both : (is_promise (get greatest p.slot) p.ballot && not (contains_key taken p.slot)) ≡ true =
          ap (λ b. b && not (contains_key taken p.slot)) promised ∙ ap not free in
          let no : true ≡ false = sym both ∙ h in absurd (cc)) t

all_noted_next : {C : Type 0} (heard ps : List (Pvalue C)) (greatest : Slots Numbers) (s : ℕ) → Noted heard greatest s
    → Noted (heard ++ ps) (all_raised greatest ps) s
all_noted_next heard [] greatest s n = subst (λ qs. Noted qs greatest s) (sym (append-nil heard)) n
all_noted_next heard (p ∷ ps) greatest s n =
    subst (λ qs. Noted qs (all_raised (raised greatest p) ps) s) (append_assoc heard (p ∷ []) ps)
    (all_noted_next (heard ++ p ∷ []) ps (raised greatest p) s (noted_next heard p s greatest n))

all_taken_next : {C : Type 0} (greatest : Slots Numbers) (heard ps : List (Pvalue C)) (taken : Slots C) (s : ℕ)
    → Taken greatest heard taken s → Taken greatest (heard ++ ps) (all_taken greatest taken ps) s
all_taken_next greatest heard [] taken s t = subst (λ qs. Taken greatest qs taken s) (sym (append-nil heard)) t
all_taken_next greatest heard (p ∷ ps) taken s t =
    subst (λ qs. Taken greatest qs (all_taken greatest (value_taken greatest taken p) ps) s) (append_assoc heard (p ∷ []) ps)
    (all_taken_next greatest (heard ++ p ∷ []) ps (value_taken greatest taken p) s (taken_next heard p s greatest taken t))

pub all_raised-append : {C : Type 0} (greatest : Slots Numbers) (ps qs : List (Pvalue C))
    → all_raised greatest (ps ++ qs) ≡ all_raised (all_raised greatest ps) qs
all_raised-append greatest [] qs = refl
all_raised-append greatest (p ∷ ps) qs = all_raised-append (raised greatest p) ps qs

pub all_taken-append : {C : Type 0} (greatest : Slots Numbers) (taken : Slots C) (ps qs : List (Pvalue C))
    → all_taken greatest taken (ps ++ qs) ≡ all_taken greatest (all_taken greatest taken ps) qs
all_taken-append greatest taken [] qs = refl
all_taken-append greatest taken (p ∷ ps) qs = all_taken-append greatest (value_taken greatest taken p) ps qs

same_ballots : (a b : Numbers) → is_same a b ≡ true → a ≡ b
same_ballots a b h = grind (arith, nat_tests)

same_as_itself : (b : Numbers) → is_same b b ≡ true
same_as_itself b = grind (arith, nat_tests)

-- the greatest are taken, and where there is none the old ones
pub takes : {C : Type 0} (old new : Slots C) (ps : List (Pvalue C))
    → ((s : ℕ) → get new s ≡ option_or (get (all_taken (all_raised empty ps) empty ps) s) (get old s))
    → TakesGreatest old ps new
takes {C} old new ps is s = go noted_so taken_so
  where
    greatest : Slots Numbers
    greatest = all_raised empty ps

    taken : Slots C
    taken = all_taken (all_raised empty ps) empty ps

    noted_so : Noted ps (all_raised empty ps) s
    noted_so = all_noted_next [] ps empty s (inl (λ q i h. i, get-empty nat_cmp s))

    taken_so : Taken (all_raised empty ps) ps (all_taken (all_raised empty ps) empty ps) s
    taken_so = all_taken_next (all_raised empty ps) [] ps empty s (inl (get-empty nat_cmp s, λ q i h. absurd i))

    go : Noted ps (all_raised empty ps) s → Taken (all_raised empty ps) ps (all_taken (all_raised empty ps) empty ps) s
        → (IsOpen ps s × (get new s ≡ get old s)) ⊎ ((p : Pvalue C) × IsGreatest ps s p × (get new s ≡ Some p.value))
    go (inl x) (inl y) = inl (x.0, is s ∙ ap (λ o. option_or o (get old s)) y.0)
    go (inl x) (inr y) = absurd (x.0 y.0 y.1 y.2)
    go (inr x) (inl y) =
        let no : true ≡ false = sym (ap (λ o. is_promise o x.0.ballot) x.2 ∙ same_as_itself x.0.ballot) ∙ y.1 x.0 x.1.within x.1.slot in absurd (cc)
    go (inr x) (inr y) =
        let one : x.0.ballot ≡ y.0.ballot = same_ballots x.0.ballot y.0.ballot (sym (ap (λ o. is_promise o y.0.ballot) x.2) ∙ y.3) in
        inr (
          y.0,
          record { within = y.1; slot = y.2; greatest = λ q i h. subst (λ b. is_below b q.ballot ≡ false) one (x.1.greatest q i h) },
          is s ∙ ap (λ o. option_or o (get old s)) y.4,
        )

-- what was found in a slot is the promise or not
pub promise_test : (o : Option Numbers) (b : Numbers) → option_eq is_same o (Some b) ≡ is_promise o b
promise_test None b = refl
promise_test (Some a) b = refl

module _ {C : Type 0} (ps : List (Pvalue C)) (i : ℕ) (p : Pvalue C) (item : p ≡ get_or ps i p) (within : i < length ps) where
  next : take (i + 1) ps ≡ take i ps ++ p ∷ []
  next = take_more ps i p within ∙ ap (λ q. take i ps ++ q ∷ []) (sym item)

  pub noted_turn : (first greatest new : Slots Numbers) → greatest ≡ all_raised first (take i ps)
      → new ≡ raised greatest p → new ≡ all_raised first (take (i + 1) ps)
  noted_turn first greatest new so is =
      is ∙ ap (λ m. raised m p) so ∙ sym (all_raised-append first (take i ps) (p ∷ [])) ∙
      ap (λ qs. all_raised first qs) (sym next)

  pub taken_turn : (greatest : Slots Numbers) (first taken new : Slots C) → taken ≡ all_taken greatest first (take i ps)
      → new ≡ value_taken greatest taken p → new ≡ all_taken greatest first (take (i + 1) ps)
  taken_turn greatest first taken new so is =
      is ∙ ap (λ m. value_taken greatest m p) so ∙ sym (all_taken-append greatest first (take i ps) (p ∷ [])) ∙
      ap (λ qs. all_taken greatest first qs) (sym next)

or_more : {X : Type 0} (a b c : Option X) → option_or (option_or a b) c ≡ option_or a (option_or b c)
or_more None b c = refl
or_more (Some x) b c = refl

or_none : {X : Type 0} (a : Option X) → option_or a None ≡ a
or_none None = refl
or_none (Some x) = refl

some_first : {X : Type 0} (a b : Option X) → is_some a ≡ true → a ≡ option_or a b
some_first None b h = cc
some_first (Some x) b h = refl

shown_more : {A X : Type 0} (shows : A → X) (xs : List A) (x : A) → map shows (xs ++ x ∷ []) ≡ map shows xs ++ shows x ∷ []
shown_more shows [] x = refl
shown_more shows (y ∷ xs) x = ap (λ es. shows y ∷ es) (shown_more shows xs x)

-- what is found among entries and one more
find_more : {X : Type 0} (s : ℕ) (es : List (ℕ × X)) (e : ℕ × X)
    → find nat_cmp s (es ++ e ∷ []) ≡ option_or (find nat_cmp s es) (cond (eq_by_cmp nat_cmp s e.0) (Some e.1) None)
find_more s [] e = refl
find_more {X} s (x ∷ xs) e = go (eq_by_cmp nat_cmp s x.0) (find_more s xs e)
  where
    go : (b : Bool) → find nat_cmp s (xs ++ e ∷ [])
        ≡ option_or (find nat_cmp s xs) (cond (eq_by_cmp nat_cmp s e.0) (Some e.1) None)
        → cond b (Some x.1) (find nat_cmp s (xs ++ e ∷ []))
        ≡ option_or (cond b (Some x.1) (find nat_cmp s xs)) (cond (eq_by_cmp nat_cmp s e.0) (Some e.1) None)
    go true h = refl
    go false h = h

module _ {A X : Type 0} (shows : A → ℕ × X) (xs : List A) (x : A) (first now : Slots X) (s : ℕ) where
  -- of the entries and one more, that which is there comes first
  shown : get now s ≡ option_or (get first s) (find nat_cmp s (map shows xs))
      → option_or (get first s) (find nat_cmp s (map shows (xs ++ x ∷ [])))
      ≡ option_or (get now s) (cond (eq_by_cmp nat_cmp s (shows x).0) (Some (shows x).1) None)
  shown so =
      ap (λ es. option_or (get first s) (find nat_cmp s es)) (shown_more shows xs x) ∙
      ap (λ o. option_or (get first s) o) (find_more s (map shows xs) (shows x)) ∙
      sym (or_more (get first s) (find nat_cmp s (map shows xs)) (cond (eq_by_cmp nat_cmp s (shows x).0) (Some (shows x).1) None)) ∙
      ap (λ o. option_or o (cond (eq_by_cmp nat_cmp s (shows x).0) (Some (shows x).1) None)) (sym so)

  -- an entry of a slot without a value is put in
  pub open_taken : (new : Slots X) → contains_key now (shows x).0 ≡ false → new ≡ insert now (shows x).0 (shows x).1
      → get now s ≡ option_or (get first s) (find nat_cmp s (map shows xs))
      → get new s ≡ option_or (get first s) (find nat_cmp s (map shows (xs ++ x ∷ [])))
  open_taken new free put so = ap (λ (m : Slots X). get m s) put ∙ at ∙ sym (shown so)
    where
      at : get (insert now (shows x).0 (shows x).1) s ≡ option_or (get now s) (cond (eq_by_cmp nat_cmp s (shows x).0) (Some (shows x).1) None)
      at =
          ⊎_elim
          (λ (e : s ≡ (shows x).0).
          get_here now (shows x).0 (shows x).1 s e ∙
          ap (λ b. cond b (Some (shows x).1) None) (sym (key_here (shows x).0 s e)) ∙
          ap (λ o. option_or o (cond (eq_by_cmp nat_cmp s (shows x).0) (Some (shows x).1) None))
          (sym (ap (λ n. get now n) e ∙ none_there (get now (shows x).0) free)))
          (λ (apart : s ≢ (shows x).0).
          get_there now (shows x).0 (shows x).1 s apart ∙ sym (or_none (get now s)) ∙
          ap (λ b. option_or (get now s) (cond b (Some (shows x).1) None)) (sym (key_apart (shows x).0 s apart))) (cases_eq s (shows x).0)

  -- and that of another is not
  pub open_kept : contains_key now (shows x).0 ≡ true
      → get now s ≡ option_or (get first s) (find nat_cmp s (map shows xs))
      → get now s ≡ option_or (get first s) (find nat_cmp s (map shows (xs ++ x ∷ [])))
  open_kept there so =
      ⊎_elim
      (λ (e : s ≡ (shows x).0). some_first (get now s) (cond (eq_by_cmp nat_cmp s (shows x).0) (Some (shows x).1) None)
      (ap (λ n. contains_key now n) e ∙ there))
      (λ (apart : s ≢ (shows x).0). sym (or_none (get now s)) ∙ ap
      (λ b. option_or (get now s) (cond b (Some (shows x).1) None)) (sym (key_apart (shows x).0 s apart)))
      (cases_eq s (shows x).0) ∙
      sym (shown so)
