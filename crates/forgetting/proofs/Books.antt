-- The rest of a replica's book.
use Rattle.std.proofs.Common.{◌≡◌, ◌<◌, ◌≤◌, ◌+◌, ◌^◌, ◌⊎◌, ⊎_elim, ℕ, max, Bool, true, false, cond, not, List, [], ◌∷◌}
use Rattle.std.proofs.Common.{◌++◌, map, filter, Some, None, Option, refl, sym, ap, ap₂, ◌∙◌, subst, arith, true≢false}
use Rattle.std.specs.Prelude.{nat_lt, nat_le, ◌&&◌, ◌||◌, ◌==◌, is_some, IsSome}
use Rattle.std.specs.FinMap.{get, entries, values}
use Rattle.std.specs.List.{list_any}
use Rattle.std.proofs.lemmas.Bool.Decides.{nat_tests}
use Rattle.object.specs.ListLaws.{Each, Each-all, Each-weaker}
use Rattle.ballot.specs.Letters.{letter}
use Rattle.ballot.specs.Members.{numbers}
use Rattle.ballot.specs.declared.letter.LetterBody.TheVariants.{Propose, Decision, Ask}
use Rattle.slot_log.specs.Books.{SlotBook, window}
use Rattle.slot_log.specs.Proposals.{open_slot, first_for, next_proposal, proposed, proposed_next, IsLeastOpen}
use Rattle.slot_log.specs.Decisions.{learnt, decided_from, next_decided}
use Rattle.slot_log.specs.Advances.{advanced, lost}
use Rattle.slot_log.specs.Requests.{is_known, requested}
use Rattle.slot_log.proofs.OpenSlots.{open_at, open_is}
use Rattle.replica.specs.Replicas.{tells, proposes_again, asks_others}
use Rattle.node.specs.SlotLaws.{entries_get}
use Rattle.ballot.specs.Rests.{kept_from, rests}
use Rattle.slot_log.specs.Rests.{rest_of_book, is_forgotten, IsPast}
use Rattle.ballot.proofs.Rests.{lt_true, get_high, above_insert, entries_above}
use Rattle.forgetting.proofs.Letters.{bodies, said_each, some_to}

low_or_high : (t base : ℕ) → (t < base) ⊎ (base ≤ t)
low_or_high t base = grind (arith, nat_tests)

-- two filters in either order
swap_step : {X : Type 0} (p q : X → Bool) (x : X) (xs : List X) → filter p (filter q xs) ≡ filter q (filter p xs)
    → (a b : Bool) → p x ≡ a → q x ≡ b
    → filter p (cond b (x ∷ filter q xs) (filter q xs)) ≡ filter q (cond a (x ∷ filter p xs) (filter p xs))
swap_step p q x xs h true true e f =
    ap (λ c. cond c (x ∷ filter p (filter q xs)) (filter p (filter q xs))) e ∙ ap (λ ys. x ∷ ys) h ∙ sym
    (ap (λ c. cond c (x ∷ filter q (filter p xs)) (filter q (filter p xs))) f)
swap_step p q x xs h true false e f = h ∙ sym (ap (λ c. cond c (x ∷ filter q (filter p xs)) (filter q (filter p xs))) f)
swap_step p q x xs h false true e f = ap (λ c. cond c (x ∷ filter p (filter q xs)) (filter p (filter q xs))) e ∙ h
swap_step p q x xs h false false e f = h

filter_swap : {X : Type 0} (p q : X → Bool) (xs : List X) → filter p (filter q xs) ≡ filter q (filter p xs)
filter_swap p q [] = refl
filter_swap p q (x ∷ xs) = swap_step p q x xs (filter_swap p q xs) (p x) (q x) refl refl

-- a filter that all pass
filter_whole : {X : Type 0} (p : X → Bool) (xs : List X) → Each (λ x. p x ≡ true) xs → filter p xs ≡ xs
filter_whole p [] h = refl
filter_whole p (x ∷ xs) h = ap (λ c. cond c (x ∷ filter p xs) (filter p xs)) h.0 ∙ ap (λ ys. x ∷ ys) (filter_whole p xs h.1)

-- what one of a list passes, one of its two parts passes
any_step : {X : Type 0} (f : X → Bool) (x : X) (xs ys : List X) (c : Bool)
    → f x || (list_any f xs || list_any f ys) ≡ list_any f (cond c (x ∷ xs) xs) || list_any f (cond (not c) (x ∷ ys) ys)
any_step f x xs ys true = elim (f x) as (λ a. a || (list_any f xs || list_any f ys) ≡ (a || list_any f xs) || list_any f ys) [ true ↦ refl | false ↦ refl ]
any_step f x xs ys false = elim (f x) as (λ a. a || (list_any f xs || list_any f ys) ≡ list_any f xs || (a || list_any f ys)) [
  | true ↦ elim (list_any f xs) as (λ b. true ≡ b || true) [ true ↦ refl | false ↦ refl ]
  | false ↦ refl
]

mapped : {X : Type 0} (e : ℕ × X) (c : Bool) (xs : List (ℕ × X)) → cond c (e.1 ∷ map (λ e. e.1) xs) (map (λ e. e.1) xs) ≡ map (λ e. e.1) (cond c (e ∷ xs) xs)
mapped e true xs = refl
mapped e false xs = refl

any_parts : {X : Type 0} (f : X → Bool) (p : ℕ → Bool) (es : List (ℕ × X))
    → list_any f (map (λ e. e.1) es)
    ≡ list_any f (map (λ e. e.1) (filter (λ e. p e.0) es)) || list_any f (map (λ e. e.1) (filter (λ e. not (p e.0)) es))
any_parts f p [] = refl
any_parts f p (e ∷ es) =
    ap (λ b. f e.1 || b) (any_parts f p es)
    ∙ any_step f e.1 (map (λ e. e.1) (filter (λ e. p e.0) es)) (map (λ e. e.1) (filter (λ e. not (p e.0)) es)) (p e.0)
    ∙ ap₂ (λ xs ys. list_any f xs || list_any f ys) (mapped e (p e.0) (filter (λ e. p e.0) es)) (mapped e (not (p e.0)) (filter (λ e. not (p e.0)) es))

or_known : {A : Type 0} (a b c forgotten : Bool) (x y z : A) → x ≡ z → cond (a || (b || (c || forgotten))) x y ≡ cond forgotten z (cond (a || (b || c)) x y)
or_known true b c true x y z h = h
or_known true b c false x y z h = refl
or_known false true c true x y z h = h
or_known false true c false x y z h = refl
or_known false false true true x y z h = h
or_known false false true false x y z h = refl
or_known false false false true x y z h = h
or_known false false false false x y z h = refl

module _ {C : Type 0} (base : ℕ) (book : SlotBook C) where
  pub rest_learnt : (s : ℕ) (c : C) → base ≤ s → rest_of_book base (learnt book s c) ≡ learnt (rest_of_book base book) s c
  rest_learnt s c h = ap (λ m. record (rest_of_book base book) { decisions = m }) (above_insert base book.decisions s c h)

  -- what is performed next
  pub rest_next : base ≤ book.slot_out → next_decided (rest_of_book base book) ≡ next_decided book
  rest_next h = get_high base book.decisions book.slot_out h

  pub rest_advanced : (same : C → C → Bool) → base ≤ book.slot_out → rest_of_book base (advanced same book) ≡ advanced same (rest_of_book base book)
  rest_advanced same h = ap (λ o.
      record (rest_of_book base (advanced same book)) {
        requests =
            book.requests ++ lost same (get book.proposals book.slot_out) o;
      }) (sym (rest_next h))

  -- the next open slot
  higher_open : IsPast base book → (s : ℕ) → IsLeastOpen (rest_of_book base book) s → IsLeastOpen book s
  higher_open past s is =
      let n = is.next in
      record {
        next = omega arith;
        unknown = sym (get_high base book.decisions s (omega arith)) ∙ is.unknown;
        least = λ t low high. ⊎_elim
            (λ (l : t < base). past.known t (let z = past.start in omega arith) (let o = past.out in omega arith))
            (λ (u : base ≤ t). subst IsSome (get_high base book.decisions t u) (is.least t (omega arith) high))
            (low_or_high t base);
        within = is.within;
        numbered = is.numbered;
      }

  lower_open : IsPast base book → (s : ℕ) → IsLeastOpen book s → base ≤ s → IsLeastOpen (rest_of_book base book) s
  lower_open past s is h =
      let n = is.next in
      record {
        next = omega arith;
        unknown = get_high base book.decisions s h ∙ is.unknown;
        least = λ t low high. subst IsSome (sym (get_high base book.decisions t (omega arith))) (is.least t (omega arith) high);
        within = is.within;
        numbered = is.numbered;
      }

  some_none : {P : Type 0} (s : ℕ) → get book.decisions s ≡ None → IsSome (get book.decisions s) → P
  some_none s e h = absurd (true≢false (sym h ∙ ap is_some e))

  open_above : IsPast base book → (s : ℕ) → IsLeastOpen book s → base ≤ s
  open_above past s is = ⊎_elim
      (λ (l : s < base). some_none s is.unknown (past.known s (let n = is.next in let z = past.start in omega arith) (let o = past.out in omega arith)))
      (λ (u : base ≤ s). u)
      (low_or_high s base)

  same_open : IsPast base book → (o r : Option ℕ) → open_slot book ≡ o → open_slot (rest_of_book base book) ≡ r → r ≡ o
  same_open past None None e f = refl
  same_open past o (Some s) e f = sym (open_at book s (higher_open past s (open_is (rest_of_book base book) s f))) ∙ e
  same_open past (Some s) None e f = let is = open_is book s e in sym f ∙ open_at (rest_of_book base book) s (lower_open past s is (open_above past s is))

  pub rest_open : IsPast base book → open_slot (rest_of_book base book) ≡ open_slot book
  rest_open past = same_open past (open_slot book) (open_slot (rest_of_book base book)) refl refl

  pub rest_proposal : IsPast base book → next_proposal (rest_of_book base book) ≡ next_proposal book
  rest_proposal past = ap (first_for book.requests) (rest_open past)

  past_first : (cs : List C) (o : Option ℕ) (p : ℕ × C) → first_for cs o ≡ Some p → o ≡ Some p.0
  past_first [] o p e = cc
  past_first (c ∷ cs) None p e = cc
  past_first (c ∷ cs) (Some s) p e = cc

  rest_proposed : (o : Option (ℕ × C)) → ((p : ℕ × C) → o ≡ Some p → base ≤ p.0) → rest_of_book base (proposed book o) ≡ proposed (rest_of_book base book) o
  rest_proposed None h = refl
  rest_proposed (Some p) h = let high = h p refl in let e : max (p.0 + 1) base ≡ p.0 + 1 =
      omega arith in ap (λ n. record (proposed (rest_of_book base book) (Some p)) { slot_in = n }) e

  pub proposal_high : IsPast base book → (p : ℕ × C) → next_proposal book ≡ Some p → base ≤ p.0
  proposal_high past p e = open_above past p.0 (open_is book p.0 (past_first book.requests (open_slot book) p e))

  pub rest_proposed_next : IsPast base book → rest_of_book base (proposed_next book) ≡ proposed_next (rest_of_book base book)
  rest_proposed_next past =
      rest_proposed (next_proposal book) (proposal_high past)
      ∙ ap (proposed (rest_of_book base book)) (sym (rest_proposal past))

  -- a request
  known_parts : (same : C → C → Bool) (c : C)
      → list_any (λ d. same d c) (values book.decisions)
      ≡ list_any (λ d. same d c) (values (kept_from base book.decisions)) || is_forgotten same base book c
  known_parts same c =
      any_parts (λ d. same d c) (λ s. nat_le base s) (entries book.decisions)
      ∙ ap (λ es. list_any (λ d. same d c) (map (λ (e : ℕ × C). e.1) es) || is_forgotten same base book c) (sym (entries_above base book.decisions))

  under_rest : (b : Bool) (x y : SlotBook C) → rest_of_book base (cond b x y) ≡ cond b (rest_of_book base x) (rest_of_book base y)
  under_rest true x y = refl
  under_rest false x y = refl

  pub rest_requested : (same : C → C → Bool) (c : C)
      → rest_of_book base (requested same book c)
      ≡ cond (is_forgotten same base book c) (rest_of_book base book) (requested same (rest_of_book base book) c)
  rest_requested same c =
      under_rest (is_known same book c) book (record book { requests = book.requests ++ (c ∷ []) })
      ∙ ap (λ b. cond (list_any (λ d. same d c) book.requests ||
      (list_any (λ d. same d c) (values book.proposals) || b)) (rest_of_book base book)
      (rest_of_book base (record book { requests = book.requests ++ (c ∷ []) }))) (known_parts same c)
      ∙ or_known (list_any (λ d. same d c) book.requests) (list_any (λ d. same d c) (values book.proposals))
      (list_any (λ d. same d c) (values (kept_from base book.decisions))) (is_forgotten same base book c)
      (rest_of_book base book) _ (rest_of_book base book) refl

  -- what it tells
  pub rest_tells : (s : ℕ) → bodies base (tells book s) ≡ tells (rest_of_book base book) s
  rest_tells s =
      said_each base (λ e. Decision e.0 e.1) (decided_from book s) (Each-all _ _ (λ e. refl))
      ∙ ap (map (λ (e : ℕ × C). Decision e.0 e.1))
      (filter_swap (λ e. nat_le base e.0) (λ e. nat_le s e.0 && nat_lt e.0 (s + window)) (entries book.decisions)
      ∙ ap (filter (λ e. nat_le s e.0 && nat_lt e.0 (s + window))) (sym (entries_above base book.decisions)))

  -- and what it sends again
  proposals_high : IsPast base book → Each (λ e. nat_le base e.0 ≡ true) (entries book.proposals)
  proposals_high past = Each-weaker _ _
      (λ e f. let n = past.near e.0 (subst IsSome (sym f) refl) in let o = past.out in lt_true base e.0 (omega arith))
      (entries book.proposals) (entries_get book.proposals)

  pub rest_proposes_again : IsPast base book → bodies base (proposes_again book) ≡ proposes_again book
  rest_proposes_again past =
      said_each base (λ e. Propose e.0 e.1) (entries book.proposals) (Each-all _ _ (λ e. refl))
      ∙ ap (map (λ (e : ℕ × C). Propose e.0 e.1)) (filter_whole (λ e. nat_le base e.0) (entries book.proposals) (proposals_high past))

  asked_if : (b : Bool) (n s : ℕ) (ms : List ℕ) → rests {C = C} base (cond b (map (letter n (Ask s)) ms) []) ≡ cond b (map (letter n (Ask s)) ms) []
  asked_if true n s ms = some_to base (letter n (Ask s)) (letter n (Ask s)) (λ m. refl) ms
  asked_if false n s ms = refl

  pub rest_asks : (members : List ℕ) (n s : ℕ) → rests {C = C} base (asks_others members n s) ≡ asks_others members n s
  rest_asks members n s = asked_if (nat_le s (2 ^ 62)) n s (filter (λ m. not (m == n)) (numbers members))
