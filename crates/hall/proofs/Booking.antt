-- The book and the clock, while sessions are opened and commands are handed in.
use Rattle.std.proofs.Common.{◌≡◌, ◌≢◌, inl, inr, ⊎_elim, ℕ, zero, suc, ◌+◌, ◌<◌, ◌≤◌, ◌==◌, max, Bool, true, false}
use Rattle.std.proofs.Common.{cond, ◌||◌, List, [], ◌∷◌, ◌++◌, map, length, refl, sym, ap, ap₂, ◌∙◌, subst, append-nil}
use Rattle.std.proofs.Common.{arith}
use Rattle.std.specs.Prelude.{nat_le}
use Rattle.std.specs.List.{range_with_len, fold}
use Rattle.std.proofs.lemmas.Bool.{and_parts, cases_eq, false_from_ne_true, false≢true}
use Rattle.std.proofs.lemmas.Bool.Decides.{nat_tests}
use Rattle.std.proofs.lemmas.List.{map-append, get_or-set_same, get_or-set_other, length-append}
use Rattle.std.proofs.Common.{length-set}
use Rattle.std.proofs.lemmas.List.Elements.{filter-append}
use Rattle.std.proofs.lemmas.List.FromFn.{map-range_with_len_more}
use Rattle.std.proofs.lemmas.List.Sums.{fold-append}
use Rattle.object.specs.Commands.{IsCommand}
use Rattle.object.specs.declared.command.Key.{Key}
use Rattle.object.specs.declared.command.Submission.{Submission}
use Rattle.object.specs.Happenings.{is_submitted, submitted_key}
use Rattle.object.specs.Keys.{same_key, stands}
use Rattle.object.specs.KeyLaws.{same_is}
use Rattle.object.specs.Lists.{In}
use Rattle.object.specs.ListLaws.{In-cases, In-map}
use Rattle.hall.specs.Books.{submissions_of, numbers_of, last_second, is_opened, last_number, with_number, IsNextKey, IsBooked}

-- one submission more of a session
numbers_push : {Op : Type 0} (session : ℕ) (xs : List (Submission Op)) (s : Submission Op)
    → numbers_of session (xs ++ (s ∷ []))
    ≡ numbers_of session xs ++ map (λ (t : Submission Op). t.command.key.number)
    (cond (s.command.key.session == session) (s ∷ []) [])
numbers_push session xs s =
    ap (map (λ (t : Submission _). t.command.key.number)) (filter-append (λ (t : Submission _). t.command.key.session == session) xs (s ∷ []))
    ∙ map-append (λ (t : Submission _). t.command.key.number) (submissions_of session xs) (cond (s.command.key.session == session) (s ∷ []) [])

is_it : (n : ℕ) → (n == n) ≡ true
is_it n = grind (arith, nat_tests)

is_other : (m n : ℕ) → m ≢ n → (m == n) ≡ false
is_other m n h = false_from_ne_true (m == n) (λ e. h (same m n e))
  where
    same : (a b : ℕ) → (a == b) ≡ true → a ≡ b
    same a b e = grind (arith, nat_tests)

pub numbers_push_own : {Op : Type 0} (session : ℕ) (xs : List (Submission Op)) (s : Submission Op)
    → s.command.key.session ≡ session
    → numbers_of session (xs ++ (s ∷ [])) ≡ numbers_of session xs ++ (s.command.key.number ∷ [])
numbers_push_own session xs s e =
    numbers_push session xs s
    ∙ ap (λ b. numbers_of session xs ++ map (λ (t : Submission _). t.command.key.number) (cond b (s ∷ []) [])) (ap (λ n. n == session) e ∙ is_it session)

pub numbers_push_other : {Op : Type 0} (session : ℕ) (xs : List (Submission Op)) (s : Submission Op)
    → s.command.key.session ≢ session → numbers_of session (xs ++ (s ∷ [])) ≡ numbers_of session xs
numbers_push_other session xs s h =
    numbers_push session xs s
    ∙ ap (λ b. numbers_of session xs ++ map (λ (t : Submission _). t.command.key.number) (cond b (s ∷ []) [])) (is_other s.command.key.session session h)
    ∙ append-nil (numbers_of session xs)

range_more : (n : ℕ) → range_with_len 1 (n + 1) ≡ range_with_len 1 n ++ ((n + 1) ∷ [])
range_more n = sym (map_itself (range_with_len 1 (n + 1))) ∙ map-range_with_len_more (λ m. m) 1 n (n + 1)
    (omega arith) ∙ ap (λ xs. xs ++ ((n + 1) ∷ [])) (map_itself (range_with_len 1 n))
  where
    map_itself : (xs : List ℕ) → map (λ m. m) xs ≡ xs
    map_itself [] = refl
    map_itself (x ∷ xs) = ap (λ ys. x ∷ ys) (map_itself xs)

-- a number in a range
in_range : (x a n : ℕ) → In x (range_with_len a n) → (a ≤ x) × (x < a + n)
in_range x a zero i = absurd i
in_range x a (suc n) (inl e) = (omega (arith, e), omega (arith, e))
in_range x a (suc n) (inr i) = let r = in_range x (a + 1) n i in (omega (arith, r.0), omega (arith, r.1))

-- a submission's number is among those of its session
in_session : {Op : Type 0} (session : ℕ) (s : Submission Op) (xs : List (Submission Op)) → In s xs
    → s.command.key.session ≡ session → In s (submissions_of session xs)
in_session session s [] i e = absurd i
in_session session s (x ∷ xs) (inl same) e =
    subst (λ b. In s (cond b (x ∷ submissions_of session xs) (submissions_of session xs)))
    (sym (ap (λ (t : Submission _). t.command.key.session == session) (sym same) ∙ ap
    (λ n. n == session) e ∙ is_it session)) (inl same)
in_session session s (x ∷ xs) (inr i) e = at (x.command.key.session == session) (in_session session s xs i e)
  where
    at : (b : Bool) → In s (submissions_of session xs) → In s (cond b (x ∷ submissions_of session xs) (submissions_of session xs))
    at true j = inr j
    at false j = j

-- what has the key stands in the list
found_in : {X : Type 0} (key_of : X → Key) (key : Key) (xs : List X) → stands key_of key xs ≡ true → (x : X) × In x xs × (key_of x ≡ key)
found_in key_of key [] e = absurd (false≢true e)
found_in {X} key_of key (x ∷ xs) e = at (same_key (key_of x) key) refl (λ h. found_in key_of key xs h) e
  where
    at : (b : Bool) → same_key (key_of x) key ≡ b → (stands key_of key xs ≡ true → (y : X) × In y xs × (key_of y ≡ key))
        → (b || stands key_of key xs) ≡ true → (y : X) × In y (x ∷ xs) × (key_of y ≡ key)
    at true s more h = (x, inl refl, same_is (key_of x) key s)
    at false s more h = let r = more h in (r.0, inr r.1, r.2)

pub positive : (n : ℕ) → nat_le 1 n ≡ true → 0 < n
positive n e = grind (arith, nat_tests)

at_most : (m n : ℕ) → nat_le m n ≡ true → m ≤ n
at_most m n e = grind (arith, nat_tests)

-- sessions that are opened have places in the book
pub opened_bounds : (book : List ℕ) (session : ℕ) → is_opened book session ≡ true → (0 < session) × (session ≤ length book)
opened_bounds book session e =
    let parts = and_parts (nat_le 1 session) (nat_le session (length book)) e in
    (positive session parts.0, at_most session (length book) parts.1)

number_set : (book : List ℕ) (session number : ℕ) → 0 < session → session ≤ length book → last_number (with_number book session number) session ≡ number
number_set book zero number h k = absurd (omega (arith, h))
number_set book (suc i) number h k = get_or-set_same book i number 0 (omega (arith, k))

number_beside : (book : List ℕ) (session number other : ℕ) → other ≢ session → last_number (with_number book session number) other ≡ last_number book other
number_beside book zero number other h = refl
number_beside book (suc i) number zero h = refl
number_beside book (suc i) number (suc j) h = get_or-set_other book i j number 0 (λ e. h (ap suc e))

length_set : (book : List ℕ) (session number : ℕ) → length (with_number book session number) ≡ length book
length_set book zero number = refl
length_set book (suc i) number = length-set book i number

number_opened : (book : List ℕ) (session : ℕ) → last_number (book ++ (0 ∷ [])) session ≡ last_number book session
number_opened book zero = refl
number_opened [] (suc zero) = refl
number_opened [] (suc (suc i)) = refl
number_opened (n ∷ book) (suc zero) = refl
number_opened (n ∷ book) (suc (suc i)) = number_opened book (suc i)

module _ {Op : Type 0} (book : List ℕ) where
  -- more events
  pub booked_later : (submitted : List (Submission Op)) (taken more : ℕ) → taken ≤ more → IsBooked book submitted taken → IsBooked book submitted more
  booked_later submitted taken more h b = record {
    sessions = b.sessions;
    numbers = b.numbers;
    few = λ session. let few = b.few session in omega (arith, h);
    commands = b.commands;
  }

  -- one session more
  pub booked_open : (submitted : List (Submission Op)) (taken : ℕ) → length book < 4294967295
      → IsBooked book submitted taken → IsBooked (book ++ (0 ∷ [])) submitted taken
  booked_open submitted taken h b = record {
    sessions = let l = length-append book (0 ∷ []) in omega (arith, h);
    numbers = λ session pos. b.numbers session pos ∙ ap (range_with_len 1) (sym (number_opened book session));
    few = λ session. subst (λ n. n ≤ taken) (sym (number_opened book session)) (b.few session);
    commands = b.commands;
  }

  -- a session's next command wasn't handed in yet
  pub next_new : (submitted : List (Submission Op)) (taken : ℕ) (key : Key) → IsBooked book submitted taken
      → IsNextKey book key → is_submitted key submitted ≡ false
  next_new submitted taken key b next = false_from_ne_true (is_submitted key submitted) (λ e.
      let found = found_in submitted_key key submitted e in
      let pos = (opened_bounds book key.session next.opened).0 in
      let own = in_session key.session found.0 submitted found.1 (ap (λ (k : Key). k.session) found.2) in
      let number = In-map (λ (t : Submission Op). t.command.key.number) found.0 (submissions_of key.session submitted) own in
      let within = in_range found.0.command.key.number 1 (last_number book key.session)
      (subst (In found.0.command.key.number) (b.numbers key.session pos) number) in
      let same : found.0.command.key.number ≡ key.number = ap (λ (k : Key). k.number) found.2 in
      let last = next.number in
      absurd (omega (arith, within.1, same, last)))

  pushed_commands : (submitted : List (Submission Op)) (s : Submission Op)
      → ((t : Submission Op) → In t submitted → IsCommand t.command) → IsCommand s.command → (t : Submission Op)
      → In t (submitted ++ (s ∷ [])) → IsCommand t.command
  pushed_commands submitted s all is t i = ⊎_elim
      (λ (j : In t submitted). all t j)
      (λ (j : In t (s ∷ [])). ⊎_elim (λ (e : t ≡ s). subst (λ (q : Submission Op). IsCommand q.command) (sym e) is) (λ f. absurd f) j)
      (In-cases t submitted (s ∷ []) i)

  -- and then it is the last one
  pub booked_next : (submitted : List (Submission Op)) (taken : ℕ) (s : Submission Op) → IsBooked book submitted taken
      → IsNextKey book s.command.key → IsCommand s.command
      → IsBooked (with_number book s.command.key.session s.command.key.number) (submitted ++ (s ∷ [])) (taken + 1)
  booked_next submitted taken s b next is =
      let session = s.command.key.session in
      let number = s.command.key.number in
      let bounds = opened_bounds book session next.opened in
      let last = next.number in
      record {
        sessions = let l = length_set book session number in let few = b.sessions in omega arith;
        numbers = λ other pos. ⊎_elim
            (λ (e : other ≡ session). subst
            (λ o. numbers_of o (submitted ++ (s ∷ []))
            ≡ range_with_len 1 (last_number (with_number book session number) o)) (sym e)
            (numbers_push_own session submitted s refl
            ∙ ap₂ (λ xs n. xs ++ (n ∷ [])) (b.numbers session bounds.0) last
            ∙ sym (range_more (last_number book session))
            ∙ ap (range_with_len 1) (sym last ∙ sym (number_set book session number bounds.0 bounds.1))))
            (λ (apart : other ≢ session).
            numbers_push_other other submitted s (λ e. apart (sym e))
            ∙ b.numbers other pos
            ∙ ap (range_with_len 1) (sym (number_beside book session number other apart)))
            (cases_eq other session);
        few = λ other. ⊎_elim
            (λ (e : other ≡ session). subst (λ o. last_number (with_number book session number) o ≤ taken + 1) (sym e)
            (subst (λ n. n ≤ taken + 1) (sym (number_set book session number bounds.0 bounds.1)) (let few = b.few session in omega (arith, last, few))))
            (λ (apart : other ≢ session). subst (λ n. n ≤ taken + 1)
            (sym (number_beside book session number other apart)) (let few = b.few other in omega (arith, few)))
            (cases_eq other session);
        commands = pushed_commands submitted s b.commands is;
      }

  -- a second of the clock is of no session
  pub booked_tick : (submitted : List (Submission Op)) (taken : ℕ) (s : Submission Op) → IsBooked book submitted taken
      → s.command.key.session ≡ 0 → IsCommand s.command → IsBooked book (submitted ++ (s ∷ [])) (taken + 1)
  booked_tick submitted taken s b clock is = record {
    sessions = b.sessions;
    numbers = λ session pos. numbers_push_other session submitted s (λ e. absurd (omega (arith, clock, e, pos))) ∙ b.numbers session pos;
    few = λ session. let few = b.few session in omega (arith, few);
    commands = pushed_commands submitted s b.commands is;
  }

-- the greatest second, with one submission more
pub second_push : {Op : Type 0} (submitted : List (Submission Op)) (s : Submission Op) → s.command.key.session ≡ 0
    → last_second (submitted ++ (s ∷ [])) ≡ max (last_second submitted) s.command.key.number
second_push submitted s e = ap (fold max 0) (numbers_push_own 0 submitted s e) ∙ fold-append max 0 (numbers_of 0 submitted) (s.command.key.number ∷ [])

pub second_beside : {Op : Type 0} (submitted : List (Submission Op)) (s : Submission Op) → s.command.key.session ≢ 0
    → last_second (submitted ++ (s ∷ [])) ≡ last_second submitted
second_beside submitted s h = ap (fold max 0) (numbers_push_other 0 submitted s h)

at_most_fold : (xs : List ℕ) (x a : ℕ) → x ≤ a → x ≤ fold max a xs
at_most_fold [] x a h = h
at_most_fold (y ∷ ys) x a h = at_most_fold ys x (max a y) (omega (arith, h))

in_fold : (xs : List ℕ) (x a : ℕ) → In x xs → x ≤ fold max a xs
in_fold [] x a i = absurd i
in_fold (y ∷ ys) x a (inl e) = at_most_fold ys x (max a y) (omega (arith, e))
in_fold (y ∷ ys) x a (inr i) = in_fold ys x (max a y) i

-- a second that was handed in is no greater
pub second_known : {Op : Type 0} (submitted : List (Submission Op)) (second : ℕ)
    → is_submitted (record { session = 0; number = second }) submitted ≡ true
    → max (last_second submitted) second ≡ last_second submitted
second_known {Op} submitted second e =
    let key : Key = record { session = 0; number = second } in
    let found = found_in submitted_key key submitted e in
    let own = in_session 0 found.0 submitted found.1 (ap (λ (k : Key). k.session) found.2) in
    let number = In-map (λ (t : Submission Op). t.command.key.number) found.0 (submissions_of 0 submitted) own in
    let same : found.0.command.key.number ≡ second = ap (λ (k : Key). k.number) found.2 in
    let high = in_fold (numbers_of 0 submitted) found.0.command.key.number 0 number in
    omega (arith, same, high)
