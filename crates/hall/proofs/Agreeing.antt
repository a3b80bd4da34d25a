-- That a ticket agrees with a hall is told act by act.
use Rattle.std.proofs.Common.{◌≡◌, ◌≢◌, inl, inr, ⊎_elim, ℕ, zero, suc, ◌+◌, ◌<◌, ◌≤◌, ◌==◌, Bool, true, false}
use Rattle.std.proofs.Common.{true≢false, cond, List, [], ◌∷◌, map, length, Some, refl, sym, ap, ap₂, ◌∙◌, subst, arith}
use Rattle.std.specs.Prelude.{slice_get, slice_index_or, option_map, ◌↔◌}
use Rattle.std.specs.List.{range_with_len}
use Rattle.std.proofs.lemmas.Option.{none-some}
use Rattle.std.proofs.lemmas.Bool.{and_parts, and_from, cases_eq, false_from_ne_true}
use Rattle.std.proofs.lemmas.Bool.Decides.{nat_tests}
use Rattle.std.proofs.lemmas.List.{length-map}
use Rattle.std.proofs.lemmas.List.FromFn.{length-range_with_len}
use Rattle.object.specs.declared.command.Key.{Key}
use Rattle.object.specs.declared.command.Submission.{Submission}
use Rattle.object.specs.Happenings.{Happenings, submitted_key, SubmittedOnce}
use Rattle.object.specs.Keys.{same_key, found, KeysOnce}
use Rattle.object.specs.KeyLaws.{same_is, same_when}
use Rattle.object.specs.Lists.{In}
use Rattle.object.specs.ListLaws.{In-get}
use Rattle.object.specs.Objects.{Rules}
use Rattle.network.specs.MailLaws.{of_filter}
use Rattle.hall.specs.declared.ticket.NotedAct.{NotedAct}
use Rattle.hall.specs.Books.{submissions_of, numbers_of, is_opened, last_number}
use Rattle.hall.specs.HallLaws.{HallLaws}
use Rattle.hall.specs.Halls.{HallState, IsHall, IsBorneOut, AreBorneOut, Agrees}
use Rattle.hall.specs.Refusals.{is_last}
use Rattle.hall.specs.Tickets.{TicketState, last_key}
use Rattle.hall.proofs.Again.{once_told}
use Rattle.hall.proofs.Booking.{opened_bounds}

is_it : (m n : ℕ) → (m == n) ≡ true → m ≡ n
is_it m n e = grind (arith, nat_tests)

equal : (m n : ℕ) → m ≡ n → (m == n) ≡ true
equal m n e = grind (arith, nat_tests)

inside : {X : Type 0} (x y : X) → Some x ≡ Some y → x ≡ y
inside x y e = cc

-- where no key stands twice, what has the key is found under it
found_of : {X : Type 0} (key_of : X → Key) (key : Key) (x : X) (xs : List X) → KeysOnce key_of xs → In x xs → key_of x ≡ key → found key_of key xs ≡ Some x
found_of key_of key x [] once i e = absurd i
found_of key_of key x (y ∷ ys) once (inl same) e =
    ap (λ b. cond b (Some y) (found key_of key ys)) (same_when (key_of y) key (ap key_of (sym same) ∙ e)) ∙ ap Some
    (sym same)
found_of key_of key x (y ∷ ys) once (inr i) e =
    ap (λ b. cond b (Some y) (found key_of key ys)) (false_from_ne_true (same_key (key_of y) key) (λ s. once.0 x i (e ∙ sym (same_is (key_of y) key s))))
    ∙ found_of key_of key x ys once.1 i e

get_map : {A B : Type 0} (f : A → B) (xs : List A) (i : ℕ) → slice_get (map f xs) i ≡ option_map f (slice_get xs i)
get_map f [] i = refl
get_map f (x ∷ xs) zero = refl
get_map f (x ∷ xs) (suc i) = get_map f xs i

get_range : (len base i n : ℕ) → slice_get (range_with_len base len) i ≡ Some n → n ≡ base + i
get_range zero base i n e = absurd (none-some n e)
get_range (suc len) base zero n e = let same = inside base n e in omega (arith, same)
get_range (suc len) base (suc i) n e = let next = get_range len (base + 1) i n e in omega (arith, next)

get_within : {A : Type 0} (xs : List A) (i : ℕ) (x : A) → slice_get xs i ≡ Some x → i < length xs
get_within [] i x e = absurd (none-some x e)
get_within (y ∷ ys) zero x e = omega arith
get_within (y ∷ ys) (suc i) x e = let h = get_within ys i x e in omega (arith, h)

get_some : {A : Type 0} (xs : List A) (i : ℕ) → i < length xs → (x : A) × (slice_get xs i ≡ Some x)
get_some [] i h = absurd (omega (arith, h))
get_some (y ∷ ys) zero h = (y, refl)
get_some (y ∷ ys) (suc i) h = get_some ys i (omega (arith, h))

-- two lists that are the same place by place
same_lists : {A B X : Type 0} (f : A → X) (g : B → X) (xs : List A) (ys : List B) → length xs ≡ length ys
    → ((i : ℕ) (x : A) (y : B) → slice_get xs i ≡ Some x → slice_get ys i ≡ Some y → f x ≡ g y) → map f xs ≡ map g ys
same_lists f g [] [] e same = refl
same_lists f g [] (y ∷ ys) e same = absurd (omega (arith, e))
same_lists f g (x ∷ xs) [] e same = absurd (omega (arith, e))
same_lists f g (x ∷ xs) (y ∷ ys) e same =
    ap₂ (λ a l. a ∷ l) (same 0 x y refl refl)
    (same_lists f g xs ys (omega (arith, e)) (λ i a b p q. same (suc i) a b p q))

module _ {O Op Reply : Type 0} (rules : Rules O Op Reply) (laws : HallLaws rules) (h : HallState Op Reply)
    (hall : IsHall rules h) (t : TicketState Op Reply) where
  abbrev all : List (Submission Op)
  all = h.nodes.past.happenings.submitted

  abbrev own : List (Submission Op)
  own = submissions_of t.session all

  once : SubmittedOnce all
  once = let shown = hall.shown in subst (λ (g : Happenings Op Reply). SubmittedOnce g.submitted)
      (sym shown.2.happenings) (once_told shown.0.happenings shown.0.happenings.submitted (laws.once shown.0 shown.1))

  module _ (opened : is_opened h.book t.session ≡ true) where
    numbers : numbers_of t.session all ≡ range_with_len 1 (last_number h.book t.session)
    numbers = hall.booked.numbers t.session (opened_bounds h.book t.session opened).0

    count : length own ≡ last_number h.book t.session
    count = sym (length-map own (λ (s : Submission Op). s.command.key.number)) ∙ ap length numbers ∙ length-range_with_len 1 (last_number h.book t.session)

    -- the submission at a place of its session is found under the number
    nth : (i : ℕ) (s : Submission Op) → slice_get own i ≡ Some s → found submitted_key (record { session = t.session; number = i + 1 }) all ≡ Some s
    nth i s e =
        let of = of_filter (λ (q : Submission Op). q.command.key.session == t.session) s all (In-get own i s e) in
        let number = get_range (last_number h.book t.session) 1 i s.command.key.number
        (ap (λ xs. slice_get xs i) (sym numbers) ∙ get_map (λ (q : Submission Op). q.command.key.number) own i ∙ ap
        (option_map (λ (q : Submission Op). q.command.key.number)) e) in
        let session = is_it s.command.key.session t.session of.1 in
        found_of submitted_key (record { session = t.session; number = i + 1 }) s all once of.0
        (λ j. record { session = session j; number = one_on s.command.key.number i number j })
      where
        one_on : (n i : ℕ) → n ≡ 1 + i → n ≡ i + 1
        one_on n i e = omega (arith, e)

    held_act : (i : ℕ) (a : NotedAct Op Reply) (s : Submission Op)
        → IsBorneOut h (record { session = t.session; number = i + 1 }) a → slice_get own i ≡ Some s
        → a.act ≡ s.command.act
    held_act i a s held e = sym (inside s.command.act a.act (ap (option_map (λ (q : Submission Op). q.command.act)) (sym (nth i s e)) ∙ held.act))

    -- as many acts, each of them held
    all_agree : length t.acts ≡ last_number h.book t.session → AreBorneOut h t.session t.acts → Agrees h t
    all_agree same held = record {
      opened = opened;
      acts = same_lists (λ (a : NotedAct Op Reply). a.act) (λ (s : Submission Op). s.command.act) t.acts own
          (same ∙ sym count) (λ i a s p q. held_act i a s (held i a p) q);
      replies = λ i a reply p e. (held i a p).reply reply e;
    }

  same_count : (agrees : Agrees h t) → length t.acts ≡ last_number h.book t.session
  same_count agrees =
      sym (length-map t.acts (λ (a : NotedAct Op Reply). a.act)) ∙ ap length agrees.acts ∙ length-map own
      (λ (s : Submission Op). s.command.act) ∙ count agrees.opened

  each_held : (agrees : Agrees h t) → AreBorneOut h t.session t.acts
  each_held agrees i a e =
      let s = get_some own i (let w = get_within t.acts i a e in let c = count agrees.opened in let d = same_count agrees in omega (arith, w, c, d)) in
      record {
        act = ap (option_map (λ (q : Submission Op). q.command.act)) (nth agrees.opened i s.0 s.1)
            ∙ sym (ap (option_map (λ (q : Submission Op). q.command.act)) s.1)
            ∙ sym (get_map (λ (q : Submission Op). q.command.act) own i)
            ∙ ap (λ xs. slice_get xs i) (sym agrees.acts)
            ∙ get_map (λ (b : NotedAct Op Reply). b.act) t.acts i
            ∙ ap (option_map (λ (b : NotedAct Op Reply). b.act)) e;
        reply = λ reply noted. agrees.replies i a reply e noted;
      }

  -- where the session isn't opened, or has another count of acts, it doesn't agree
  pub not_last : is_last h (last_key t) ≡ false → (false ≡ true) ↔ Agrees h t
  not_last another = (
    λ e. absurd (true≢false (sym e)),
    λ (agrees : Agrees h t). absurd
        (true≢false (sym (and_from (is_opened h.book t.session)
        (length t.acts == last_number h.book t.session) agrees.opened (equal _ _ (same_count agrees))) ∙ another)),
  )

  -- and else as far as its acts are held
  pub is_told : is_last h (last_key t) ≡ true → (b : Bool) → (b ≡ true) ↔ AreBorneOut h t.session t.acts → (b ≡ true) ↔ Agrees h t
  is_told last b held =
      let parts = and_parts (is_opened h.book t.session) (length t.acts == last_number h.book t.session) last in
      (λ e. all_agree parts.0 (is_it _ _ parts.1) (held.0 e), λ (agrees : Agrees h t). held.1 (each_held agrees))

get_or : {A : Type 0} (xs : List A) (i : ℕ) (x : A) → i < length xs → x ≡ slice_index_or xs i x → slice_get xs i ≡ Some x
get_or [] i x h e = absurd (omega (arith, h))
get_or (y ∷ ys) zero x h e = ap Some (sym e)
get_or (y ∷ ys) (suc i) x h e = get_or ys i x (omega (arith, h)) e

-- the acts so far are held, and one more
module _ {Op Reply : Type 0} (h : HallState Op Reply) (session : ℕ) (acts : List (NotedAct Op Reply)) where
  pub held_more : (n : ℕ) (a : NotedAct Op Reply) → n < length acts → a ≡ slice_index_or acts n a
      → ((i : ℕ) (b : NotedAct Op Reply) → i < n → slice_get acts i ≡ Some b
      → IsBorneOut h (record { session = session; number = i + 1 }) b)
      → IsBorneOut h (record { session = session; number = n + 1 }) a → (i : ℕ) (b : NotedAct Op Reply) → i < n + 1
      → slice_get acts i ≡ Some b → IsBorneOut h (record { session = session; number = i + 1 }) b
  held_more n a within at sofar held i b low e = ⊎_elim
      (λ (same : i ≡ n). subst (λ j. IsBorneOut h (record { session = session; number = j + 1 }) b) (sym same)
      (subst (IsBorneOut h (record { session = session; number = n + 1 }))
      (inside a b (sym (get_or acts n a within at) ∙ ap (slice_get acts) (sym same) ∙ e)) held))
      (λ (apart : i ≢ n). sofar i b (omega (arith, low, apart)) e)
      (cases_eq i n)

  pub all_held : (n : ℕ) → length acts ≤ n
      → ((i : ℕ) (b : NotedAct Op Reply) → i < n → slice_get acts i ≡ Some b
      → IsBorneOut h (record { session = session; number = i + 1 }) b) → (true ≡ true) ↔ AreBorneOut h session acts
  all_held n over sofar = (λ _ i b e. sofar i b (let w = get_within acts i b e in omega (arith, w, over)) e, λ _. refl)
