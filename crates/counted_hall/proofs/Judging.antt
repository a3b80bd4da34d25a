-- Tickets that agree with a hall, whose sessions can be marked one after the other, are those of its sessions.
use Rattle.std.proofs.Common.{◌≡◌, inl, inr, ℕ, zero, suc, Bool, true, false, eqb, List, [], ◌∷◌, length, Option, None, Some, refl, sym, ap, ◌∙◌, subst, arith}
use Rattle.std.specs.Prelude.{◌||◌, All}
use Rattle.std.proofs.lemmas.List.{length-map}
use Rattle.std.specs.List.{IsDistinct, AllByRecursion, list_any}
use Rattle.std.proofs.lemmas.Bool.Decides.{nat_tests}
use Rattle.object.specs.Lists.{In}
use Rattle.hall.specs.Books.{is_opened}
use Rattle.hall.specs.Halls.{HallState, Agrees}
use Rattle.hall.specs.Tickets.{TicketState}
use Rattle.counted_hall.specs.Accounts.{AreItsTickets, sessions_of}
use Rattle.counted_hall.specs.Marks.{is_free, with_marks}
use Rattle.counted_hall.proofs.Marking.{AllFree, all_there, complete, fresh, is_one_of, sound}

-- what is free is one of so many
opened : (m : List Bool) (xs : List ℕ) → All (λ b. b ≡ false) m → AllFree m xs → AllByRecursion (λ s. is_one_of (length m) s ≡ true) xs
opened m [] none all = tt
opened m (s ∷ xs) none all = (sym (fresh m s none) ∙ all.0, opened m xs none all.1)

module _ {Op Reply : Type 0} where
  -- a ticket of that session
  of_session : (ts : List (TicketState Op Reply)) (s : ℕ) → list_any (eqb s) (sessions_of ts) ≡ true → (t : TicketState Op Reply) × In t ts × (t.session ≡ s)
  of_session [] s e = absurd (cc)
  of_session (t ∷ ts) s e = at (of_session ts s) (eqb s t.session) refl e
    where
      at : (list_any (eqb s) (sessions_of ts) ≡ true → (u : TicketState Op Reply) × In u ts × (u.session ≡ s))
          → (b : Bool) → eqb s t.session ≡ b → b || list_any (eqb s) (sessions_of ts) ≡ true
          → (u : TicketState Op Reply) × In u (t ∷ ts) × (u.session ≡ s)
      at more true same e = (t, inl refl, grind (arith, nat_tests))
      at more false other e = let u = more e in (u.0, inr u.1, u.2)

  -- each ticket's session is free
  all_free : (h : HallState Op Reply) (m : List Bool) (ts : List (TicketState Op Reply)) → All (λ b. b ≡ false) m
      → length m ≡ length h.book → ((t : TicketState Op Reply) → In t ts → Agrees h t) → AllFree m (sessions_of ts)
  all_free h m [] none long agree = tt
  all_free h m (t ∷ ts) none long agree =
      let free : is_free m t.session ≡ true = fresh m t.session none ∙ ap (λ n. is_one_of n t.session) long ∙ (agree t (inl refl)).opened in
      (free, all_free h m ts none long (λ u i. agree u (inr i)))

  pub are_its : (h : HallState Op Reply) (m k : List Bool) (ts : List (TicketState Op Reply)) → All (λ b. b ≡ false) m
      → length m ≡ length h.book → length h.book ≡ length ts → ((t : TicketState Op Reply) → In t ts → Agrees h t)
      → with_marks m (sessions_of ts) ≡ Some k → AreItsTickets h ts
  are_its h m k ts none long count agree e =
      let held = sound m k (sessions_of ts) e in
      record {
        agree = agree;
        once = held.0;
        each = λ s is_there.
            of_session ts s (all_there (sessions_of ts) (length h.book) s held.0
            (subst (λ n. AllByRecursion (λ t. is_one_of n t ≡ true) (sessions_of ts)) long (opened m (sessions_of ts) none held.1))
            (length-map ts (λ (t : TicketState Op Reply). t.session) ∙ sym count) is_there);
      }

  pub can_be_marked : (h : HallState Op Reply) (m : List Bool) (ts : List (TicketState Op Reply))
      → All (λ b. b ≡ false) m → length m ≡ length h.book → AreItsTickets h ts → (k : List Bool)
      × (with_marks m (sessions_of ts) ≡ Some k)
  can_be_marked h m ts none long are = complete m (sessions_of ts) are.once (all_free h m ts none long are.agree)

  -- no tickets are those of no sessions
  pub none_opened : (h : HallState Op Reply) (ts : List (TicketState Op Reply)) → h.book ≡ [] → ts ≡ [] → AreItsTickets h ts
  unfolding IsDistinct
  none_opened h ts none empty = subst (AreItsTickets h) (sym empty) (record {
    agree = λ t i. absurd i;
    once = tt;
    each = λ s is_there. absurd (nobody s (ap (λ b. is_opened b s) (sym none) ∙ is_there));
  })
    where
      nobody : (s : ℕ) → is_opened [] s ≡ true → ⊥
      nobody zero e = absurd (cc)
      nobody (suc i) e = absurd (grind (arith, nat_tests))

-- what could be marked was
pub was_marked : (b : Bool) (o : Option (List Bool)) → (b ≡ false → o ≡ None) → (k : List Bool) × (o ≡ Some k) → b ≡ true
was_marked true o none some = refl
was_marked false o none some = let stops = none refl in let goes = some.1 in absurd (cc)
