-- Kept commands, and their replay, while a list of commands grows at its end.
use Rattle.std.proofs.Common.{◌≡◌, ℕ, suc, ◌+◌, ◌≤◌, ◌<◌, ◌==◌, Bool, true, false, true≢false, not, ◌&&◌, ◌||◌, nat_lt}
use Rattle.std.proofs.Common.{cond, List, [], ◌∷◌, ◌++◌, map, filter, length, fold, refl, sym, ap, ◌∙◌, append-nil}
use Rattle.std.proofs.Common.{append_assoc, arith}
use Rattle.std.proofs.lemmas.Bool.Decides.{nat_tests}
use Rattle.object.specs.declared.command.Answer.{Answer}
use Rattle.object.specs.declared.command.Command.{Command}
use Rattle.object.specs.Replays.{Placed, replay_from, replay, is_new, kept_after, kept}
use Rattle.object.specs.Obeying.{at_place}

-- the commands in front of those seen before, the last of them first
abbrev pub seen_by : {A : Type 0} → List A → List A → List A
seen_by seen [] = seen
seen_by seen (c ∷ cs) = seen_by (c ∷ seen) cs

and_true : (a : Bool) → (a && true) ≡ a
and_true true = refl
and_true false = refl

and_swap : (a b s : Bool) → (a && (b && s)) ≡ ((b && a) && s)
and_swap true true s = refl
and_swap true false s = refl
and_swap false true s = refl
and_swap false false s = refl

-- of another session, or of a lower number
abbrev pub is_before : {Op : Type 0} → Command Op → Command Op → Bool
is_before c d = not (d.key.session == c.key.session) || nat_lt d.key.number c.key.number

is_new-seen : {Op : Type 0} (c : Command Op) (seen cs : List (Command Op)) → is_new c (seen_by seen cs) ≡ (is_new c cs && is_new c seen)
is_new-seen c seen [] = refl
is_new-seen c seen (d ∷ cs) = is_new-seen c (d ∷ seen) cs ∙ and_swap (is_new c cs) (is_before c d) (is_new c seen)

pub is_new-all : {Op : Type 0} (c : Command Op) (cs : List (Command Op)) → is_new c (seen_by [] cs) ≡ is_new c cs
is_new-all c cs = is_new-seen c [] cs ∙ and_true (is_new c cs)

kept_step : {A : Type 0} (test : Bool) (d : A) (more ks all : List A) → all ≡ ks ++ more → cond test (d ∷ all) all ≡ cond test (d ∷ ks) ks ++ more
kept_step true d more ks all e = ap (λ xs. d ∷ xs) e
kept_step false d more ks all e = e

pub kept_after-append : {Op : Type 0} (seen cs ds : List (Command Op)) → kept_after seen (cs ++ ds) ≡ kept_after seen cs ++ kept_after (seen_by seen cs) ds
kept_after-append seen [] ds = refl
kept_after-append seen (c ∷ cs) ds =
    kept_step (is_new c seen) c (kept_after (seen_by (c ∷ seen) cs) ds) (kept_after (c ∷ seen) cs)
    (kept_after (c ∷ seen) (cs ++ ds)) (kept_after-append (c ∷ seen) cs ds)

-- one command more is kept where it is new, and else nothing is
pub kept-push : {Op : Type 0} (cs : List (Command Op)) (c : Command Op) → kept (cs ++ (c ∷ [])) ≡ kept cs ++ cond (is_new c cs) (c ∷ []) []
kept-push cs c = kept_after-append [] cs (c ∷ []) ∙ ap (λ b. kept cs ++ cond b (c ∷ []) []) (is_new-all c cs)

pub kept-push_new : {Op : Type 0} (cs : List (Command Op)) (c : Command Op) → is_new c cs ≡ true → kept (cs ++ (c ∷ [])) ≡ kept cs ++ (c ∷ [])
kept-push_new cs c e = kept-push cs c ∙ ap (λ b. kept cs ++ cond b (c ∷ []) []) e

pub kept-push_old : {Op : Type 0} (cs : List (Command Op)) (c : Command Op) → is_new c cs ≡ false → kept (cs ++ (c ∷ [])) ≡ kept cs
kept-push_old cs c e = kept-push cs c ∙ ap (λ b. kept cs ++ cond b (c ∷ []) []) e ∙ append-nil (kept cs)

-- one command's answers, at its place
abbrev pub noted_at : {Reply : Type 0} → ℕ → List (Answer Reply) → List (Placed Reply)
noted_at p given = map (λ a. record { place = p; answer = a }) given

module _ {O Op Reply : Type 0} (after : O → Command Op → O) (answers : O → Command Op → List (Answer Reply)) where
  -- what was noted earlier stays
  pub replay_from-append : (s : O) (p : ℕ) (xs ys : List (Command Op))
      → replay_from after answers s p (xs ++ ys)
      ≡ replay_from after answers s p xs ++ replay_from after answers (fold after s xs) (p + length xs) ys
  replay_from-append s p [] ys = ap (λ q. replay_from after answers s q ys) (omega arith)
  replay_from-append s p (x ∷ xs) ys =
      ap (λ r. noted_at p (answers s x) ++ r)
      (replay_from-append (after s x) (suc p) xs ys ∙ ap
      (λ q. replay_from after answers (after s x) (suc p) xs ++ replay_from after answers
      (fold after (after s x) xs) q ys) (omega arith))
      ∙ sym (append_assoc (noted_at p (answers s x)) (replay_from after answers (after s x) (suc p) xs)
      (replay_from after answers (fold after (after s x) xs) (p + length (x ∷ xs)) ys))

  pub replay-append : (s : O) (xs ys : List (Command Op))
      → replay s after answers (xs ++ ys)
      ≡ replay s after answers xs ++ replay_from after answers (fold after s xs) (length xs) ys
  replay-append s xs ys = replay_from-append s 0 xs ys ∙ ap (λ n. replay s after answers xs ++ replay_from after answers (fold after s xs) n ys) (omega arith)

-- the answers of a list of them
abbrev pub answers_in : {Reply : Type 0} → List (Placed Reply) → List (Answer Reply)
answers_in placed = map (λ p. p.answer) placed

placed_step : {Reply : Type 0} (test : Bool) (x : Placed Reply) (some all : List (Placed Reply))
    (more : List (Answer Reply)) → answers_in all ≡ answers_in some ++ more
    → answers_in (cond test (x ∷ all) all) ≡ answers_in (cond test (x ∷ some) some) ++ more
placed_step true x some all more e = ap (λ r. x.answer ∷ r) e
placed_step false x some all more e = e

at_place-append : {Reply : Type 0} (n : ℕ) (xs ys : List (Placed Reply)) → at_place n (xs ++ ys) ≡ at_place n xs ++ at_place n ys
at_place-append n [] ys = refl
at_place-append n (x ∷ xs) ys =
    placed_step (x.place == n) x (filter (λ p. p.place == n) xs) (filter (λ p. p.place == n) (xs ++ ys)) (at_place n ys)
    (at_place-append n xs ys)

is_it : (n : ℕ) → (n == n) ≡ true
is_it n = grind (arith, nat_tests)

is_less : (p n : ℕ) → p < n → (p == n) ≡ false
is_less p n h = grind (arith, nat_tests)

one_placed : {Reply : Type 0} (test : Bool) (x : Placed Reply) (some : List (Placed Reply))
    (given : List (Answer Reply)) → test ≡ true → answers_in some ≡ given
    → answers_in (cond test (x ∷ some) some) ≡ x.answer ∷ given
one_placed true x some given t e = ap (λ r. x.answer ∷ r) e
one_placed false x some given t e = absurd (true≢false (sym t))

none_placed : {Reply : Type 0} (test : Bool) (x : Placed Reply) (some : List (Placed Reply)) → test ≡ false
    → answers_in some ≡ [] → answers_in (cond test (x ∷ some) some) ≡ []
none_placed true x some t e = absurd (true≢false t)
none_placed false x some t e = e

-- the answers of one command, at its place and at a later one
own_place : {Reply : Type 0} (n : ℕ) (given : List (Answer Reply)) → at_place n (noted_at n given) ≡ given
own_place n [] = refl
own_place n (a ∷ given) = one_placed (n == n) (record { place = n; answer = a })
    (filter (λ p. p.place == n) (noted_at n given)) given (is_it n) (own_place n given)

other_place : {Reply : Type 0} (p n : ℕ) → p < n → (given : List (Answer Reply)) → at_place n (noted_at p given) ≡ []
other_place p n h [] = refl
other_place p n h (a ∷ given) =
    none_placed (p == n) (record { place = p; answer = a }) (filter (λ q. q.place == n) (noted_at p given))
    (is_less p n h) (other_place p n h given)

module _ {O Op Reply : Type 0} (after : O → Command Op → O) (answers : O → Command Op → List (Answer Reply)) where
  -- nothing is noted behind the last command
  behind : (s : O) (p n : ℕ) (xs : List (Command Op)) → p + length xs ≤ n → at_place n (replay_from after answers s p xs) ≡ []
  behind s p n [] h = refl
  behind s p n (x ∷ xs) h =
      at_place-append n (noted_at p (answers s x)) (replay_from after answers (after s x) (suc p) xs)
      ∙ ap (λ r. r ++ at_place n (replay_from after answers (after s x) (suc p) xs)) (other_place p n (omega arith) (answers s x))
      ∙ behind (after s x) (suc p) n xs (omega arith)

  -- at the last place stands what the object answers to the last command
  pub last_place : (s : O) (xs : List (Command Op)) (c : Command Op)
      → at_place (length xs) (replay s after answers (xs ++ (c ∷ []))) ≡ answers (fold after s xs) c
  last_place s xs c =
      ap (at_place (length xs)) (replay-append after answers s xs (c ∷ []))
      ∙ at_place-append (length xs) (replay s after answers xs) (replay_from after answers (fold after s xs) (length xs) (c ∷ []))
      ∙ ap (λ r. r ++ at_place (length xs) (replay_from after answers (fold after s xs) (length xs) (c ∷ []))) (behind s 0 (length xs) xs (omega arith))
      ∙ ap (at_place (length xs)) (append-nil (noted_at (length xs) (answers (fold after s xs) c)))
      ∙ own_place (length xs) (answers (fold after s xs) c)
