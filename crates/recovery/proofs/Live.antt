-- Which sessions are open after one command more.
use Rattle.std.proofs.Common.{◌≡◌, ◌==◌, ◌&&◌, ◌<◌, ◌≤◌, ◌+◌, ℕ, Bool, true, false, not, cond, List, [], ◌∷◌, ◌++◌}
use Rattle.std.proofs.Common.{length, take, drop, refl, sym, ap, subst, ◌∙◌, arith, IsTrue}
use Rattle.std.proofs.lemmas.List.{append_assoc, take_more, drop_all}
use lib.ListN.{get_or}
use Rattle.std.proofs.lemmas.Bool.Decides.{nat_tests}
use Rattle.std.specs.BTreeSet.{BTreeSet, btree_set_len, contains, Updates}
use Rattle.std.specs.Cmp.{unsigned_tied}
use Rattle.std.specs.Ordering.{nat_cmp}
use Rattle.object.specs.declared.command.Act.{Act}
use Rattle.object.specs.declared.command.Act.TheVariants.{Do, Close, Tick}
use Rattle.object.specs.declared.command.Command.{Command}
use Rattle.recorder.proofs.Between.{drop_item}
use Rattle.hall.specs.Tickets.{is_close}
use Rattle.recovery.specs.Obeyed.{AreLeftOpen}
use Rattle.recovery.specs.Opened.{EndsAll, is_left_open, is_open_after, is_open_behind}

-- the last command says of its own session whether it goes on
behind_last : {Op : Type 0} (q : ℕ) (was : Bool) (before : List (Command Op)) (c : Command Op)
    → is_open_behind q was (before ++ c ∷ []) ≡ is_open_after q (is_open_behind q was before) c
unfolding is_open_behind
behind_last q was [] c = refl
behind_last q was (b ∷ before) c = behind_last q (is_open_after q was b) before c

not_zero : (k q : ℕ) → (k == q) ≡ true → (k ≡ 0 → ⊥) → (q == 0) ≡ false
not_zero k q same some = grind (arith, nat_tests, same, some)

other_than_zero : (q : ℕ) → (q == 0) ≡ false → (0 == q) ≡ false
other_than_zero q some = grind (arith, nat_tests, some)

module _ {Op : Type 0} (c : Command Op) (before : List (Command Op)) where
  -- one of a session's commands
  pub live_more : (s n : BTreeSet ℕ) (b : Bool) → (c.key.session ≡ 0 → ⊥) → Updates nat_cmp s n c.key.session b → b ≡ not (is_close c.act)
      → AreLeftOpen s before → AreLeftOpen n (before ++ c ∷ [])
  live_more s n b some updates is left q =
      updates.0 q ∙ ap (λ t. cond t b (contains nat_cmp s q)) (unsigned_tied c.key.session q)
      ∙ at (c.key.session == q) refl
      ∙ ap (λ r. not (q == 0) && r) (sym (behind_last q false before c))
    where
      at : (t : Bool) → (c.key.session == q) ≡ t
          → cond t b (contains nat_cmp s q) ≡ (not (q == 0) && cond t (not (is_close c.act)) (is_open_behind q false before))
      at true e = is ∙ sym (ap (λ z. not z && not (is_close c.act)) (not_zero c.key.session q e some))
      at false e = left q

  -- a second of the clock
  pub live_still : (s : BTreeSet ℕ) → c.key.session ≡ 0 → AreLeftOpen s before → AreLeftOpen s (before ++ c ∷ [])
  live_still s clock left q = left q ∙ at (q == 0) refl ∙ ap (λ r. not (q == 0) && r) (sym (behind_last q false before c))
    where
      at : (z : Bool) → (q == 0) ≡ z
          → (not z && is_open_behind q false before) ≡ (not z && cond (c.key.session == q) (not (is_close c.act)) (is_open_behind q false before))
      at true e = refl
      at false e = sym (ap (λ t. cond t (not (is_close c.act)) (is_open_behind q false before)) (ap (λ k. k == q) clock ∙ other_than_zero q e))

-- what was taken so far, and what is left, at an item of a list
pub take_item : {X : Type 0} (xs : List X) (i : ℕ) (x : X) → i < length xs → x ≡ get_or xs i x → take (i + 1) xs ≡ take i xs ++ x ∷ []
take_item xs i x inside at = take_more xs i x inside ∙ ap (λ y. take i xs ++ y ∷ []) (sym at)

module _ {Op : Type 0} (xs before : List (Command Op)) (i : ℕ) where
  -- the same sessions are open after an item more
  pub live_item : (c : Command Op) → i < length xs → c ≡ get_or xs i c → (n : BTreeSet ℕ) → AreLeftOpen n ((before ++ take i xs) ++ c ∷ [])
      → AreLeftOpen n (before ++ take (i + 1) xs)
  live_item c inside at n = subst (AreLeftOpen n) (append_assoc before (take i xs) (c ∷ []) ∙ ap (λ ds. before ++ ds) (sym (take_item xs i c inside at)))

  -- and what is left has to end them
  pub ends_item : (c : Command Op) → i < length xs → c ≡ get_or xs i c → c.act ≡ Close → is_left_open c.key.session (before ++ take i xs) ≡ true
      → EndsAll (before ++ take (i + 1) xs) (drop (i + 1) xs) → EndsAll (before ++ take i xs) (drop i xs)
  unfolding EndsAll
  ends_item c inside at close was rest =
      subst (EndsAll (before ++ take i xs)) (sym (drop_item xs i c inside at)) (
        close,
        was,
        subst (λ ds. EndsAll ds (drop (i + 1) xs)) (sym (append_assoc before (take i xs) (c ∷ []) ∙
            ap (λ ds. before ++ ds) (sym (take_item xs i c inside at)))) rest,
      )

  -- at the end nobody is open
  pub ends_none : (n : BTreeSet ℕ) → length xs ≤ i → ((q : ℕ) → contains nat_cmp n q ≡ false) → AreLeftOpen n (before ++ take i xs)
      → EndsAll (before ++ take i xs) (drop i xs)
  unfolding EndsAll
  ends_none n past none left = subst (EndsAll (before ++ take i xs)) (sym (drop_all i xs past)) (λ q. sym (left q) ∙ none q)

-- who is open isn't the clock
pub open_some : {Op : Type 0} (q : ℕ) (ds : List (Command Op)) → is_left_open q ds ≡ true → q ≡ 0 → ⊥
open_some q ds was zero = absurd (let e = sym was ∙ ap (λ k. is_left_open k ds) zero in cc)

pub close_of : {Op : Type 0} (a : Act Op) → true ≡ is_close a → a ≡ Close
close_of (Do x) is = absurd (cc)
close_of Close is = refl
close_of Tick is = absurd (cc)

no_keys : (ks : List ℕ) → length ks ≡ 0 → ks ≡ []
no_keys [] none = refl
no_keys (k ∷ ks) none = absurd (omega (arith, none))

-- an empty set has nobody
pub none_in : (s : BTreeSet ℕ) → btree_set_len s ≡ 0 → (q : ℕ) → contains nat_cmp s q ≡ false
none_in s none q = ap (λ ks. contains nat_cmp (record { keys = ks }) q) (no_keys s.keys none)

pub are_equal : (a b : ℕ) → IsTrue (a == b) → a ≡ b
are_equal a b is = grind (arith, nat_tests, is)

-- at first nobody is open
pub none_left : (Op : Type 0) (q : ℕ) → false ≡ is_left_open {Op = Op} q []
unfolding is_open_behind
none_left Op q = at (q == 0)
  where
    at : (z : Bool) → false ≡ (not z && false)
    at true = refl
    at false = refl
