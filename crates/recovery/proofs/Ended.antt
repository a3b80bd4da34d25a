-- Which sessions have ended, and whether one goes on, after one command more.
use Rattle.std.proofs.Common.{◌≡◌, ◌==◌, ◌&&◌, ◌||◌, ◌<◌, ◌≤◌, ◌+◌, ℕ, Bool, true, false, cond, List, [], ◌∷◌, ◌++◌, length, take, drop, refl, sym, ap, ◌∙◌}
use Rattle.std.proofs.lemmas.List.{drop_all}
use Rattle.std.proofs.lemmas.List.Folds.{list_any_more}
use lib.ListN.{get_or}
use Rattle.std.specs.BTreeSet.{BTreeSet, contains, Updates}
use Rattle.std.specs.Cmp.{unsigned_tied}
use Rattle.std.specs.List.{list_any}
use Rattle.std.specs.Ordering.{nat_cmp}
use Rattle.object.specs.declared.command.Command.{Command}
use Rattle.recorder.proofs.Between.{drop_item}
use Rattle.hall.specs.Tickets.{is_close}
use Rattle.recovery.specs.UsedAgain.{has_end_of, uses_again}
use Rattle.recovery.proofs.Live.{take_item}

or_more : (a b : Bool) → cond b true a ≡ (a || b)
or_more true true = refl
or_more true false = refl
or_more false true = refl
or_more false false = refl

or_none : (a : Bool) → a ≡ (a || false)
or_none true = refl
or_none false = refl

-- these are the sessions that the commands end
abbrev pub AreEnded : {Op : Type 0} → BTreeSet ℕ → List (Command Op) → Type 0
AreEnded ended commands = (session : ℕ) → contains nat_cmp ended session ≡ has_end_of session commands

module _ {Op : Type 0} (xs : List (Command Op)) (i : ℕ) (c : Command Op) (inside : i < length xs) (at : c ≡ get_or xs i c) where
  has_end_item : (q : ℕ) (t : Bool) → is_close c.act ≡ t → (has_end_of q (take i xs) || (t && (c.key.session == q))) ≡ has_end_of q (take (i + 1) xs)
  has_end_item q t is =
      let ends = λ (d : Command Op). is_close d.act && (d.key.session == q) in
      ap (λ b. list_any ends (take i xs) || (b && (c.key.session == q))) (sym is)
      ∙ ap (λ d. list_any ends (take i xs) || ends d) at
      ∙ sym (list_any_more ends xs i c inside)

  -- one that ends its session
  pub ended_more : (s n : BTreeSet ℕ) → is_close c.act ≡ true → Updates nat_cmp s n c.key.session true → AreEnded s (take i xs) → AreEnded n (take (i + 1) xs)
  ended_more s n close updates were q =
      updates.0 q ∙ ap (λ t. cond t true (contains nat_cmp s q)) (unsigned_tied c.key.session q)
      ∙ or_more (contains nat_cmp s q) (c.key.session == q)
      ∙ ap (λ t. t || (c.key.session == q)) (were q)
      ∙ has_end_item q true close

  -- one that doesn't
  pub ended_still : (s : BTreeSet ℕ) → is_close c.act ≡ false → AreEnded s (take i xs) → AreEnded s (take (i + 1) xs)
  ended_still s is_no_end were q = were q ∙ or_none (has_end_of q (take i xs)) ∙ has_end_item q false is_no_end

  -- one that doesn't come behind the end of its session
  pub uses_on : has_end_of c.key.session (take i xs) ≡ false → uses_again (take (i + 1) xs) (drop (i + 1) xs) ≡ uses_again (take i xs) (drop i xs)
  unfolding uses_again
  uses_on none =
      let rest = drop (i + 1) xs in
      ap (λ before. uses_again before rest) (take_item xs i c inside at)
      ∙ ap (λ t. t || uses_again (take i xs ++ c ∷ []) rest) (sym none)
      ∙ ap (uses_again (take i xs)) (sym (drop_item xs i c inside at))

  -- and one that does
  pub uses_here : has_end_of c.key.session (take i xs) ≡ true → uses_again (take i xs) (drop i xs) ≡ true
  unfolding uses_again
  uses_here some =
      ap (uses_again (take i xs)) (drop_item xs i c inside at)
      ∙ ap (λ t. t || uses_again (take i xs ++ c ∷ []) (drop (i + 1) xs)) some

-- behind all of them nothing is left to tell
pub uses_none : {Op : Type 0} (xs : List (Command Op)) (i : ℕ) → length xs ≤ i → uses_again (take i xs) (drop i xs) ≡ false
unfolding uses_again
uses_none xs i past = ap (uses_again (take i xs)) (drop_all i xs past)
