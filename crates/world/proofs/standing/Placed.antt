-- Whether a key is kept is told by the first command of its session whose number isn't lower.
use Rattle.std.proofs.Common.{◌≡◌, ◌⊎◌, inl, inr, ⊎_elim, ℕ, ◌==◌, Bool, true, false, true≢false, not}
use Rattle.std.proofs.Common.{◌&&◌, ◌||◌, nat_lt, cond, List, [], ◌∷◌, ◌++◌, map, Option, None, Some}
use Rattle.std.proofs.Common.{refl, sym, ap, ◌∙◌, subst, arith}
use Rattle.std.specs.Prelude.{◌↔◌, nat_le}
use Rattle.std.proofs.lemmas.Bool.{and_parts, and_from, cases_Bool}
use Rattle.std.proofs.lemmas.Bool.Decides.{nat_tests}
use Rattle.object.specs.Lists.{In}
use Rattle.object.specs.Replays.{is_new, kept_after}
use Rattle.object.specs.declared.command.Command.{Command}
use Rattle.object.specs.declared.command.Key.{Key}
use Rattle.agreement.specs.Worlds.{World}
use Rattle.object.specs.Keys.{same_key}
use Rattle.agreement.specs.Reached.{HasKey}
use Rattle.world.specs.Placed.{IsPlaced, first_as_late}
use Rattle.world.specs.Kept.{HasNoted}
use Rattle.ballot.specs.OrderLaws.{BallotLaws}
use Rattle.agreement.proofs.chosen.Invariants.{IsSound}
use Rattle.agreement.proofs.answered.Performed.{same_run}
use Rattle.object.specs.ReplayLaws.{is_before}
use Rattle.agreement.proofs.order.Rising.{kept_new}
use Rattle.object.specs.KeyLaws.{same_is, same_when}

-- of the key's session, and with no lower number
abbrev pub is_as_late : Key → Key → Bool
is_as_late own key = own.session == key.session && nat_le key.number own.number

-- the first such one is the key
abbrev pub finds : Key → List Key → Bool
finds key [] = false
finds key (own ∷ rest) = cond (is_as_late own key) (same_key own key) (finds key rest)

abbrev keys_of : {Op : Type 0} → List (Command Op) → List Key
keys_of cs = map (λ c. c.key) cs

-- each of them of the key's session has a lower number
abbrev AllLower : {Op : Type 0} → Key → List (Command Op) → Type 0
AllLower {Op} key seen = (d : Command Op) → In d seen → is_as_late d.key key ≡ false

lower_before : (ds dn s n : ℕ) → (ds == s && nat_le n dn) ≡ false → (not (ds == s) || nat_lt dn n) ≡ true
lower_before ds dn s n e = grind (arith, nat_tests)

late_after : (cs cn s n : ℕ) → (cs == s && nat_le n cn) ≡ true → (not (cs == s) || nat_lt cn n) ≡ true → ⊥
late_after cs cn s n e f = grind (arith, nat_tests)

late_itself : (s n : ℕ) → (s == s && nat_le n n) ≡ true
late_itself s n = grind (arith, nat_tests)

module _ {Op : Type 0} (key : Key) where
  new_here : (c : Command Op) → c.key ≡ key → (seen : List (Command Op)) → AllLower key seen → is_new c seen ≡ true
  new_here c same [] low = refl
  new_here c same (d ∷ seen) low =
      and_from (is_before c d) (is_new c seen)
      (subst (λ (k : Key). (not (d.key.session == k.session) || nat_lt d.key.number k.number) ≡ true) (sym same)
      (lower_before d.key.session d.key.number key.session key.number (low d (inl refl))))
      (new_here c same seen (λ x i. low x (inr i)))

  lower_too : (c : Command Op) (seen : List (Command Op)) → is_as_late c.key key ≡ false → AllLower key seen → AllLower key (c ∷ seen)
  lower_too c seen e low d (inl same) = subst (λ (x : Command Op). is_as_late x.key key ≡ false) (sym same) e
  lower_too c seen e low d (inr i) = low d i

  later_too : (c : Command Op) (test : Bool) (rest : List (Command Op)) → HasKey key rest → HasKey key (cond test (c ∷ rest) rest)
  later_too c true rest h = (h.0, inr h.1, h.2)
  later_too c false rest h = h

  first_kept : (c : Command Op) (test : Bool) (rest : List (Command Op)) → c.key ≡ key → test ≡ true → HasKey key (cond test (c ∷ rest) rest)
  first_kept c true rest same e = (c, inl refl, same)
  first_kept c false rest same e = absurd (true≢false (sym e))

  -- what is found is kept
  pub found_kept : (seen cs : List (Command Op)) → AllLower key seen → finds key (keys_of cs) ≡ true → HasKey key (kept_after seen cs)
  found_kept seen [] low e = absurd (true≢false (sym e))
  found_kept seen (c ∷ cs) low e = ⊎_elim
      (λ (t : is_as_late c.key key ≡ true).
      let same = same_is c.key key (sym (ap (λ b. cond b (same_key c.key key) (finds key (keys_of cs))) t) ∙ e) in
      first_kept c (is_new c seen) (kept_after (c ∷ seen) cs) same (new_here c same seen low))
      (λ (f : is_as_late c.key key ≡ false).
      later_too c (is_new c seen) (kept_after (c ∷ seen) cs)
      (found_kept (c ∷ seen) cs (lower_too c seen f low) (sym (ap (λ b. cond b (same_key c.key key) (finds key (keys_of cs))) f) ∙ e)))
      (cases_Bool (is_as_late c.key key))

  first_or_later : (c : Command Op) (test : Bool) (rest : List (Command Op)) → HasKey key (cond test (c ∷ rest) rest) → (c.key ≡ key) ⊎ HasKey key rest
  first_or_later c true rest (d, inl e, same) = inl (subst (λ (x : Command Op). x.key ≡ key) e same)
  first_or_later c true rest (d, inr i, same) = inr (d, i, same)
  first_or_later c false rest h = inr h

  pub has_late : (c : Command Op) → c.key ≡ key → is_as_late c.key key ≡ true
  has_late c same = subst (λ (k : Key). (k.session == key.session && nat_le key.number k.number) ≡ true) (sym same) (late_itself key.session key.number)

  -- no command of the key is kept behind a later one
  none_behind : (c : Command Op) (seen cs : List (Command Op)) → is_as_late c.key key ≡ true → HasKey key (kept_after (c ∷ seen) cs) → ⊥
  none_behind c seen cs late h =
      let new = and_parts (is_before h.0 c) (is_new h.0 seen) (kept_new (c ∷ seen) cs h.0 h.1).1 in
      late_after c.key.session c.key.number key.session key.number late
      (subst (λ (k : Key). (not (c.key.session == k.session) || nat_lt c.key.number k.number) ≡ true) h.2 new.0)

  -- and what is kept is found
  pub kept_found : (seen cs : List (Command Op)) → HasKey key (kept_after seen cs) → finds key (keys_of cs) ≡ true
  kept_found seen [] h = absurd h.1
  kept_found seen (c ∷ cs) h = ⊎_elim
      (λ (same : c.key ≡ key). ap (λ b. cond b (same_key c.key key) (finds key (keys_of cs))) (has_late c same) ∙ same_when c.key key same)
      (λ (rest : HasKey key (kept_after (c ∷ seen) cs)). ⊎_elim
      (λ (t : is_as_late c.key key ≡ true). absurd (none_behind c seen cs t rest))
      (λ (f : is_as_late c.key key ≡ false). ap (λ b. cond b (same_key c.key key) (finds key (keys_of cs))) f ∙ kept_found (c ∷ seen) cs rest)
      (cases_Bool (is_as_late c.key key)))
      (first_or_later c (is_new c seen) (kept_after (c ∷ seen) cs) h)

-- what the first of these keys that is as late tells
abbrev pub told : Key → Option Key → Bool
told key None = false
told key (Some own) = same_key own key

-- it is the first one that tells
pub finds_first : (key : Key) (ks : List Key) → finds key ks ≡ told key (first_as_late key ks)
finds_first key [] = refl
finds_first key (own ∷ rest) = step (is_as_late own key) (finds_first key rest)
  where
    step : (late : Bool) → finds key rest ≡ told key (first_as_late key rest)
        → cond late (same_key own key) (finds key rest) ≡ told key (cond late (Some own) (first_as_late key rest))
    step true h = refl
    step false h = h

-- the first of two lists of keys, one behind the other: one of the first list, or else of the second
before_step : (late : Bool) (key k own : Key) (ks ls : List Key)
    → (first_as_late key ks ≡ Some own → first_as_late key (ks ++ ls) ≡ Some own)
    → cond late (Some k) (first_as_late key ks) ≡ Some own
    → cond late (Some k) (first_as_late key (ks ++ ls)) ≡ Some own
before_step true key k own ks ls rest h = h
before_step false key k own ks ls rest h = rest h

pub late_before : (key own : Key) (ks ls : List Key) → first_as_late key ks ≡ Some own → first_as_late key (ks ++ ls) ≡ Some own
late_before key own [] ls h = absurd (cc)
late_before key own (k ∷ ks) ls h = before_step (is_as_late k key) key k own ks ls (late_before key own ks ls) h

behind_step : (late : Bool) (key k : Key) (ks ls : List Key)
    → (first_as_late key ks ≡ None → first_as_late key (ks ++ ls) ≡ first_as_late key ls)
    → cond late (Some k) (first_as_late key ks) ≡ None
    → cond late (Some k) (first_as_late key (ks ++ ls)) ≡ first_as_late key ls
behind_step true key k ks ls rest h = absurd (cc)
behind_step false key k ks ls rest h = rest h

pub late_behind : (key : Key) (ks ls : List Key) → first_as_late key ks ≡ None → first_as_late key (ks ++ ls) ≡ first_as_late key ls
late_behind key [] ls h = refl
late_behind key (k ∷ ks) ls h = behind_step (is_as_late k key) key k ks ls (late_behind key ks ls) h

-- keys are their own keys
own_keys : (ks : List Key) → map (λ (k : Key). k) ks ≡ ks
own_keys [] = refl
own_keys (k ∷ ks) = ap (λ xs. k ∷ xs) (own_keys ks)

pub performed_late : (key : Key) (ks own : List Key) → ks ≡ own → (found : Option Key)
    → found ≡ first_as_late key (map (λ (k : Key). k) ks) → found ≡ first_as_late key own
performed_late key ks own same found e = e ∙ ap (first_as_late key) (own_keys ks ∙ same)

-- what the noted keys tell is what the world tells
pub placed_when : (laws : BallotLaws) {Op Reply : Type 0} (w : World Op Reply) → IsSound w.cluster
    → (key : Key) (keys : List Key) → HasNoted w keys → (result : Bool) → result ≡ told key (first_as_late key keys)
    → (result ≡ true) ↔ IsPlaced w key
placed_when laws w i key keys noted result same = (
  λ e. (noted.0, noted.1, found_kept key [] noted.0 (λ d i. absurd i) (ap (finds key) (sym noted.2) ∙ finds_first key keys ∙ sym same ∙ e)),
  λ h. same ∙ sym (finds_first key keys) ∙ ap (finds key)
      (noted.2 ∙ ap keys_of (same_run laws w.cluster i 1 noted.0 h.0 noted.1.chosen h.1.chosen
      (noted.1.count ∙ sym h.1.count))) ∙ kept_found key [] h.0 h.2,
)
