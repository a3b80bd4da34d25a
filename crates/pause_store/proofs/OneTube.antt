-- A pause is of its tube alone.
use Rattle.std.proofs.Common.{◌≡◌, ℕ, ◌+◌, true, false, cond, not, ◌||◌, inl, inr, List, [], ◌∷◌, ◌==◌, nat_lt}
use Rattle.std.proofs.Common.{bytes_eq, Less, Equal, Greater, refl, sym, ap, ◌∙◌, true≢false}
use Rattle.std.specs.List.{filter}
use Rattle.std.specs.Ordering.{match_ordering, is_eq}
use Rattle.std.specs.Map.{keys_of}
use Rattle.std.specs.BTreeMap.{insert_entry}
use Rattle.std.proofs.lemmas.Map.Text.{is_eq-slice_cmp}
use Rattle.std.proofs.lemmas.Slice.Eq.{bytes_eq-Decides}
use Rattle.object.specs.Lists.{In}
use Rattle.bean_words.specs.Names.{name_cmp}
use Rattle.tube_store.proofs.NameMaps.{itself, another}
use Rattle.pause_store.specs.Pauses.{PauseState, is_paused, left_at, tubes_over, unpaused, paused_until, paused_for}

its-paused : (tube : List ℕ) (v : ℕ) (es : List (List ℕ × ℕ)) → is_paused tube (insert_entry name_cmp es tube v) ≡ true
its-paused tube v [] = ap (λ b. b || false) (itself tube)
its-paused tube v (e ∷ es) =
    elim (name_cmp tube e.0) as (λ o. name_cmp tube e.0 ≡ o
    → is_paused tube (match_ordering o ((tube, v) ∷ e ∷ es) ((e.0, v) ∷ es) (e ∷ insert_entry name_cmp es tube v))
    ≡ true) [
      | Less ↦ λ o. ap (λ b. b || is_paused tube (e ∷ es)) (itself tube)
      | Equal ↦ λ o. ap (λ b. b || is_paused tube es) (sym (is_eq-slice_cmp tube e.0) ∙ ap is_eq o)
      | Greater ↦ λ o. ap (λ b. b || is_paused tube (insert_entry name_cmp es tube v)) (sym (is_eq-slice_cmp tube e.0) ∙ ap is_eq o) ∙ its-paused tube v es
    ] refl

its-unpaused : (tube : List ℕ) (es : List (List ℕ × ℕ)) → is_paused tube (unpaused tube es) ≡ false
its-unpaused tube [] = refl
its-unpaused tube (e ∷ es) =
    elim (bytes_eq tube e.0) as (λ b. bytes_eq tube e.0 ≡ b → is_paused tube (cond (not b) (e ∷ unpaused tube es) (unpaused tube es)) ≡ false) [
      | true ↦ λ t. its-unpaused tube es
      | false ↦ λ t. ap (λ b. b || is_paused tube (unpaused tube es)) t ∙ its-unpaused tube es
    ] refl

pub its-own : (tube : List ℕ) (seconds : ℕ) (s : PauseState) → is_paused tube (paused_for tube seconds s).pauses ≡ not (seconds == 0)
its-own tube seconds s =
    elim (seconds == 0) as (λ b. is_paused tube (cond b (unpaused tube s.pauses) (paused_until tube (s.second + seconds) s.pauses)) ≡ not b) [
      | true ↦ its-unpaused tube s.pauses
      | false ↦ its-paused tube (s.second + seconds) s.pauses
    ]

other-paused : (tube other : List ℕ) (v : ℕ) (es : List (List ℕ × ℕ)) → (other ≡ tube → ⊥)
    → is_paused other (insert_entry name_cmp es tube v) ≡ is_paused other es
other-paused tube other v [] apart = ap (λ b. b || false) (another other tube apart)
other-paused tube other v (e ∷ es) apart =
    elim (name_cmp tube e.0) as (λ o. is_paused other
    (match_ordering o ((tube, v) ∷ e ∷ es) ((e.0, v) ∷ es) (e ∷ insert_entry name_cmp es tube v))
    ≡ is_paused other (e ∷ es)) [
      | Less ↦ ap (λ b. b || is_paused other (e ∷ es)) (another other tube apart)
      | Equal ↦ refl
      | Greater ↦ ap (λ b. bytes_eq other e.0 || b) (other-paused tube other v es apart)
    ]

other-unpaused : (tube other : List ℕ) (es : List (List ℕ × ℕ)) → (other ≡ tube → ⊥) → is_paused other (unpaused tube es) ≡ is_paused other es
other-unpaused tube other [] apart = refl
other-unpaused tube other (e ∷ es) apart =
    let rest = unpaused tube es in
    elim (bytes_eq tube e.0) as (λ b. bytes_eq tube e.0 ≡ b → is_paused other (cond (not b) (e ∷ rest) rest) ≡ is_paused other (e ∷ es)) [
      | true ↦ λ t.
          let gone : bytes_eq other e.0 ≡ false = another other e.0 (λ same. apart (same ∙ sym ((bytes_eq-Decides tube e.0).0 t))) in
          other-unpaused tube other es apart ∙ sym (ap (λ b. b || is_paused other es) gone)
      | false ↦ λ t. ap (λ b. bytes_eq other e.0 || b) (other-unpaused tube other es apart)
    ] refl

pub others : (tube other : List ℕ) (seconds : ℕ) (s : PauseState) → (other ≡ tube → ⊥)
    → is_paused other (paused_for tube seconds s).pauses ≡ is_paused other s.pauses
others tube other seconds s apart =
    elim (seconds == 0) as (λ b. is_paused other
    (cond b (unpaused tube s.pauses) (paused_until tube (s.second + seconds) s.pauses)) ≡ is_paused other s.pauses) [
      | true ↦ other-unpaused tube other s.pauses apart
      | false ↦ other-paused tube other (s.second + seconds) s.pauses apart
    ]

pub goes-on-or-over : (tube : List ℕ) (second : ℕ) (es : List (List ℕ × ℕ)) → is_paused tube es ≡ true
    → is_paused tube (left_at second es) ≡ false → In tube (tubes_over second es)
goes-on-or-over tube second [] paused ended = absurd (true≢false (sym paused))
goes-on-or-over tube second (e ∷ es) paused ended =
    let rest = left_at second es in
    let over = filter (λ (p : List ℕ × ℕ). not (nat_lt second p.1)) es in
    elim (nat_lt second e.1) as (λ l. is_paused tube (cond l (e ∷ rest) rest) ≡ false → In tube (keys_of (cond (not l) (e ∷ over) over))) [
      | true ↦ λ left.
          elim (bytes_eq tube e.0) as (λ b. (b || is_paused tube es) ≡ true → (b || is_paused tube rest) ≡ false → In tube (keys_of over)) [
            | true ↦ λ _ l. absurd (true≢false l)
            | false ↦ λ p l. goes-on-or-over tube second es p l
          ] paused left
      | false ↦ λ left.
          elim (bytes_eq tube e.0) as (λ b. bytes_eq tube e.0 ≡ b → (b || is_paused tube es) ≡ true → In tube (keys_of (e ∷ over))) [
            | true ↦ λ t _. inl ((bytes_eq-Decides tube e.0).0 t)
            | false ↦ λ t p. inr (goes-on-or-over tube second es p left)
          ] refl paused
    ] ended
