-- slot_out grows by one: the decision there is performed, or it lies before slot_in.
use Rattle.std.proofs.Common.{◌≡◌, ◌⊎◌, inl, inr, ⊎_elim, ◌≤◌, ◌<◌, ◌+◌, ◌^◌, ℕ, Bool, true, false, ◌||◌, Option, Some, None, List}
use Rattle.std.proofs.Common.{Result, Ok, cond, [], ◌∷◌, ◌++◌, length, refl, ap, subst, sym, ◌∙◌, arith}
use Rattle.std.proofs.lemmas.Bool.{cases_lt, false≢true}
use Rattle.std.proofs.lemmas.List.Folds.{list_any-append}
use Rattle.std.specs.List.{list_any}
use Rattle.std.specs.Option.{SomeIff, is_some}
use Rattle.std.specs.Result.{is_ok}
use Rattle.object.specs.KeyMaps.{at_key, with_key}
use Rattle.std.specs.declared.collections.VecDeque.{VecDeque}
use Rattle.std.specs.declared.alloc.Global.{Global}
use Rattle.std.specs.VecDeque.{deque_len, deque_capacity}
use Rattle.std.specs.FinMap.{get, remove, len, values}
use Rattle.object.specs.declared.command.Key.{Key}
use Rattle.ballot.specs.Slots.{Slots}
use Rattle.slot_log.specs.declared.places.Place.{Place}
use Rattle.slot_log.specs.declared.places.Place.TheVariants.{Requested, Proposed, Decided}
use Rattle.slot_log.specs.declared.places.Places.{Places}
use Rattle.slot_log.specs.declared.slot_log.SlotLog.TheInside.{Inside}
use Rattle.slot_log.specs.Places.{ranked, is_found}
use Rattle.slot_log.specs.Requests.{is_known}
use Rattle.slot_log.specs.Proposals.{IsInWindow}
use Rattle.slot_log.specs.Kept.{book_of, standing, KeepsBook}
use Rattle.slot_log.proofs.Maps.{remove_cases, none_removed, remove_none}
use Rattle.slot_log.proofs.Held.{any_taken, any_found, goes_back, is_decided}
use Rattle.slot_log.proofs.Ranks.{ranked_more, ranked_last}
use Rattle.slot_log.proofs.Standing.{among, found_moved, placed}

-- what an option is at its value
pub value_when : {X : Type 0} (P : Type 0) (o : Option X) (v x : X) → SomeIff o P v → o ≡ Some x → x ≡ v
value_when P o v x iff is = (subst (λ o. SomeIff o P v) is iff).1

-- what a push within the room leaves
pub pushed : {C T E : Type 0} (now old : List C) (x : C) (r : Result T E) (t : T) → now ≡ cond (is_ok r) (old ++ x ∷ []) old → r ≡ Ok t → now ≡ old ++ x ∷ []
pushed now old x r t is ok = is ∙ ap (λ r. cond (is_ok r) (old ++ x ∷ []) old) ok

pub longer : {T E : Type 0} (now old : ℕ) (r : Result T E) (t : T) → now ≡ cond (is_ok r) (old + 1) old → r ≡ Ok t → now ≡ old + 1
longer now old r t is ok = is ∙ ap (λ r. cond (is_ok r) (old + 1) old) ok

module _ {C : Type 0} (same : C → C → Bool) (key_of : C → Key) (exact : (x y : C) → same x y ≡ true → x ≡ y) (itself : (x : C) → same x x ≡ true)
    (a : Inside C) (kept : KeepsBook same key_of a) where
  out_performed : is_some (get a.decisions a.slot_out) ≡ true → (s : ℕ) → a.slot_in ≤ s → s < a.slot_out + 1 → is_some (get a.decisions s) ≡ true
  out_performed there s low high =
      ⊎_elim (λ (l : s < a.slot_out). kept.performed s low l)
      (λ (l : a.slot_out ≤ s). let e : a.slot_out ≡ s = omega arith in subst (λ t. is_some (get a.decisions t) ≡ true) e there)
      (cases_lt s a.slot_out)

  -- what is asked of slot_out for that
  pub record MayPass : Type 0 where
    pub within : a.slot_out ≤ 2 ^ 62
    pub performed : (s : ℕ) → a.slot_in ≤ s → s < a.slot_out + 1 → is_some (get a.decisions s) ≡ true

  pub once_decided : is_some (get a.decisions a.slot_out) ≡ true → MayPass
  once_decided there = record { within = kept.within a.slot_out there; performed = out_performed there }

  pub before_slot_in : a.slot_out < a.slot_in → MayPass
  before_slot_in before = let numbered = kept.slot_in in record { within = omega arith; performed = λ s low high. absurd (omega arith) }

  gone : (s : ℕ) → get a.proposals s ≡ None → get (remove a.proposals a.slot_out) s ≡ None
  gone s none =
      ⊎_elim (λ (h : (s ≡ a.slot_out) × (get (remove a.proposals a.slot_out) s ≡ None)). h.1)
      (λ (h : get (remove a.proposals a.slot_out) s ≡ get a.proposals s). h ∙ none) (remove_cases a.proposals a.slot_out s)

  still_there : (s : ℕ) → is_some (get (remove a.proposals a.slot_out) s) ≡ true → is_some (get a.proposals s) ≡ true
  still_there s there =
      ⊎_elim (λ (h : (s ≡ a.slot_out) × (get (remove a.proposals a.slot_out) s ≡ None)). absurd (false≢true (ap is_some (sym h.1) ∙ there)))
      (λ (h : get (remove a.proposals a.slot_out) s ≡ get a.proposals s). ap is_some (sym h) ∙ there)
      (remove_cases a.proposals a.slot_out s)

  above : (n s : ℕ) → n ≤ s → (s ≡ n → ⊥) → n + 1 ≤ s
  above n s low other = omega arith

  still_near : (s : ℕ) → is_some (get (remove a.proposals a.slot_out) s) ≡ true → IsInWindow (a.slot_out + 1) s
  still_near s there =
      ⊎_elim (λ (h : (s ≡ a.slot_out) × (get (remove a.proposals a.slot_out) s ≡ None)). absurd (false≢true (ap is_some (sym h.1) ∙ there)))
      (λ (h : get (remove a.proposals a.slot_out) s ≡ get a.proposals s).
      let near = kept.near s (ap is_some (sym h) ∙ there) in
      let low = near.low in
      let high = near.high in
      record {
        low = above a.slot_out s low (λ e. false≢true
            (ap is_some (sym (none_removed a.proposals a.slot_out) ∙ ap (get (remove a.proposals a.slot_out)) (sym e)) ∙
            there));
        high = omega arith;
      })
      (remove_cases a.proposals a.slot_out s)

  abbrev then : VecDeque C Global → Places C → Inside C
  then rs places = record a { slot_out = a.slot_out + 1; requests = rs; proposals = remove a.proposals a.slot_out; places = places }

  -- the fields are kept so, where the places find the same commands
  out_kept : (rs : VecDeque C Global) (places : Places C) → MayPass
      → deque_len rs + len (remove a.proposals a.slot_out) ≤ deque_capacity rs
      → ((c : C) → is_known same (book_of a) c ≡ is_known same (book_of (then rs places)) c) → places.others.items ≡ a.places.others.items
      → ((c : C) → is_known same (book_of a) c ≡ true → is_found same key_of (at_key places.by_key) (standing (then rs places)) a.places.others.items c ≡ true)
      → KeepsBook same key_of (then rs places)
  out_kept rs places passes room held others found =
      let within = passes.within in
      record {
        slot_in = kept.slot_in;
        slot_out = (omega arith, omega arith);
        front_rank = kept.front_rank;
        within = kept.within;
        performed = passes.performed;
        numbered = λ s there. kept.numbered s (still_there s there);
        near = still_near;
        ahead = λ s h. gone s (kept.ahead s h);
        room = room;
        others = λ c h. sym (held c) ∙ kept.others c (ap (λ (os : List C). among same os c) (sym others) ∙ h);
        found = λ c h. ap (λ (os : List C). is_found same key_of (at_key places.by_key) (standing (then rs places)) os c) others ∙ found c (held c ∙ h);
      }

  -- no proposal was there
  pub none_kept : get a.proposals a.slot_out ≡ None → MayPass → KeepsBook same key_of (then a.requests a.places)
  none_kept none passes =
      let left : remove a.proposals a.slot_out ≡ a.proposals = remove_none a.proposals a.slot_out none in
      out_kept a.requests a.places passes (subst (λ (m : Slots C). deque_len a.requests + len m ≤ deque_capacity a.requests) (sym left) kept.room)
      (λ c. ap (λ (m : Slots C). is_known same (record (book_of a) { proposals = m }) c) (sym left)) refl
      (λ c h. ap (λ (m : Slots C). is_found same key_of (at_key a.places.by_key)
      (standing (record a { proposals = m })) a.places.others.items c) left ∙ kept.found c h)

  module _ (x : C) (own : get a.proposals a.slot_out ≡ Some x) where
    proposal_known : is_known same (book_of a) x ≡ true
    proposal_known = ap (λ b. list_any (λ d. same d x) a.requests.items ||
        (b || list_any (λ d. same d x) (values a.decisions)))
        (any_found (λ d. same d x) a.proposals a.slot_out x own (itself x)) ∙ or_known
        (list_any (λ d. same d x) a.requests.items)
      where
        or_known : (r : Bool) → (r || true) ≡ true
        or_known true = refl
        or_known false = refl

    -- the proposal has a place, unless it is among the others
    pub proposal_placed : among same a.places.others.items x ≡ false → is_some (at_key a.places.by_key (key_of x)) ≡ true
    proposal_placed = placed same key_of exact itself (at_key a.places.by_key) (standing a) a.places.others.items x (kept.found x proposal_known)

    elsewhere : (s : ℕ) (c : C) → get a.proposals s ≡ Some c → (c ≡ x) ⊎ (get (remove a.proposals a.slot_out) s ≡ Some c)
    elsewhere s c there =
        ⊎_elim (λ (h : (s ≡ a.slot_out) × (get (remove a.proposals a.slot_out) s ≡ None)).
        let both : Some c ≡ Some x = sym there ∙ ap (get a.proposals) h.0 ∙ own in inl (cc))
        (λ (h : get (remove a.proposals a.slot_out) s ≡ get a.proposals s). inr (h ∙ there))
        (remove_cases a.proposals a.slot_out s)

    module _ (places : Places C) (to : Place)
        (puts : among same a.places.others.items x ≡ false → (q : Key) → at_key places.by_key q ≡ with_key (at_key a.places.by_key) (key_of x) to q)
        (leaves : among same a.places.others.items x ≡ true → (q : Key) → at_key places.by_key q ≡ at_key a.places.by_key q) where
      found_then : (rs : VecDeque C Global) → standing (then rs places) to ≡ Some x
          → ((p : Place) (c : C) → standing a p ≡ Some c → (c ≡ x) ⊎ (standing (then rs places) p ≡ Some c))
          → (c : C) → is_known same (book_of a) c ≡ true
          → is_found same key_of (at_key places.by_key) (standing (then rs places)) a.places.others.items c ≡ true
      found_then rs here keep c h =
          found_moved same key_of exact itself (at_key a.places.by_key) (at_key places.by_key) (standing a)
          (standing (then rs places)) a.places.others.items x to
          (kept.found x proposal_known) puts leaves here keep c (kept.found c h)

    -- the proposal was decided
    pub won_kept : get a.decisions a.slot_out ≡ Some x → (places : Places C)
        → (among same a.places.others.items x ≡ false → (q : Key)
        → at_key places.by_key q ≡ with_key (at_key a.places.by_key) (key_of x) (Decided a.slot_out) q)
        → (among same a.places.others.items x ≡ true → (q : Key) → at_key places.by_key q ≡ at_key a.places.by_key q)
        → places.others.items ≡ a.places.others.items
        → deque_len a.requests + len (remove a.proposals a.slot_out) ≤ deque_capacity a.requests
        → KeepsBook same key_of (then a.requests places)
    won_kept decided places puts leaves others room =
        let keep : (p : Place) (c : C) → standing a p ≡ Some c → (c ≡ x) ⊎ (standing (then a.requests places) p ≡ Some c) = still places in
        out_kept a.requests places (once_decided (ap is_some decided)) room
        (λ c.
        ap (λ b. list_any (λ d. same d c) a.requests.items || (b || list_any (λ d. same d c) (values a.decisions)))
        (any_taken (λ d. same d c) a.proposals a.slot_out x own)
        ∙ is_decided (same x c) (list_any (λ d. same d c) a.requests.items)
        (list_any (λ d. same d c) (values (remove a.proposals a.slot_out)))
        (list_any (λ d. same d c) (values a.decisions))
        (λ h. any_found (λ d. same d c) a.decisions a.slot_out x decided h))
        others (found_then places (Decided a.slot_out) puts leaves a.requests decided keep)
      where
        still : (places : Places C) (p : Place) (c : C) → standing a p ≡ Some c → (c ≡ x) ⊎ (standing (then a.requests places) p ≡ Some c)
        still places (Requested r) c there = inr there
        still places (Proposed s) c there = elsewhere s c there
        still places (Decided s) c there = inr there

    -- the proposal goes last in the requests
    pub lost_kept : MayPass → (rs : VecDeque C Global)
        → rs.items ≡ a.requests.items ++ x ∷ [] → (rank : ℕ) → rank ≡ a.front_rank + length a.requests.items
        → (places : Places C)
        → (among same a.places.others.items x ≡ false → (q : Key) → at_key places.by_key q ≡ with_key (at_key a.places.by_key) (key_of x) (Requested rank) q)
        → (among same a.places.others.items x ≡ true → (q : Key) → at_key places.by_key q ≡ at_key a.places.by_key q)
        → places.others.items ≡ a.places.others.items
        → deque_len rs + len (remove a.proposals a.slot_out) ≤ deque_capacity rs
        → KeepsBook same key_of (then rs places)
    lost_kept passes rs last rank behind places puts leaves others room =
        out_kept rs places passes room
        (λ c.
        ap (λ b. list_any (λ d. same d c) a.requests.items || (b || list_any (λ d. same d c) (values a.decisions)))
        (any_taken (λ d. same d c) a.proposals a.slot_out x own)
        ∙ goes_back (same x c) (list_any (λ d. same d c) a.requests.items)
        (list_any (λ d. same d c) (values (remove a.proposals a.slot_out)))
        (list_any (λ d. same d c) (values a.decisions))
        ∙ ap (λ b. b || (list_any (λ d. same d c) (values (remove a.proposals a.slot_out)) || list_any (λ d. same d c) (values a.decisions)))
        (sym (list_any-append (λ d. same d c) a.requests.items (x ∷ [])) ∙ ap (λ (ds : List C). list_any (λ d. same d c) ds) (sym last)))
        others
        (found_then places (Requested rank) puts leaves rs
        (ap (λ (ds : List C). ranked ds a.front_rank rank) last ∙ ranked_last a.requests.items x a.front_rank rank
        behind) still)
      where
        still : (p : Place) (c : C) → standing a p ≡ Some c → (c ≡ x) ⊎ (standing (then rs places) p ≡ Some c)
        still (Requested r) c there = inr (ap (λ (ds : List C). ranked ds a.front_rank r) last ∙ ranked_more a.requests.items (x ∷ []) a.front_rank r c there)
        still (Proposed s) c there = elsewhere s c there
        still (Decided s) c there = inr there
