-- One slot more after another, until nothing is left to perform.
use Rattle.std.proofs.Common.{◌≡◌, ◌≢◌, inl, inr, ⊎_elim, ℕ, zero, suc, ◌+◌, ◌-◌, ◌*◌, ◌<◌, ◌≤◌, max, Bool, true, false}
use Rattle.std.proofs.Common.{List, [], ◌∷◌, length, Option, None, Some, refl, sym, ap, ◌∙◌, subst, arith}
use Rattle.std.specs.Prelude.{nat_lt, not, ◌||◌, ◌==◌}
use Rattle.std.specs.List.{range_with_len, flat_map}
use Rattle.std.specs.Option.{option_to_list}
use Rattle.std.specs.FinMap.{get}
use Rattle.std.proofs.lemmas.Bool.{cases_eq, cases_lt, lt-ltb, ltb-true}
use Rattle.std.proofs.lemmas.Bool.Decides.{nat_tests}
use Rattle.object.specs.Lists.{In}
use Rattle.object.specs.ListLaws.{Each-at, In-left, In-right}
use Rattle.object.specs.declared.command.Command.{Command}
use Rattle.object.specs.Objects.{Rules, is_one}
use Rattle.ballot.specs.OrderLaws.{BallotLaws}
use Rattle.ballot.specs.Slots.{Slots}
use Rattle.slot_log.specs.Histories.{history}
use Rattle.node.specs.SlotLaws.{get_insert_same}
use Rattle.slot_log.specs.Books.{SlotBook}
use Rattle.slot_log.specs.Proposals.{next_proposal, proposed, proposed_next}
use Rattle.agreement.specs.Nodes.{node}
use Rattle.agreement.specs.Worlds.{World}
use Rattle.agreement.specs.Runs.{IsWorld, InEvery, most_events}
use Rattle.agreement.specs.declared.event.Event.{Event}
use Rattle.agreement.specs.declared.event.Event.TheVariants as events
use Rattle.agreement.proofs.chosen.LeaderRows.{none_not}
use Rattle.agreement.proofs.chosen.Reach.{reachable_sound, opened_at}
use Rattle.agreement.specs.Mentions.{Mentions, MentionsNode, ProposesOnly, MentionsBody}
use Rattle.agreement.specs.SlotBooks.{IsBookAfter, pending}
use Rattle.world.specs.Telling.{IsProposedAt}
use Rattle.world.specs.WaysOut.{first_book, IsAtRest, work, most_slots, HasMore, IsReady, IsWholePassage, stays as ready_stays}
use Rattle.world.specs.WaysOut.{proposes as ready_proposes, HasLearnt, HasDecided, knew, learnt, HasAdvanced}
use Rattle.world.specs.WaySteps.{IsDueAt}
use Rattle.world.specs.WaysOut.{MentionsAsMuch, Holds, in_requests, in_proposals, in_decisions}
use Rattle.world.proofs.ways.Booking.{holds_proposed, holds_learnt, holds_advanced, pending_proposed}
use Rattle.agreement.proofs.books.LeadingRuns.{in_every}
use Rattle.world.proofs.ways.Learning.{decided_next, ready_out}
use Rattle.agreement.proofs.books.Mentions.{new_of}
use Rattle.agreement.proofs.books.MentionsEvery.{mentions_step, mentions_weaker, next_open}
use Rattle.world.proofs.ways.Proposing.{first_request, next_there, free_there}
use Rattle.agreement.proofs.books.SlotBooks.{advanced_few, advanced_fewer}
use Rattle.agreement.proofs.books.SlotBooksEvery.{books}
use Rattle.world.proofs.ways.Telling.{IsProposedUpto, told, told_by_decision, told_by_proposal}

module _ (laws : BallotLaws) {O Op Reply : Type 0} (rules : Rules O Op Reply) where
  -- all slots are numbered from 1
  slots_from_1 : InEvery rules (λ w. Mentions (λ s c. 0 < s) w.cluster)
  slots_from_1 = in_every laws rules (λ w. Mentions (λ s c. 0 < s) w.cluster)
      (λ members. record {
        nodes = λ n. subst (MentionsNode (λ s c. 0 < s)) (sym (opened_at members n)) (new_of (λ s c. 0 < s) members n);
        letters = tt;
      })
      (λ w v e i step before. mentions_step laws rules (λ s c. 0 < s) w v e (reachable_sound laws rules w i.reachable) step (only w i e) before)
    where
      only : (w : World Op Reply) → IsWorld rules w → (e : Event Op) → ProposesOnly (λ s c. 0 < s) w e
      only w i (events.Submit n c) = tt
      only w i (events.Deliver j) = tt
      only w i (events.Wake n) = tt
      only w i (events.Nudge n) = tt
      only w i (events.Propose n) = λ s c e. let low = (next_open (node w.cluster n).replica s c e).next in let first =
          (books laws rules w i n).first in omega arith
      only w i (events.Perform n) = tt
      only w i (events.Restart n) = tt

  -- what is mentioned was proposed to node 1
  mentions_told : InEvery rules (λ w. Mentions (λ s c. 0 < s → IsProposedAt w.cluster s) w.cluster)
  mentions_told w i = mentions_weaker (λ s c. IsProposedUpto w.cluster s) (λ s c. 0 < s → IsProposedAt w.cluster s)
      (λ s c upto some. upto s some (omega arith)) w.cluster (told laws rules w i)

-- a test that a command of slot s is c, and that others may be any
abbrev is_only : {C : Type 0} → (C → C → Bool) → ℕ → C → ℕ → C → Bool
is_only same s c t d = not (t == s) || same c d

other_passes : {C : Type 0} (same : C → C → Bool) (s : ℕ) (c : C) (t : ℕ) (d : C) → t ≢ s → is_only same s c t d ≡ true
other_passes same s c t d apart = at (t == s) (grind (arith, nat_tests))
  where
    at : (b : Bool) → b ≡ false → (not b || same c d) ≡ true
    at true e = absurd (cc)
    at false e = refl

same_passes : {C : Type 0} (same : C → C → Bool) (s : ℕ) (c d : C) → is_only same s c s d ≡ true → same c d ≡ true
same_passes same s c d h = at (s == s) (grind (arith, nat_tests)) h
  where
    at : (b : Bool) → b ≡ true → (not b || same c d) ≡ true → same c d ≡ true
    at true e h = h
    at false e h = absurd (cc)

own_passes : {C : Type 0} (same : C → C → Bool) (s : ℕ) (c d : C) → same c d ≡ true → is_only same s c s d ≡ true
own_passes same s c d h = at (s == s)
  where
    at : (b : Bool) → (not b || same c d) ≡ true
    at true = h
    at false = refl

pending_proposed_next : {C : Type 0} (book : SlotBook C) (s : ℕ) (c : C) (more : List C)
    → next_proposal book ≡ Some (s, c) → book.requests ≡ c ∷ more → get book.proposals s ≡ None
    → pending (proposed_next book) ≡ pending book
pending_proposed_next book s c more is first none = ap (λ o. pending (proposed book o)) is ∙ pending_proposed book s c more first none

module _ (laws : BallotLaws) {O Op Reply : Type 0} (rules : Rules O Op Reply) (w v : World Op Reply) (i : IsWorld rules w)
    (more : HasMore w.cluster (first_book w.cluster).slot_out) (h : HasAdvanced (is_one rules) w.cluster (first_book v.cluster)) where
  booked : IsBookAfter w.taken (first_book w.cluster)
  booked = books laws rules w i 1

  -- nothing is known there where nothing was proposed
  unknown_there : (IsProposedAt w.cluster (first_book w.cluster).slot_out → ⊥) → get (first_book w.cluster).decisions (first_book w.cluster).slot_out ≡ None
  unknown_there new = at (get (first_book w.cluster).decisions (first_book w.cluster).slot_out) refl
    where
      at : (o : Option (Command Op)) → get (first_book w.cluster).decisions (first_book w.cluster).slot_out ≡ o → o ≡ None
      at None e = refl
      at (Some d) e = let first = booked.performed.first in absurd
          (new (told_by_decision laws rules w i 1 (first_book w.cluster).slot_out d e
          (first_book w.cluster).slot_out first (omega arith)))

  requests_there : (IsProposedAt w.cluster (first_book w.cluster).slot_out → ⊥) → (c : Command Op)
      × (rest : List (Command Op)) × ((first_book w.cluster).requests ≡ c ∷ rest)
  requests_there new = ⊎_elim (λ (there : IsProposedAt w.cluster (first_book w.cluster).slot_out). absurd (new there))
      (λ (some : 0 < length (first_book w.cluster).requests). first_request (first_book w.cluster).requests some) more

  -- what is proposed then
  module _ (new : IsProposedAt w.cluster (first_book w.cluster).slot_out → ⊥) where
    next_own : next_proposal (first_book w.cluster) ≡ Some ((first_book w.cluster).slot_out, (requests_there new).0)
    next_own = let r = requests_there new in next_there laws rules w i (first_book w.cluster).slot_out refl (unknown_there new) new r.0 r.1 r.2

    free_own : get (first_book w.cluster).proposals (first_book w.cluster).slot_out ≡ None
    free_own = let r = requests_there new in free_there laws rules w i (first_book w.cluster).slot_out refl (unknown_there new) new r.0 r.1 r.2

    next_book : proposed_next (first_book w.cluster) ≡ proposed (first_book w.cluster) (Some ((first_book w.cluster).slot_out, (requests_there new).0))
    next_book = ap (proposed (first_book w.cluster)) next_own

  pending_ready : (book : SlotBook (Command Op)) → IsReady w.cluster (first_book w.cluster).slot_out book → pending book ≡ pending (first_book w.cluster)
  pending_ready book (ready_stays there is) = ap pending is
  pending_ready book (ready_proposes new is) = let r =
      requests_there new in ap pending is ∙ pending_proposed_next (first_book w.cluster)
      (first_book w.cluster).slot_out r.0 r.1 (next_own new) r.2 (free_own new)

  pending_decided : (book : SlotBook (Command Op)) → HasDecided w.cluster (first_book w.cluster).slot_out book → pending book ≡ pending (first_book w.cluster)
  pending_decided book (knew c there is) = ap pending is
  pending_decided book (learnt l) = ap pending l.learns ∙ pending_ready l.before l.ready

  out_decided : (book : SlotBook (Command Op)) → HasDecided w.cluster (first_book w.cluster).slot_out book → book.slot_out ≡ (first_book w.cluster).slot_out
  out_decided book (knew c there is) = ap (λ b. b.slot_out) is
  out_decided book (learnt l) = ap (λ b. b.slot_out) l.learns ∙ ready_out w.cluster (first_book w.cluster).slot_out l.before l.ready

  pub out_after : (first_book v.cluster).slot_out ≡ (first_book w.cluster).slot_out + 1
  out_after = ap (λ b. b.slot_out) h.performed ∙ ap (λ n. n + 1) (out_decided h.before h.decided)

  pub pending_after : pending (first_book v.cluster) ≤ pending (first_book w.cluster)
  pending_after =
      let a = ap pending h.performed in
      let b = advanced_few (is_one rules) h.before in
      let c = pending_decided h.before h.decided in
      omega arith

  -- a slot that nobody had proposed anything for goes to the first request
  module _ (same_itself : (c : Command Op) → is_one rules c c ≡ true)
      (as_much : MentionsAsMuch w.cluster (first_book w.cluster).slot_out v.cluster)
      (new : IsProposedAt w.cluster (first_book w.cluster).slot_out → ⊥) where
    only_own : Mentions (λ t d. is_only (is_one rules) (first_book w.cluster).slot_out (requests_there new).0 t d ≡ true) v.cluster
    only_own =
        let r = requests_there new in
        let first = booked.performed.first in
        as_much (is_only (is_one rules) (first_book w.cluster).slot_out r.0)
        (λ c rest is never. own_passes (is_one rules) (first_book w.cluster).slot_out r.0 c
        (subst (λ d. is_one rules r.0 d ≡ true) (same_first r.0 c r.1 rest (sym r.2 ∙ is)) (same_itself r.0)))
        (mentions_weaker (λ t d. (0 < t → IsProposedAt w.cluster t)) (λ t d. is_only (is_one rules) (first_book w.cluster).slot_out r.0 t d ≡ true)
        (λ t d told_there. other_passes (is_one rules) (first_book w.cluster).slot_out r.0 t d
        (λ e. new (subst (IsProposedAt w.cluster) e (told_there (omega arith))))) w.cluster
        (mentions_told laws rules w i))
      where
        same_first : (c d : Command Op) (cs ds : List (Command Op)) → c ∷ cs ≡ d ∷ ds → c ≡ d
        same_first c d cs ds e = cc

    fewer_learnt : (l : HasLearnt w.cluster (first_book w.cluster).slot_out h.before)
        → IsReady w.cluster (first_book w.cluster).slot_out l.before
        → pending (first_book v.cluster) + 1 ≡ pending (first_book w.cluster)
    fewer_learnt l (ready_stays there is) = absurd (new there)
    fewer_learnt l (ready_proposes never is) =
        let r = requests_there new in
        let s = (first_book w.cluster).slot_out in
        let at : h.before.slot_out ≡ s = out_decided h.before h.decided in
        let proposal : get h.before.proposals s ≡ Some r.0 =
        ap (λ b. get b.proposals s) l.learns ∙ ap (λ b. get b.proposals s) is ∙ ap (λ b. get b.proposals s)
        (next_book new) ∙ get_insert_same (first_book w.cluster).proposals s r.0 in
        let known : get h.before.decisions s ≡ Some l.command = ap (λ b. get b.decisions s) l.learns ∙ get_insert_same l.before.decisions s l.command in
        let mine : is_one rules r.0 l.command ≡ true = same_passes (is_one rules) s r.0 l.command
        ((only_own.nodes 1).replica.decisions s l.command (ap (λ b. get b.decisions s) h.performed ∙ known)) in
        ap (λ n. n + 1) (ap pending h.performed)
        ∙ advanced_fewer (is_one rules) h.before r.0 l.command (ap (get h.before.decisions) at ∙ known) (ap (get h.before.proposals) at ∙ proposal) mine
        ∙ pending_decided h.before h.decided

    fewer_decided : HasDecided w.cluster (first_book w.cluster).slot_out h.before → pending (first_book v.cluster) + 1 ≡ pending (first_book w.cluster)
    fewer_decided (knew c there is) = none_not (unknown_there new) there
    fewer_decided (learnt l) = fewer_learnt l l.ready

    pub fewer_after : pending (first_book v.cluster) + 1 ≡ pending (first_book w.cluster)
    fewer_after = fewer_decided h.decided

  -- no command is lost
  module _ (exact : (c d : Command Op) → is_one rules c d ≡ true → c ≡ d) where
    holds_ready : (book : SlotBook (Command Op)) → IsReady w.cluster (first_book w.cluster).slot_out book
        → (d : Command Op) → Holds (first_book w.cluster) d → Holds book d
    holds_ready book (ready_stays there is) d held = subst (λ b. Holds b d) (sym is) held
    holds_ready book (ready_proposes new is) d held =
        let r = requests_there new in
        subst (λ b. Holds b d) (sym (is ∙ next_book new))
        (holds_proposed (first_book w.cluster) (first_book w.cluster).slot_out r.0 r.1 r.2 (free_own new) d held)

    holds_decided : (book : SlotBook (Command Op)) → HasDecided w.cluster (first_book w.cluster).slot_out book
        → (d : Command Op) → Holds (first_book w.cluster) d → Holds book d
    holds_decided book (knew c there is) d held = subst (λ b. Holds b d) (sym is) held
    holds_decided book (learnt l) d held =
        subst (λ b. Holds b d) (sym l.learns)
        (holds_learnt l.before (first_book w.cluster).slot_out l.command l.unknown d
        (holds_ready l.before l.ready d held))

    pub holds_after : (d : Command Op) → Holds (first_book w.cluster) d → Holds (first_book v.cluster) d
    holds_after d held =
        let known = decided_next w.cluster (first_book w.cluster).slot_out h.before h.decided refl in
        subst (λ b. Holds b d) (sym h.performed) (holds_advanced h.before (is_one rules) exact known.0 known.1 d (holds_decided h.before h.decided d held))

-- how much is left to perform: slots up to `top`, and commands
abbrev pub left : {C : Type 0} → ℕ → SlotBook C → ℕ
left top book = (top + 1 - book.slot_out) + pending book

-- a way that brings a command c, from world w on: nothing is mentioned beyond `top` but in slots that are performed, and
-- there is room for all that is left
pub record IsBringing {Op Reply : Type 0} (w v : World Op Reply) (top : ℕ) (c : Command Op) : Type 0 where
  pub at_rest : IsAtRest v.cluster
  pub near : Mentions (λ s d. s < max (top + 1) (first_book v.cluster).slot_out) v.cluster
  pub spent : v.taken + work v.cluster + 20 * left top (first_book v.cluster) ≤ most_events
  pub low : (first_book v.cluster).slot_out + left top (first_book v.cluster) ≤ most_slots
  pub holds : Holds (first_book v.cluster) c
  pub submitted : v.happenings.submitted ≡ w.happenings.submitted

module _ (laws : BallotLaws) {O Op Reply : Type 0} (rules : Rules O Op Reply) (w v : World Op Reply)
    (i : IsWorld rules v) (top : ℕ) (c : Command Op) (h : IsBringing w v top c) (more : HasMore v.cluster (first_book v.cluster).slot_out) where
  -- beyond `top` nothing is proposed
  new_beyond : top < (first_book v.cluster).slot_out → IsProposedAt v.cluster (first_book v.cluster).slot_out → ⊥
  new_beyond beyond p =
      let low : (first_book v.cluster).slot_out < max (top + 1) (first_book v.cluster).slot_out =
      subst (MentionsBody (λ s d. s < max (top + 1) (first_book v.cluster).slot_out)) p.body
      (Each-at (λ l. MentionsBody (λ s d. s < max (top + 1) (first_book v.cluster).slot_out) l.body)
      v.cluster.letters p.letter h.near.letters p.sent) in
      absurd (omega arith)

  -- something is left
  some_left_there : 0 < left top (first_book v.cluster)
  some_left_there = ⊎_elim
      (λ (within : (first_book v.cluster).slot_out < top + 1). omega arith)
      (λ (beyond : top + 1 ≤ (first_book v.cluster).slot_out). ⊎_elim
      (λ (p : IsProposedAt v.cluster (first_book v.cluster).slot_out). absurd (new_beyond (omega arith) p))
      (λ (some : 0 < length (first_book v.cluster).requests). omega arith)
      more)
      (cases_lt (first_book v.cluster).slot_out (top + 1))

  pub advance_due : IsDueAt v (first_book v.cluster).slot_out 20
  advance_due = record {
    at_rest = h.at_rest;
    next = refl;
    more = more;
    low = let a = h.low in omega arith;
    room = record {
      small = mentions_weaker (λ s d. s < max (top + 1) (first_book v.cluster).slot_out) (λ s d. s ≤ most_slots)
          (λ s d near. let a = h.low in let b = some_left_there in small_of s near) v.cluster h.near;
      room = let a = h.spent in let b = some_left_there in omega arith;
    };
  }
    where
      small_of : (s : ℕ) → s < max (top + 1) (first_book v.cluster).slot_out → s ≤ most_slots
      small_of s near = let a = h.low in omega arith

  module _ {u : World Op Reply} {before after : List (Event Op)} (exact : (a b : Command Op) → is_one rules a b ≡ true → a ≡ b)
      (same_itself : (a : Command Op) → is_one rules a a ≡ true) (advanced_to : HasAdvanced (is_one rules) v.cluster (first_book u.cluster))
      (p : IsWholePassage rules (first_book v.cluster).slot_out 20 v before u after) where
    pub less_left : left top (first_book u.cluster) < left top (first_book v.cluster)
    less_left =
        let on = out_after laws rules v u i more advanced_to in
        ⊎_elim
        (λ (within : (first_book v.cluster).slot_out < top + 1). let a = pending_after laws rules v u i more advanced_to in omega arith)
        (λ (beyond : top + 1 ≤ (first_book v.cluster).slot_out). let a =
        fewer_after laws rules v u i more advanced_to same_itself p.passage.mentions (new_beyond (omega arith)) in omega arith)
        (cases_lt (first_book v.cluster).slot_out (top + 1))

    near_now : Mentions (λ s d. s < max (top + 1) (first_book u.cluster).slot_out) u.cluster
    near_now =
        let on = out_after laws rules v u i more advanced_to in
        mentions_weaker (λ s d. nat_lt s (max (top + 1) (first_book u.cluster).slot_out) ≡ true)
        (λ s d. s < max (top + 1) (first_book u.cluster).slot_out)
        (λ s d near. ltb-true s (max (top + 1) (first_book u.cluster).slot_out) near) u.cluster
        (p.passage.mentions (λ s d. nat_lt s (max (top + 1) (first_book u.cluster).slot_out))
        (λ d rest is never. lt-ltb (first_book v.cluster).slot_out (max (top + 1) (first_book u.cluster).slot_out) (omega arith))
        (mentions_weaker (λ s d. s < max (top + 1) (first_book v.cluster).slot_out)
        (λ s d. nat_lt s (max (top + 1) (first_book u.cluster).slot_out) ≡ true)
        (λ s d near. lt-ltb s (max (top + 1) (first_book u.cluster).slot_out) (omega arith)) v.cluster h.near))

    pub brings_on : IsBringing w u top c
    brings_on = record {
      at_rest = p.at_rest;
      near = near_now;
      spent = let a = h.spent in let b = less_left in let e = p.passage.spent in omega arith;
      low = let a = h.low in let b = less_left in let on = out_after laws rules v u i more advanced_to in omega arith;
      holds = holds_after laws rules v u i more advanced_to exact c h.holds;
      submitted = p.passage.submitted ∙ h.submitted;
    }

-- where nothing is left, the command was performed
in_commands : {C : Type 0} (m : Slots C) (s : ℕ) (c : C) → get m s ≡ Some c → (base n : ℕ) → base ≤ s → s < base + n
    → In c (flat_map (λ t. option_to_list (get m t)) (range_with_len base n))
in_commands m s c there base zero low high = absurd (omega arith)
in_commands m s c there base (suc n) low high = ⊎_elim
    (λ (e : s ≡ base). In-left c (option_to_list (get m base))
    (flat_map (λ t. option_to_list (get m t)) (range_with_len (base + 1) n))
    (subst (λ o. In c (option_to_list o)) (sym (subst (λ t. get m t ≡ Some c) e there)) (inl refl)))
    (λ (apart : s ≢ base). In-right c (option_to_list (get m base))
    (flat_map (λ t. option_to_list (get m t)) (range_with_len (base + 1) n))
    (in_commands m s c there (base + 1) n (omega arith) (omega arith)))
    (cases_eq s base)

pub performed_then : (laws : BallotLaws) {O Op Reply : Type 0} (rules : Rules O Op Reply) (v : World Op Reply)
    → IsWorld rules v → (c : Command Op) → Holds (first_book v.cluster) c → (HasMore v.cluster (first_book v.cluster).slot_out → ⊥)
    → In c (history (first_book v.cluster))
performed_then laws {Op = Op} rules v i c held nothing = of_held held
  where
    new : IsProposedAt v.cluster (first_book v.cluster).slot_out → ⊥
    new there = nothing (inl there)

    first : 0 < (first_book v.cluster).slot_out
    first = (books laws rules v i 1).performed.first

    of_decided : (s : ℕ) → get (first_book v.cluster).decisions s ≡ Some c → In c (history (first_book v.cluster))
    of_decided s there = ⊎_elim
        (λ (before : s < (first_book v.cluster).slot_out). let some = ((slots_from_1 laws rules v i).nodes 1).replica.decisions s c there in
        in_commands (first_book v.cluster).decisions s c there 1 ((first_book v.cluster).slot_out - 1) (omega arith) (let f = first in omega arith))
        (λ (past : (first_book v.cluster).slot_out ≤ s). absurd (new (told_by_decision laws rules v i 1 s c there (first_book v.cluster).slot_out first past)))
        (cases_lt s (first_book v.cluster).slot_out)

    some_in : (requests : List (Command Op)) → In c requests → 0 < length requests
    some_in [] within = absurd within
    some_in (d ∷ more) within = omega arith

    of_held : Holds (first_book v.cluster) c → In c (history (first_book v.cluster))
    of_held (in_requests within) = absurd (nothing (inr (some_in (first_book v.cluster).requests within)))
    of_held (in_proposals s there) =
        absurd (new (told_by_proposal laws rules v i 1 s c there (first_book v.cluster).slot_out first
        ((books laws rules v i 1).near s c there).low))
    of_held (in_decisions s there) = of_decided s there
