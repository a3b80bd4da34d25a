-- A host that shows a node of a world shows that of the next one.
use Rattle.std.proofs.Common.{◌≡◌, ◌<◌, ◌≤◌, ◌⊎◌, inl, inr, ℕ, suc, Bool, true, false, cond, List, [], ◌∷◌}
use Rattle.std.proofs.Common.{◌++◌, not, ◌||◌, ◌==◌, length, Option, Some, None, refl, sym, ap, ◌∙◌, subst}
use Rattle.std.proofs.Common.{append-nil, arith}
use Rattle.std.specs.Prelude.{slice_get, IsSome, nat_lt}
use Rattle.std.specs.FinMap.{get}
use Rattle.std.specs.List.{list_all}
use Rattle.std.proofs.lemmas.Bool.{and_parts}
use Rattle.std.proofs.lemmas.Bool.Decides.{nat_tests}
use Rattle.object.specs.FilterLaws.{FilterLaws, later_obeyed}
use Rattle.object.specs.Lists.{In}
use Rattle.object.specs.ListLaws.{In-right}
use Rattle.object.specs.Happenings.{Happenings, with_submission, with_answers}
use Rattle.object.specs.Objects.{Rules, is_one}
use Rattle.object.specs.Obeying.{obeyed}
use Rattle.object.specs.OnceOnly.{Filtered, is_later}
use Rattle.object.specs.Replays.{is_new}
use Rattle.object.specs.declared.command.Command.{Command}
use Rattle.ballot.specs.OrderLaws.{BallotLaws}
use Rattle.ballot.specs.Rests.{pvalues_from, rest_of_body, rests}
use Rattle.ballot.specs.declared.pvalue.Pvalue.{Pvalue}
use Rattle.ballot.specs.declared.letter.Letter.{Letter}
use Rattle.ballot.specs.declared.letter.LetterBody.{LetterBody}
use Rattle.ballot.specs.declared.letter.LetterBody.TheVariants.{P1a, P1b, P2a, P2b, Propose, Decision, Ask}
use Rattle.acceptor.specs.Acceptors.{Acceptances, Keeps, after_p1a, after_p2a}
use Rattle.acceptor.specs.Rests.{rest_of_acceptor}
use Rattle.leader.specs.Rests.{StandInSlots}
use Rattle.slot_log.specs.Decisions.{next_decided}
use Rattle.slot_log.specs.Histories.{history}
use Rattle.slot_log.specs.Proposals.{next_proposal, proposed}
use Rattle.slot_log.specs.Requests.{is_known}
use Rattle.slot_log.specs.Rests.{IsPast}
use Rattle.node.specs.Nodes.{NodeState, members_of, number_of}
use Rattle.node.specs.Deeds.{Turn, acted, performing, outcome_of}
use Rattle.node.specs.Holding.{Holding, HeldTurn, outcome_held}
use Rattle.node.specs.PlaceLaws.{node_put_same}
use Rattle.node.specs.Receiving.{IsFit, ShowsNode, ShowsReceived, Receives, promises_ballot, accepts_pvalue}
use Rattle.node.specs.Receiving.{hears_promise, hears_vote}
use Rattle.node.specs.Receiving.{hears_proposal, learns, tells_decisions}
use Rattle.node.specs.Rests.{rest_of_node}
use Rattle.node.specs.declared.deed.Deed.{Deed}
use Rattle.node.specs.declared.deed.Deed.TheVariants as deeds
use Rattle.agreement.specs.Nodes.{Cluster, node, turned}
use Rattle.agreement.specs.Worlds.{World}
use Rattle.agreement.specs.Runs.{IsWorld}
use Rattle.agreement.specs.SlotBooks.{IsBookAfter}
use Rattle.agreement.specs.Steps.{AsksForItsOwn, submit, deliver, wake, nudge, propose, perform, after_performing}
use Rattle.agreement.specs.Steps.{counted, with_cluster}
use Rattle.agreement.proofs.every.Every.{may_receive}
use Rattle.agreement.proofs.chosen.Invariants.{IsSound}
use Rattle.agreement.proofs.chosen.Reach.{reachable_sound}
use Rattle.agreement.proofs.chosen.Sets.{member_bounds}
use Rattle.agreement.proofs.books.SlotBooksEvery.{books}
use Rattle.forgetting.specs.Asking.{IsLastOfSession}
use Rattle.forgetting.specs.Holding.{ShowsHeld, IsHeldTurn, AsksForLast, acted_held}
use Rattle.forgetting.proofs.Holding.{acted_is_held, outcome_is_held, history_received}
use Rattle.forgetting.proofs.Nodes.{left, rest_p2a, rest_receives, rest_fit}
use Rattle.node.proofs.Keeping.{keeps_all, keeps_p1a, keeps_p2a}
use Rattle.node.proofs.Shown.{fit_shown}
use Rattle.cluster.specs.Hosts.{HostState, ShowsHost, host_turn, with_holding, with_node_state}
use Rattle.cluster.specs.Envelopes.{Envelope, IsEnvelopeOf, AreEnvelopesOf, IsLegible}
use Rattle.cluster.specs.Storing.{Stored, IsStored, stored_after}
use Rattle.cluster.specs.Asking.{AsksForLastSubmitted, AsksForUnknown}
use Rattle.cluster.specs.Acting.{HostActs, HostReceives}
use Rattle.cluster.proofs.alone.Envelopes.{envelopes_of, read_left}
use Rattle.cluster.proofs.alone.Slots.{none_at_zero, asks_for_last}

-- slot_out never falls
module _ {O Op Reply : Type 0} (rules : Rules O Op Reply) (members : List ℕ) (n : ℕ) (x : NodeState (Command Op)) where
  asked_out : (c : Command Op) (b : Bool)
      → x.replica.slot_out ≤ (cond b x.replica (record x.replica {
        requests = x.replica.requests ++
            (c ∷ []);
      })).slot_out
  asked_out c true = omega arith
  asked_out c false = omega arith

  proposed_out : (o : Option (ℕ × Command Op)) → x.replica.slot_out ≤ (proposed x.replica o).slot_out
  proposed_out None = omega arith
  proposed_out (Some p) = omega arith

  performed_out : (o : Option (Command Op)) → x.replica.slot_out ≤ (performing rules x o).state.replica.slot_out
  performed_out None = omega arith
  performed_out (Some c) = omega arith

  acted_out : (d : Deed Op) → AsksForLast x d → x.replica.slot_out ≤ (acted rules members n x d).state.replica.slot_out
  acted_out (deeds.Request c) h = asked_out c (is_known (is_one rules) x.replica c)
  acted_out deeds.Wake h = omega arith
  acted_out deeds.Nudge h = omega arith
  acted_out deeds.Propose h = proposed_out (next_proposal x.replica)
  acted_out deeds.Perform h = performed_out (next_decided x.replica)
  acted_out deeds.Restart h = absurd h

received_out : {C : Type 0} (members : List ℕ) (m n : ℕ) (x : NodeState C) (body : LetterBody C) (y : NodeState C)
    (out : List (Letter C)) → Receives members m n x body y out → x.replica.slot_out ≤ y.replica.slot_out
received_out members m n x body _ _ (promises_ballot b report is) = omega arith
received_out members m n x body _ _ (accepts_pvalue p) = omega arith
received_out members m n x body _ _ (hears_promise b report fresh taken hears) = omega arith
received_out members m n x body _ _ (hears_vote b s by) = omega arith
received_out members m n x body _ _ (hears_proposal s c) = omega arith
received_out members m n x body _ _ (learns s c) = omega arith
received_out members m n x body _ _ (tells_decisions s) = omega arith

received_boot : {C : Type 0} (members : List ℕ) (m n : ℕ) (x : NodeState C) (body : LetterBody C) (y : NodeState C)
    (out : List (Letter C)) → Receives members m n x body y out → y.boot ≡ x.boot
received_boot members m n x body _ _ (promises_ballot b report is) = refl
received_boot members m n x body _ _ (accepts_pvalue p) = refl
received_boot members m n x body _ _ (hears_promise b report fresh taken hears) = refl
received_boot members m n x body _ _ (hears_vote b s by) = refl
received_boot members m n x body _ _ (hears_proposal s c) = refl
received_boot members m n x body _ _ (learns s c) = refl
received_boot members m n x body _ _ (tells_decisions s) = refl

-- of what is received a promise or an acceptance is stored
stored_boot : {Op : Type 0} (d : Stored Op) (body : LetterBody (Command Op)) → (stored_after d body).boot ≡ d.boot
stored_boot d (P1a b) = refl
stored_boot d (P1b b report) = refl
stored_boot d (P2a p) = refl
stored_boot d (P2b o s by) = refl
stored_boot d (Propose s c) = refl
stored_boot d (Decision s c) = refl
stored_boot d (Ask s) = refl

module _ (laws : BallotLaws) {Op : Type 0} (base : ℕ) where
  abbrev Stores : Stored Op → LetterBody (Command Op) → Acceptances (Command Op) → Type 0
  Stores d body a = Keeps (rest_of_acceptor (stored_after d body).base a) (stored_after d body).acceptor

  same_body : (b k : LetterBody (Command Op)) → Some b ≡ Some k → k ≡ b
  same_body b k e = cc

  stores_left : (d : Stored Op) (a : Acceptances (Command Op)) (b k : LetterBody (Command Op)) → k ≡ b → Stores d b a
      → Stores d k a
  stores_left d a b k e is = subst (λ z. Stores d z a) (sym e) is

  received_stores : (members : List ℕ) (m n : ℕ) (x : NodeState (Command Op)) (body : LetterBody (Command Op))
      (y : NodeState (Command Op))
      (out : List (Letter (Command Op))) → Receives members m n x body y out → (kept : LetterBody (Command Op))
      → rest_of_body base body ≡ Some kept → (d : Stored Op) → d.base ≤ base → Keeps
      (rest_of_acceptor d.base x.acceptor) d.acceptor → Stores d kept y.acceptor
  received_stores members m n x body _ _ (promises_ballot b report is) kept e d low keeps =
      stores_left d (after_p1a x.acceptor b) (P1a b) kept (same_body _ _ e)
      (keeps_p1a (rest_of_acceptor d.base x.acceptor) d.acceptor b keeps)
  received_stores members m n x body _ _ (accepts_pvalue p) kept e d low keeps =
      let l = left base p.slot (P2a p) kept e in
      let high = l.1 in
      stores_left d (after_p2a x.acceptor p) (P2a p) kept l.0
      (subst (λ a. Keeps a (after_p2a d.acceptor p)) (sym (rest_p2a d.base x.acceptor p (omega (arith, high, low))))
      (keeps_p2a laws (rest_of_acceptor d.base x.acceptor) d.acceptor (after_p2a d.acceptor p) p keeps
      (keeps_all laws (after_p2a d.acceptor p))))
  received_stores members m n x body _ _ (hears_promise b report fresh taken hears) kept e d low keeps =
      stores_left d x.acceptor (P1b b (pvalues_from base report)) kept (same_body _ _ e) keeps
  received_stores members m n x body _ _ (hears_vote b s by) kept e d low keeps =
      stores_left d x.acceptor (P2b b s by) kept (left base s (P2b b s by) kept e).0 keeps
  received_stores members m n x body _ _ (hears_proposal s c) kept e d low keeps =
      stores_left d x.acceptor (Propose s c) kept (left base s (Propose s c) kept e).0 keeps
  received_stores members m n x body _ _ (learns s c) kept e d low keeps =
      stores_left d x.acceptor (Decision s c) kept (left base s (Decision s c) kept e).0 keeps
  received_stores members m n x body _ _ (tells_decisions s) kept e d low keeps =
      stores_left d x.acceptor (Ask s) kept (same_body _ _ e) keeps

pub number_in : {A : Type 0} (x : A) (xs : List A) → In x xs → (i : ℕ) × (slice_get xs i ≡ Some x)
number_in x [] i = absurd i
number_in x (y ∷ ys) (inl e) = (0, ap (λ z. Some z) (sym e))
number_in x (y ∷ ys) (inr i) = let r = number_in x ys i in (suc r.0, r.1)

some_there : {X : Type 0} (o : Option X) → IsSome o → (x : X) × (o ≡ Some x)
some_there None h = absurd (cc)
some_there (Some x) h = (x, refl)

-- a number that is new is greater than each of its session
pub same_number : (a b : ℕ) → a ≡ b → (a == b) ≡ true
same_number a b e = grind (arith, nat_tests, e)

new_above : (a b : ℕ) → nat_lt a b ≡ true → a < b
new_above a b e = grind (arith, nat_tests)

by_session : (same less : Bool) → same ≡ true → not same || less ≡ true → less ≡ true
by_session true less e h = h
by_session false less e h = absurd (cc)

pub above_each : {Op : Type 0} (c : Command Op) (earlier : List (Command Op)) → is_new c earlier ≡ true
    → (d : Command Op) → In d earlier
    → d.key.session ≡ c.key.session → d.key.number < c.key.number
above_each c [] h d i same = absurd i
above_each c (k ∷ ks) h d (inl e) same =
    let parts = and_parts (not (k.key.session == c.key.session) || nat_lt k.key.number c.key.number)
    (list_all (λ d. not (d.key.session == c.key.session) || nat_lt d.key.number c.key.number) ks) h in
    new_above d.key.number c.key.number
    (ap (λ (z : Command _). nat_lt z.key.number c.key.number) e
    ∙ by_session (k.key.session == c.key.session) (nat_lt k.key.number c.key.number)
    (same_number k.key.session c.key.session (ap (λ (z : Command _). z.key.session) (sym e) ∙ same)) parts.0)
above_each c (k ∷ ks) h d (inr i) same =
    let parts = and_parts (not (k.key.session == c.key.session) || nat_lt k.key.number c.key.number)
    (list_all (λ d. not (d.key.session == c.key.session) || nat_lt d.key.number c.key.number) ks) h in
    above_each c ks parts.1 d i same

new_is_last : {Op : Type 0} (c : Command Op) (earlier : List (Command Op)) → is_new c earlier ≡ true
    → IsLastOfSession c earlier
new_is_last c earlier h = record {
  own = λ d i e. let more = above_each c earlier h d i (ap (λ k. k.session) e) in let same = ap (λ k. k.number) e in
      absurd (omega (arith, more, same));
  last = λ d i e. let more = above_each c earlier h d i e in omega (arith, more);
}

module _ (laws : BallotLaws) {O Op Reply : Type 0} (filter : FilterLaws Op) (rules : Rules O Op Reply)
    (exact : (a b : Command Op) → is_one rules a b ≡ true → a ≡ b) (itself : (a : Command Op) → is_one rules a a ≡ true)
    (s : HostState Op O) (n : ℕ) (w : World Op Reply) (i : IsWorld rules w)
    (shows : ShowsHost rules s n w.cluster) where
  sound : IsSound w.cluster
  sound = reachable_sound laws rules w i.reachable

  abbrev here : NodeState (Command Op)
  here = node w.cluster n

  in_place : (1 ≤ n) × (n ≤ length w.cluster.nodes)
  in_place = let b = member_bounds w.cluster.members n shows.member in let size = sound.size in
      (b.0, omega (arith, b.1))

  put_here : (y : NodeState (Command Op)) (out : List (Letter (Command Op))) → node (turned w.cluster n y out) n ≡ y
  put_here y out = node_put_same w.cluster.members w.cluster.nodes n y in_place.0 in_place.1

  in_slots : StandInSlots here.leader
  in_slots t c e = ((sound.nodes n).leader.commanding t c e).own.slot

  book : IsBookAfter w.taken here.replica
  book = books laws rules w i n

  past : IsPast s.base here.replica
  past = record {
    start = book.first;
    out = shows.past;
    known = book.performed.known;
    near = λ t some. let c = some_there (get here.replica.proposals t) some in (book.near t c.0 c.1).low;
  }

  -- the host knows the members, and its own number
  knows_members : members_of s.holding.state ≡ w.cluster.members
  knows_members = ap (λ l. l.members) shows.held.state.leader ∙ (sound.nodes n).leader.members

  knows_number : number_of s.holding.state ≡ n
  knows_number = ap (λ l. l.ballot.node) shows.held.state.leader ∙ (sound.nodes n).owner

  -- a turn of the world's node is shown
  turn_shows : (y : NodeState (Command Op)) (out : List (Letter (Command Op))) (z : HostState Op O) → z.base ≡ s.base
      → ShowsHeld rules s.base z.holding y → here.replica.slot_out ≤ y.replica.slot_out → ShowsHost rules z n
      (turned w.cluster n y out)
  turn_shows y out z same is more =
      let low = shows.past in record {
        member = shows.member;
        held = subst (λ x. ShowsHeld rules z.base z.holding x) (sym (put_here y out))
            (subst (λ b. ShowsHeld rules b z.holding y) (sym same) is);
        past = subst (λ (x : NodeState (Command Op)). z.base ≤ x.replica.slot_out) (sym (put_here y out))
            (omega (arith, same));
      }

  -- what is stored of its acceptor
  turn_stored : (y : NodeState (Command Op)) (out : List (Letter (Command Op))) (d z : Stored Op)
      → Keeps (rest_of_acceptor z.base y.acceptor) z.acceptor → z.boot ≡ y.boot → IsStored z n
      (turned w.cluster n y out)
  turn_stored y out d z keeps boot = record {
    acceptor = subst (λ (x : NodeState (Command Op)). Keeps (rest_of_acceptor z.base x.acceptor) z.acceptor)
        (sym (put_here y out)) keeps;
    boot = boot ∙ ap (λ (x : NodeState (Command Op)). x.boot) (sym (put_here y out));
  }

  same_stored : (y : NodeState (Command Op)) (out : List (Letter (Command Op))) → y.acceptor ≡ here.acceptor
      → y.boot ≡ here.boot
      → (d : Stored Op) → IsStored d n w.cluster → IsStored d n (turned w.cluster n y out)
  same_stored y out same boot d is = turn_stored y out d d
      (subst (λ a. Keeps (rest_of_acceptor d.base a) d.acceptor) (sym same) is.acceptor) (is.boot ∙ sym boot)

  performing_stored : (o : Option (Command Op)) (d : Stored Op) → IsStored d n w.cluster
      → IsStored d n (after_performing rules w n here.replica o).cluster
  performing_stored None d is = is
  performing_stored (Some c) d is = same_stored _ [] refl refl d is

  -- what it does by itself
  module _ (d : Deed Op) (asks : AsksForLast here d) where
    abbrev kept_turn : HeldTurn Op O Reply
    kept_turn = host_turn rules s d

    abbrev world_turn : Turn Op Reply
    world_turn = acted rules w.cluster.members n here d

    same : IsHeldTurn rules s.base kept_turn world_turn
    same = subst (λ ms. IsHeldTurn rules s.base (acted_held rules ms
        (number_of s.holding.state) s.holding d) world_turn) (sym knows_members)
        (subst (λ m. IsHeldTurn rules s.base (acted_held rules w.cluster.members m s.holding d) world_turn)
        (sym knows_number)
        (acted_is_held filter rules exact itself s.base s.holding here shows.held past w.cluster.members n in_slots
        book.performed.first (none_at_zero laws rules w i n) d asks))

    same_outcome : outcome_held s.holding d ≡ outcome_of here d
    same_outcome = outcome_is_held filter rules exact itself s.base s.holding here shows.held past d asks

    abbrev then : Cluster (Command Op)
    then = turned w.cluster n world_turn.state world_turn.sent

    acts_show : ShowsHost rules (with_holding s kept_turn.state) n then
    acts_show = turn_shows world_turn.state world_turn.sent (with_holding s kept_turn.state) refl same.state
        (acted_out rules w.cluster.members n here d asks)

    acts_send : AreEnvelopesOf s.base kept_turn.sent then
    acts_send = envelopes_of s.base kept_turn.sent world_turn.sent then same.sent
        (λ l j. In-right l w.cluster.letters world_turn.sent j)

    no_answers : (h : Happenings Op Reply) → world_turn.answers ≡ [] → h ≡ with_answers kept_turn.answers h
    no_answers h none =
        let all = append-nil h.answers in
        (λ j. record h { answers = sym all j }) ∙ ap (λ given. with_answers given h) (sym (same.answers ∙ none))

  -- performing
  module _ (asks : AsksForLast here deeds.Perform) where
    performing_shows : (o : Option (Command Op)) (h : Holding Op O)
        → ShowsHeld rules s.base h (performing rules here o).state
        → ShowsHost rules (with_holding s h) n (after_performing rules w n here.replica o).cluster
    performing_shows None h is = record { member = shows.member; held = is; past = shows.past }
    performing_shows (Some c) h is = turn_shows _ [] (with_holding s h) refl is
        (performed_out rules w.cluster.members n here (Some c))

    performing_sends : (o : Option (Command Op)) (sent : List (Letter (Command Op)))
        → sent ≡ rests s.base (performing rules here o).sent
        → AreEnvelopesOf s.base sent (after_performing rules w n here.replica o).cluster
    performing_sends None sent told = envelopes_of s.base sent [] w.cluster told (λ l j. absurd j)
    performing_sends (Some c) sent told = envelopes_of s.base sent []
        (after_performing rules w n here.replica (Some c)).cluster told (λ l j. absurd j)

    performing_happens : (o : Option (Command Op))
        → (after_performing rules w n here.replica o).happenings ≡ with_answers
        (performing rules here o).answers w.happenings
    performing_happens None = let all = append-nil w.happenings.answers in λ j.
        record w.happenings { answers = sym all j }
    performing_happens (Some c) = refl

  acts_as : (d : Deed Op) → AsksForItsOwn d w.happenings.submitted → AsksForLast here d → HostActs rules s n d w
  acts_as (deeds.Request c) own asks = record {
    world = _;
    step = submit n c shows.member own;
    shows = acts_show (deeds.Request c) asks;
    sent = acts_send (deeds.Request c) asks;
    happenings = no_answers (deeds.Request c) asks (with_submission c w.happenings) refl;
    stored = same_stored _ _ refl refl;
    outcome = same_outcome (deeds.Request c) asks;
  }
  acts_as deeds.Wake own asks = record {
    world = _;
    step = wake n shows.member;
    shows = acts_show deeds.Wake asks;
    sent = acts_send deeds.Wake asks;
    happenings = no_answers deeds.Wake asks w.happenings refl;
    stored = same_stored _ _ refl refl;
    outcome = same_outcome deeds.Wake asks;
  }
  acts_as deeds.Nudge own asks = record {
    world = _;
    step = nudge n shows.member;
    shows = acts_show deeds.Nudge asks;
    sent = acts_send deeds.Nudge asks;
    happenings = no_answers deeds.Nudge asks w.happenings refl;
    stored = same_stored _ _ refl refl;
    outcome = same_outcome deeds.Nudge asks;
  }
  acts_as deeds.Propose own asks = record {
    world = _;
    step = propose n shows.member;
    shows = acts_show deeds.Propose asks;
    sent = acts_send deeds.Propose asks;
    happenings = no_answers deeds.Propose asks w.happenings refl;
    stored = same_stored _ _ refl refl;
    outcome = same_outcome deeds.Propose asks;
  }
  acts_as deeds.Perform own asks =
      let t = same deeds.Perform asks in
      record {
        world = _;
        step = perform n shows.member;
        shows = performing_shows asks (next_decided here.replica) _ t.state;
        sent = performing_sends asks (next_decided here.replica) _ t.sent;
        happenings = performing_happens asks (next_decided here.replica)
            ∙ ap (λ given. with_answers given w.happenings) (sym t.answers);
        stored = performing_stored (next_decided here.replica);
        outcome = same_outcome deeds.Perform asks;
      }
  acts_as deeds.Restart own asks = absurd asks

  -- a command that the filter lets through is the last of its session, of those that were performed
  unknown_last : (d : Deed Op) → AsksForUnknown s d w.happenings.submitted → AsksForLast here d
  unknown_last (deeds.Request c) asks = new_is_last c (history here.replica)
      (sym (ap (λ (f : Filtered O). is_later c.key f.latest) shows.held.object ∙ later_obeyed filter rules
      (history here.replica) c) ∙ asks.1)
  unknown_last deeds.Wake asks = tt
  unknown_last deeds.Nudge asks = tt
  unknown_last deeds.Propose asks = tt
  unknown_last deeds.Perform asks = tt
  unknown_last deeds.Restart asks = absurd asks

  unknown_own : (d : Deed Op) → AsksForUnknown s d w.happenings.submitted → AsksForItsOwn d w.happenings.submitted
  unknown_own (deeds.Request c) asks = asks.0
  unknown_own deeds.Wake asks = tt
  unknown_own deeds.Nudge asks = tt
  unknown_own deeds.Propose asks = tt
  unknown_own deeds.Perform asks = tt
  unknown_own deeds.Restart asks = absurd asks

  last_own : (d : Deed Op) → AsksForLastSubmitted d w.happenings.submitted → AsksForItsOwn d w.happenings.submitted
  last_own (deeds.Request c) asks = asks.own
  last_own deeds.Wake asks = tt
  last_own deeds.Nudge asks = tt
  last_own deeds.Propose asks = tt
  last_own deeds.Perform asks = tt
  last_own deeds.Restart asks = absurd asks

  pub acts_unknown : (d : Deed Op) → AsksForUnknown s d w.happenings.submitted → HostActs rules s n d w
  acts_unknown d asks = acts_as d (unknown_own d asks) (unknown_last d asks)

  pub acts_last : (d : Deed Op) → AsksForLastSubmitted d w.happenings.submitted → HostActs rules s n d w
  acts_last d asks = acts_as d (last_own d asks) (asks_for_last laws rules w i n d asks)

  -- an envelope that it may read is received, or what is left of it
  module _ (decide : (p : Pvalue (Command Op)) (ps : List (Pvalue (Command Op))) → In p ps ⊎ (In p ps → ⊥))
      (p : Envelope (Command Op)) (of : IsEnvelopeOf p w.cluster) (to : p.letter.to ≡ n)
      (may : IsLegible s.base p.label p.letter.body)
      (kept : LetterBody (Command Op)) (left_is : rest_of_body s.base p.letter.body ≡ Some kept)
    where
      was_left : rest_of_body s.base of.whole.body ≡ Some kept
      was_left = read_left s.base p.label of.whole.body p.letter.body of.left may ∙ left_is

      sent_at : (i : ℕ) × (slice_get w.cluster.letters i ≡ Some of.whole)
      sent_at = number_in of.whole w.cluster.letters of.sent

      fits_here : IsFit here of.whole.body
      fits_here = subst (λ j. IsFit (node w.cluster j) of.whole.body) (sym of.receiver ∙ to)
          (may_receive laws rules w i sent_at.0 of.whole sent_at.1).fit

      pub fits : IsFit s.holding.state kept
      fits = fit_shown shows.held.state kept (rest_fit s.base here of.whole.body kept was_left fits_here)

      pub receives : (new : NodeState (Command Op)) (sent : List (Letter (Command Op)))
          → ShowsReceived p.letter.«from» s.holding.state kept new [] sent → HostReceives rules s n kept new sent w
      receives new sent received =
          let m = of.whole in
          let at_n : m.to ≡ n = sym of.receiver ∙ to in
          let shown = received (rest_of_node s.base here) shows.held.state in
          let y = shown.0 in
          let out = shown.2.0 in
          let was : rest_of_body s.base m.body ≡ Some kept = was_left in
          let own : number_of here ≡ n = (sound.nodes n).owner in
          let takes : Receives w.cluster.members m.«from» n (rest_of_node s.base here) kept y out =
          subst (λ f. Receives w.cluster.members f n (rest_of_node s.base here) kept y out) of.sender
          (subst (λ j. Receives w.cluster.members p.letter.«from» j (rest_of_node s.base here) kept y out) own
          (subst (λ ms. Receives ms p.letter.«from» (number_of here) (rest_of_node s.base here) kept y out)
          (sound.nodes n).leader.members shown.2.1)) in
          let whole = rest_receives decide s.base w.cluster.members m.«from» n here m.body kept was y out takes in
          let place = sent_at in
          let fit = fits_here in
          let stays = history_received w.cluster.members m.«from» n here m.body whole.state whole.letters
          fit book.performed whole.receives in
          let then = turned w.cluster n whole.state whole.letters in
          let show : ShowsHost rules (with_node_state s new) n then = turn_shows whole.state whole.letters
          (with_node_state s new) refl
          (record {
            state = subst (ShowsNode new) whole.rest shown.1;
            object = shows.held.object ∙ ap (obeyed rules) (sym stays);
          })
          (received_out w.cluster.members m.«from» n here m.body whole.state whole.letters whole.receives) in
          let send : AreEnvelopesOf s.base sent then = envelopes_of s.base sent whole.letters then
          (shown.2.2 ∙ whole.told)
          (λ l j. In-right l w.cluster.letters whole.letters j) in
          record {
            place = place.0;
            to = λ l e.
                let same : Some l ≡ Some m = sym e ∙ place.1 in
                let is : l ≡ m = cc in
                ap (λ (z : Letter (Command Op)). z.to) is ∙ at_n;
            world = counted (with_cluster w (turned w.cluster m.to whole.state whole.letters));
            step = deliver place.0 m whole.state whole.letters place.1
                (subst (λ j. Receives w.cluster.members m.«from» j (node w.cluster j) m.body whole.state whole.letters)
                (sym at_n) whole.receives);
            shows = subst (λ j. ShowsHost rules (with_node_state s new) n (turned w.cluster j whole.state whole.letters))
                (sym at_n) show;
            envelopes = subst (λ j. AreEnvelopesOf s.base sent (turned w.cluster j whole.state whole.letters))
                (sym at_n) send;
            stored = λ d low is.
                subst (λ j. IsStored (stored_after d kept) n (turned w.cluster j whole.state whole.letters)) (sym at_n)
                (turn_stored whole.state whole.letters d (stored_after d kept)
                (received_stores laws s.base w.cluster.members m.«from» n here m.body whole.state whole.letters
                whole.receives kept was d low is.acceptor)
                (stored_boot d kept ∙ is.boot ∙ sym
                (received_boot w.cluster.members m.«from» n here m.body whole.state whole.letters whole.receives)));
            happenings = refl;
          }
