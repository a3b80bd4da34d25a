-- A proposal for the slot that replica 1 performs next reaches the leader of node 1.
use Rattle.std.proofs.Common.{◌≡◌, ⊎_elim, ℕ, ◌+◌, ◌*◌, ◌^◌, ◌<◌, ◌≤◌, true, false, cond, List, [], ◌∷◌, ◌++◌, length, Option}
use Rattle.std.proofs.Common.{None, Some, is_some, refl, sym, ap, ◌∙◌, subst, arith}
use Rattle.std.specs.Prelude.{slice_get}
use Rattle.std.specs.FinMap.{get, contains_key, len}
use Rattle.object.specs.ListLaws.{In-get}
use Rattle.object.specs.declared.command.Command.{Command}
use Rattle.object.specs.Objects.{Rules}
use Rattle.ballot.specs.Letters.{letter, all_to_all}
use Rattle.ballot.specs.Members.{IsMembers, is_member}
use Rattle.ballot.specs.OrderLaws.{BallotLaws}
use Rattle.ballot.specs.declared.letter.Letter.{Letter}
use Rattle.ballot.specs.declared.letter.LetterBody.TheVariants.{Propose}
use Rattle.leader.specs.Leaders.{commands}
use Rattle.node.specs.Deeds.{led}
use Rattle.node.specs.SlotLaws.{get_insert_same}
use Rattle.slot_log.specs.Proposals.{next_proposal, proposed_next}
use Rattle.replica.specs.Replicas.{proposes_first}
use Rattle.agreement.specs.Nodes.{Cluster, node}
use Rattle.agreement.specs.Worlds.{World}
use Rattle.agreement.specs.Steps.{Step}
use Rattle.agreement.specs.Runs.{IsWorld}
use Rattle.agreement.specs.declared.event.Event.{Event}
use Rattle.agreement.specs.declared.event.Event.TheVariants as events
use Rattle.agreement.proofs.every.Every.{within_reach}
use Rattle.agreement.proofs.chosen.LeaderRows.{some_same}
use Rattle.agreement.proofs.chosen.Reach.{step_sound}
use Rattle.agreement.specs.SlotBooks.{IsBookAfter}
use Rattle.world.specs.Rescues.{keeps_nodes}
use Rattle.world.specs.Telling.{IsProposedAt}
use Rattle.world.specs.WaySteps.{IsUnproposed}
use Rattle.world.specs.WaysOut.{first_leader, first_book, rivals, AddsEvent, IsAtRest, IsPassage, MentionsAsMuch, Proposes, work}
use Rattle.agreement.proofs.books.MentionsEvery.{mentions_step, reach_taken}
use Rattle.agreement.proofs.books.SlotBooksEvery.{books}
use Rattle.world.proofs.ways.Going.{one_goes}
use Rattle.world.proofs.ways.SlotBooksNext.{next_at_out}
use Rattle.world.proofs.rounds.Rivals.{work_of}
use Rattle.world.proofs.rounds.RoundMembers.{HasFirst, has_first}
use Rattle.world.proofs.rounds.Stepping.{IsTurned, TurnsBook, proposal_turned, propose_turned, rivals_turned, leader_turned}
use Rattle.world.proofs.rounds.Stepping.{turns_book, takes_proposal, one_commander}
use Rattle.world.proofs.rounds.Talking.{last_at}
use Rattle.world.proofs.ways.Telling.{told_by_proposal}

nothing_there : {X : Type 0} (P : Type 0) (o : Option X) → ((v : X) → o ≡ Some v → P) → (P → ⊥) → o ≡ None
nothing_there P None f never = refl
nothing_there P (Some v) f never = absurd (never (f v refl))

-- the first of these, and those after it
abbrev pub FirstOf : {C : Type 0} → List C → Type 0
FirstOf {C} requests = (c : C) × (more : List C) × (requests ≡ c ∷ more)

pub first_request : {C : Type 0} (requests : List C) → 0 < length requests → FirstOf requests
first_request [] some = absurd (omega arith)
first_request (c ∷ more) some = (c, more, refl)

-- a leader at rest took a proposal for the slot, and has a commander for it
pub record TakesProposal {Op Reply : Type 0} (w v : World Op Reply) (s : ℕ) : Type 0 where
  pub led : contains_key (first_leader v.cluster).proposals s ≡ true
  pub book : first_book v.cluster ≡ first_book w.cluster
  pub spent : v.taken + work v.cluster ≤ w.taken + work w.cluster + 17
  pub submitted : v.happenings.submitted ≡ w.happenings.submitted

-- replica 1 proposed its first request for the slot, and the leader of node 1 has no proposal there
pub record IsOwnProposal {Op Reply : Type 0} (w u : World Op Reply) (s : ℕ) : Type 0 where
  pub first : HasFirst u.cluster
  pub book : TurnsBook w u (proposed_next (first_book w.cluster))
  pub at_rest : IsAtRest u.cluster
  pub free : contains_key (first_leader u.cluster).proposals s ≡ false
  pub letter : Proposes u.cluster.letters (length w.cluster.letters) s
  pub mentions : MentionsAsMuch w.cluster s u.cluster

module _ (laws : BallotLaws) {O Op Reply : Type 0} (rules : Rules O Op Reply) where
  -- such a letter is delivered to a leader at rest that has no proposal there
  module _ {w v : World Op Reply} (f : HasFirst w.cluster) (at_rest : IsAtRest w.cluster) {j s : ℕ}
      (free : contains_key (first_leader w.cluster).proposals s ≡ false) (l : Proposes w.cluster.letters j s) (step : Step rules w (events.Deliver j) v) where
    turned : IsTurned w v (led (node w.cluster 1) (commands (first_leader w.cluster) s l.command))
        (all_to_all w.cluster.members 1 (commands (first_leader w.cluster) s l.command).says)
    turned = subst (λ d. IsTurned w v (led (node w.cluster 1) d) (all_to_all w.cluster.members 1 d.says))
        (takes_proposal (first_leader w.cluster) s l.command at_rest.active free) (proposal_turned laws rules w v f l step)

    pub takes : TakesProposal w v s
    takes = let leader = leader_turned laws turned in record {
      led = ap (λ l. contains_key l.proposals s) leader ∙ ap is_some (get_insert_same (first_leader w.cluster).proposals s l.command);
      book = ap (λ y. y.replica) turned.first;
      spent = let a : work v.cluster ≡ 2 ^ 41 *
          (2 * rivals v.cluster (first_leader w.cluster).ballot + cond (first_leader w.cluster).active 0 1) + 16 * len
          (commands (first_leader w.cluster) s l.command).state.commanders = work_of v.cluster _ leader in
          let one = one_commander (first_leader w.cluster) s l.command at_rest.done in
          let r = rivals_turned laws turned (first_leader w.cluster).ballot in
          let count = turned.count in
          omega arith;
      submitted = turned.submitted;
    }

  -- what replica 1 proposes next where nothing is proposed for the slot that is performed next
  module _ (w : World Op Reply) (i : IsWorld rules w) (s : ℕ) (next : s ≡ (first_book w.cluster).slot_out)
      (unknown : get (first_book w.cluster).decisions s ≡ None)
      (new : IsProposedAt w.cluster s → ⊥) (c : Command Op) (more : List (Command Op)) (requests : (first_book w.cluster).requests ≡ c ∷ more) where
    booked : IsBookAfter w.taken (first_book w.cluster)
    booked = books laws rules w i 1

    pub free_there : get (first_book w.cluster).proposals s ≡ None
    free_there = nothing_there (IsProposedAt w.cluster s) (get (first_book w.cluster).proposals s)
        (λ d e. let p = booked.performed.first in told_by_proposal laws rules w i 1 s d e s (omega arith) (omega arith)) new

    pub next_there : next_proposal (first_book w.cluster) ≡ Some (s, c)
    next_there =
        let near = within_reach laws rules w i 1 in
        let few = reach_taken laws rules w i in
        let all = i.few in
        next_at_out (first_book w.cluster) w.taken booked
        (subst (λ t. get (first_book w.cluster).decisions t ≡ None) next unknown)
        (subst (λ t. get (first_book w.cluster).proposals t ≡ None) next free_there) (omega arith) c more requests
        ∙ ap (λ t. Some (t, c)) (sym next)

  -- where nothing is proposed for the slot that is performed next, replica 1 proposes its first request there
  module _ {w u : World Op Reply} (i : IsWorld rules w) (members : IsMembers w.cluster.members) {s cost : ℕ}
      (open_slot : IsUnproposed w s cost) (new : IsProposedAt w.cluster s → ⊥) (step : Step rules w (events.Propose 1) u) where
    here : HasFirst w.cluster
    here = has_first laws i members

    request : FirstOf (first_book w.cluster).requests
    request = ⊎_elim
        (λ (there : IsProposedAt w.cluster s). absurd (new there))
        (λ (some : 0 < length (first_book w.cluster).requests). first_request (first_book w.cluster).requests some)
        open_slot.undecided.due.more

    next_is : next_proposal (first_book w.cluster) ≡ Some (s, request.0)
    next_is = next_there w i s open_slot.undecided.due.next open_slot.undecided.unknown new request.0 request.1 request.2

    own_turned : IsTurned w u (record (node w.cluster 1) { replica = proposed_next (first_book w.cluster) })
        (all_to_all w.cluster.members 1 (proposes_first (next_proposal (first_book w.cluster))))
    own_turned = propose_turned laws rules w u here step

    -- the first of its letters goes to node 1
    to_first : (c : Command Op) (ms : List ℕ) → is_member ms 1 ≡ true → (rest : List (Letter (Command Op)))
        × (all_to_all ms 1 (Propose s c ∷ []) ≡ letter 1 (Propose s c) 1 ∷ rest)
    to_first c [] member = absurd (cc)
    to_first c (m ∷ ms) member = (_, refl)

    own_letter : Proposes u.cluster.letters (length w.cluster.letters) s
    own_letter =
        let c = request.0 in
        let out = to_first c w.cluster.members here.first in
        let is : u.cluster.letters ≡ w.cluster.letters ++ (letter 1 (Propose s c) 1 ∷ out.0) =
        own_turned.letters ∙ ap (λ o. w.cluster.letters ++ all_to_all w.cluster.members 1 (proposes_first o)) next_is ∙
        ap (λ o. w.cluster.letters ++ o) out.1 in
        record {
          letter = letter 1 (Propose s c) 1;
          command = c;
          at = ap (λ ls. slice_get ls (length w.cluster.letters)) is ∙ last_at w.cluster.letters (letter 1 (Propose s c) 1) out.0;
          to = refl;
          body = refl;
        }

    own_mentions : MentionsAsMuch w.cluster s u.cluster
    own_mentions = λ test fits all.
        mentions_step laws rules (λ t d. test t d ≡ true) w u (events.Propose 1) here.sound step
        (λ t d is. let e : (s, request.0) ≡ (t, d) = some_same (sym next_is ∙ is) in
        subst (λ (p : ℕ × Command Op). test p.0 p.1 ≡ true) e (fits request.0 request.1 request.2 new)) all

    pub own_proposal : IsOwnProposal w u s
    own_proposal = let book = turns_book laws own_turned refl in record {
      first = record {
        sound = (step_sound laws rules w (events.Propose 1) u here.sound step).sound;
        first = subst (λ ms. is_member ms 1 ≡ true) (sym own_turned.members) here.first;
      };
      book = book;
      at_rest = book.at_rest open_slot.undecided.due.at_rest;
      free = ap (λ l. contains_key l.proposals s) book.leader ∙ open_slot.free;
      letter = own_letter;
      mentions = own_mentions;
    }

pub own_passage : {O Op Reply : Type 0} {rules : Rules O Op Reply} {w u : World Op Reply} {s : ℕ} {before now : List (Event Op)}
    → IsOwnProposal w u s → AddsEvent rules (events.Propose 1) w before u now → IsPassage rules s 1 w before u now
own_passage own one =
    record { spent = own.book.spent; mentions = own.mentions; submitted = own.book.submitted; goes = one_goes keeps_nodes one refl }

pub proposes_at : {C : Type 0} (k : Cluster C) (j s : ℕ) → Proposes k.letters j s → IsProposedAt k s
proposes_at k j s h = record { letter = h.letter; command = h.command; sent = In-get k.letters j h.letter h.at; to = h.to; body = h.body }
