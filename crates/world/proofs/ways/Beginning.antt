-- How a way that brings a command begins: the command is submitted at node 1, whose leader comes to rest.
use Rattle.std.proofs.Common.{◌≡◌, inl, inr, ℕ, ◌+◌, ◌*◌, ◌^◌, ◌<◌, ◌≤◌, max, Bool, true, false, cond, List, [], ◌∷◌}
use Rattle.std.proofs.Common.{◌++◌, length, filter, refl, sym, ap, ◌∙◌, subst, arith}
use Rattle.std.specs.FinMap.{len}
use Rattle.std.proofs.lemmas.Bool.{and_parts, and_from}
use Rattle.std.proofs.lemmas.List.FromFn.{length-range_with_len}
use Rattle.object.specs.Lists.{In}
use Rattle.object.specs.Commands.{same_acts, same_commands}
use Rattle.object.specs.Keys.{same_key}
use Rattle.object.specs.KeyLaws.{same_is, same_itself}
use Rattle.object.specs.Happenings.{is_submitted, with_submission, SubmittedOnce}
use Rattle.object.specs.Legal.{WasSubmitted}
use Rattle.object.specs.Objects.{Rules, is_one}
use Rattle.object.specs.declared.command.Command.{Command}
use Rattle.object.specs.declared.command.Submission.{Submission}
use Rattle.ballot.specs.Ballots.{Numbers}
use Rattle.ballot.specs.Members.{IsMembers, numbers}
use Rattle.ballot.specs.OrderLaws.{BallotLaws}
use Rattle.node.specs.Nodes.{NodeState}
use Rattle.slot_log.specs.Requests.{requested}
use Rattle.agreement.specs.Nodes.{Cluster, node, turned as turned_to}
use Rattle.agreement.specs.Worlds.{World}
use Rattle.agreement.specs.Steps.{Step, submit, IsItsOwn, counted, with_cluster, replica_turn}
use Rattle.agreement.specs.Runs.{IsWorld}
use Rattle.agreement.specs.declared.event.Event.{Event}
use Rattle.agreement.specs.declared.event.Event.TheVariants as events
use Rattle.agreement.proofs.every.Every.{counts, within_reach, goes_on as world_goes_on}
use Rattle.agreement.proofs.chosen.Reach.{step_sound}
use Rattle.agreement.proofs.order.Submitted.{key_submitted}
use Rattle.agreement.specs.Mentions.{Mentions}
use Rattle.agreement.specs.SlotBooks.{pending}
use Rattle.world.specs.WaySteps.{HasRoom}
use Rattle.world.specs.WaysOut.{first_leader, first_book, rivals, is_rival, HasTalked, IsAtRest, IsSmall, work, most_slots, Holds}
use Rattle.world.proofs.steps.Events.{acts_same}
use Rattle.world.proofs.ways.Rescued.{act_itself}
use Rattle.world.proofs.ways.Booking.{holds_requested}
use Rattle.world.proofs.ways.Bringing.{IsBringing}
use Rattle.agreement.proofs.books.MentionsEvery.{mentions_calm, mentions_weaker, reach_taken, slots_near}
use Rattle.world.proofs.ways.MentionsFew.{few_proposals}
use Rattle.agreement.proofs.books.SlotBooksEvery.{books}
use Rattle.world.proofs.rounds.Rivals.{work_when}
use Rattle.world.proofs.rounds.RoundMembers.{HasFirst, has_first}
use Rattle.world.proofs.rounds.Stepping.{IsTurned, TurnsBook, turned_first, turns_book}
use Rattle.world.proofs.rounds.Turning.{talk_mentions}

-- two that are one command have one key
pub one_key : {O Op Reply : Type 0} (rules : Rules O Op Reply) (a b : Command Op) → is_one rules a b ≡ true → a.key ≡ b.key
one_key rules a b e = same_is a.key b.key (and_parts (same_key a.key b.key) (same_acts rules.same a.act b.act) e).0

-- two commands that are one are equal, and a command is one with itself
module _ {O Op Reply : Type 0} (rules : Rules O Op Reply) (same : Op → Op → Bool) (law : rules.same ≡ same) where
  pub one_exact : ((x y : Op) → same x y ≡ true → x ≡ y) → (a b : Command Op) → is_one rules a b ≡ true → a ≡ b
  one_exact exact a b e =
      let acts = (and_parts (same_key a.key b.key) (same_acts same a.act b.act) (subst (λ f. same_commands f a b ≡ true) law e)).1 in
      λ i. record { key = one_key rules a b e i; act = acts_same same exact a.act b.act acts i }

  pub one_itself : ((x : Op) → same x x ≡ true) → (a : Command Op) → is_one rules a a ≡ true
  one_itself reflexive a = subst (λ f. same_commands f a a ≡ true) (sym law)
      (and_from (same_key a.key a.key) (same_acts same a.act a.act) (same_itself a.key) (act_itself same reflexive a.act))

rivals_few : {C : Type 0} (k : Cluster C) (b : Numbers) → rivals k b ≤ length k.members
rivals_few k b = let a = filter_few (is_rival k b) (numbers k.members) in let e = length-range_with_len 1 (length k.members) in omega arith
  where
    one_more : (t : Bool) (x : ℕ) (xs ys : List ℕ) → length xs ≤ length ys → length (cond t (x ∷ xs) xs) ≤ length (x ∷ ys)
    one_more true x xs ys h = omega arith
    one_more false x xs ys h = omega arith

    filter_few : (test : ℕ → Bool) (xs : List ℕ) → length (filter test xs) ≤ length xs
    filter_few test [] = omega arith
    filter_few test (x ∷ xs) = one_more (test x) x (filter test xs) xs (filter_few test xs)

-- how much work there is at most
work_few : {C : Type 0} (k : Cluster C) → length k.members ≤ 7 → IsSmall k → work k ≤ 2 ^ 46
work_few k few small =
    let r = rivals_few k (first_leader k).ballot in
    let n = few_proposals (first_leader k).commanders most_slots (λ s c is. (small.nodes 1).leader.commanders s c is) in
    of (first_leader k).active (work_when k (first_leader k).active refl) r n
  where
    of : (active : Bool) → work k ≡ 2 ^ 41 * (2 * rivals k (first_leader k).ballot + cond active 0 1) + 16 * len
        (first_leader k).commanders → rivals k (first_leader k).ballot ≤ length k.members
        → len (first_leader k).commanders ≤ most_slots + 1 → work k ≤ 2 ^ 46
    of true a r n = omega arith
    of false a r n = omega arith

module _ (laws : BallotLaws) {O Op Reply : Type 0} (rules : Rules O Op Reply) (w u : World Op Reply)
    (i : IsWorld rules w) (members : IsMembers w.cluster.members) (few : w.taken ≤ 2 ^ 32) (c : Command Op)
    (was : WasSubmitted c w.happenings.submitted) (step : Step rules w (events.Submit 1 c) u) where
  here : HasFirst w.cluster
  here = has_first laws i members

  submit_is : (z : World Op Reply) → Step rules w (events.Submit 1 c) z → z ≡ counted (record w {
    cluster = replica_turn w.cluster 1 (requested (is_one rules) (first_book w.cluster) c) [];
    happenings = with_submission c w.happenings;
  })
  submit_is _ (submit n d member own) = refl

  same_submitted : (test : Bool) → test ≡ true
      → (cond test w.happenings (record w.happenings {
        submitted =
            w.happenings.submitted ++ (record { command = c; after = length w.happenings.answers } ∷ []);
      })).submitted
      ≡ w.happenings.submitted
  same_submitted true e = refl
  same_submitted false e = absurd (cc)

  submits : TurnsBook w u (requested (is_one rules) (first_book w.cluster) c)
  submits = turns_book laws turned refl
    where
      x : NodeState (Command Op)
      x = record (node w.cluster 1) { replica = requested (is_one rules) (first_book w.cluster) c }

      t : IsTurned w (counted (with_cluster w (turned_to w.cluster 1 x []))) x []
      t = turned_first laws w here x [] refl

      turned : IsTurned w u x []
      turned = subst (λ z. IsTurned w z x []) (sym (submit_is u step)) (record {
        first = t.first;
        acceptors = t.acceptors;
        members = refl;
        letters = refl;
        submitted = same_submitted (is_submitted c.key w.happenings.submitted) (key_submitted c w.happenings.submitted was);
        count = refl;
      })

  near_then : Mentions (λ s d. s ≤ w.reach + 64) u.cluster
  near_then = mentions_calm laws rules (λ s d. s ≤ w.reach + 64) w u (events.Submit 1 c) here.sound step refl (slots_near laws rules w i)

  spent_then : u.taken + work u.cluster ≤ 2 ^ 32 + 1 + 2 ^ 46
  spent_then =
      let r = reach_taken laws rules w i in
      let small = mentions_weaker (λ s d. s ≤ w.reach + 64) (λ s d. s ≤ most_slots) (λ s d h. omega arith) w.cluster (slots_near laws rules w i) in
      let q = work_few w.cluster members.few small in
      let spent = submits.spent in
      omega arith

  -- the leader can come to rest
  pub submit_room : HasRoom u 0
  submit_room = record {
    small = let r = reach_taken laws rules w i in
        mentions_weaker (λ s d. s ≤ w.reach + 64) (λ s d. s ≤ most_slots) (λ s d h. omega arith) u.cluster near_then;
    room = let spent = spent_then in omega arith;
  }

  -- once it has come to rest
  module _ {v : World Op Reply} {before now : List (Event Op)} (exact : (a b : Command Op) → is_one rules a b ≡ true → a ≡ b)
      (talked : HasTalked rules u before v now) (at_rest : IsAtRest v.cluster) (spent : v.taken + work v.cluster ≤ u.taken + work u.cluster) where
    book_now : first_book v.cluster ≡ requested (is_one rules) (first_book w.cluster) c
    book_now = talked.talk.replicas 1 ∙ submits.book

    same_out : (test : Bool) → (cond test (first_book w.cluster)
        (record (first_book w.cluster) { requests = (first_book w.cluster).requests ++ (c ∷ []) })).slot_out
        ≡ (first_book w.cluster).slot_out
    same_out true = refl
    same_out false = refl

    pending_now : pending (first_book v.cluster) ≤ w.taken + 1
    pending_now =
        let next = world_goes_on laws rules w u (events.Submit 1 c) i step (omega arith) in
        let a = (books laws rules u next 1).few in
        let b = ap pending (talked.talk.replicas 1) in
        let n = counts laws rules w u (events.Submit 1 c) step in
        omega arith

    pub bringing_begins : IsBringing w v (w.reach + 64) c
    bringing_begins =
        let r = reach_taken laws rules w i in
        let low = within_reach laws rules w i 1 in
        let p = pending_now in
        let o : (first_book v.cluster).slot_out ≡ (first_book w.cluster).slot_out = ap (λ b. b.slot_out) book_now ∙ same_out _ in
        let q = spent_then in
        record {
          at_rest = at_rest;
          near = mentions_weaker (λ s d. s ≤ w.reach + 64)
              (λ s d. s < max (w.reach + 64 + 1) (first_book v.cluster).slot_out) (λ s d h. omega arith) v.cluster
              (talk_mentions laws rules (λ s d. s ≤ w.reach + 64) u
              (step_sound laws rules w (events.Submit 1 c) u here.sound step).sound v before now talked.goes near_then);
          spent = omega arith;
          low = omega arith;
          holds = subst (λ b. Holds b c) (sym book_now) (holds_requested (first_book w.cluster) (is_one rules) exact c);
          submitted = ap (λ h. h.submitted) talked.talk.happenings ∙ submits.submitted;
        }

-- a command that was submitted is its key's own
once_one : {Op : Type 0} (xs : List (Submission Op)) → SubmittedOnce xs → (a b : Submission Op) → In a xs → In b xs → a.command.key ≡ b.command.key → a ≡ b
once_one [] once a b at there e = absurd at
once_one (x ∷ xs) once a b (inl p) (inl q) e = p ∙ sym q
once_one (x ∷ xs) once a b (inl p) (inr there) e = absurd (once.0 b there (sym e ∙ ap (λ s. s.command.key) p))
once_one (x ∷ xs) once a b (inr at) (inl q) e = absurd (once.0 a at (e ∙ ap (λ s. s.command.key) q))
once_one (x ∷ xs) once a b (inr at) (inr there) e = once_one xs once.1 a b at there e

pub own_command : {Op : Type 0} (submitted : List (Submission Op)) → SubmittedOnce submitted → (c : Command Op)
    → WasSubmitted c submitted → IsItsOwn c submitted
own_command submitted once c was = λ s within same.
    ap (λ t. t.command) (once_one submitted once s was.0 within was.1 (same_is s.command.key c.key same ∙ ap (λ d. d.key) (sym was.2))) ∙ was.2
