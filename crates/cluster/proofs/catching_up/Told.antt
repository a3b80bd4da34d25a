-- Whoever learns a decision learns what all were told: commanders tell all, and an Ask is answered from what was
-- learnt.
use Rattle.std.proofs.Common.{◌≡◌, ◌≢◌, ⊎_elim, ℕ, Bool, true, false, cond, List, [], ◌∷◌, ◌++◌, map, filter}
use Rattle.std.proofs.Common.{Some, None, Option, refl, sym, ap, ◌∙◌, subst}
use Rattle.std.specs.Prelude.{◌^◌, ◌==◌, not, nat_le, nat_lt, ◌&&◌, ◌+◌}
use Rattle.std.specs.FinMap.{get, entries, insert}
use Rattle.std.proofs.lemmas.Bool.{cases_eq}
use Rattle.object.specs.Lists.{In}
use Rattle.object.specs.ListLaws.{Each-at, In-left, In-right, In-cases, In-map, In-get}
use Rattle.object.specs.Objects.{Rules, is_one}
use Rattle.object.specs.declared.command.Command.{Command}
use Rattle.ballot.specs.Members.{is_member, numbers}
use Rattle.ballot.specs.Letters.{letter, to_all, all_to_all}
use Rattle.ballot.specs.OrderLaws.{BallotLaws}
use Rattle.ballot.specs.declared.letter.Letter.{Letter}
use Rattle.ballot.specs.declared.letter.LetterBody.{LetterBody}
use Rattle.ballot.specs.declared.letter.LetterBody.TheVariants.{Decision, Ask}
use Rattle.ballot.proofs.Filters.{In_filter}
use Rattle.leader.specs.Leaders.{says_again}
use Rattle.slot_log.specs.Books.{SlotBook, window}
use Rattle.slot_log.specs.Decisions.{next_decided, decided_from}
use Rattle.slot_log.specs.Proposals.{next_proposal, proposed}
use Rattle.slot_log.specs.Requests.{is_known}
use Rattle.replica.specs.Replicas.{tells, proposes_again, asks_others}
use Rattle.node.specs.Nodes.{NodeState, restarted}
use Rattle.node.specs.Deeds.{said_again}
use Rattle.node.specs.Receiving.{Receives, promises_ballot, accepts_pvalue, hears_promise, hears_vote, hears_proposal}
use Rattle.node.specs.Receiving.{learns, tells_decisions}
use Rattle.node.specs.SlotLaws.{get_insert_cases, none_in_empty, entries_get}
use Rattle.agreement.specs.Nodes.{Cluster, node, turned}
use Rattle.agreement.specs.Runs.{InEvery}
use Rattle.agreement.specs.Steps.{Step, submit, deliver, wake, nudge, propose, perform, restart, after_performing}
use Rattle.agreement.specs.Worlds.{World}
use Rattle.agreement.specs.declared.event.Event.{Event}
use Rattle.agreement.proofs.books.LeadingRuns.{in_every}
use Rattle.agreement.proofs.chosen.Invariants.{IsFair, IsSound}
use Rattle.agreement.proofs.chosen.Reach.{opened_at, reachable_sound}
use Rattle.agreement.proofs.chosen.Sets.{In-numbers}
use Rattle.agreement.proofs.chosen.Turns.{here, there}
use Rattle.forgetting.proofs.Gone.{map_In}
use Rattle.cluster.specs.Snapshots.{IsDecidedToAll}

module _ {C : Type 0} where
  -- what one member is sent of what goes to all, each is sent
  pub to_each : (ws : List ℕ) (n : ℕ) (bodies : List (LetterBody C)) (l : Letter C) → In l (all_to_all ws n bodies)
      → (m : ℕ) → is_member ws m ≡ true
      → (q : Letter C) × In q (all_to_all ws n bodies) × (q.to ≡ m) × (q.body ≡ l.body)
  to_each ws n [] l i m member = absurd i
  to_each ws n (b ∷ bs) l i m member = ⊎_elim
      (λ (j : In l (to_all ws n b)).
      let r = map_In (letter n b) l (numbers ws) j in (
        letter n b m,
        In-left (letter n b m) (to_all ws n b) (all_to_all ws n bs)
            (In-map (letter n b) m (numbers ws) (In-numbers ws m member)),
        refl,
        ap (λ (z : Letter C). z.body) (sym r.2),
      ))
      (λ (j : In l (all_to_all ws n bs)).
      let r = to_each ws n bs l j m member in
      (r.0, In-right r.0 (to_all ws n b) (all_to_all ws n bs) r.1, r.2, r.3))
      (In-cases l (to_all ws n b) (all_to_all ws n bs) i)

  pub record TellsAll (k : Cluster C) : Type 0 where
    pub known : (n s : ℕ) (c : C) → get (node k n).replica.decisions s ≡ Some c → IsDecidedToAll k s c
    pub letters : (l : Letter C) → In l k.letters → (s : ℕ) (c : C) → l.body ≡ Decision s c → IsDecidedToAll k s c

  -- of these letters each that tells a decision is sent to all
  abbrev Tells : Cluster C → List (Letter C) → Type 0
  Tells z out = (l : Letter C) → In l out → (s : ℕ) (c : C) → l.body ≡ Decision s c → IsDecidedToAll z s c

  tells_none : (z : Cluster C) → Tells z []
  tells_none z l i s c e = absurd i

  tells_both : (z : Cluster C) (xs ys : List (Letter C)) → Tells z xs → Tells z ys → Tells z (xs ++ ys)
  tells_both z xs ys f g l i s c e = ⊎_elim (λ (j : In l xs). f l j s c e) (λ (j : In l ys). g l j s c e)
      (In-cases l xs ys i)

  tells_all : (z : Cluster C) (n : ℕ) (bodies : List (LetterBody C))
      → ((l : Letter C) → In l (all_to_all z.members n bodies) → In l z.letters) →
      Tells z (all_to_all z.members n bodies)
  tells_all z n bodies sent l i s c e m member =
      let r = to_each z.members n bodies l i m member in (r.0, sent r.0 r.1, r.2, r.3 ∙ e)

  no_decision : {P : Type 0} (b : LetterBody C) (l : Letter C) (n m s : ℕ) (c : C) → l ≡ letter n b m
      → l.body ≡ Decision s c
      → (b ≡ Decision s c → P) → P
  no_decision b l n m s c e f h = h (ap (λ (z : Letter C). z.body) (sym e) ∙ f)

  asks_tell_none : (z : Cluster C) (n t : ℕ) (ms : List ℕ) → Tells z (map (letter n (Ask t)) ms)
  asks_tell_none z n t ms l i s c e = let r = map_In (letter n (Ask t)) l ms i in
      no_decision (Ask t) l n r.0 s c r.2 e (λ f. absurd (cc))

  asks_if : (z : Cluster C) (n t : ℕ) (ms : List ℕ) (b : Bool) → Tells z (cond b (map (letter n (Ask t)) ms) [])
  asks_if z n t ms true = asks_tell_none z n t ms
  asks_if z n t ms false = tells_none z

  requested_decisions : (book : SlotBook C) (c : C) (b : Bool)
      → (cond b book (record book { requests = book.requests ++ (c ∷ []) })).decisions ≡ book.decisions
  requested_decisions book c true = refl
  requested_decisions book c false = refl

  proposed_decisions : (book : SlotBook C) (o : Option (ℕ × C)) → (proposed book o).decisions ≡ book.decisions
  proposed_decisions book None = refl
  proposed_decisions book (Some p) = refl

  module _ (laws : BallotLaws) (k : Cluster C) (sound : IsSound k) (all : TellsAll k) (n : ℕ)
      (member : is_member k.members n ≡ true)
      (x : NodeState C) (out : List (Letter C)) where
    abbrev then : Cluster C
    then = turned k n x out

    told_then : (s : ℕ) (c : C) → IsDecidedToAll k s c → IsDecidedToAll then s c
    told_then s c told m is = let r = told m is in (r.0, In-left r.0 k.letters out r.1, r.2, r.3)

    known_then : ((s : ℕ) (c : C) → get x.replica.decisions s ≡ Some c → IsDecidedToAll then s c) → (m s : ℕ) (c : C)
        → get (node then m).replica.decisions s ≡ Some c → IsDecidedToAll then s c
    known_then new m s c e = ⊎_elim
        (λ (same : m ≡ n). new s c (sym (ap (λ (y : NodeState C). get y.replica.decisions s)
        (ap (node then) same ∙ here laws k sound n member x out)) ∙ e))
        (λ (apart : m ≢ n). told_then s c (all.known m s c
        (sym (ap (λ (y : NodeState C). get y.replica.decisions s) (there laws k sound n member x out m apart)) ∙ e)))
        (cases_eq m n)

    turn_tells : ((s : ℕ) (c : C) → get x.replica.decisions s ≡ Some c → IsDecidedToAll then s c) → Tells then out
        → TellsAll then
    turn_tells new says = record {
      known = known_then new;
      letters = λ l i s c e. ⊎_elim
          (λ (j : In l k.letters). told_then s c (all.letters l j s c e))
          (λ (j : In l out). says l j s c e)
          (In-cases l k.letters out i);
    }

    -- it learns nothing
    same_tells : x.replica.decisions ≡ (node k n).replica.decisions → Tells then out → TellsAll then
    same_tells same says = turn_tells (λ s c e. told_then s c (all.known n s c (ap (λ d. get d s) (sym same) ∙ e))) says

    sent_then : (l : Letter C) → In l out → In l then.letters
    sent_then l i = In-right l k.letters out i

  module _ (laws : BallotLaws) (k : Cluster C) (sound : IsSound k) (all : TellsAll k) (n : ℕ)
      (member : is_member k.members n ≡ true) where
    -- it says this to all, and learns nothing
    says_tells : (x : NodeState C) (bodies : List (LetterBody C)) → x.replica.decisions ≡ (node k n).replica.decisions
        → TellsAll (turned k n x (all_to_all k.members n bodies))
    says_tells x bodies same = same_tells laws k sound all n member x (all_to_all k.members n bodies) same
        (tells_all (turned k n x (all_to_all k.members n bodies)) n bodies
        (sent_then laws k sound all n member x (all_to_all k.members n bodies)))

    quiet_tells : (x : NodeState C) → x.replica.decisions ≡ (node k n).replica.decisions → TellsAll (turned k n x [])
    quiet_tells x same = same_tells laws k sound all n member x [] same (tells_none (turned k n x []))

    -- it answers one letter, which tells no decision
    one_tells : (x : NodeState C) (b : LetterBody C) (m : ℕ) → x.replica.decisions ≡ (node k n).replica.decisions
        → ((s : ℕ) (c : C) → b ≡ Decision s c → ⊥) → TellsAll (turned k n x (letter n b m ∷ []))
    one_tells x b m same other = same_tells laws k sound all n member x (letter n b m ∷ []) same
        (λ l i s c e. ⊎_elim
        (λ (f : l ≡ letter n b m). no_decision b l n m s c f e (λ g. absurd (other s c g)))
        (λ none. absurd none) i)

    -- it answers what it knows
    decisions_tell : (m t : ℕ) → TellsAll (turned k n (node k n) (map (λ b. letter n b m) (tells (node k n).replica t)))
    decisions_tell m t =
        let out = map (λ b. letter n b m) (tells (node k n).replica t) in
        same_tells laws k sound all n member (node k n) out refl
        (λ l i s c e.
        let r = map_In (λ b. letter n b m) l (tells (node k n).replica t) i in
        let q = map_In (λ e. Decision e.0 e.1) r.0 (decided_from (node k n).replica t) r.1 in
        let within = (In_filter (λ (e : ℕ × C). nat_le t e.0 && nat_lt e.0 (t + window)) q.0
        (entries (node k n).replica.decisions) q.1).0 in
        let there_is = Each-at (λ e. get (node k n).replica.decisions e.0 ≡ Some e.1)
        (entries (node k n).replica.decisions) q.0
        (entries_get (node k n).replica.decisions) within in
        let same : Decision q.0.0 q.0.1 ≡ Decision s c = sym q.2 ∙ ap (λ (z : Letter C). z.body) (sym r.2) ∙ e in
        let slot : q.0.0 ≡ s = cc in
        let value : q.0.1 ≡ c = cc in
        subst (λ v. IsDecidedToAll (turned k n (node k n) out) s v) value
        (subst (λ u. IsDecidedToAll (turned k n (node k n) out) u q.0.1) slot
        (told_then laws k sound all n member (node k n) out q.0.0 q.0.1 (all.known n q.0.0 q.0.1 there_is))))

    -- it learns what it is told
    learns_tells : (l : Letter C) → In l k.letters → (t : ℕ) (d : C) → l.body ≡ Decision t d
        → TellsAll (turned k n (record (node k n) {
          replica = record
              (node k n).replica { decisions = insert (node k n).replica.decisions t d };
        }) [])
    learns_tells l i t d told =
        let x = record (node k n) {
          replica = record
              (node k n).replica { decisions = insert (node k n).replica.decisions t d };
        } in
        turn_tells laws k sound all n member x []
        (λ s c e. told_then laws k sound all n member x [] s c (⊎_elim
        (λ (same : (s ≡ t) × (get (insert (node k n).replica.decisions t d) s ≡ Some d)).
        let is : Some d ≡ Some c = sym same.1 ∙ e in
        let value : d ≡ c = cc in
        subst (λ v. IsDecidedToAll k s v) value (subst (λ u. IsDecidedToAll k u d) (sym same.0) (all.letters l i t d told)))
        (λ (apart : (s ≢ t) × (get (insert (node k n).replica.decisions t d) s ≡ get (node k n).replica.decisions s)).
        all.known n s c (sym apart.1 ∙ e))
        (get_insert_cases (node k n).replica.decisions t d s)))
        (tells_none (turned k n x []))

    receive_tells : (l : Letter C) → In l k.letters → (m : ℕ) (body : LetterBody C) → l.body ≡ body
        → (y : NodeState C) (out : List (Letter C))
        → Receives k.members m n (node k n) body y out → TellsAll (turned k n y out)
    receive_tells l i m body at _ _ (promises_ballot b report is) = one_tells _ _ m refl (λ s c e. absurd (cc))
    receive_tells l i m body at _ _ (accepts_pvalue p) = one_tells _ _ m refl (λ s c e. absurd (cc))
    receive_tells l i m body at _ _ (hears_promise b report fresh taken hears) = says_tells _ _ refl
    receive_tells l i m body at _ _ (hears_vote b s by) = says_tells _ _ refl
    receive_tells l i m body at _ _ (hears_proposal s c) = says_tells _ _ refl
    receive_tells l i m body at _ _ (learns s c) = learns_tells l i s c at
    receive_tells l i m body at _ _ (tells_decisions s) = decisions_tell m s

    nudge_tells : TellsAll (turned k n (node k n) (said_again k.members n (node k n)))
    nudge_tells =
        let x = node k n in
        let xs = all_to_all k.members n (says_again x.leader) in
        let ys = all_to_all k.members n (proposes_again x.replica) in
        let zs = asks_others k.members n x.replica.slot_out in
        let z = turned k n x (said_again k.members n x) in
        let sent = sent_then laws k sound all n member x (said_again k.members n x) in
        same_tells laws k sound all n member x (said_again k.members n x) refl
        (tells_both z xs (ys ++ zs)
        (tells_all z n (says_again x.leader) (λ l i. sent l (In-left l xs (ys ++ zs) i)))
        (tells_both z ys zs
        (tells_all z n (proposes_again x.replica) (λ l i. sent l (In-right l xs (ys ++ zs) (In-left l ys zs i))))
        (asks_if z n x.replica.slot_out (filter (λ m. not (m == n)) (numbers k.members))
        (nat_le x.replica.slot_out (2 ^ 62)))))

module _ (laws : BallotLaws) {O Op Reply : Type 0} (rules : Rules O Op Reply) where
  performs_tell : (w : World Op Reply) → IsSound w.cluster → TellsAll w.cluster → (n : ℕ)
      → is_member w.cluster.members n ≡ true
      → (o : Option (Command Op)) → TellsAll (after_performing rules w n (node w.cluster n).replica o).cluster
  performs_tell w sound all n member None = all
  performs_tell w sound all n member (Some c) = quiet_tells laws w.cluster sound all n member _ refl

  step_tells : (w v : World Op Reply) (e : Event Op) → IsSound w.cluster → Step rules w e v → TellsAll w.cluster
      → TellsAll v.cluster
  step_tells w v e sound (submit n c member own) all = quiet_tells laws w.cluster sound all n member _
      (requested_decisions (node w.cluster n).replica c (is_known (is_one rules) (node w.cluster n).replica c))
  step_tells w v e sound (deliver j l x out at receives) all =
      let within = In-get w.cluster.letters j l at in
      let fair = Each-at (IsFair w.cluster) w.cluster.letters l sound.letters within in
      receive_tells laws w.cluster sound all l.to fair.receiver l within l.«from» l.body refl x out receives
  step_tells w v e sound (wake n member) all = says_tells laws w.cluster sound all n member _ _ refl
  step_tells w v e sound (nudge n member) all = nudge_tells laws w.cluster sound all n member
  step_tells w v e sound (propose n member) all = says_tells laws w.cluster sound all n member _ _
      (proposed_decisions (node w.cluster n).replica (next_proposal (node w.cluster n).replica))
  step_tells w v e sound (perform n member) all = performs_tell w sound all n member
      (next_decided (node w.cluster n).replica)
  step_tells w v e sound (restart n member) all = turn_tells laws w.cluster sound all n member
      (restarted w.cluster.members n (node w.cluster n)) []
      (λ s c e. none_in_empty s c e) (tells_none (turned w.cluster n
      (restarted w.cluster.members n (node w.cluster n)) []))

  pub every_tells : InEvery rules (λ w. TellsAll w.cluster)
  every_tells = in_every laws rules (λ w. TellsAll w.cluster)
      (λ members. record {
        known = λ n s c e. none_in_empty s c
            (subst (λ (x : NodeState (Command Op)). get x.replica.decisions s ≡ Some c) (opened_at members n) e);
        letters = λ l i s c e. absurd i;
      })
      (λ w v e i s all. step_tells w v e (reachable_sound laws rules w i.reachable) s all)
