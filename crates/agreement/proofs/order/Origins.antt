-- Where commands come from: what holds of each submitted command holds of each that is requested, proposed or asked for.
use Rattle.std.proofs.Common.{◌≡◌, ◌≢◌, ◌⊎◌, inl, inr, ⊎_elim, ℕ, Bool, true, false, cond, List, [], ◌∷◌, ◌++◌, map}
use Rattle.std.proofs.Common.{filter, drop, Some, None, Option, refl, sym, ◌∙◌, subst, arith}
use Rattle.std.specs.Prelude.{⊤, ◌==◌, not, nat_le, ◌^◌}
use Rattle.std.specs.FinMap.{empty, get, insert, entries, contains_key}
use Rattle.std.proofs.lemmas.Bool.{cases_eq}
use Rattle.std.proofs.lemmas.Bool.Decides.{nat_tests}
use Rattle.object.specs.Lists.{In}
use Rattle.ballot.specs.Ballots.{Numbers, is_below, is_same}
use Rattle.ballot.specs.Members.{is_member, numbers, add, is_majority}
use Rattle.ballot.specs.Letters.{letter, all_to_all}
use Rattle.ballot.specs.declared.pvalue.Pvalue.{Pvalue}
use Rattle.ballot.specs.declared.letter.LetterBody.{LetterBody}
use Rattle.ballot.specs.declared.letter.LetterBody.TheVariants.{P1a, P1b, P2a, P2b, Propose, Decision, Ask}
use Rattle.ballot.specs.declared.letter.Letter.{Letter}
use Rattle.scout_commander.specs.Scouts.{Scouting, Hearing, new_scout, gathers, unmoved, TakesFresh}
use Rattle.scout_commander.specs.Scouts as scouts
use Rattle.scout_commander.specs.declared.scout.Heard.TheVariants.{Wait, Adopted, Preempted}
use Rattle.scout_commander.specs.Commanders.{Commanding, Voting, counts, votes}
use Rattle.scout_commander.specs.declared.commander.Voted.TheVariants.{Wait as VoteWaits, Decided}
use Rattle.ballot.specs.Slots.{Slots}
use Rattle.leader.specs.Leaders.{Leading, Done, silently, pvalue, woken, preempted, commands, on_propose, scout_says, says_again}
use Rattle.leader.specs.Adoptions.{IsGreatest, IsOpen, TakesGreatest, adopted}
use Rattle.leader.specs.Promises.{at_heard, at_scout, AllowsAt, Hears}
use Rattle.leader.specs.Votes.{at_voted, at_commander, answers_another}
use Rattle.leader.specs.Votes as votes_by
use Rattle.slot_log.specs.Books.{SlotBook}
use Rattle.slot_log.specs.Requests.{is_known, requested}
use Rattle.slot_log.specs.Proposals.{open_slot, first_for, next_proposal, proposed as proposed_as, proposed_next}
use Rattle.slot_log.specs.Decisions.{decided_from, next_decided}
use Rattle.slot_log.specs.Advances.{lost, advanced}
use Rattle.replica.specs.Replicas.{proposes_first, tells, proposes_again, asks_others, nudges}
use Rattle.node.specs.Nodes.{NodeState, restarted}
use Rattle.agreement.specs.Nodes.{Cluster, node, turned}
use Rattle.node.specs.Deeds.{led, said_again}
use Rattle.agreement.specs.Steps.{leader_turn, replica_turn}
use Rattle.node.specs.Receiving.{Receives, promises_ballot, accepts_pvalue, hears_promise, hears_vote, hears_proposal, learns, tells_decisions}
use Rattle.object.specs.ListLaws.{Each, Each-at, Each-append, Each-weaker, Each-map, Each-all, In-cases}
use Rattle.node.specs.SlotLaws.{get_insert_cases, get_remove_cases, none_in_empty, entries_get}
use Rattle.agreement.proofs.chosen.Invariants.{Asked, IsTrueOf, IsSound}
use Rattle.ballot.specs.OrderLaws.{BallotLaws}
use Rattle.agreement.proofs.chosen.Turns.{here, there}
use Rattle.agreement.proofs.chosen.Good.{Each-to_all}
use Rattle.agreement.proofs.chosen.LeaderRows.{some_same, none_not}

module _ {C : Type 0} (P : C → Type 0) where
  abbrev pub AllAt : Slots C → Type 0
  AllAt m = (s : ℕ) (c : C) → get m s ≡ Some c → P c

  abbrev pub OfBody : LetterBody C → Type 0
  OfBody (P1a b) = ⊤
  OfBody (P1b b report) = ⊤
  OfBody (P2a p) = P p.value
  OfBody (P2b b s by) = ⊤
  OfBody (Propose s c) = P c
  OfBody (Decision s c) = ⊤
  OfBody (Ask s) = ⊤

  pub record OfBook (r : SlotBook C) : Type 0 where
    pub requests : Each P r.requests
    pub proposals : AllAt r.proposals

  pub record OfNode (x : NodeState C) : Type 0 where
    pub leader : AllAt x.leader.proposals
    pub replica : OfBook x.replica

  -- it holds of each command in the cluster
  pub record Of (k : Cluster C) : Type 0 where
    pub nodes : (n : ℕ) → OfNode (node k n)
    pub letters : Each (λ l. OfBody l.body) k.letters

  pub asked_of : (k : Cluster C) → Of k → (p : Pvalue C) → Asked k.letters p → P p.value
  asked_of k f p a = subst OfBody a.2 (Each-at (λ l. OfBody l.body) k.letters a.0 f.letters a.1)

  pub turn_of : (laws : BallotLaws) (k : Cluster C) (i : IsSound k) (n : ℕ) (member : is_member k.members n ≡ true)
      (x : NodeState C) (out : List (Letter C)) → Of k → OfNode x → Each (λ l. OfBody l.body) out
      → Of (turned k n x out)
  turn_of laws k i n member x out f fx fo = record {
    nodes = λ m. ⊎_elim
        (λ (e : m ≡ n). subst (λ z. OfNode (node (turned k n x out) z)) (sym e) (subst OfNode (sym (here laws k i n member x out)) fx))
        (λ (apart : m ≢ n). subst OfNode (sym (there laws k i n member x out m apart)) (f.nodes m))
        (cases_eq m n);
    letters = Each-append (λ l. OfBody l.body) k.letters out f.letters fo;
  }

  pub empty_at : AllAt empty
  empty_at s c e = none_in_empty s c e

  insert_at : (m : Slots C) (s : ℕ) (c : C) → AllAt m → P c → AllAt (insert m s c)
  insert_at m s c a p t d e = ⊎_elim
      (λ (same : (t ≡ s) × (get (insert m s c) t ≡ Some c)). subst P (some_same (sym same.1 ∙ e)) p)
      (λ (apart : (t ≢ s) × (get (insert m s c) t ≡ get m t)). a t d (sym apart.1 ∙ e))
      (get_insert_cases m s c t)

  entries_at : (m : Slots C) → AllAt m → Each (λ e. P e.1) (entries m)
  entries_at m a = Each-weaker (λ e. get m e.0 ≡ Some e.1) (λ e. P e.1) (λ e g. a e.0 e.1 g) (entries m) (entries_get m)

  -- a leader's turn
  pub record OfDone (d : Done (Leading C) C) : Type 0 where
    pub state : AllAt d.state.proposals
    pub says : Each OfBody d.says

  done_if : (d e : Done (Leading C) C) (test : Bool) → OfDone d → OfDone e → OfDone (cond test d e)
  done_if d e true a b = a
  done_if d e false a b = b

  of_silent : (l : Leading C) → AllAt l.proposals → OfDone (silently l)
  of_silent l h = record { state = h; says = tt }

  woken_of : (l : Leading C) → AllAt l.proposals → OfDone (woken l)
  woken_of l h = done_if wakes (silently l) _ (record { state = h; says = (tt, tt) }) (of_silent l h)
    where
      wakes : Done (Leading C) C
      wakes = record { state = record l { scout = Some (new_scout l.members l.ballot) }; says = P1a l.ballot ∷ [] }

  preempted_same : (l z : Leading C) (test : Bool) → z.proposals ≡ l.proposals → (cond test z l).proposals ≡ l.proposals
  preempted_same l z true e = e
  preempted_same l z false e = refl

  preempted_of : (l : Leading C) (b : Numbers) → AllAt l.proposals → OfDone (silently (preempted l b))
  preempted_of l b h = of_silent (preempted l b) (subst AllAt (sym (preempted_same l _ (is_below l.ballot b) refl)) h)

  -- a proposal that is taken stood before, or was gathered
  taken_at : (old : Slots C) (gathered : List (Pvalue C)) (new : Slots C) → AllAt old → ((p : Pvalue C) → In p gathered → P p.value) → (s : ℕ) (c : C)
      → (IsOpen gathered s × (get new s ≡ get old s)) ⊎ ((p : Pvalue C) × IsGreatest gathered s p × (get new s ≡ Some p.value))
      → get new s ≡ Some c → P c
  taken_at old gathered new h g s c (inl same) e = h s c (sym same.1 ∙ e)
  taken_at old gathered new h g s c (inr p) e = subst P (some_same (sym p.2 ∙ e)) (g p.0 p.1.within)

  adopted_of : (l : Leading C) (gathered : List (Pvalue C)) (new : Slots C) → AllAt l.proposals
      → ((p : Pvalue C) → In p gathered → P p.value) → TakesGreatest l.proposals gathered new → OfDone (adopted l new)
  adopted_of l gathered new h g taken =
      let all : AllAt new = λ s c e. taken_at l.proposals gathered new h g s c (taken s) e in
      record {
        state = all;
        says = Each-map OfBody (λ e. P2a (pvalue l.ballot e.0 e.1)) (entries new) (entries_at new all);
      }

  -- what a scout makes of a P1b, and what the leader makes of that
  abbrev AtHearing : Leading C → Slots C → Hearing C → Type 0
  AtHearing l taken v = AllowsAt l.proposals v.scout v.says taken → OfDone (at_heard l taken v.scout v.says)

  hearing_if : (l : Leading C) (taken : Slots C) (test : Bool) (v w : Hearing C) → (test ≡ true → AtHearing l taken v)
      → AtHearing l taken w → AtHearing l taken (cond test v w)
  hearing_if l taken true v w on off = on refl
  hearing_if l taken false v w on off = off

  same_numbers : (a b : Numbers) → is_same a b ≡ true → a ≡ b
  same_numbers a b h =
      let r : a.round ≡ b.round = grind (arith, nat_tests) in
      let n : a.node ≡ b.node = grind (arith, nat_tests) in
      let t : a.boot ≡ b.boot = grind (arith, nat_tests) in
      λ i. record { round = r i; node = n i; boot = t i }

  heard_if : (l : Leading C) (taken : Slots C) (s : Scouting C) → AllAt l.proposals
      → ((p : Pvalue C) → In p s.gathered → P p.value) → (test : Bool)
      → AllowsAt l.proposals s (cond test Adopted Wait) taken → OfDone (at_heard l taken s (cond test Adopted Wait))
  heard_if l taken s h g true allowed = adopted_of l s.gathered taken h g allowed
  heard_if l taken s h g false allowed = of_silent _ h

  scout_of : (l : Leading C) (m : ℕ) (b : Numbers) (report fresh : List (Pvalue C)) (taken : Slots C)
      → AllAt l.proposals → ((p : Pvalue C) → In p report → P p.value) → (s : Scouting C)
      → TakesFresh s m b report fresh → ((p : Pvalue C) → In p s.gathered → P p.value)
      → AtHearing l taken (scouts.on_p1b s m b fresh)
  scout_of l m b report fresh taken h r s takes g =
      hearing_if l taken (is_member s.members m) _ (unmoved s Wait)
      (λ member. hearing_if l taken (is_same b s.ballot) (gathers s m fresh) _
      (λ mine.
      let f = takes (record { member = member; same = same_numbers b s.ballot mine }) in
      heard_if l taken (gathers s m fresh).scout h
      (λ p at. ⊎_elim (λ (x : In p s.gathered). g p x) (λ (x : In p fresh). r p (f.part p x))
      (In-cases p s.gathered fresh at)) (is_majority s.members (add s.heard m)))
      (hearing_if l taken (is_below s.ballot b) (unmoved s (Preempted b)) (unmoved s Wait) (λ up allowed. preempted_of l b h) (λ allowed. of_silent _ h)))
      (λ allowed. of_silent _ h)

  p1b_of : (l : Leading C) (m : ℕ) (b : Numbers) (report fresh : List (Pvalue C)) (taken : Slots C) → AllAt l.proposals
      → ((p : Pvalue C) → In p report → P p.value) → Hears l m b report fresh taken → (o : Option (Scouting C))
      → l.scout ≡ o → ((s : Scouting C) → l.scout ≡ Some s → (p : Pvalue C) → In p s.gathered → P p.value)
      → OfDone (at_scout l m b fresh taken o)
  p1b_of l m b report fresh taken h r may None e g = of_silent l h
  p1b_of l m b report fresh taken h r may (Some s) e g = scout_of l m b report fresh taken h r s (may.gathers s e) (g s e) (may.takes s e)

  -- and what a commander makes of a P2b
  abbrev AtVoting : Leading C → ℕ → Voting C → Type 0
  AtVoting l s v = OfDone (at_voted l s v.commander v.says)

  voting_if : (l : Leading C) (s : ℕ) (test : Bool) (v w : Voting C) → AtVoting l s v → AtVoting l s w → AtVoting l s (cond test v w)
  voting_if l s true v w on off = on
  voting_if l s false v w on off = off

  voted_if : (l : Leading C) (s : ℕ) (c : Commanding C) → AllAt l.proposals → (test : Bool) → OfDone (at_voted l s c (cond test Decided VoteWaits))
  voted_if l s c h true = record { state = h; says = (tt, tt) }
  voted_if l s c h false = of_silent _ h

  votes_of : (l : Leading C) (m : ℕ) (o : Option Numbers) (s : ℕ) (c : Commanding C) → AllAt l.proposals → AtVoting l s (votes c m o)
  votes_of l m None s c h = of_silent _ h
  votes_of l m (Some b) s c h =
      voting_if l s (is_same b c.pvalue.ballot) (counts c m) _ (voted_if l s (counts c m).commander h (is_majority c.members (add c.heard m)))
      (voting_if l s (is_below c.pvalue.ballot b) _ _ (preempted_of l b h) (of_silent _ h))

  commander_of : (l : Leading C) (m : ℕ) (b : Option Numbers) (s : ℕ) → AllAt l.proposals → (o : Option (Commanding C)) → OfDone (at_commander l m b s o)
  commander_of l m b s h None = of_silent l h
  commander_of l m b s h (Some c) = voting_if l s (is_member c.members m) _ _ (votes_of l m b s c h) (of_silent _ h)

  p2b_of : (l : Leading C) (m : ℕ) (b : Option Numbers) (s : ℕ) (by : Numbers) → AllAt l.proposals → OfDone (votes_by.on_p2b l m b s by)
  p2b_of l m b s by h = done_if (silently l) _ (answers_another l b by) (of_silent l h) (commander_of l m b s h (get l.commanders s))

  propose_of : (l : Leading C) (s : ℕ) (c : C) → AllAt l.proposals → P c → OfDone (on_propose l s c)
  propose_of l s c h p =
      done_if (silently l) _ (contains_key l.proposals s) (of_silent l h)
      (done_if (commands l s c) _ l.active (record { state = insert_at l.proposals s c h p; says = (p, tt) }) (of_silent _ (insert_at l.proposals s c h p)))

  -- a replica's rows
  back_of : (same : C → C → Bool) (o d : Option C) → ((c : C) → o ≡ Some c → P c) → Each P (lost same o d)
  back_of same None d h = tt
  back_of same (Some p) None h = tt
  back_of same (Some p) (Some c) h = at (same p c)
    where
      at : (test : Bool) → Each P (cond test [] (p ∷ []))
      at true = tt
      at false = (h p refl, tt)

  advanced_of : (same : C → C → Bool) (r : SlotBook C) → OfBook r → OfBook (advanced same r)
  advanced_of same r h = record {
    requests = Each-append P r.requests (lost same (get r.proposals r.slot_out) (next_decided r)) h.requests
        (back_of same (get r.proposals r.slot_out) (next_decided r) (λ c e. h.proposals r.slot_out c e));
    proposals = λ s c e. h.proposals s c (get_remove_cases r.proposals r.slot_out s c e);
  }

  requested_of : (same : C → C → Bool) (r : SlotBook C) (c : C) → OfBook r → P c → OfBook (requested same r c)
  requested_of same r c h p = at (is_known same r c)
    where
      at : (test : Bool) → OfBook (cond test r (record r { requests = r.requests ++ (c ∷ []) }))
      at true = h
      at false = record { requests = Each-append P r.requests (c ∷ []) h.requests (p, tt); proposals = h.proposals }

  first_of : (requests : List C) → Each P requests → (slot : Option ℕ) (p : ℕ × C) → first_for requests slot ≡ Some p → P p.1
  first_of [] all slot p e = none_not refl e
  first_of (c ∷ more) all None p e = none_not refl e
  first_of (c ∷ more) all (Some s) p e = subst (λ (q : ℕ × C). P q.1) (some_same e) all.0

  rest_of : (requests : List C) → Each P requests → Each P (drop 1 requests)
  rest_of [] all = tt
  rest_of (c ∷ more) all = all.1

  proposed_of : (r : SlotBook C) → OfBook r → (o : Option (ℕ × C)) → ((p : ℕ × C) → o ≡ Some p → P p.1) → OfBook (proposed_as r o)
  proposed_of r h None first = h
  proposed_of r h (Some p) first = record { requests = rest_of r.requests h.requests; proposals = insert_at r.proposals p.0 p.1 h.proposals (first p refl) }

  asks_of : (o : Option (ℕ × C)) → ((p : ℕ × C) → o ≡ Some p → P p.1) → Each OfBody (proposes_first o)
  asks_of None first = tt
  asks_of (Some p) first = (first p refl, tt)

  sends_of : (ws : List ℕ) (n : ℕ) (bodies : List (LetterBody C)) → Each OfBody bodies → Each (λ l. OfBody l.body) (all_to_all ws n bodies)
  sends_of ws n bodies h = Each-to_all (λ l. OfBody l.body) ws n bodies (λ b at m to. Each-at OfBody bodies b h at)

  others_of : (ws : List ℕ) (n s : ℕ) (test : Bool)
      → Each (λ (l : Letter C). OfBody l.body)
      (cond test (map (letter n (Ask s)) (filter (λ m. not (m == n)) (numbers ws))) [])
  others_of ws n s true = Each-map (λ l. OfBody l.body) (letter n (Ask s)) (filter (λ m. not (m == n)) (numbers ws))
      (Each-all _ (filter (λ m. not (m == n)) (numbers ws)) (λ m. tt))
  others_of ws n s false = tt

  scout_says_of : (o : Option (Scouting C)) → Each OfBody (scout_says o)
  scout_says_of None = tt
  scout_says_of (Some s) = (tt, tt)

  module _ (laws : BallotLaws) (k : Cluster C) (i : IsSound k) (n : ℕ) (member : is_member k.members n ≡ true) (f : Of k) where
    of_leader : (d : Done (Leading C) C) → OfDone d → Of (leader_turn k n d)
    of_leader d h = turn_of laws k i n member (led (node k n) d) (all_to_all k.members n d.says) f
        (record { leader = h.state; replica = (f.nodes n).replica }) (sends_of k.members n d.says h.says)

    of_replica : (r : SlotBook C) (out : List (Letter C)) → OfBook r → Each (λ l. OfBody l.body) out → Of (replica_turn k n r out)
    of_replica r out h o = turn_of laws k i n member (record (node k n) { replica = r }) out f (record { leader = (f.nodes n).leader; replica = h }) o

    same_node : (x : NodeState C) (out : List (Letter C)) → x.leader ≡ (node k n).leader
        → x.replica ≡ (node k n).replica → Each (λ l. OfBody l.body) out → Of (turned k n x out)
    same_node x out a b o = turn_of laws k i n member x out f
        (record {
          leader = subst (λ (l : Leading C). AllAt l.proposals) (sym a) (f.nodes n).leader;
          replica =
              subst OfBook (sym b) (f.nodes n).replica;
        }) o

    pub restart_of : Of (turned k n (restarted k.members n (node k n)) [])
    restart_of = turn_of laws k i n member (restarted k.members n (node k n)) [] f
        (record { leader = empty_at; replica = record { requests = tt; proposals = empty_at } }) tt

    pub wake_of : Of (leader_turn k n (woken (node k n).leader))
    wake_of = of_leader _ (woken_of (node k n).leader (f.nodes n).leader)

    commanders_say : Each OfBody (map (λ e. P2a e.1.pvalue) (entries (node k n).leader.commanders))
    commanders_say =
        Each-map OfBody (λ e. P2a e.1.pvalue) (entries (node k n).leader.commanders)
        (Each-weaker (λ e. get (node k n).leader.commanders e.0 ≡ Some e.1) (λ e. P e.1.pvalue.value)
        (λ e there. asked_of k f e.1.pvalue ((i.nodes n).leader.commanding e.0 e.1 there).sent)
        (entries (node k n).leader.commanders) (entries_get (node k n).leader.commanders))

    pub nudge_of : Of (turned k n (node k n) (said_again k.members n (node k n)))
    nudge_of =
        same_node (node k n) (said_again k.members n (node k n)) refl refl
        (Each-append (λ l. OfBody l.body) (all_to_all k.members n (says_again (node k n).leader)) (nudges k.members n (node k n).replica)
        (sends_of k.members n (says_again (node k n).leader)
        (Each-append OfBody (scout_says (node k n).leader.scout)
        (map (λ e. P2a e.1.pvalue) (entries (node k n).leader.commanders))
        (scout_says_of (node k n).leader.scout) commanders_say))
        (Each-append (λ l. OfBody l.body) (all_to_all k.members n (proposes_again (node k n).replica)) (asks_others k.members n (node k n).replica.slot_out)
        (sends_of k.members n (proposes_again (node k n).replica)
        (Each-map OfBody (λ e. Propose e.0 e.1) (entries (node k n).replica.proposals)
        (entries_at (node k n).replica.proposals (f.nodes n).replica.proposals)))
        (others_of k.members n (node k n).replica.slot_out (nat_le (node k n).replica.slot_out (2 ^ 62)))))

    pub proposes_of : Of (replica_turn k n (proposed_next (node k n).replica) (all_to_all k.members n (proposes_first (next_proposal (node k n).replica))))
    proposes_of =
        let r : SlotBook C = (node k n).replica in
        let first : (p : ℕ × C) → next_proposal r ≡ Some p → P p.1 = λ p e. first_of r.requests (f.nodes n).replica.requests (open_slot r) p e in
        of_replica (proposed_next r) (all_to_all k.members n (proposes_first (next_proposal r)))
        (proposed_of r (f.nodes n).replica (next_proposal r) first)
        (sends_of k.members n (proposes_first (next_proposal r)) (asks_of (next_proposal r) first))

    pub submit_of : (same : C → C → Bool) (c : C) → P c → Of (replica_turn k n (requested same (node k n).replica c) [])
    submit_of same c p = of_replica (requested same (node k n).replica c) [] (requested_of same (node k n).replica c (f.nodes n).replica p) tt

    pub perform_of : (same : C → C → Bool) → Of (replica_turn k n (advanced same (node k n).replica) [])
    perform_of same = of_replica (advanced same (node k n).replica) [] (advanced_of same (node k n).replica (f.nodes n).replica) tt

    gathered_of : (s : Scouting C) → (node k n).leader.scout ≡ Some s → (p : Pvalue C) → In p s.gathered → P p.value
    gathered_of s e p at = asked_of k f p (((i.nodes n).leader.scouting s e).gathering.sent p at)

    pub receive_of : (m : ℕ) (body : LetterBody C) → OfBody body → IsTrueOf k m body
        → (x : NodeState C) (out : List (Letter C)) → Receives k.members m n (node k n) body x out
        → Of (turned k n x out)
    receive_of m body h fair x out (promises_ballot b report r) = same_node x out refl refl (tt, tt)
    receive_of m body h fair x out (accepts_pvalue p) = same_node x out refl refl (tt, tt)
    receive_of m body h fair x out (hears_promise b report fresh taken may) =
        of_leader _ (p1b_of (node k n).leader m b report fresh taken (f.nodes n).leader
        (λ p at. asked_of k f p (fair.sent p at)) may (node k n).leader.scout refl gathered_of)
    receive_of m body h fair x out (hears_vote b s by) = of_leader _ (p2b_of (node k n).leader m b s by (f.nodes n).leader)
    receive_of m body h fair x out (hears_proposal s c) = of_leader _ (propose_of (node k n).leader s c (f.nodes n).leader h)
    receive_of m body h fair x out (learns s c) =
        of_replica x.replica [] (record {
          requests = (f.nodes n).replica.requests;
          proposals =
              (f.nodes n).replica.proposals;
        }) tt
    receive_of m body h fair x out (tells_decisions s) =
        same_node (node k n) _ refl refl
        (Each-map (λ l. OfBody l.body) (λ b. letter n b m) (tells (node k n).replica s)
        (Each-map OfBody (λ e. Decision e.0 e.1) (decided_from (node k n).replica s) (Each-all _ (decided_from (node k n).replica s) (λ e. tt))))
