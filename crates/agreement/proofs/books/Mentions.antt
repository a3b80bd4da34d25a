-- What holds of each slot and command that a cluster mentions holds after each event, if it holds of what is proposed.
use Rattle.std.proofs.Common.{◌≡◌, ◌≢◌, ◌⊎◌, inl, inr, ⊎_elim, ℕ, ◌^◌, Bool, true, false, cond, List, [], ◌∷◌, ◌++◌}
use Rattle.std.proofs.Common.{map, filter, Some, None, Option, refl, sym, ◌∙◌, subst}
use Rattle.std.specs.Prelude.{◌==◌, not, nat_le, nat_lt, ◌&&◌, ◌+◌}
use Rattle.std.specs.FinMap.{empty, get, insert, entries, contains_key}
use Rattle.std.proofs.lemmas.Bool.{cases_eq}
use Rattle.object.specs.Lists.{In}
use Rattle.object.specs.ListLaws.{Each, Each-at, Each-append, Each-weaker, Each-map, Each-all, Each-filter, In-cases}
use Rattle.ballot.specs.Ballots.{Numbers, is_below, is_same, is_promise, next_after}
use Rattle.ballot.specs.Members.{is_member, numbers, add, is_majority}
use Rattle.ballot.specs.Letters.{letter, all_to_all}
use Rattle.ballot.specs.OrderLaws.{BallotLaws}
use Rattle.ballot.specs.Slots.{Slots}
use Rattle.ballot.specs.declared.pvalue.Pvalue.{Pvalue}
use Rattle.ballot.specs.declared.letter.LetterBody.{LetterBody}
use Rattle.ballot.specs.declared.letter.LetterBody.TheVariants.{P1a, P2a, Propose, Decision, Ask}
use Rattle.ballot.specs.declared.letter.Letter.{Letter}
use Rattle.scout_commander.specs.Scouts.{Scouting, Hearing, new_scout, gathers, unmoved, TakesFresh}
use Rattle.scout_commander.specs.Scouts as scouts
use Rattle.scout_commander.specs.declared.scout.Heard.TheVariants.{Wait, Adopted, Preempted}
use Rattle.scout_commander.specs.Commanders.{Commanding, Voting, new_commander, counts, votes}
use Rattle.scout_commander.specs.declared.commander.Voted.TheVariants.{Wait as VoteWaits, Decided}
use Rattle.leader.specs.Leaders.{Leading, Done, silently, pvalue, woken, preempted, commands, on_propose, scout_says, says_again}
use Rattle.leader.specs.Adoptions.{IsGreatest, IsOpen, TakesGreatest, adopted}
use Rattle.leader.specs.Promises.{at_heard, at_scout, AllowsAt, Hears}
use Rattle.leader.specs.Votes.{at_voted, at_commander, answers_another}
use Rattle.leader.specs.Votes as votes_by
use Rattle.slot_log.specs.Books.{SlotBook, window}
use Rattle.slot_log.specs.Requests.{is_known, requested}
use Rattle.slot_log.specs.Proposals.{next_proposal, proposed as proposed_as, proposed_next}
use Rattle.slot_log.specs.Decisions.{decided_from, learnt}
use Rattle.slot_log.specs.Advances.{advanced}
use Rattle.replica.specs.Replicas.{proposes_first, tells, proposes_again, asks_others, nudges}
use Rattle.node.specs.Deeds.{led, said_again}
use Rattle.node.specs.Nodes.{NodeState, restarted, new_node}
use Rattle.node.specs.Receiving.{Receives, promises_ballot, accepts_pvalue, hears_promise, hears_vote, hears_proposal, learns, tells_decisions}
use Rattle.node.specs.SlotLaws.{get_insert_cases, get_remove_cases, none_in_empty, entries_get, get_each_value}
use Rattle.agreement.specs.Mentions.{EachSlot, EachPvalue, MentionsBody, MentionsLeader, MentionsBook, MentionsNode, Mentions}
use Rattle.agreement.specs.Nodes.{Cluster, node, turned}
use Rattle.agreement.specs.Steps.{leader_turn, replica_turn}
use Rattle.agreement.proofs.chosen.Good.{Each-to_all}
use Rattle.agreement.proofs.chosen.Invariants.{IsSound}
use Rattle.agreement.proofs.chosen.LeaderRows.{some_same, none_not}
use Rattle.agreement.proofs.chosen.Turns.{here, there}

module _ {C : Type 0} (P : ℕ → C → Type 0) where
  at_slot : (s t : ℕ) (c d : C) → s ≡ t → c ≡ d → P s c → P t d
  at_slot s t c d e f p = subst (λ (q : ℕ × C). P q.0 q.1) (λ j. (e j, f j)) p

  nothing_at : EachSlot P empty
  nothing_at s c e = none_in_empty s c e

  insert_at : (m : Slots C) (s : ℕ) (c : C) → EachSlot P m → P s c → EachSlot P (insert m s c)
  insert_at m s c all p t d e = ⊎_elim
      (λ (same : (t ≡ s) × (get (insert m s c) t ≡ Some c)). at_slot s t c d (sym same.0) (some_same (sym same.1 ∙ e)) p)
      (λ (apart : (t ≢ s) × (get (insert m s c) t ≡ get m t)). all t d (sym apart.1 ∙ e))
      (get_insert_cases m s c t)

  entries_at : (m : Slots C) → EachSlot P m → Each (λ e. P e.0 e.1) (entries m)
  entries_at m all = Each-weaker (λ e. get m e.0 ≡ Some e.1) (λ e. P e.0 e.1) (λ e there. all e.0 e.1 there) (entries m) (entries_get m)

  -- a leader's turn
  record OfDone (d : Done (Leading C) C) : Type 0 where
    pub state : MentionsLeader P d.state
    pub says : Each (MentionsBody P) d.says

  done_if : (d e : Done (Leading C) C) (test : Bool) → OfDone d → OfDone e → OfDone (cond test d e)
  done_if d e true a b = a
  done_if d e false a b = b

  of_silent : (l : Leading C) → MentionsLeader P l → OfDone (silently l)
  of_silent l h = record { state = h; says = tt }

  module _ (l : Leading C) (h : MentionsLeader P l) where
    woken_of : OfDone (woken l)
    woken_of = done_if wakes (silently l) _ (record {
      state = record {
        proposals = h.proposals;
        gathered = λ s f. subst (λ (y : Scouting C). EachPvalue P y.gathered) (some_same f) (λ p i. absurd i);
        commanders = h.commanders;
      };
      says = (tt, tt);
    }) (of_silent l h)
      where
        wakes : Done (Leading C) C
        wakes = record { state = record l { scout = Some (new_scout l.members l.ballot) }; says = P1a l.ballot ∷ [] }

    preempted_if : (b : Numbers) (test : Bool)
        → OfDone (silently (cond test (record l {
          ballot = next_after b l.ballot.node l.ballot.boot;
          active =
              false;
          scout = None;
          commanders = empty;
        }) l))
    preempted_if b true = of_silent _ (record { proposals = h.proposals; gathered = λ s f. none_not refl f; commanders = λ s c f. none_in_empty s c f })
    preempted_if b false = of_silent l h

    preempted_of : (b : Numbers) → OfDone (silently (preempted l b))
    preempted_of b = preempted_if b (is_below l.ballot b)

    -- a proposal that is taken stood before, or was gathered
    taken_at : (gathered : List (Pvalue C)) (new : Slots C) → EachPvalue P gathered → (s : ℕ) (c : C)
        → (IsOpen gathered s × (get new s ≡ get l.proposals s)) ⊎ ((p : Pvalue C) × IsGreatest gathered s p × (get new s ≡ Some p.value))
        → get new s ≡ Some c → P s c
    taken_at gathered new g s c (inl same) e = h.proposals s c (sym same.1 ∙ e)
    taken_at gathered new g s c (inr p) e = at_slot p.0.slot s p.0.value c p.1.slot (some_same (sym p.2 ∙ e)) (g p.0 p.1.within)

    adopted_of : (gathered : List (Pvalue C)) (new : Slots C) → EachPvalue P gathered → TakesGreatest l.proposals gathered new → OfDone (adopted l new)
    adopted_of gathered new g taken =
        let all : EachSlot P new = λ s c e. taken_at gathered new g s c (taken s) e in
        record {
          state = record {
            proposals = all;
            gathered = λ s f. none_not refl f;
            commanders = λ s c f.
                let v = get_each_value (λ s c. new_commander l.members (pvalue l.ballot s c)) new s c f in
                subst (λ (y : Commanding C). P s y.pvalue.value) (sym v.2) (all s v.0 v.1);
          };
          says = Each-map (MentionsBody P) (λ e. P2a (pvalue l.ballot e.0 e.1)) (entries new) (entries_at new all);
        }

    -- in the place of the scout stands another one
    scout_of : (s : Scouting C) → EachPvalue P s.gathered → OfDone (silently (record l { scout = Some s }))
    scout_of s g = of_silent _ (record {
      proposals = h.proposals;
      gathered = λ y f. subst (λ (y : Scouting C). EachPvalue P y.gathered) (some_same f) g;
      commanders = h.commanders;
    })

    -- what a scout makes of a P1b, and what the leader makes of that
    abbrev AtHearing : Slots C → Hearing C → Type 0
    AtHearing taken v = AllowsAt l.proposals v.scout v.says taken → OfDone (at_heard l taken v.scout v.says)

    hearing_if : (taken : Slots C) (test : Bool) (v w : Hearing C) → (test ≡ true → AtHearing taken v)
        → (test ≡ false → AtHearing taken w) → AtHearing taken (cond test v w)
    hearing_if taken true v w on off = on refl
    hearing_if taken false v w on off = off refl

    heard_if : (taken : Slots C) (s : Scouting C) → EachPvalue P s.gathered → (test : Bool)
        → AllowsAt l.proposals s (cond test Adopted Wait) taken → OfDone (at_heard l taken s (cond test Adopted Wait))
    heard_if taken s g true allowed = adopted_of s.gathered taken g allowed
    heard_if taken s g false allowed = scout_of s g

    module _ (laws : BallotLaws) (m : ℕ) (b : Numbers) (report fresh : List (Pvalue C)) (taken : Slots C) (r : EachPvalue P report) where
      hearing_of : (s : Scouting C) → TakesFresh s m b report fresh → EachPvalue P s.gathered → AtHearing taken (scouts.on_p1b s m b fresh)
      hearing_of s takes g =
          hearing_if taken (is_member s.members m) _ (unmoved s Wait)
          (λ member. hearing_if taken (is_same b s.ballot) (gathers s m fresh) _
          (λ mine.
          let f = takes (record { member = member; same = laws.same b s.ballot mine }) in
          heard_if taken (gathers s m fresh).scout
          (λ p at. ⊎_elim (λ (x : In p s.gathered). g p x) (λ (x : In p fresh). r p (f.part p x))
          (In-cases p s.gathered fresh at)) (is_majority s.members (add s.heard m)))
          (λ other. hearing_if taken (is_below s.ballot b) (unmoved s (Preempted b)) (unmoved s Wait)
          (λ up allowed. preempted_of b)
          (λ down allowed. scout_of s g)))
          (λ stranger allowed. scout_of s g)

      p1b_of : Hears l m b report fresh taken → (o : Option (Scouting C)) → l.scout ≡ o → OfDone (at_scout l m b fresh taken o)
      p1b_of may None e = of_silent l h
      p1b_of may (Some s) e = hearing_of s (may.gathers s e) (h.gathered s e) (may.takes s e)

    -- in slot s stands a commander with this command
    commander_of : (s : ℕ) (c : Commanding C) → P s c.pvalue.value → OfDone (silently (record l { commanders = insert l.commanders s c }))
    commander_of s c p = of_silent _ (record {
      proposals = h.proposals;
      gathered = h.gathered;
      commanders = λ t y f. ⊎_elim
          (λ (same : (t ≡ s) × (get (insert l.commanders s c) t ≡ Some c)). subst
          (λ (q : ℕ × Commanding C). P q.0 q.1.pvalue.value) (λ j. (sym same.0 j, some_same (sym same.1 ∙ f) j)) p)
          (λ (apart : (t ≢ s) × (get (insert l.commanders s c) t ≡ get l.commanders t)). h.commanders t y (sym apart.1 ∙ f))
          (get_insert_cases l.commanders s c t);
    })

    -- and what a commander makes of a P2b
    abbrev AtVoting : ℕ → Voting C → Type 0
    AtVoting s v = OfDone (at_voted l s v.commander v.says)

    voting_if : (s : ℕ) (test : Bool) (v w : Voting C) → AtVoting s v → AtVoting s w → AtVoting s (cond test v w)
    voting_if s true v w on off = on
    voting_if s false v w on off = off

    voted_if : (s : ℕ) (c : Commanding C) → P s c.pvalue.value → (test : Bool) → OfDone (at_voted l s c (cond test Decided VoteWaits))
    voted_if s c p true = record {
      state = record {
        proposals = h.proposals;
        gathered = h.gathered;
        commanders = λ t y f. h.commanders t y (get_remove_cases l.commanders s t y f);
      };
      says = (p, tt);
    }
    voted_if s c p false = commander_of s c p

    votes_of : (m : ℕ) (o : Option Numbers) (s : ℕ) (c : Commanding C) → P s c.pvalue.value → AtVoting s (votes c m o)
    votes_of m None s c p = commander_of s c p
    votes_of m (Some b) s c p =
        voting_if s (is_same b c.pvalue.ballot) (counts c m) _ (voted_if s (counts c m).commander p (is_majority c.members (add c.heard m)))
        (voting_if s (is_below c.pvalue.ballot b) _ _ (preempted_of b) (commander_of s c p))

    at_commander_of : (m : ℕ) (b : Option Numbers) (s : ℕ) (o : Option (Commanding C)) → get l.commanders s ≡ o → OfDone (at_commander l m b s o)
    at_commander_of m b s None e = of_silent l h
    at_commander_of m b s (Some c) e = voting_if s (is_member c.members m) _ _ (votes_of m b s c (h.commanders s c e)) (commander_of s c (h.commanders s c e))

    p2b_of : (m : ℕ) (b : Option Numbers) (s : ℕ) (by : Numbers) → OfDone (votes_by.on_p2b l m b s by)
    p2b_of m b s by = done_if (silently l) _ (answers_another l b by) (of_silent l h) (at_commander_of m b s (get l.commanders s) refl)

    commands_of : (s : ℕ) (c : C) → P s c → OfDone (commands l s c)
    commands_of s c p = record {
      state = record {
        proposals = insert_at l.proposals s c h.proposals p;
        gathered = h.gathered;
        commanders = (commander_of s (new_commander l.members (pvalue l.ballot s c)) p).state.commanders;
      };
      says = (p, tt);
    }

    propose_of : (s : ℕ) (c : C) → P s c → OfDone (on_propose l s c)
    propose_of s c p =
        done_if (silently l) _ (contains_key l.proposals s) (of_silent l h)
        (done_if (commands l s c) _ l.active (commands_of s c p)
        (of_silent _ (record { proposals = insert_at l.proposals s c h.proposals p; gathered = h.gathered; commanders = h.commanders })))

  -- a replica's rows
  advanced_of : (same : C → C → Bool) (r : SlotBook C) → MentionsBook P r → MentionsBook P (advanced same r)
  advanced_of same r h = record { proposals = λ s c e. h.proposals s c (get_remove_cases r.proposals r.slot_out s c e); decisions = h.decisions }

  requested_of : (same : C → C → Bool) (r : SlotBook C) (c : C) → MentionsBook P r → MentionsBook P (requested same r c)
  requested_of same r c h = at (is_known same r c)
    where
      at : (test : Bool) → MentionsBook P (cond test r (record r { requests = r.requests ++ (c ∷ []) }))
      at true = h
      at false = record { proposals = h.proposals; decisions = h.decisions }

  learnt_of : (r : SlotBook C) (s : ℕ) (c : C) → MentionsBook P r → P s c → MentionsBook P (learnt r s c)
  learnt_of r s c h p = record { proposals = h.proposals; decisions = insert_at r.decisions s c h.decisions p }

  proposed_of : (r : SlotBook C) → MentionsBook P r → (o : Option (ℕ × C)) → ((s : ℕ) (c : C) → o ≡ Some (s, c) → P s c) → MentionsBook P (proposed_as r o)
  proposed_of r h None first = h
  proposed_of r h (Some p) first = record { proposals = insert_at r.proposals p.0 p.1 h.proposals (first p.0 p.1 refl); decisions = h.decisions }

  asks_of : (o : Option (ℕ × C)) → ((s : ℕ) (c : C) → o ≡ Some (s, c) → P s c) → Each (MentionsBody P) (proposes_first o)
  asks_of None first = tt
  asks_of (Some p) first = (first p.0 p.1 refl, tt)

  -- what is sent
  sends_of : (ws : List ℕ) (n : ℕ) (bodies : List (LetterBody C)) → Each (MentionsBody P) bodies → Each (λ l. MentionsBody P l.body) (all_to_all ws n bodies)
  sends_of ws n bodies h = Each-to_all (λ l. MentionsBody P l.body) ws n bodies (λ b at m to. Each-at (MentionsBody P) bodies b h at)

  others_of : (ws : List ℕ) (n s : ℕ) (test : Bool)
      → Each (λ (l : Letter C). MentionsBody P l.body)
      (cond test (map (letter n (Ask s)) (filter (λ m. not (m == n)) (numbers ws))) [])
  others_of ws n s true = Each-map (λ l. MentionsBody P l.body) (letter n (Ask s))
      (filter (λ m. not (m == n)) (numbers ws)) (Each-all _ (filter (λ m. not (m == n)) (numbers ws)) (λ m. tt))
  others_of ws n s false = tt

  scout_says_of : (o : Option (Scouting C)) → Each (MentionsBody P) (scout_says o)
  scout_says_of None = tt
  scout_says_of (Some s) = (tt, tt)

  tells_of : (r : SlotBook C) → EachSlot P r.decisions → (n m s : ℕ) → Each (λ l. MentionsBody P l.body) (map (λ b. letter n b m) (tells r s))
  tells_of r all n m s =
      Each-map (λ l. MentionsBody P l.body) (λ b. letter n b m) (tells r s)
      (Each-map (MentionsBody P) (λ e. Decision e.0 e.1) (decided_from r s)
      (Each-filter (λ e. P e.0 e.1) (λ e. nat_le s e.0 && nat_lt e.0 (s + window)) (entries r.decisions) (entries_at r.decisions all)))

  -- an acceptor's rows
  accepts_of : (test : Bool) (old : List (Pvalue C)) (p : Pvalue C) → EachPvalue P old → P p.slot p.value → EachPvalue P (cond test (old ++ (p ∷ [])) old)
  accepts_of true old p all h q i = ⊎_elim
      (λ (before : In q old). all q before)
      (λ (last : In q (p ∷ [])). ⊎_elim (λ (e : q ≡ p). subst (λ (y : Pvalue C). P y.slot y.value) (sym e) h) (λ (never : ⊥). absurd never) last)
      (In-cases q old (p ∷ []) i)
  accepts_of false old p all h q i = all q i

  -- a node that is new mentions nothing
  pub new_of : (members : List ℕ) (n : ℕ) → MentionsNode P (new_node members n)
  new_of members n = record {
    accepted = λ p i. absurd i;
    leader = record { proposals = nothing_at; gathered = λ s f. none_not refl f; commanders = λ s c f. none_in_empty s c f };
    replica = record { proposals = nothing_at; decisions = nothing_at };
  }

  module _ (laws : BallotLaws) (k : Cluster C) (i : IsSound k) (f : Mentions P k) (n : ℕ) (member : is_member k.members n ≡ true) where
    turn_of : (x : NodeState C) (out : List (Letter C)) → MentionsNode P x → Each (λ l. MentionsBody P l.body) out → Mentions P (turned k n x out)
    turn_of x out fx fo = record {
      nodes = λ m. ⊎_elim
          (λ (e : m ≡ n). subst (λ z. MentionsNode P (node (turned k n x out) z)) (sym e) (subst (MentionsNode P) (sym (here laws k i n member x out)) fx))
          (λ (apart : m ≢ n). subst (MentionsNode P) (sym (there laws k i n member x out m apart)) (f.nodes m))
          (cases_eq m n);
      letters = Each-append (λ l. MentionsBody P l.body) k.letters out f.letters fo;
    }

    leader_of : (d : Done (Leading C) C) → OfDone d → Mentions P (leader_turn k n d)
    leader_of d h = turn_of (led (node k n) d) (all_to_all k.members n d.says)
        (record { accepted = (f.nodes n).accepted; leader = h.state; replica = (f.nodes n).replica })
        (sends_of k.members n d.says h.says)

    replica_of : (r : SlotBook C) (out : List (Letter C)) → MentionsBook P r → Each (λ l. MentionsBody P l.body) out → Mentions P (replica_turn k n r out)
    replica_of r out h o = turn_of (record (node k n) { replica = r }) out
        (record { accepted = (f.nodes n).accepted; leader = (f.nodes n).leader; replica = h }) o

    pub restart_of : Mentions P (turned k n (restarted k.members n (node k n)) [])
    restart_of =
        let new = new_of k.members n in
        turn_of (restarted k.members n (node k n)) [] (record {
          accepted = (f.nodes n).accepted;
          leader = record { proposals = nothing_at; gathered = λ s e. none_not refl e; commanders = λ s c e. none_in_empty s c e };
          replica = new.replica;
        }) tt

    pub wake_of : Mentions P (leader_turn k n (woken (node k n).leader))
    wake_of = leader_of _ (woken_of (node k n).leader (f.nodes n).leader)

    -- a commander stands in its pvalue's slot
    commanders_say : Each (MentionsBody P) (map (λ e. P2a e.1.pvalue) (entries (node k n).leader.commanders))
    commanders_say =
        Each-map (MentionsBody P) (λ e. P2a e.1.pvalue) (entries (node k n).leader.commanders)
        (Each-weaker (λ e. get (node k n).leader.commanders e.0 ≡ Some e.1) (λ e. P e.1.pvalue.slot e.1.pvalue.value)
        (λ e there. subst (λ s. P s e.1.pvalue.value) (sym ((i.nodes n).leader.commanding e.0 e.1 there).own.slot)
        ((f.nodes n).leader.commanders e.0 e.1 there))
        (entries (node k n).leader.commanders) (entries_get (node k n).leader.commanders))

    pub nudge_of : Mentions P (turned k n (node k n) (said_again k.members n (node k n)))
    nudge_of =
        turn_of (node k n) (said_again k.members n (node k n)) (f.nodes n)
        (Each-append (λ l. MentionsBody P l.body) (all_to_all k.members n (says_again (node k n).leader)) (nudges k.members n (node k n).replica)
        (sends_of k.members n (says_again (node k n).leader)
        (Each-append (MentionsBody P) (scout_says (node k n).leader.scout)
        (map (λ e. P2a e.1.pvalue) (entries (node k n).leader.commanders))
        (scout_says_of (node k n).leader.scout) commanders_say))
        (Each-append (λ l. MentionsBody P l.body) (all_to_all k.members n (proposes_again (node k n).replica))
        (asks_others k.members n (node k n).replica.slot_out)
        (sends_of k.members n (proposes_again (node k n).replica)
        (Each-map (MentionsBody P) (λ e. Propose e.0 e.1) (entries (node k n).replica.proposals)
        (entries_at (node k n).replica.proposals (f.nodes n).replica.proposals)))
        (others_of k.members n (node k n).replica.slot_out (nat_le (node k n).replica.slot_out (2 ^ 62)))))

    pub proposes_of : ((s : ℕ) (c : C) → next_proposal (node k n).replica ≡ Some (s, c) → P s c)
        → Mentions P (replica_turn k n (proposed_next (node k n).replica)
        (all_to_all k.members n (proposes_first (next_proposal (node k n).replica))))
    proposes_of first =
        replica_of (proposed_next (node k n).replica) (all_to_all k.members n (proposes_first (next_proposal (node k n).replica)))
        (proposed_of (node k n).replica (f.nodes n).replica (next_proposal (node k n).replica) first)
        (sends_of k.members n (proposes_first (next_proposal (node k n).replica)) (asks_of (next_proposal (node k n).replica) first))

    pub submit_of : (same : C → C → Bool) (c : C) → Mentions P (replica_turn k n (requested same (node k n).replica c) [])
    submit_of same c = replica_of (requested same (node k n).replica c) [] (requested_of same (node k n).replica c (f.nodes n).replica) tt

    pub perform_of : (same : C → C → Bool) → Mentions P (replica_turn k n (advanced same (node k n).replica) [])
    perform_of same = replica_of (advanced same (node k n).replica) [] (advanced_of same (node k n).replica (f.nodes n).replica) tt

    pub receive_of : (m : ℕ) (body : LetterBody C) → MentionsBody P body → (x : NodeState C) (out : List (Letter C))
        → Receives k.members m n (node k n) body x out → Mentions P (turned k n x out)
    receive_of m body h x out (promises_ballot b report r) =
        turn_of x out (record {
          accepted = (f.nodes n).accepted;
          leader = (f.nodes n).leader;
          replica =
              (f.nodes n).replica;
        }) ((λ p at. (f.nodes n).accepted p (r.part p at)), tt)
    receive_of m body h x out (accepts_pvalue p) =
        turn_of x out (record {
          accepted =
              accepts_of (is_promise (node k n).acceptor.promised p.ballot) (node k n).acceptor.accepted p
              (f.nodes n).accepted h;
          leader = (f.nodes n).leader;
          replica = (f.nodes n).replica;
        }) (tt, tt)
    receive_of m body h x out (hears_promise b report fresh taken may) =
        leader_of _ (p1b_of (node k n).leader (f.nodes n).leader laws m b report fresh taken h may
        (node k n).leader.scout refl)
    receive_of m body h x out (hears_vote b s by) = leader_of _ (p2b_of (node k n).leader (f.nodes n).leader m b s by)
    receive_of m body h x out (hears_proposal s c) = leader_of _ (propose_of (node k n).leader (f.nodes n).leader s c h)
    receive_of m body h x out (learns s c) = replica_of (learnt (node k n).replica s c) [] (learnt_of (node k n).replica s c (f.nodes n).replica h) tt
    receive_of m body h x out (tells_decisions s) = turn_of (node k n) out (f.nodes n) (tells_of (node k n).replica (f.nodes n).replica.decisions n m s)
