-- Each row keeps the invariant.
use Rattle.std.proofs.Common.{◌≡◌, ◌≢◌, ◌⊎◌, inl, inr, ⊎_elim, ℕ, ◌+◌, Bool, true, false, true≢false, cond, List, []}
use Rattle.std.proofs.Common.{◌∷◌, ◌++◌, map, filter, Some, None, Option, refl, sym, ap, ◌∙◌, subst, arith}
use Rattle.std.specs.Prelude.{◌==◌, not, nat_le, nat_lt, ◌&&◌, ◌^◌}
use Rattle.std.specs.FinMap.{get, insert, entries}
use Rattle.object.specs.Lists.{In}
use Rattle.ballot.specs.Ballots.{Numbers, is_below, higher, is_promise}
use Rattle.ballot.specs.Members.{is_member, numbers}
use Rattle.ballot.specs.Letters.{letter, all_to_all}
use Rattle.ballot.specs.declared.pvalue.Pvalue.{Pvalue}
use Rattle.ballot.specs.declared.letter.LetterBody.{LetterBody}
use Rattle.ballot.specs.declared.letter.Letter.{Letter}
use Rattle.ballot.specs.declared.letter.LetterBody.TheVariants.{P1b, P2a, P2b, Propose, Decision, Ask}
use Rattle.acceptor.specs.Acceptors.{Acceptances, after_p1a, after_p2a}
use Rattle.acceptor.specs.Reports.{IsReport}
use Rattle.scout_commander.specs.Scouts.{Scouting}
use Rattle.scout_commander.specs.Commanders.{Commanding}
use Rattle.leader.specs.Leaders.{Leading, scout_says, says_again}
use Rattle.slot_log.specs.Books.{SlotBook, window}
use Rattle.slot_log.specs.Proposals.{next_proposal, proposed, proposed_next}
use Rattle.slot_log.specs.Requests.{is_known, requested}
use Rattle.slot_log.specs.Decisions.{learnt, decided_from}
use Rattle.replica.specs.Replicas.{proposes_first, tells, proposes_again, asks_others, nudges}
use Rattle.node.specs.Nodes.{NodeState, restarted}
use Rattle.agreement.specs.Nodes.{Cluster, node, turned}
use Rattle.agreement.specs.Steps.{replica_turn}
use Rattle.node.specs.Receiving.{Receives, promises_ballot, accepts_pvalue, hears_promise, hears_vote, hears_proposal, learns, tells_decisions}
use Rattle.node.specs.Deeds.{said_again}
use Rattle.agreement.specs.Chosen.{IsChosen}
use Rattle.object.specs.ListLaws.{Each, Each-at, Each-append, Each-weaker, Each-map, Each-all, Each-filter, Each-from, In-left, In-right, In-cases}
use Rattle.ballot.specs.OrderLaws.{BallotLaws, IsUpto, IsUnder, below_upto, upto_trans, same_itself}
use Rattle.agreement.proofs.chosen.Sets.{numbers_members}
use Rattle.node.specs.SlotLaws.{get_insert_cases, none_in_empty, entries_get}
use Rattle.agreement.proofs.chosen.Invariants.{Asked, IsTrueOf, IsFair, IsOwned, IsAcceptor, IsSound}
use Rattle.agreement.proofs.chosen.Grows.{AcceptorGrows, Grows, stays, asked_stays, acceptor_stays, leader_stays, chosen_stays}
use Rattle.agreement.proofs.chosen.Turns.{IsOwn, here, turn_sound, Kept}
use Rattle.agreement.proofs.chosen.Good.{Each-to_all, leader_sound, replica_sound}
use Rattle.agreement.proofs.chosen.LeaderRows.{some_same, none_not, off_on, p1b_good, p2b_good, proposed_good}

-- a promise rises
p1a_upto_if : (laws : BallotLaws) (c b y : Numbers) → is_below y c ≡ false → (test : Bool) → is_below y b ≡ test → IsUpto c (Some (cond test b y))
p1a_upto_if laws c b y h true e = upto_trans laws c y b h (below_upto laws y b e)
p1a_upto_if laws c b y h false e = h

p1a_upto : (laws : BallotLaws) (c b : Numbers) (o : Option Numbers) → IsUpto c o → IsUpto c (Some (higher o b))
p1a_upto laws c b None h = absurd h
p1a_upto laws c b (Some y) h = p1a_upto_if laws c b y h (is_below y b) refl

p1a_under_if : (laws : BallotLaws) (c b y : Numbers) → is_below c y ≡ true → (test : Bool) → is_below y b ≡ test → IsUnder c (Some (cond test b y))
p1a_under_if laws c b y h true e = laws.through c y b h e
p1a_under_if laws c b y h false e = h

p1a_under : (laws : BallotLaws) (c b : Numbers) (o : Option Numbers) → IsUnder c o → IsUnder c (Some (higher o b))
p1a_under laws c b None h = absurd h
p1a_under laws c b (Some y) h = p1a_under_if laws c b y h (is_below y b) refl

p1a_grows : (laws : BallotLaws) {C : Type 0} (a : Acceptances C) (b : Numbers) → AcceptorGrows a (after_p1a a b)
p1a_grows laws a b = record {
  promised = λ c h. p1a_upto laws c b a.promised h;
  under =
      λ c h. p1a_under laws c b a.promised h;
  accepted = λ p i. i;
  new = λ p i. inl i;
}

last_is : {A : Type 0} (x y : A) → In x (y ∷ []) → x ≡ y
last_is x y (inl e) = e
last_is x y (inr i) = absurd i

promised_is : (laws : BallotLaws) (o : Option Numbers) (b : Numbers) → is_promise o b ≡ true → o ≡ Some b
promised_is laws None b e = absurd (true≢false (sym e))
promised_is laws (Some y) b e = ap (λ (z : Numbers). Some z) (laws.same y b e)

accepts_new : (laws : BallotLaws) {C : Type 0} (a : Acceptances C) (p q : Pvalue C) (test : Bool)
    → is_promise a.promised p.ballot ≡ test → In q (cond test (a.accepted ++ (p ∷ [])) a.accepted) → In q a.accepted
    ⊎ ((q ≡ p) × (a.promised ≡ Some p.ballot))
accepts_new laws a p q true e i =
    ⊎_elim (λ (old : In q a.accepted). inl old)
    (λ (last : In q (p ∷ [])). inr (last_is q p last, promised_is laws a.promised p.ballot e))
    (In-cases q a.accepted (p ∷ []) i)
accepts_new laws a p q false e i = inl i

accepts_old : {C : Type 0} (a : Acceptances C) (p q : Pvalue C) (test : Bool) → In q a.accepted → In q (cond test (a.accepted ++ (p ∷ [])) a.accepted)
accepts_old a p q true i = In-left q a.accepted (p ∷ []) i
accepts_old a p q false i = i

p2a_grows : (laws : BallotLaws) {C : Type 0} (a : Acceptances C) (p : Pvalue C) → AcceptorGrows a (after_p2a a p)
p2a_grows laws {C = C} a p = record {
  promised = λ c h. h;
  under = λ c h. h;
  accepted = λ q i. accepts_old a p q (is_promise a.promised p.ballot) i;
  new = λ q i. ⊎_elim (λ (old : In q a.accepted). inl old)
      (λ (new : (q ≡ p) × (a.promised ≡ Some p.ballot)). inr
      (λ b up. subst (λ (y : Pvalue C). is_below y.ballot b ≡ false) (sym new.0) (subst (IsUpto b) new.1 up)))
      (accepts_new laws a p q (is_promise a.promised p.ballot) refl i);
}

module _ (laws : BallotLaws) {C : Type 0} (k : Cluster C) (i : IsSound k) (n : ℕ) (member : is_member k.members n ≡ true) where
  -- a node whose acceptor alone has changed, and that answers m
  acceptor_sound : (a : Acceptances C) (body : LetterBody C) (m : ℕ) → is_member k.members m ≡ true
      → AcceptorGrows (node k n).acceptor a → ((z : Cluster C) → Grows k z → IsAcceptor z a)
      → IsOwn (node k n).leader body → ((z : Cluster C) → Grows k z → (node z n).acceptor ≡ a → IsTrueOf z n body)
      → Kept k (turned k n (record (node k n) { acceptor = a }) (letter n body m ∷ []))
  acceptor_sound a body m to grows fine own says =
      turn_sound laws k i n member x out
      grows
      (inr (refl, inr (refl, (λ y. y), (λ s c y e. e))))
      (own, tt)
      (λ g. record {
        owner = (i.nodes n).owner;
        boot = (i.nodes n).boot;
        acceptor = fine (turned k n x out) g;
        leader = leader_stays laws k (turned k n x out) g x.leader (i.nodes n).leader;
        decisions = λ s c e. chosen_stays k (turned k n x out) g s c ((i.nodes n).decisions s c e);
      })
      (λ g. (record { says = says (turned k n x out) g (ap (λ y. y.acceptor) (here laws k i n member x out)); sender = member; receiver = to }, tt))
    where
      x : NodeState C
      x = record (node k n) { acceptor = a }

      out : List (Letter C)
      out = letter n body m ∷ []

  p1a_sound : (m : ℕ) → is_member k.members m ≡ true → (b : Numbers) (report : List (Pvalue C))
      → IsReport (node k n).acceptor.accepted report
      → Kept k (turned k n (record (node k n) { acceptor = after_p1a (node k n).acceptor b })
      (letter n (P1b (higher (node k n).acceptor.promised b) report) m ∷ []))
  p1a_sound m to b report r =
      acceptor_sound (after_p1a (node k n).acceptor b) (P1b (higher (node k n).acceptor.promised b) report) m to
      (p1a_grows laws (node k n).acceptor b)
      (λ z g. record {
        sent = λ p h. asked_stays k z g p ((i.nodes n).acceptor.sent p h);
        promised = λ p h. p1a_upto laws p.ballot b (node k n).acceptor.promised ((i.nodes n).acceptor.promised p h);
      })
      (λ p e. absurd (cc))
      (λ z g e. record {
        promised = subst (λ (y : Acceptances C). IsUpto (higher (node k n).acceptor.promised b) y.promised) (sym e)
            (laws.itself (higher (node k n).acceptor.promised b));
        sent = λ p h. asked_stays k z g p ((i.nodes n).acceptor.sent p (r.part p h));
        greatest = λ p h below. r.greatest p (subst (λ (y : Acceptances C). In p y.accepted) e h);
      })

  accepts_here : (a : Acceptances C) (p : Pvalue C) → a.promised ≡ Some p.ballot → In p (after_p2a a p).accepted
  accepts_here a p same = subst (λ test. In p (cond test (a.accepted ++ (p ∷ [])) a.accepted))
      (sym (ap (λ o. is_promise o p.ballot) same ∙ same_itself p.ballot)) (In-right p a.accepted (p ∷ []) (inl refl))

  p2a_sound : (m : ℕ) → is_member k.members m ≡ true → (p : Pvalue C) → Asked k.letters p
      → Kept k (turned k n (record (node k n) { acceptor = after_p2a (node k n).acceptor p })
      (letter n (P2b (node k n).acceptor.promised p.slot p.ballot) m ∷ []))
  p2a_sound m to p asked =
      acceptor_sound (after_p2a (node k n).acceptor p) (P2b (node k n).acceptor.promised p.slot p.ballot) m to
      (p2a_grows laws (node k n).acceptor p)
      (λ z g. record {
        sent = λ q h. ⊎_elim
            (λ (old : In q (node k n).acceptor.accepted). asked_stays k z g q ((i.nodes n).acceptor.sent q old))
            (λ (new : (q ≡ p) × ((node k n).acceptor.promised ≡ Some p.ballot)). subst (Asked z.letters) (sym new.0) (asked_stays k z g p asked))
            (accepts_new laws (node k n).acceptor p q (is_promise (node k n).acceptor.promised p.ballot) refl h);
        promised = λ q h. ⊎_elim
            (λ (old : In q (node k n).acceptor.accepted). (i.nodes n).acceptor.promised q old)
            (λ (new : (q ≡ p) × ((node k n).acceptor.promised ≡ Some p.ballot)). subst (IsUpto q.ballot) (sym new.1)
            (subst (λ (y : Pvalue C). IsUpto y.ballot (Some p.ballot)) (sym new.0) (laws.itself p.ballot)))
            (accepts_new laws (node k n).acceptor p q (is_promise (node k n).acceptor.promised p.ballot) refl h);
      })
      (λ q e. absurd (cc))
      (λ z g e same. (p.value, subst (λ (y : Acceptances C). In p y.accepted) (sym e) (accepts_here (node k n).acceptor p same)))

  pub restart_sound : Kept k (turned k n (restarted k.members n (node k n)) [])
  restart_sound =
      turn_sound laws k i n member (restarted k.members n (node k n)) []
      (stays (node k n).acceptor)
      (inl (omega arith))
      tt
      (λ g. record {
        owner = refl;
        boot = refl;
        acceptor = acceptor_stays k _ g (node k n).acceptor (i.nodes n).acceptor;
        leader = record {
          members = refl;
          safe = λ on s c may. off_on refl on;
          scouting =
              λ sc e. none_not refl e;
          commanding = λ s cm e. none_in_empty s cm e;
        };
        decisions = λ s c e. none_in_empty s c e;
      })
      (λ g. tt)

  -- what a node says to all: each body is its leader's own, and true
  abbrev SaysOwn : LetterBody C → Type 0
  SaysOwn body = IsOwn (node k n).leader body

  to_all_own : (bodies : List (LetterBody C)) → Each SaysOwn bodies → Each (λ l. IsOwn (node k n).leader l.body) (all_to_all k.members n bodies)
  to_all_own bodies own = Each-to_all (λ l. IsOwn (node k n).leader l.body) k.members n bodies (λ b at m to. Each-at SaysOwn bodies b own at)

  to_all_fair : (z : Cluster C) → Grows k z → (bodies : List (LetterBody C)) → Each (IsTrueOf z n) bodies → Each (IsFair z) (all_to_all k.members n bodies)
  to_all_fair z g bodies says = Each-to_all (IsFair z) k.members n bodies (λ b at m to. record {
    says = Each-at (IsTrueOf z n) bodies b says at;
    sender = subst (λ ws. is_member ws n ≡ true) (sym g.members) member;
    receiver = subst (λ ws. is_member ws m ≡ true) (sym g.members) to;
  })

  asks_if : (P : Letter C → Type 0) (s : ℕ) → ((m : ℕ) → is_member k.members m ≡ true → P (letter n (Ask s) m))
      → (test : Bool) → Each P (cond test (map (letter n (Ask s)) (filter (λ m. not (m == n)) (numbers k.members))) [])
  asks_if P s h true = Each-map P (letter n (Ask s)) (filter (λ m. not (m == n)) (numbers k.members))
      (Each-filter (λ m. P (letter n (Ask s) m)) (λ m. not (m == n)) (numbers k.members)
      (Each-from (λ m. P (letter n (Ask s) m)) (numbers k.members) (λ m at. h m (numbers_members k.members m at))))
  asks_if P s h false = tt

  scout_own : (o : Option (Scouting C)) → Each SaysOwn (scout_says o)
  scout_own None = tt
  scout_own (Some s) = ((λ p e. absurd (cc)), tt)

  scout_true : (z : Cluster C) (o : Option (Scouting C)) → Each (IsTrueOf z n) (scout_says o)
  scout_true z None = tt
  scout_true z (Some s) = (tt, tt)

  -- what a commander asked for once is still the active leader's own
  commander_own : (e : ℕ × Commanding C) → get (node k n).leader.commanders e.0 ≡ Some e.1 → SaysOwn (P2a e.1.pvalue)
  commander_own e there p same =
      let l : Leading C = (node k n).leader in
      let v = (i.nodes n).leader.commanding e.0 e.1 there in
      let o : IsOwned (node k n) e.1.pvalue =
      subst (λ m. IsOwned (node k m) e.1.pvalue) (ap (λ b. b.node) v.own.ballot ∙ (i.nodes n).owner)
      (i.owned e.1.pvalue v.sent) in
      subst (λ (q : Pvalue C). (q.ballot ≡ l.ballot) × (l.active ≡ true) × (get l.proposals q.slot ≡ Some q.value)) (cc)
      (v.own.ballot, o.active v.own.ballot, o.value v.own.ballot)

  leader_own : Each SaysOwn (says_again (node k n).leader)
  leader_own =
      Each-append SaysOwn (scout_says (node k n).leader.scout) (map (λ e. P2a e.1.pvalue) (entries (node k n).leader.commanders))
      (scout_own (node k n).leader.scout)
      (Each-map SaysOwn (λ e. P2a e.1.pvalue) (entries (node k n).leader.commanders)
      (Each-weaker (λ e. get (node k n).leader.commanders e.0 ≡ Some e.1)
      (λ e. SaysOwn (P2a e.1.pvalue)) commander_own (entries (node k n).leader.commanders)
      (entries_get (node k n).leader.commanders)))

  leader_true : (z : Cluster C) → Each (IsTrueOf z n) (says_again (node k n).leader)
  leader_true z =
      Each-append (IsTrueOf z n) (scout_says (node k n).leader.scout) (map (λ e. P2a e.1.pvalue) (entries (node k n).leader.commanders))
      (scout_true z (node k n).leader.scout)
      (Each-map (IsTrueOf z n) (λ e. P2a e.1.pvalue) (entries (node k n).leader.commanders)
      (Each-all (λ e. IsTrueOf z n (P2a e.1.pvalue)) (entries (node k n).leader.commanders) (λ e. tt)))

  replica_own : (r : SlotBook C) → Each SaysOwn (proposes_again r)
  replica_own r = Each-map SaysOwn (λ e. Propose e.0 e.1) (entries r.proposals)
      (Each-all (λ e. SaysOwn (Propose e.0 e.1)) (entries r.proposals) (λ e p same. absurd (cc)))

  replica_true : (z : Cluster C) (r : SlotBook C) → Each (IsTrueOf z n) (proposes_again r)
  replica_true z r = Each-map (IsTrueOf z n) (λ e. Propose e.0 e.1) (entries r.proposals)
      (Each-all (λ e. IsTrueOf z n (Propose e.0 e.1)) (entries r.proposals) (λ e. tt))

  pub nudge_sound : Kept k (turned k n (node k n) (said_again k.members n (node k n)))
  nudge_sound =
      replica_sound laws k i n member r (said_again k.members n (node k n))
      (i.nodes n).decisions
      (Each-append (λ l. IsOwn (node k n).leader l.body) first (nudges k.members n r)
      (to_all_own (says_again (node k n).leader) leader_own)
      (Each-append (λ l. IsOwn (node k n).leader l.body) second third
      (to_all_own (proposes_again r) (replica_own r))
      (asks_if (λ l. IsOwn (node k n).leader l.body) r.slot_out (λ m to p same. absurd (cc)) (nat_le r.slot_out (2 ^ 62)))))
      (λ z g. Each-append (IsFair z) first (nudges k.members n r)
      (to_all_fair z g (says_again (node k n).leader) (leader_true z))
      (Each-append (IsFair z) second third
      (to_all_fair z g (proposes_again r) (replica_true z r))
      (asks_if (IsFair z) r.slot_out
      (λ m to. record {
        says = tt;
        sender = subst (λ ws. is_member ws n ≡ true) (sym g.members) member;
        receiver =
            subst (λ ws. is_member ws m ≡ true) (sym g.members) to;
      }) (nat_le r.slot_out (2 ^ 62)))))
    where
      r : SlotBook C
      r = (node k n).replica

      first : List (Letter C)
      first = all_to_all k.members n (says_again (node k n).leader)

      second : List (Letter C)
      second = all_to_all k.members n (proposes_again r)

      third : List (Letter C)
      third = asks_others k.members n r.slot_out

  told_entries : (r : SlotBook C) (s : ℕ) → Each (λ e. get r.decisions e.0 ≡ Some e.1) (decided_from r s)
  told_entries r s = Each-filter (λ e. get r.decisions e.0 ≡ Some e.1) (λ e. nat_le s e.0 && nat_lt e.0 (s + window))
      (entries r.decisions) (entries_get r.decisions)

  tells_sound : (m : ℕ) → is_member k.members m ≡ true → (s : ℕ) → Kept k (turned k n (node k n) (map (λ b. letter n b m) (tells (node k n).replica s)))
  tells_sound m to s =
      replica_sound laws k i n member r (map (λ b. letter n b m) (tells r s))
      (i.nodes n).decisions
      (Each-map (λ l. IsOwn (node k n).leader l.body) (λ b. letter n b m) (tells r s)
      (Each-map SaysOwn (λ e. Decision e.0 e.1) (decided_from r s) (Each-all (λ e. SaysOwn (Decision e.0 e.1)) (decided_from r s) (λ e p same. absurd (cc)))))
      (λ z g. Each-map (IsFair z) (λ b. letter n b m) (tells r s)
      (Each-map (λ b. IsFair z (letter n b m)) (λ e. Decision e.0 e.1) (decided_from r s)
      (Each-weaker (λ e. get r.decisions e.0 ≡ Some e.1) (λ e. IsFair z (letter n (Decision e.0 e.1) m)) (λ e known. record {
        says = chosen_stays k z g e.0 e.1 ((i.nodes n).decisions e.0 e.1 known);
        sender = subst (λ ws. is_member ws n ≡ true) (sym g.members) member;
        receiver = subst (λ ws. is_member ws m ≡ true) (sym g.members) to;
      }) (decided_from r s) (told_entries r s))))
    where
      r : SlotBook C
      r = (node k n).replica

  pub learns_sound : (s : ℕ) (c : C) → IsChosen k s c → Kept k (replica_turn k n (learnt (node k n).replica s c) [])
  learns_sound s c chosen =
      replica_sound laws k i n member (learnt (node k n).replica s c) []
      (λ t d e. ⊎_elim
      (λ (same : (t ≡ s) × (get (insert (node k n).replica.decisions s c) t ≡ Some c)). subst
      (λ (q : ℕ × C). IsChosen k q.0 q.1) (λ j. (sym same.0 j, some_same (sym same.1 ∙ e) j)) chosen)
      (λ (apart : (t ≢ s) × (get (insert (node k n).replica.decisions s c) t ≡ get (node k n).replica.decisions t)).
      (i.nodes n).decisions t d (sym apart.1 ∙ e))
      (get_insert_cases (node k n).replica.decisions s c t))
      tt
      (λ z g. tt)

  pub receive_sound : (m : ℕ) → is_member k.members m ≡ true → (body : LetterBody C) → IsTrueOf k m body
      → ((p : Pvalue C) → body ≡ P2a p → Asked k.letters p) → (x : NodeState C) (out : List (Letter C))
      → Receives k.members m n (node k n) body x out → Kept k (turned k n x out)
  receive_sound m to body true_of asked x out (promises_ballot b report r) = p1a_sound m to b report r
  receive_sound m to body true_of asked x out (accepts_pvalue p) = p2a_sound m to p (asked p refl)
  receive_sound m to body true_of asked x out (hears_promise b report fresh taken may) =
      leader_sound laws k i n member _
      (p1b_good laws k i n (node k n) (i.nodes n) m b report fresh true_of taken may (node k n).leader.scout refl)
  receive_sound m to body true_of asked x out (hears_vote b s by) =
      leader_sound laws k i n member _ (p2b_good laws k i n (node k n) (i.nodes n) m b s by true_of)
  receive_sound m to body true_of asked x out (hears_proposal s c) = leader_sound laws k i n member _ (proposed_good laws k i n (node k n) (i.nodes n) s c)
  receive_sound m to body true_of asked x out (learns s c) = learns_sound s c true_of
  receive_sound m to body true_of asked x out (tells_decisions s) = tells_sound m to s

  -- a replica's own doings: no P2a is sent, and nothing is learnt
  pub quiet_sound : (r : SlotBook C) → r.decisions ≡ (node k n).replica.decisions → Kept k (replica_turn k n r [])
  quiet_sound r same = replica_sound laws k i n member r [] (λ s c e. (i.nodes n).decisions s c (ap (λ m. get m s) (sym same) ∙ e)) tt (λ z g. tt)

  requested_if : (same : C → C → Bool) (r : SlotBook C) (c : C) (test : Bool)
      → (cond test r (record r { requests = r.requests ++ (c ∷ []) })).decisions ≡ r.decisions
  requested_if same r c true = refl
  requested_if same r c false = refl

  pub request_sound : (same : C → C → Bool) (c : C) → Kept k (replica_turn k n (requested same (node k n).replica c) [])
  request_sound same c = quiet_sound (requested same (node k n).replica c) (requested_if same (node k n).replica c (is_known same (node k n).replica c))

  proposed_known : (r : SlotBook C) (o : Option (ℕ × C)) → (proposed r o).decisions ≡ r.decisions
  proposed_known r None = refl
  proposed_known r (Some p) = refl

  proposed_own : (o : Option (ℕ × C)) → Each SaysOwn (proposes_first o)
  proposed_own None = tt
  proposed_own (Some p) = ((λ q e. absurd (cc)), tt)

  proposed_true : (z : Cluster C) (o : Option (ℕ × C)) → Each (IsTrueOf z n) (proposes_first o)
  proposed_true z None = tt
  proposed_true z (Some p) = (tt, tt)

  pub propose_sound : Kept k (replica_turn k n (proposed_next (node k n).replica) (all_to_all k.members n (proposes_first (next_proposal (node k n).replica))))
  propose_sound =
      replica_sound laws k i n member (proposed_next r) (all_to_all k.members n (proposes_first next))
      (λ s c e. (i.nodes n).decisions s c (ap (λ m. get m s) (sym (proposed_known r next)) ∙ e))
      (to_all_own (proposes_first next) (proposed_own next))
      (λ z g. to_all_fair z g (proposes_first next) (proposed_true z next))
    where
      r : SlotBook C
      r = (node k n).replica

      next : Option (ℕ × C)
      next = next_proposal r
