-- Hosts together show one world, which goes on with each of them.
use Rattle.std.proofs.Common.{◌≡◌, ◌≢◌, ◌⊎◌, ⊎_elim, ℕ, ◌+◌, ◌*◌, ◌-◌, ◌<◌, ◌≤◌, true, cond, List, [], ◌∷◌, length}
use Rattle.std.proofs.Common.{refl, sym, ap, ◌∙◌, subst, arith}
use Rattle.std.proofs.lemmas.Bool.{cases_eq}
use Rattle.object.specs.FilterLaws.{FilterLaws}
use Rattle.object.specs.Happenings.{Happenings, with_answers, with_submission}
use Rattle.object.specs.ListLaws.{In-cases}
use Rattle.object.specs.KeyLaws.{same_is}
use Rattle.object.specs.Lists.{In}
use Rattle.object.specs.Objects.{Rules, is_one}
use Rattle.object.specs.OnceOnly.{Filtered}
use Rattle.object.specs.declared.command.Command.{Command}
use Rattle.object.specs.declared.command.Key.{Key}
use Rattle.object.specs.declared.command.Submission.{Submission}
use Rattle.ballot.specs.Members.{is_member}
use Rattle.ballot.specs.OrderLaws.{BallotLaws}
use Rattle.ballot.specs.declared.letter.Letter.{Letter}
use Rattle.ballot.specs.declared.letter.LetterBody.{LetterBody}
use Rattle.ballot.specs.declared.letter.LetterBody.TheVariants.{P1a, P1b, P2a, P2b, Propose, Decision, Ask}
use Rattle.ballot.specs.declared.pvalue.Pvalue.{Pvalue}
use Rattle.acceptor.specs.Acceptors.{Keeps, new_acceptor}
use Rattle.acceptor.specs.Rests.{rest_of_acceptor}
use Rattle.node.specs.Holding.{new_object}
use Rattle.node.specs.Nodes.{NodeState, new_node}
use Rattle.node.specs.PlaceLaws.{new_in}
use Rattle.node.specs.declared.deed.Deed.{Deed}
use Rattle.node.specs.declared.deed.Deed.TheVariants as deeds
use Rattle.agreement.specs.Events.{event_of}
use Rattle.agreement.specs.Nodes.{node, new_cluster}
use Rattle.agreement.specs.OneOrder.{GoesOnFrom}
use Rattle.agreement.specs.Runs.{most_events, Leads, at_once, after, IsWorld}
use Rattle.agreement.specs.Steps.{Step, IsItsOwn}
use Rattle.agreement.specs.Worlds.{World, opening}
use Rattle.agreement.specs.declared.event.Event.{Event}
use Rattle.agreement.specs.declared.event.Event.TheVariants.{Deliver, Restart}
use Rattle.agreement.proofs.order.OneOrder.{leads_later}
use Rattle.agreement.proofs.every.Every.{goes_on, counts, opens as opens_world}
use Rattle.cluster.specs.Asking.{AsksForUnknown, with_asked}
use Rattle.cluster.specs.Acting.{HostActs}
use Rattle.cluster.specs.CatchingUp.{CatchesUp, caught_up}
use Rattle.cluster.specs.ComingBack.{restarted_host}
use Rattle.cluster.specs.Elsewhere.{IsElsewhere}
use Rattle.cluster.specs.Hosts.{HostState, ShowsHost, host_turn, with_holding, with_node_state, forgotten_host}
use Rattle.cluster.specs.Envelopes.{Envelope, IsEnvelopeOf, AreEnvelopesOf}
use Rattle.cluster.specs.Storing.{Stored, IsStored, new_stored, stored_after, booted}
use Rattle.cluster.specs.Snapshots.{IsSnapshot}
use Rattle.cluster.specs.Clusters.{Hosts, new_hosts, with_at, events_from, total_events, labelled, host_turned}
use Rattle.cluster.specs.Clusters.{host_acted}
use Rattle.cluster.specs.Steps.{ClusterStep, hands_in, asks, acts, relays, receives, forgets, compacts, hands_on}
use Rattle.cluster.specs.Steps.{catches_up, comes_back, AreHosts, at_first, later, IsInternal}
use Rattle.cluster.specs.Showing.{IsPartOf, IsHandedIn, ShowHosts}
use Rattle.cluster.proofs.alone.Acting.{acts_unknown, same_number}
use Rattle.cluster.proofs.alone.Acting as acting
use Rattle.cluster.proofs.together.Counting.{other_number, count_more}
use Rattle.cluster.proofs.alone.Elsewhere.{step_leaves, step_adds, leaves_host, leaves_stored, adds_envelope}
use Rattle.cluster.proofs.alone.Forgetting.{host_forgets, stored_compacts}
use Rattle.cluster.proofs.together.Happened.{nothing_part, answered_part, told_part, relayed_part, asked_part}
use Rattle.cluster.proofs.together.Happened.{submitted_before}
use Rattle.cluster.proofs.together.HandingIn.{handed_still, handed_more}
use Rattle.cluster.proofs.catching_up.Histories.{snapshot_of, snapshot_stays, told_from_adds}
use Rattle.cluster.proofs.alone.Opening.{opens}
use Rattle.cluster.proofs.catching_up.ComingBack.{host_catches_up}
use Rattle.cluster.proofs.catching_up.ComingBack as returning
use Rattle.forgetting.proofs.Gone.{map_In}

module _ {X : Type 0} (host : ℕ → X) (n : ℕ) (s : X) where
  other_at : (m : ℕ) → m ≢ n → with_at host n s m ≡ host m
  other_at m apart = ap (λ b. cond b s (host m)) (other_number m n apart)

  own_at : with_at host n s n ≡ s
  own_at = ap (λ b. cond b s (host n)) (same_number n n refl)

module _ {X : Type 0} (host : ℕ → X) (n : ℕ) (s : X) (P : ℕ → X → Type 0) where
  each_host : P n s → ((m : ℕ) → m ≢ n → P m (host m)) → (m : ℕ) → P m (with_at host n s m)
  each_host here there m = ⊎_elim
      (λ (e : m ≡ n). subst (P m) (sym (ap (λ b. cond b s (host m)) (same_number m n e))) (subst (λ j. P j s) (sym e) here))
      (λ (apart : m ≢ n). subst (P m) (sym (ap (λ b. cond b s (host m)) (other_number m n apart))) (there m apart))
      (cases_eq m n)

-- one event, and then others
leads_first : {O Op Reply : Type 0} (rules : Rules O Op Reply) (w u : World Op Reply) (e : Event Op) → Step rules w e u
    → (es : List (Event Op)) (v : World Op Reply) → Leads rules u es v → Leads rules w (e ∷ es) v
leads_first rules w u e step es v at_once = after e u at_once step
leads_first rules w u e step es v (after {es = before} {v = x} f v' l s) = after f v
    (leads_first rules w u e step before x l) s

-- what is stored keeps its base
same_base : {Op : Type 0} (d : Stored Op) (body : LetterBody (Command Op)) → (stored_after d body).base ≡ d.base
same_base d (P1a b) = refl
same_base d (P1b b report) = refl
same_base d (P2a p) = refl
same_base d (P2b o s by) = refl
same_base d (Propose s c) = refl
same_base d (Decision s c) = refl
same_base d (Ask s) = refl

stored_at_first : {Op : Type 0} (members : List ℕ) (n : ℕ) → IsStored {Op = Op} new_stored n (new_cluster members)
stored_at_first {Op} members n =
    let new : node (new_cluster {C = Command Op} members) n ≡ new_node members n = new_in members (length members) n in
    record {
      acceptor = subst (λ (x : NodeState (Command Op)). Keeps (rest_of_acceptor 0 x.acceptor) new_acceptor) (sym new)
          (record { promised = refl; accepted = record { part = λ p i. i; greatest = λ p i. absurd i } });
      boot = ap (λ (x : NodeState (Command Op)). x.boot) (sym new);
    }

deed_elsewhere : {Op Reply : Type 0} (w : World Op Reply) (n m : ℕ) (d : Deed Op) → m ≢ n
    → IsElsewhere m w (event_of n d)
deed_elsewhere w n m (deeds.Request c) apart = apart
deed_elsewhere w n m deeds.Wake apart = apart
deed_elsewhere w n m deeds.Nudge apart = apart
deed_elsewhere w n m deeds.Propose apart = apart
deed_elsewhere w n m deeds.Perform apart = apart
deed_elsewhere w n m deeds.Restart apart = apart

module _ (laws : BallotLaws) {O Op Reply : Type 0} (filter : FilterLaws Op) (rules : Rules O Op Reply)
    (exact : (a b : Command Op) → is_one rules a b ≡ true → a ≡ b) (itself : (a : Command Op) → is_one rules a a ≡ true)
    (decide : (p : Pvalue (Command Op)) (ps : List (Pvalue (Command Op))) → In p ps ⊎ (In p ps → ⊥))
    (owner : ℕ → ℕ) where
  pub new_shows : (members : List ℕ)
      → ShowHosts {Op = Op} {Reply = Reply} rules owner (new_hosts rules members) (opening members)
  new_shows members = record {
    is = opens_world laws rules members;
    members = refl;
    hosts = λ n member. opens rules members n member;
    stored = λ n member. stored_at_first members n;
    low = λ n. omega arith;
    handed = record { owned = λ n c i. absurd i; one = λ n c d i j e. absurd i };
    submitted = λ s i. absurd i;
    envelopes = λ p i. absurd i;
    snapshots = λ slot object i. ⊎_elim
        (λ (e : (slot, object) ≡ (1, new_object rules)). record {
          commands = [];
          told = tt;
          count = let at = ap (λ p. p.0) e in omega (arith, at);
          obeys = ap (λ p. p.1) e;
          reach = omega arith;
        })
        (λ none. absurd none) i;
    happenings = nothing_part;
    taken = omega arith;
  }

  -- some world that comes of this one is shown then
  abbrev Shown : Hosts Op O Reply → World Op Reply → Type 0
  Shown z w = (v : World Op Reply) × ShowHosts rules owner z v × GoesOnFrom w v

  module _ (k : Hosts Op O Reply) (w : World Op Reply) (show : ShowHosts rules owner k w) where
    by_leads : (z : Hosts Op O Reply) (es : List (Event Op)) (v : World Op Reply) → Leads rules w es v
        → ShowHosts rules owner z v → Shown z w
    by_leads z es v l shown = (v, shown, leads_later laws rules w v es show.is.reachable l)

    still_shown : (z : Hosts Op O Reply) → ShowHosts rules owner z w → Shown z w
    still_shown z shown = by_leads z [] w at_once shown

    -- an event at node n
    module _ (n : ℕ) (s : HostState Op O) (sent : List (Letter (Command Op))) (h : Happenings Op Reply)
        (stored : ℕ → Stored Op) (v : World Op Reply) (e : Event Op) (step : Step rules w e v)
        (away : (m : ℕ) → m ≢ n → IsElsewhere m w e)
        (shows : ShowsHost rules s n v.cluster) (envelopes : AreEnvelopesOf s.base sent v.cluster)
        (happened : IsPartOf h v.happenings)
        (submitted : (t : Submission Op) → In t v.happenings.submitted → In t.command
        (k.handed (owner t.command.key.session)))
        (own : IsStored (stored n) n v.cluster) (rest : (m : ℕ) → m ≢ n → stored m ≡ k.stored m)
        (low_own : (stored n).base ≤ s.base) (member : is_member k.members n ≡ true)
        (room : total_events k < most_events) where
      abbrev then : Hosts Op O Reply
      then = record (host_turned k n s sent h) { stored = stored }

      event_shows : Shown then w
      event_shows =
          let adds = step_adds rules w v e step in
          let taken = counts laws rules w v e step in
          let low = show.taken in
          by_leads then (e ∷ []) v (after e v at_once step) (record {
            is = goes_on laws rules w v e show.is step (omega (arith, low, room));
            members = adds.same ∙ show.members;
            hosts = each_host k.host n s (λ m z. is_member k.members m ≡ true → ShowsHost rules z m v.cluster)
                (λ member. shows)
                (λ m apart member. leaves_host rules (k.host m) m w.cluster v.cluster
                (step_leaves rules m w v e step (away m apart)) (show.hosts m member));
            stored = λ m member. ⊎_elim
                (λ (e : m ≡ n). subst (λ j. IsStored (stored j) j v.cluster) (sym e) own)
                (λ (apart : m ≢ n). subst (λ d. IsStored d m v.cluster) (sym (rest m apart))
                (leaves_stored rules (k.stored m) m w.cluster v.cluster (step_leaves rules m w v e step (away m apart))
                (show.stored m member)))
                (cases_eq m n);
            low = each_host k.host n s (λ m z. (stored m).base ≤ z.base) low_own
                (λ m apart. subst (λ (d : Stored Op). d.base ≤ (k.host m).base) (sym (rest m apart)) (show.low m));
            handed = show.handed;
            submitted = submitted;
            envelopes = λ p i. ⊎_elim
                (λ (j : In p k.envelopes). adds_envelope rules p w.cluster v.cluster adds (show.envelopes p j))
                (λ (j : In p (labelled s.base sent)).
                let r = map_In (λ l. record { label = s.base; letter = l }) p sent j in
                subst (λ q. IsEnvelopeOf q v.cluster) (sym r.2) (envelopes r.0 r.1))
                (In-cases p k.envelopes (labelled s.base sent) i);
            snapshots = λ slot object i. snapshot_stays laws rules slot object w v e step
                (show.snapshots slot object i);
            happenings = happened;
            taken = let more = count_more k.members k.taken n 1 member in omega (arith, taken, low, more);
          })

    -- a deed
    module _ (n : ℕ) (d : Deed Op) (a : HostActs rules (k.host n) n d w) (kept : IsStored (k.stored n) n w.cluster)
        (submitted : (t : Submission Op) → In t (with_asked d w.happenings).submitted → In t.command
        (k.handed (owner t.command.key.session)))
        (member : is_member k.members n ≡ true) (room : total_events k < most_events) where
      deed_shows : Shown (host_acted rules k n d) w
      deed_shows =
          let given = (host_turn rules (k.host n) d).answers in
          event_shows n (with_holding (k.host n) (host_turn rules (k.host n) d).state)
          (host_turn rules (k.host n) d).sent
          (with_answers given (with_asked d k.happenings)) k.stored a.world (event_of n d) a.step
          (λ m apart. deed_elsewhere w n m d apart) a.shows a.sent
          (subst (IsPartOf (with_answers given (with_asked d k.happenings))) (sym a.happenings)
          (answered_part (with_asked d k.happenings) (with_asked d w.happenings)
          (asked_part k.happenings w.happenings show.happenings d) given))
          (λ t i. submitted t (subst (λ (h : Happenings Op Reply). In t h.submitted) a.happenings i))
          (a.stored (k.stored n) kept) (λ m apart. refl) (show.low n) member room

    -- what was handed in is its key's own
    own_there : (m : ℕ) (c : Command Op) → In c (k.handed m) → IsItsOwn c w.happenings.submitted
    own_there m c i t j same =
        let key = same_is t.command.key c.key same in
        let mine = ap (λ (q : Key). owner q.session) key ∙ show.handed.owned m c i in
        show.handed.one m t.command c (subst (λ o. In t.command (k.handed o)) mine (show.submitted t j)) i key

    -- a command that was handed in is asked for
    asks_owned : (m : ℕ) (c : Command Op) → In c (k.handed m) → (t : Submission Op)
        → In t (with_submission c w.happenings).submitted
        → In t.command (k.handed (owner t.command.key.session))
    asks_owned m c i t j = ⊎_elim
        (λ (old : In t w.happenings.submitted). show.submitted t old)
        (λ (e : t.command ≡ c). subst (λ (d : Command Op). In d (k.handed (owner d.key.session))) (sym e)
        (subst (λ o. In c (k.handed o)) (sym (show.handed.owned m c i)) i))
        (submitted_before c w.happenings t j)

  -- all but host n show the world
  pub record ShowOthers (k : Hosts Op O Reply) (n : ℕ) (w : World Op Reply) : Type 0 where
    pub is : IsWorld rules w
    pub members : w.cluster.members ≡ k.members
    pub hosts : (m : ℕ) → m ≢ n → is_member k.members m ≡ true → ShowsHost rules (k.host m) m w.cluster
    pub stored : (m : ℕ) → m ≢ n → is_member k.members m ≡ true → IsStored (k.stored m) m w.cluster
    pub low : (m : ℕ) → m ≢ n → (k.stored m).base ≤ (k.host m).base
    pub handed : IsHandedIn owner k.handed
    pub submitted : (s : Submission Op) → In s w.happenings.submitted
        → In s.command (k.handed (owner s.command.key.session))
    pub envelopes : (p : Envelope (Command Op)) → In p k.envelopes → IsEnvelopeOf p w.cluster
    pub snapshots : (slot : ℕ) (object : Filtered O) → In (slot, object) k.snapshots → IsSnapshot rules slot object w
    pub happenings : IsPartOf k.happenings w.happenings

  others_show : (k : Hosts Op O Reply) (n : ℕ) (w : World Op Reply) → ShowHosts rules owner k w → ShowOthers k n w
  others_show k n w show = record {
    is = show.is;
    members = show.members;
    hosts = λ m apart member. show.hosts m member;
    stored = λ m apart member. show.stored m member;
    low = λ m apart. show.low m;
    handed = show.handed;
    submitted = show.submitted;
    envelopes = show.envelopes;
    snapshots = show.snapshots;
    happenings = show.happenings;
  }

  -- as host n restarts
  restarted_shows : (k : Hosts Op O Reply) (w : World Op Reply) → ShowHosts rules owner k w
      → (n : ℕ) (v : World Op Reply) → Step rules w (Restart n) v
      → v.happenings ≡ w.happenings → total_events k < most_events → ShowOthers k n v
  restarted_shows k w show n v step happened room =
      let adds = step_adds rules w v (Restart n) step in
      let low = show.taken in
      record {
        is = goes_on laws rules w v (Restart n) show.is step (omega (arith, low, room));
        members = adds.same ∙ show.members;
        hosts = λ m apart member. leaves_host rules (k.host m) m w.cluster v.cluster
            (step_leaves rules m w v (Restart n) step apart) (show.hosts m member);
        stored = λ m apart member. leaves_stored rules (k.stored m) m w.cluster v.cluster
            (step_leaves rules m w v (Restart n) step apart) (show.stored m member);
        low = λ m apart. show.low m;
        handed = show.handed;
        submitted = λ t i. show.submitted t (subst (λ (h : Happenings Op Reply). In t h.submitted) happened i);
        envelopes = λ p i. adds_envelope rules p w.cluster v.cluster adds (show.envelopes p i);
        snapshots = λ slot object i. snapshot_stays laws rules slot object w v (Restart n) step
            (show.snapshots slot object i);
        happenings = subst (IsPartOf k.happenings) (sym happened) show.happenings;
      }

  -- a host catches up
  module _ (k : Hosts Op O Reply) (n : ℕ) (w : World Op Reply) (show : ShowOthers k n w) where
    module _ (s : HostState Op O) (catches : CatchesUp rules s n w) (taken : ℕ → ℕ)
        (count : catches.world.taken ≤ events_from taken 1 (length k.members))
        (stored : ℕ → Stored Op) (own : IsStored (stored n) n w.cluster)
        (rest : (m : ℕ) → m ≢ n → stored m ≡ k.stored m) (low_own : (stored n).base ≤ s.base) where
      catching_shows : ShowHosts rules owner
          (record k { host = with_at k.host n s; stored = stored; taken = taken }) catches.world
      catching_shows =
          let v = catches.world in
          let sent : (l : Letter (Command Op)) → In l w.cluster.letters → In l v.cluster.letters = λ l i. subst (In l)
          (sym catches.letters) i in
          record {
            is = catches.is;
            members = catches.members ∙ show.members;
            hosts = each_host k.host n s (λ m z. is_member k.members m ≡ true → ShowsHost rules z m v.cluster)
                (λ member. catches.shows)
                (λ m apart member. leaves_host rules (k.host m) m w.cluster v.cluster
                (record { members = catches.members; node = catches.others m apart }) (show.hosts m apart member));
            stored = λ m member. catches.stored (stored m) m (⊎_elim
                (λ (e : m ≡ n). subst (λ j. IsStored (stored j) j w.cluster) (sym e) own)
                (λ (apart : m ≢ n). subst (λ d. IsStored d m w.cluster) (sym (rest m apart))
                (show.stored m apart member))
                (cases_eq m n));
            low = each_host k.host n s (λ m z. (stored m).base ≤ z.base) low_own
                (λ m apart. subst (λ (d : Stored Op). d.base ≤ (k.host m).base) (sym (rest m apart))
                (show.low m apart));
            handed = show.handed;
            submitted = λ t i. show.submitted t (subst (In t) catches.submitted i);
            envelopes = λ p i. adds_envelope rules p w.cluster v.cluster
                (record { sent = sent; same = catches.members }) (show.envelopes p i);
            snapshots = λ slot object i.
                let old = show.snapshots slot object i in
                let low = old.reach in
                let same = catches.reach in
                record {
                  commands = old.commands;
                  told = told_from_adds w.cluster v.cluster catches.members sent old.commands 1 old.told;
                  count = old.count;
                  obeys = old.obeys;
                  reach = omega (arith, low, same);
                };
            happenings = subst (IsPartOf k.happenings)
                (λ j. record { submitted = sym catches.submitted j; answers = sym catches.answers.1 j })
                (told_part k.happenings w.happenings show.happenings catches.answers.0);
            taken = count;
          }

  earlier_room : (k z : Hosts Op O Reply) → ClusterStep rules owner k z → total_events z ≤ most_events
      → total_events k ≤ most_events
  earlier_room k z (hands_in n c mine own) room = room
  earlier_room k z (asks n m c member within unknown) room =
      let more = count_more k.members k.taken n 1 member in omega (arith, room, more)
  earlier_room k z (acts n d member internal) room =
      let more = count_more k.members k.taken n 1 member in omega (arith, room, more)
  earlier_room k z (relays a within) room = room
  earlier_room k z (receives n p left new sent member within reads received) room =
      let more = count_more k.members k.taken n 1 member in omega (arith, room, more)
  earlier_room k z (forgets n base member more out) room = room
  earlier_room k z (compacts n base e member more below anew) room = room
  earlier_room k z (hands_on n member) room = room
  earlier_room k z (catches_up n slot object member within older none) room =
      let more = count_more k.members k.taken n (2 * (slot - (k.host n).holding.state.replica.slot_out)) member in
      omega (arith, room, more)
  earlier_room k z (comes_back n slot object member within low) room =
      let more = count_more k.members k.taken n (1 + 2 * slot) member in omega (arith, room, more)

  internal_asks : (s : HostState Op O) (d : Deed Op) (submitted : List (Submission Op)) → IsInternal d
      → AsksForUnknown s d submitted
  internal_asks s (deeds.Request c) submitted internal = absurd internal
  internal_asks s deeds.Wake submitted internal = tt
  internal_asks s deeds.Nudge submitted internal = tt
  internal_asks s deeds.Propose submitted internal = tt
  internal_asks s deeds.Perform submitted internal = tt
  internal_asks s deeds.Restart submitted internal = absurd internal

  internal_asked : (d : Deed Op) (h : Happenings Op Reply) → IsInternal d → with_asked d h ≡ h
  internal_asked (deeds.Request c) h internal = absurd internal
  internal_asked deeds.Wake h internal = refl
  internal_asked deeds.Nudge h internal = refl
  internal_asked deeds.Propose h internal = refl
  internal_asked deeds.Perform h internal = refl
  internal_asked deeds.Restart h internal = absurd internal

  pub step_shows : (k z : Hosts Op O Reply) (w : World Op Reply) → ShowHosts rules owner k w
      → ClusterStep rules owner k z → total_events z ≤ most_events → Shown z w
  step_shows k z w show (hands_in n c mine own) room = still_shown k w show z (record {
    is = show.is;
    members = show.members;
    hosts = show.hosts;
    stored = show.stored;
    low = show.low;
    handed = handed_more k.handed n c owner show.handed mine own;
    submitted = λ t i. handed_still k.handed n c (owner t.command.key.session) t.command (show.submitted t i);
    envelopes = show.envelopes;
    snapshots = show.snapshots;
    happenings = show.happenings;
    taken = show.taken;
  })
  step_shows k z w show (asks n m c member within unknown) room =
      deed_shows k w show n (deeds.Request c)
      (acts_unknown laws filter rules exact itself (k.host n) n w show.is (show.hosts n member) (deeds.Request c)
      (own_there k w show m c within, unknown)) (show.stored n member)
      (asks_owned k w show m c within) member (let more = count_more k.members k.taken n 1 member in
      omega (arith, room, more))
  step_shows k z w show (acts n d member internal) room =
      let same = internal_asked d w.happenings internal in
      deed_shows k w show n d
      (acts_unknown laws filter rules exact itself (k.host n) n w show.is (show.hosts n member) d
      (internal_asks (k.host n) d w.happenings.submitted internal)) (show.stored n member)
      (λ t i. show.submitted t (subst (λ (h : Happenings Op Reply). In t h.submitted) same i))
      member (let more = count_more k.members k.taken n 1 member in omega (arith, room, more))
  step_shows k z w show (relays a within) room = still_shown k w show z (record {
    is = show.is;
    members = show.members;
    hosts = show.hosts;
    stored = show.stored;
    low = show.low;
    handed = show.handed;
    submitted = show.submitted;
    envelopes = show.envelopes;
    snapshots = show.snapshots;
    happenings = relayed_part k.happenings w.happenings show.happenings a within;
    taken = show.taken;
  })
  step_shows k z w show (receives n p left new sent member within reads received) room =
      let r = acting.receives laws filter rules exact itself (k.host n) n w show.is (show.hosts n member) decide p
      (show.envelopes p within) reads.receiver reads.legible left reads.rest new sent received in
      let d = stored_after (k.stored n) left in
      event_shows k w show n (with_node_state (k.host n) new) sent k.happenings (with_at k.stored n d) r.world
      (Deliver r.place) r.step
      (λ m apart l at e. apart (e ∙ r.to l at)) r.shows r.envelopes
      (subst (IsPartOf k.happenings) (sym r.happenings) show.happenings)
      (λ t i. show.submitted t (subst (λ (h : Happenings Op Reply). In t h.submitted) r.happenings i))
      (subst (λ q. IsStored q n r.world.cluster) (sym (own_at k.stored n d))
      (r.stored (k.stored n) (show.low n) (show.stored n member)))
      (other_at k.stored n d)
      (let base = ap (λ (q : Stored Op). q.base) (own_at k.stored n d) ∙ same_base (k.stored n) left in
      let low = show.low n in omega (arith, base, low))
      member (let more = count_more k.members k.taken n 1 member in omega (arith, room, more))
  step_shows k z w show (forgets n base member more out) room = still_shown k w show z (record {
    is = show.is;
    members = show.members;
    hosts = each_host k.host n (forgotten_host base (k.host n))
        (λ m s. is_member k.members m ≡ true → ShowsHost rules s m w.cluster)
        (λ _. host_forgets rules (k.host n) n base w.cluster (show.hosts n member) more out)
        (λ m apart other. show.hosts m other);
    stored = show.stored;
    low = each_host k.host n (forgotten_host base (k.host n)) (λ m s. (k.stored m).base ≤ s.base)
        (let low = show.low n in omega (arith, low, more)) (λ m apart. show.low m);
    handed = show.handed;
    submitted = show.submitted;
    envelopes = show.envelopes;
    snapshots = show.snapshots;
    happenings = show.happenings;
    taken = show.taken;
  })
  step_shows k z w show (compacts n base e member more below anew) room = still_shown k w show z (record {
    is = show.is;
    members = show.members;
    hosts = show.hosts;
    stored = each_host k.stored n e
        (λ m d. is_member k.members m ≡ true → IsStored d m w.cluster)
        (λ _. stored_compacts laws (k.stored n) e n base w.cluster (show.stored n member) more anew)
        (λ m apart other. show.stored m other);
    low = each_host k.stored n e (λ m d. d.base ≤ (k.host m).base)
        (let low = show.low n in let is = anew.base in omega (arith, below, low, is))
        (λ m apart. show.low m);
    handed = show.handed;
    submitted = show.submitted;
    envelopes = show.envelopes;
    snapshots = show.snapshots;
    happenings = show.happenings;
    taken = show.taken;
  })
  step_shows k z w show (hands_on n member) room = still_shown k w show z (record {
    is = show.is;
    members = show.members;
    hosts = show.hosts;
    stored = show.stored;
    low = show.low;
    handed = show.handed;
    submitted = show.submitted;
    envelopes = show.envelopes;
    snapshots = λ slot object i. ⊎_elim
        (λ (j : In (slot, object) k.snapshots). show.snapshots slot object j)
        (λ (j : In (slot, object) (((k.host n).holding.state.replica.slot_out, (k.host n).holding.object) ∷ [])). ⊎_elim
        (λ (e : (slot, object) ≡ ((k.host n).holding.state.replica.slot_out, (k.host n).holding.object)).
        subst (λ (q : ℕ × Filtered O). IsSnapshot rules q.0 q.1 w) (sym e)
        (snapshot_of laws rules (k.host n) n w show.is (show.hosts n member)))
        (λ none. absurd none) j)
        (In-cases (slot, object) k.snapshots ((
          (k.host n).holding.state.replica.slot_out,
          (k.host n).holding.object,
        ) ∷ []) i);
    happenings = show.happenings;
    taken = show.taken;
  })
  step_shows k z w show (catches_up n slot object member within older none) room =
      let low = show.taken in
      let more = count_more k.members k.taken n (2 * (slot - (k.host n).holding.state.replica.slot_out)) member in
      let shows = show.hosts n member in
      let out = ap (λ b. b.slot_out) shows.held.state.replica in
      let c = host_catches_up laws filter rules exact (k.host n) n slot object w show.is (show.hosts n member)
      (show.snapshots slot object within) older none
      (omega (arith, low, room, more)) in
      let count = c.taken in
      by_leads k w show z c.events c.world c.leads
      (catching_shows k n w (others_show k n w show) (caught_up slot object (k.host n)) c
      (with_at k.taken n (k.taken n + 2 * (slot - (k.host n).holding.state.replica.slot_out)))
      (omega (arith, low, out, count, older, more))
      k.stored (show.stored n member) (λ m apart. refl)
      (let d = show.low n in let past = shows.past in omega (arith, d, past, out, older)))
  step_shows k z w show (comes_back n slot object member within low) room =
      let taken = show.taken in
      let more = count_more k.members k.taken n (1 + 2 * slot) member in
      let there : is_member w.cluster.members n ≡ true = ap (λ ms. is_member ms n) show.members ∙ member in
      let b = returning.comes_back laws filter rules exact n (k.stored n) slot object w show.is there
      (show.stored n member) low (show.snapshots slot object within)
      (omega (arith, taken, room, more)) in
      let s = restarted_host w.cluster.members n (k.stored n) slot object in
      let opened = restarted_shows k w show n b.opened b.step b.happenings (omega (arith, room, more)) in
      let few = counts laws rules w b.opened (Restart n) b.step in
      let count = b.catches_up.taken in
      subst (λ ms. Shown (record k {
        host = with_at k.host n (restarted_host ms n (k.stored n) slot object);
        stored = with_at k.stored n (booted (k.stored n));
        taken = with_at k.taken n (k.taken n + (1 + 2 * slot));
      }) w) show.members
      (by_leads k w show (record k {
        host = with_at k.host n s;
        stored = with_at k.stored n
            (booted (k.stored n));
        taken = with_at k.taken n (k.taken n + (1 + 2 * slot));
      })
      (Restart n ∷ b.catches_up.events) b.catches_up.world
      (leads_first rules w b.opened (Restart n) b.step b.catches_up.events b.catches_up.world b.catches_up.leads)
      (catching_shows k n b.opened opened s b.catches_up (with_at k.taken n (k.taken n + (1 + 2 * slot)))
      (omega (arith, taken, few, count, more))
      (with_at k.stored n (booted (k.stored n))) (subst (λ q. IsStored q n b.opened.cluster)
      (sym (own_at k.stored n (booted (k.stored n)))) b.stored)
      (other_at k.stored n (booted (k.stored n)))
      (let base = ap (λ (q : Stored Op). q.base) (own_at k.stored n (booted (k.stored n))) in
      omega (arith, base, low))))

  pub hosts_show : (members : List ℕ) (k : Hosts Op O Reply) → AreHosts rules owner members k
      → total_events k ≤ most_events → (w : World Op Reply) × ShowHosts rules owner k w
  hosts_show members k at_first room = (opening members, new_shows members)
  hosts_show members k (later {j} k' before goes) room =
      let r = hosts_show members j before (earlier_room j k goes room) in
      let v = step_shows j k r.0 r.1 goes room in
      (v.0, v.1)
