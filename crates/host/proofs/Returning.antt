-- A host hands a snapshot on, takes one over, and comes back with what it stored.
use Rattle.std.proofs.Common.{◌≡◌, ◌≤◌, ◌+◌, ◌*◌, ◌-◌, ℕ, max, Bool, true, false, ◌||◌, ◌&&◌, List, [], ◌∷◌, ◌++◌, length, take}
use Rattle.std.proofs.Common.{refl, sym, ap, ◌∙◌, subst, arith, ⊎_elim, zero, suc}
use Rattle.std.specs.Prelude.{nat_le}
use Rattle.std.specs.List.{list_all}
use Rattle.std.specs.FinMap.{entries, get-entries}
use Rattle.std.proofs.lemmas.Bool.Decides.{nat_tests}
use Rattle.object.specs.ListLaws.{Each, In-left}
use Rattle.object.specs.Lists.{In}
use Rattle.object.specs.Objects.{Rules}
use Rattle.object.specs.OnceOnly.{Filtered, is_later}
use Rattle.object.specs.declared.command.Command.{Command}
use Rattle.ballot.specs.Ballots.{higher}
use Rattle.ballot.specs.Letters.{letter}
use Rattle.ballot.specs.OrderLaws.{BallotLaws}
use Rattle.ballot.specs.declared.letter.Letter.{Letter}
use Rattle.ballot.specs.declared.letter.LetterBody.{LetterBody}
use Rattle.ballot.specs.declared.letter.LetterBody.TheVariants.{P1a, P1b, P2a, P2b, Propose, Decision, Ask}
use Rattle.acceptor.specs.Acceptors.{Acceptances, Keeps, after_p1a, after_p2a}
use Rattle.acceptor.specs.Rests.{rest_of_acceptor}
use Rattle.acceptor.proofs.Memberships.{found_in}
use Rattle.slot_log.specs.Books.{SlotBook}
use Rattle.replica.specs.CatchingUp.{is_in_vain, has_proposed_in_vain}
use Rattle.node.specs.ComingBack.{node_back}
use Rattle.node.specs.Nodes.{NodeState, number_of}
use Rattle.node.specs.Receiving.{ShowsReceived, promises_ballot, accepts_pvalue}
use Rattle.node.proofs.Keeping.{keeps_all, keeps_p1a, keeps_p2a}
use Rattle.forgetting.proofs.Bases.{pvalues_twice}
use Rattle.cluster.specs.CatchingUp.{HasProposedInVain, caught_up}
use Rattle.cluster.specs.Clusters.{Hosts, with_at}
use Rattle.cluster.specs.ComingBack.{restarted_host}
use Rattle.cluster.specs.Envelopes.{Envelope, IsReadAs}
use Rattle.cluster.specs.Hosts.{HostState, with_node_state}
use Rattle.cluster.specs.Steps.{ClusterStep, AreHosts, later, hands_on, catches_up, compacts, comes_back}
use Rattle.cluster.specs.Storing.{Stored, IsWrittenAnew, booted}
use Rattle.host.specs.CatchingUp.{MayCatchUp, caught_up_view}
use Rattle.host.specs.Receiving.{AsksForVote, AwaitsVote}
use Rattle.host.specs.Steps.{IsHostAt, StepsTo, BecomesBySteps}
use Rattle.host.specs.Storing.{IsAsGood, stored_on, back_view}
use Rattle.host.specs.Views.{HostView}
use Rattle.host.proofs.Received.{asked_read}
use Rattle.host.proofs.Reading.{taking, remains, sends_nothing, changes_on}
use Rattle.host.proofs.Steps.{own_at, other_at, still_under_way}

-- a test that holds of all holds of each
both : (a b : Bool) → a && b ≡ true → (a ≡ true) × (b ≡ true)
both true true h = (refl, refl)
both true false h = absurd (cc)
both false b h = absurd (cc)

all_of : {X : Type 0} (p : X → Bool) (x : X) (xs : List X) → list_all p xs ≡ true → In x xs → p x ≡ true
all_of p x [] h i = absurd i
all_of p x (y ∷ ys) h i =
    let split = both (p y) (list_all p ys) h in
    ⊎_elim (λ (same : x ≡ y). ap p same ∙ split.0) (λ (j : In x ys). all_of p x ys split.1 j) i

-- what was proposed in vain, slot by slot
pub vain_each : {Op O : Type 0} (slot : ℕ) (object : Filtered O) (book : SlotBook (Command Op))
    → has_proposed_in_vain slot object book ≡ true → HasProposedInVain slot object book
vain_each slot object book vain s c low there =
    later_if (nat_le slot s) (grind (arith, nat_tests, low))
    (all_of (is_in_vain slot object) (s, c) (entries book.proposals) vain
    (found_in s c (entries book.proposals) (sym (get-entries book.proposals s) ∙ there)))
  where
    later_if : (b : Bool) → b ≡ false → b || is_later c.key object.latest ≡ true → is_later c.key object.latest ≡ true
    later_if true e h = absurd (cc)
    later_if false e h = h

module _ {O Op Reply : Type 0} (rules : Rules O Op Reply) (owner : ℕ → ℕ) (n : ℕ) (k : Hosts Op O Reply) where
  pub handing_on : (h : HostView Op O) → IsHostAt h n k
      → StepsTo rules owner n h k (record k {
        snapshots = k.snapshots ++ ((h.shown.holding.state.replica.slot_out, h.shown.holding.object) ∷ []);
      })
  handing_on h is = record {
    step = subst (λ (s : HostState Op O). ClusterStep rules owner k (record k {
      snapshots = k.snapshots ++ ((s.holding.state.replica.slot_out, s.holding.object) ∷ []);
    })) is.shown (hands_on n is.member);
    changes = record {
      members = refl;
      others = λ m apart. refl;
      stored = λ m apart. refl;
      taken = λ m apart. refl;
      handed = λ m c i. i;
      envelopes = λ p i. i;
      snapshots = λ slot object i. In-left (slot, object) k.snapshots _ i;
    };
    is = record { member = is.member; number = is.number; shown = is.shown; aside = is.aside; taken = is.taken };
  }

  pub taking_over : (h : HostView Op O) (slot : ℕ) (object : Filtered O) → IsHostAt h n k → In (slot, object) k.snapshots
      → MayCatchUp slot object h
      → StepsTo rules owner n (caught_up_view slot object h) k (record k {
        host = with_at k.host n (caught_up slot object (k.host n));
        taken = with_at k.taken n (k.taken n + 2 * (slot - (k.host n).holding.state.replica.slot_out));
      })
  taking_over h slot object is of may = record {
    step = catches_up n slot object is.member of
        (subst (λ (x : HostState Op O). x.holding.state.replica.slot_out ≤ slot) (sym is.shown) may.further)
        (subst (λ (x : HostState Op O). HasProposedInVain slot object x.holding.state.replica) (sym is.shown)
        (vain_each slot object h.shown.holding.state.replica may.vain));
    changes = record {
      members = refl;
      others = λ m apart. other_at k.host n m (caught_up slot object (k.host n)) apart;
      stored = λ m apart. refl;
      taken = λ m apart. other_at k.taken n m (k.taken n + 2 * (slot - (k.host n).holding.state.replica.slot_out)) apart;
      handed = λ m c i. i;
      envelopes = λ p i. i;
      snapshots = λ s o i. i;
    };
    is = record {
      member = is.member;
      number = is.number;
      shown = own_at k.host n (caught_up slot object (k.host n)) ∙ ap (caught_up slot object) is.shown;
      aside = is.aside;
      taken =
          let own = own_at k.taken n (k.taken n + 2 * (slot - (k.host n).holding.state.replica.slot_out)) in
          let before = is.taken in
          let out = ap (λ (x : HostState Op O). x.holding.state.replica.slot_out) is.shown in
          omega (arith, own, before, out);
    };
  }

  pub rewriting : (h : HostView Op O) (base : ℕ) (anew : Stored Op) → IsHostAt h n k → (k.stored n).base ≤ base
      → base ≤ max (k.stored n).base h.shown.base → IsWrittenAnew base (k.stored n) anew
      → StepsTo rules owner n h k (record k { stored = with_at k.stored n anew })
  rewriting h base anew is low high is_anew = record {
    step = compacts n base anew is.member low
        (subst (λ (x : HostState Op O). base ≤ max (k.stored n).base x.base) (sym is.shown) high) is_anew;
    changes = record {
      members = refl;
      others = λ m apart. refl;
      stored = λ m apart. other_at k.stored n m anew apart;
      taken = λ m apart. refl;
      handed = λ m c i. i;
      envelopes = λ p i. i;
      snapshots = λ s o i. i;
    };
    is = record { member = is.member; number = is.number; shown = is.shown; aside = is.aside; taken = is.taken };
  }

module _ (laws : BallotLaws) where
  -- a node can always promise and accept
  pub may_vote : {C : Type 0} (m : ℕ) (x : NodeState C) (body : LetterBody C) → AsksForVote body
      → (new : NodeState C) × (sent : List (Letter C)) × ShowsReceived m x body new [] sent
  may_vote {C} m x (P1a b) asks = (
    record x { acceptor = after_p1a x.acceptor b },
    letter (number_of x) (P1b (higher x.acceptor.promised b) x.acceptor.accepted) m ∷ [],
    λ y s. (
      record y { acceptor = after_p1a y.acceptor b },
      record {
        acceptor = keeps_p1a y.acceptor x.acceptor b s.acceptor;
        boot = s.boot;
        leader = s.leader;
        replica = s.replica;
      },
      (
        letter (number_of y) (P1b (higher y.acceptor.promised b) x.acceptor.accepted) m ∷ [],
        promises_ballot b x.acceptor.accepted s.acceptor.accepted,
        λ i. letter (s.leader i).ballot.node (P1b (higher (s.acceptor.promised i) b) x.acceptor.accepted) m ∷ [],
      ),
    ),
  )
  may_vote m x (P1b b report) asks = absurd asks
  may_vote {C} m x (P2a p) asks = (
    record x { acceptor = after_p2a x.acceptor p },
    letter (number_of x) (P2b x.acceptor.promised p.slot p.ballot) m ∷ [],
    λ y s. (
      record y { acceptor = after_p2a y.acceptor p },
      record {
        acceptor = keeps_p2a laws y.acceptor x.acceptor (after_p2a x.acceptor p) p s.acceptor
            (keeps_all laws (after_p2a x.acceptor p));
        boot = s.boot;
        leader = s.leader;
        replica = s.replica;
      },
      (
        letter (number_of y) (P2b y.acceptor.promised p.slot p.ballot) m ∷ [],
        accepts_pvalue p,
        λ i. letter (s.leader i).ballot.node (P2b (s.acceptor.promised i) p.slot p.ballot) m ∷ [],
      ),
    ),
  )
  may_vote m x (P2b o s by) asks = absurd asks
  may_vote m x (Propose s c) asks = absurd asks
  may_vote m x (Decision s c) asks = absurd asks
  may_vote m x (Ask s) asks = absurd asks

  module _ {O Op Reply : Type 0} (rules : Rules O Op Reply) (owner : ℕ → ℕ) (members : List ℕ) (n base : ℕ) where
    -- by further steps, whatever was sent
    abbrev and_then : (k : Hosts Op O Reply) (at : ℕ) (y z : HostView Op O) (sent : List (Letter (Command Op)))
        → (a : BecomesBySteps rules owner members at n y [] sent k)
        → BecomesBySteps rules owner members base n z [] [] a.hosts
        → BecomesBySteps rules owner members base n z [] [] k
    and_then k at y z sent a b = record {
      hosts = b.hosts;
      are = b.are;
      changes = changes_on n k a.hosts b.hosts a.changes b.changes;
      is = b.is;
      under = b.under;
      sends = sends_nothing base [] [] b.hosts.envelopes refl;
      happenings = b.happenings ∙ a.happenings;
      handed = b.handed ∙ a.handed;
      snapshots = b.snapshots ∙ a.snapshots;
    }

    -- what waits is received, whether or not anybody heard of it
    receives_all : (ps : List (Envelope (Command Op))) (k : Hosts Op O Reply) (y : HostView Op O)
        → AreHosts rules owner members k → IsHostAt y n k → y.shown.base ≡ base
        → Each (λ p. In p k.envelopes) ps → Each (AwaitsVote n base) ps
        → (z : HostView Op O) × (b : BecomesBySteps rules owner members base n z [] [] k)
        × (b.hosts.stored n ≡ stored_on (k.stored n) ps) × (z.taken ≡ y.taken + length ps)
    receives_all [] k y are is at among waits =
        (y, remains rules owner members n k base y [] [] are is at refl, refl, omega arith)
    receives_all (p ∷ ps) k y are is at among waits =
        let w = waits.0 in
        let v = may_vote p.letter.«from» y.shown.holding.state p.letter.body w.asks in
        let then : HostView Op O = record {
          number = n;
          shown = with_node_state y.shown v.0;
          aside = [];
          voted = 0;
          taken = y.taken + 1;
        } in
        let t = taking rules owner members n k are is.member y.shown p p.letter.body v.0 v.1 [] v.1 is.shown among.0
        (subst (λ b. IsReadAs p n b p.letter.body) (sym at) (asked_read n base p w))
        v.2 refl then refl refl tt (let before = is.taken in omega (arith, before)) in
        let r = receives_all ps t.0.hosts then t.0.are t.0.is at
        (still_under_way k.envelopes t.0.hosts.envelopes ps t.0.changes.envelopes among.1) waits.1 in (
          r.0,
          and_then k y.shown.base then r.0 v.1 t.0 r.1,
          r.2 ∙ ap (λ d. stored_on d ps) t.1,
          let more = r.3 in omega (arith, more),
        )

  module _ {O Op Reply : Type 0} (rules : Rules O Op Reply) (owner : ℕ → ℕ) (members : List ℕ) (n slot : ℕ) where
    -- what is stored is written anew from the same base on
    abbrev anew_of : Stored Op → Stored Op → Stored Op
    anew_of d anew = record { base = d.base; acceptor = rest_of_acceptor d.base anew.acceptor; boot = anew.boot }

    abbrev rewritten : Hosts Op O Reply → Stored Op → Hosts Op O Reply
    rewritten k anew = record k { stored = with_at k.stored n (anew_of (k.stored n) anew) }

    abbrev returned : Hosts Op O Reply → Filtered O → Hosts Op O Reply
    returned k object = record k {
      host = with_at k.host n (restarted_host k.members n (k.stored n) slot object);
      stored = with_at k.stored n (booted (k.stored n));
      taken = with_at k.taken n (k.taken n + (1 + 2 * slot));
    }

    -- what is left of the acceptor from the slot on is the same
    same_back : (members : List ℕ) (d anew : Stored Op) (object : Filtered O) → d.base ≤ slot
        → restarted_host members n (anew_of d anew) slot object ≡ restarted_host members n anew slot object
    same_back members d anew object low =
        ap (λ (a : Acceptances (Command Op)). record {
          base = slot;
          holding = record (node_back members n anew.acceptor (anew.boot + 1) slot object) {
            state = record (node_back members n anew.acceptor (anew.boot + 1) slot object).state { acceptor = a };
          };
        })
        (ap (λ ps. record anew.acceptor { accepted = ps }) (pvalues_twice d.base slot low anew.acceptor.accepted))

    good_anew : (d anew : Stored Op) → IsAsGood d anew → IsAsGood (booted (anew_of d anew)) (booted anew)
    good_anew d anew good = record {
      base = good.base;
      acceptor = subst (λ ps. Keeps (record anew.acceptor { accepted = ps }) (rest_of_acceptor d.base anew.acceptor))
          (sym (pvalues_twice d.base d.base (omega arith) anew.acceptor.accepted))
          (keeps_all laws (rest_of_acceptor d.base anew.acceptor));
      boot = refl;
    }

    -- the host that comes back with what is as good as what is stored
    back_with : (k : Hosts Op O Reply) (y : HostView Op O) (anew : Stored Op) (object : Filtered O) (events : ℕ)
        → AreHosts rules owner members k → IsHostAt y n k → IsAsGood (k.stored n) anew → In (slot, object) k.snapshots
        → anew.base ≤ slot → y.taken ≤ events
        → (b : BecomesBySteps rules owner members slot n (back_view k.members n anew slot object events) [] [] k)
        × IsAsGood (b.hosts.stored n) (booted anew)
    back_with k y anew object events are is good of low count =
        let d = k.stored n in
        let e = anew_of d anew in
        let j = rewritten k anew in
        let own : j.stored n ≡ e = own_at k.stored n e in
        let base : d.base ≤ slot = (let same = good.base in omega (arith, low, same)) in
        let are_j = later j are (compacts n d.base e is.member (omega arith) (omega arith)
        (record { base = refl; acceptor = good.acceptor; boot = good.boot })) in
        let z = returned j object in (
          record {
            hosts = z;
            are = later z are_j (comes_back n slot object is.member of
                (subst (λ (x : Stored Op). x.base ≤ slot) (sym own) base));
            changes = record {
              members = refl;
              others = λ m apart. other_at k.host n m (restarted_host k.members n (j.stored n) slot object) apart;
              stored = λ m apart. other_at j.stored n m (booted (j.stored n)) apart ∙ other_at k.stored n m e apart;
              taken = λ m apart. other_at k.taken n m (k.taken n + (1 + 2 * slot)) apart;
              handed = λ m c i. i;
              envelopes = λ p i. i;
              snapshots = λ s o i. i;
            };
            is = record {
              member = is.member;
              number = refl;
              shown = own_at k.host n (restarted_host k.members n (j.stored n) slot object)
                  ∙ ap (λ (x : Stored Op). restarted_host k.members n x slot object) own
                  ∙ same_back k.members d anew object base;
              aside = tt;
              taken = let mine = own_at k.taken n (k.taken n + (1 + 2 * slot)) in
                  let before = is.taken in
                  omega (arith, mine, before, count);
            };
            under = refl;
            sends = sends_nothing slot [] [] k.envelopes refl;
            happenings = refl;
            handed = refl;
            snapshots = refl;
          },
          subst (λ (x : Stored Op). IsAsGood x (booted anew))
              (sym (own_at j.stored n (booted (j.stored n)) ∙ ap booted own)) (good_anew d anew good),
        )

    first_waits : {X : Type 0} (P : X → Type 0) (count : ℕ) (xs : List X) → Each P xs → Each P (take count xs)
    first_waits P zero xs all = tt
    first_waits P (suc count) [] all = tt
    first_waits P (suc count) (x ∷ xs) all = (all.0, first_waits P count xs all.1)

    few : {X : Type 0} (count : ℕ) (xs : List X) → length (take count xs) ≤ count
    few zero xs = omega arith
    few (suc count) [] = omega arith
    few (suc count) (x ∷ xs) = let less = few count xs in omega (arith, less)

    -- the same members under another name
    abbrev same_members : (anew : Stored Op) (object : Filtered O) (events : ℕ) (j k : Hosts Op O Reply) → j.members ≡ k.members
        → BecomesBySteps rules owner members slot n (back_view j.members n anew slot object events) [] [] j
        → BecomesBySteps rules owner members slot n (back_view k.members n anew slot object events) [] [] j
    same_members anew object events j k e b = record {
      hosts = b.hosts;
      are = b.are;
      changes = b.changes;
      is = subst (λ ms. IsHostAt (back_view ms n anew slot object events) n b.hosts) e b.is;
      under = refl;
      sends = b.sends;
      happenings = b.happenings;
      handed = b.handed;
      snapshots = b.snapshots;
    }

    pub coming_back : (h : HostView Op O) (count events : ℕ) (anew : Stored Op) (object : Filtered O) (k : Hosts Op O Reply)
        → AreHosts rules owner members k → IsHostAt h n k → Each (AwaitsVote n h.shown.base) h.aside
        → IsAsGood (stored_on (k.stored n) (take count h.aside)) anew → In (slot, object) k.snapshots → anew.base ≤ slot
        → h.taken + count ≤ events
        → (b : BecomesBySteps rules owner members slot n (back_view k.members n anew slot object events) [] [] k)
        × IsAsGood (b.hosts.stored n) (booted anew)
    coming_back h count events anew object k are is waits good of low most =
        let heard = receives_all rules owner members n h.shown.base (take count h.aside) k h are is refl
        (first_waits (λ p. In p k.envelopes) count h.aside is.aside)
        (first_waits (AwaitsVote n h.shown.base) count h.aside waits) in
        let j = heard.1.hosts in
        let back = back_with j heard.0 anew object events heard.1.are heard.1.is
        (subst (λ (d : Stored Op). IsAsGood d anew) (sym heard.2) good)
        (subst (In (slot, object)) (sym heard.1.snapshots) of) low
        (let more = heard.3 in let less = few count h.aside in omega (arith, more, less, most)) in (
          and_then rules owner members n slot k h.shown.base heard.0
              (back_view k.members n anew slot object events) [] heard.1 (same_members anew object events j k heard.1.changes.members back.0),
          back.1,
        )
