-- A host reads an envelope, or votes what it put aside.
use Rattle.std.proofs.Common.{◌≡◌, ◌≤◌, ◌+◌, ⊎_elim, ℕ, max, true, List, [], ◌∷◌, ◌++◌, length}
use Rattle.std.proofs.Common.{append-nil, append_assoc, length-append, refl, sym, ap, ◌∙◌, subst, arith}
use Rattle.std.proofs.lemmas.List.{map-append}
use Rattle.object.specs.ListLaws.{Each, Each-append, In-left, In-right, In-cases}
use Rattle.object.specs.Lists.{In}
use Rattle.object.specs.Objects.{Rules}
use Rattle.object.specs.declared.command.Command.{Command}
use Rattle.ballot.specs.Members.{is_member}
use Rattle.ballot.specs.declared.letter.Letter.{Letter}
use Rattle.ballot.specs.declared.letter.LetterBody.{LetterBody}
use Rattle.node.specs.Nodes.{NodeState}
use Rattle.node.specs.Receiving.{ShowsReceived}
use Rattle.cluster.specs.Clusters.{Hosts, with_at, labelled, host_turned}
use Rattle.cluster.specs.Envelopes.{Envelope, IsReadAs}
use Rattle.cluster.specs.Hosts.{HostState, with_node_state}
use Rattle.cluster.specs.Steps.{AreHosts, later, receives}
use Rattle.cluster.specs.Storing.{stored_after}
use Rattle.host.specs.Counting.{receipt_events}
use Rattle.host.specs.Hearing.{ReadsEnvelope, Votes, VotesOn, at_once, further}
use Rattle.host.specs.Receiving.{AsksForVote, Comes, Stays, put_aside}
use Rattle.host.specs.Steps.{IsHostAt, ChangesOnly, SendsUnder, BecomesBySteps}
use Rattle.host.specs.Storing.{stored_on}
use Rattle.host.specs.Views.{HostView}
use Rattle.host.specs.declared.receipt.Receipt.{Receipt}
use Rattle.host.specs.declared.receipt.Receipt.TheVariants as receipts
use Rattle.host.proofs.Steps.{own_at, other_at, still_under_way}
use Rattle.host.proofs.Storing.{stored_no_vote, stored_behind}

-- nothing more is sent
pub sends_nothing : {C : Type 0} (base : ℕ) (before now : List (Letter C)) (envelopes : List (Envelope C)) → now ≡ before
    → SendsUnder base before now envelopes
sends_nothing base before now envelopes e = record {
  sent = [];
  behind = e ∙ sym (append-nil before);
  among = λ p i. absurd i;
}

-- and then more is sent
pub sends_on : {C : Type 0} (base : ℕ) (before now after : List (Letter C)) (some more : List (Envelope C))
    → ((p : Envelope C) → In p some → In p more)
    → SendsUnder base before now some → SendsUnder base now after more → SendsUnder base before after more
sends_on {C} base before now after some more into a b = record {
  sent = a.sent ++ b.sent;
  behind = b.behind ∙ ap (λ xs. xs ++ b.sent) a.behind ∙ append_assoc before a.sent b.sent;
  among = λ p i. ⊎_elim
      (λ (j : In p (labelled base a.sent)). into p (a.among p j))
      (λ (j : In p (labelled base b.sent)). b.among p j)
      (In-cases p (labelled base a.sent) (labelled base b.sent)
      (subst (In p) (map-append (λ (x : Letter C). record { label = base; letter = x }) a.sent b.sent) i));
}

pub changes_nothing : {Op O Reply : Type 0} (n : ℕ) (k : Hosts Op O Reply) → ChangesOnly n k k
changes_nothing n k = record {
  members = refl;
  others = λ m apart. refl;
  stored = λ m apart. refl;
  taken = λ m apart. refl;
  handed = λ m c i. i;
  envelopes = λ p i. i;
  snapshots = λ slot object i. i;
}

pub changes_on : {Op O Reply : Type 0} (n : ℕ) (k j i : Hosts Op O Reply) → ChangesOnly n k j → ChangesOnly n j i
    → ChangesOnly n k i
changes_on n k j i a b = record {
  members = b.members ∙ a.members;
  others = λ m apart. b.others m apart ∙ a.others m apart;
  stored = λ m apart. b.stored m apart ∙ a.stored m apart;
  taken = λ m apart. b.taken m apart ∙ a.taken m apart;
  handed = λ m c x. b.handed m c (a.handed m c x);
  envelopes = λ p x. b.envelopes p (a.envelopes p x);
  snapshots = λ slot object x. b.snapshots slot object (a.snapshots slot object x);
}

module _ {O Op Reply : Type 0} (rules : Rules O Op Reply) (owner : ℕ → ℕ) (members : List ℕ) (n : ℕ) where
  -- the host is another view of the same, and nothing was sent
  abbrev pub remains : (k : Hosts Op O Reply) (base : ℕ) (z : HostView Op O) (before now : List (Letter (Command Op)))
      → AreHosts rules owner members k → IsHostAt z n k → z.shown.base ≡ base → now ≡ before
      → BecomesBySteps rules owner members base n z before now k
  remains k base z before now are is same e = record {
    hosts = k;
    are = are;
    changes = changes_nothing n k;
    is = is;
    under = same;
    sends = sends_nothing base before now k.envelopes e;
    happenings = refl;
    handed = refl;
    snapshots = refl;
  }

  -- and then it becomes another
  abbrev pub goes_on_to : (k : Hosts Op O Reply) (base : ℕ) (y z : HostView Op O) (before now after : List (Letter (Command Op)))
      → (a : BecomesBySteps rules owner members base n y before now k)
      → BecomesBySteps rules owner members y.shown.base n z now after a.hosts
      → BecomesBySteps rules owner members base n z before after k
  goes_on_to k base y z before now after a b = record {
    hosts = b.hosts;
    are = b.are;
    changes = changes_on n k a.hosts b.hosts a.changes b.changes;
    is = b.is;
    under = b.under ∙ a.under;
    sends = sends_on base before now after a.hosts.envelopes b.hosts.envelopes b.changes.envelopes a.sends
        (subst (λ x. SendsUnder x now after b.hosts.envelopes) a.under b.sends);
    happenings = b.happenings ∙ a.happenings;
    handed = b.handed ∙ a.handed;
    snapshots = b.snapshots ∙ a.snapshots;
  }

  module _ (k : Hosts Op O Reply) (are : AreHosts rules owner members k) (member : is_member k.members n ≡ true) where
    -- the hosts after it has received what is left of an envelope
    abbrev received_hosts : NodeState (Command Op) → List (Letter (Command Op)) → LetterBody (Command Op) → Hosts Op O Reply
    received_hosts new sent left = record (host_turned k n (with_node_state (k.host n) new) sent k.happenings) {
      stored = with_at k.stored n (stored_after (k.stored n) left);
    }

    pub taking : (s : HostState Op O) (p : Envelope (Command Op)) (left : LetterBody (Command Op))
        (new : NodeState (Command Op)) (sent before now : List (Letter (Command Op)))
        → k.host n ≡ s → In p k.envelopes → IsReadAs p n s.base left
        → ShowsReceived p.letter.«from» s.holding.state left new [] sent → now ≡ before ++ sent
        → (z : HostView Op O) → z.number ≡ n → z.shown ≡ with_node_state s new → Each (λ q. In q k.envelopes) z.aside
        → k.taken n + 1 ≤ z.taken
        → (b : BecomesBySteps rules owner members s.base n z before now k)
        × (b.hosts.stored n ≡ stored_after (k.stored n) left)
    taking s p left new sent before now is of reads received behind z number same all count = (
      record {
        hosts = received_hosts new sent left;
        are = later (received_hosts new sent left) are
            (receives n p left new sent member of
            (subst (λ (x : HostState Op O). IsReadAs p n x.base left) (sym is) reads)
            (subst (λ (x : HostState Op O). ShowsReceived p.letter.«from» x.holding.state left new [] sent)
            (sym is) received));
        changes = record {
          members = refl;
          others = λ m apart. other_at k.host n m (with_node_state (k.host n) new) apart;
          stored = λ m apart. other_at k.stored n m (stored_after (k.stored n) left) apart;
          taken = λ m apart. other_at k.taken n m (k.taken n + 1) apart;
          handed = λ m d i. i;
          envelopes = λ q i. In-left q k.envelopes (labelled (k.host n).base sent) i;
          snapshots = λ slot object i. i;
        };
        is = record {
          member = member;
          number = number;
          shown = own_at k.host n (with_node_state (k.host n) new)
              ∙ ap (λ (x : HostState Op O). with_node_state x new) is ∙ sym same;
          aside = still_under_way k.envelopes (k.envelopes ++ labelled (k.host n).base sent) z.aside
              (λ q i. In-left q k.envelopes (labelled (k.host n).base sent) i) all;
          taken = subst (λ x. x ≤ z.taken) (sym (own_at k.taken n (k.taken n + 1))) count;
        };
        under = ap (λ (x : HostState Op O). x.base) same;
        sends = record {
          sent = sent;
          behind = behind;
          among = λ q i. In-right q k.envelopes (labelled (k.host n).base sent)
              (subst (λ (x : HostState Op O). In q (labelled x.base sent)) (sym is) i);
        };
        happenings = refl;
        handed = refl;
        snapshots = refl;
      },
      own_at k.stored n (stored_after (k.stored n) left),
    )

    -- it stays, with another view of what lies aside
    staying : (s t : HostState Op O) (before now : List (Letter (Command Op))) → k.host n ≡ s → Stays s t before now
        → (z : HostView Op O) → z.number ≡ n → z.shown ≡ t → Each (λ q. In q k.envelopes) z.aside → k.taken n ≤ z.taken
        → (b : BecomesBySteps rules owner members s.base n z before now k) × (b.hosts.stored n ≡ k.stored n)
    staying s t before now is c z number same all count = (
      remains k s.base z before now are
          (record { member = member; number = number; shown = is ∙ sym (same ∙ c.0); aside = all; taken = count })
          (ap (λ (x : HostState Op O). x.base) (same ∙ c.0)) c.1,
      refl,
    )

    put_under_way : (r : Receipt) (p : Envelope (Command Op)) → In p k.envelopes → Each (λ q. In q k.envelopes) (put_aside r p)
    put_under_way receipts.Astray p of = tt
    put_under_way receipts.Illegible p of = tt
    put_under_way receipts.Forgotten p of = tt
    put_under_way receipts.Unfit p of = tt
    put_under_way receipts.Aside p of = (of, tt)
    put_under_way receipts.Received p of = tt

    reading_of : (h z : HostView Op O) (p : Envelope (Command Op)) (before now : List (Letter (Command Op)))
        → IsHostAt h n k → In p k.envelopes → (r : Receipt) → Comes r n h.shown p z.shown before now
        → z.number ≡ n → Each (λ q. In q k.envelopes) z.aside → k.taken n + receipt_events r ≤ z.taken
        → (AsksForVote p.letter.body → r ≡ receipts.Received → ⊥)
        → (b : BecomesBySteps rules owner members h.shown.base n z before now k) × (b.hosts.stored n ≡ k.stored n)
    reading_of h z p before now is of receipts.Astray c number all count waits =
        staying h.shown z.shown before now is.shown c.1 z number refl all (omega (arith, count))
    reading_of h z p before now is of receipts.Illegible c number all count waits =
        staying h.shown z.shown before now is.shown c.1 z number refl all (omega (arith, count))
    reading_of h z p before now is of receipts.Forgotten c number all count waits =
        staying h.shown z.shown before now is.shown c.1 z number refl all (omega (arith, count))
    reading_of h z p before now is of receipts.Unfit c number all count waits =
        staying h.shown z.shown before now is.shown c.3 z number refl all (omega (arith, count))
    reading_of h z p before now is of receipts.Aside c number all count waits =
        staying h.shown z.shown before now is.shown c.1 z number refl all (omega (arith, count))
    reading_of h z p before now is of receipts.Received c number all count waits =
        let b = taking h.shown p c.0 c.1 c.2 before now is.shown of c.3 c.4 c.6 z number c.5 all count in
        (b.0, b.1 ∙ stored_no_vote (k.stored n) h.shown.base p.letter.body c.0 c.3.rest (λ a. waits a refl))

  pub reading : (k : Hosts Op O Reply) (r : Receipt) (h z : HostView Op O) (p : Envelope (Command Op))
      (before now : List (Letter (Command Op)))
      → AreHosts rules owner members k → IsHostAt h n k → In p k.envelopes → ReadsEnvelope r h p z before now
      → (b : BecomesBySteps rules owner members h.shown.base n z before now k) × (b.hosts.stored n ≡ k.stored n)
  reading k r h z p before now are is of c =
      reading_of k are is.member h z p before now is of r
      (subst (λ m. Comes r m h.shown p z.shown before now) is.number c.shown)
      (c.number ∙ is.number)
      (subst (Each (λ q. In q k.envelopes)) (sym c.aside)
      (Each-append (λ q. In q k.envelopes) h.aside (put_aside r p) is.aside (put_under_way k are is.member r p of)))
      (let more = c.taken in let before = is.taken in omega (arith, more, before))
      c.waits

  -- one vote
  voting : (k : Hosts Op O Reply) (upto : ℕ) (h z : HostView Op O) (before now : List (Letter (Command Op)))
      → AreHosts rules owner members k → IsHostAt h n k → (c : Votes upto h z before now)
      → (b : BecomesBySteps rules owner members h.shown.base n z before now k)
      × (b.hosts.stored n ≡ stored_after (k.stored n) c.envelope.letter.body)
  voting k upto h z before now are is c =
      let all : Each (λ q. In q k.envelopes) (c.envelope ∷ z.aside) =
      subst (Each (λ q. In q k.envelopes)) c.first is.aside in
      taking k are is.member h.shown c.envelope c.envelope.letter.body c.new c.sent before now is.shown all.0
      (subst (λ m. IsReadAs c.envelope m h.shown.base c.envelope.letter.body) is.number c.reads)
      c.received c.behind z (c.number ∙ is.number) c.shown all.1
      (let more = c.taken in let before = is.taken in omega (arith, more, before))

  pub votes_on : (k : Hosts Op O Reply) (upto : ℕ) (h : HostView Op O) (before : List (Letter (Command Op)))
      → AreHosts rules owner members k → IsHostAt h n k → (z : HostView Op O) (now : List (Letter (Command Op)))
      → VotesOn upto h before z now
      → (b : BecomesBySteps rules owner members h.shown.base n z before now k)
      × (voted : List (Envelope (Command Op))) × (h.aside ≡ voted ++ z.aside)
      × (b.hosts.stored n ≡ stored_on (k.stored n) voted)
      × (z.voted ≡ h.voted + length voted) × (z.voted ≤ max h.voted upto)
  votes_on k upto h before are is _ _ at_once =
      (remains k h.shown.base h before before are is refl refl, [], refl, refl, omega arith, omega arith)
  votes_on k upto h before are is _ _ (further {y} {now} z after run c) =
      let l = votes_on k upto h before are is y now run in
      let v = voting l.0.hosts upto y z now after l.0.are l.0.is c in (
        goes_on_to k h.shown.base y z before now after l.0 v.0,
        l.1 ++ (c.envelope ∷ []),
        l.2 ∙ ap (λ ps. l.1 ++ ps) c.first ∙ sym (append_assoc l.1 (c.envelope ∷ []) z.aside),
        v.1 ∙ ap (λ d. stored_after d c.envelope.letter.body) l.3 ∙ sym (stored_behind (k.stored n) l.1 c.envelope),
        (
            let so_far = l.4 in
            let one = c.voted in
            omega (arith, so_far, one, length-append l.1 (c.envelope ∷ []))
            ),
        (
            let one = c.voted in
            let low = c.kept in
            omega (arith, one, low)
            ),
      )
