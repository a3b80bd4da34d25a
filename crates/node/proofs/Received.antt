-- What a node received, from what its parts did; and what it shows then of each node that it showed.
use Rattle.std.proofs.Common.{◌≡◌, ℕ, List, [], ◌∷◌, ◌++◌, map, Option, sym, ap, ap₂, ◌∙◌, subst}
use Rattle.std.proofs.lemmas.List.{append-nil}
use Rattle.ballot.specs.Ballots.{Numbers, higher}
use Rattle.ballot.specs.Letters.{letter, all_to_all}
use Rattle.ballot.specs.declared.pvalue.Pvalue.{Pvalue}
use Rattle.ballot.specs.declared.letter.LetterBody.{LetterBody}
use Rattle.ballot.specs.declared.letter.LetterBody.TheVariants.{P1a, P1b, P2a, P2b, Propose, Decision, Ask}
use Rattle.ballot.specs.declared.letter.Letter.{Letter}
use Rattle.acceptor.specs.Acceptors.{Acceptances, Keeps, after_p1a, after_p2a}
use Rattle.acceptor.specs.Reports.{IsReport}
use Rattle.leader.specs.Leaders.{Leading, Done, Sends, on_propose}
use Rattle.leader.specs.Promises.{Hears, HearsP1b}
use Rattle.leader.specs.Promises as promises
use Rattle.leader.specs.Votes as votes
use Rattle.slot_log.specs.Decisions.{learnt}
use Rattle.slot_log.specs.Books.{SlotBook}
use Rattle.replica.specs.Replicas.{tells}
use Rattle.node.specs.Nodes.{NodeState, members_of, number_of}
use Rattle.node.specs.Deeds.{led}
use Rattle.node.specs.Receiving.{Receives, promises_ballot, accepts_pvalue, hears_promise, hears_vote, hears_proposal}
use Rattle.node.specs.Receiving.{learns, tells_decisions, ShowsNode, ShowsReceived}
use Rattle.ballot.specs.OrderLaws.{BallotLaws}
use Rattle.node.proofs.Keeping.{keeps_p1a, keeps_p2a, reports}

module _ {C : Type 0} (m : ℕ) (v k : NodeState C) (is : v ≡ k) where
  shown_of : (x : NodeState C) → ShowsNode k x → ShowsNode v x
  shown_of x shows = subst (λ y. ShowsNode y x) (sym is) shows

  -- they have one number
  same_number : (x : NodeState C) → ShowsNode v x → number_of v ≡ number_of x
  same_number x shown = ap (λ l. l.ballot.node) shown.leader

  pub received_p1a : (laws : BallotLaws) (n : ℕ) (z : Acceptances C) (b promised : Numbers) (report : List (Pvalue C))
      (before now : List (Letter C)) → n ≡ number_of v → z ≡ after_p1a v.acceptor b
      → promised ≡ higher v.acceptor.promised b → IsReport v.acceptor.accepted report
      → now ≡ before ++ (letter n (P1b promised report) m ∷ [])
      → ShowsReceived m k (P1a b) (record v { acceptor = z }) before now
  received_p1a laws n z b promised report before now own new same whole sent = λ x shows. let shown = shown_of x shows in (
    record x { acceptor = after_p1a x.acceptor b },
    record {
      acceptor = subst (Keeps (after_p1a x.acceptor b)) (sym new) (keeps_p1a x.acceptor v.acceptor b shown.acceptor);
      boot = shown.boot;
      leader = shown.leader;
      replica = shown.replica;
    },
    (
      letter (number_of x) (P1b (higher x.acceptor.promised b) report) m ∷ [],
      promises_ballot b report (reports laws x.acceptor v.acceptor report shown.acceptor whole),
      sent ∙ ap₂ (λ a p. before ++ (letter a (P1b p report) m ∷ [])) (own ∙ same_number x shown) (same ∙ ap (λ o. higher o b) shown.acceptor.promised),
    ),
  )

  -- the acceptor's vote: the promised ballot is v's, and z keeps enough of what is accepted now
  pub received_p2a : (laws : BallotLaws) (n : ℕ) (z : Acceptances C) (p : Pvalue C) (promised : Option Numbers)
      (before now : List (Letter C)) → n ≡ number_of v → Keeps (after_p2a v.acceptor p) z
      → promised ≡ v.acceptor.promised → now ≡ before ++ (letter n (P2b promised p.slot p.ballot) m ∷ [])
      → ShowsReceived m k (P2a p) (record v { acceptor = z }) before now
  received_p2a laws n z p promised before now own kept same sent = λ x shows. let shown = shown_of x shows in (
    record x { acceptor = after_p2a x.acceptor p },
    record {
      acceptor = keeps_p2a laws x.acceptor v.acceptor z p shown.acceptor kept;
      boot = shown.boot;
      leader = shown.leader;
      replica = shown.replica;
    },
    (
      letter (number_of x) (P2b x.acceptor.promised p.slot p.ballot) m ∷ [],
      accepts_pvalue p,
      sent ∙ ap₂ (λ a o. before ++ (letter a (P2b o p.slot p.ballot) m ∷ [])) (own ∙ same_number x shown) (same ∙ shown.acceptor.promised),
    ),
  )

  -- what its leader did
  received_led : (d : Leading C → Done (Leading C) C) (l : Leading C) (body : LetterBody C)
      (before now : List (Letter C)) → l ≡ (d v.leader).state → Sends v.leader (d v.leader).says before now
      → ((x : NodeState C) → v.leader ≡ x.leader
      → Receives (members_of x) m (number_of x) x body (led x (d x.leader))
      (all_to_all (members_of x) (number_of x) (d x.leader).says))
      → ShowsReceived m k body (record v { leader = l }) before now
  received_led d l body before now new sends receives = λ x shows. let shown = shown_of x shows in (
    led x (d x.leader),
    record {
      acceptor = shown.acceptor;
      boot = shown.boot;
      leader = new ∙ ap (λ y. (d y).state) shown.leader;
      replica = shown.replica;
    },
    (
      all_to_all (members_of x) (number_of x) (d x.leader).says,
      receives x shown.leader,
      sends ∙ ap (λ y. before ++ all_to_all y.members y.ballot.node (d y).says) shown.leader,
    ),
  )

  pub received_p1b : (l : Leading C) (b : Numbers) (report : List (Pvalue C)) (before now : List (Letter C))
      → HearsP1b v.leader m b report l before now
      → ShowsReceived m k (P1b b report) (record v { leader = l }) before now
  received_p1b l b report before now h =
      received_led (λ y. promises.on_p1b y m b h.fresh l.proposals) l (P1b b report) before now h.state h.out
      (λ x leads. hears_promise b report h.fresh l.proposals (subst (λ y. Hears y m b report h.fresh l.proposals) leads h.hears))

  pub received_p2b : (l : Leading C) (b : Option Numbers) (s : ℕ) (by : Numbers) (before now : List (Letter C))
      → l ≡ (votes.on_p2b v.leader m b s by).state → Sends v.leader (votes.on_p2b v.leader m b s by).says before now
      → ShowsReceived m k (P2b b s by) (record v { leader = l }) before now
  received_p2b l b s by before now new sends = received_led (λ y. votes.on_p2b y m b s by) l (P2b b s by) before now new sends (λ x leads. hears_vote b s by)

  pub received_proposal : (l : Leading C) (s : ℕ) (c : C) (before now : List (Letter C))
      → l ≡ (on_propose v.leader s c).state → Sends v.leader (on_propose v.leader s c).says before now
      → ShowsReceived m k (Propose s c) (record v { leader = l }) before now
  received_proposal l s c before now new sends = received_led (λ y. on_propose y s c) l (Propose s c) before now new sends (λ x leads. hears_proposal s c)

  pub received_decision : (book : SlotBook C) (s : ℕ) (c : C) (before : List (Letter C)) → book ≡ learnt v.replica s c
      → ShowsReceived m k (Decision s c) (record v { replica = book }) before before
  received_decision book s c before new = λ x shows. let shown = shown_of x shows in (
    record x { replica = learnt x.replica s c },
    record {
      acceptor = shown.acceptor;
      boot = shown.boot;
      leader = shown.leader;
      replica = new ∙ ap (λ b. learnt b s c) shown.replica;
    },
    (
      [],
      learns s c,
      sym (append-nil before),
    ),
  )

  pub received_ask : (s n : ℕ) (before now : List (Letter C)) → n ≡ number_of v
      → now ≡ before ++ map (λ b. letter n b m) (tells v.replica s) → ShowsReceived m k (Ask s) k before now
  received_ask s n before now own sent = λ x shows. let shown = shown_of x shows in (
    x,
    shows,
    (
      map (λ b. letter (number_of x) b m) (tells x.replica s),
      tells_decisions s,
      sent ∙ ap₂ (λ a r. before ++ map (λ b. letter a b m) (tells r s)) (own ∙ same_number x shown) shown.replica,
    ),
  )
