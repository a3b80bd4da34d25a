-- Talk of ballots and votes: a promise and a vote that are asked for and come back.
use Rattle.std.proofs.Common.{◌≡◌, ◌≢◌, ⊎_elim, ℕ, zero, suc, ◌+◌, true, List, [], ◌∷◌, ◌++◌, length, Some, refl, sym, ap, ap₂, ◌∙◌, subst, arith}
use Rattle.std.specs.Prelude.{slice_get}
use Rattle.std.proofs.lemmas.Bool.{cases_eq}
use Rattle.object.specs.Lists.{IsBeginning}
use Rattle.object.specs.declared.command.Command.{Command}
use Rattle.object.specs.Objects.{Rules}
use Rattle.ballot.specs.Ballots.{Numbers, higher}
use Rattle.ballot.specs.Letters.{letter}
use Rattle.ballot.specs.Members.{is_member}
use Rattle.ballot.specs.OrderLaws.{BallotLaws}
use Rattle.ballot.specs.Slots.{Slots}
use Rattle.ballot.specs.declared.pvalue.Pvalue.{Pvalue}
use Rattle.ballot.specs.declared.letter.Letter.{Letter}
use Rattle.ballot.specs.declared.letter.LetterBody.{LetterBody}
use Rattle.ballot.specs.declared.letter.LetterBody.TheVariants.{P1a, P1b, P2a, P2b}
use Rattle.acceptor.specs.Acceptors.{after_p1a, after_p2a}
use Rattle.leader.specs.Promises.{Hears}
use Rattle.leader.specs.Promises as promises
use Rattle.leader.specs.Votes as votes
use Rattle.node.specs.Nodes.{NodeState}
use Rattle.node.specs.Deeds.{led}
use Rattle.agreement.specs.Nodes.{node, turned}
use Rattle.agreement.specs.Worlds.{World}
use Rattle.agreement.specs.Steps.{Step, counted, with_cluster}
use Rattle.agreement.specs.declared.event.Event.TheVariants as events
use Rattle.agreement.proofs.chosen.Growing.{beginning_trans, same_beginning}
use Rattle.agreement.proofs.chosen.Invariants.{IsSound}
use Rattle.agreement.proofs.chosen.Reach.{step_sound}
use Rattle.agreement.proofs.chosen.Turns.{here, there}
use Rattle.world.specs.WaysOut.{first_leader, IsTalk}
use Rattle.world.proofs.rounds.Hearing.{received, p1a_received, p1b_received, p2a_received, p2b_received}
use Rattle.world.proofs.leading.LeaderCases.{Covers}

-- what stands in a list stands in one that goes on
pub still_at : {A : Type 0} (xs more : List A) (i : ℕ) (x : A) → slice_get xs i ≡ Some x → slice_get (xs ++ more) i ≡ Some x
still_at [] more i x e = absurd (cc)
still_at (y ∷ xs) more zero x e = e
still_at (y ∷ xs) more (suc i) x e = still_at xs more i x e

pub last_at : {A : Type 0} (xs : List A) (x : A) (more : List A) → slice_get (xs ++ (x ∷ more)) (length xs) ≡ Some x
last_at [] x more = refl
last_at (y ∷ xs) x more = last_at xs x more

pub talk_itself : {Op Reply : Type 0} (w : World Op Reply) → IsTalk w w
talk_itself w = record {
  members = refl;
  replicas = λ n. refl;
  happenings = refl;
  reach = refl;
  letters =
      same_beginning w.cluster.letters w.cluster.letters refl;
  covers = λ s there. there;
}

pub talk_on : {Op Reply : Type 0} (w u v : World Op Reply) → IsTalk w u → IsTalk u v → IsTalk w v
talk_on w u v a b = record {
  members = b.members ∙ a.members;
  replicas = λ n. b.replicas n ∙ a.replicas n;
  happenings = b.happenings ∙ a.happenings;
  reach = b.reach ∙ a.reach;
  letters = beginning_trans w.cluster.letters u.cluster.letters v.cluster.letters a.letters b.letters;
  covers = λ s there. b.covers s (a.covers s there);
}

module _ (laws : BallotLaws) {Op Reply : Type 0} (w : World Op Reply) (i : IsSound w.cluster) (n : ℕ)
    (member : is_member w.cluster.members n ≡ true) (x : NodeState (Command Op))
    (out : List (Letter (Command Op))) where
  -- what is so of the node that turned, and of the others, is so of each
  pub at_each : (P : ℕ → NodeState (Command Op) → Type 0) → P n x → ((j : ℕ) → j ≢ n → P j (node w.cluster j)) → (j : ℕ)
      → P j (node (turned w.cluster n x out) j)
  at_each P own other j = ⊎_elim
      (λ (e : j ≡ n). subst (λ z. P z (node (turned w.cluster n x out) z)) (sym e) (subst (P n) (sym (here laws w.cluster i n member x out)) own))
      (λ (apart : j ≢ n). subst (P j) (sym (there laws w.cluster i n member x out j apart)) (other j apart))
      (cases_eq j n)

  pub turn_talks : x.replica ≡ (node w.cluster n).replica
      → (n ≡ 1 → Covers (node w.cluster n).leader.proposals x.leader.proposals)
      → IsTalk w (counted (with_cluster w (turned w.cluster n x out)))
  turn_talks same covers = record {
    members = refl;
    replicas = at_each (λ j y. y.replica ≡ (node w.cluster j).replica) same (λ j apart. refl);
    happenings = refl;
    reach = refl;
    letters = (out, refl);
    covers = at_each (λ j y. j ≡ 1 → Covers (node w.cluster j).leader.proposals y.leader.proposals) covers (λ j apart one s there. there) 1 refl;
  }

-- node 1 asked something, and was answered: but for acceptors and leaders all stays, and letters go on
pub record IsExchange {Op Reply : Type 0} (w v : World Op Reply) : Type 0 where
  pub members : v.cluster.members ≡ w.cluster.members
  pub replicas : (n : ℕ) → (node v.cluster n).replica ≡ (node w.cluster n).replica
  pub happenings : v.happenings ≡ w.happenings
  pub reach : v.reach ≡ w.reach
  pub letters : IsBeginning w.cluster.letters v.cluster.letters
  pub count : v.taken ≡ w.taken + 2

pub exchange_talks : {Op Reply : Type 0} {w v : World Op Reply} → IsExchange w v
    → Covers (first_leader w.cluster).proposals (first_leader v.cluster).proposals → IsTalk w v
exchange_talks e covers = record {
  members = e.members;
  replicas = e.replicas;
  happenings = e.happenings;
  reach = e.reach;
  letters = e.letters;
  covers = covers;
}

-- a promise that node 1 asked of m, and heard
pub record AsksPromise {Op Reply : Type 0} (w v : World Op Reply) (m : ℕ) (b : Numbers) : Type 0 where
  pub report : List (Pvalue (Command Op))
  pub fresh : List (Pvalue (Command Op))
  pub taken : Slots (Command Op)
  pub promised : (node v.cluster m).acceptor.promised ≡ Some (higher (node w.cluster m).acceptor.promised b)
  pub others : (j : ℕ) → j ≢ m → (node v.cluster j).acceptor.promised ≡ (node w.cluster j).acceptor.promised
  pub hears : Hears (first_leader w.cluster) m (higher (node w.cluster m).acceptor.promised b) report fresh taken
  pub leader : first_leader v.cluster ≡ (promises.on_p1b (first_leader w.cluster) m (higher (node w.cluster m).acceptor.promised b) fresh taken).state
  pub exchange : IsExchange w v

-- and a vote
pub record AsksVote {Op Reply : Type 0} (w v : World Op Reply) (m : ℕ) (p : Pvalue (Command Op)) : Type 0 where
  pub promised : (j : ℕ) → (node v.cluster j).acceptor.promised ≡ (node w.cluster j).acceptor.promised
  pub leader : first_leader v.cluster ≡ (votes.on_p2b (first_leader w.cluster) m (node w.cluster m).acceptor.promised p.slot p.ballot).state
  pub exchange : IsExchange w v

module _ (laws : BallotLaws) {O Op Reply : Type 0} (rules : Rules O Op Reply) (w u v : World Op Reply)
    (i : IsSound w.cluster) (first : is_member w.cluster.members 1 ≡ true) (m : ℕ)
    (member : is_member w.cluster.members m ≡ true) where
  -- node m received a letter of node 1, became x and answered, and node 1 received the answer and became y
  module _ (x : NodeState (Command Op)) (body : LetterBody (Command Op)) (is : u ≡ counted (with_cluster w (turned w.cluster m x (letter m body 1 ∷ []))))
      (y : NodeState (Command Op)) (out : List (Letter (Command Op)))
      (next : v ≡ counted (with_cluster u (turned u.cluster 1 y out))) (sound : IsSound u.cluster) where
    middle : (P : World Op Reply → Type 0) → P (counted (with_cluster w (turned w.cluster m x (letter m body 1 ∷ [])))) → P u
    middle P h = subst P (sym is) h

    last : (P : World Op Reply → Type 0) → P (counted (with_cluster u (turned u.cluster 1 y out))) → P v
    last P h = subst P (sym next) h

    same_members : u.cluster.members ≡ w.cluster.members
    same_members = middle (λ z. z.cluster.members ≡ w.cluster.members) refl

    one : is_member u.cluster.members 1 ≡ true
    one = subst (λ ms. is_member ms 1 ≡ true) (sym same_members) first

    node_m : node u.cluster m ≡ x
    node_m = middle (λ z. node z.cluster m ≡ x) (here laws w.cluster i m member x (letter m body 1 ∷ []))

    node_other : (j : ℕ) → j ≢ m → node u.cluster j ≡ node w.cluster j
    node_other j apart = middle (λ z. node z.cluster j ≡ node w.cluster j) (there laws w.cluster i m member x (letter m body 1 ∷ []) j apart)

    -- what node m keeps of its leader and its replica
    pub leader_between : x.leader ≡ (node w.cluster m).leader → first_leader u.cluster ≡ first_leader w.cluster
    leader_between same = ⊎_elim
        (λ (e : 1 ≡ m). subst (λ j. (node u.cluster j).leader ≡ (node w.cluster j).leader) (sym e) (ap (λ z. z.leader) node_m ∙ same))
        (λ (apart : 1 ≢ m). ap (λ z. z.leader) (node_other 1 apart))
        (cases_eq 1 m)

    pub leader_after : first_leader v.cluster ≡ y.leader
    leader_after = last (λ z. first_leader z.cluster ≡ y.leader) (ap (λ z. z.leader) (here laws u.cluster sound 1 one y out))

    pub promised_after : y.acceptor ≡ (node u.cluster 1).acceptor → (j : ℕ) → (node v.cluster j).acceptor ≡ (node u.cluster j).acceptor
    promised_after same j = last (λ z. (node z.cluster j).acceptor ≡ (node u.cluster j).acceptor)
        (at_each laws u sound 1 one y out (λ k z. z.acceptor ≡ (node u.cluster k).acceptor) same (λ k apart. refl) j)

    pub promised_between : (j : ℕ) → j ≢ m → (node u.cluster j).acceptor ≡ (node w.cluster j).acceptor
    promised_between j apart = ap (λ z. z.acceptor) (node_other j apart)

    pub promised_own : (node u.cluster m).acceptor ≡ x.acceptor
    promised_own = ap (λ z. z.acceptor) node_m

    pub exchanged : x.replica ≡ (node w.cluster m).replica → y.replica ≡ (node u.cluster 1).replica → IsExchange w v
    exchanged same again = record {
      members = last (λ z. z.cluster.members ≡ u.cluster.members) refl ∙ same_members;
      replicas = λ n.
          last (λ z. (node z.cluster n).replica ≡ (node u.cluster n).replica)
          (at_each laws u sound 1 one y out (λ k z. z.replica ≡ (node u.cluster k).replica) again (λ k apart. refl) n)
          ∙ middle (λ z. (node z.cluster n).replica ≡ (node w.cluster n).replica)
          (at_each laws w i m member x (letter m body 1 ∷ []) (λ k z. z.replica ≡ (node w.cluster k).replica) same
          (λ k apart. refl) n);
      happenings = last (λ z. z.happenings ≡ u.happenings) refl ∙ middle (λ z. z.happenings ≡ w.happenings) refl;
      reach = last (λ z. z.reach ≡ u.reach) refl ∙ middle (λ z. z.reach ≡ w.reach) refl;
      letters = beginning_trans w.cluster.letters u.cluster.letters v.cluster.letters
          (letter m body 1 ∷ [], middle (λ z. z.cluster.letters ≡ w.cluster.letters ++ (letter m body 1 ∷ [])) refl)
          (out, last (λ z. z.cluster.letters ≡ u.cluster.letters ++ out) refl);
      count = last (λ z. z.taken ≡ u.taken + 1) refl ∙ ap (λ t. t + 1) (middle (λ z. z.taken ≡ w.taken + 1) refl) ∙ omega arith;
    }

  reply_at : (x : NodeState (Command Op)) (body : LetterBody (Command Op))
      → u ≡ counted (with_cluster w (turned w.cluster m x (letter m body 1 ∷ [])))
      → slice_get u.cluster.letters (length w.cluster.letters) ≡ Some (letter m body 1)
  reply_at x body is = subst (λ (z : World Op Reply). slice_get z.cluster.letters (length w.cluster.letters)
      ≡ Some (letter m body 1)) (sym is) (last_at w.cluster.letters (letter m body 1) [])

  -- a promise is asked of m, and node 1 hears the answer
  pub asks_promise : (b : Numbers) (j : ℕ) → slice_get w.cluster.letters j ≡ Some (letter 1 (P1a b) m)
      → Step rules w (events.Deliver j) u → Step rules u (events.Deliver (length w.cluster.letters)) v → AsksPromise w v m b
  asks_promise b j at there back =
      let a = received rules w u j (letter 1 (P1a b) m) at there in
      let p = p1a_received w.cluster.members 1 m (node w.cluster m) b a.state a.sent a.receives in
      let x = record (node w.cluster m) { acceptor = after_p1a (node w.cluster m).acceptor b } in
      let body = P1b (higher (node w.cluster m).acceptor.promised b) p.0 in
      let is : u ≡ counted (with_cluster w (turned w.cluster m x (letter m body 1 ∷ []))) =
      a.is ∙ ap₂ (λ s o. counted (with_cluster w (turned w.cluster m s o))) p.2 p.3 in
      let r = received rules u v (length w.cluster.letters) (letter m body 1) (reply_at x body is) back in
      let q = p1b_received u.cluster.members m 1 (node u.cluster 1) (higher (node w.cluster m).acceptor.promised b) p.0 r.state r.sent r.receives in
      let sound = (step_sound laws rules w (events.Deliver j) u i there).sound in
      let y = led (node u.cluster 1) (promises.on_p1b (node u.cluster 1).leader m (higher (node w.cluster m).acceptor.promised b) q.0 q.1) in
      let next : v ≡ counted (with_cluster u (turned u.cluster 1 y r.sent)) = r.is ∙ ap (λ s. counted (with_cluster u (turned u.cluster 1 s r.sent))) q.3 in
      let same = leader_between x body is y r.sent next sound refl in
      record {
        report = p.0;
        fresh = q.0;
        taken = q.1;
        promised = ap (λ z. z.promised) (promised_after x body is y r.sent next sound refl m ∙ promised_own x body is y r.sent next sound);
        others = λ k apart. ap (λ z. z.promised) (promised_after x body is y r.sent next sound refl k ∙ promised_between x body is y r.sent next sound k apart);
        hears = subst (λ l. Hears l m (higher (node w.cluster m).acceptor.promised b) p.0 q.0 q.1) same q.2;
        leader = leader_after x body is y r.sent next sound ∙ ap
            (λ l. (promises.on_p1b l m (higher (node w.cluster m).acceptor.promised b) q.0 q.1).state) same;
        exchange = exchanged x body is y r.sent next sound refl refl;
      }

  -- and a vote
  pub asks_vote : (p : Pvalue (Command Op)) (j : ℕ) → slice_get w.cluster.letters j ≡ Some (letter 1 (P2a p) m)
      → Step rules w (events.Deliver j) u → Step rules u (events.Deliver (length w.cluster.letters)) v → AsksVote w v m p
  asks_vote p j at there back =
      let a = received rules w u j (letter 1 (P2a p) m) at there in
      let h = p2a_received w.cluster.members 1 m (node w.cluster m) p a.state a.sent a.receives in
      let x = record (node w.cluster m) { acceptor = after_p2a (node w.cluster m).acceptor p } in
      let body = P2b (node w.cluster m).acceptor.promised p.slot p.ballot in
      let is : u ≡ counted (with_cluster w (turned w.cluster m x (letter m body 1 ∷ []))) =
      a.is ∙ ap₂ (λ s o. counted (with_cluster w (turned w.cluster m s o))) h.0 h.1 in
      let r = received rules u v (length w.cluster.letters) (letter m body 1) (reply_at x body is) back in
      let q = p2b_received u.cluster.members m 1 (node u.cluster 1) (node w.cluster m).acceptor.promised p.slot p.ballot r.state r.sent r.receives in
      let sound = (step_sound laws rules w (events.Deliver j) u i there).sound in
      let y = led (node u.cluster 1) (votes.on_p2b (node u.cluster 1).leader m (node w.cluster m).acceptor.promised p.slot p.ballot) in
      let next : v ≡ counted (with_cluster u (turned u.cluster 1 y r.sent)) = r.is ∙ ap (λ s. counted (with_cluster u (turned u.cluster 1 s r.sent))) q.0 in
      let same = leader_between x body is y r.sent next sound refl in
      record {
        promised = λ k. ap (λ z. z.promised) (promised_after x body is y r.sent next sound refl k)
            ∙ ⊎_elim
            (λ (e : k ≡ m). subst (λ n. (node u.cluster n).acceptor.promised ≡ (node w.cluster n).acceptor.promised)
            (sym e) (ap (λ z. z.promised) (promised_own x body is y r.sent next sound)))
            (λ (apart : k ≢ m). ap (λ z. z.promised) (promised_between x body is y r.sent next sound k apart))
            (cases_eq k m);
        leader = leader_after x body is y r.sent next sound ∙ ap (λ l. (votes.on_p2b l m (node w.cluster m).acceptor.promised p.slot p.ballot).state) same;
        exchange = exchanged x body is y r.sent next sound refl refl;
      }
