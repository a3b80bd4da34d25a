-- A leader's turn, or a replica's, that keeps the invariant: what each row has to show.
use Rattle.std.proofs.Common.{◌≡◌, ◌⊎◌, inl, inr, ℕ, ◌<◌, Bool, true, false, cond, List, [], ◌∷◌, Some, refl}
use Rattle.std.specs.FinMap.{get}
use Rattle.object.specs.Lists.{In}
use Rattle.ballot.specs.Members.{is_member, numbers}
use Rattle.ballot.specs.declared.pvalue.Pvalue.{Pvalue}
use Rattle.ballot.specs.declared.letter.LetterBody.{LetterBody}
use Rattle.ballot.specs.declared.letter.Letter.{Letter}
use Rattle.ballot.specs.declared.letter.LetterBody.TheVariants.{P2a}
use Rattle.ballot.specs.Letters.{letter, to_all, all_to_all}
use Rattle.leader.specs.Leaders.{Leading, Done, silently}
use Rattle.slot_log.specs.Books.{SlotBook}
use Rattle.node.specs.Nodes.{NodeState}
use Rattle.agreement.specs.Nodes.{Cluster, node, turned}
use Rattle.agreement.specs.Steps.{leader_turn, replica_turn}
use Rattle.agreement.specs.Chosen.{IsChosen}
use Rattle.object.specs.ListLaws.{Each, Each-at, Each-append, Each-map, Each-from, In-left, In-right, In-map}
use Rattle.agreement.proofs.chosen.Sets.{In-numbers, numbers_members}
use Rattle.ballot.specs.OrderLaws.{BallotLaws}
use Rattle.agreement.proofs.chosen.Invariants.{Asked, IsTrueOf, IsFair, IsLeading, IsNode, IsSound}
use Rattle.agreement.proofs.chosen.Grows.{Grows, stays, leader_stays, acceptor_stays, chosen_stays}
use Rattle.agreement.proofs.chosen.Turns.{Keeps, IsOwn, turn_sound, Kept}

pub Each-to_all : {C : Type 0} (P : Letter C → Type 0) (ws : List ℕ) (n : ℕ) (bodies : List (LetterBody C))
    → ((b : LetterBody C) → In b bodies → (m : ℕ) → is_member ws m ≡ true → P (letter n b m))
    → Each P (all_to_all ws n bodies)
Each-to_all P ws n [] h = tt
Each-to_all P ws n (b ∷ bs) h =
    Each-append P (to_all ws n b) (all_to_all ws n bs)
    (Each-map P (letter n b) (numbers ws) (Each-from (λ m. P (letter n b m)) (numbers ws) (λ m at. h b (inl refl) m (numbers_members ws m at))))
    (Each-to_all P ws n bs (λ c at m member. h c (inr at) m member))

pub In-to_all : {C : Type 0} (ws : List ℕ) (n : ℕ) (bodies : List (LetterBody C)) (b : LetterBody C)
    → is_member ws n ≡ true → In b bodies → In (letter n b n) (all_to_all ws n bodies)
In-to_all ws n [] b member i = absurd i
In-to_all ws n (c ∷ cs) b member (inl e) =
    In-left (letter n b n) (to_all ws n c) (all_to_all ws n cs)
    (Rattle.std.proofs.Common.subst (λ z. In (letter n b n) (to_all ws n z)) e
    (In-map (letter n b) n (numbers ws) (In-numbers ws n member)))
In-to_all ws n (c ∷ cs) b member (inr i) = In-right (letter n b n) (to_all ws n c) (all_to_all ws n cs) (In-to_all ws n cs b member i)

pub record IsGood {C : Type 0} (k : Cluster C) (n : ℕ) (x : NodeState C) (d : Done (Leading C) C) : Type 0 where
  pub owner : d.state.ballot.node ≡ n
  pub boot : d.state.ballot.boot ≡ x.boot
  pub moves : (x.leader.ballot.round < d.state.ballot.round) ⊎ Keeps x.leader d.state
  pub own : Each (IsOwn d.state) d.says
  pub fine : (z : Cluster C) → Grows k z → ((p : Pvalue C) → In (P2a p) d.says → Asked z.letters p) → IsLeading z d.state
  pub true_says : (z : Cluster C) → Grows k z → Each (IsTrueOf z n) d.says

pub good_silent : (laws : BallotLaws) {C : Type 0} (k : Cluster C) (n : ℕ) (x : NodeState C) → IsNode k n x → IsGood k n x (silently x.leader)
good_silent laws k n x h = record {
  owner = h.owner;
  boot = h.boot;
  moves = inr (refl, (λ a. a), (λ s c a e. e));
  own = tt;
  fine = λ z g said. leader_stays laws k z g x.leader h.leader;
  true_says = λ z g. tt;
}

pub good_if : {C : Type 0} (k : Cluster C) (n : ℕ) (x : NodeState C) (d e : Done (Leading C) C) (test : Bool)
    → (test ≡ true → IsGood k n x d) → (test ≡ false → IsGood k n x e) → IsGood k n x (cond test d e)
good_if k n x d e true on off = on refl
good_if k n x d e false on off = off refl

pub leader_sound : (laws : BallotLaws) {C : Type 0} (k : Cluster C) (i : IsSound k) (n : ℕ)
    (member : is_member k.members n ≡ true) (d : Done (Leading C) C) → IsGood k n (node k n) d
    → Kept k (leader_turn k n d)
leader_sound laws {C} k i n member d good =
    turn_sound laws k i n member x out
    (stays x.acceptor)
    (inr (refl, good.moves))
    (Each-to_all (λ l. IsOwn d.state l.body) k.members n d.says (λ b at m to. Each-at (IsOwn d.state) d.says b good.own at))
    (λ g. record {
      owner = good.owner;
      boot = good.boot;
      acceptor = acceptor_stays k (turned k n x out) g x.acceptor (i.nodes n).acceptor;
      leader = good.fine (turned k n x out) g
          (λ p h. (
            letter n (P2a p) n,
            In-right (letter n (P2a p) n) k.letters out
                (In-to_all k.members n d.says (P2a p) member h),
            refl,
          ));
      decisions = λ s c e. chosen_stays k (turned k n x out) g s c ((i.nodes n).decisions s c e);
    })
    (λ g. Each-to_all (IsFair (turned k n x out)) k.members n d.says
    (λ b at m to. record {
      says = Each-at (IsTrueOf (turned k n x out) n) d.says b
          (good.true_says (turned k n x out) g) at;
      sender = member;
      receiver = to;
    }))
  where
    x : NodeState C
    x = record (node k n) { leader = d.state }

    out : List (Letter C)
    out = all_to_all k.members n d.says

-- a node whose replica alone has changed, or nothing
pub replica_sound : (laws : BallotLaws) {C : Type 0} (k : Cluster C) (i : IsSound k) (n : ℕ)
    (member : is_member k.members n ≡ true) (r : SlotBook C) (out : List (Letter C))
    → ((s : ℕ) (c : C) → get r.decisions s ≡ Some c → IsChosen k s c) → Each (λ l. IsOwn (node k n).leader l.body) out
    → ((z : Cluster C) → Grows k z → Each (IsFair z) out) → Kept k (replica_turn k n r out)
replica_sound laws {C} k i n member r out known own fair =
    turn_sound laws k i n member x out
    (stays x.acceptor)
    (inr (refl, inr (refl, (λ a. a), (λ s c a e. e))))
    own
    (λ g. record {
      owner = (i.nodes n).owner;
      boot = (i.nodes n).boot;
      acceptor = acceptor_stays k (turned k n x out) g x.acceptor (i.nodes n).acceptor;
      leader = leader_stays laws k (turned k n x out) g x.leader (i.nodes n).leader;
      decisions = λ s c e. chosen_stays k (turned k n x out) g s c (known s c e);
    })
    (λ g. fair (turned k n x out) g)
  where
    x : NodeState C
    x = record (node k n) { replica = r }
