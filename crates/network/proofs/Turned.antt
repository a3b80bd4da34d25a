-- A network after one of its nodes did something.
use Rattle.std.proofs.Common.{◌≡◌, Bool, false, cond, map, ℕ, ◌-◌, ◌<◌, ◌≤◌, true, List, [], ◌++◌}
use Rattle.std.proofs.Common.{length, Result, Ok, Err, sym, ap, ◌∙◌, subst, arith, length-set}
use Rattle.std.specs.Prelude.{slice_index_or, slice_set, OnErr, nat_le, not, ◌==◌, ◌^◌}
use Rattle.std.proofs.lemmas.List.{append-nil}
use Rattle.ballot.specs.declared.letter.Letter.{Letter}
use Rattle.ballot.specs.declared.letter.LetterBody.{LetterBody}
use Rattle.ballot.specs.Letters.{letter, all_to_all}
use Rattle.ballot.specs.Members.{is_member, numbers}
use Rattle.node.specs.Nodes.{NodeState, IsSeated, node_in}
use Rattle.node.specs.PlaceLaws.{node_at, put_at}
use Rattle.std.specs.List.{filter}
use Rattle.ballot.specs.declared.letter.LetterBody.TheVariants.{Ask}
use Rattle.leader.specs.Leaders.{says_again}
use Rattle.replica.specs.Replicas.{proposes_again, asks_others, nudges}
use Rattle.node.specs.Deeds.{said_again}
use Rattle.network.specs.Networks.{NetworkState, node_of, mail_of, posted, turned_net}
use Rattle.network.specs.Posting.{IsAmong, IsBetween, AreBetween, IsNetwork, on_way}
use Rattle.network.specs.MailLaws.{of_filter}
use Rattle.network.proofs.Sent.{of_map, among_numbers, member_bounds, sent_to_all}
use Rattle.network.proofs.Posts.{both_posted, between_append, set_again}
use Rattle.network.proofs.Seats.{seats_stay}

pub on_err : {T E Q : Type 0} (r : Result T E) → Q → OnErr r Q
on_err (Ok x) q = tt
on_err (Err e) q = q

-- what is sent to all is between members
pub all_between : {C : Type 0} (members : List ℕ) (n : ℕ) (bodies : List (LetterBody C)) (count : ℕ)
    → count ≡ length members → is_member members n ≡ true → AreBetween count (all_to_all members n bodies)
all_between members n bodies count same member = λ l at. subst (λ z. IsBetween z l) (sym same) (sent_to_all members n bodies member l at)

asks_between : {C : Type 0} (members : List ℕ) (n s count : ℕ) (test : Bool) → count ≡ length members
    → is_member members n ≡ true → AreBetween {C = C} count
    (cond test (map (letter n (Ask s)) (filter (λ m. not (m == n)) (numbers members))) [])
asks_between {C} members n s count true same member = λ l at.
    let sent = of_map (letter n (Ask s)) l (filter (λ m. not (m == n)) (numbers members)) at in
    subst (λ z. IsBetween z l) (sym same)
    (subst (IsBetween (length members)) (sym sent.2)
    (record {
      sender = member_bounds members n member;
      receiver =
          among_numbers members sent.0 (of_filter (λ m. not (m == n)) sent.0 (numbers members) sent.1).0;
    }))
asks_between members n s count false same member = λ l at. absurd at

-- what a node says again is between members
pub again_between : {C : Type 0} (members : List ℕ) (n : ℕ) (x : NodeState C) (count : ℕ) → count ≡ length members
    → is_member members n ≡ true → AreBetween count (said_again members n x)
again_between members n x count same member =
    between_append count (all_to_all members n (says_again x.leader)) (nudges members n x.replica)
    (all_between members n (says_again x.leader) count same member)
    (between_append count (all_to_all members n (proposes_again x.replica)) (asks_others members n x.replica.slot_out)
    (all_between members n (proposes_again x.replica) count same member)
    (asks_between members n x.replica.slot_out count (nat_le x.replica.slot_out (2 ^ 62)) same member))

pub none_between : {C : Type 0} (count : ℕ) → AreBetween {C = C} count []
none_between count = λ l at. absurd at

-- what a network with these fields is seen as
abbrev pub seen : {C : Type 0} → List ℕ → List (NodeState C) → List (List (Letter C)) → List (Letter C) → NetworkState C
seen members nodes mails fresh = record { members = members; nodes = nodes; mails = posted fresh mails }

-- these fields are a network's that is seen as k, and p is the place of its member n
pub record IsPlace {C : Type 0} (members : List ℕ) (nodes : List (NodeState C)) (mails : List (List (Letter C)))
    (fresh : List (Letter C)) (k : NetworkState C) (n p : ℕ) : Type 0 where
  pub whole : IsNetwork members nodes mails fresh
  pub is : seen members nodes mails fresh ≡ k
  pub place : p ≡ n - 1
  pub member : is_member k.members n ≡ true

pub at_place : {C : Type 0} {members : List ℕ} {nodes : List (NodeState C)} {mails : List (List (Letter C))}
    {fresh : List (Letter C)} {k : NetworkState C} {n p : ℕ} → IsNetwork members nodes mails fresh
    → seen members nodes mails fresh ≡ k → p ≡ n - 1 → is_member k.members n ≡ true
    → IsPlace members nodes mails fresh k n p
at_place whole is place member = record { whole = whole; is = is; place = place; member = member }

module _ {C : Type 0} {members : List ℕ} {nodes : List (NodeState C)} {mails : List (List (Letter C))}
    {fresh : List (Letter C)} {k : NetworkState C} {n p : ℕ} (h : IsPlace members nodes mails fresh k n p) where
  pub own_member : is_member members n ≡ true
  own_member = ap (λ z. is_member z.members n) h.is ∙ h.member

  pub low : 1 ≤ n
  low = (member_bounds members n own_member).0

  -- the place is one of the nodes, and of the mails
  pub within_nodes : p < length nodes
  within_nodes = let b = member_bounds members n own_member in omega (arith, h.place, b.0, b.1, h.whole.has_nodes)

  pub within_mails : p < length mails
  within_mails = let b = member_bounds members n own_member in omega (arith, h.place, b.0, b.1, h.whole.has_mails)

  -- it has a mail
  pub among_mails : IsAmong (length mails) n
  among_mails = subst (λ c. IsAmong c n) (sym h.whole.has_mails) (member_bounds members n own_member)

  module _ (y : NodeState C) (at : y ≡ slice_index_or nodes p y) where
    own_node : y ≡ node_in members nodes n
    own_node = node_at members nodes n y low (omega (arith, (member_bounds members n own_member).1, h.whole.has_nodes))
        (at ∙ ap (λ j. slice_index_or nodes j y) h.place)

    -- what is read there is the node
    pub node_read : y ≡ node_of k n
    node_read = own_node ∙ ap (λ z. node_of z n) h.is

    pub node_seated : IsSeated members n y
    node_seated = subst (IsSeated members n) (sym own_node) (h.whole.seated n own_member)

    -- nothing happened
    pub turned_not : (x : NodeState C) (now : List (Letter C)) → x ≡ y → now ≡ fresh → seen members (slice_set nodes p x) mails now ≡ k
    turned_not x now same none =
        (λ i. seen members ((ap (slice_set nodes p) same ∙ set_again nodes p y at) i) mails (none i)) ∙ h.is

  -- whatever becomes of the mails becomes of the network
  pub with_mails : (mails' : List (List (Letter C))) (fresh' : List (Letter C)) (now : List (List (Letter C)))
      → posted fresh' mails' ≡ now → seen members nodes mails' fresh' ≡ record k { mails = now }
  with_mails mails' fresh' now same = λ i. record {
    members = ap (λ z. z.members) h.is i;
    nodes = ap (λ z. z.nodes) h.is i;
    mails = same i;
  }

  -- what is on its way to the node
  pub on_way_is : on_way mails fresh n ≡ mail_of k n
  on_way_is = ap (λ z. mail_of z n) h.is

  -- node n became x, and sent letters
  pub turned_by : (x : NodeState C) (now out : List (Letter C)) → now ≡ fresh ++ out → seen members (slice_set nodes p x) mails now ≡ turned_net k n x out
  turned_by x now out sent =
      (λ i. record {
        members = members;
        nodes = (ap (λ j. slice_set nodes j x) h.place ∙ put_at nodes n x low) i;
        mails = (ap (λ z. posted z mails) sent ∙ both_posted 1 fresh out mails) i;
      })
      ∙ ap (λ z. turned_net z n x out) h.is

  -- the fields stay a network's
  pub stays_whole : (x : NodeState C) (now out : List (Letter C)) → IsSeated members n x → now ≡ fresh ++ out
      → AreBetween (length members) out → IsNetwork members (slice_set nodes p x) mails now
  stays_whole x now out seated sent between = record {
    has_nodes = length-set nodes p x ∙ h.whole.has_nodes;
    has_mails = h.whole.has_mails;
    seated = seats_stay members nodes n p x h.place low within_nodes h.whole.seated seated;
    post = record {
      mailed = h.whole.post.mailed;
      unsorted = subst (AreBetween (length mails)) (sym sent)
          (between_append (length mails) fresh out h.whole.post.unsorted
          (subst (λ c. AreBetween c out) (sym h.whole.has_mails) between));
    };
  }

  pub stays_quiet : (y x : NodeState C) (now : List (Letter C)) → y ≡ slice_index_or nodes p y → x ≡ y → now ≡ fresh
      → IsNetwork members (slice_set nodes p x) mails now
  stays_quiet y x now at same none =
      stays_whole x now [] (subst (IsSeated members n) (sym same) (node_seated y at)) (none ∙ sym (append-nil fresh)) (none_between (length members))
