-- A node at its place, and what it does.
use Rattle.std.proofs.Common.{◌≡◌, ℕ, ◌-◌, ◌<◌, true, List, [], ◌++◌, append-nil, map, length, Option, None, Some, refl, sym, ap, ◌∙◌, subst, arith}
use Rattle.std.specs.Prelude.{slice_index_or, slice_set}
use Rattle.std.proofs.lemmas.List.{map-set, length-map}
use Rattle.std.proofs.Math.ListN.{get_or-map}
use Rattle.object.specs.declared.command.Command.{Command}
use Rattle.object.specs.Objects.{Rules}
use Rattle.ballot.specs.Members.{is_member}
use Rattle.ballot.specs.declared.letter.Letter.{Letter}
use Rattle.node.specs.Nodes.{IsSeated, members_of, number_of}
use Rattle.node.specs.Deeds.{acted, performing, IsAble, ComesToNothing}
use Rattle.node.specs.Holding.{Holding, HeldTurn, performing_held, turned_held, own_turn_held, outcome_held}
use Rattle.node.specs.declared.deed.Deed.{Deed}
use Rattle.node.specs.declared.deed.Deed.TheVariants as deeds
use Rattle.slot_log.specs.Decisions.{next_decided}
use Rattle.network.specs.Networks.{posted}
use Rattle.network.specs.Posting.{IsPost, IsNetwork}
use Rattle.network.proofs.Posts.{both_posted, set_again}
use Rattle.network.proofs.Turned.{IsPlace, at_place, low, within_nodes, node_seated, stays_quiet}
use Rattle.network.proofs.Acting.{acted_whole}
use Rattle.network.proofs.Delivering.{sorted_whole}
use Rattle.lean_network.specs.LeanNetworks.{LeanState, states, lean_node_of, turned_lean, lean_turn_of, acted_lean}
use Rattle.lean_network.proofs.States.{state_of, lean_node_at, put_lean_at}

-- what a network with these fields is seen as
abbrev pub lean_seen : {Op O : Type 0} → List ℕ → List (Holding Op O) → List (List (Letter (Command Op))) → List (Letter (Command Op)) → LeanState Op O
lean_seen members nodes mails fresh = record { members = members; nodes = nodes; mails = posted fresh mails }

-- these fields are a network's that is seen as k, and p is the place of its member n
pub record IsLeanPlace {Op O : Type 0} (members : List ℕ) (nodes : List (Holding Op O)) (mails : List (List (Letter (Command Op))))
    (fresh : List (Letter (Command Op))) (k : LeanState Op O) (n p : ℕ) : Type 0 where
  pub whole : IsNetwork members (map state_of nodes) mails fresh
  pub is : lean_seen members nodes mails fresh ≡ k
  pub place : p ≡ n - 1
  pub member : is_member k.members n ≡ true

pub at_lean_place : {Op O : Type 0} {members : List ℕ} {nodes : List (Holding Op O)} {mails : List (List (Letter (Command Op)))}
    {fresh : List (Letter (Command Op))} {k : LeanState Op O} {n p : ℕ} → IsNetwork members (map state_of nodes) mails fresh
    → lean_seen members nodes mails fresh ≡ k → p ≡ n - 1 → is_member k.members n ≡ true
    → IsLeanPlace members nodes mails fresh k n p
at_lean_place whole is place member = record { whole = whole; is = is; place = place; member = member }

module _ {O Op Reply : Type 0} (rules : Rules O Op Reply) where
  performing_state : (h : Holding Op O) (o : Option (Command Op)) → (performing_held rules h o).state.state ≡ (performing rules h.state o).state
  performing_state h None = refl
  performing_state h (Some c) = refl

  performing_sent : (h : Holding Op O) (o : Option (Command Op)) → (performing_held rules h o).sent ≡ (performing rules h.state o).sent
  performing_sent h None = refl
  performing_sent h (Some c) = refl

  -- its state turns as that of a node that forgets nothing
  pub turned_state : (members : List ℕ) (n : ℕ) (h : Holding Op O) (d : Deed Op)
      → (turned_held rules members n h d).state.state ≡ (acted rules members n h.state d).state
  turned_state members n h (deeds.Request c) = refl
  turned_state members n h deeds.Wake = refl
  turned_state members n h deeds.Nudge = refl
  turned_state members n h deeds.Propose = refl
  turned_state members n h deeds.Perform = performing_state h (next_decided h.state.replica)
  turned_state members n h deeds.Restart = refl

  -- who performs sends nothing
  performs_silently : (h : Holding Op O) (o : Option (Command Op)) → (performing_held rules h o).sent ≡ []
  performs_silently h None = refl
  performs_silently h (Some c) = refl

  pub nothing_sent : (fresh : List (Letter (Command Op))) (h : Holding Op O) → fresh ≡ fresh ++ (own_turn_held rules h deeds.Perform).sent
  nothing_sent fresh h = sym (ap (λ z. fresh ++ z) (performs_silently h (next_decided h.state.replica)) ∙ append-nil fresh)

  pub turned_sent : (members : List ℕ) (n : ℕ) (h : Holding Op O) (d : Deed Op)
      → (turned_held rules members n h d).sent ≡ (acted rules members n h.state d).sent
  turned_sent members n h (deeds.Request c) = refl
  turned_sent members n h deeds.Wake = refl
  turned_sent members n h deeds.Nudge = refl
  turned_sent members n h deeds.Propose = refl
  turned_sent members n h deeds.Perform = performing_sent h (next_decided h.state.replica)
  turned_sent members n h deeds.Restart = refl

module _ {Op O : Type 0} {members : List ℕ} {nodes : List (Holding Op O)} {mails : List (List (Letter (Command Op)))}
    {fresh : List (Letter (Command Op))} {k : LeanState Op O} {n p : ℕ} (h : IsLeanPlace members nodes mails fresh k n p) where
  -- the same of the states
  pub place_of : IsPlace members (map state_of nodes) mails fresh (states k) n p
  place_of = at_place h.whole (ap states h.is) h.place h.member

  pub within_leans : p < length nodes
  within_leans = let there = within_nodes place_of in omega (arith, there, length-map nodes (state_of {Op = Op} {O = O}))

  -- whatever becomes of the mails becomes of the network
  pub with_mails : (mails' : List (List (Letter (Command Op)))) (fresh' : List (Letter (Command Op)))
      (now : List (List (Letter (Command Op)))) → posted fresh' mails' ≡ now
      → lean_seen members nodes mails' fresh' ≡ record k { mails = now }
  with_mails mails' fresh' now same = λ i. record {
    members = ap (λ z. z.members) h.is i;
    nodes = ap (λ z. z.nodes) h.is i;
    mails = same i;
  }

  -- the same network, sorted
  pub sorted_lean : (mails' : List (List (Letter (Command Op)))) (fresh' : List (Letter (Command Op)))
      → posted fresh' mails' ≡ posted fresh mails → length mails' ≡ length mails → IsPost mails' fresh'
      → IsLeanPlace members nodes mails' fresh' k n p
  sorted_lean mails' fresh' same size post = record {
    whole = sorted_whole h.whole mails' fresh' size post;
    is = (λ i. record { members = members; nodes = nodes; mails = same i }) ∙ h.is;
    place = h.place;
    member = h.member;
  }

  module _ (y : Holding Op O) (at : y ≡ slice_index_or nodes p y) where
    -- what is read there
    pub state_read : y.state ≡ slice_index_or (map state_of nodes) p y.state
    state_read = ap state_of at ∙ sym (get_or-map (state_of {Op = Op} {O = O}) nodes p y)

    pub lean_seated : IsSeated members n y.state
    lean_seated = node_seated place_of y.state state_read

    pub lean_read : {Reply : Type 0} (rules : Rules O Op Reply) → y ≡ lean_node_of rules k n
    lean_read rules =
        lean_node_at rules members nodes n y (low place_of)
        (let there = within_leans in let one = low place_of in omega (arith, there, one, h.place))
        (at ∙ ap (λ j. slice_index_or nodes j y) h.place)
        ∙ ap (λ z. lean_node_of rules z n) h.is

    -- nothing happened
    pub lean_turned_not : (x : Holding Op O) (now : List (Letter (Command Op))) → x ≡ y → now ≡ fresh
        → lean_seen members (slice_set nodes p x) mails now ≡ k
    lean_turned_not x now same none =
        (λ i. lean_seen members ((ap (slice_set nodes p) same ∙ set_again nodes p y at) i) mails (none i)) ∙ h.is

    pub lean_stays_quiet : (x : Holding Op O) (now : List (Letter (Command Op))) → x ≡ y → now ≡ fresh
        → IsNetwork members (map state_of (slice_set nodes p x)) mails now
    lean_stays_quiet x now same none = subst (λ ns. IsNetwork members ns mails now) (sym (map-set (state_of {Op = Op} {O = O}) nodes p x))
        (stays_quiet place_of y.state x.state now state_read (ap state_of same) none)

  -- node n became x, and sent letters
  pub lean_turned_by : (x : Holding Op O) (now out : List (Letter (Command Op))) → now ≡ fresh ++ out
      → lean_seen members (slice_set nodes p x) mails now ≡ turned_lean k n x out
  lean_turned_by x now out sent =
      (λ i. record {
        members = members;
        nodes = (ap (λ j. slice_set nodes j x) h.place ∙ put_lean_at nodes n x (low place_of)) i;
        mails = (ap (λ z. posted z mails) sent ∙ both_posted 1 fresh out mails) i;
      })
      ∙ ap (λ z. turned_lean z n x out) h.is

module _ {O Op Reply : Type 0} (rules : Rules O Op Reply) {members : List ℕ} {nodes : List (Holding Op O)}
    {mails : List (List (Letter (Command Op)))} {fresh : List (Letter (Command Op))} {k : LeanState Op O} {n p : ℕ}
    (h : IsLeanPlace members nodes mails fresh k n p) (y : Holding Op O) (at : y ≡ slice_index_or nodes p y) (d : Deed Op) where
  -- it does so as the member that it is, and that is what the network has it do
  pub lean_turn_is : own_turn_held rules y d ≡ lean_turn_of rules k n d
  lean_turn_is =
      let seat = lean_seated h y at in
      (λ i. turned_held rules (seat.speaks i) (seat.node i) y d)
      ∙ (λ i. turned_held rules (h.is i).members n (lean_read h y at rules i) d)

  pub lean_able : IsAble (lean_node_of rules k n).state d → IsAble y.state d
  lean_able a = subst (λ (z : Holding Op O). IsAble z.state d) (sym (lean_read h y at rules)) a

  pub lean_idle : ComesToNothing rules (lean_node_of rules k n).state d → ComesToNothing rules y.state d
  lean_idle a = subst (λ (z : Holding Op O). ComesToNothing rules z.state d) (sym (lean_read h y at rules)) a

  pub lean_outcome : outcome_held y d ≡ outcome_held (lean_node_of rules k n) d
  lean_outcome = ap (λ (z : Holding Op O). outcome_held z d) (lean_read h y at rules)

  module _ (x : Holding Op O) (now : List (Letter (Command Op))) (new : x ≡ (own_turn_held rules y d).state)
      (sent : now ≡ fresh ++ (own_turn_held rules y d).sent) where
    pub lean_acted_whole : IsNetwork members (map state_of (slice_set nodes p x)) mails now
    lean_acted_whole = subst (λ ns. IsNetwork members ns mails now) (sym (map-set (state_of {Op = Op} {O = O}) nodes p x))
        (acted_whole rules (place_of h) y.state (state_read h y at) d x.state now
        (ap state_of new ∙ turned_state rules (members_of y.state) (number_of y.state) y d)
        (sent ∙ ap (λ z. fresh ++ z) (turned_sent rules (members_of y.state) (number_of y.state) y d)))

    pub lean_acted_ok : lean_seen members (slice_set nodes p x) mails now ≡ acted_lean rules k n d
    lean_acted_ok =
        lean_turned_by h x now (own_turn_held rules y d).sent sent
        ∙ ap (λ z. turned_lean k n z (own_turn_held rules y d).sent) new
        ∙ ap (λ (t : HeldTurn Op O Reply). turned_lean k n t.state t.sent) lean_turn_is
