-- What the hall's nodes do, each with its object, is what the laws say of nodes and objects apart.
use Rattle.std.proofs.Common.{◌≡◌, ◌≢◌, ⊎_elim, ℕ, ◌+◌, true, false, cond, List, length, refl, sym, ap, ◌∙◌, arith, ◌==◌}
use Rattle.std.proofs.lemmas.Bool.{cases_eq}
use Rattle.std.proofs.lemmas.Bool.Decides.{nat_tests}
use Rattle.object.specs.Objects.{Rules}
use Rattle.object.specs.declared.command.Command.{Command}
use Rattle.ballot.specs.Members.{is_member}
use Rattle.ballot.specs.declared.letter.Letter.{Letter}
use Rattle.node.specs.Holding.{Holding, HeldTurn, turned_held, outcome_held}
use Rattle.node.specs.Outcomes.{reach_after, key_placed}
use Rattle.node.specs.declared.deed.Deed.{Deed}
use Rattle.node.specs.declared.deed.Deed.TheVariants as deeds
use Rattle.network.specs.Networks.{turned_net}
use Rattle.forgetting.specs.Holding.{acted_held}
use Rattle.lean_network.specs.LeanNetworks.{LeanState, states, lean_node_of, object_of, lean_turn_of, turned_lean, acted_lean}
use Rattle.lean_network.proofs.States.{state_at, states_turned, own_object, other_object}
use Rattle.client_table.specs.Clients.{with_replies, with_effect}
use Rattle.forgetting_hall.specs.Gathered.{Gathering}
use Rattle.forgetting_hall.specs.Halls.{ForgettingState, rest_of_hall}
use Rattle.forgetting_hall.specs.Rests.{IsGoingOn, fresh_answers, done_rest, outcome_rest}
use Rattle.forgetting_hall.specs.Shown.{holder, with_object, turn_held}

same : (m n : ℕ) → m ≡ n → (m == n) ≡ true
same m n e = grind (arith, nat_tests, e)

apart : (m n : ℕ) → m ≢ n → (m == n) ≡ false
apart m n e = grind (arith, nat_tests, e)

module _ {O Op Reply : Type 0} (rules : Rules O Op Reply) where
  pub holder_is : (k : LeanState Op O) (n : ℕ) → holder (states k) (object_of rules k) n ≡ lean_node_of rules k n
  holder_is k n = λ i. record { state = state_at rules k n i; object = object_of rules k n }

  going_turn : (members : List ℕ) (n : ℕ) (h : Holding Op O) (d : Deed Op) → IsGoingOn d → acted_held rules members n h d ≡ turned_held rules members n h d
  going_turn members n h (deeds.Request c) own = absurd own
  going_turn members n h deeds.Wake own = refl
  going_turn members n h deeds.Nudge own = refl
  going_turn members n h deeds.Propose own = refl
  going_turn members n h deeds.Perform own = refl
  going_turn members n h deeds.Restart own = absurd own

  -- what node n does by itself
  pub turn_is : (k : LeanState Op O) (n : ℕ) (d : Deed Op) → IsGoingOn d → turn_held rules (states k) (object_of rules k) n d ≡ lean_turn_of rules k n d
  turn_is k n d own =
      ap (λ (h : Holding Op O). acted_held rules k.members n h d) (holder_is k n)
      ∙ going_turn k.members n (lean_node_of rules k n) d own

  module _ (k : LeanState Op O) (n : ℕ) (all : length k.nodes ≡ length k.members) (member : is_member k.members n ≡ true) where
    -- the objects, once node n has become h
    pub objects_turned : (h : Holding Op O) (out : List (Letter (Command Op))) → object_of rules (turned_lean k n h out) ≡
        with_object (object_of rules k) n h.object
    objects_turned h out = λ i m. at m i
      where
        at : (m : ℕ) → object_of rules (turned_lean k n h out) m ≡ with_object (object_of rules k) n h.object m
        at m = ⊎_elim
            (λ (e : m ≡ n). ap (object_of rules (turned_lean k n h out)) e ∙ own_object rules k n h out all member
            ∙ sym (ap (λ b. cond b h.object (object_of rules k m)) (same m n e)))
            (λ (e : m ≢ n). other_object rules k n m h out e
            ∙ sym (ap (λ b. cond b h.object (object_of rules k m)) (apart m n e)))
            (cases_eq m n)

    -- the nodes with their mail and their objects, once node n has taken a turn
    pub net_turned : (t u : HeldTurn Op O Reply) → t ≡ u
        → states (turned_lean k n u.state u.sent) ≡ turned_net (states k) n t.state.state t.sent
    net_turned t u e = states_turned k n u.state u.sent ∙ ap (λ (q : HeldTurn Op O Reply). turned_net (states k) n q.state.state q.sent) (sym e)

    pub held_turned : (t u : HeldTurn Op O Reply) → t ≡ u
        → object_of rules (turned_lean k n u.state u.sent) ≡ with_object (object_of rules k) n t.state.object
    held_turned t u e = objects_turned u.state u.sent ∙ ap (λ (q : HeldTurn Op O Reply). with_object (object_of rules k) n q.state.object) (sym e)

  -- what the hall becomes where node n does this by itself, and where it has gathered this
  abbrev pub after_deed : ForgettingState Op O Reply → ℕ → Deed Op → Gathering Op → ForgettingState Op O Reply
  after_deed h n d g = record {
    network = acted_lean rules h.network n d;
    base = h.base;
    summary = with_effect (key_placed h.reach (outcome_held (lean_node_of rules h.network n) d))
        (with_replies (fresh_answers h.reach (outcome_held (lean_node_of rules h.network n) d) (lean_turn_of rules h.network n d).answers) h.summary);
    opened = h.opened;
    reach = reach_after h.reach (outcome_held (lean_node_of rules h.network n) d);
    taken = h.taken + 1;
    gathering = g;
  }

  module _ (h : ForgettingState Op O Reply) (n : ℕ) (d : Deed Op) (own : IsGoingOn d) where
    pub outcome_is : outcome_rest (rest_of_hall rules h) n d ≡ outcome_held (lean_node_of rules h.network n) d
    outcome_is = ap (λ (x : Holding Op O). outcome_held x d) (holder_is h.network n)

    pub deed_is : (g : Gathering Op) → length h.network.nodes ≡ length h.network.members → is_member h.network.members n ≡ true
        → rest_of_hall rules (after_deed h n d g) ≡ done_rest rules (rest_of_hall rules h) n d
    deed_is g all member =
        let turn = turn_is h.network n d own in
        λ i. record {
          network = net_turned h.network n all member (turn_held rules (states h.network) (object_of rules h.network) n d)
              (lean_turn_of rules h.network n d) turn i;
          objects = held_turned h.network n all member (turn_held rules (states h.network) (object_of rules h.network) n d)
              (lean_turn_of rules h.network n d) turn i;
          base = h.base;
          summary = with_effect (key_placed h.reach (sym outcome_is i))
              (with_replies (fresh_answers h.reach (sym outcome_is i) (sym turn i).answers) h.summary);
          opened = h.opened;
          reach = reach_after h.reach (sym outcome_is i);
          taken = h.taken + 1;
        }
