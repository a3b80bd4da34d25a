-- What is handed in to the hall is what the laws speak of.
use Rattle.std.proofs.Common.{◌≡◌, ◌≢◌, ◌<◌, ◌≤◌, ◌+◌, ◌^◌, ◌==◌, ◌&&◌, ⊎_elim, ℕ, zero, suc, Bool, true, false, cond}
use Rattle.std.proofs.Common.{not, List, [], ◌∷◌, length, Option, Some, None}
use Rattle.std.proofs.Common.{refl, sym, ap, ◌∙◌, subst, arith}
use Rattle.std.specs.Prelude.{is_some, nat_le, nat_lt, slice_index_or, slice_set}
use Rattle.std.specs.FinMap.{get}
use Rattle.std.proofs.lemmas.Bool.{cases_eq}
use Rattle.std.proofs.lemmas.Bool.Decides.{nat_tests}
use Rattle.object.specs.Commands.{IsCommand}
use Rattle.object.specs.Objects.{Rules}
use Rattle.object.specs.OnceOnly.{is_later}
use Rattle.object.specs.declared.command.Act.{Act}
use Rattle.object.specs.declared.command.Act.TheVariants.{Do, Close, Tick}
use Rattle.object.specs.declared.command.Command.{Command}
use Rattle.ballot.specs.Members.{is_member}
use Rattle.node.specs.Holding.{Holding, HeldTurn}
use Rattle.node.specs.Nodes.{put}
use Rattle.node.specs.declared.deed.Deed.TheVariants.{Request}
use Rattle.network.specs.Networks.{NetworkState, node_of, turned_net}
use Rattle.network.proofs.Posts.{none_posted}
use Rattle.agreement.specs.Runs.{most_events, IsWorld}
use Rattle.agreement.specs.Worlds.{World}
use Rattle.agreement.specs.declared.event.Event.TheVariants.{Submit}
use Rattle.hall.specs.Halls.{tick_of}
use Rattle.hall.specs.Tickets.{is_tick}
use Rattle.hall.specs.declared.error.HallError.TheVariants.{NoSuchNode, BadNumber, Busy, Full}
use Rattle.forgetting.specs.Holding.{acted_held}
use Rattle.lean_network.specs.LeanNetworks.{LeanState, states, object_of, lean_node_of, lean_turn_of, acted_lean}
use Rattle.lean_network.proofs.States.{state_at}
use Rattle.client_table.specs.Clients.{number_of_last, with_command}
use Rattle.client_table.specs.declared.client.Client.{Client}
use Rattle.forgetting_hall.specs.Clients.{IsNextOf, IsLastOf}
use Rattle.forgetting_hall.specs.Halls.{ForgettingState, IsForgettingHall, IsCounted, FollowsIn, rest_of_hall}
use Rattle.forgetting_hall.specs.Handing.{asked_lean, last_of, last_of_client, reply_of, reply_of_client, last_number_of, next_of, second_of}
use Rattle.forgetting_hall.specs.Refusing.{has_all_events, is_session, keeps_waiting, is_behind_last, refusal_of_submit}
use Rattle.forgetting_hall.specs.Refusing.{refusal_of_resubmit, refusal_of_tick, refusal_of_keyed}
use Rattle.forgetting_hall.specs.Rests.{HallRest, ShowsWorld, FollowsEvent, IsReplyInOrder, acted_rest, handed_in}
use Rattle.forgetting_hall.specs.Shown.{with_object, turn_held, acted_net_held}
use Rattle.forgetting_hall.proofs.Keeping.{all_nodes}
use Rattle.forgetting_hall.proofs.Turning.{holder_is, net_turned, held_turned}

same : (m n : ℕ) → m ≡ n → (m == n) ≡ true
same m n e = grind (arith, nat_tests, e)

apart : (m n : ℕ) → m ≢ n → (m == n) ≡ false
apart m n e = grind (arith, nat_tests, e)

-- what is put where it stands
put_there : {X : Type 0} (xs : List X) (i : ℕ) (d : X) → slice_set xs i (slice_index_or xs i d) ≡ xs
put_there [] zero d = refl
put_there [] (suc i) d = refl
put_there (x ∷ xs) zero d = refl
put_there (x ∷ xs) (suc i) d = ap (λ ys. x ∷ ys) (put_there xs i d)

module _ {C : Type 0} (k : NetworkState C) where
  put_same : (n : ℕ) → put k.nodes n (node_of k n) ≡ k.nodes
  put_same zero = refl
  put_same (suc i) = put_there k.nodes i _

  -- a node that stays as it is, and sends nothing
  pub unturned : (n : ℕ) → k ≡ turned_net k n (node_of k n) []
  unturned n = λ i. record { members = k.members; nodes = sym (put_same n) i; mails = sym (none_posted 1 k.mails) i }

module _ {O Op Reply : Type 0} (rules : Rules O Op Reply) (k : LeanState Op O) (n : ℕ) (c : Command Op) where
  -- a node that isn't asked
  abbrev idle : HeldTurn Op O Reply
  idle = record { state = lean_node_of rules k n; sent = []; answers = [] }

  -- what a node makes of it that is asked for the command
  asked_turn : turn_held rules (states k) (object_of rules k) n (Request c)
      ≡ cond (is_later c.key (object_of rules k n).latest) (lean_turn_of rules k n (Request c)) idle
  asked_turn = ap (λ (h : Holding Op O). acted_held rules k.members n h (Request c)) (holder_is rules k n)

  module _ (all : length k.nodes ≡ length k.members) (member : is_member k.members n ≡ true) where
    net_if : (b : Bool) (t : HeldTurn Op O Reply) → t ≡ cond b (lean_turn_of rules k n (Request c)) idle
        → states (cond b (acted_lean rules k n (Request c)) k) ≡ turned_net (states k) n t.state.state t.sent
    net_if true t e = net_turned rules k n all member t (lean_turn_of rules k n (Request c)) e
    net_if false t e = unturned (states k) n
        ∙ ap (λ x. turned_net (states k) n x []) (state_at rules k n)
        ∙ ap (λ (q : HeldTurn Op O Reply). turned_net (states k) n q.state.state q.sent) (sym e)

    kept_objects : object_of rules k ≡ with_object (object_of rules k) n (object_of rules k n)
    kept_objects = λ i m. at m i
      where
        at : (m : ℕ) → object_of rules k m ≡ with_object (object_of rules k) n (object_of rules k n) m
        at m = ⊎_elim
            (λ (e : m ≡ n). ap (object_of rules k) e ∙ sym (ap (λ b. cond b (object_of rules k n) (object_of rules k m)) (same m n e)))
            (λ (e : m ≢ n). sym (ap (λ b. cond b (object_of rules k n) (object_of rules k m)) (apart m n e)))
            (cases_eq m n)

    objects_if : (b : Bool) (t : HeldTurn Op O Reply) → t ≡ cond b (lean_turn_of rules k n (Request c)) idle
        → object_of rules (cond b (acted_lean rules k n (Request c)) k) ≡ with_object (object_of rules k) n t.state.object
    objects_if true t e = held_turned rules k n all member t (lean_turn_of rules k n (Request c)) e
    objects_if false t e = kept_objects ∙ ap (λ (q : HeldTurn Op O Reply). with_object (object_of rules k) n q.state.object) (sym e)

    pub asked_net : states (asked_lean rules k n c) ≡ acted_net_held rules (states k) (object_of rules k) n (Request c)
    asked_net = net_if (is_later c.key (object_of rules k n).latest) (turn_held rules (states k) (object_of rules k) n (Request c)) asked_turn

    pub asked_objects : object_of rules (asked_lean rules k n c) ≡ with_object (object_of rules k) n
        (turn_held rules (states k) (object_of rules k) n (Request c)).state.object
    asked_objects = objects_if (is_later c.key (object_of rules k n).latest) (turn_held rules (states k) (object_of rules k) n (Request c)) asked_turn

module _ {O Op Reply : Type 0} (rules : Rules O Op Reply) (h : ForgettingState Op O Reply) (n : ℕ) (c : Command Op) where
  -- the hall, once a next command was handed in
  abbrev pub after_next : ForgettingState Op O Reply
  after_next = record h { network = asked_lean rules h.network n c; summary = with_command c h.summary; taken = h.taken + 1 }

  -- and once the last one was handed in again
  abbrev pub after_again : ForgettingState Op O Reply
  after_again = record h { network = asked_lean rules h.network n c; taken = h.taken + 1 }

  pub again_is : length h.network.nodes ≡ length h.network.members → is_member h.network.members n ≡ true
      → rest_of_hall rules after_again ≡ acted_rest rules (rest_of_hall rules h) n (Request c)
  again_is all member = λ i. record (acted_rest rules (rest_of_hall rules h) n (Request c)) {
    network = asked_net rules h.network n c all member i;
    objects = asked_objects rules h.network n c all member i;
  }

  pub next_is : length h.network.nodes ≡ length h.network.members → is_member h.network.members n ≡ true
      → rest_of_hall rules after_next ≡ handed_in rules (rest_of_hall rules h) n c
  next_is all member = λ i. record (handed_in rules (rest_of_hall rules h) n c) {
    network = asked_net rules h.network n c all member i;
    objects = asked_objects rules h.network n c all member i;
  }

  pub next_follows : ((q : HallRest Op O Reply) (w : World Op Reply) (m : ℕ) (d : Command Op) → IsWorld rules w → ShowsWorld rules q w
      → is_member q.network.members m ≡ true → IsNextOf q.summary d → FollowsEvent rules w (Submit m d) (handed_in rules q m d))
      → is_member h.network.members n ≡ true → IsNextOf h.summary c → FollowsIn rules h (Submit n c) after_next
  next_follows hands_in member next w i s = subst (FollowsEvent rules w (Submit n c)) (sym (next_is (all_nodes rules h w s) member))
      (hands_in (rest_of_hall rules h) w n c i s member next)

  pub again_follows : ((q : HallRest Op O Reply) (w : World Op Reply) (m : ℕ) (d : Command Op) → IsWorld rules w → ShowsWorld rules q w
      → is_member q.network.members m ≡ true → IsLastOf q.summary d → FollowsEvent rules w (Submit m d) (acted_rest rules q m (Request d)))
      → is_member h.network.members n ≡ true → IsLastOf h.summary c → FollowsIn rules h (Submit n c) after_again
  again_follows hands_again member last w i s = subst (FollowsEvent rules w (Submit n c)) (sym (again_is (all_nodes rules h w s) member))
      (hands_again (rest_of_hall rules h) w n c i s member last)

none_some : {X : Type 0} {x : X} → None ≡ Some x → ⊥
none_some e = absurd (cc)

some_there : {X : Type 0} (o : Option X) → is_some o ≡ true → (x : X) × (o ≡ Some x)
some_there None e = absurd (cc)
some_there (Some x) e = (x, refl)

-- what the refusals leave
submit_left : (a b c d : Bool) → cond (not a) (Some NoSuchNode) (cond (not b) (Some BadNumber) (cond c (Some Busy) (cond d (Some Full) None))) ≡ None
    → (a ≡ true) × (b ≡ true) × (d ≡ false)
submit_left true true false false e = (refl, refl, refl)
submit_left true true false true e = absurd (cc)
submit_left true true true d e = absurd (cc)
submit_left true false c d e = absurd (cc)
submit_left false b c d e = absurd (cc)

resubmit_left : (a b c d : Bool) → cond (not a) (Some NoSuchNode) (cond (not b) (Some BadNumber) (cond (c && d) (Some Full) None)) ≡ None
    → (a ≡ true) × (b ≡ true) × (c ≡ true → d ≡ false)
resubmit_left true true true true e = absurd (cc)
resubmit_left true true true false e = (refl, refl, λ _. refl)
resubmit_left true true false d e = (refl, refl, λ f. absurd (cc))
resubmit_left true false c d e = absurd (cc)
resubmit_left false b c d e = absurd (cc)

tick_left : (a b d : Bool) → cond (not a) (Some NoSuchNode) (cond b (Some BadNumber) (cond d (Some Full) None)) ≡ None
    → (a ≡ true) × (b ≡ false) × (d ≡ false)
tick_left true false false e = (refl, refl, refl)
tick_left true false true e = absurd (cc)
tick_left true true d e = absurd (cc)
tick_left false b d e = absurd (cc)

both : (a b : Bool) → (a && b) ≡ true → (a ≡ true) × (b ≡ true)
both true true e = (refl, refl)
both true false e = absurd (cc)
both false b e = absurd (cc)

below : (a b : ℕ) → nat_le a b ≡ false → b < a
below a b e = grind (arith, nat_tests, e)

not_clock : (session : ℕ) → not (session == 0) ≡ true → 0 < session
not_clock session e = grind (arith, nat_tests, e)

module _ {O Op Reply : Type 0} (h : ForgettingState Op O Reply) where
  -- the number of a session's last command is no greater than what is counted
  pub number_below : IsCounted h.summary h.opened h.taken → (session : ℕ) → last_number_of h session ≤ 2 ^ 61 + h.taken
  number_below is session = at (get h.summary.clients session) refl
    where
      at : (o : Option (Client Op Reply)) → get h.summary.clients session ≡ o → number_of_last (last_of_client o) ≤ 2 ^ 61 + h.taken
      at None e = omega arith
      at (Some client) e = is.numbers session client e

  -- the next number is greater than the last one
  next_above : (session : ℕ) (client : Client Op Reply) → get h.summary.clients session ≡ Some client
      → number_of_last client.last < last_number_of h session + 1
  next_above session client e =
      let same : last_number_of h session ≡ number_of_last client.last = ap (λ o. number_of_last (last_of_client o)) e in omega (arith, same)

  next_from : (session : ℕ) (o : Option (Client Op Reply)) → get h.summary.clients session ≡ o → is_some o ≡ true → (act : Act Op) →
      IsNextOf h.summary (next_of h session act)
  next_from session None e i act = absurd (cc)
  next_from session (Some client) e i act = record {
    client = client;
    is_there = e;
    number = next_above session client e;
  }

  module _ (session : ℕ) (act : Act Op) (n : ℕ) (none : refusal_of_submit h session act n ≡ None) where
    left : (is_member h.network.members n ≡ true) × ((not (is_tick act) && is_session h session) ≡ true) × (has_all_events h ≡ false)
    left = submit_left (is_member h.network.members n) (not (is_tick act) && is_session h session)
        (keeps_waiting (get h.summary.clients session) act) (has_all_events h) none

    pub submit_member : is_member h.network.members n ≡ true
    submit_member = left.0

    pub submit_room : h.taken < most_events
    submit_room = below most_events h.taken left.2

    there : (not (session == 0) ≡ true) × (is_some (get h.summary.clients session) ≡ true)
    there = both (not (session == 0)) (is_some (get h.summary.clients session)) (both (not (is_tick act)) (is_session h session) left.1).1

    pub submit_session : 0 < session
    submit_session = not_clock session there.0

    pub submit_next : IsNextOf h.summary (next_of h session act)
    submit_next = next_from session (get h.summary.clients session) refl there.1 act

    may : (a : Act Op) → not (is_tick a) ≡ true → (number : ℕ) → 0 < number → number ≤ 2 ^ 62 →
        IsCommand {Op = Op} (record { key = record { session = session; number = number }; act = a })
    may (Do op) e number low high = record { above = low; within = high; allowed = not_clock session there.0 }
    may Close e number low high = record { above = low; within = high; allowed = not_clock session there.0 }
    may Tick e number low high = absurd (cc)

    pub submit_low : IsCounted h.summary h.opened h.taken → last_number_of h session + 1 ≤ 2 ^ 61 + h.taken + 1
    submit_low is = let low = number_below is session in omega (arith, low)

    pub submit_command : IsCounted h.summary h.opened h.taken → IsCommand {Op = Op} (next_of h session act)
    submit_command is =
        let low = number_below is session in
        let room = submit_room in
        may act (both (not (is_tick act)) (is_session h session) left.1).0 (last_number_of h session + 1) (omega arith) (omega (arith, low, room))

  module _ (n : ℕ) (none : refusal_of_tick h n ≡ None) where
    at_tick : (is_member h.network.members n ≡ true) × (nat_le (2 ^ 40) (second_of h) ≡ false) × (has_all_events h ≡ false)
    at_tick = tick_left (is_member h.network.members n) (nat_le (2 ^ 40) (second_of h)) (has_all_events h) none

    pub tick_member : is_member h.network.members n ≡ true
    tick_member = at_tick.0

    pub tick_room : h.taken < most_events
    tick_room = below most_events h.taken at_tick.2

    pub tick_command : IsCommand {Op = Op} (tick_of (second_of h + 1))
    tick_command =
        let low = below (2 ^ 40) (second_of h) at_tick.1 in
        record { above = omega arith; within = omega (arith, low); allowed = (refl, omega (arith, low)) }

    pub tick_low : IsCounted h.summary h.opened h.taken → second_of h + 1 ≤ 2 ^ 61 + h.taken + 1
    tick_low is = let low = number_below is 0 in omega (arith, low)

    pub tick_next : IsCounted h.summary h.opened h.taken → IsNextOf h.summary (tick_of (second_of h + 1))
    tick_next is =
        let clock = some_there (get h.summary.clients 0) is.clock in record {
          client = clock.0;
          is_there = clock.1;
          number = next_above 0 clock.0 clock.1;
        }

  module _ (session n : ℕ) (none : refusal_of_resubmit h session n ≡ None) where
    at_again : (is_member h.network.members n ≡ true) × (is_session h session ≡ true) × (is_some (last_of h session) ≡ true → has_all_events h ≡ false)
    at_again = resubmit_left (is_member h.network.members n) (is_session h session) (is_some (last_of h session)) (has_all_events h) none

    pub again_member : is_member h.network.members n ≡ true
    again_member = at_again.0

    pub again_room : (c : Command Op) → last_of h session ≡ Some c → h.taken < most_events
    again_room c e = below most_events h.taken (at_again.2 (ap (λ o. is_some o) e))

pub only_last : {X : Type 0} {o : Option X} {x y : X} → o ≡ Some x → o ≡ Some y → x ≡ y
only_last e f = let same : Some _ ≡ Some _ = sym e ∙ f in cc

-- the command that is handed in again is the last one of its session
module _ {O Op Reply : Type 0} {rules : Rules O Op Reply} (h : ForgettingState Op O Reply) (session : ℕ) (c : Command Op)
    (last : last_of h session ≡ Some c) (is : IsForgettingHall rules h) where
  pub last_from : IsLastOf h.summary c
  last_from = at (get h.summary.clients session) refl
    where
      at : (o : Option (Client Op Reply)) → get h.summary.clients session ≡ o → IsLastOf h.summary c
      at None e = absurd (none_some (sym (ap last_of_client e) ∙ last))
      at (Some client) e =
          let of : client.last ≡ Some c = sym (ap last_of_client e) ∙ last in
          let own = ((is.shown.2.summary.clients session client e).own c of).0 in
          record { client = client; is_there = ap (get h.summary.clients) own ∙ e; last = of }

behind_parts : (a b c : Bool) → (a && (b && c)) ≡ true → (a ≡ true) × (b ≡ true) × (c ≡ true)
behind_parts true true true e = (refl, refl, refl)
behind_parts true true false e = absurd (cc)
behind_parts true false c e = absurd (cc)
behind_parts false b c e = absurd (cc)

above_when : (a b : ℕ) → nat_lt a b ≡ true → a < b
above_when a b e = grind (arith, nat_tests, e)

most_when : (a b : ℕ) → nat_le a b ≡ true → a ≤ b
most_when a b e = grind (arith, nat_tests, e)

-- a command that is handed in with its key is behind the last one of its session
module _ {O Op Reply : Type 0} (h : ForgettingState Op O Reply) (c : Command Op) (n : ℕ) (none : refusal_of_keyed h c.key n ≡ None) where
  at_keyed : (is_member h.network.members n ≡ true) × (is_behind_last h c.key ≡ true) × (has_all_events h ≡ false)
  at_keyed = submit_left (is_member h.network.members n) (is_behind_last h c.key) false (has_all_events h) none

  parts : (is_some (get h.summary.clients c.key.session) ≡ true) × (nat_lt (last_number_of h c.key.session) c.key.number ≡ true) ×
      (nat_le c.key.number (2 ^ 61) ≡ true)
  parts = behind_parts (is_some (get h.summary.clients c.key.session)) (nat_lt (last_number_of h c.key.session) c.key.number)
      (nat_le c.key.number (2 ^ 61)) at_keyed.1

  pub keyed_member : is_member h.network.members n ≡ true
  keyed_member = at_keyed.0

  pub keyed_room : h.taken < most_events
  keyed_room = below most_events h.taken at_keyed.2

  pub keyed_low : c.key.number ≤ 2 ^ 61 + h.taken + 1
  keyed_low = let low = most_when c.key.number (2 ^ 61) parts.2 in omega (arith, low)

  -- a second of the clock is greater than the last one
  pub keyed_second : c.key.session ≡ 0 → second_of h ≤ c.key.number
  keyed_second e =
      let low = above_when (last_number_of h c.key.session) c.key.number parts.1 in
      let same : last_number_of h c.key.session ≡ second_of h = ap (last_number_of h) e in
      omega (arith, low, same)

  pub keyed_next : IsNextOf h.summary c
  keyed_next =
      let client = some_there (get h.summary.clients c.key.session) parts.0 in
      let last : last_number_of h c.key.session ≡ number_of_last client.0.last = ap (λ o. number_of_last (last_of_client o)) client.1 in
      let more = above_when (last_number_of h c.key.session) c.key.number parts.1 in
      record { client = client.0; is_there = client.1; number = omega (arith, last, more) }

-- the reply to a session's last command is that of one order
pub reply_in_order : {O Op Reply : Type 0} (rules : Rules O Op Reply) (promise : List (Command Op) → Type 0) (h : ForgettingState Op O Reply) (session : ℕ)
    → ((q : HallRest Op O Reply) (w : World Op Reply) (s : ℕ) (client : Client Op Reply) (c : Command Op) (reply : Reply) → IsWorld rules w
    → ShowsWorld rules q w → get q.summary.clients s ≡ Some client → client.last ≡ Some c → client.reply ≡ Some reply → IsReplyInOrder rules promise w c reply)
    → (w : World Op Reply) (c : Command Op) (reply : Reply) → IsWorld rules w → ShowsWorld rules (rest_of_hall rules h) w
    → last_of h session ≡ Some c → reply_of h session ≡ Some reply → IsReplyInOrder rules promise w c reply
reply_in_order {Op = Op} {Reply = Reply} rules promise h session replies w c reply i s last told = at (get h.summary.clients session) refl
  where
    at : (o : Option (Client Op Reply)) → get h.summary.clients session ≡ o → IsReplyInOrder rules promise w c reply
    at None e = absurd (none_some (sym (ap last_of_client e) ∙ last))
    at (Some client) e = replies (rest_of_hall rules h) w session client c reply i s e
        (sym (ap last_of_client e) ∙ last) (sym (ap reply_of_client e) ∙ told)

-- no number comes near the greatest one
pub number_low : {O Op Reply : Type 0} {rules : Rules O Op Reply} (h : ForgettingState Op O Reply) → IsForgettingHall rules h → (session : ℕ)
    → last_number_of h session < 2 ^ 62
number_low h is session =
    let low = number_below h is.counted session in
    let few = is.shown.1.few in
    let taken = is.shown.2.taken in
    omega (arith, low, few, taken)
