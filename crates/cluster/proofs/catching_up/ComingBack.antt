-- A host catches up by a snapshot, as it runs or as it comes back.
use Rattle.cluster.proofs.alone.Acting.{above_each}
use Rattle.node.specs.SlotLaws.{none_in_empty}
use Rattle.ballot.specs.Rests.{kept_from}
use Rattle.object.specs.Lists.{In}
use Rattle.object.specs.FilterLaws.{FilterLaws, later_obeyed}
use Rattle.object.specs.Obeying.{obeyed}
use Rattle.std.specs.Option.{option_to_list}
use Rattle.std.specs.List.{range_with_len}
use Rattle.std.specs.Prelude.{flat_map}
use Rattle.std.proofs.Common.{◌≡◌, ℕ, ◌+◌, ◌*◌, ◌-◌, ◌≤◌, true, [], refl, sym, ap, ◌∙◌, subst, arith, zero, suc, ◌++◌}
use Rattle.std.proofs.Common.{Bool, false, List}
use Rattle.std.specs.FinMap.{get, get-empty, empty}
use Rattle.std.specs.Ordering.{nat_cmp}
use Rattle.object.specs.Objects.{Rules, is_one}
use Rattle.object.specs.OnceOnly.{Filtered, is_later}
use Rattle.object.specs.declared.command.Command.{Command}
use Rattle.ballot.specs.Members.{is_member}
use Rattle.ballot.specs.OrderLaws.{BallotLaws}
use Rattle.ballot.proofs.Rests.{above_empty}
use Rattle.acceptor.specs.Acceptors.{Acceptances, Keeps}
use Rattle.acceptor.specs.Rests.{rest_of_acceptor}
use Rattle.leader.specs.Leaders.{new_leader}
use Rattle.scout_commander.specs.Commanders.{Commanding}
use Rattle.slot_log.specs.Books.{SlotBook}
use Rattle.node.specs.Nodes.{NodeState, restarted}
use Rattle.node.specs.Receiving.{ShowsNode}
use Rattle.node.specs.Rests.{rest_of_node}
use Rattle.agreement.specs.Nodes.{node, turned}
use Rattle.agreement.specs.Runs.{most_events, IsWorld}
use Rattle.agreement.specs.Steps.{Step, restart, counted, with_cluster}
use Rattle.agreement.specs.Worlds.{World}
use Rattle.agreement.specs.declared.event.Event.TheVariants.{Restart}
use Rattle.agreement.proofs.books.SlotBooksEvery.{books}
use Rattle.agreement.proofs.chosen.Reach.{reachable_sound}
use Rattle.agreement.proofs.chosen.Turns as turns
use Rattle.agreement.proofs.every.Every.{goes_on}
use Rattle.forgetting.proofs.Bases.{pvalues_twice, rest_keeps}
use Rattle.cluster.specs.CatchingUp.{CatchesUp, HasProposedInVain, caught_up}
use Rattle.slot_log.specs.CatchingUp.{proposed_upto}
use Rattle.cluster.specs.ComingBack.{ComesBack, restarted_host}
use Rattle.cluster.specs.Hosts.{HostState, ShowsHost}
use Rattle.cluster.specs.Storing.{Stored, IsStored}
use Rattle.cluster.specs.Snapshots.{IsSnapshot}
use Rattle.cluster.proofs.alone.Forgetting.{node_forgets}
use Rattle.cluster.proofs.catching_up.Histories.{snapshot_stays}
use Rattle.cluster.proofs.catching_up.TakingOver.{takes_snapshot}

module _ (laws : BallotLaws) {O Op Reply : Type 0} (filter : FilterLaws Op) (rules : Rules O Op Reply)
    (exact : (a b : Command Op) → is_one rules a b ≡ true → a ≡ b) where
  -- a command that the object has not obeyed is none of those that it has
  other_than : (p c : Command Op) (cs : List (Command Op)) → is_later p.key (obeyed rules cs).latest ≡ true → In c cs
      → is_one rules p c ≡ false
  other_than p c cs later j = by_test (is_one rules p c) refl
    where
      by_test : (b : Bool) → is_one rules p c ≡ b → b ≡ false
      by_test false e = refl
      by_test true e =
          let same = exact p c e in
          let more = above_each p cs (sym (later_obeyed filter rules cs p) ∙ later) c j
          (ap (λ (k : Command Op). k.key.session) (sym same)) in
          let number = ap (λ (k : Command Op). k.key.number) same in
          absurd (omega (arith, more, number))

  pub host_catches_up : (s : HostState Op O) (n slot : ℕ) (object : Filtered O) (w : World Op Reply) → IsWorld rules w
      → ShowsHost rules s n w.cluster
      → IsSnapshot rules slot object w → s.holding.state.replica.slot_out ≤ slot
      → HasProposedInVain slot object s.holding.state.replica
      → w.taken + 2 * (slot - s.holding.state.replica.slot_out) ≤ most_events
      → CatchesUp rules (caught_up slot object s) n w
  host_catches_up s n slot object w i shows snap older none room =
      let same = shows.held.state.replica in
      let out = ap (λ (b : SlotBook (Command Op)). b.slot_out) same in
      let past = shows.past in
      let first = (books laws rules w i n).performed.first in
      let rest = node_forgets s.base slot (omega (arith, out, past, older)) s.holding.state
      (node w.cluster n) shows.held.state in
      takes_snapshot laws rules n w i shows.member slot object snap (caught_up slot object s).holding.state
      (record {
        acceptor = rest.acceptor;
        boot = rest.boot;
        leader = rest.leader;
        replica = λ j. record (rest.replica j) {
          slot_out = slot;
          requests = ap (λ (b : SlotBook (Command Op)). b.requests ++ proposed_upto slot b) same j;
          proposals = ap (λ (b : SlotBook (Command Op)). kept_from slot b.proposals) same j;
        };
      })
      first (omega (arith, out, older))
      (λ t p c e low j. other_than p c snap.commands
      (ap (λ (f : Filtered O). is_later p.key f.latest) (sym snap.obeys) ∙ none t p low
      (ap (λ (b : SlotBook (Command Op)). get b.proposals t) same ∙ e)) j) (omega (arith, out, room))

  module _ (n : ℕ) (d : Stored Op) (slot : ℕ) (object : Filtered O) (w : World Op Reply) (i : IsWorld rules w)
      (member : is_member w.cluster.members n ≡ true) (stored : IsStored d n w.cluster) (low : d.base ≤ slot)
      (snap : IsSnapshot rules slot object w) (room : w.taken + 1 + 2 * slot ≤ most_events) where
    abbrev x : NodeState (Command Op)
    x = restarted w.cluster.members n (node w.cluster n)

    abbrev opened : World Op Reply
    opened = counted (with_cluster w (turned w.cluster n x []))

    opens : Step rules w (Restart n) opened
    opens = restart n member

    is : IsWorld rules opened
    is = goes_on laws rules w opened (Restart n) i opens (omega (arith, room))

    here : node opened.cluster n ≡ x
    here = turns.here laws w.cluster (reachable_sound laws rules w i.reachable) n member x []

    abbrev h : NodeState (Command Op)
    h = (restarted_host w.cluster.members n d slot object).holding.state

    abbrev shown : NodeState (Command Op) → NodeState (Command Op)
    shown y = rest_of_node slot (record y {
      replica = record y.replica {
        slot_out = slot;
        requests = y.replica.requests ++ proposed_upto slot y.replica;
        proposals = kept_from slot y.replica.proposals;
        decisions = y.replica.decisions;
      };
    })

    acceptor : Keeps (rest_of_acceptor slot (node w.cluster n).acceptor) h.acceptor
    acceptor =
        subst (λ (a : Acceptances (Command Op)). Keeps a h.acceptor)
        (ap (λ ps. record (node w.cluster n).acceptor { accepted = ps })
        (pvalues_twice d.base slot low (node w.cluster n).acceptor.accepted))
        (rest_keeps slot (rest_of_acceptor d.base (node w.cluster n).acceptor) d.acceptor stored.acceptor)

    none_proposed : (len first : ℕ)
        → flat_map (λ s. option_to_list (get (empty {X = Command Op} {R = nat_cmp}) s)) (range_with_len first len) ≡ []
    none_proposed zero first = refl
    none_proposed (suc len) first = ap (λ o. option_to_list o ++ flat_map
        (λ s. option_to_list (get (empty {X = Command Op} {R = nat_cmp}) s)) (range_with_len (first + 1) len))
        (get-empty nat_cmp first) ∙ none_proposed len (first + 1)

    state : ShowsNode h (shown x)
    state =
        let commands = above_empty {X = Command Op} slot in
        let commanders = above_empty {X = Commanding (Command Op)} slot in
        let boot = ap (λ b. b + 1) stored.boot in
        record {
          acceptor = acceptor;
          boot = boot;
          leader = λ j. record (new_leader {C = Command Op} w.cluster.members n
              (boot j)) { proposals = sym commands j; commanders = sym commanders j };
          replica = λ j. record h.replica {
            requests = sym
                (none_proposed (slot - 1) 1) j;
            proposals = sym commands j;
            decisions = sym commands j;
          };
        }

    pub comes_back : ComesBack rules n d slot object w
    comes_back =
        let count = snap.count in
        let out : (node opened.cluster n).replica.slot_out ≡ 1 = ap
        (λ (y : NodeState (Command Op)). y.replica.slot_out) here in
        record {
          opened = opened;
          step = opens;
          happenings = refl;
          stored = record {
            acceptor = subst (λ (y : NodeState (Command Op)). Keeps (rest_of_acceptor d.base y.acceptor) d.acceptor)
                (sym here) stored.acceptor;
            boot = ap (λ b. b + 1) stored.boot ∙ ap (λ (y : NodeState (Command Op)). y.boot) (sym here);
          };
          catches_up = takes_snapshot laws rules n opened is member slot object
              (snapshot_stays laws rules slot object w opened (Restart n) opens snap) h
              (subst (λ y. ShowsNode h (shown y)) (sym here) state)
              (omega (arith, out)) (omega (arith, out, count))
              (λ t p c e less j. none_in_empty t p
              (sym (ap (λ (y : NodeState (Command Op)). get y.replica.proposals t) here) ∙ e))
              (omega (arith, room, out));
        }
