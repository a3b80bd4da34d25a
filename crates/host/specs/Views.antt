-- A host, and the letters to it that ask for a vote and wait until their records are kept (Paxos Made Moderately
-- Complex, 4.3: what an acceptor promises and accepts is kept on disk before it answers).
use Rattle.std.specs.Prelude.{ℕ, ◌+◌, List, []}
use Rattle.object.specs.Objects.{Rules}
use Rattle.object.specs.declared.command.Command.{Command}
use Rattle.node.specs.declared.deed.Deed.{Deed}
use Rattle.cluster.specs.Envelopes.{Envelope}
use Rattle.cluster.specs.Hosts.{HostState, new_host, host_turn, with_holding, forgotten_host}
use Rattle.host.specs.Counting.{deed_events}

-- The number of its node. What was put aside waits in the order in which it came; so many more were there before, and
-- are received. So many events there were here, at most.
pub record HostView (Op O : Type 0) : Type 0 where
  pub number : ℕ
  pub shown : HostState Op O
  pub aside : List (Envelope (Command Op))
  pub voted : ℕ
  pub taken : ℕ

-- node n of these members, before anything happened
abbrev pub new_view : {O Op Reply : Type 0} → Rules O Op Reply → List ℕ → ℕ → HostView Op O
new_view rules members n =
    record { number = n; shown = new_host rules members n; aside = []; voted = 0; taken = 0 }

-- it does this by itself
abbrev pub acted_view : {O Op Reply : Type 0} → Rules O Op Reply → HostView Op O → Deed Op → HostView Op O
acted_view rules h d = record h {
  shown = with_holding h.shown (host_turn rules h.shown d).state;
  taken = h.taken + deed_events h.shown.holding.object d;
}

-- it forgets the slots below the base
abbrev pub forgotten_view : {Op O : Type 0} → ℕ → HostView Op O → HostView Op O
forgotten_view base h = record h { shown = forgotten_host base h.shown }
