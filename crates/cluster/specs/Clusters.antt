-- Hosts together, each in a process of its own: what is under way between them may be lost, repeated and reordered.
use Rattle.std.specs.Prelude.{ℕ, zero, suc, ◌+◌, ◌==◌, List, [], ◌∷◌, ◌++◌, map, length, if◌then◌else◌}
use Rattle.object.specs.Happenings.{Happenings, nothing, with_answers}
use Rattle.object.specs.Objects.{Rules}
use Rattle.object.specs.OnceOnly.{Filtered}
use Rattle.object.specs.declared.command.Command.{Command}
use Rattle.ballot.specs.declared.letter.Letter.{Letter}
use Rattle.node.specs.Holding.{new_object}
use Rattle.node.specs.declared.deed.Deed.{Deed}
use Rattle.cluster.specs.Asking.{with_asked}
use Rattle.cluster.specs.Envelopes.{Envelope}
use Rattle.cluster.specs.Hosts.{HostState, new_host, host_turn, with_holding}
use Rattle.cluster.specs.Storing.{Stored, new_stored}

-- The host of each member, what it has stored, and the commands that were handed in there; every envelope that was sent
-- and every snapshot that was handed on, of which none is ever taken out; what clients saw, at whichever host; and how
-- many events there were at each host, at most.
pub record Hosts (Op O Reply : Type 0) : Type 0 where
  pub members : List ℕ
  pub host : ℕ → HostState Op O
  pub stored : ℕ → Stored Op
  pub handed : ℕ → List (Command Op)
  pub envelopes : List (Envelope (Command Op))
  pub snapshots : List (ℕ × Filtered O)
  pub happenings : Happenings Op Reply
  pub taken : ℕ → ℕ

-- before anything happened
abbrev pub new_hosts : {O Op Reply : Type 0} → Rules O Op Reply → List ℕ → Hosts Op O Reply
new_hosts rules members = record {
  members = members;
  host = new_host rules members;
  stored = λ n. new_stored;
  handed = λ n. [];
  envelopes = [];
  snapshots = (1, new_object rules) ∷ [];
  happenings = nothing;
  taken = λ n. 0;
}

-- the events at so many hosts, from the first one on
abbrev pub events_from : (ℕ → ℕ) → ℕ → ℕ → ℕ
events_from taken first zero = 0
events_from taken first (suc len) = taken first + events_from taken (first + 1) len

-- the events at all hosts
abbrev pub total_events : {Op O Reply : Type 0} → Hosts Op O Reply → ℕ
total_events k = events_from k.taken 1 (length k.members)

-- what each node has, with another one for node n
abbrev pub with_at : {X : Type 0} → (ℕ → X) → ℕ → X → ℕ → X
with_at each n x m = if m == n then x else each m

-- what was handed in at each node, with one command more at node n
abbrev pub with_handed : {Op : Type 0} → (ℕ → List (Command Op)) → ℕ → Command Op → ℕ → List (Command Op)
with_handed handed n c m = if m == n then handed m ++ (c ∷ []) else handed m

-- the letters that a host of this base sends, in their envelopes
abbrev pub labelled : {C : Type 0} → ℕ → List (Letter C) → List (Envelope C)
labelled base letters = map (λ l. record { label = base; letter = l }) letters

-- by one event at node n the host becomes this, and sends letters
abbrev pub host_turned : {Op O Reply : Type 0} → Hosts Op O Reply → ℕ → HostState Op O → List (Letter (Command Op))
    → Happenings Op Reply → Hosts Op O Reply
host_turned k n s sent h = record k {
  host = with_at k.host n s;
  envelopes = k.envelopes ++ labelled s.base sent;
  happenings = h;
  taken = with_at k.taken n (k.taken n + 1);
}

-- the host of node n does this by itself
abbrev pub host_acted : {O Op Reply : Type 0} → Rules O Op Reply → Hosts Op O Reply → ℕ → Deed Op → Hosts Op O Reply
host_acted rules k n d =
    host_turned k n (with_holding (k.host n) (host_turn rules (k.host n) d).state) (host_turn rules (k.host n) d).sent
    (with_answers (host_turn rules (k.host n) d).answers (with_asked d k.happenings))
