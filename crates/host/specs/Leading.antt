-- Which host is asked for a command.
use Rattle.std.specs.Prelude.{ℕ, ◌==◌, Option, None, Some, if◌then◌else◌}
use Rattle.ballot.specs.Ballots.{Numbers}
use Rattle.host.specs.Views.{HostView}
use Rattle.host.specs.declared.destination.Destination.{Destination}
use Rattle.host.specs.declared.destination.Destination.TheVariants.{Here, There}

-- the node of the ballot that was promised leads, as far as is known at node n
abbrev pub asked_at : ℕ → Option Numbers → Destination
asked_at n None = Here
asked_at n (Some ballot) = if ballot.node == n then Here else There ballot.node

-- a host asks there
abbrev pub destination_of : {Op O : Type 0} → HostView Op O → Destination
destination_of h = asked_at h.number h.shown.holding.state.acceptor.promised
