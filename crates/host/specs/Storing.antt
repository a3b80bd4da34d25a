-- What a host's disk has, and the host that is made of it.
use Rattle.std.specs.Prelude.{◌≡◌, ℕ, ◌+◌, ◌*◌, max, List, [], ◌∷◌}
use Rattle.object.specs.OnceOnly.{Filtered}
use Rattle.object.specs.declared.command.Command.{Command}
use Rattle.acceptor.specs.Acceptors.{Keeps}
use Rattle.acceptor.specs.Rests.{rest_of_acceptor}
use Rattle.cluster.specs.ComingBack.{restarted_host}
use Rattle.cluster.specs.Envelopes.{Envelope}
use Rattle.cluster.specs.Storing.{Stored, stored_after}
use Rattle.host.specs.Views.{HostView}

-- e is as good as d: of what that accepted from its base on it has as much as a report needs
pub record IsAsGood {Op : Type 0} (d e : Stored Op) : Type 0 where
  pub base : e.base ≡ d.base
  pub acceptor : Keeps (rest_of_acceptor d.base d.acceptor) (rest_of_acceptor d.base e.acceptor)
  pub boot : e.boot ≡ d.boot

-- what is left of it from the base on, where that is higher than its own
abbrev pub stored_from : {Op : Type 0} → ℕ → Stored Op → Stored Op
stored_from base d = record {
  base = max d.base base;
  acceptor = rest_of_acceptor base d.acceptor;
  boot = d.boot;
}

-- what is stored once these are received
abbrev pub stored_on : {Op : Type 0} → Stored Op → List (Envelope (Command Op)) → Stored Op
stored_on d [] = d
stored_on d (p ∷ ps) = stored_on (stored_after d p.letter.body) ps

-- node n of these members as it begins anew with what was stored and with a snapshot, after so many events
abbrev pub back_view : {Op O : Type 0} → List ℕ → ℕ → Stored Op → ℕ → Filtered O → ℕ → HostView Op O
back_view members n d slot object events = record {
  number = n;
  shown = restarted_host members n d slot object;
  aside = [];
  voted = 0;
  taken = events + (1 + 2 * slot);
}
