-- What outlives a host's process (Paxos Made Moderately Complex, 4.3).
use Rattle.std.specs.Prelude.{◌≡◌, ℕ, ◌+◌}
use Rattle.object.specs.declared.command.Command.{Command}
use Rattle.ballot.specs.declared.letter.LetterBody.{LetterBody}
use Rattle.ballot.specs.declared.letter.LetterBody.TheVariants.{P1a, P1b, P2a, P2b, Propose, Decision, Ask}
use Rattle.acceptor.specs.Acceptors.{Acceptances, Keeps, new_acceptor, after_p1a, after_p2a}
use Rattle.acceptor.specs.Rests.{rest_of_acceptor}
use Rattle.agreement.specs.Nodes.{Cluster, node}

-- what is left of its acceptor from a base on, and its boot; this base may be lower than the host's
pub record Stored (Op : Type 0) : Type 0 where
  pub base : ℕ
  pub acceptor : Acceptances (Command Op)
  pub boot : ℕ

-- it is enough of what node n has
pub record IsStored {Op : Type 0} (d : Stored Op) (n : ℕ) (k : Cluster (Command Op)) : Type 0 where
  pub acceptor : Keeps (rest_of_acceptor d.base (node k n).acceptor) d.acceptor
  pub boot : d.boot ≡ (node k n).boot

-- before anything happened
abbrev pub new_stored : {Op : Type 0} → Stored Op
new_stored = record { base = 0; acceptor = new_acceptor; boot = 0 }

-- what has to be stored as the host receives this, before it sends anything
abbrev pub stored_after : {Op : Type 0} → Stored Op → LetterBody (Command Op) → Stored Op
stored_after d (P1a b) = record d { acceptor = after_p1a d.acceptor b }
stored_after d (P1b b report) = d
stored_after d (P2a p) = record d { acceptor = after_p2a d.acceptor p }
stored_after d (P2b o s b) = d
stored_after d (Propose s c) = d
stored_after d (Decision s c) = d
stored_after d (Ask s) = d

-- with one boot more, as the host comes back
abbrev pub booted : {Op : Type 0} → Stored Op → Stored Op
booted d = record d { boot = d.boot + 1 }

-- it is written anew from a slot on: of what was accepted from there on, e has as much as a report needs
pub record IsWrittenAnew {Op : Type 0} (slot : ℕ) (d e : Stored Op) : Type 0 where
  pub base : e.base ≡ slot
  pub acceptor : Keeps (rest_of_acceptor slot d.acceptor) e.acceptor
  pub boot : e.boot ≡ d.boot
