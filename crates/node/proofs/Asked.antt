-- What a node becomes that is asked for a command.
use Rattle.std.proofs.Common.{ℕ, ◌≡◌, Bool, sym, ap, ◌∙◌}
use Rattle.object.specs.declared.command.Command.{Command}
use Rattle.object.specs.Commands.{same_commands}
use Rattle.object.specs.Objects.{Rules, is_one}
use Rattle.object.specs.OnceOnly.{Filtered}
use Rattle.slot_log.specs.Books.{SlotBook}
use Rattle.leader.specs.Leaders.{Leading}
use Rattle.acceptor.specs.Acceptors.{Acceptances}
use Rattle.slot_log.specs.Requests.{requested}
use Rattle.replica.specs.Replicas.{Replicating}
use Rattle.node.specs.Holding.{Holding}

-- the node of these parts, with its object
abbrev pub held_of : {Op O : Type 0} → Acceptances (Command Op) → ℕ → Leading (Command Op) → SlotBook (Command Op) → Filtered O → Holding Op O
held_of a boot leader b o = record { state = record { acceptor = a; boot = boot; leader = leader; replica = b }; object = o }

-- one that was asked for a command, by an object's rules
abbrev pub asked_held : {O Op Reply : Type 0} → Rules O Op Reply → Holding Op O → Command Op → Holding Op O
asked_held rules h c = record { state = record h.state { replica = requested (is_one rules) h.state.replica c }; object = h.object }

-- a node whose replica was asked for a command, as its rules say
pub requested_held : {O Op Reply : Type 0} (rules : Rules O Op Reply) (same : Op → Op → Bool) → rules.same ≡ same
    → (a : Acceptances (Command Op)) (boot : ℕ) (leader : Leading (Command Op)) (r z : Replicating Op O)
    (c : Command Op) → z ≡ record r { slots = requested (same_commands same) r.slots c } → (h : Holding Op O)
    → held_of a boot leader r.slots r.object ≡ h
    → held_of a boot leader z.slots z.object ≡ asked_held rules h c
requested_held {O} {Op} rules same law a boot leader r z c new h is =
    ap (λ (y : Replicating Op O). held_of a boot leader y.slots y.object) new
    ∙ ap (λ (f : Op → Op → Bool). held_of a boot leader (requested (same_commands f) r.slots c) r.object) (sym law)
    ∙ ap (λ (y : Holding Op O). asked_held rules y c) is
