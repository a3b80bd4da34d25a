use Rattle.std.proofs.Common.{◌≡◌, ℕ, ◌+◌, ◌<◌, Some}
use Rattle.std.specs.Prelude.{slice_get}
use Rattle.hall.specs.declared.ticket.NotedAct.{NotedAct}
use Rattle.hall.specs.Halls.{IsBorneOut}
use Rattle.hall.proofs.hall.Hall.bears_out_all.Given as goal

-- the acts so far are borne out
abbrev pub invariant-loop-place : goal.invariant-loop-place
invariant-loop-place g l = (i : ℕ) (a : NotedAct g.row.O-Op.Denot g.row.O-Reply.Denot) → i < l.place
    → slice_get l.acts i ≡ Some a → IsBorneOut l.self (record { session = l.session; number = i + 1 }) a
