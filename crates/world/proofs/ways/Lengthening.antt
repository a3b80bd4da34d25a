-- Events add letters behind those that were sent.
use Rattle.std.proofs.Common.{ℕ, List, [], Option, None, Some, refl}
use Rattle.object.specs.Lists.{IsBeginning}
use Rattle.object.specs.Objects.{Rules}
use Rattle.object.specs.declared.command.Command.{Command}
use Rattle.slot_log.specs.Books.{SlotBook}
use Rattle.slot_log.specs.Decisions.{next_decided}
use Rattle.agreement.specs.Nodes.{node}
use Rattle.agreement.specs.Worlds.{World}
use Rattle.agreement.specs.Steps.{Step, submit, deliver, wake, nudge, propose, perform, restart, after_performing}
use Rattle.agreement.specs.Runs.{Leads, at_once, after}
use Rattle.agreement.specs.declared.event.Event.{Event}
use Rattle.agreement.proofs.chosen.Growing.{beginning_trans, same_beginning}

module _ {O Op Reply : Type 0} (rules : Rules O Op Reply) where
  performed_letters : (w : World Op Reply) (n : ℕ) (book : SlotBook (Command Op)) (o : Option (Command Op))
      → IsBeginning w.cluster.letters (after_performing rules w n book o).cluster.letters
  performed_letters w n book None = same_beginning w.cluster.letters w.cluster.letters refl
  performed_letters w n book (Some c) = ([], refl)

  step_letters : (w v : World Op Reply) (e : Event Op) → Step rules w e v → IsBeginning w.cluster.letters v.cluster.letters
  step_letters w _ e (submit n c member own) = ([], refl)
  step_letters w _ e (deliver j l x out at receives) = (out, refl)
  step_letters w _ e (wake n member) = (_, refl)
  step_letters w _ e (nudge n member) = (_, refl)
  step_letters w _ e (propose n member) = (_, refl)
  step_letters w _ e (perform n member) = performed_letters w n (node w.cluster n).replica (next_decided (node w.cluster n).replica)
  step_letters w _ e (restart n member) = ([], refl)

  pub leads_letters : (w v : World Op Reply) (es : List (Event Op)) → Leads rules w es v → IsBeginning w.cluster.letters v.cluster.letters
  leads_letters w _ _ at_once = same_beginning w.cluster.letters w.cluster.letters refl
  leads_letters w v _ (after {es = es} {v = u} e _ led step) =
      beginning_trans w.cluster.letters u.cluster.letters v.cluster.letters (leads_letters w u es led)
      (step_letters u v e step)
