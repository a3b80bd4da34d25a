-- Recorded nodes, as their fields have them and as calls see them.
use Rattle.std.proofs.Common.{◌≡◌, ℕ, ◌+◌, true, List, [], ◌++◌, Some, refl, sym, ap, ◌∙◌, subst}
use Rattle.object.specs.declared.command.Answer.{Answer}
use Rattle.object.specs.declared.command.Command.{Command}
use Rattle.object.specs.declared.command.Key.{Key}
use Rattle.object.specs.Happenings.{is_submitted}
use Rattle.object.specs.Lists.{In}
use Rattle.object.specs.Objects.{Rules}
use Rattle.ballot.specs.declared.letter.Letter.{Letter}
use Rattle.node.specs.Deeds.{outcome_of}
use Rattle.node.specs.declared.deed.Deed.{Deed}
use Rattle.node.specs.declared.deed.Outcome.{Outcome}
use Rattle.network.specs.Networks.{NetworkState, node_of, mail_of, front, turn_of, IsDelivered}
use Rattle.recorder.specs.Records.{Record, with_first_answers}
use Rattle.node.specs.Outcomes.{key_placed}
use Rattle.hall.specs.Recorded.{RecordedState, HasReceived}

module _ {Op Reply : Type 0} (k j : RecordedState Op Reply) (is : k ≡ j) (n : ℕ) where
  -- a letter was received
  pub received_so : (z : NetworkState (Command Op))
      → ((l : Letter (Command Op)) → front (mail_of k.network n) ≡ Some l → IsDelivered k.network n l z)
      → (l : Letter (Command Op)) → front (mail_of j.network n) ≡ Some l
      → HasReceived j n l (record { network = z; past = k.past; reach = k.reach; taken = k.taken + 1 })
  received_so z delivered = subst
      (λ (i : RecordedState Op Reply). (l : Letter (Command Op)) → front (mail_of i.network n) ≡ Some l
      → HasReceived i n l (record { network = z; past = k.past; reach = k.reach; taken = k.taken + 1 })) is
      (λ l e. (z, delivered l e, refl))

  -- what was answered was submitted
  pub answered_so : {O : Type 0} (rules : Rules O Op Reply) (d : Deed Op)
      → ((a : Answer Reply) → In a (turn_of rules j.network n d).answers
      → is_submitted a.to j.past.happenings.submitted ≡ true) → (old now : List (Answer Reply)) → old ≡ []
      → now ≡ old ++ (turn_of rules k.network n d).answers → (a : Answer Reply) → In a now
      → is_submitted a.to k.past.happenings.submitted ≡ true
  answered_so rules d known old now none more a i =
      ap (λ (r : RecordedState Op Reply). is_submitted a.to r.past.happenings.submitted) is
      ∙ known a (subst (In a) (more ∙ ap (λ xs. xs ++ (turn_of rules k.network n d).answers) none ∙ ap
      (λ (r : RecordedState Op Reply). (turn_of rules r.network n d).answers) is) i)

  -- and so was what takes effect
  pub placed_so : (d : Deed Op) → ((key : Key) → key_placed j.reach (outcome_of (node_of j.network n) d) ≡ Some key
      → is_submitted key j.past.happenings.submitted ≡ true) → (given : List (Answer Reply)) (r : Record Op Reply)
      → r ≡ with_first_answers given k.past → (came : Outcome) → came ≡ outcome_of (node_of k.network n) d → (key : Key)
      → key_placed k.reach came ≡ Some key → is_submitted key r.happenings.submitted ≡ true
  placed_so d known given r now came out key e =
      ap (λ (q : Record Op Reply). is_submitted key q.happenings.submitted) now
      ∙ ap (λ (i : RecordedState Op Reply). is_submitted key i.past.happenings.submitted) is
      ∙ known key (ap (λ (i : RecordedState Op Reply). key_placed i.reach (outcome_of (node_of i.network n) d))
      (sym is) ∙ ap (key_placed k.reach) (sym out) ∙ e)
