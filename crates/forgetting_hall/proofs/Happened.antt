-- What an event leaves of what happened in a world.
use Rattle.std.proofs.Common.{◌≡◌, ℕ, List, [], ◌++◌, Some, None, Option, refl, sym, append-nil}
use Rattle.std.specs.Option.{option_to_list}
use Rattle.object.specs.Happenings.{Happenings, with_submission, with_answers}
use Rattle.object.specs.Objects.{Rules}
use Rattle.object.specs.declared.command.Command.{Command}
use Rattle.object.specs.declared.command.Key.{Key}
use Rattle.slot_log.specs.Decisions.{next_decided}
use Rattle.slot_log.specs.Proposals.{next_proposal}
use Rattle.node.specs.Nodes.{NodeState}
use Rattle.node.specs.Deeds.{acted, performing, performs, done_if, outcome_of}
use Rattle.node.specs.Outcomes.{reach_after, key_placed}
use Rattle.node.specs.declared.deed.Deed.{Deed}
use Rattle.node.specs.declared.deed.Deed.TheVariants as deeds
use Rattle.agreement.specs.Nodes.{node}
use Rattle.agreement.specs.Placing.{placed_after}
use Rattle.agreement.specs.Steps.{Step, submit, deliver, wake, nudge, propose, perform, restart, after_performing}
use Rattle.agreement.specs.Events.{event_of}
use Rattle.agreement.specs.Worlds.{World}
use Rattle.agreement.specs.declared.event.Event.{Event}
use Rattle.agreement.specs.declared.event.Event.TheVariants.{Submit, Deliver, Wake, Nudge, Propose, Perform, Restart}
use Rattle.forgetting_hall.specs.Rests.{IsGoingOn}

module _ {O Op Reply : Type 0} (rules : Rules O Op Reply) where
  -- the world once node n has performed what it knows next, but for the count of events
  abbrev then : World Op Reply → ℕ → World Op Reply
  then w n = after_performing rules w n (node w.cluster n).replica (next_decided (node w.cluster n).replica)

  abbrev pub happened : World Op Reply → Event Op → Happenings Op Reply
  happened w (Submit n c) = with_submission c w.happenings
  happened w (Deliver i) = w.happenings
  happened w (Wake n) = w.happenings
  happened w (Nudge n) = w.happenings
  happened w (Propose n) = w.happenings
  happened w (Perform n) = (then w n).happenings
  happened w (Restart n) = w.happenings

  abbrev pub reached : World Op Reply → Event Op → ℕ
  reached w (Submit n c) = w.reach
  reached w (Deliver i) = w.reach
  reached w (Wake n) = w.reach
  reached w (Nudge n) = w.reach
  reached w (Propose n) = w.reach
  reached w (Perform n) = (then w n).reach
  reached w (Restart n) = w.reach

  pub happens : (w v : World Op Reply) (e : Event Op) → Step rules w e v → v.happenings ≡ happened w e
  happens w v e (submit n c member own) = refl
  happens w v e (deliver j l x out at receives) = refl
  happens w v e (wake n member) = refl
  happens w v e (nudge n member) = refl
  happens w v e (propose n member) = refl
  happens w v e (perform n member) = refl
  happens w v e (restart n member) = refl

  pub reaches : (w v : World Op Reply) (e : Event Op) → Step rules w e v → v.reach ≡ reached w e
  reaches w v e (submit n c member own) = refl
  reaches w v e (deliver j l x out at receives) = refl
  reaches w v e (wake n member) = refl
  reaches w v e (nudge n member) = refl
  reaches w v e (propose n member) = refl
  reaches w v e (perform n member) = refl
  reaches w v e (restart n member) = refl

  performed_members : (w : World Op Reply) (n : ℕ) (o : Option (Command Op))
      → (after_performing rules w n (node w.cluster n).replica o).cluster.members ≡ w.cluster.members
  performed_members w n None = refl
  performed_members w n (Some c) = refl

  -- the members are the same
  pub members_stay : (w v : World Op Reply) (e : Event Op) → Step rules w e v → v.cluster.members ≡ w.cluster.members
  members_stay w v e (submit n c member own) = refl
  members_stay w v e (deliver j l x out at receives) = refl
  members_stay w v e (wake n member) = refl
  members_stay w v e (nudge n member) = refl
  members_stay w v e (propose n member) = refl
  members_stay w v e (perform n member) = performed_members w n (next_decided (node w.cluster n).replica)
  members_stay w v e (restart n member) = refl

  module _ (w : World Op Reply) (n : ℕ) where
    abbrev x : NodeState (Command Op)
    x = node w.cluster n

    unanswered : w.happenings ≡ with_answers [] w.happenings
    unanswered = λ i. record w.happenings { answers = sym (append-nil w.happenings.answers) i }

    performing_happened : (o : Option (Command Op)) → (after_performing rules w n x.replica o).happenings ≡ with_answers
        (performing rules x o).answers w.happenings
    performing_happened None = unanswered
    performing_happened (Some c) = refl

    performing_reached : (o : Option (Command Op)) → (after_performing rules w n x.replica o).reach ≡ reach_after w.reach (performs x.replica o)
    performing_reached None = refl
    performing_reached (Some c) = refl

    idle_reached : {X : Type 0} (o : Option X) → w.reach ≡ reach_after w.reach (done_if o)
    idle_reached None = refl
    idle_reached (Some y) = refl

    idle_placed : {X : Type 0} (keys : List Key) (o : Option X) → keys ≡ keys ++ option_to_list (key_placed w.reach (done_if o))
    idle_placed keys None = sym (append-nil keys)
    idle_placed keys (Some y) = sym (append-nil keys)

    -- a node that goes on by itself gives answers,
    pub deed_happened : (d : Deed Op) → IsGoingOn d → happened w (event_of n d) ≡ with_answers (acted rules w.cluster.members n x d).answers w.happenings
    deed_happened (deeds.Request c) own = absurd own
    deed_happened deeds.Wake own = unanswered
    deed_happened deeds.Nudge own = unanswered
    deed_happened deeds.Propose own = unanswered
    deed_happened deeds.Perform own = performing_happened (next_decided x.replica)
    deed_happened deeds.Restart own = absurd own

    -- performs a slot,
    pub deed_reached : (d : Deed Op) → IsGoingOn d → reached w (event_of n d) ≡ reach_after w.reach (outcome_of x d)
    deed_reached (deeds.Request c) own = absurd own
    deed_reached deeds.Wake own = refl
    deed_reached deeds.Nudge own = refl
    deed_reached deeds.Propose own = idle_reached (next_proposal x.replica)
    deed_reached deeds.Perform own = performing_reached (next_decided x.replica)
    deed_reached deeds.Restart own = absurd own

    -- and a command takes effect
    pub deed_placed : (d : Deed Op) → IsGoingOn d → (keys : List Key)
        → placed_after w (event_of n d) keys ≡ keys ++ option_to_list (key_placed w.reach (outcome_of x d))
    deed_placed (deeds.Request c) own keys = absurd own
    deed_placed deeds.Wake own keys = sym (append-nil keys)
    deed_placed deeds.Nudge own keys = sym (append-nil keys)
    deed_placed deeds.Propose own keys = idle_placed keys (next_proposal x.replica)
    deed_placed deeds.Perform own keys = refl
    deed_placed deeds.Restart own keys = absurd own
