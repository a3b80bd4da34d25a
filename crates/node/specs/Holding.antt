-- A node with the object that its replica holds: its answers come from the object, and not from what it performed, of which
-- it may have forgotten some.
use Rattle.std.specs.Prelude.{ℕ, List, [], Option, None, Some, if◌then◌else◌}
use Rattle.std.specs.FinMap.{empty}
use Rattle.object.specs.declared.command.Answer.{Answer}
use Rattle.object.specs.declared.command.Command.{Command}
use Rattle.object.specs.declared.once.Effect.TheVariants as effects
use Rattle.object.specs.Objects.{Rules, is_one}
use Rattle.object.specs.OnceOnly.{Filtered, filtered, filtered_answers, is_later}
use Rattle.ballot.specs.declared.letter.Letter.{Letter}
use Rattle.slot_log.specs.Advances.{advanced}
use Rattle.slot_log.specs.Decisions.{next_decided}
use Rattle.slot_log.specs.Proposals.{next_proposal}
use Rattle.node.specs.Nodes.{NodeState, members_of, number_of}
use Rattle.node.specs.Deeds.{Turn, acted, done_if}
use Rattle.node.specs.declared.deed.Deed.{Deed}
use Rattle.node.specs.declared.deed.Deed.TheVariants.{Request, Wake, Nudge, Propose, Perform, Restart}
use Rattle.node.specs.declared.deed.Outcome.{Outcome}
use Rattle.node.specs.declared.deed.Outcome.TheVariants as outcomes

-- a node, and its object behind the filter
pub record Holding (Op O : Type 0) : Type 0 where
  pub state : NodeState (Command Op)
  pub object : Filtered O

-- what it becomes, sends and answers
pub record HeldTurn (Op O Reply : Type 0) : Type 0 where
  pub state : Holding Op O
  pub sent : List (Letter (Command Op))
  pub answers : List (Answer Reply)

-- its object stays
abbrev pub holding_on : {Op O Reply : Type 0} → Filtered O → Turn Op Reply → HeldTurn Op O Reply
holding_on o t = record { state = record { state = t.state; object = o }; sent = t.sent; answers = t.answers }

-- its object obeys the command that is decided at its slot_out, and answers; where none is known, nothing
abbrev pub performing_held : {O Op Reply : Type 0} → Rules O Op Reply → Holding Op O → Option (Command Op) → HeldTurn Op O Reply
performing_held rules h None = record { state = h; sent = []; answers = [] }
performing_held rules h (Some c) = record {
  state = record {
    state = record h.state { replica = advanced (is_one rules) h.state.replica };
    object = filtered rules.after h.object c;
  };
  sent = [];
  answers = filtered_answers rules.answers h.object c;
}

-- a new object, whose filter has seen no command
abbrev pub new_object : {O Op Reply : Type 0} → Rules O Op Reply → Filtered O
new_object rules = record { object = rules.fresh; latest = empty }

-- it begins anew, with a new object
abbrev pub restarting_held : {O Op Reply : Type 0} → Rules O Op Reply → Turn Op Reply → HeldTurn Op O Reply
restarting_held rules t = holding_on (new_object rules) t

-- node n of these members does this: what a node does, but that its object answers
abbrev pub turned_held : {O Op Reply : Type 0} → Rules O Op Reply → List ℕ → ℕ → Holding Op O → Deed Op → HeldTurn Op O Reply
turned_held rules members n h (Request c) = holding_on h.object (acted rules members n h.state (Request c))
turned_held rules members n h Wake = holding_on h.object (acted rules members n h.state Wake)
turned_held rules members n h Nudge = holding_on h.object (acted rules members n h.state Nudge)
turned_held rules members n h Propose = holding_on h.object (acted rules members n h.state Propose)
turned_held rules members n h Perform = performing_held rules h (next_decided h.state.replica)
turned_held rules members n h Restart = restarting_held rules (acted rules members n h.state Restart)

-- a node does this, as the member that it is
abbrev pub own_turn_held : {O Op Reply : Type 0} → Rules O Op Reply → Holding Op O → Deed Op → HeldTurn Op O Reply
own_turn_held rules h deed = turned_held rules (members_of h.state) (number_of h.state) h deed

-- what comes of performing: a command takes effect where the filter lets it through
abbrev pub performs_held : {Op O : Type 0} → Holding Op O → Option (Command Op) → Outcome
performs_held h None = outcomes.Idle
performs_held h (Some c) = outcomes.Performed (record {
  slot = h.state.replica.slot_out;
  key = c.key;
  effect = if is_later c.key h.object.latest then effects.Done else effects.Stale;
})

-- and of a deed
abbrev pub outcome_held : {Op O : Type 0} → Holding Op O → Deed Op → Outcome
outcome_held h (Request c) = outcomes.Done
outcome_held h Wake = outcomes.Done
outcome_held h Nudge = outcomes.Done
outcome_held h Propose = done_if (next_proposal h.state.replica)
outcome_held h Perform = performs_held h (next_decided h.state.replica)
outcome_held h Restart = outcomes.Done
