-- What a node does by itself. Each case of `acted` is one row of the node table in docs/NODES.md.
use Rattle.std.specs.Prelude.{◌≡◌, ◌⊎◌, ℕ, ◌<◌, ◌^◌, ⊤, true, IsSome, List, [], ◌++◌, Option, None, Some, if◌then◌else◌}
use Rattle.object.specs.declared.command.Answer.{Answer}
use Rattle.object.specs.declared.command.Command.{Command}
use Rattle.object.specs.declared.once.Effect.TheVariants as effects
use Rattle.object.specs.Objects.{Rules, is_one}
use Rattle.object.specs.Obeying.{answers_after}
use Rattle.object.specs.Replays.{is_new}
use Rattle.ballot.specs.Letters.{all_to_all}
use Rattle.ballot.specs.declared.letter.Letter.{Letter}
use Rattle.leader.specs.Leaders.{Leading, Done, woken, says_again}
use Rattle.slot_log.specs.Books.{SlotBook}
use Rattle.slot_log.specs.Requests.{is_known, requested}
use Rattle.slot_log.specs.Proposals.{next_proposal, proposed_next}
use Rattle.slot_log.specs.Decisions.{next_decided}
use Rattle.slot_log.specs.Advances.{advanced}
use Rattle.replica.specs.declared.performed.Performed.{Performed}
use Rattle.replica.specs.Replicas.{proposes_first, nudges}
use Rattle.slot_log.specs.Histories.{history}
use Rattle.node.specs.Nodes.{NodeState, members_of, number_of, restarted}
use Rattle.node.specs.declared.deed.Deed.{Deed}
use Rattle.node.specs.declared.deed.Deed.TheVariants.{Request, Wake, Nudge, Propose, Perform, Restart}
use Rattle.node.specs.declared.deed.Outcome.{Outcome}
use Rattle.node.specs.declared.deed.Outcome.TheVariants as outcomes

-- a node after what its leader did
abbrev pub led : {C : Type 0} → NodeState C → Done (Leading C) C → NodeState C
led x d = record x { leader = d.state }

-- what node x, of number n, sends again
abbrev pub said_again : {C : Type 0} → List ℕ → ℕ → NodeState C → List (Letter C)
said_again members n x = all_to_all members n (says_again x.leader) ++ nudges members n x.replica

-- what a node becomes, the letters that it sends, and the answers that it gives
pub record Turn (Op Reply : Type 0) : Type 0 where
  pub state : NodeState (Command Op)
  pub sent : List (Letter (Command Op))
  pub answers : List (Answer Reply)

-- it becomes this, and says nothing
abbrev pub quietly : {Op Reply : Type 0} → NodeState (Command Op) → Turn Op Reply
quietly x = record { state = x; sent = []; answers = [] }

-- it becomes this, and sends letters
abbrev pub sending : {Op Reply : Type 0} → NodeState (Command Op) → List (Letter (Command Op)) → Turn Op Reply
sending x sent = record { state = x; sent = sent; answers = [] }

-- the command that is decided at its slot_out is performed; where none is known, nothing
abbrev pub performing : {O Op Reply : Type 0} → Rules O Op Reply → NodeState (Command Op) → Option (Command Op) → Turn Op Reply
performing rules x None = quietly x
performing rules x (Some c) = record {
  state = record x { replica = advanced (is_one rules) x.replica };
  sent = [];
  answers = answers_after rules (history x.replica) c;
}

-- node x, of number n among these members, does this
abbrev pub acted : {O Op Reply : Type 0} → Rules O Op Reply → List ℕ → ℕ → NodeState (Command Op) → Deed Op → Turn Op Reply
acted rules members n x (Request c) = quietly (record x { replica = requested (is_one rules) x.replica c })
acted rules members n x Wake = sending (led x (woken x.leader)) (all_to_all members n (woken x.leader).says)
acted rules members n x Nudge = sending x (said_again members n x)
acted rules members n x Propose =
    sending (record x { replica = proposed_next x.replica }) (all_to_all members n (proposes_first (next_proposal x.replica)))
acted rules members n x Perform = performing rules x (next_decided x.replica)
acted rules members n x Restart = quietly (restarted members n x)

-- a node does this, as the member that it is
abbrev pub own_turn : {O Op Reply : Type 0} → Rules O Op Reply → NodeState (Command Op) → Deed Op → Turn Op Reply
own_turn rules x deed = acted rules (members_of x) (number_of x) x deed

-- a replica performs this command: in its slot_out, and it takes effect where its number is greater than each earlier
-- one of its session
abbrev pub performance_of : {Op : Type 0} → SlotBook (Command Op) → Command Op → Performed
performance_of book c = record {
  slot = book.slot_out;
  key = c.key;
  effect = if is_new c (history book) then effects.Done else effects.Stale;
}

abbrev pub done_if : {X : Type 0} → Option X → Outcome
done_if None = outcomes.Idle
done_if (Some x) = outcomes.Done

abbrev pub performs : {Op : Type 0} → SlotBook (Command Op) → Option (Command Op) → Outcome
performs book None = outcomes.Idle
performs book (Some c) = outcomes.Performed (performance_of book c)

-- what came of a deed: nothing where no request can be proposed, or no decision is known to perform
abbrev pub outcome_of : {Op : Type 0} → NodeState (Command Op) → Deed Op → Outcome
outcome_of x (Request c) = outcomes.Done
outcome_of x Wake = outcomes.Done
outcome_of x Nudge = outcomes.Done
outcome_of x Propose = done_if (next_proposal x.replica)
outcome_of x Perform = performs x.replica (next_decided x.replica)
outcome_of x Restart = outcomes.Done

-- a restart has a boot left
abbrev pub IsAble : {Op C : Type 0} → NodeState C → Deed Op → Type 0
IsAble x (Request c) = ⊤
IsAble x Wake = ⊤
IsAble x Nudge = ⊤
IsAble x Propose = ⊤
IsAble x Perform = ⊤
IsAble x Restart = x.boot < 2 ^ 62

-- there is nothing to do: the request is known, the leader is active or has a scout, no request
-- can be proposed, or no decision is known to perform
abbrev pub ComesToNothing : {O Op Reply : Type 0} → Rules O Op Reply → NodeState (Command Op) → Deed Op → Type 0
ComesToNothing rules x (Request c) = is_known (is_one rules) x.replica c ≡ true
ComesToNothing rules x Wake = (x.leader.active ≡ true) ⊎ IsSome x.leader.scout
ComesToNothing rules x Nudge = ⊥
ComesToNothing rules x Propose = next_proposal x.replica ≡ None
ComesToNothing rules x Perform = next_decided x.replica ≡ None
ComesToNothing rules x Restart = ⊥
