-- What the calls inside the queue require, and what they do with a draft: with what is so now, and what was kept last.
use Rattle.std.specs.Prelude.{◌≡◌, ℕ, ◌^◌, ◌++◌, ◌∷◌, [], ◌==◌, Bool, false, List, Option, None, Some, Result, IsSome, IfOk, OnOk, OnErr}
use Rattle.indexmap.specs.IndexSet.{IndexSet}
use Rattle.object.specs.declared.command.Answer.{Answer}
use Rattle.object.specs.declared.command.Key.{Key}
use Rattle.job_store.specs.declared.job.Job.{Job}
use Rattle.job_store.specs.Entries.{value_at}
use Rattle.session_store.specs.Drafts.{Draft}
use Rattle.bean_words.specs.declared.op.Op.{Op}
use Rattle.bean_words.specs.declared.reply.Reply.{Reply}
use Rattle.bean_queue.specs.Queue.{QueueState}
use Rattle.bean_queue.specs.Rows.{Row}
use Rattle.bean_queue.specs.Turns.{QueueOutcome, QueueTurn, IsTurn, serve_turn}
use Rattle.bean_queue.specs.Effects.{has_no_number, is_quiet}
use Rattle.bean_queue.specs.Reserving.{is_reserve}
use Rattle.bean_queue.specs.Woken.{AreWoken}

-- What is required

-- the operation is quiet, or it is not, and nothing is left to give
pub record CanObey (quiet : Bool) (op : Op) (s : QueueState) : Type 0 where
  pub kind : is_quiet op ≡ quiet
  pub calm : serve_turn s ≡ None

-- and a number is left for it
pub record CanCarryOut (quiet : Bool) (op : Op) (s : QueueState) : Type 0 where
  pub kind : is_quiet op ≡ quiet
  pub numbered : has_no_number op s ≡ false
  pub calm : serve_turn s ≡ None

-- the session is there, and a number is left for its operation, which may make jobs ready
pub record CanWake (op : Op) (key : Key) (s : QueueState) : Type 0 where
  pub there : IsSome (value_at key.session s.sessions)
  pub loud : is_quiet op ≡ false
  pub waking : is_reserve op ≡ false
  pub numbered : has_no_number op s ≡ false

-- the session is there, and a rank is left
pub record CanReserve (key : Key) (s : QueueState) : Type 0 where
  pub there : IsSome (value_at key.session s.sessions)
  pub numbered : (s.next_rank == 2 ^ 63) ≡ false

-- What is done

-- the state and the reply are the row's; what was kept stays
pub record DraftsRow {E : Type 0} (old new : Draft QueueState) (row : Row) (result : Result Reply E) : Type 0 where
  pub state : OnOk result (new.now ≡ row.state)
  pub reply : IfOk result (λ reply. row.reply ≡ Some reply)
  pub before : new.before ≡ old.before

-- the state and the reply are the row's; where memory was refused, what was kept stays
pub record DoesRow {E : Type 0} (old new : Draft QueueState) (row : Row) (result : Result Reply E) : Type 0 where
  pub state : OnOk result (new.now ≡ row.state)
  pub reply : IfOk result (λ reply. row.reply ≡ Some reply)
  pub err : OnErr result (new.before ≡ old.before)

-- the state is the outcome's, and the reply its one answer; where memory was refused, what was kept stays
pub record DoesQuietly {E : Type 0} (key : Key) (old new : Draft QueueState) (outcome : QueueOutcome) (result : Result Reply E) : Type 0 where
  pub state : OnOk result (new.now ≡ outcome.state)
  pub reply : IfOk result (λ reply. outcome.answers ≡ record { to = key; reply = reply } ∷ [])
  pub err : OnErr result (new.before ≡ old.before)

-- the state is the outcome's, and its answers come after those that were there; what was kept stays
pub record DraftsOutcome {X E : Type 0} (old new : Draft QueueState) (xs ys : List (Answer Reply)) (outcome : QueueOutcome)
    (result : Result X E) : Type 0 where
  pub state : OnOk result (new.now ≡ outcome.state)
  pub answers : OnOk result (ys ≡ xs ++ outcome.answers)
  pub before : new.before ≡ old.before

-- this is so now, and each job that it makes ready is in one of the tubes that are told; what was kept stays
pub record DraftsWaking {X S E : Type 0} (jobs : X → List (ℕ × Job)) (old new : Draft X) (state : X)
    (result : Result (IndexSet (List ℕ) S) E) : Type 0 where
  pub now : OnOk result (new.now ≡ state)
  pub woken : IfOk result (λ tubes. AreWoken tubes.keys (jobs old.now) (jobs new.now))
  pub before : new.before ≡ old.before

-- one turn is made, where there is one; what was kept stays
pub record DraftsTurn {E : Type 0} (next : QueueState → Option QueueTurn) (old new : Draft QueueState) (xs ys : List (Answer Reply))
    (result : Result Bool E) : Type 0 where
  pub turn : IfOk result (λ more. IsTurn next old.now new.now xs ys more)
  pub before : new.before ≡ old.before

-- the queue has obeyed, and its answers come after those that were there; or memory was refused, and nothing has changed
pub record HasObeyed {E : Type 0} (old new : QueueState) (xs ys : List (Answer Reply)) (outcome : QueueOutcome)
    (result : Result Unit E) : Type 0 where
  pub state : OnOk result (new ≡ outcome.state)
  pub out : OnOk result (ys ≡ xs ++ outcome.answers)
  pub err : OnErr result ((new ≡ old) × (ys ≡ xs))
