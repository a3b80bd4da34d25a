-- Whose a job is, and when a hold ends.
use Rattle.std.specs.Prelude.{◌≡◌, ℕ, ◌+◌, ◌≤◌, Bool, true, false, ◌&&◌, List, [], ◌∷◌, ◌++◌, filter, length, Option, None, Some, ◌==◌, if◌then◌else◌}
use Rattle.std.specs.List.{list_any}
use Rattle.object.specs.Lists.{In}
use Rattle.object.specs.declared.command.Act.{Act}
use Rattle.object.specs.declared.command.Answer.{Answer}
use Rattle.object.specs.declared.command.Command.{Command}
use Rattle.job_store.specs.declared.job.Job.{Job}
use Rattle.job_store.specs.Entries.{value_at}
use Rattle.bean_words.specs.declared.op.Op.{Op}
use Rattle.bean_words.specs.declared.reply.Reply.{Reply}
use Rattle.bean_queue.specs.Queue.{QueueState}
use Rattle.bean_queue.specs.Places.{QueuePlace, queue_places, placed_from, queue_replay}

-- the reply hands the job id out, as RESERVED
abbrev pub hands_out : ℕ → Reply → Bool
hands_out id (Reply.Reserved j body) = id == j
hands_out id _ = false

-- the reply is TOUCHED
abbrev pub is_touched : Reply → Bool
is_touched Reply.Touched = true
is_touched _ = false

-- the act is a touch of the job id
abbrev pub is_touch : ℕ → Act Op → Bool
is_touch id (Act.Do (Op.Touch j)) = id == j
is_touch id _ = false

-- the answers that hand the job id out
abbrev pub handing_out : ℕ → List (Answer Reply) → List (Answer Reply)
handing_out id answers = filter (λ a. hands_out id a.reply) answers

-- at this place session x gets the job id RESERVED
abbrev pub Gets : QueuePlace → ℕ → ℕ → Type 0
Gets p x id = (a : Answer Reply) × In a (handing_out id p.answers) × (a.to.session ≡ x)

-- the command at this place is session x's op, and its answer there is the reply
abbrev pub Does : QueuePlace → ℕ → Op → Reply → Type 0
Does p x op reply =
    (p.command.key.session ≡ x) ×
    (p.command.act ≡ Act.Do op) ×
    In (record { to = p.command.key; reply = reply }) p.answers

-- session x's hold of the job id, due at the second `due`, ends at this place
pub data Ends (p : QueuePlace) (x id due : ℕ) : Type 0 where
  deleted : Does p x (Op.Delete id) Reply.Deleted → Ends p x id due
  released : (pri delay : ℕ) → Does p x (Op.Release id pri delay) Reply.Released → Ends p x id due
  buried : (pri : ℕ) → Does p x (Op.Bury id pri) Reply.Buried → Ends p x id due
  closed : p.command.key.session ≡ x → p.command.act ≡ Act.Close → Ends p x id due
  came_due : p.command.act ≡ Act.Tick → due ≤ p.command.key.number → Ends p x id due

-- at this place session x touches the job id, and is answered TOUCHED
abbrev pub touches : QueuePlace → ℕ → ℕ → Bool
touches p x id =
    is_touch id p.command.act && (p.command.key.session == x && list_any (λ a. is_touched a.reply) p.answers)

-- the second from which the time to run counts, after these places: that of x's last TOUCHED of the job, else the first
abbrev pub counts_from : ℕ → ℕ → ℕ → List QueuePlace → ℕ
counts_from x id second [] = second
counts_from x id second (p ∷ ps) = counts_from x id (if touches p x id then p.state.now else second) ps

-- the time to run of the job that there may be
abbrev pub ttr_in : Option Job → ℕ
ttr_in None = 0
ttr_in (Some job) = job.ttr

-- the time to run of a job
abbrev pub ttr_of : ℕ → QueueState → ℕ
ttr_of id s = ttr_in (value_at id s.jobs)

-- no place gives two RESERVED of one job
abbrev pub IsGivenOnce : List QueuePlace → Type 0
IsGivenOnce ps =
    (before rest : List QueuePlace) (p : QueuePlace) (id : ℕ) →
    ps ≡ before ++ p ∷ rest →
    length (handing_out id p.answers) ≤ 1

-- x's hold of the job, which counts from the second, has ended by the place q: at some r after these places began, and at most at q
abbrev pub HasEnded : List QueuePlace → QueuePlace → ℕ → ℕ → ℕ → ℕ → Type 0
HasEnded between q x id second ttr =
    (until : List QueuePlace) ×
    (r : QueuePlace) ×
    (rest : List QueuePlace) ×
    (between ++ q ∷ [] ≡ until ++ r ∷ rest) ×
    Ends r x id (counts_from x id second until + ttr)

-- where a place p gives x the job and a later place q gives it again, x's hold has ended after p and at most at q
abbrev pub IsHeldByOne : List QueuePlace → Type 0
IsHeldByOne ps =
    (before between rest : List QueuePlace) (p q : QueuePlace) (x y id : ℕ) →
    ps ≡ before ++ p ∷ (between ++ q ∷ rest) →
    Gets p x id →
    Gets q y id →
    HasEnded between q x id p.state.now (ttr_of id p.state)

-- no job is held by two sessions at once in the places of these commands, which are those of the replay
pub record HasOneHolder (commands : List (Command Op)) : Type 0 where
  pub once : IsGivenOnce (queue_places commands)
  pub ended : IsHeldByOne (queue_places commands)
  pub replay : queue_replay commands ≡ placed_from 0 (queue_places commands)
