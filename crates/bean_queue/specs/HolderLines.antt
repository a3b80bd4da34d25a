-- Lines of sessions that wait and have a job that is due soon.
use Rattle.std.specs.Prelude.{◌≡◌, ℕ, true, ◌&&◌, List, Option}
use Rattle.std.specs.declared.cmp.Ordering.{Ordering}
use Rattle.std.specs.Ordering.{nat_cmp, ordering_then}
use Rattle.std.specs.BTreeSet.{contains}
use Rattle.object.specs.Lists.{In}
use Rattle.job_store.specs.declared.job.Job.{Job}
use Rattle.session_store.specs.declared.session.SessionState.{SessionState}
use Rattle.session_store.specs.Lines.{place, stander_at}
use Rattle.session_store.specs.Sessions.{is_waiting, wait_rank}
use Rattle.bean_queue.specs.declared.holder_line.HolderLine.{HolderLine}
use Rattle.bean_queue.specs.Holders.{waits_at}
use Rattle.bean_queue.specs.Queue.{holds_by}

-- places go by the rank, and then by the session's number
abbrev pub rank_cmp : ℕ × ℕ → ℕ × ℕ → Ordering
rank_cmp p q = ordering_then (nat_cmp p.0 q.0) (nat_cmp p.1 q.1)

-- the place of a session: the rank of its wait, and its number
abbrev pub holder_place : ℕ × SessionState → ℕ × ℕ
holder_place e = (wait_rank e.1, e.0)

-- the place is in the line
abbrev pub IsInLine : HolderLine → ℕ × ℕ → Type 0
IsInLine line p = contains rank_cmp line.places p ≡ true

-- each waiting session with one of these numbers stands in the line
abbrev pub HaveJoined : HolderLine → List ℕ → List (ℕ × SessionState) → Type 0
HaveJoined line numbers sessions =
    (w : ℕ × SessionState) → In w sessions → is_waiting w.1 ≡ true → In w.0 numbers → IsInLine line (holder_place w)

-- each waiting session that has a job due by this second stands in the line
abbrev pub HasAllHolders : HolderLine → ℕ → List (ℕ × Job) → List (ℕ × SessionState) → Type 0
HasAllHolders line second jobs sessions =
    (w : ℕ × SessionState) →
    In w sessions →
    is_waiting w.1 ≡ true →
    holds_by w.0 second jobs ≡ true →
    IsInLine line (holder_place w)

-- the session at a place, if it waits there and has a job that is due by this second
abbrev pub holder_at : ℕ → List (ℕ × Job) → List (ℕ × SessionState) → ℕ × ℕ → Option (ℕ × SessionState)
holder_at second jobs sessions p = stander_at (λ e. is_waiting e.1 && holds_by e.0 second jobs) sessions (place p.0 p.1)

-- one of these numbers is that of a session that waits
abbrev pub IsSomeWaiter : List ℕ → List (ℕ × SessionState) → Type 0
IsSomeWaiter numbers sessions = (x : ℕ) × In x numbers × (waits_at sessions x ≡ true)
