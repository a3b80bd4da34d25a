use Rattle.std.proofs.Common.{◌≡◌, ◌^◌, ◌≤◌, length, take}
use Rattle.job_store.specs.Entries.{Rising}
use Rattle.session_store.specs.Drafts.{sessions_before}
use Rattle.session_store.proofs.session_step.take_steps_back.Given as goal

abbrev pub invariant-loop-left : goal.invariant-loop-left
invariant-loop-left l =
    (l.left ≤ length l.steps) ×
    Rising 0 (2 ^ 32) l.sessions.entries ×
    (sessions_before (take l.left l.steps) l.sessions.entries ≡ sessions_before l.steps l.initial.sessions.entries)

abbrev pub decreases-loop-left : goal.decreases-loop-left
decreases-loop-left l = l.left
