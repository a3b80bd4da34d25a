-- Worked rows, computed.
use Rattle.std.proofs.Common.{◌≡◌, ℕ, List, [], ◌∷◌, Option, Some, None, map, option_map, codes, refl}
use Rattle.object.specs.Replays.{kept}
use Rattle.object.specs.declared.command.Act.{Act}
use Rattle.object.specs.declared.command.Answer.{Answer}
use Rattle.object.specs.declared.command.Command.{Command}
use Rattle.job_store.specs.declared.history.History.{History}
use Rattle.job_store.specs.Entries.{value_at}
use Rattle.bean_words.specs.declared.op.Op.{Op}
use Rattle.bean_words.specs.declared.reply.Reply.{Reply}
use Rattle.bean_queue.specs.Queue.{QueueState, fresh}
use Rattle.bean_queue.specs.Rows.{row, put_row, reserve_row, delete_row, kick_row, kicked, kick_job_row, use_row, watch_row, bury_row, peek_row}
use Rattle.bean_queue.specs.Tubes.{all_tubes}
use Rattle.bean_queue.specs.Rows.{touch_row, release_row}
use Rattle.bean_queue.specs.Turns.{turns, all_turns, given, serve_turn, told_turn, deadline_turn, timeout_turn, serve}
use Rattle.bean_queue.specs.Effects.{turned_away, carried_out, do_effect, close_effect, tick_effect, act_effect, effect}
use Rattle.bean_queue.specs.Places.{queue_replay}

-- session x's n-th command asks for an operation
abbrev asks : ℕ → ℕ → Op → Command Op
asks x n op = record { key = record { session = x; number = n }; act = Act.Do op }

-- or ends it
abbrev closes : ℕ → ℕ → Command Op
closes x n = record { key = record { session = x; number = n }; act = Act.Close }

-- a second comes
abbrev tick : ℕ → Command Op
tick t = record { key = record { session = 0; number = t }; act = Act.Tick }

-- a reply to session x's n-th command
abbrev to : ℕ → ℕ → Reply → Answer Reply
to x n reply = record { to = record { session = x; number = n }; reply = reply }

-- the answers of a new queue to the commands that are kept
abbrev all_answers : List (Command Op) → List (Answer Reply)
all_answers cs = map (λ p. p.answer) (queue_replay (kept cs))

abbrev hi : List ℕ
hi = 104 ∷ 105 ∷ []

abbrev j : List ℕ
j = 106 ∷ []

-- a session that waits gets the job that another puts
a_wait_is_served :
    all_answers (asks 1 1 (Op.Reserve None) ∷ asks 2 1 (Op.Put 0 0 60 hi) ∷ []) ≡
    to 2 1 (Reply.Inserted 1) ∷ to 1 1 (Reply.Reserved 1 hi) ∷ []
unfolding effect act_effect do_effect carried_out turned_away row put_row reserve_row serve all_turns turns serve_turn given
a_wait_is_served = refl

-- a job whose time ran out is another's, and no longer the first one's to delete
time_runs_out :
    all_answers
    (
    asks 1 1 (Op.Put 0 0 3 j) ∷
    asks 1 2 (Op.Reserve None) ∷
    tick 1 ∷
    tick 2 ∷
    asks 1 3 (Op.Reserve None) ∷
    tick 3 ∷
    asks 2 1 (Op.Reserve None) ∷
    asks 1 4 (Op.Delete 1) ∷
    []
    ) ≡
    to 1 1 (Reply.Inserted 1) ∷
    to 1 2 (Reply.Reserved 1 j) ∷
    to 1 3 Reply.DeadlineSoon ∷
    to 2 1 (Reply.Reserved 1 j) ∷
    to 1 4 Reply.NotFound ∷
    []
unfolding effect act_effect do_effect carried_out tick_effect turned_away row put_row reserve_row delete_row serve
    all_turns turns serve_turn given deadline_turn timeout_turn told_turn
time_runs_out = refl

-- a delayed job is ready in the second that is due; a second that came before does nothing
a_delay_is_over :
    all_answers
    (asks 1 1 (Op.Put 0 4 10 j) ∷ tick 5 ∷ tick 5 ∷ tick 3 ∷ asks 1 2 (Op.Reserve (Some 0)) ∷ []) ≡
    to 1 1 (Reply.Inserted 1) ∷ to 1 2 (Reply.Reserved 1 j) ∷ []
unfolding effect act_effect do_effect carried_out tick_effect turned_away row put_row reserve_row delete_row serve
    all_turns turns serve_turn given deadline_turn timeout_turn told_turn
a_delay_is_over = refl

-- a command whose number is not above those before is not obeyed
a_late_command :
    all_answers
    (closes 1 2 ∷ asks 1 1 (Op.Reserve None) ∷ asks 2 1 (Op.Put 0 0 9 j) ∷ asks 2 2 (Op.Reserve None) ∷ []) ≡
    to 2 1 (Reply.Inserted 1) ∷ to 2 2 (Reply.Reserved 1 j) ∷ []
unfolding effect act_effect do_effect carried_out close_effect turned_away row put_row reserve_row delete_row serve all_turns turns serve_turn given
a_late_command = refl

-- the end of a session gives its job to the next that waits
a_close_serves :
    all_answers
    (
    asks 1 1 (Op.Reserve None) ∷
    asks 2 1 (Op.Reserve None) ∷
    asks 3 1 (Op.Put 3 0 9 j) ∷
    closes 1 2 ∷
    []
    ) ≡
    to 3 1 (Reply.Inserted 1) ∷ to 1 1 (Reply.Reserved 1 j) ∷ to 2 1 (Reply.Reserved 1 j) ∷ []
unfolding effect act_effect do_effect carried_out close_effect turned_away row put_row reserve_row delete_row serve all_turns turns serve_turn given
a_close_serves = refl

-- a job that is buried, kicked and looked for
a_kick_and_a_peek :
    all_answers
    (
    asks 1 1 (Op.Put 5 0 9 j) ∷
    asks 1 2 (Op.Reserve None) ∷
    asks 1 3 (Op.Bury 1 7) ∷
    asks 1 4 Op.PeekBuried ∷
    asks 1 5 (Op.Kick 4294967295) ∷
    asks 1 6 Op.PeekReady ∷
    asks 1 7 (Op.KickJob 1) ∷
    asks 1 8 (Op.Kick 1) ∷
    []
    ) ≡
    to 1 1 (Reply.Inserted 1) ∷
    to 1 2 (Reply.Reserved 1 j) ∷
    to 1 3 Reply.Buried ∷
    to 1 4 (Reply.Found 1 j) ∷
    to 1 5 (Reply.KickedCount 1) ∷
    to 1 6 (Reply.Found 1 j) ∷
    to 1 7 Reply.NotFound ∷
    to 1 8 (Reply.KickedCount 0) ∷
    []
unfolding effect act_effect do_effect carried_out turned_away row put_row reserve_row delete_row bury_row peek_row
    kick_row kick_job_row kicked serve all_turns turns serve_turn given
a_kick_and_a_peek = refl

-- lists of tubes
lists_of_tubes :
    all_answers
    (asks 1 1 (Op.Use (98 ∷ [])) ∷ asks 1 2 (Op.Watch (97 ∷ [])) ∷ asks 1 3 Op.ListTubes ∷ asks 1 4 Op.ListTubesWatched ∷ []) ≡
    to 1 1 (Reply.Using (98 ∷ [])) ∷
    to 1 2 (Reply.Watching 2) ∷
    to 1 3 (Reply.Tubes ((97 ∷ []) ∷ (98 ∷ []) ∷ codes "default" ∷ [])) ∷
    to 1 4 (Reply.Tubes (codes "default" ∷ (97 ∷ []) ∷ [])) ∷
    []
unfolding effect act_effect do_effect carried_out turned_away row use_row watch_row all_tubes serve all_turns turns serve_turn given
lists_of_tubes = refl

-- the history of the first job after each of the commands
abbrev histories : QueueState → List (Command Op) → List (Option History)
histories s [] = []
histories s (c ∷ cs) =
    let after = (effect c s).state in
    option_map (λ job. job.history) (value_at 1 after.jobs) ∷ histories after cs

-- the history of a job that was put in the second 2
abbrev counts : ℕ → ℕ → ℕ → ℕ → ℕ → ℕ → Option History
counts delay reserves timeouts releases buries kicks = Some (record {
  put_at = 2;
  delay = delay;
  reserves = reserves;
  timeouts = timeouts;
  releases = releases;
  buries = buries;
  kicks = kicks;
})

-- a job's whole life: touches, ends of a delay and ends of a session are not counted
a_life :
    histories
    fresh
    (
    tick 2 ∷
    asks 1 1 (Op.Put 5 3 4 j) ∷
    tick 5 ∷
    asks 1 2 (Op.Reserve None) ∷
    asks 1 3 (Op.Touch 1) ∷
    asks 1 4 (Op.Release 1 6 2) ∷
    asks 2 1 (Op.Kick 9) ∷
    asks 2 2 (Op.Reserve None) ∷
    asks 1 5 (Op.Bury 1 7) ∷
    asks 2 3 (Op.Bury 1 7) ∷
    asks 1 6 (Op.KickJob 1) ∷
    asks 1 7 (Op.KickJob 1) ∷
    asks 1 8 (Op.Reserve None) ∷
    asks 2 4 (Op.Reserve None) ∷
    tick 9 ∷
    closes 2 5 ∷
    asks 1 9 (Op.Delete 1) ∷
    []
    ) ≡
    None ∷
    counts 3 0 0 0 0 0 ∷
    counts 3 0 0 0 0 0 ∷
    counts 3 1 0 0 0 0 ∷
    counts 3 1 0 0 0 0 ∷
    counts 2 1 0 1 0 0 ∷
    counts 2 1 0 1 0 1 ∷
    counts 2 2 0 1 0 1 ∷
    counts 2 2 0 1 0 1 ∷
    counts 2 2 0 1 1 1 ∷
    counts 2 2 0 1 1 2 ∷
    counts 2 2 0 1 1 2 ∷
    counts 2 3 0 1 1 2 ∷
    counts 2 3 0 1 1 2 ∷
    counts 2 4 1 1 1 2 ∷
    counts 2 4 1 1 1 2 ∷
    None ∷
    []
unfolding effect act_effect do_effect carried_out tick_effect close_effect turned_away row put_row reserve_row delete_row
    touch_row release_row bury_row kick_row kick_job_row kicked serve all_turns turns serve_turn given deadline_turn
    timeout_turn told_turn
a_life = refl
