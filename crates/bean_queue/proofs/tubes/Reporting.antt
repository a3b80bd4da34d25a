-- An operation that only reports leaves the state as it was called, and no tube comes or goes.
use Rattle.std.proofs.Common.{◌≡◌, true, None, refl, sym, ap, ◌∙◌, true≢false}
use Rattle.std.proofs.lemmas.Bool.{cond-false}
use Rattle.object.specs.declared.command.Key.{Key}
use Rattle.bean_words.specs.declared.op.Op.{Op}
use Rattle.bean_words.specs.declared.reply.Reply.{Reply}
use Rattle.bean_queue.specs.Queue.{QueueState}
use Rattle.bean_queue.specs.Rows.{row, peek_row, stats_job_row, stats_tube_row, stats_row}
use Rattle.bean_queue.specs.Turns.{QueueOutcome, serve_turn}
use Rattle.bean_queue.specs.Effects.{called, carried_out, ends_wait, do_effect, has_no_number, only_reports}
use Rattle.bean_queue.proofs.calm.Called.{quiet-state}
use Rattle.bean_queue.proofs.tubes.Listed.{OnlyReports}

reporting : (op : Op) → only_reports op ≡ true → OnlyReports op
unfolding row peek_row stats_job_row stats_tube_row stats_row
reporting (Op.Peek id) e = record { quiet = refl; numbered = λ s. refl; stays = λ key s. refl }
reporting Op.PeekReady e = record { quiet = refl; numbered = λ s. refl; stays = λ key s. refl }
reporting Op.PeekDelayed e = record { quiet = refl; numbered = λ s. refl; stays = λ key s. refl }
reporting Op.PeekBuried e = record { quiet = refl; numbered = λ s. refl; stays = λ key s. refl }
reporting Op.ListTubes e = record { quiet = refl; numbered = λ s. refl; stays = λ key s. refl }
reporting Op.ListTubeUsed e = record { quiet = refl; numbered = λ s. refl; stays = λ key s. refl }
reporting Op.ListTubesWatched e = record { quiet = refl; numbered = λ s. refl; stays = λ key s. refl }
reporting (Op.StatsJob id) e = record { quiet = refl; numbered = λ s. refl; stays = λ key s. refl }
reporting (Op.StatsTube tube) e = record { quiet = refl; numbered = λ s. refl; stays = λ key s. refl }
reporting Op.Stats e = record { quiet = refl; numbered = λ s. refl; stays = λ key s. refl }
reporting (Op.Put pri delay ttr body) e = absurd (true≢false (sym e))
reporting (Op.Use tube) e = absurd (true≢false (sym e))
reporting (Op.Watch tube) e = absurd (true≢false (sym e))
reporting (Op.Ignore tube) e = absurd (true≢false (sym e))
reporting (Op.Reserve seconds) e = absurd (true≢false (sym e))
reporting (Op.Delete id) e = absurd (true≢false (sym e))
reporting (Op.Touch id) e = absurd (true≢false (sym e))
reporting (Op.Release id pri delay) e = absurd (true≢false (sym e))
reporting (Op.Bury id pri) e = absurd (true≢false (sym e))
reporting (Op.Kick bound) e = absurd (true≢false (sym e))
reporting (Op.KickJob id) e = absurd (true≢false (sym e))
reporting (Op.ReserveJob id) e = absurd (true≢false (sym e))
reporting (Op.Pause tube seconds) e = absurd (true≢false (sym e))

pub report-state : (op : Op) (key : Key) (s t : QueueState) → only_reports op ≡ true → serve_turn s ≡ None
    → t ≡ called op key.session s → t ≡ (do_effect op key s).state
unfolding do_effect
report-state op key s t reports calm is =
    let r = reporting op reports in
    quiet-state op key s t t r.quiet calm is (sym (r.stays key t)) ∙ ap (λ (o : QueueOutcome). o.state)
    (sym (cond-false (has_no_number op s) (ends_wait s key Reply.InternalError) (carried_out op key s) (r.numbered s)))
