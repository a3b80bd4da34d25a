-- How often each operation was carried out (protocol.txt of beanstalkd, "stats": cmd-put and its kin, job-timeouts).
use Rattle.std.specs.Prelude.{ℕ, ◌+◌, ◌-◌, ◌^◌, min, Some, None}
use Rattle.bean_queue.specs.declared.counts.Counts.{Counts}
use Rattle.bean_words.specs.declared.op.Op.{Op}

-- so many more, where the count isn't the greatest of 64 bits
abbrev pub and_more : ℕ → ℕ → ℕ
and_more by count = min (count + by) (2 ^ 64 - 1)

-- nothing is counted yet
abbrev pub nothing_counted : Counts
nothing_counted =
    record {
      put = 0;
      peek = 0;
      peek_ready = 0;
      peek_delayed = 0;
      peek_buried = 0;
      reserve = 0;
      reserve_with_timeout = 0;
      delete = 0;
      release = 0;
      use_tube = 0;
      watch = 0;
      ignore = 0;
      bury = 0;
      kick = 0;
      touch = 0;
      stats = 0;
      stats_job = 0;
      stats_tube = 0;
      list_tubes = 0;
      list_tube_used = 0;
      list_tubes_watched = 0;
      pause_tube = 0;
      timeouts = 0;
    }

-- so many jobs' time to run was over
abbrev pub and_timeouts : ℕ → Counts → Counts
and_timeouts jobs c = record c { timeouts = and_more jobs c.timeouts }

-- the operation was carried out; a kick-job and a reserve-job aren't counted
abbrev pub with_op_counted : Op → Counts → Counts
with_op_counted (Op.Put pri delay ttr body) c = record c { put = and_more 1 c.put }
with_op_counted (Op.Peek id) c = record c { peek = and_more 1 c.peek }
with_op_counted Op.PeekReady c = record c { peek_ready = and_more 1 c.peek_ready }
with_op_counted Op.PeekDelayed c = record c { peek_delayed = and_more 1 c.peek_delayed }
with_op_counted Op.PeekBuried c = record c { peek_buried = and_more 1 c.peek_buried }
with_op_counted (Op.Reserve None) c = record c { reserve = and_more 1 c.reserve }
with_op_counted (Op.Reserve (Some seconds)) c = record c { reserve_with_timeout = and_more 1 c.reserve_with_timeout }
with_op_counted (Op.Delete id) c = record c { delete = and_more 1 c.delete }
with_op_counted (Op.Release id pri delay) c = record c { release = and_more 1 c.release }
with_op_counted (Op.Use tube) c = record c { use_tube = and_more 1 c.use_tube }
with_op_counted (Op.Watch tube) c = record c { watch = and_more 1 c.watch }
with_op_counted (Op.Ignore tube) c = record c { ignore = and_more 1 c.ignore }
with_op_counted (Op.Bury id pri) c = record c { bury = and_more 1 c.bury }
with_op_counted (Op.Kick bound) c = record c { kick = and_more 1 c.kick }
with_op_counted (Op.Touch id) c = record c { touch = and_more 1 c.touch }
with_op_counted Op.Stats c = record c { stats = and_more 1 c.stats }
with_op_counted (Op.StatsJob id) c = record c { stats_job = and_more 1 c.stats_job }
with_op_counted (Op.StatsTube tube) c = record c { stats_tube = and_more 1 c.stats_tube }
with_op_counted Op.ListTubes c = record c { list_tubes = and_more 1 c.list_tubes }
with_op_counted Op.ListTubeUsed c = record c { list_tube_used = and_more 1 c.list_tube_used }
with_op_counted Op.ListTubesWatched c = record c { list_tubes_watched = and_more 1 c.list_tubes_watched }
with_op_counted (Op.Pause tube seconds) c = record c { pause_tube = and_more 1 c.pause_tube }
with_op_counted (Op.KickJob id) c = c
with_op_counted (Op.ReserveJob id) c = c
