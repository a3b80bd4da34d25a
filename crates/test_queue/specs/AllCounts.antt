-- Counts of the queue that are all the same.
use Rattle.std.specs.Prelude.{ℕ}
use Rattle.bean_queue.specs.declared.counts.Counts.{Counts}

-- each of them is this one
abbrev pub all_counts : ℕ → Counts
all_counts n =
    record {
      put = n;
      peek = n;
      peek_ready = n;
      peek_delayed = n;
      peek_buried = n;
      reserve = n;
      reserve_with_timeout = n;
      delete = n;
      release = n;
      use_tube = n;
      watch = n;
      ignore = n;
      bury = n;
      kick = n;
      touch = n;
      stats = n;
      stats_job = n;
      stats_tube = n;
      list_tubes = n;
      list_tube_used = n;
      list_tubes_watched = n;
      pause_tube = n;
      timeouts = n;
    }
