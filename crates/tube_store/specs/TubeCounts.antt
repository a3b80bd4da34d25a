-- What was done with tubes (protocol.txt of beanstalkd, "stats-tube": total-jobs, cmd-delete, cmd-pause-tube, pause).
use Rattle.std.specs.Prelude.{ℕ, ◌+◌, ◌-◌, ◌^◌, min, not, List, bytes_eq, unwrap_or}
use Rattle.std.specs.List.{filter}
use Rattle.std.specs.Map.{lookup}
use Rattle.std.specs.BTreeMap.{insert_entry}
use Rattle.bean_words.specs.Names.{name_cmp}
use Rattle.tube_store.specs.declared.tube_counts.TubeCounts.{TubeCounts}
use Rattle.tube_store.specs.declared.tube_mark.TubeMark.{TubeMark}

-- nothing was done with the tube
abbrev pub no_counts : TubeCounts
no_counts = record { puts = 0; deletes = 0; pauses = 0; pause = 0 }

-- what was done with the tube, nothing where it isn't among them
abbrev pub counts_at : List ℕ → List (List ℕ × TubeCounts) → TubeCounts
counts_at tube es = unwrap_or (lookup (bytes_eq tube) es) no_counts

-- one more, where the count isn't the greatest that there is
abbrev pub one_more : ℕ → ℕ
one_more count = min (count + 1) (2 ^ 64 - 1)

-- the counts, with this mark: its count is one more, and the last pause has these seconds
abbrev pub after_tube_mark : TubeMark → TubeCounts → TubeCounts
after_tube_mark TubeMark.Put counts = record counts { puts = one_more counts.puts }
after_tube_mark TubeMark.Deleted counts = record counts { deletes = one_more counts.deletes }
after_tube_mark (TubeMark.Paused seconds) counts = record counts { pauses = one_more counts.pauses; pause = seconds }

-- the tube's counts, with this mark, in the place of those that it has
abbrev pub marked_tube : TubeMark → List ℕ → List (List ℕ × TubeCounts) → List (List ℕ × TubeCounts)
marked_tube mark tube es = insert_entry name_cmp es tube (after_tube_mark mark (counts_at tube es))

-- the counts of the other tubes
abbrev pub without_tube : List ℕ → List (List ℕ × TubeCounts) → List (List ℕ × TubeCounts)
without_tube tube es = filter (λ e. not (bytes_eq tube e.0)) es
