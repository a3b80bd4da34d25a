-- The words after the first of a line, by their command (protocol.txt of beanstalkd, "Producer Commands", "Worker Commands"
-- and "Other Commands").
use Rattle.std.specs.Prelude.{ℕ, List, [], ◌∷◌, Option, Some, None}
use Rattle.bean_words.specs.declared.op.Op.TheVariants as op
use Rattle.bean_codec.specs.declared.command.CommandName.{CommandName}
use Rattle.bean_codec.specs.declared.command.CommandName.TheVariants.{Put, Use, Watch, Ignore, Reserve}
use Rattle.bean_codec.specs.declared.command.CommandName.TheVariants.{ReserveWithTimeout, Delete, Touch, Release, Bury}
use Rattle.bean_codec.specs.declared.command.CommandName.TheVariants.{Kick, KickJob, Peek, PeekReady, PeekDelayed}
use Rattle.bean_codec.specs.declared.command.CommandName.TheVariants.{PeekBuried, ListTubes, ListTubeUsed}
use Rattle.bean_codec.specs.declared.command.CommandName.TheVariants.{ListTubesWatched, PauseTube, Quit}
use Rattle.bean_codec.specs.declared.command.CommandName.TheVariants.{ReserveJob, StatsJob, StatsTube, Stats}
use Rattle.bean_codec.specs.declared.request.Request.{Request}
use Rattle.bean_codec.specs.declared.request.Request.TheVariants.{Do}
use Rattle.bean_codec.specs.declared.request.Request.TheVariants as request
use Rattle.bean_codec.specs.declared.line.Meaning.{Meaning}
use Rattle.bean_codec.specs.declared.line.Meaning.TheVariants.{Whole, WithBody}
use Rattle.bean_codec.specs.Numbers.{◌>>=◌, u32_of, u64_of}
use Rattle.bean_codec.specs.TubeNames.{name_of}

-- nothing follows the first word
unfoldable pub alone : Request → List (List ℕ) → Option Meaning
alone request [] = Some (Whole request)
alone request _ = None

-- <id>
unfoldable pub one_id : List (List ℕ) → Option ℕ
one_id (id ∷ []) = u64_of id
one_id _ = None

-- <number>
unfoldable pub one_number : List (List ℕ) → Option ℕ
one_number (n ∷ []) = u32_of n
one_number _ = None

-- <tube>
unfoldable pub one_name : List (List ℕ) → Option (List ℕ)
one_name (tube ∷ []) = name_of tube
one_name _ = None

-- put <pri> <delay> <ttr> <bytes>
unfoldable pub put_line : List (List ℕ) → Option Meaning
put_line (pri ∷ delay ∷ ttr ∷ size ∷ []) = do
  pri ← u32_of pri
  delay ← u32_of delay
  ttr ← u32_of ttr
  size ← u32_of size
  Some (WithBody pri delay ttr size)
put_line _ = None

-- release <id> <pri> <delay>
unfoldable pub release_line : List (List ℕ) → Option Meaning
release_line (id ∷ pri ∷ delay ∷ []) = do
  id ← u64_of id
  pri ← u32_of pri
  delay ← u32_of delay
  Some (Whole (Do (op.Release id pri delay)))
release_line _ = None

-- bury <id> <pri>
unfoldable pub bury_line : List (List ℕ) → Option Meaning
bury_line (id ∷ pri ∷ []) = do
  id ← u64_of id
  pri ← u32_of pri
  Some (Whole (Do (op.Bury id pri)))
bury_line _ = None

-- reserve-with-timeout <seconds>
unfoldable pub reserve_line : List (List ℕ) → Option Meaning
reserve_line words = do
  seconds ← one_number words
  Some (Whole (Do (op.Reserve (Some seconds))))

-- kick <bound>
unfoldable pub kick_line : List (List ℕ) → Option Meaning
kick_line words = do
  bound ← one_number words
  Some (Whole (Do (op.Kick bound)))

-- delete <id>
unfoldable pub delete_line : List (List ℕ) → Option Meaning
delete_line words = do
  id ← one_id words
  Some (Whole (Do (op.Delete id)))

-- touch <id>
unfoldable pub touch_line : List (List ℕ) → Option Meaning
touch_line words = do
  id ← one_id words
  Some (Whole (Do (op.Touch id)))

-- kick-job <id>
unfoldable pub kick_job_line : List (List ℕ) → Option Meaning
kick_job_line words = do
  id ← one_id words
  Some (Whole (Do (op.KickJob id)))

-- peek <id>
unfoldable pub peek_line : List (List ℕ) → Option Meaning
peek_line words = do
  id ← one_id words
  Some (Whole (Do (op.Peek id)))

-- reserve-job <id>
unfoldable pub reserve_job_line : List (List ℕ) → Option Meaning
reserve_job_line words = do
  id ← one_id words
  Some (Whole (Do (op.ReserveJob id)))

-- stats-job <id>
unfoldable pub stats_job_line : List (List ℕ) → Option Meaning
stats_job_line words = do
  id ← one_id words
  Some (Whole (Do (op.StatsJob id)))

-- use <tube>
unfoldable pub use_line : List (List ℕ) → Option Meaning
use_line words = do
  tube ← one_name words
  Some (Whole (Do (op.Use tube)))

-- watch <tube>
unfoldable pub watch_line : List (List ℕ) → Option Meaning
watch_line words = do
  tube ← one_name words
  Some (Whole (Do (op.Watch tube)))

-- ignore <tube>
unfoldable pub ignore_line : List (List ℕ) → Option Meaning
ignore_line words = do
  tube ← one_name words
  Some (Whole (Do (op.Ignore tube)))

-- stats-tube <tube>
unfoldable pub stats_tube_line : List (List ℕ) → Option Meaning
stats_tube_line words = do
  tube ← one_name words
  Some (Whole (Do (op.StatsTube tube)))

-- pause-tube <tube> <seconds>
unfoldable pub pause_line : List (List ℕ) → Option Meaning
pause_line (tube ∷ seconds ∷ []) = do
  seconds ← u32_of seconds
  tube ← name_of tube
  Some (Whole (Do (op.Pause tube seconds)))
pause_line _ = None

-- what the words after the first make of a command; nothing, where they have not its form
unfoldable pub line_of : CommandName → List (List ℕ) → Option Meaning
line_of Put words = put_line words
line_of Use words = use_line words
line_of Watch words = watch_line words
line_of Ignore words = ignore_line words
line_of Reserve words = alone (Do (op.Reserve None)) words
line_of ReserveWithTimeout words = reserve_line words
line_of Delete words = delete_line words
line_of Touch words = touch_line words
line_of Release words = release_line words
line_of Bury words = bury_line words
line_of Kick words = kick_line words
line_of KickJob words = kick_job_line words
line_of Peek words = peek_line words
line_of PeekReady words = alone (Do op.PeekReady) words
line_of PeekDelayed words = alone (Do op.PeekDelayed) words
line_of PeekBuried words = alone (Do op.PeekBuried) words
line_of ListTubes words = alone (Do op.ListTubes) words
line_of ListTubeUsed words = alone (Do op.ListTubeUsed) words
line_of ListTubesWatched words = alone (Do op.ListTubesWatched) words
line_of PauseTube words = pause_line words
line_of Quit words = alone request.Quit words
line_of ReserveJob words = reserve_job_line words
line_of StatsJob words = stats_job_line words
line_of StatsTube words = stats_tube_line words
line_of Stats words = alone (Do op.Stats) words
