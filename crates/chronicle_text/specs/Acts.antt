-- The words for acts: those of the command's line, but for a put, which has its body in place of the body's size (protocol.txt
-- of beanstalkd, "Producer Commands", "Worker Commands" and "Other Commands").
use Rattle.std.specs.Prelude.{ℕ, List, [], ◌∷◌, codes, decimal, Some, None}
use Rattle.object.specs.declared.command.Act.{Act}
use Rattle.object.specs.declared.command.Act.TheVariants.{Do, Close, Tick}
use Rattle.bean_words.specs.declared.op.Op.{Op}
use Rattle.bean_words.specs.declared.op.Op.TheVariants.{Put, Use, Watch, Ignore, Reserve, Delete, Touch, Release, Bury}
use Rattle.bean_words.specs.declared.op.Op.TheVariants.{Kick, KickJob, Peek, PeekReady, PeekDelayed, PeekBuried}
use Rattle.bean_words.specs.declared.op.Op.TheVariants.{ListTubes, ListTubeUsed, ListTubesWatched, Pause}
use Rattle.bean_words.specs.declared.op.Op.TheVariants.{ReserveJob, StatsJob, StatsTube, Stats}
use Rattle.chronicle_text.specs.Lines.{body_word}

-- the words for an operation
unfoldable pub op_words : Op → List (List ℕ)
op_words (Put pri delay ttr body) = codes "put" ∷ decimal pri ∷ decimal delay ∷ decimal ttr ∷ body_word body ∷ []
op_words (Use tube) = codes "use" ∷ tube ∷ []
op_words (Watch tube) = codes "watch" ∷ tube ∷ []
op_words (Ignore tube) = codes "ignore" ∷ tube ∷ []
op_words (Reserve None) = codes "reserve" ∷ []
op_words (Reserve (Some seconds)) = codes "reserve-with-timeout" ∷ decimal seconds ∷ []
op_words (Delete id) = codes "delete" ∷ decimal id ∷ []
op_words (Touch id) = codes "touch" ∷ decimal id ∷ []
op_words (Release id pri delay) = codes "release" ∷ decimal id ∷ decimal pri ∷ decimal delay ∷ []
op_words (Bury id pri) = codes "bury" ∷ decimal id ∷ decimal pri ∷ []
op_words (Kick bound) = codes "kick" ∷ decimal bound ∷ []
op_words (KickJob id) = codes "kick-job" ∷ decimal id ∷ []
op_words (Peek id) = codes "peek" ∷ decimal id ∷ []
op_words PeekReady = codes "peek-ready" ∷ []
op_words PeekDelayed = codes "peek-delayed" ∷ []
op_words PeekBuried = codes "peek-buried" ∷ []
op_words ListTubes = codes "list-tubes" ∷ []
op_words ListTubeUsed = codes "list-tube-used" ∷ []
op_words ListTubesWatched = codes "list-tubes-watched" ∷ []
op_words (Pause tube seconds) = codes "pause-tube" ∷ tube ∷ decimal seconds ∷ []
op_words (ReserveJob id) = codes "reserve-job" ∷ decimal id ∷ []
op_words (StatsJob id) = codes "stats-job" ∷ decimal id ∷ []
op_words (StatsTube tube) = codes "stats-tube" ∷ tube ∷ []
op_words Stats = codes "stats" ∷ []

-- the words for an act
unfoldable pub act_words : Act Op → List (List ℕ)
act_words (Do op) = op_words op
act_words Close = codes "close" ∷ []
act_words Tick = codes "tick" ∷ []
