-- The first words of lines (protocol.txt of beanstalkd, "Producer Commands", "Worker Commands" and "Other Commands").
use Rattle.std.specs.Prelude.{ℕ, List, codes, Option, Some, None, if◌then◌else◌}
use Rattle.std.specs.Option.{option_or}
use Rattle.std.specs.Str.{bytes_eq}
use Rattle.bean_codec.specs.declared.profile.Profile.{Profile}
use Rattle.bean_codec.specs.declared.profile.Profile.TheVariants.{Plain, Extended}
use Rattle.bean_codec.specs.declared.command.CommandName.{CommandName}
use Rattle.bean_codec.specs.declared.command.CommandName.TheVariants.{Put, Use, Watch, Ignore, Reserve}
use Rattle.bean_codec.specs.declared.command.CommandName.TheVariants.{ReserveWithTimeout, Delete, Touch, Release, Bury}
use Rattle.bean_codec.specs.declared.command.CommandName.TheVariants.{Kick, KickJob, Peek, PeekReady, PeekDelayed}
use Rattle.bean_codec.specs.declared.command.CommandName.TheVariants.{PeekBuried, ListTubes, ListTubeUsed}
use Rattle.bean_codec.specs.declared.command.CommandName.TheVariants.{ListTubesWatched, PauseTube, Quit}
use Rattle.bean_codec.specs.declared.command.CommandName.TheVariants.{ReserveJob, StatsJob, StatsTube, Stats}

-- those that make, take or change jobs
unfoldable pub job_command : List ℕ → Option CommandName
job_command word =
    if bytes_eq word (codes "put") then Some Put
    else if bytes_eq word (codes "reserve") then Some Reserve
    else if bytes_eq word (codes "reserve-with-timeout") then Some ReserveWithTimeout
    else if bytes_eq word (codes "delete") then Some Delete
    else if bytes_eq word (codes "touch") then Some Touch
    else if bytes_eq word (codes "release") then Some Release
    else if bytes_eq word (codes "bury") then Some Bury
    else if bytes_eq word (codes "kick") then Some Kick
    else if bytes_eq word (codes "kick-job") then Some KickJob
    else None

-- those that are about tubes
unfoldable pub tube_command : List ℕ → Option CommandName
tube_command word =
    if bytes_eq word (codes "use") then Some Use
    else if bytes_eq word (codes "watch") then Some Watch
    else if bytes_eq word (codes "ignore") then Some Ignore
    else if bytes_eq word (codes "list-tubes") then Some ListTubes
    else if bytes_eq word (codes "list-tube-used") then Some ListTubeUsed
    else if bytes_eq word (codes "list-tubes-watched") then Some ListTubesWatched
    else if bytes_eq word (codes "pause-tube") then Some PauseTube
    else None

-- those that look at jobs, and the last one
unfoldable pub look_command : List ℕ → Option CommandName
look_command word =
    if bytes_eq word (codes "peek") then Some Peek
    else if bytes_eq word (codes "peek-ready") then Some PeekReady
    else if bytes_eq word (codes "peek-delayed") then Some PeekDelayed
    else if bytes_eq word (codes "peek-buried") then Some PeekBuried
    else if bytes_eq word (codes "quit") then Some Quit
    else None

-- those of every profile, compared byte by byte
unfoldable pub plain_command : List ℕ → Option CommandName
plain_command word = option_or (option_or (job_command word) (tube_command word)) (look_command word)

-- those of the extended profile alone
unfoldable pub stats_command : List ℕ → Option CommandName
stats_command word =
    if bytes_eq word (codes "reserve-job") then Some ReserveJob
    else if bytes_eq word (codes "stats-job") then Some StatsJob
    else if bytes_eq word (codes "stats-tube") then Some StatsTube
    else if bytes_eq word (codes "stats") then Some Stats
    else None

-- the command that the word names
unfoldable pub command_of : Profile → List ℕ → Option CommandName
command_of Plain word = plain_command word
command_of Extended word = option_or (plain_command word) (stats_command word)
