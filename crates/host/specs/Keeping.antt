-- That records are kept.
use Rattle.std.specs.Prelude.{ℕ, ◌==◌, if◌then◌else◌}
use Rattle.host.specs.declared.kept.Kept.{Kept}

-- so many records are kept of the host of this boot: what another one had says nothing of it
abbrev pub kept_upto : ℕ → Kept → ℕ
kept_upto boot kept = if kept.boot == boot then kept.upto else 0
