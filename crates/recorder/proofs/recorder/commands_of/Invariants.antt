use Rattle.std.proofs.Common.{◌≡◌, take}
use Rattle.std.specs.List.{filter_map}
use Rattle.recorder.specs.Records.{command_under}
use Rattle.recorder.proofs.recorder.commands_of.Given as goal

-- those of the keys so far
abbrev pub invariant-loop-key : goal.invariant-loop-key
invariant-loop-key g l = l.commands.items ≡ filter_map (command_under l.submitted) (take l.key-index l.keys)
