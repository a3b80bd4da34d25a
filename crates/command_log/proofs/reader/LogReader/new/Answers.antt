use Rattle.std.proofs.Common.{refl}
use Rattle.command_log.proofs.Feeding.{has_read_nothing}
use Rattle.command_log.proofs.reader.LogReader.new.Goals as goal

pub returns : goal.returns
returns c = has_read_nothing _ c.new.ensures.items refl refl
