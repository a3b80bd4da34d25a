use Rattle.std.proofs.Common.{rules}
use Rattle.log_file.specs.Bytes.{known_from}
use Rattle.log_file.proofs.Opened.{read_from_start}
use Rattle.log_file.proofs.locked.Locked.read_log.Goals as goal

pub returns : goal.returns
returns g c =
    let after = known_from (g.F.Write.contents c.read_log.new.reader.storage.now) c.read_log.new.reader.at in
    read_from_start (g.F.Write.contents c.args.self.now) after c.read_log.result (search rules) (search rules)
