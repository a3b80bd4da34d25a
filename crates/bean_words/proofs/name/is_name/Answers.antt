use Rattle.std.proofs.Common.{rules}
use Rattle.bean_words.proofs.naming.Names.{name-decided}
use Rattle.bean_words.proofs.name.is_name.Goals as goal

pub returns-then-bytes-le200 : goal.returns-then-bytes-le200
returns-then-bytes-le200 c =
    name-decided c.args.bytes.now c.in-Some.first.now c.are_name_bytes.result (search rules) (search rules) c.if-bytes-le200.true c.are_name_bytes.ensures
