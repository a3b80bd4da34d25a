use Rattle.std.proofs.lemmas.Result.{on_err_weaker}
use Rattle.bean_codec.proofs.TubeNames.{name_of-made, name_of-name}
use Rattle.bean_codec.proofs.name_lines.name_of.Goals as goal

pub returns-clause-name : goal.returns-clause-name
returns-clause-name c = name_of-made c.args.word.now c.new.result c.new.ensures.rule

pub returns-clause-memory : goal.returns-clause-memory
returns-clause-memory c =
    on_err_weaker c.new.result (λ name. (c.args.word.now, name_of-name c.args.word.now name)) c.new.ensures.memory
