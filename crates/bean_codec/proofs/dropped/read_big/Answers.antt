use Rattle.std.proofs.Common.{rules}
use Rattle.bean_codec.proofs.DroppedTexts.{big_item, big_more}
use Rattle.bean_codec.proofs.dropped.read_big.Goals as goal

pub returns-then-left-here-clause-item : goal.returns-then-left-here-clause-item
returns-then-left-here-clause-item c = λ profile dropped fits. big_item profile c.args.left dropped c.args.bytes.now fits c.if-left-here.true

pub returns-then-is_empty-clause-more : goal.returns-then-is_empty-clause-more
returns-then-is_empty-clause-more c = λ profile dropped fits. big_more profile c.args.left dropped c.args.bytes.now fits (search rules)
