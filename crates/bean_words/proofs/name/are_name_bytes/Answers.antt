use Rattle.std.proofs.Common.{rules}
use Rattle.std.proofs.lemmas.Iterator.{cases_from_all, YieldsList-from_slice}
use Rattle.bean_words.specs.Names.{IsNameByte}
use Rattle.bean_words.proofs.naming.Names.{name_bytes-decided}
use Rattle.bean_words.proofs.name.are_name_bytes.Goals as goal

pub returns : goal.returns
returns c =
    name_bytes-decided c.args.bytes.now c.all.result
    (cases_from_all _ _ _ IsNameByte (λ b. IsNameByte b → ⊥) c.all.ensures.ran
    (YieldsList-from_slice c.args.bytes.now cc) (λ x q k. search rules) (λ x q k. search rules))
