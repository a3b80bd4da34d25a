use Rattle.std.proofs.Common.{◌≡◌, take}
use Rattle.bean_words.proofs.names.Names.copy_of.Given as goal

abbrev pub invariant-loop-name : goal.invariant-loop-name
invariant-loop-name l = l.items.items ≡ take l.name-index l.names
