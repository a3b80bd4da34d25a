use Rattle.std.proofs.Common.{◌≡◌, ◌++◌, take}
use Rattle.std.specs.List.{AllByRecursion}
use Rattle.bean_words.specs.Names.{IsName}
use Rattle.chronicle_text.specs.Lines.{spaced}
use Rattle.chronicle_text.proofs.append.append_names.Given as goal

abbrev pub invariant-loop-name : goal.invariant-loop-name
invariant-loop-name l = record {
  told : l.out.items ≡ l.fn.out.items ++ spaced (take l.name-index l.names);
  value : AllByRecursion IsName (take l.name-index l.names);
}
