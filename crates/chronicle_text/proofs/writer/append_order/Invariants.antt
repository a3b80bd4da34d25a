use Rattle.std.proofs.Common.{◌≡◌, ◌++◌, take}
use Rattle.std.specs.List.{AllByRecursion, flat_map}
use Rattle.chronicle_text.specs.Dump.{order_line}
use Rattle.chronicle_text.specs.Values.{IsKeyValue}
use Rattle.chronicle_text.proofs.writer.append_order.Given as goal

abbrev pub invariant-loop-key : goal.invariant-loop-key
invariant-loop-key l = record {
  told : l.out.items ≡ l.fn.out.items ++ flat_map order_line (take l.key-index l.order);
  value : AllByRecursion IsKeyValue (take l.key-index l.order);
}
