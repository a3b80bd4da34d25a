use Rattle.std.proofs.Common.{arith, sym, ◌∙◌}
use Rattle.std.proofs.lemmas.List.Elements.{recursion_from_All}
use Rattle.ballot.proofs.Rests.{all_kept}
use Rattle.ballot.proofs.slot_map.drop_below.Goals as goal

pub returns-then-number-base : goal.returns-then-number-base
returns-then-number-base g c =
    sym (all_kept c.args.base c.in-Some.first.now c.loop-first.entries.entries (omega arith)
    (recursion_from_All _ _ c.in-Some.ensures.all_from)) ∙
    c.loop-first.invariant
