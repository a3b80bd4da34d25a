use Rattle.std.proofs.Common.{rules, tests, arith}
use Rattle.std.proofs.lemmas.Iterator.{YieldsList-from_slice}
use Rattle.std.proofs.lemmas.Iterator.Search.{all_from_yields_List}
use Rattle.std.proofs.lemmas.Bool.Decides.{nat_tests}
use Rattle.ballot.specs.Members.{IsMembers, is_weight}
use Rattle.ballot.proofs.WeightRows.{row_seen, is_row}
use Rattle.ballot.proofs.members.Members.weighted.Goals as goal

pub invariant_of-result : goal.invariant_of-result
invariant_of-result c =
    let all = all_from_yields_List is_weight _ _ c.all.result c.all.ensures.ran
    (YieldsList-from_slice c.args.weights.now cc) (λ x b q k. search (rules, tests)) in
    let members : IsMembers c.args.weights.now = record { some = grind (arith, nat_tests); few = grind (arith, nat_tests); each = grind rules } in
    is_row c.args.weights.now c.copy_from_slice.new.self c.copy_from_slice.ensures.after members

pub returns : goal.returns
returns c =
    let all = all_from_yields_List is_weight _ _ c.all.result c.all.ensures.ran
    (YieldsList-from_slice c.args.weights.now cc) (λ x b q k. search (rules, tests)) in
    let members : IsMembers c.args.weights.now = record { some = grind (arith, nat_tests); few = grind (arith, nat_tests); each = grind rules } in
    (members, row_seen c.args.weights.now c.copy_from_slice.new.self c.copy_from_slice.ensures.after)
