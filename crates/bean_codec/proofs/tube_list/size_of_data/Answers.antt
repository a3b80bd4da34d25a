use Rattle.std.proofs.Common.{arith}
use Rattle.bean_codec.proofs.Told.{if_none}
use Rattle.bean_codec.proofs.TubeLists.{length-tubes_data-take}
use Rattle.bean_codec.proofs.tube_list.size_of_data.Goals as goal

pub returns-in_err-size-clause-too_long : goal.returns-in_err-size-clause-too_long
returns-in_err-size-clause-too_long c =
    let grows = length-tubes_data-take c.args.names.now c.loop-name.name-index c.name-item.result c.loop-name-test.true c.name-item.is in
    if_none c.from_residual.result (omega (arith, grows, c.loop-name.invariant, c.size_of_tube.ensures, c.in_err-size.ensures))
