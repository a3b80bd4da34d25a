use Rattle.std.proofs.Common.{length, take, arith, rules, length-append, ap}
use Rattle.bean_codec.specs.Replies.{tubes_data}
use Rattle.bean_codec.proofs.Told.{if_err}
use Rattle.bean_codec.proofs.TubeLists.{front_kept, length-tubes_data-take}
use Rattle.bean_codec.proofs.tube_list.append_data.Goals as goal

pub returns-in_err-append_tube-clause-ok : goal.returns-in_err-append_tube-clause-ok
returns-in_err-append_tube-clause-ok c = (
  search rules,
  front_kept c.args.out.now.items
      (tubes_data (take c.loop-name.name-index c.args.names.now)) c.loop-name.out.items c.append_tube.new.out.items _
      _ c.args.out.now.ok.0 c.loop-name.out.ok.0 c.loop-name.invariant.0 c.append_tube.ensures.ok.1,
)

pub returns-in_err-append_tube-clause-full : goal.returns-in_err-append_tube-clause-full
returns-in_err-append_tube-clause-full c =
    let grows = length-tubes_data-take c.args.names.now c.loop-name.name-index c.name-item.result c.loop-name-test.true c.name-item.is in
    let begun = ap length c.loop-name.invariant.0 in
    if_err c.from_residual-in_err-append_tube.result
    (omega (
      arith,
      grows,
      begun,
      length-append c.args.out.now.items
          (tubes_data (take c.loop-name.name-index c.args.names.now)),
      c.in_err-append_tube.ensures.full,
      c.loop-name.invariant.1,
      c.args.out.now.ok.0,
      c.loop-name.out.ok.0,
    ))
