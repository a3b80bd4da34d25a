use Rattle.std.proofs.Common.{◌+◌, ◌-◌, ◌<◌, length, arith}
use Rattle.scout_commander.proofs.Rests.{LeadFrom, all_lead, still_kept, leads_too}
use Rattle.scout_commander.proofs.gathered.set_starts.Goals as goal

pub loop-index-preserved : goal.loop-index-preserved
loop-index-preserved g c =
    let ps = c.args.pvalues.now in
    let i = c.loop-index.index - 1 in
    let p = c.index-pvalues-index.result in
    let within : i < length ps = omega arith in
    let led : LeadFrom (i + 1) c.loop-index.starts ps = λ k q h lt item. c.loop-index.invariant.led k q (omega arith) lt item in
    record {
      kept = still_kept c.loop-index.starts c.set_start.new.starts ps i p c.index-pvalues-index.is within c.set_start.ensures c.loop-index.invariant.kept;
      led = leads_too c.loop-index.starts c.set_start.new.starts ps i p c.index-pvalues-index.is within c.set_start.ensures c.loop-index.invariant.kept led;
    }

pub returns : goal.returns
returns g c = all_lead c.loop-index.starts c.args.pvalues.now (λ k p h lt item. c.loop-index.invariant.led k p (omega arith) lt item)
