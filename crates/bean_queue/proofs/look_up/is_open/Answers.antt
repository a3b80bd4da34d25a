use Rattle.std.proofs.Common.{sym, ◌∙◌}
use Rattle.std.specs.Map.{keys_of}
use Rattle.job_store.proofs.readiness.Readiness.{key-among}
use Rattle.bean_queue.proofs.best.Paused.{paused-apart, open-same}
use Rattle.bean_queue.proofs.look_up.is_open.Goals as goal

pub returns-then-contains_key : goal.returns-then-contains_key
returns-then-contains_key c =
    let tube = c.args.tube.now in
    paused-apart (keys_of c.args.paused.now.entries) c.args.tubes.now.keys tube
    (sym (key-among tube c.args.paused.now.entries) ∙ sym c.contains_key.ensures ∙ c.if-contains_key.true)

pub returns : goal.returns
returns c =
    let tube = c.args.tube.now in
    c.contains.ensures ∙ open-same (keys_of c.args.paused.now.entries) c.args.tubes.now.keys tube
    (sym (key-among tube c.args.paused.now.entries) ∙ sym c.contains_key.ensures ∙ c.if-contains_key.false)
