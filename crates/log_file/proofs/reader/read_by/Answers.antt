use Rattle.std.proofs.Common.{◌≡◌, ℕ, ◌+◌, ◌<◌, ◌≤◌, ◌^◌, List, Option, length, take, length-take, arith, rules, subst}
use Rattle.std.specs.Io.KnownBytes.{Consumes}
use Rattle.object.specs.declared.command.Command.{Command}
use Rattle.bean_words.specs.declared.op.Op.{Op}
use Rattle.command_log.specs.declared.reader.LogReader.{LogReader}
use Rattle.log_file.proofs.Recovering.{IsReadTo, at_end, goes_on, is_too_long, of_reading, started, tells_fault, tells_log}
use Rattle.log_file.proofs.reader.read_by.Goals as goal

pub loop-log-init : goal.loop-log-init
loop-log-init g c = record { some = search rules; read = started _ _ _ c.new-commands.ensures.items c.new-log.ensures }

pub returns-in_default-clause-fault : goal.returns-in_default-clause-fault
returns-in_default-clause-fault g c =
    let piece : List ℕ = take c.in_ok-n.n c.read_some.new.piece in
    let taken = c.in_ok-n.ensures.bytes.0 in
    let within : c.in_ok-n.n ≤ length c.read_some.new.piece = search rules in
    let full : 2 ^ 64 ≤ c.loop-log.bytes + c.in_ok-n.n = search rules in
    let long = length-take c.in_ok-n.n c.read_some.new.piece in
    is_too_long _ _ _ _ _ _ piece c.loop-log.invariant.read taken (omega arith)

pub loop-log-preserved : goal.loop-log-preserved
loop-log-preserved g c =
    let piece : List ℕ = take c.in_ok-n.n c.read_some.new.piece in
    let taken = c.in_ok-n.ensures.bytes.0 in
    let within : c.in_ok-n.n ≤ length c.read_some.new.piece = search rules in
    let long = length-take c.in_ok-n.n c.read_some.new.piece in
    let fits : c.in-Some.more < 2 ^ 64 = search rules in
    let sum : c.in-Some.more ≡ c.loop-log.bytes + c.in_ok-n.n = search rules in
    record {
      some = search rules;
      read = goes_on _ _ _ _ _ _ _ _ _ piece c.loop-log.invariant.read taken (omega arith) fits c.in_ok-log.ensures;
    }

-- what was read when a read gave nothing
at_nothing : (before at after : Option (List ℕ)) (log : LogReader) (commands : List (Command Op)) (bytes n : ℕ) (piece : List ℕ)
    → IsReadTo before at log commands bytes → n ≡ 0 → Consumes at after (take n piece) → IsReadTo before after log commands bytes
at_nothing before at after log commands bytes n piece h none taken =
    at_end before at after log commands bytes h (subst (λ (k : ℕ). Consumes at after (take k piece)) none taken)

pub returns-then-n-eq0-clause-ok : goal.returns-then-n-eq0-clause-ok
returns-then-n-eq0-clause-ok g c =
    let read = c.in_ok-n.ensures.bytes in
    let some : 0 < length c.read_some.new.piece = search rules in
    tells_log _ _ c.loop-log.log c.loop-log.commands.items c.loop-log.bytes c.finish_log.result
    (at_nothing _ _ _ _ _ _ c.in_ok-n.n c.read_some.new.piece c.loop-log.invariant.read c.if-n-eq0.true read.0)
    (read.1 c.if-n-eq0.true some) c.finish_log.ensures.ok

pub returns-then-n-eq0-clause-fault : goal.returns-then-n-eq0-clause-fault
returns-then-n-eq0-clause-fault g c =
    let read = c.in_ok-n.ensures.bytes in
    let some : 0 < length c.read_some.new.piece = search rules in
    tells_fault _ _ c.loop-log.log c.loop-log.commands.items c.loop-log.bytes c.finish_log.result
    (at_nothing _ _ _ _ _ _ c.in_ok-n.n c.read_some.new.piece c.loop-log.invariant.read c.if-n-eq0.true read.0)
    (read.1 c.if-n-eq0.true some) c.finish_log.ensures.fault

pub returns-in_err-n-clause-fault : goal.returns-in_err-n-clause-fault
returns-in_err-n-clause-fault g c = search (rules, of_reading)
