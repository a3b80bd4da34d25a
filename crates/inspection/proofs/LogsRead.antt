-- What is found of a log that was read to its end.
use Rattle.std.proofs.Common.{◌≡◌, inl, ℕ, ◌-◌, List, length, refl, ap, arith, length-take}
use Rattle.object.specs.declared.command.Command.{Command}
use Rattle.bean_words.specs.declared.op.Op.{Op}
use Rattle.command_log.specs.declared.whole.Whole.{Whole}
use Rattle.command_log.specs.Reading.{IsWholeLog}
use Rattle.inspection.specs.Verdicts.{CountsLog}

pub holds_log : (text : List ℕ) (whole : Whole) (commands : List (Command Op)) (behind : ℕ) → IsWholeLog text whole commands
    → behind ≡ length text - whole.bytes → CountsLog text (length commands) behind
holds_log text whole commands behind h is =
    let bytes = h.log.bytes in
    let begins = ap length h.begins in
    let long = length-take whole.bytes text in
    inl record { whole = whole; commands = commands; log = h; counted = refl; left = omega arith }
