use Rattle.std.proofs.Common.{◌+◌, inl, inr, take, drop, refl, arith}
use Rattle.std.proofs.lemmas.List.{take_rest}
use Rattle.std.proofs.lemmas.Result.{on_err_weaker}
use Rattle.bean_codec.specs.Grammar.{meaning}
use Rattle.bean_codec.proofs.Told.{if_err}
use Rattle.bean_codec.proofs.LongLines.{found_none, found_front}
use Rattle.bean_codec.proofs.Fronts.{name_completes, begins_from_completes}
use Rattle.bean_codec.proofs.FirstLines.{line_more, line_rest, forth, told_item, told_more, told_drop}
use Rattle.bean_codec.proofs.Due.{none_ends, due_after}
use Rattle.bean_codec.proofs.front.read_line.Goals as goal

pub returns-then-bytes-lt-LONGEST_LINE-clause-more : goal.returns-then-bytes-lt-LONGEST_LINE-clause-more
returns-then-bytes-lt-LONGEST_LINE-clause-more c =
    line_more c.args.profile c.args.bytes.now c.min.result (omega (arith, c.min.ensures, c.if-bytes-lt-LONGEST_LINE.true))
    (found_none (take c.min.result c.args.bytes.now) c.in_default.ensures)

pub returns-in_default-clause-drop : goal.returns-in_default-clause-drop
returns-in_default-clause-drop c =
    line_rest c.args.bytes.now c.min.result (omega (arith, c.min.ensures, c.if-bytes-lt-LONGEST_LINE.false))
    (omega (arith, c.min.ensures)) (found_none (take c.min.result c.args.bytes.now) c.in_default.ensures)

pub returns-in_err-meaning-clause-memory : goal.returns-in_err-meaning-clause-memory
returns-in_err-meaning-clause-memory c =
    let profile = c.args.profile in
    let bytes = c.args.bytes.now in
    let end = c.in-Some.end in
    let cut = found_front bytes c.min.result end c.in-Some.ensures in
    let named = name_completes (meaning profile (take end bytes)) (end + 2) (drop (end + 2) bytes) c.in_err-meaning.ensures.memory in
    if_err c.from_residual.result (named.0, named.1, begins_from_completes profile bytes end cut.0 named.0 named.2)

pub returns-clause-item : goal.returns-clause-item
returns-clause-item c =
    let cut = found_front c.args.bytes.now c.min.result c.in-Some.end c.in-Some.ensures in
    told_item c.args.profile c.args.bytes.now c.in-Some.end cut.0 c.in_ok-meaning.meaning c.in_ok-meaning.ensures.says _
    (take_rest c.args.bytes.now (c.in-Some.end + 2)) c.complete.result c.complete.ensures.item

pub returns-clause-more : goal.returns-clause-more
returns-clause-more c =
    let cut = found_front c.args.bytes.now c.min.result c.in-Some.end c.in-Some.ensures in
    told_more c.args.profile c.args.bytes.now c.in-Some.end cut.0 c.in_ok-meaning.meaning c.in_ok-meaning.ensures.says _
    (take_rest c.args.bytes.now (c.in-Some.end + 2)) c.complete.result c.complete.ensures.more

pub returns-clause-drop : goal.returns-clause-drop
returns-clause-drop c =
    let cut = found_front c.args.bytes.now c.min.result c.in-Some.end c.in-Some.ensures in
    told_drop c.args.profile c.args.bytes.now c.in-Some.end cut.0 c.in_ok-meaning.meaning c.in_ok-meaning.ensures.says _
    (take_rest c.args.bytes.now (c.in-Some.end + 2)) c.complete.result c.complete.ensures.drop

pub returns-clause-memory : goal.returns-clause-memory
returns-clause-memory c =
    let cut = found_front c.args.bytes.now c.min.result c.in-Some.end c.in-Some.ensures in
    on_err_weaker c.complete.result
    (λ put. (
      put.0,
      put.1,
      forth c.args.profile c.args.bytes.now c.in-Some.end cut.0 c.in_ok-meaning.meaning
          c.in_ok-meaning.ensures.says _ (take_rest c.args.bytes.now (c.in-Some.end + 2)) put.0 put.2,
    ))
    c.complete.ensures.memory

pub returns-then-bytes-lt-LONGEST_LINE-clause-due : goal.returns-then-bytes-lt-LONGEST_LINE-clause-due
returns-then-bytes-lt-LONGEST_LINE-clause-due c =
    inl (
      none_ends c.args.bytes.now c.min.result
          (inr (
            omega (arith, c.min.ensures, c.if-bytes-lt-LONGEST_LINE.true),
            omega
                (arith, c.if-bytes-lt-LONGEST_LINE.true),
          ))
          (found_none (take c.min.result c.args.bytes.now) c.in_default.ensures),
      omega
          (arith, c.if-bytes-lt-LONGEST_LINE.true),
    )

pub returns-in_default-clause-due : goal.returns-in_default-clause-due
returns-in_default-clause-due c =
    inl (
      none_ends c.args.bytes.now c.min.result (inl (omega (arith, c.min.ensures, c.if-bytes-lt-LONGEST_LINE.false)))
          (found_none (take c.min.result c.args.bytes.now) c.in_default.ensures),
      omega
          (arith, c.if-bytes-lt-LONGEST_LINE.false),
      omega arith,
      refl,
    )

pub returns-clause-due : goal.returns-clause-due
returns-clause-due c =
    let cut = found_front c.args.bytes.now c.min.result c.in-Some.end c.in-Some.ensures in
    due_after c.args.profile c.args.bytes.now c.in-Some.end cut.0
    (omega (arith, cut.1, c.min.ensures)) c.in_ok-meaning.meaning _ c.complete.result c.in_ok-meaning.ensures.says
    (take_rest c.args.bytes.now (c.in-Some.end + 2)) c.complete.ensures.due c.complete.ensures.drop
