use Rattle.std.proofs.Common.{◌≤◌, ◌<◌, refl, arith}
use Rattle.bean_codec.proofs.LineCuts.{first_cut}
use Rattle.bean_codec.proofs.LongLines.{found_none}
use Rattle.bean_codec.proofs.DroppedTexts.{before_within, rest_item, rest_more, rest_drop}
use Rattle.bean_codec.proofs.Due.{rest_ends, rest_waits}
use Rattle.bean_codec.proofs.dropped.read_rest.Goals as goal

pub returns-then-used-eq0-clause-more : goal.returns-then-used-eq0-clause-more
returns-then-used-eq0-clause-more c = λ profile dropped fits. rest_more profile dropped c.args.bytes.now fits (found_none c.args.bytes.now c.in_default.ensures)

pub returns-in_default-clause-drop : goal.returns-in_default-clause-drop
returns-in_default-clause-drop c = λ profile dropped fits.
    let some : 1 ≤ c.len_without_cr-used.result = omega (arith, c.if-used-eq0.false) in
    let within = before_within c.args.bytes.now c.len_without_cr-used.result c.len_without_cr-used.ensures in (
      some,
      within,
      rest_drop dropped c.args.bytes.now c.len_without_cr-used.result fits
          (found_none c.args.bytes.now c.in_default.ensures) some within c.len_without_cr-used.ensures,
    )

pub returns-clause-item : goal.returns-clause-item
returns-clause-item c = λ profile dropped fits.
    rest_item profile dropped c.args.bytes.now c.in-Some.end fits (first_cut c.args.bytes.now c.in-Some.end c.in-Some.ensures)

pub returns-then-used-eq0-clause-due : goal.returns-then-used-eq0-clause-due
returns-then-used-eq0-clause-due c = λ profile.
    rest_waits profile c.args.bytes.now c.len_without_cr-used.result c.if-used-eq0.true c.len_without_cr-used.ensures

pub returns-in_default-clause-due : goal.returns-in_default-clause-due
returns-in_default-clause-due c = λ profile.
    let some : 0 < c.len_without_cr-used.result = omega (arith, c.if-used-eq0.false) in
    (found_none c.args.bytes.now c.in_default.ensures, c.len_without_cr-used.ensures, some, refl)

pub returns-clause-due : goal.returns-clause-due
returns-clause-due c = λ profile. rest_ends profile c.args.bytes.now c.in-Some.end (first_cut c.args.bytes.now c.in-Some.end c.in-Some.ensures)
