use Rattle.std.proofs.Common.{map, take, decimal, rules}
use Rattle.chronicle_text.specs.Lines.{spaced}
use Rattle.chronicle_text.proofs.texts.Texts.{front_kept}
use Rattle.chronicle_text.proofs.append.append_numbers.Goals as goal

pub returns-in_err-append_number : goal.returns-in_err-append_number
returns-in_err-append_number c = record {
  ok = (
    search rules,
    front_kept c.args.out.now.items
        (spaced (map decimal (take c.loop-number.number-index c.args.numbers.now))) c.loop-number.out.items
        c.append_number.new.out.items _ _ c.args.out.now.ok.0 c.loop-number.out.ok.0 c.loop-number.invariant
        c.append_number.ensures.ok.1,
  );
}
