use Rattle.std.proofs.Common.{◌++◌, codes, subst}
use Rattle.session.specs.StreamStates.{WritesAll}
use Rattle.beanpax.specs.Faults.{cause_line}
use Rattle.beanpax.proofs.Tellings.{breaks, goes_on}
use Rattle.beanpax.proofs.telling.write_reason.Goals as goal

pub returns-in_err-write_all : goal.returns-in_err-write_all
unfolding cause_line
returns-in_err-write_all g c =
    let more = c.args.name.now ++ (codes ": " ++ (c.args.reason.now ++ codes "\n")) in
    subst (λ text. WritesAll g.E.ByteOut c.args.errors.now c.write_all.new.writer (text ++ more) c.from_residual.result) c.as_bytes.ensures.value
    (breaks g.E.ByteOut _ _ c.as_bytes.result.now more _ _ c.in_err-write_all.ensures.written c.from_residual.ensures.0)

pub returns : goal.returns
unfolding cause_line
returns g c =
    let r = c.write_behind.result in
    let more = c.args.name.now ++ (codes ": " ++ (c.args.reason.now ++ codes "\n")) in
    let first = c.in_ok-write_all.ensures.written in
    subst (λ text. WritesAll g.E.ByteOut c.args.errors.now c.write_behind.new.errors (text ++ more) r) c.as_bytes.ensures.value
    (goes_on g.E.ByteOut _ _ _ c.as_bytes.result.now more r first.ok first.stays c.write_behind.ensures)
