use Rattle.std.proofs.Common.{◌++◌, codes, subst}
use Rattle.session.specs.StreamStates.{WritesAll}
use Rattle.beanpax.proofs.Tellings.{breaks, goes_on}
use Rattle.beanpax.proofs.telling.write_behind.Goals as goal

pub returns-in_err-write_all : goal.returns-in_err-write_all
returns-in_err-write_all g c =
    let more = c.args.between.now ++ (c.args.last.now ++ codes "\n") in
    subst (λ text. WritesAll g.E.ByteOut c.args.errors.now c.write_all.new.writer (text ++ more) c.from_residual.result) c.as_bytes.ensures.value
    (breaks g.E.ByteOut _ _ c.as_bytes.result.now more _ _ c.in_err-write_all.ensures.written c.from_residual.ensures.0)

pub returns-in_err-write_all-2 : goal.returns-in_err-write_all-2
returns-in_err-write_all-2 g c =
    let r = c.from_residual-in_err-write_all-2.result in
    let more = c.args.last.now ++ codes "\n" in
    let first = c.in_ok-write_all.ensures.written in
    let behind =
    subst (λ text. WritesAll g.E.ByteOut c.write_all.new.writer c.write_all-2.new.writer (text ++ more) r) c.as_bytes-2.ensures.value
    (breaks g.E.ByteOut _ _ c.as_bytes-2.result.now more _ r c.in_err-write_all-2.ensures.written
    c.from_residual-in_err-write_all-2.ensures.0) in
    subst (λ text. WritesAll g.E.ByteOut c.args.errors.now c.write_all-2.new.writer (text ++ (c.args.between.now ++ more)) r)
    c.as_bytes.ensures.value
    (goes_on g.E.ByteOut _ _ _ c.as_bytes.result.now _ r first.ok first.stays behind)

pub returns-in_err-write_all-3 : goal.returns-in_err-write_all-3
returns-in_err-write_all-3 g c =
    let r = c.from_residual-in_err-write_all-3.result in
    let first = c.in_ok-write_all.ensures.written in
    let second = c.in_ok-write_all-2.ensures.written in
    let last =
    subst (λ text. WritesAll g.E.ByteOut c.write_all-2.new.writer c.write_all-3.new.writer (text ++ codes "\n") r) c.as_bytes-3.ensures.value
    (breaks g.E.ByteOut _ _ c.as_bytes-3.result.now (codes "\n") _ r c.in_err-write_all-3.ensures.written
    c.from_residual-in_err-write_all-3.ensures.0) in
    let behind =
    subst (λ text. WritesAll g.E.ByteOut c.write_all.new.writer c.write_all-3.new.writer (text ++ (c.args.last.now ++ codes "\n")) r)
    c.as_bytes-2.ensures.value
    (goes_on g.E.ByteOut _ _ _ c.as_bytes-2.result.now _ r second.ok second.stays last) in
    subst (λ text. WritesAll g.E.ByteOut c.args.errors.now c.write_all-3.new.writer (text ++ (c.args.between.now ++ (c.args.last.now ++ codes "\n"))) r)
    c.as_bytes.ensures.value
    (goes_on g.E.ByteOut _ _ _ c.as_bytes.result.now _ r first.ok first.stays behind)

pub returns : goal.returns
returns g c =
    let r = c.write_all-4.result in
    let first = c.in_ok-write_all.ensures.written in
    let second = c.in_ok-write_all-2.ensures.written in
    let third = c.in_ok-write_all-3.ensures.written in
    let end =
    subst (λ text. WritesAll g.E.ByteOut c.write_all-3.new.writer c.write_all-4.new.writer text r) c.as_bytes-4.ensures.value
    c.write_all-4.ensures.written in
    let last =
    subst (λ text. WritesAll g.E.ByteOut c.write_all-2.new.writer c.write_all-4.new.writer (text ++ codes "\n") r) c.as_bytes-3.ensures.value
    (goes_on g.E.ByteOut _ _ _ c.as_bytes-3.result.now _ r third.ok third.stays end) in
    let behind =
    subst (λ text. WritesAll g.E.ByteOut c.write_all.new.writer c.write_all-4.new.writer (text ++ (c.args.last.now ++ codes "\n")) r)
    c.as_bytes-2.ensures.value
    (goes_on g.E.ByteOut _ _ _ c.as_bytes-2.result.now _ r second.ok second.stays last) in
    subst (λ text. WritesAll g.E.ByteOut c.args.errors.now c.write_all-4.new.writer (text ++ (c.args.between.now ++ (c.args.last.now ++ codes "\n"))) r)
    c.as_bytes.ensures.value
    (goes_on g.E.ByteOut _ _ _ c.as_bytes.result.now _ r first.ok first.stays behind)
