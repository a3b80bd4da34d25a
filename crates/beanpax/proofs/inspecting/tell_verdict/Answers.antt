use Rattle.std.proofs.Common.{◌∙◌, [], inl, inr, refl}
use Rattle.std.proofs.KnownBytes.{Appends-nil}
use Rattle.session.proofs.Endings.{began}
use Rattle.beanpax.proofs.inspecting.tell_verdict.Goals as goal

pub returns-in_err-line-clause-begins : goal.returns-in_err-line-clause-begins
returns-in_err-line-clause-begins g c = ([], inl refl, (0, Appends-nil (g.W.ByteOut.contents c.args.output.now)))

pub returns-in_err-map_err-clause-begins : goal.returns-in_err-map_err-clause-begins
returns-in_err-map_err-clause-begins g c =
    let told = c.as_bytes.ensures.value ∙ c.in_ok-line.ensures in (
      c.as_bytes.result.now,
      inr (c.in_ok-verdict.verdict, (_, c.in_ok-verdict.ensures), told),
      began c.write_all.result _ _ _ c.write_all.ensures.written.ok c.write_all.ensures.written.err,
    )

pub returns-clause-begins : goal.returns-clause-begins
returns-clause-begins g c =
    let told = c.as_bytes.ensures.value ∙ c.in_ok-line.ensures in (
      c.as_bytes.result.now,
      inr (c.in_ok-verdict.verdict, (_, c.in_ok-verdict.ensures), told),
      began c.write_all.result _ _ _ c.write_all.ensures.written.ok c.write_all.ensures.written.err,
    )
