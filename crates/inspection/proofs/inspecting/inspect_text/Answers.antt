use Rattle.std.proofs.Common.{◌∙◌, ◌++◌, inl, inr, length, drop, sym, ap}
use Rattle.std.proofs.lemmas.Bool.{false≢true}
use Rattle.std.proofs.lemmas.Bool.Decides.{Decides-eqb}
use Rattle.std.proofs.lemmas.Result.{IfOk-weaker}
use Rattle.std.proofs.lemmas.Slice.Eq.{starts_is}
use Rattle.inspection.proofs.inspecting.inspect_text.Goals as goal

pub returns-then-starts_with : goal.returns-then-starts_with
returns-then-starts_with c =
    let text = c.args.text.now in
    let words = c.as_slice.result.now in
    let begins = (starts_is Decides-eqb text words c.starts_with.result c.starts_with.ensures.value).0 c.if-starts_with.true in
    IfOk-weaker c.inspect_log.result _ _
    (λ verdict is. inl ((drop (length words) text, begins ∙ ap (λ w. w ++ drop (length words) text) c.as_slice.ensures), is))
    c.inspect_log.ensures

pub returns-else-starts_with : goal.returns-else-starts_with
returns-else-starts_with c =
    let text = c.args.text.now in
    let words = c.as_slice.result.now in
    let whole = (starts_is Decides-eqb text words c.starts_with.result c.starts_with.ensures.value).1 in
    IfOk-weaker c.inspect_dump.result _ _
    (λ verdict is. inr (
      λ begins. false≢true (sym c.if-starts_with.false ∙ whole begins.0 (begins.1 ∙ ap (λ w. w ++ begins.0) (sym c.as_slice.ensures))),
      is,
    ))
    c.inspect_dump.ensures
