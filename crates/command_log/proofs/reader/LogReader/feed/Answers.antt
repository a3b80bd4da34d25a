use Rattle.std.proofs.Common.{◌≡◌, ℕ, ◌+◌, List, ◌++◌, take, sym, ap, ap₂, subst, ◌∙◌, add-one}
use Rattle.std.proofs.lemmas.List.{take-append-drop}
use Rattle.command_log.specs.Lines.{IsLogLine}
use Rattle.command_log.proofs.Cuts.{first_is_line, rest_no_feed}
use Rattle.command_log.proofs.Feeding.{fed_line, fed_nothing, fed_result}
use Rattle.command_log.proofs.reader.LogReader.feed.Goals as goal

pub loop-end-init : goal.loop-end-init
loop-end-init c = fed_nothing c.args.self c.args.commands.now.items c.args.piece.now

pub end_line-requires : goal.end_line-requires
end_line-requires c =
    let rest = c.loop-end.rest.now in
    subst IsLogLine (sym (c.split_at.ensures.front ∙ ap (λ (k : ℕ). take k rest) (add-one c.in-Some.end)))
    (first_is_line rest c.in-Some.end c.in-Some.ensures)

pub loop-end-preserved : goal.loop-end-preserved
loop-end-preserved c =
    let rest = c.loop-end.rest.now in
    let line = c.split_at.result.0.now in
    let more = c.split_at.result.1.now in
    let cut : rest ≡ line ++ more =
    sym (take-append-drop (c.in-Some.end + 1) rest) ∙ ap₂ (λ (a b : List ℕ). a ++ b) (sym c.split_at.ensures.front)
    (sym c.split_at.ensures.back) in
    fed_line c.args.self c.loop-end.reader c.in_ok-reader.reader c.args.commands.now.items c.loop-end.commands.items
    c.end_line.new.commands.items c.args.piece.now rest line more c.loop-end.invariant cut c.in_ok-reader.ensures

pub begin_line-requires : goal.begin_line-requires
begin_line-requires c = rest_no_feed c.loop-end.rest.now c.in_default.ensures

pub returns : goal.returns
returns c =
    fed_result c.args.self c.loop-end.reader c.args.commands.now.items c.loop-end.commands.items c.args.piece.now c.loop-end.rest.now
    c.begin_line.result c.loop-end.invariant c.begin_line.ensures
