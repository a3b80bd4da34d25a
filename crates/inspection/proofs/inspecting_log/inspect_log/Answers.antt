use Rattle.std.proofs.Common.{◌<◌, ◌^◌, [], length, rules, subst, sym}
use Rattle.command_log.specs.Progress.{HasRead}
use Rattle.inspection.proofs.inspecting_log.inspect_log.Goals as goal

pub returns : goal.returns
returns c =
    let text = c.args.text.now in
    let fits : length text < 2 ^ 64 = search rules in
    let begun = subst (λ commands. HasRead c.new.result [] commands) (sym c.new-commands.ensures.items) c.new.ensures in
    c.verdict_of.ensures
    (subst (λ commands. HasRead c.in_ok-reader.reader text commands) (sym c.deref.ensures.value) (c.in_ok-reader.ensures [] [] begun fits))
