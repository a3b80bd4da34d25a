use Rattle.std.proofs.Common.{rules, ◌≡◌, ◌<◌, ◌+◌, ◌-◌, ◌^◌, ◌++◌, min, length, ap, sym, subst, ◌∙◌, arith, refl}
use Rattle.journal.specs.Waiting.{JournalState}
use Rattle.recorder.specs.Records.{command_under, commands_from}
use Rattle.recovery.specs.Clocks.{last_second_in}
use Rattle.recovery.specs.Opened.{EndsAll}
use Rattle.beanpax.proofs.Keeping.{all_kept, begun_holds, no_more_given}
use Rattle.beanpax.proofs.restoring.restore_from.Given.{Over}
use Rattle.beanpax.proofs.restoring.restore_from.Goals as goal

-- how many took effect, in 64 bits
below : (g : Over) (c : goal.After-drop-commands-2 g) → c.placed_count-count.result < 2 ^ 64
below g c = search rules

pub returns-clause-restored : goal.returns-clause-restored
returns-clause-restored g c =
    let commands = c.args.opened.commands.items in
    let r = c.in_ok-recovered.recovered in
    let closes = r.closes.items in
    let placed = subst (λ cs. commands_from 0 r.hall.nodes.past ≡ cs ++ closes) c.deref.ensures.value c.in_ok-recovered.ensures.placed in
    let given = no_more_given (command_under r.hall.nodes.past.happenings.submitted) r.hall.nodes.past.order in
    let number = c.placed_count-count.ensures in
    let bound = below g c in
    let few : length (commands ++ closes) < 2 ^ 64 = subst (λ cs. length cs < 2 ^ 64) placed (omega (arith, given, number, bound)) in
    record {
      closes = closes;
      ends = subst (λ cs. EndsAll cs closes) c.deref.ensures.value c.in_ok-recovered.ensures.ends;
      has_members = c.in_ok-recovered.ensures.members;
      placed = placed;
      settled = c.in_ok-recovered.ensures.settled;
      second = subst (λ cs. r.hall.second ≡ last_second_in cs) c.deref.ensures.value c.in_ok-recovered.ensures.second;
      kept = c.in_ok-keep.ensures.synced ∙ ap (λ (j : JournalState _). j.due) c.put.ensures.put
          ∙ ap (λ (j : JournalState _). min (j.due + length closes) (2 ^ 64 - 1)) c.new-journal.ensures
          ∙ all_kept commands closes c.len.result (length (commands ++ closes)) (c.len.ensures ∙ c.args.opened.commands.ok.0) refl few;
      waiting = c.in_ok-keep.ensures.written.0;
      log = λ members holds. (c.in_ok-keep.ensures.log members (commands ++ closes)
          (c.put.ensures.log members commands
          (begun_holds g.W.Write.contents c.new-journal.result c.args.opened.log c.len.result members commands c.new-journal.ensures (c.len.ensures ∙ c.args.opened.commands.ok.0) holds))).0;
    }
