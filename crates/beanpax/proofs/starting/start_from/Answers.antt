use Rattle.std.proofs.Common.{rules, ◌≡◌, ◌<◌, ◌+◌, ◌-◌, ◌^◌, ◌++◌, min, length, ap, sym, subst, ◌∙◌, arith, refl}
use Rattle.forgetting_hall.specs.Handing.{second_of}
use Rattle.journal.specs.Waiting.{JournalState}
use Rattle.recovery.specs.Clocks.{last_second_in}
use Rattle.recovery.specs.Opened.{EndsAll}
use Rattle.beanpax.proofs.Keeping.{all_kept, begun_holds}
use Rattle.beanpax.proofs.Starts.{told_same}
use Rattle.beanpax.proofs.starting.start_from.Given.{Over}
use Rattle.beanpax.proofs.starting.start_from.Goals as goal

-- how many took effect, in 64 bits
few : (g : Over) (c : goal.After-drop-commands-2 g) → c.placed_count-count.result < 2 ^ 64
few g c = search rules

pub returns-clause-started : goal.returns-clause-started
returns-clause-started g c =
    let commands = c.args.opened.commands.items in
    let recovered = c.in_ok-hall.field-0 in
    let closes = recovered.closes.items in
    let counted = subst (λ cs. recovered.hall.summary.placed ≡ length (cs ++ closes)) c.deref.ensures.value c.in_ok-hall.ensures.counted in
    record {
      closes = closes;
      ends = subst (λ cs. EndsAll cs closes) c.deref.ensures.value c.in_ok-hall.ensures.ends;
      told = told_same closes c.deref.ensures.value c.in_ok-hall.ensures.told;
      gathered = c.in_ok-hall.ensures.gathered;
      placed = counted;
      settled = c.in_ok-hall.ensures.settled;
      second = subst (λ cs. second_of recovered.hall ≡ last_second_in cs) c.deref.ensures.value c.in_ok-hall.ensures.second;
      kept = c.in_ok-keep.ensures.synced ∙ ap (λ (j : JournalState _). j.due) c.put.ensures.put
          ∙ ap (λ (j : JournalState _). min (j.due + length closes) (2 ^ 64 - 1)) c.new-journal.ensures
          ∙ all_kept commands closes c.len.result c.placed_count-count.result (c.len.ensures ∙ c.args.opened.commands.ok.0) (c.placed_count-count.ensures.count ∙ counted) (few g c);
      waiting = c.in_ok-keep.ensures.written.0;
      log = λ members holds. (c.in_ok-keep.ensures.log members (commands ++ closes)
          (c.put.ensures.log members commands
          (begun_holds g.W.Write.contents c.new-journal.result c.args.opened.log c.len.result members commands c.new-journal.ensures (c.len.ensures ∙ c.args.opened.commands.ok.0) holds))).0;
    }
