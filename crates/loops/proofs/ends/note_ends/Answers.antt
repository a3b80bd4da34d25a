use Rattle.std.proofs.Common.{[], refl, sym, ◌∙◌, append-nil}
use Rattle.std.proofs.lemmas.List.Elements.{All-nil}
use Rattle.forgetting_hall.specs.LeadingLaws.{turns_stay, turns_further}
use Rattle.loops.specs.Lending.{IsEndAmong}
use Rattle.loops.proofs.Ending.{one_end_more}
use Rattle.loops.proofs.ends.note_ends.Goals as goal

pub loop-command-init : goal.loop-command-init
loop-command-init g c = record {
  freed = ([], sym (append-nil c.args.free.now.items), All-nil (λ key. IsEndAmong c.args.commands.now key));
  submitted = refl;
  opened = refl;
  gathering = refl;
  goes_on = turns_stay g.O.Object.rules c.args.hall.now;
}

pub loop-command-preserved : goal.loop-command-preserved
loop-command-preserved g c =
    let was = c.loop-command.invariant in
    let does = c.note_end.ensures in
    record {
      freed = one_end_more c.args.commands.now c.loop-command.command-index c.command-item.result c.loop-command-test.true c.command-item.is
          c.args.free.now.items c.loop-command.free.items c.note_end.new.free.items was.freed does.freed;
      submitted = does.submitted ∙ was.submitted;
      opened = does.opened ∙ was.opened;
      gathering = does.gathering ∙ was.gathering;
      goes_on = turns_further g.O.Object.rules c.args.hall.now c.loop-command.hall c.note_end.new.hall was.goes_on does.goes_on;
    }
