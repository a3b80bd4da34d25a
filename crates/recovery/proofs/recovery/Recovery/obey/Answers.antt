use Rattle.std.proofs.Common.{◌++◌, ap, sym, subst, ◌∙◌, arith}
use Rattle.forgetting_hall.specs.Telling.{HasTold}
use Rattle.recovery.specs.Obeyed.{AreLeftOpen, RecoveryState}
use Rattle.recovery.proofs.Seconds.{last_second-append}
use Rattle.recovery.proofs.recovery.Recovery.obey.Goals as goal

pub returns-clause-obeyed : goal.returns-clause-obeyed
returns-clause-obeyed g c = λ members before has.
    let cs = c.args.commands.now in
    let rules = g.O.Object.rules in
    let handed_in = c.loop-command.invariant in
    let same = sym c.deref.ensures.value ∙ c.are_same.ensures c.if-not-are_same.false in
    record {
      told = c.forget_slots.ensures.told members (before ++ cs) (subst (λ ds. HasTold rules members c.placed.new.hall (before ++ ds)) same
          (c.in_ok-placed.ensures.told members before (subst (λ (r : RecoveryState _ _ _). HasTold rules members r.hall before) (sym c.self.view_is)
          (handed_in.0 members before has.told))));
      live = c.in_ok-note_all.ensures before (subst (λ (r : RecoveryState _ _ _). AreLeftOpen r.live before) (sym c.self.view_is)
          (subst (λ live. AreLeftOpen live before) (sym handed_in.1) has.live));
      second =
          let append = last_second-append before cs in
          let was = ap (λ (r : RecoveryState _ _ _). r.second) c.self.view_is in
          let kept = handed_in.2 in
          let so_far = has.second in
          let here = c.last_second_in.ensures in
          let top = c.max-self-inside.ensures in
          omega (arith, append, was, kept, so_far, here, top);
    }
