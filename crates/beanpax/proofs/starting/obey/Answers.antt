use Rattle.std.proofs.Common.{◌≡◌, ◌≤◌, ◌++◌, length, take, subst}
use Rattle.std.proofs.lemmas.List.{take_all}
use Rattle.forgetting_hall.specs.Handing.{second_of}
use Rattle.forgetting_hall.specs.Telling.{HasTold}
use Rattle.recovery.specs.Clocks.{last_second_in}
use Rattle.recovery.specs.Obeyed.{HasReplayed}
use Rattle.recovery.specs.Opened.{EndsAll}
use Rattle.beanpax.proofs.Starts.{behind_is, more_told, still_inside, taken_more}
use Rattle.beanpax.proofs.starting.obey.Goals as goal

pub loop-done-preserved-then-has_passed : goal.loop-done-preserved-then-has_passed
loop-done-preserved-then-has_passed g c =
    let cs = c.args.commands.now in
    let a = c.loop-done.done in
    let n = c.in_ok-done.field-0 in
    let so_far = c.loop-done.invariant in (
      still_inside cs a n so_far.0 (subst (λ s. n ≤ length s) (behind_is cs a) c.in_ok-done.ensures.few),
      taken_more (HasReplayed g.O.Object.rules c.args.members c.obey_some.new.self) cs a n
          (subst (λ s. HasReplayed g.O.Object.rules c.args.members c.obey_some.new.self (take a cs ++ take n s)) (behind_is cs a)
          (c.in_ok-done.ensures.obeyed c.args.members (take a cs) so_far.1)),
      more_told g.E.ByteOut c.args.errors.now c.loop-done.errors c.tell_obeyed.new.errors so_far.2 c.tell_obeyed.ensures,
    )

pub loop-done-preserved : goal.loop-done-preserved
loop-done-preserved g c =
    let cs = c.args.commands.now in
    let a = c.loop-done.done in
    let n = c.in_ok-done.field-0 in
    let so_far = c.loop-done.invariant in (
      still_inside cs a n so_far.0 (subst (λ s. n ≤ length s) (behind_is cs a) c.in_ok-done.ensures.few),
      taken_more (HasReplayed g.O.Object.rules c.args.members c.obey_some.new.self) cs a n
          (subst (λ s. HasReplayed g.O.Object.rules c.args.members c.obey_some.new.self (take a cs ++ take n s)) (behind_is cs a)
          (c.in_ok-done.ensures.obeyed c.args.members (take a cs) so_far.1)),
      so_far.2,
    )

pub returns-clause-told : goal.returns-clause-told
returns-clause-told g c =
    subst (λ cs. HasTold g.O.Object.rules c.args.members c.in_ok-finish.field-0.hall (cs ++ c.in_ok-finish.field-0.closes.items))
    (take_all c.loop-done.done c.args.commands.now c.loop-done-test.false)
    (c.in_ok-finish.ensures.told c.args.members _ c.loop-done.invariant.1)

pub returns-clause-ends : goal.returns-clause-ends
returns-clause-ends g c =
    subst (λ cs. EndsAll cs c.in_ok-finish.field-0.closes.items) (take_all c.loop-done.done c.args.commands.now c.loop-done-test.false)
    (c.in_ok-finish.ensures.closes c.args.members _ c.loop-done.invariant.1)

pub returns-clause-counted : goal.returns-clause-counted
returns-clause-counted g c =
    subst (λ cs. c.in_ok-finish.field-0.hall.summary.placed ≡ length (cs ++ c.in_ok-finish.field-0.closes.items))
    (take_all c.loop-done.done c.args.commands.now c.loop-done-test.false)
    (c.in_ok-finish.ensures.counted c.args.members _ c.loop-done.invariant.1)

pub returns-clause-settled : goal.returns-clause-settled
returns-clause-settled g c = c.in_ok-finish.ensures.settled c.args.members _ c.loop-done.invariant.1

pub returns-clause-second : goal.returns-clause-second
returns-clause-second g c =
    subst (λ cs. second_of c.in_ok-finish.field-0.hall ≡ last_second_in cs) (take_all c.loop-done.done c.args.commands.now c.loop-done-test.false)
    (c.in_ok-finish.ensures.second c.args.members _ c.loop-done.invariant.1)
