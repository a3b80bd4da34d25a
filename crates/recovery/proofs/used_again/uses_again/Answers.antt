use Rattle.std.proofs.Common.{◌≡◌, ◌+◌, true, false, take, sym, ap, subst, ◌∙◌}
use Rattle.std.specs.BTreeSet.{Updates, contains}
use Rattle.std.specs.Ordering.{nat_cmp}
use Rattle.object.specs.declared.command.Key.{Key}
use Rattle.hall.specs.Tickets.{is_close}
use Rattle.recovery.proofs.Ended.{AreEnded, ended_more, ended_still, uses_here, uses_none, uses_on}
use Rattle.recovery.proofs.used_again.uses_again.Goals as goal
use Rattle.recovery.proofs.used_again.uses_again.Goals.{then-is_close+in_ok-insert, else-is_close}

pub returns-then-contains : goal.returns-then-contains
returns-then-contains g c =
    let item = c.command-item.result in
    let so_far = c.loop-command.invariant in
    let found = sym (so_far.0 item.key.session) ∙ subst (λ (k : Key). contains nat_cmp c.loop-command.ended k.session ≡ true) c.key-session.ensures.key
    (sym c.contains.ensures ∙ c.if-contains.true) in
    sym (uses_here c.args.commands.now c.loop-command.command-index item c.loop-command-test.true c.command-item.is found) ∙ so_far.1

pub loop-command-preserved : goal.loop-command-preserved
loop-command-preserved g c =
    let cs = c.args.commands.now in
    let i = c.loop-command.command-index in
    let item = c.command-item.result in
    let inside = c.loop-command-test.true in
    let at = c.command-item.is in
    let so_far = c.loop-command.invariant in
    let none = sym (so_far.0 item.key.session) ∙ subst (λ (k : Key). contains nat_cmp c.loop-command.ended k.session ≡ false) c.key-session.ensures.key
    (sym c.contains.ensures ∙ c.if-contains.false) in
    let act = sym (c.is_close.ensures ∙ ap is_close c.act.ensures.act) in (
      elim c.if-is_close.branch [
        | then-is_close+in_ok-insert w ↦ subst (λ s. AreEnded s (take (i + 1) cs)) (sym w.ended-is)
            (ended_more cs i item inside at c.loop-command.ended w.insert.new.self (act ∙ w.if-is_close.true)
            (subst (λ (k : Key). Updates nat_cmp c.loop-command.ended w.insert.new.self k.session true) c.key-session.ensures.key
            w.in_ok-insert.ensures.updates) so_far.0)
        | else-is_close w ↦ subst (λ s. AreEnded s (take (i + 1) cs)) (sym w.ended-is)
            (ended_still cs i item inside at c.loop-command.ended (act ∙ w.if-is_close.false) so_far.0)
      ],
      uses_on cs i item inside at none ∙ so_far.1,
    )

pub returns : goal.returns
returns g c = sym (uses_none c.args.commands.now c.loop-command.command-index c.loop-command-test.false) ∙ c.loop-command.invariant.1
