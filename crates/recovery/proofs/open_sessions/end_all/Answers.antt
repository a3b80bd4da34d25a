use Rattle.std.proofs.Common.{◌≡◌, ◌++◌, true, false, not, take, sym, ap, subst, ◌∙◌}
use Rattle.std.specs.BTreeSet.{Updates, contains}
use Rattle.std.specs.Ordering.{nat_cmp}
use Rattle.object.specs.declared.command.Key.{Key}
use Rattle.hall.specs.Tickets.{is_close}
use Rattle.recovery.proofs.Live.{close_of, ends_item, ends_none, live_item, live_more, none_in, open_some}
use Rattle.recovery.proofs.open_sessions.end_all.Goals as goal

pub loop-command-preserved : goal.loop-command-preserved
loop-command-preserved g c = λ before left.
    let cs = c.args.commands.now in
    let i = c.loop-command.command-index in
    let item = c.command-item.result in
    let at = c.loop-command.invariant before left in
    let was = sym (at.0 item.key.session)
    ∙ subst (λ (k : Key). contains nat_cmp c.loop-command.left k.session ≡ true) c.key.ensures.key (sym c.if-not-remove.ensures.test) in
    let close = close_of item.act (c.if-not-is_close.ensures ∙ ap is_close c.act.ensures.act) in (
      live_item cs before i item c.loop-command-test.true c.command-item.is c.remove.new.self
          (live_more item (before ++ take i cs) c.loop-command.left c.remove.new.self false (open_some item.key.session (before ++ take i cs) was)
          (subst (λ (k : Key). Updates nat_cmp c.loop-command.left c.remove.new.self k.session false) c.key.ensures.key c.remove.ensures.updates)
          (sym (ap (λ a. not (is_close a)) close)) at.0),
      λ rest. at.1 (ends_item cs before i item c.loop-command-test.true c.command-item.is close was rest),
    )

pub returns : goal.returns
returns g c = λ none before left.
    let at = c.loop-command.invariant before left in
    at.1 (ends_none c.args.commands.now before c.loop-command.command-index c.loop-command.left c.loop-command-test.false
    (none_in c.loop-command.left (c.is_empty.ensures.0 none)) at.0)
