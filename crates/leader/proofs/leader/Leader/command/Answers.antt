use Rattle.std.proofs.Common.{rules, ◌≡◌, false, refl, sym, ap, ap₂, subst, ◌∙◌}
use Rattle.std.specs.FinMap.{contains_key, remove}
use Rattle.std.proofs.lemmas.Result.{on_err_weaker}
use Rattle.scout_commander.specs.Commanders.{Commanding}
use Rattle.ballot.specs.Slots.{Slots}
use Rattle.leader.specs.Leaders.{Leading}
use Rattle.ballot.proofs.SlotMaps.{remove-insert}
use Rattle.leader.proofs.Kept.{kept_insert}
use Rattle.leader.proofs.Outcomes.{at_ok}
use Rattle.leader.proofs.leader.Leader.command.Goals as goal

pub invariant_of-self-else-is_err : goal.invariant_of-self-else-is_err
invariant_of-self-else-is_err g c =
    let p = c.self.inside in
    kept_insert c.self.inside.node c.self.inside.boot
    (record {
      members = p.members;
      ballot = p.ballot;
      active = p.active;
      proposals = p.proposals;
      scout =
          p.scout;
      commanders = p.commanders;
    }) c.insert.new.self c.start_commander-started.new.commanders c.args.slot _
    c.self.invariant
    (at_ok c.start_commander-started.result (sym c.if-is_err.ensures.value) c.start_commander-started.ensures.commander.0)
    (record { members = refl; ballot = refl; slot = refl })

pub returns-then-is_err-clause-state : goal.returns-then-is_err-clause-state
returns-then-is_err-clause-state g c =
    let p = c.self.inside in
    let with : Slots g.row.C.Denot → Slots (Commanding g.row.C.Denot) → Leading g.row.C.Denot =
    λ proposals commanders. record {
      members = p.members;
      ballot = p.ballot;
      active = p.active;
      proposals =
          proposals;
      scout = p.scout;
      commanders = commanders;
    } in
    let free : contains_key p.proposals c.args.slot ≡ false =
    subst (λ (l : Leading g.row.C.Denot). contains_key l.proposals c.args.slot ≡ false) (sym c.self.view_is) c.requires in
    let back : c.remove.new.self ≡ p.proposals =
    c.remove.ensures.rest ∙ ap (λ (m : Slots g.row.C.Denot). remove m c.args.slot) c.in_ok-insert.ensures.ok.0 ∙
    remove-insert p.proposals c.args.slot c.args.command free in
    let is : c.match-remove.self ≡ with c.remove.new.self c.start_commander-started.new.commanders = search rules in
    (search rules, on_err_weaker c.start_commander-started.result (λ e. is ∙ ap₂ with back e ∙ c.self.view_is) c.start_commander-started.ensures.commander.1)
