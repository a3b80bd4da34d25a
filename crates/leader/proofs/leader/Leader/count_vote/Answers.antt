use Rattle.std.proofs.Common.{◌≡◌, true≢false, sym, ap, subst, ◌∙◌, Some, Option}
use Rattle.std.specs.Prelude.{MatchOption}
use Rattle.std.specs.FinMap.{get, insert}
use Rattle.scout_commander.specs.Commanders.{Commanding, on_p2b}
use Rattle.ballot.specs.Slots.{Slots}
use Rattle.leader.specs.Leaders.{Leading}
use Rattle.leader.specs.Votes as votes
use Rattle.leader.proofs.Kept.{kept_insert, kept_remove}
use Rattle.leader.proofs.VoteRows.{same_commander, waits, says_wait}
use Rattle.leader.proofs.leader.Leader.count_vote.Given.{Over}
use Rattle.leader.proofs.leader.Leader.count_vote.Goals as goal

-- the commander that stands there has heard the vote
heard : (g : Over) (c : goal.After-hear_p2b g)
    → c.hear_p2b.new.commanders ≡ insert c.self.inside.commanders c.args.slot
    (on_p2b c.in-Some.commander.now c.args.from (Some c.self.inside.ballot)).commander
heard g c =
    let p = c.self.inside in
    let there : get p.commanders c.args.slot ≡ Some c.in-Some.commander.now = sym c.in-Some.ensures in
    subst (λ (o : Option (Commanding g.row.C.Denot)). MatchOption o (c.hear_p2b.new.commanders ≡ p.commanders)
    (λ y. c.hear_p2b.new.commanders
    ≡ insert p.commanders c.args.slot (on_p2b y c.args.from (Some p.ballot)).commander)) there c.hear_p2b.ensures

pub invariant_of-self : goal.invariant_of-self
invariant_of-self g c =
    let p = c.self.inside in
    let l : Leading g.row.C.Denot =
    record {
      members = p.members;
      ballot = p.ballot;
      active = p.active;
      proposals = p.proposals;
      scout =
          p.scout;
      commanders = p.commanders;
    } in
    let x = c.in-Some.commander.now in
    kept_insert p.node p.boot l p.proposals c.hear_p2b.new.commanders c.args.slot (on_p2b x c.args.from (Some p.ballot)).commander c.self.invariant (heard g c)
    (same_commander l c.args.slot x c.args.from (Some p.ballot) (c.self.invariant.leader.commanders c.args.slot x (sym c.in-Some.ensures)))

pub returns-then-not-would_decide-clause-state : goal.returns-then-not-would_decide-clause-state
returns-then-not-would_decide-clause-state g c =
    let p = c.self.inside in
    let x = c.in-Some.commander.now in
    let there : get p.commanders c.args.slot ≡ Some x = sym c.in-Some.ensures in
    let with : Slots (Commanding g.row.C.Denot) → Leading g.row.C.Denot =
    λ commanders. record { members = p.members; ballot = p.ballot; active = p.active; proposals = p.proposals; scout = p.scout; commanders = commanders } in (
      ap with (heard g c) ∙
          sym (waits (with p.commanders) c.args.from c.args.slot x there
          (says_wait x c.args.from p.ballot (c.self.invariant.leader.commanders c.args.slot x there).ballot
          (λ d. true≢false (sym (c.would_decide.ensures.1 d) ∙ c.if-not-would_decide.true)))) ∙
          ap (λ (l : Leading g.row.C.Denot). (votes.on_p2b l c.args.from (Some l.ballot) c.args.slot l.ballot).state) c.self.view_is,
      tt,
    )

pub invariant_of-self-2 : goal.invariant_of-self-2
invariant_of-self-2 g c =
    let p = c.self.inside in
    let l : Leading g.row.C.Denot =
    record {
      members = p.members;
      ballot = p.ballot;
      active = p.active;
      proposals = p.proposals;
      scout =
          p.scout;
      commanders = p.commanders;
    } in
    kept_remove p.node p.boot l c.remove.new.self c.args.slot c.self.invariant c.remove.ensures.rest
