use Rattle.std.proofs.Common.{◌≡◌, ◌≢◌, Option, Some, None, refl, sym, ap, subst, ◌∙◌, arith}
use Rattle.std.proofs.lemmas.Bool.{false≢true}
use Rattle.std.proofs.lemmas.Grind.{common_steps}
use Rattle.std.proofs.lemmas.Option.{none-some, same_Some}
use Rattle.std.specs.Option.{IsSomeAnd}
use Rattle.std.specs.FinMap.{get}
use Rattle.ballot.specs.Slots.{Slots}
use Rattle.ballot.proofs.SlotMaps.{insert_again}
use Rattle.slot_log.proofs.Books.{decision_at}
use Rattle.slot_log.proofs.slot_log.SlotLog.learn.Goals as goal

pub returns-in-Some-clause-state : goal.returns-in-Some-clause-state
returns-in-Some-clause-state g c =
    let same = g.met.C.Value.exact c.in-Some.decided.now c.args.command (sym c.eq.ensures ∙ c.if-eq.true) in
    let there = decision_at c.self.inside c.args.self.now c.self.view_is c.args.slot ∙ sym c.in-Some.ensures ∙ ap (λ x. Some x) same in (
      ap (λ (ds : Slots _). record c.args.self.now { decisions = ds })
          (sym (insert_again c.args.self.now.decisions c.args.slot c.args.command there)),
      tt,
    )

pub returns-in-Some-clause-clash : goal.returns-in-Some-clause-clash
returns-in-Some-clause-clash g c =
    let same = g.met.C.Value.exact c.in-Some.decided.now c.args.command (sym c.eq.ensures ∙ c.if-eq.true) in
    let there = decision_at c.self.inside c.args.self.now c.self.view_is c.args.slot ∙ sym c.in-Some.ensures in
    (λ h. cc, λ h. absurd ((subst (λ (o : Option _). IsSomeAnd o (λ d. d ≢ c.args.command)) there h) same))

pub returns-in-Some-2-clause-clash : goal.returns-in-Some-2-clause-clash
returns-in-Some-2-clause-clash g c =
    let there = decision_at c.self.inside c.args.self.now c.self.view_is c.args.slot ∙ sym c.in-Some.ensures in (
      λ h. subst (λ (o : Option _). IsSomeAnd o (λ d. d ≢ c.args.command)) (sym there)
          (λ same. false≢true (sym c.if-eq.false ∙ c.eq.ensures ∙ ap (λ x. g.C.PartialEq.eq x c.args.command) same ∙ g.met.C.Eq.laws.refl c.args.command)),
      λ h. refl,
    )

pub returns-in-Some-2-clause-again : goal.returns-in-Some-2-clause-again
returns-in-Some-2-clause-again g c =
    let there = decision_at c.self.inside c.args.self.now c.self.view_is c.args.slot ∙ sym c.in-Some.ensures in
    λ h. sym c.if-eq.false ∙ c.eq.ensures ∙ ap (λ x. g.C.PartialEq.eq x c.args.command)
    (same_Some c.in-Some.decided.now c.args.command (sym there ∙ h)) ∙ g.met.C.Eq.laws.refl c.args.command

pub decide-requires : goal.decide-requires
decide-requires g c = decision_at c.self.inside c.args.self.now c.self.view_is c.args.slot ∙ sym c.in-None.ensures

pub returns-clause-clash : goal.returns-clause-clash
returns-clause-clash g c =
    let new : get c.args.self.now.decisions c.args.slot ≡ None = decision_at c.self.inside c.args.self.now c.self.view_is c.args.slot ∙ sym c.in-None.ensures in
    (λ h. grind (arith, common_steps), λ h. absurd (subst (λ (o : Option _). IsSomeAnd o (λ d. d ≢ c.args.command)) new h))

pub returns-clause-again : goal.returns-clause-again
returns-clause-again g c =
    let new : get c.args.self.now.decisions c.args.slot ≡ None = decision_at c.self.inside c.args.self.now c.self.view_is c.args.slot ∙ sym c.in-None.ensures in
    λ h. absurd (none-some c.args.command (sym new ∙ h))

pub returns-clause-unchanged : goal.returns-clause-unchanged
returns-clause-unchanged g c =
    let new : get c.args.self.now.decisions c.args.slot ≡ None = decision_at c.self.inside c.args.self.now c.self.view_is c.args.slot ∙ sym c.in-None.ensures in
    λ h. absurd (none-some c.args.command (sym new ∙ h))
