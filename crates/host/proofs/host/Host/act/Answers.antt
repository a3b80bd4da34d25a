use Rattle.std.proofs.Common.{◌≡◌, ◌++◌, true, sym, ap, ◌∙◌, subst}
use Rattle.node.specs.Holding.{HeldTurn, own_turn_held, outcome_held}
use Rattle.cluster.specs.Hosts.{host_turn}
use Rattle.host.specs.Deeds.{deed_of, is_let_through}
use Rattle.host.specs.Outboxes.{Outgoing, sent_on}
use Rattle.host.specs.Views.{HostView, acted_view}
use Rattle.host.proofs.Acting.{turn_of, view_of}
use Rattle.host.proofs.host.Host.act.Goals as goal

pub returns-clause-state : goal.returns-clause-state
returns-clause-state g c =
    let h : HostView _ _ = record {
      number = c.self.inside.number;
      shown = record { base = c.self.inside.base; holding = c.self.inside.node };
      aside = c.self.inside.aside.items;
      voted = c.self.inside.voted;
      taken = c.self.inside.events;
    } in
    let z : HostView _ _ = record {
      number = c.self.inside.number;
      shown = record { base = c.self.inside.base; holding = c.act.new.self };
      aside = c.self.inside.aside.items;
      voted = c.self.inside.voted;
      taken = c.in_ok-events.events;
    } in
    let let_through : is_let_through c.self.inside.node.object (deed_of c.args.deed) ≡ true =
    subst (λ (x : HostView _ _). is_let_through x.shown.holding.object (deed_of c.args.deed) ≡ true) (sym c.self.view_is)
    (sym c.if-not-lets_through.ensures) in (
      subst (λ (x : HostView _ _). z ≡ acted_view g.O.Object.rules x (deed_of c.args.deed)) c.self.view_is
          (view_of g.O.Object.rules h c.args.deed c.deed-2.result c.act.new.self c.in_ok-events.events let_through
          c.deed-2.ensures c.in_ok-outcome.ensures.state.0 c.in_ok-events.ensures.ok),
      tt,
    )

pub returns-clause-sent : goal.returns-clause-sent
returns-clause-sent g c =
    let let_through : is_let_through c.self.inside.node.object (deed_of c.args.deed) ≡ true =
    subst (λ (x : HostView _ _). is_let_through x.shown.holding.object (deed_of c.args.deed) ≡ true) (sym c.self.view_is)
    (sym c.if-not-lets_through.ensures) in
    let turn = turn_of g.O.Object.rules (record { base = c.self.inside.base; holding = c.self.inside.node }) c.args.deed
    let_through in (
      subst (λ (o : Outgoing _). (record { base = c.sent.inside.base; letters = c.act.new.sent.items })
          ≡ sent_on o (host_turn g.O.Object.rules c.args.self.now.shown (deed_of c.args.deed)).sent) c.sent.view_is
          (ap (λ ls. record { base = c.sent.inside.base; letters = ls })
          (c.in_ok-outcome.ensures.sent.0
          ∙ ap (λ d. c.sent.inside.letters.items ++ (own_turn_held g.O.Object.rules c.self.inside.node d).sent)
          c.deed-2.ensures
          ∙ ap (λ (t : HeldTurn _ _ _). c.sent.inside.letters.items ++ t.sent) (sym turn)
          ∙ ap (λ (x : HostView _ _). c.sent.inside.letters.items
          ++ (host_turn g.O.Object.rules x.shown (deed_of c.args.deed)).sent) c.self.view_is)),
      tt,
    )

pub returns-clause-answers : goal.returns-clause-answers
returns-clause-answers g c =
    let let_through : is_let_through c.self.inside.node.object (deed_of c.args.deed) ≡ true =
    subst (λ (x : HostView _ _). is_let_through x.shown.holding.object (deed_of c.args.deed) ≡ true) (sym c.self.view_is)
    (sym c.if-not-lets_through.ensures) in
    let turn = turn_of g.O.Object.rules (record { base = c.self.inside.base; holding = c.self.inside.node }) c.args.deed
    let_through in (
      c.in_ok-outcome.ensures.answers.0
          ∙ ap (λ d. c.args.answers.now.items ++ (own_turn_held g.O.Object.rules c.self.inside.node d).answers)
          c.deed-2.ensures
          ∙ ap (λ (t : HeldTurn _ _ _). c.args.answers.now.items ++ t.answers) (sym turn)
          ∙ ap (λ (x : HostView _ _). c.args.answers.now.items
          ++ (host_turn g.O.Object.rules x.shown (deed_of c.args.deed)).answers) c.self.view_is,
      tt,
    )

pub returns-clause-outcome : goal.returns-clause-outcome
returns-clause-outcome g c =
    c.in_ok-outcome.ensures.outcome ∙ ap (λ d. outcome_held c.self.inside.node d) c.deed-2.ensures
    ∙ ap (λ (x : HostView _ _). outcome_held x.shown.holding (deed_of c.args.deed)) c.self.view_is
