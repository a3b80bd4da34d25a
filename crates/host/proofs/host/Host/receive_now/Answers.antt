use Rattle.std.proofs.Common.{◌++◌, append-nil, refl, sym, ap, ◌∙◌, subst}
use Rattle.std.proofs.lemmas.Result.{IfOk-weaker, on_err_weaker}
use Rattle.host.specs.Hearing.{ReadsEnvelope}
use Rattle.host.specs.Receiving.{IsLeftOut}
use Rattle.host.specs.Views.{HostView}
use Rattle.host.proofs.host.Host.receive_now.Goals as goal

pub returns-clause-ok : goal.returns-clause-ok
returns-clause-ok g c =
    let z : HostView _ _ = record {
      number = c.self.inside.number;
      shown = record { base = c.self.inside.base; holding = c.receive_counted.new.node };
      aside = c.self.inside.aside.items;
      voted = c.self.inside.voted;
      taken = c.receive_counted.new.events;
    } in
    IfOk-weaker c.receive_counted.result _ _
    (λ r k. subst
    (λ (h : HostView _ _). ReadsEnvelope r h c.args.envelope.now z c.args.sent.now.items c.receive_counted.new.sent.items)
    c.self.view_is
    (record {
      number = refl;
      shown = k.0;
      aside = sym (ap (λ xs. c.self.inside.aside.items ++ xs) k.1 ∙ append-nil c.self.inside.aside.items);
      voted = refl;
      taken = k.2;
      waits = λ asks received. c.requires.at_once asks;
    }))
    c.receive_counted.ensures.ok

pub returns-clause-exhausted : goal.returns-clause-exhausted
returns-clause-exhausted g c = λ e.
    ap (λ (h : HostView _ _). h.taken) (sym c.self.view_is) ∙ c.receive_counted.ensures.exhausted e

pub returns-clause-idle : goal.returns-clause-idle
returns-clause-idle g c = λ out. c.receive_counted.ensures.idle
    (subst (λ (h : HostView _ _). IsLeftOut h.number h.shown c.args.envelope.now) (sym c.self.view_is) out)

pub returns-clause-err : goal.returns-clause-err
returns-clause-err g c = on_err_weaker c.receive_counted.result
    (λ k. (
      (λ i. record {
        number = c.self.inside.number;
        shown = record { base = c.self.inside.base; holding = k.0 i };
        aside = c.self.inside.aside.items;
        voted = c.self.inside.voted;
        taken = k.2 i;
      }) ∙ c.self.view_is,
      k.1,
    ))
    c.receive_counted.ensures.err
