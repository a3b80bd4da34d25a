use Rattle.std.specs.Result.{is_ok}
use Rattle.std.proofs.Common.{◌≡◌, cond, ◌++◌, [], ◌∷◌, false, append-nil, is_none, refl, sym, ap, ◌∙◌, subst, arith}
use Rattle.object.specs.ListLaws.{Each}
use Rattle.ballot.specs.Rests.{rest_of_body}
use Rattle.ballot.specs.declared.letter.Letter.{Letter}
use Rattle.host.specs.Hearing.{ReadsEnvelope}
use Rattle.host.specs.Receiving.{AwaitsVote}
use Rattle.host.specs.Views.{HostView}
use Rattle.host.specs.declared.receipt.Receipt.TheVariants as receipts
use Rattle.host.proofs.Received.{each_more, not_left_out, nothing_left}
use Rattle.host.proofs.Storing.{asked_whole}
use Rattle.host.proofs.host.Host.put_aside.Goals as goal

pub returns-then-is_forgotten-clause-ok : goal.returns-then-is_forgotten-clause-ok
returns-then-is_forgotten-clause-ok g c = λ now.
    let base = ap (λ (h : HostView _ _). h.shown.base) c.self.view_is in
    record {
      number = refl;
      shown = (
        subst (λ b. rest_of_body b c.args.envelope.letter.body ≡ Rattle.std.proofs.Common.None) base
            (subst (λ (l : Letter _). rest_of_body c.self.inside.base l.body ≡ Rattle.std.proofs.Common.None)
            c.letter.ensures (nothing_left _ (sym c.if-is_forgotten.ensures))),
        (refl, refl),
      );
      aside = sym (append-nil c.args.self.now.aside);
      voted = refl;
      taken = omega arith;
      waits = λ asks received. absurd (cc);
    }

pub returns-in_err-reserve-clause-idle : goal.returns-in_err-reserve-clause-idle
returns-in_err-reserve-clause-idle g c = λ out. absurd
    (not_left_out c.args.self.now.number c.args.self.now.shown c.args.envelope c.requires.to c.requires.asks
    (subst (λ (h : HostView _ _). is_none (rest_of_body h.shown.base c.args.envelope.letter.body) ≡ false)
    c.self.view_is
    (subst (λ (l : Letter _). is_none (rest_of_body c.self.inside.base l.body) ≡ false) c.letter.ensures
    (sym c.if-is_forgotten.ensures)))
    out)

pub invariant_of-self-2 : goal.invariant_of-self-2
invariant_of-self-2 g c =
    let awaits : _ → Type 0 = AwaitsVote c.self.inside.number c.self.inside.base in
    subst (Each awaits) (sym c.push_back.ensures.items)
    (each_more awaits (is_ok c.push_back.result) c.reserve.new.self.items c.args.envelope
    (subst (Each awaits) (sym c.in_ok-reserve.ensures.items) c.self.invariant)
    (record {
      to = c.requires.to ∙ ap (λ (h : HostView _ _). h.number) (sym c.self.view_is);
      asks = c.requires.asks;
      whole = asked_whole c.self.inside.base c.args.envelope.letter.body c.requires.asks
          (subst (λ (l : Letter _). is_none (rest_of_body c.self.inside.base l.body) ≡ false) c.letter.ensures
          (sym c.if-is_forgotten.ensures));
    }))

pub returns-clause-ok : goal.returns-clause-ok
returns-clause-ok g c = λ now.
    let z : HostView _ _ = record {
      number = c.self.inside.number;
      shown = record { base = c.self.inside.base; holding = c.self.inside.node };
      aside = c.push_back.new.self.items;
      voted = c.self.inside.voted;
      taken = c.self.inside.events;
    } in
    subst (λ (h : HostView _ _). ReadsEnvelope receipts.Aside h c.args.envelope z now now) c.self.view_is
    (record {
      number = refl;
      shown = (
        record {
          to = c.requires.to ∙ ap (λ (h : HostView _ _). h.number) (sym c.self.view_is);
          asks = c.requires.asks;
          whole = asked_whole c.self.inside.base c.args.envelope.letter.body c.requires.asks
              (subst (λ (l : Letter _). is_none (rest_of_body c.self.inside.base l.body) ≡ false) c.letter.ensures
              (sym c.if-is_forgotten.ensures));
        },
        (refl, refl),
      );
      aside = c.push_back.ensures.items
          ∙ ap (λ r. cond (is_ok r) (c.reserve.new.self.items ++ (c.args.envelope ∷ [])) c.reserve.new.self.items)
          c.unwrap.ensures
          ∙ ap (λ xs. xs ++ (c.args.envelope ∷ [])) c.in_ok-reserve.ensures.items;
      voted = refl;
      taken = omega arith;
      waits = λ asks received. absurd (cc);
    })
