use Rattle.std.proofs.Common.{refl, sym, subst}
use Rattle.ballot.specs.declared.letter.LetterBody.TheVariants.{P1a, P2a}
use Rattle.acceptor.specs.Acceptors.{Keeps, after_p2a}
use Rattle.cluster.specs.Storing.{Stored, stored_after}
use Rattle.host.specs.Storing.{IsAsGood}
use Rattle.host.proofs.Storing.{asks_neither, good_itself, good_pvalue, unasked}
use Rattle.host.proofs.stored.Stored.hear.Goals as goal

pub returns-in-P1a-clause-ok : goal.returns-in-P1a-clause-ok
returns-in-P1a-clause-ok g c =
    let now : Stored _ =
    record { base = c.self.inside.base; acceptor = c.promise.new.self; boot = c.self.inside.boot } in
    let was : Stored _ =
    record { base = c.self.inside.base; acceptor = c.self.inside.acceptor; boot = c.self.inside.boot } in
    subst (λ body. IsAsGood (stored_after c.args.self.now body) now) (sym c.in-P1a.is)
    (subst (λ (d : Stored _). IsAsGood (stored_after d (P1a c.in-P1a.ballot)) now) c.self.view_is
    (subst (λ a. IsAsGood (stored_after was (P1a c.in-P1a.ballot)) (record was { acceptor = a }))
    (sym c.promise.ensures.state)
    (good_itself c.ballot_laws.ensures (stored_after was (P1a c.in-P1a.ballot)))))

pub returns-in_ok-on_p2a-in-P2a-clause-ok : goal.returns-in_ok-on_p2a-in-P2a-clause-ok
returns-in_ok-on_p2a-in-P2a-clause-ok g c =
    let now : Stored _ =
    record { base = c.self.inside.base; acceptor = c.on_p2a.new.self; boot = c.self.inside.boot } in
    let was : Stored _ =
    record { base = c.self.inside.base; acceptor = c.self.inside.acceptor; boot = c.self.inside.boot } in
    subst (λ body. IsAsGood (stored_after c.args.self.now body) now) (sym c.in-P2a.is)
    (subst (λ (d : Stored _). IsAsGood (stored_after d (P2a c.in-P2a.pvalue)) now) c.self.view_is
    (good_pvalue c.ballot_laws.ensures was c.in-P2a.pvalue c.on_p2a.new.self
    (subst (λ p. Keeps (after_p2a c.self.inside.acceptor p) c.on_p2a.new.self) c.in_ok-copy-in-P2a.ensures
    c.in_ok-on_p2a-in-P2a.ensures.state)))

pub returns-in_default : goal.returns-in_default
returns-in_default g c = record {
  ok = subst (λ (d : Stored _). IsAsGood d c.args.self.now)
      (sym (unasked c.args.self.now c.args.body.now
      (asks_neither c.args.body.now c.in_default.not-P1a c.in_default.not-P2a)))
      (good_itself c.ballot_laws.ensures c.args.self.now);
  idle = λ none. refl;
  err = tt;
}
