use Rattle.std.proofs.Common.{◌≡◌, Option, None, Some, Bor, is_some, false, refl, sym, subst, ◌∙◌}
use Rattle.std.specs.FinMap.{get}
use Rattle.std.specs.Option.{option_copied}
use Rattle.std.proofs.lemmas.List.{take_all}
use Rattle.std.proofs.lemmas.List.Elements.{All-more}
use Rattle.recovery.specs.Sessions.{KeepsNoneOf}
use Rattle.recovery.proofs.recovery.keeps_none_of.Goals as goal

-- what isn't there is nothing
nothing : {X : Type 0} (o : Option (Bor X)) → is_some o ≡ false → option_copied o ≡ None
nothing None none = refl
nothing (Some x) none = absurd (cc)

pub loop-session-preserved : goal.loop-session-preserved
loop-session-preserved g c =
    All-more (λ session. get c.args.hall.now.summary.clients session ≡ None) c.args.sessions.now c.loop-session.session-index 0 c.loop-session-test.true
    c.loop-session.invariant (sym c.client.ensures ∙ nothing c.client.result (sym c.is_some.ensures ∙ c.if-is_some.false))

pub returns : goal.returns
returns g c = λ done.
    subst (λ ss. KeepsNoneOf c.args.hall.now ss) (take_all c.loop-session.session-index c.args.sessions.now c.loop-session-test.false)
    c.loop-session.invariant
