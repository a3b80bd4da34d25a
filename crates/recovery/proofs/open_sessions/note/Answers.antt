use Rattle.std.proofs.Common.{◌≡◌, ◌⊎◌, inl, inr, false, true, not, sym, ap, subst, ◌∙◌}
use Rattle.std.specs.BTreeSet.{Updates}
use Rattle.std.specs.Ordering.{nat_cmp}
use Rattle.object.specs.declared.command.Act.{Act}
use Rattle.object.specs.declared.command.Act.TheVariants.{Do, Tick}
use Rattle.object.specs.declared.command.Key.{Key}
use Rattle.hall.specs.Tickets.{is_close}
use Rattle.recovery.proofs.Live.{live_more, live_still}
use Rattle.recovery.proofs.open_sessions.note.Goals as goal

-- such an act doesn't end its session
goes_on : {Op : Type 0} (a : Act Op) → ((x : Op) × a ≡ Do x) ⊎ (a ≡ Tick) → true ≡ not (is_close a)
goes_on a (inl op) = sym (ap (λ b. not (is_close b)) op.1)
goes_on a (inr tick) = sym (ap (λ b. not (is_close b)) tick)

pub returns-then-session-eq0 : goal.returns-then-session-eq0
returns-then-session-eq0 g c = λ before left.
    live_still c.args.command.now before c.args.live.now (sym (ap (λ (k : Key). k.session) c.key-session.ensures.key) ∙ c.if-session-eq0.true) left

pub returns-in-Close : goal.returns-in-Close
returns-in-Close g c = λ before left.
    live_more c.args.command.now before c.args.live.now c.remove.new.self false
    (λ zero. c.if-session-eq0.false (ap (λ (k : Key). k.session) c.key-session.ensures.key ∙ zero))
    (subst (λ (k : Key). Updates nat_cmp c.args.live.now c.remove.new.self k.session false) c.key-session.ensures.key c.remove.ensures.updates)
    (sym (ap (λ a. not (is_close a)) (sym c.act.ensures.act ∙ c.in-Close.is))) left

pub returns-in_ok-insert-in-Do : goal.returns-in_ok-insert-in-Do
returns-in_ok-insert-in-Do g c = λ before left.
    live_more c.args.command.now before c.args.live.now c.insert.new.self true
    (λ zero. c.if-session-eq0.false (ap (λ (k : Key). k.session) c.key-session.ensures.key ∙ zero))
    (subst (λ (k : Key). Updates nat_cmp c.args.live.now c.insert.new.self k.session true) c.key-session.ensures.key c.in_ok-insert-in-Do.ensures.updates)
    (goes_on c.args.command.now.act (subst (λ a. ((x : _) × a ≡ Do x) ⊎ (a ≡ Tick)) c.act.ensures.act c.in-Do.is)) left
