use Rattle.std.proofs.Common.{◌<◌, sym, ◌∙◌, subst}
use Rattle.std.proofs.lemmas.Bool.{false≢true}
use Rattle.world.specs.Kept.{IsNoted}
use Rattle.world.proofs.steps.Acting.{on_err}
use Rattle.world.proofs.steps.Delivering.{still_there, lent_within, to_above, receiver_within, fit_now, silent_now}
use Rattle.world.proofs.steps.Delivering.{delivered_step, delivered_kept, delivered_not}
use Rattle.agreement.proofs.every.Events.{from_view, sent_in_view}
use Rattle.world.proofs.world.World.deliver.Goals as goal

pub overflow_sub-letter : goal.overflow_sub-letter
overflow_sub-letter g c = to_above c.ballot_laws.ensures g.O.Object.rules _ _ c.self.view_is _ c.self.invariant
    c.args.index c.requires.sent c.requires.room c.index_mut.result.now c.replace-letter.result
    c.index_mut.ensures.value c.replace-letter.ensures.value

pub index_mut-watched-requires : goal.index_mut-watched-requires
index_mut-watched-requires g c =
    subst (λ m. c.from.result < m) (sym c.self.inside.nodes.ok.0)
    (receiver_within c.ballot_laws.ensures g.O.Object.rules _ _ c.self.view_is _ c.self.invariant c.args.index
    c.requires.sent c.requires.room c.index_mut.result.now c.replace-letter.result c.index_mut.ensures.value
    c.replace-letter.ensures.value c.from.result c.from.ensures)

pub receive-received-requires : goal.receive-received-requires
receive-received-requires g c =
    fit_now c.ballot_laws.ensures g.O.Object.rules _ _ c.self.view_is _ c.self.invariant c.args.index c.requires.sent
    c.requires.room c.index_mut.result.now c.replace-letter.result c.index_mut.ensures.value
    c.replace-letter.ensures.value c.from.result c.from.ensures c.index_mut-watched.result.now
    c.index_mut-watched.ensures.value

pub index_mut-requires-2 : goal.index_mut-requires-2
index_mut-requires-2 g c =
    subst (λ m. c.args.index < m) (sym c.receive-received.new.out.ok.0)
    (still_there c.receive-received.result _ _ _ c.replace-letter.result _ c.receive-received.new.out.items c.args.index
    (lent_within c.self.inside.letters.items c.args.index c.args.index _ (sent_in_view g.O.Object.rules _ _ c.self.view_is c.args.index c.requires.sent))
    c.receive-received.ensures.ok c.receive-received.ensures.err)

pub invariant_of-self : goal.invariant_of-self
invariant_of-self g c =
    subst (λ w. IsNoted g.O.Object.rules w c.self.inside.performed.items)
    (sym (delivered_not c.ballot_laws.ensures g.O.Object.rules _ _ c.self.view_is _ c.self.invariant c.args.index
    c.requires.sent c.requires.room c.index_mut.result.now c.replace-letter.result c.index_mut.ensures.value
    c.replace-letter.ensures.value c.from.result c.from.ensures c.index_mut-watched.result.now
    c.index_mut-watched.ensures.value c.receive-received.new.self c.replace-letter.new.dest
    c.receive-received.new.out.items c.in_err-received.ensures.err.0 c.in_err-received.ensures.err.1))
    c.self.invariant

pub returns-in_err-received-clause-err : goal.returns-in_err-received-clause-err
returns-in_err-received-clause-err g c =
    on_err c.from_residual.result
    (delivered_not c.ballot_laws.ensures g.O.Object.rules _ _ c.self.view_is _ c.self.invariant c.args.index
    c.requires.sent c.requires.room c.index_mut.result.now c.replace-letter.result c.index_mut.ensures.value
    c.replace-letter.ensures.value c.from.result c.from.ensures c.index_mut-watched.result.now
    c.index_mut-watched.ensures.value c.receive-received.new.self c.replace-letter.new.dest
    c.receive-received.new.out.items c.in_err-received.ensures.err.0 c.in_err-received.ensures.err.1 ∙
    c.self.view_is)

pub returns-in_err-received-clause-idle : goal.returns-in_err-received-clause-idle
returns-in_err-received-clause-idle g c =
    λ i. absurd (false≢true (c.in_err-received.ensures.idle
    (silent_now c.ballot_laws.ensures g.O.Object.rules _ _ c.self.view_is _ c.self.invariant c.args.index
    c.requires.sent c.requires.room c.index_mut.result.now c.replace-letter.result c.index_mut.ensures.value
    c.replace-letter.ensures.value c.from.result c.from.ensures c.index_mut-watched.result.now
    c.index_mut-watched.ensures.value i)))

pub invariant_of-self-2 : goal.invariant_of-self-2
invariant_of-self-2 g c = delivered_kept c.ballot_laws.ensures g.O.Object.rules _ _ c.self.view_is _ c.self.invariant
    c.args.index c.requires.sent c.requires.room c.index_mut.result.now c.replace-letter.result
    c.index_mut.ensures.value c.replace-letter.ensures.value c.from.result c.from.ensures c.index_mut-watched.result.now
    c.index_mut-watched.ensures.value c.receive-received.new.self c.replace-letter.new.dest
    c.receive-received.new.out.items c.in_ok-received.ensures.ok

pub returns-clause-ok : goal.returns-clause-ok
returns-clause-ok g c = from_view g.O.Object.rules _ _ c.self.view_is _ _
    (delivered_step c.ballot_laws.ensures g.O.Object.rules _ _ c.self.view_is _ c.self.invariant c.args.index
    c.requires.sent c.requires.room c.index_mut.result.now c.replace-letter.result c.index_mut.ensures.value
    c.replace-letter.ensures.value c.from.result c.from.ensures c.index_mut-watched.result.now
    c.index_mut-watched.ensures.value c.receive-received.new.self c.replace-letter.new.dest
    c.receive-received.new.out.items c.in_ok-received.ensures.ok)
