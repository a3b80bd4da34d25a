use Rattle.std.proofs.Common.{None, Some, drop, sym, ap, ◌∙◌, arith}
use Rattle.std.specs.Prelude.{is_some}
use Rattle.std.proofs.lemmas.Option.{none-some}
use Rattle.network.proofs.Turned.{on_err, at_place, within_nodes, within_mails, turned_not, stays_quiet}
use Rattle.network.proofs.Delivering.{sorted_place, front_read, read_again, fit_read, delivered_any, delivered_whole}
use Rattle.network.proofs.network.Network.deliver.Goals as goal

pub index-requires : goal.index-requires
index-requires g c = let h = within_mails
    (sorted_place (at_place c.self.invariant c.self.view_is c.from-place.ensures c.requires.member)
    c.sort.new.mails.items c.sort.new.fresh.items c.sort.ensures.same c.sort.ensures.size c.sort.ensures.post) in omega
    (arith, h, c.sort.new.mails.ok.0)

pub returns-in_default-clause-came : goal.returns-in_default-clause-came
returns-in_default-clause-came g c =
    ap is_some (sym (front_read (sorted_place
    (at_place c.self.invariant c.self.view_is c.from-place.ensures c.requires.member) c.sort.new.mails.items
    c.sort.new.fresh.items c.sort.ensures.same c.sort.ensures.size c.sort.ensures.post) c.in_ok-sort.ensures.ok
    c.index.result.now c.index.ensures None c.in_default.ensures.none))

pub returns-in_default-clause-ok : goal.returns-in_default-clause-ok
returns-in_default-clause-ok g c =
    λ l e. absurd (none-some l (sym
    (front_read (sorted_place (at_place c.self.invariant c.self.view_is c.from-place.ensures c.requires.member)
    c.sort.new.mails.items c.sort.new.fresh.items c.sort.ensures.same c.sort.ensures.size c.sort.ensures.post)
    c.in_ok-sort.ensures.ok c.index.result.now c.index.ensures None c.in_default.ensures.none) ∙ e))

pub index_mut-requires : goal.index_mut-requires
index_mut-requires g c = let h =
    within_nodes (sorted_place (at_place c.self.invariant c.self.view_is c.from-place.ensures c.requires.member)
    c.sort.new.mails.items c.sort.new.fresh.items c.sort.ensures.same c.sort.ensures.size c.sort.ensures.post) in omega
    (arith, h, c.self.inside.nodes.ok.0)

pub receive-requires : goal.receive-requires
receive-requires g c = fit_read
    (sorted_place (at_place c.self.invariant c.self.view_is c.from-place.ensures c.requires.member)
    c.sort.new.mails.items c.sort.new.fresh.items c.sort.ensures.same c.sort.ensures.size c.sort.ensures.post)
    c.in_ok-sort.ensures.ok c.index.result.now c.index.ensures c.in-Some.letter.now c.in-Some.ensures.some
    c.index_mut.result.now c.index_mut.ensures.value c.requires.fit

pub invariant_of-self-in_err-receive : goal.invariant_of-self-in_err-receive
invariant_of-self-in_err-receive g c =
    stays_quiet (sorted_place (at_place c.self.invariant c.self.view_is c.from-place.ensures c.requires.member)
    c.sort.new.mails.items c.sort.new.fresh.items c.sort.ensures.same c.sort.ensures.size c.sort.ensures.post)
    c.index_mut.result.now c.receive.new.self c.receive.new.out.items c.index_mut.ensures.value
    c.in_err-receive.ensures.err.0 c.in_err-receive.ensures.err.1

pub returns-in_err-receive-clause-err : goal.returns-in_err-receive-clause-err
returns-in_err-receive-clause-err g c =
    on_err c.from_residual-in_err-receive.result
    (turned_not (sorted_place (at_place c.self.invariant c.self.view_is c.from-place.ensures c.requires.member)
    c.sort.new.mails.items c.sort.new.fresh.items c.sort.ensures.same c.sort.ensures.size c.sort.ensures.post)
    c.index_mut.result.now c.index_mut.ensures.value c.receive.new.self c.receive.new.out.items
    c.in_err-receive.ensures.err.0 c.in_err-receive.ensures.err.1)

pub index_mut-requires-2 : goal.index_mut-requires-2
index_mut-requires-2 g c = let h =
    within_mails (sorted_place (at_place c.self.invariant c.self.view_is c.from-place.ensures c.requires.member)
    c.sort.new.mails.items c.sort.new.fresh.items c.sort.ensures.same c.sort.ensures.size c.sort.ensures.post) in omega
    (arith, h, c.sort.new.mails.ok.0)

pub invariant_of-self-2 : goal.invariant_of-self-2
invariant_of-self-2 g c = delivered_whole
    (sorted_place (at_place c.self.invariant c.self.view_is c.from-place.ensures c.requires.member)
    c.sort.new.mails.items c.sort.new.fresh.items c.sort.ensures.same c.sort.ensures.size c.sort.ensures.post)
    c.in_ok-sort.ensures.ok c.index.result.now c.index.ensures c.in-Some.letter.now c.in-Some.ensures.some
    c.index_mut.result.now c.index_mut.ensures.value c.receive.new.self c.receive.new.out.items
    c.in_ok-receive.ensures.ok c.drop_front.new.self
    (c.drop_front.ensures.left ∙ ap (drop 1)
    (read_again (sorted_place (at_place c.self.invariant c.self.view_is c.from-place.ensures c.requires.member)
    c.sort.new.mails.items c.sort.new.fresh.items c.sort.ensures.same c.sort.ensures.size c.sort.ensures.post)
    c.in_ok-sort.ensures.ok c.index.result.now c.index.ensures c.index_mut-2.result.now c.index_mut-2.ensures.value))

pub returns-clause-came : goal.returns-clause-came
returns-clause-came g c = ap is_some
    (sym (front_read (sorted_place
    (at_place c.self.invariant c.self.view_is c.from-place.ensures c.requires.member) c.sort.new.mails.items
    c.sort.new.fresh.items c.sort.ensures.same c.sort.ensures.size c.sort.ensures.post) c.in_ok-sort.ensures.ok
    c.index.result.now c.index.ensures (Some c.in-Some.letter.now) c.in-Some.ensures.some))

pub returns-clause-ok : goal.returns-clause-ok
returns-clause-ok g c = delivered_any
    (sorted_place (at_place c.self.invariant c.self.view_is c.from-place.ensures c.requires.member)
    c.sort.new.mails.items c.sort.new.fresh.items c.sort.ensures.same c.sort.ensures.size c.sort.ensures.post)
    c.in_ok-sort.ensures.ok c.index.result.now c.index.ensures c.in-Some.letter.now c.in-Some.ensures.some
    c.index_mut.result.now c.index_mut.ensures.value c.receive.new.self c.receive.new.out.items
    c.in_ok-receive.ensures.ok c.drop_front.new.self
    (c.drop_front.ensures.left ∙ ap (drop 1)
    (read_again (sorted_place (at_place c.self.invariant c.self.view_is c.from-place.ensures c.requires.member)
    c.sort.new.mails.items c.sort.new.fresh.items c.sort.ensures.same c.sort.ensures.size c.sort.ensures.post)
    c.in_ok-sort.ensures.ok c.index.result.now c.index.ensures c.index_mut-2.result.now c.index_mut-2.ensures.value))
    c.sort_mail.new.self c.sort_mail.ensures

pub returns-clause-none : goal.returns-clause-none
returns-clause-none g c = λ e. absurd
    (none-some c.in-Some.letter.now
    (sym e ∙ (front_read (sorted_place
    (at_place c.self.invariant c.self.view_is c.from-place.ensures c.requires.member) c.sort.new.mails.items
    c.sort.new.fresh.items c.sort.ensures.same c.sort.ensures.size c.sort.ensures.post) c.in_ok-sort.ensures.ok
    c.index.result.now c.index.ensures (Some c.in-Some.letter.now) c.in-Some.ensures.some)))
