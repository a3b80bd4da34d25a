use Rattle.std.proofs.Common.{None, Some, sym, ap, ◌∙◌, arith}
use Rattle.std.proofs.lemmas.Option.{none-some}
use Rattle.ballot.specs.Rests.{rest_of_body}
use Rattle.network.proofs.Turned.{on_err, within_mails}
use Rattle.network.proofs.Delivering.{front_read}
use Rattle.lean_network.specs.Receipts.{receipt_of}
use Rattle.lean_network.proofs.Placed.{at_lean_place, place_of, sorted_lean, within_leans, lean_turned_not, lean_stays_quiet}
use Rattle.lean_network.proofs.Received.{receives, lean_fit, received_whole, received_any, forgotten_any}
use Rattle.lean_network.proofs.lean_network.LeanNetwork.deliver.Goals as goal

pub index-requires : goal.index-requires
index-requires g c =
    let at = sorted_lean (at_lean_place c.self.invariant c.self.view_is c.from-place.ensures c.requires.member)
    c.sort.new.mails.items c.sort.new.fresh.items c.sort.ensures.same c.sort.ensures.size c.sort.ensures.post in
    let h = within_mails (place_of at) in
    omega (arith, h, c.sort.new.mails.ok.0)

pub returns-in_default-clause-came : goal.returns-in_default-clause-came
returns-in_default-clause-came g c =
    let at = sorted_lean (at_lean_place c.self.invariant c.self.view_is c.from-place.ensures c.requires.member)
    c.sort.new.mails.items c.sort.new.fresh.items c.sort.ensures.same c.sort.ensures.size c.sort.ensures.post in
    ap (receipt_of c.args.base) (sym (front_read (place_of at) c.in_ok-sort.ensures.ok c.index.result.now c.index.ensures None c.in_default.ensures.none))

pub returns-in_default-clause-received : goal.returns-in_default-clause-received
returns-in_default-clause-received g c =
    let at = sorted_lean (at_lean_place c.self.invariant c.self.view_is c.from-place.ensures c.requires.member)
    c.sort.new.mails.items c.sort.new.fresh.items c.sort.ensures.same c.sort.ensures.size c.sort.ensures.post in
    λ l left e rest. absurd (none-some l
    (sym (front_read (place_of at) c.in_ok-sort.ensures.ok c.index.result.now c.index.ensures None c.in_default.ensures.none) ∙ e))

pub returns-in_default-clause-forgotten : goal.returns-in_default-clause-forgotten
returns-in_default-clause-forgotten g c =
    let at = sorted_lean (at_lean_place c.self.invariant c.self.view_is c.from-place.ensures c.requires.member)
    c.sort.new.mails.items c.sort.new.fresh.items c.sort.ensures.same c.sort.ensures.size c.sort.ensures.post in
    λ l e rest. absurd (none-some l
    (sym (front_read (place_of at) c.in_ok-sort.ensures.ok c.index.result.now c.index.ensures None c.in_default.ensures.none) ∙ e))

pub index_mut-requires : goal.index_mut-requires
index_mut-requires g c =
    let at = sorted_lean (at_lean_place c.self.invariant c.self.view_is c.from-place.ensures c.requires.member)
    c.sort.new.mails.items c.sort.new.fresh.items c.sort.ensures.same c.sort.ensures.size c.sort.ensures.post in
    let h = within_leans at in
    omega (arith, h, c.self.inside.nodes.ok.0)

pub receive_left-requires : goal.receive_left-requires
receive_left-requires g c =
    let at = sorted_lean (at_lean_place c.self.invariant c.self.view_is c.from-place.ensures c.requires.member)
    c.sort.new.mails.items c.sort.new.fresh.items c.sort.ensures.same c.sort.ensures.size c.sort.ensures.post in
    lean_fit at c.in_ok-sort.ensures.ok c.index.result.now c.index.ensures c.in-Some.letter.now c.in-Some.ensures.some
    g.O.Object.rules c.args.base c.requires.fit c.index_mut.result.now c.index_mut.ensures.value

pub invariant_of-self-in_err-receipt : goal.invariant_of-self-in_err-receipt
invariant_of-self-in_err-receipt g c =
    let at = sorted_lean (at_lean_place c.self.invariant c.self.view_is c.from-place.ensures c.requires.member)
    c.sort.new.mails.items c.sort.new.fresh.items c.sort.ensures.same c.sort.ensures.size c.sort.ensures.post in
    lean_stays_quiet at c.index_mut.result.now c.index_mut.ensures.value c.receive_left.new.node c.receive_left.new.sent.items
    c.in_err-receipt.ensures.err.0 c.in_err-receipt.ensures.err.1

pub returns-in_err-receipt-clause-err : goal.returns-in_err-receipt-clause-err
returns-in_err-receipt-clause-err g c =
    let at = sorted_lean (at_lean_place c.self.invariant c.self.view_is c.from-place.ensures c.requires.member)
    c.sort.new.mails.items c.sort.new.fresh.items c.sort.ensures.same c.sort.ensures.size c.sort.ensures.post in
    on_err c.from_residual-in_err-receipt.result
    (lean_turned_not at c.index_mut.result.now c.index_mut.ensures.value c.receive_left.new.node c.receive_left.new.sent.items
    c.in_err-receipt.ensures.err.0 c.in_err-receipt.ensures.err.1)

pub index_mut-requires-2 : goal.index_mut-requires-2
index_mut-requires-2 g c =
    let at = sorted_lean (at_lean_place c.self.invariant c.self.view_is c.from-place.ensures c.requires.member)
    c.sort.new.mails.items c.sort.new.fresh.items c.sort.ensures.same c.sort.ensures.size c.sort.ensures.post in
    let h = within_mails (place_of at) in
    omega (arith, h, c.sort.new.mails.ok.0)

pub invariant_of-self-2 : goal.invariant_of-self-2
invariant_of-self-2 g c =
    let at = sorted_lean (at_lean_place c.self.invariant c.self.view_is c.from-place.ensures c.requires.member)
    c.sort.new.mails.items c.sort.new.fresh.items c.sort.ensures.same c.sort.ensures.size c.sort.ensures.post in
    received_whole at c.in_ok-sort.ensures.ok c.index.result.now c.index.ensures c.in-Some.letter.now c.in-Some.ensures.some
    c.index_mut-2.result.now c.index_mut-2.ensures.value c.drop_front.new.self c.drop_front.ensures.left
    c.index_mut.result.now c.index_mut.ensures.value c.receive_left.new.node c.receive_left.new.sent.items
    (rest_of_body c.args.base c.in-Some.letter.now.body)
    (receives c.in_ok-receipt.ensures.received c.in_ok-receipt.ensures.object c.in_ok-receipt.ensures.forgotten)

pub returns-clause-came : goal.returns-clause-came
returns-clause-came g c =
    let at = sorted_lean (at_lean_place c.self.invariant c.self.view_is c.from-place.ensures c.requires.member)
    c.sort.new.mails.items c.sort.new.fresh.items c.sort.ensures.same c.sort.ensures.size c.sort.ensures.post in
    c.in_ok-receipt.ensures.came ∙ ap (receipt_of c.args.base)
    (sym (front_read (place_of at) c.in_ok-sort.ensures.ok c.index.result.now c.index.ensures (Some c.in-Some.letter.now) c.in-Some.ensures.some))

pub returns-clause-received : goal.returns-clause-received
returns-clause-received g c =
    let at = sorted_lean (at_lean_place c.self.invariant c.self.view_is c.from-place.ensures c.requires.member)
    c.sort.new.mails.items c.sort.new.fresh.items c.sort.ensures.same c.sort.ensures.size c.sort.ensures.post in
    received_any at c.in_ok-sort.ensures.ok c.index.result.now c.index.ensures c.in-Some.letter.now c.in-Some.ensures.some
    c.index_mut-2.result.now c.index_mut-2.ensures.value c.drop_front.new.self c.drop_front.ensures.left
    c.index_mut.result.now c.index_mut.ensures.value c.receive_left.new.node c.receive_left.new.sent.items g.O.Object.rules c.args.base
    (receives c.in_ok-receipt.ensures.received c.in_ok-receipt.ensures.object c.in_ok-receipt.ensures.forgotten)
    c.sort_mail.new.self c.sort_mail.ensures

pub returns-clause-forgotten : goal.returns-clause-forgotten
returns-clause-forgotten g c =
    let at = sorted_lean (at_lean_place c.self.invariant c.self.view_is c.from-place.ensures c.requires.member)
    c.sort.new.mails.items c.sort.new.fresh.items c.sort.ensures.same c.sort.ensures.size c.sort.ensures.post in
    forgotten_any at c.in_ok-sort.ensures.ok c.index.result.now c.index.ensures c.in-Some.letter.now c.in-Some.ensures.some
    c.index_mut-2.result.now c.index_mut-2.ensures.value c.drop_front.new.self c.drop_front.ensures.left
    c.index_mut.result.now c.index_mut.ensures.value c.receive_left.new.node c.receive_left.new.sent.items c.args.base
    (receives c.in_ok-receipt.ensures.received c.in_ok-receipt.ensures.object c.in_ok-receipt.ensures.forgotten)
    c.sort_mail.new.self c.sort_mail.ensures

pub returns-clause-none : goal.returns-clause-none
returns-clause-none g c =
    let at = sorted_lean (at_lean_place c.self.invariant c.self.view_is c.from-place.ensures c.requires.member)
    c.sort.new.mails.items c.sort.new.fresh.items c.sort.ensures.same c.sort.ensures.size c.sort.ensures.post in
    λ e. absurd (none-some c.in-Some.letter.now
    (sym e ∙ (front_read (place_of at) c.in_ok-sort.ensures.ok c.index.result.now c.index.ensures (Some c.in-Some.letter.now) c.in-Some.ensures.some)))
