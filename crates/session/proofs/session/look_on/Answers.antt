use Rattle.std.proofs.Common.{[], Ok, Err, length, drop, refl, sym, ap, subst, length-append, arith}
use Rattle.bean_codec.specs.Reads.{TellsItem, TellsDrop, TellsMore}
use Rattle.bean_codec.specs.Replies.{fault_text}
use Rattle.session.specs.Held.{holding}
use Rattle.session.proofs.Standing.{Continues, Drops, NeedsMore, Looks, if_err, request_takes_room, fault_takes_room, still_front}
use Rattle.session.proofs.Slices.{drops_on, goes_past_fault, comes_to_none, comes_to_request, within, may_keep}
use Rattle.session.proofs.Slices.{drop_fits, item_fits, less_past_fault, less_dropping}
use Rattle.session.proofs.session.look_on.Goals as goal

pub returns-in-More-clause-found : goal.returns-in-More-clause-found
returns-in-More-clause-found c =
    let p = c.args.profile in
    let more : NeedsMore p c.items.next c.split_at.result.1.now =
    subst (TellsMore p c.items.next c.split_at.result.1.now) c.in-More.is c.in_ok-read_request_in.ensures.more in
    comes_to_none p (holding p c.args.want (drop c.args.start c.args.bytes.now) c.args.text.now.items) c.items.next
    c.args.bytes.now _ c.items.text.items c.items.at c.split_at.ensures.back more c.items.invariant.looks

pub returns-in_err-read_request_in-clause-memory : goal.returns-in_err-read_request_in-clause-memory
returns-in_err-read_request_in-clause-memory c =
    let p = c.args.profile in
    let old = holding p c.args.want (drop c.args.start c.args.bytes.now) c.args.text.now.items in
    let kept = c.split_at.result.1.now in
    let looks = subst (λ k. Looks p old (holding p c.items.next k c.items.text.items)) (sym c.split_at.ensures.back) c.items.invariant.looks in
    if_err c.from_residual.result (request_takes_room p old c.items.next kept c.items.text.items c.in_err-read_request_in.ensures.memory looks)

pub returns-in_err-write_fault-in-Bad-clause-memory : goal.returns-in_err-write_fault-in-Bad-clause-memory
returns-in_err-write_fault-in-Bad-clause-memory c =
    let p = c.args.profile in
    let old = holding p c.args.want (drop c.args.start c.args.bytes.now) c.args.text.now.items in
    let kept = c.split_at.result.1.now in
    let item : Continues p c.items.next kept (Err c.in-Bad.fault, c.in-Bad.used) =
    subst (TellsItem p c.items.next kept) c.in-Bad.is c.in_ok-read_request_in.ensures.item in
    let looks = subst (λ k. Looks p old (holding p c.items.next k c.items.text.items)) (sym c.split_at.ensures.back) c.items.invariant.looks in
    if_err c.from_residual-in_err-write_fault-in-Bad.result
    (fault_takes_room p old c.items.next kept c.items.text.items c.in-Bad.fault c.in-Bad.used item looks)

pub items-preserved-in-Drop : goal.items-preserved-in-Drop
items-preserved-in-Drop c =
    let p = c.args.profile in
    let drops : Drops p c.items.next c.split_at.result.1.now c.in-Drop.used c.in-Drop.want =
    subst (TellsDrop p c.items.next c.split_at.result.1.now) c.in-Drop.is c.in_ok-read_request_in.ensures.drop in
    let some = drop_fits p _ _ c.args.bytes.now _ c.items.at _ c.split_at.ensures.back drops c.items.invariant.keeps in
    record {
      within = within c.args.bytes.now _ c.items.at _ c.split_at.ensures.back c.items.invariant.within some.1;
      front = c.items.invariant.front;
      longer = c.items.invariant.longer;
      looks = drops_on p (holding p c.args.want (drop c.args.start c.args.bytes.now) c.args.text.now.items) _ _
          c.args.bytes.now _ _ c.items.at _ c.split_at.ensures.back drops c.items.invariant.looks;
      keeps = may_keep p _ _ c.args.bytes.now _ c.items.at _ c.split_at.ensures.back drops c.items.invariant.keeps;
    }

pub items-preserved : goal.items-preserved
items-preserved c =
    let p = c.args.profile in
    let item : Continues p c.items.next c.split_at.result.1.now (Err c.in-Bad.fault, c.in-Bad.used) =
    subst (TellsItem p c.items.next c.split_at.result.1.now) c.in-Bad.is c.in_ok-read_request_in.ensures.item in
    let some = item_fits p _ c.args.bytes.now _ c.items.at _ _ c.split_at.ensures.back item c.items.invariant.keeps in
    let written = c.in_ok-write_fault-in-Bad.ensures.ok.0 in
    record {
      within = within c.args.bytes.now _ c.items.at _ c.split_at.ensures.back c.items.invariant.within some;
      front = still_front _ _ _ _ _ written c.items.invariant.longer c.items.invariant.front;
      longer = omega (arith, c.items.invariant.longer, ap (λ u. length u) written, length-append c.items.text.items (fault_text c.in-Bad.fault));
      looks = goes_past_fault p (holding p c.args.want (drop c.args.start c.args.bytes.now) c.args.text.now.items) _
          c.args.bytes.now _ _ _ c.items.at _ _ c.split_at.ensures.back item written c.items.invariant.looks;
      keeps = ([], refl);
    }

pub returns-in-Request-clause-found : goal.returns-in-Request-clause-found
returns-in-Request-clause-found c =
    let p = c.args.profile in
    let item : Continues p c.items.next c.split_at.result.1.now (Ok c.in-Request.request, c.in-Request.used) =
    subst (TellsItem p c.items.next c.split_at.result.1.now) c.in-Request.is c.in_ok-read_request_in.ensures.item in
    comes_to_request p (holding p c.args.want (drop c.args.start c.args.bytes.now) c.args.text.now.items) _ c.args.bytes.now
    _ _ c.items.at _ _ c.split_at.ensures.back item c.items.invariant.looks

pub items-smaller-in-Drop : goal.items-smaller-in-Drop
items-smaller-in-Drop c =
    let p = c.args.profile in
    let drops : Drops p c.items.next c.split_at.result.1.now c.in-Drop.used c.in-Drop.want =
    subst (TellsDrop p c.items.next c.split_at.result.1.now) c.in-Drop.is c.in_ok-read_request_in.ensures.drop in
    let some = drop_fits p _ _ c.args.bytes.now _ c.items.at _ c.split_at.ensures.back drops c.items.invariant.keeps in
    less_dropping p _ _ c.args.bytes.now _ c.items.at _ c.split_at.ensures.back c.items.invariant.within some

pub items-smaller : goal.items-smaller
items-smaller c =
    let p = c.args.profile in
    let item : Continues p c.items.next c.split_at.result.1.now (Err c.in-Bad.fault, c.in-Bad.used) =
    subst (TellsItem p c.items.next c.split_at.result.1.now) c.in-Bad.is c.in_ok-read_request_in.ensures.item in
    let some = item_fits p _ c.args.bytes.now _ c.items.at _ _ c.split_at.ensures.back item c.items.invariant.keeps in
    less_past_fault p _ c.args.bytes.now _ c.items.at _ _ c.split_at.ensures.back c.items.invariant.within item some
