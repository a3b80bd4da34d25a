use Rattle.std.proofs.Common.{◌∙◌, sym, ap, Result, Ok, Err, OnOk, OnErr}
use Rattle.std.proofs.lemmas.Result.{IfOk-weaker}
use Rattle.bean_queue.specs.Tubes.{all_tubes}
use Rattle.bean_queue.proofs.tubes.Listed.{called-tubes, listing-state, listing-reply}
use Rattle.bean_queue.proofs.logic.Logic.obey_listing.Goals as goal

on-ok : {X E P : Type 0} (r : Result X E) → P → OnOk r P
on-ok (Ok x) p = p
on-ok (Err e) p = tt

on-err : {X E P : Type 0} (r : Result X E) → P → OnErr r P
on-err (Ok x) p = tt
on-err (Err e) p = p

pub listing_row-requires-clause-names : goal.listing_row-requires-clause-names
listing_row-requires-clause-names g c =
    c.requires.names ∙ sym (called-tubes c.args.op.now c.args.key.session c.args.self.now.now) ∙ ap all_tubes (sym c.in_ok-call.ensures.now)

pub returns-clause-does : goal.returns-clause-does
returns-clause-does g c = record {
  state =
      on-ok c.listing_row.result
      (listing-state c.args.op.now c.args.key c.args.self.now.now c.call.new.self.now c.requires.lists c.requires.calm c.in_ok-call.ensures.now);
  reply = IfOk-weaker c.listing_row.result _ _
      (λ reply told. listing-reply c.args.op.now c.args.key c.args.self.now.now c.call.new.self.now reply c.requires.lists c.requires.calm
      c.in_ok-call.ensures.now (told c.args.key))
      c.listing_row.ensures;
  err = on-err c.listing_row.result c.call.ensures.before;
}

pub returns-clause-names : goal.returns-clause-names
returns-clause-names g c =
    on-ok c.listing_row.result
    (c.requires.names ∙ sym (called-tubes c.args.op.now c.args.key.session c.args.self.now.now) ∙ ap all_tubes (sym c.in_ok-call.ensures.now))
