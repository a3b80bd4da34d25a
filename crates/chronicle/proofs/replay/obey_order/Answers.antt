use Rattle.std.proofs.Common.{◌≡◌, [], length, map, take, get_or, sym, ap, subst, ◌∙◌, arith, rules}
use Rattle.std.proofs.lemmas.List.{take_all}
use Rattle.object.specs.FilterLaws.{FilterLaws}
use Rattle.bean_words.specs.declared.op.Op.{Op}
use Rattle.object.specs.Happenings.{submitted_key}
use Rattle.chronicle.specs.declared.check_fault.What.TheVariants.{NotSubmitted, NotKept}
use Rattle.bean_queue.specs.Places.{queue_replay}
use Rattle.chronicle.specs.Checking.{AreRightPlaces}
use Rattle.chronicle.specs.Replaying.{placed}
use Rattle.chronicle.proofs.verdicts.Legal.{commands_of}
use Rattle.chronicle.proofs.verdicts.FirstPlaces.{first_at, no_place, read_first}
use Rattle.chronicle.proofs.verdicts.Obeyed.{HasObeyed, nothing_obeyed, one_more, one_obeyed, so_many, above_later, wrong_place}
use Rattle.chronicle.proofs.replay.obey_order.Goals as goal

pub loop-place-init : goal.loop-place-init
loop-place-init c =
    subst (HasObeyed c.args.chronicle.now [] c.in_ok-queue.queue) (sym c.new-given.ensures.items)
    (nothing_obeyed c.args.chronicle.now c.in_ok-queue.queue c.in_ok-queue.ensures.object
    (rw c.in_ok-queue.ensures.latest c.filter_remembers.ensures.none))

pub returns-in_default-clause-at : goal.returns-in_default-clause-at
returns-in_default-clause-at c =
    let h = c.args.chronicle.now in
    let place = c.loop-place.place in
    let key = get_or c.order-key-items.result.now place (record { session = 0; number = 0 }) in
    wrong_place h place key (search rules)
    (search rules) c.first_order_line-first_line.result NotSubmitted c.loop-place.invariant.right
    c.first_order_line-first_line.ensures.line
    (no_place submitted_key key h.submitted (sym (c.requires key) ∙ sym c.in_default.ensures.value))

pub bounds-submitted-first : goal.bounds-submitted-first
bounds-submitted-first c =
    let h = c.args.chronicle.now in
    let key = get_or c.order-key-items.result.now c.loop-place.place (record { session = 0; number = 0 }) in
    let first = first_at submitted_key key h.submitted c.in-Some.first.now (sym (c.requires key) ∙ sym c.in-Some.ensures.value) in
    let within = first.within in
    let same = ap length c.submitted-submitted.ensures.submitted in
    omega arith

pub offset_bounds-submitted-first : goal.offset_bounds-submitted-first
offset_bounds-submitted-first c =
    let h = c.args.chronicle.now in
    let key = get_or c.order-key-items.result.now c.loop-place.place (record { session = 0; number = 0 }) in
    let first = first_at submitted_key key h.submitted c.in-Some.first.now (sym (c.requires key) ∙ sym c.in-Some.ensures.value) in
    let within = first.within in
    let same = ap length c.submitted-submitted.ensures.submitted in
    search rules

pub returns-in-Stale-clause-at : goal.returns-in-Stale-clause-at
returns-in-Stale-clause-at c =
    let h = c.args.chronicle.now in
    let laws : FilterLaws Op = record {
      none = c.filter_remembers.ensures.none;
      done =
          c.filter_remembers.ensures.done;
      stale = c.filter_remembers.ensures.stale;
    } in
    let place = c.loop-place.place in
    let key = get_or c.order-key-items.result.now place (record { session = 0; number = 0 }) in
    let s = get_or c.submitted-submitted.result.now c.in-Some.first.now c.index-submitted-first.result in
    let first = first_at submitted_key key h.submitted c.in-Some.first.now (sym (c.requires key) ∙ sym c.in-Some.ensures.value) in
    let read = read_first submitted_key key h.submitted c.in-Some.first.now s first
    (ap (get_or c.submitted-submitted.result.now c.in-Some.first.now) c.index-submitted-first.is ∙ ap
    (λ xs. get_or xs c.in-Some.first.now s) c.submitted-submitted.ensures.submitted) in
    wrong_place h place key (search rules)
    (search rules) c.first_order_line-first_line.result NotKept c.loop-place.invariant.right
    c.first_order_line-first_line.ensures.line (
      first.known,
      λ above. let done =
          c.in_ok-obey.ensures.done.1 (above_later laws h
          (take place h.order) c.loop-place.queue c.loop-place.given.items c.loop-place.invariant key s read.0 read.1
          first.known above) in cc,
    )

pub loop-place-preserved : goal.loop-place-preserved
loop-place-preserved c =
    let h = c.args.chronicle.now in
    let laws : FilterLaws Op = record {
      none = c.filter_remembers.ensures.none;
      done =
          c.filter_remembers.ensures.done;
      stale = c.filter_remembers.ensures.stale;
    } in
    let place = c.loop-place.place in
    let key = get_or c.order-key-items.result.now place (record { session = 0; number = 0 }) in
    let s = get_or c.submitted-submitted.result.now c.in-Some.first.now c.index-submitted-first.result in
    let first = first_at submitted_key key h.submitted c.in-Some.first.now (sym (c.requires key) ∙ sym c.in-Some.ensures.value) in
    let read = read_first submitted_key key h.submitted c.in-Some.first.now s first
    (ap (get_or c.submitted-submitted.result.now c.in-Some.first.now) c.index-submitted-first.is ∙ ap
    (λ xs. get_or xs c.in-Some.first.now s) c.submitted-submitted.ensures.submitted) in
    let many : length (take place h.order) ≡ place = so_many h place key (search rules) (search rules) in
    let later = c.in_ok-obey.ensures.done.0 (cc) in
    let next = one_obeyed laws h (take place h.order) c.loop-place.queue c.loop-place.given.items c.loop-place.invariant key s read.0 read.1 first.known
    place c.obey.new.queue c.obey.new.given.items many later c.in_ok-obey.ensures.state c.in_ok-obey.ensures.given in
    subst (λ done. HasObeyed h done c.obey.new.queue c.obey.new.given.items) (sym (one_more h place key (search rules) (search rules))) next

pub returns-clause-right : goal.returns-clause-right
returns-clause-right c =
    let h = c.args.chronicle.now in
    let same = ap length c.order-key-items.ensures.order in
    subst (AreRightPlaces h) (take_all c.loop-place.place h.order (omega arith)) c.loop-place.invariant.right

pub returns-clause-given : goal.returns-clause-given
returns-clause-given c =
    let h = c.args.chronicle.now in
    let same = ap length c.order-key-items.ensures.order in
    subst (λ done. map placed c.loop-place.given.items ≡ queue_replay (commands_of h done))
    (take_all c.loop-place.place h.order (omega arith)) c.loop-place.invariant.says
