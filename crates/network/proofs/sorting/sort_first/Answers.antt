use Rattle.std.proofs.Common.{arith, refl}
use Rattle.network.proofs.Posts.{first_between, place_within, taken_rest, sorted_same, sorted_post}
use Rattle.network.proofs.sorting.sort_first.Goals as goal

pub overflow_sub-first : goal.overflow_sub-first
overflow_sub-first g c =
    (first_between c.args.mails.now.items c.args.letters.now.items c.in-Some.first.now 0
    (omega (arith, c.in-Some.ensures.variant.0 refl, c.args.letters.now.ok.0)) c.in-Some.ensures.lookup
    c.requires).receiver.0

pub index_mut-requires : goal.index_mut-requires
index_mut-requires g c =
    let h = place_within c.args.mails.now.items c.args.letters.now.items c.in-Some.first.now c.from-place.result
    (omega (arith, c.in-Some.ensures.variant.0 refl, c.args.letters.now.ok.0)) c.in-Some.ensures.lookup c.requires
    c.from-place.ensures in
    omega (arith, h, c.args.mails.now.ok)

pub returns-clause-same : goal.returns-clause-same
returns-clause-same g c =
    sorted_same c.args.mails.now.items c.args.letters.now.items c.in-Some.first.now c.from-place.result
    (omega (arith, c.in-Some.ensures.variant.0 refl, c.args.letters.now.ok.0)) c.in-Some.ensures.lookup c.requires
    c.from-place.ensures c.take_first.new.self c.index_mut.result.now c.take_first.new.letters.items
    c.index_mut.ensures.value c.in_ok-take_first.ensures.ok

pub returns-clause-post : goal.returns-clause-post
returns-clause-post g c =
    sorted_post c.args.mails.now.items c.args.letters.now.items c.in-Some.first.now c.from-place.result
    (omega (arith, c.in-Some.ensures.variant.0 refl, c.args.letters.now.ok.0)) c.in-Some.ensures.lookup c.requires
    c.from-place.ensures c.take_first.new.self c.index_mut.result.now c.take_first.new.letters.items
    c.index_mut.ensures.value c.in_ok-take_first.ensures.ok

pub returns-clause-ok : goal.returns-clause-ok
returns-clause-ok g c =
    taken_rest c.args.mails.now.items c.args.letters.now.items c.in-Some.first.now c.from-place.result
    (omega (arith, c.in-Some.ensures.variant.0 refl, c.args.letters.now.ok.0)) c.in-Some.ensures.lookup c.requires
    c.from-place.ensures c.take_first.new.self c.index_mut.result.now c.take_first.new.letters.items
    c.in_ok-take_first.ensures.ok
