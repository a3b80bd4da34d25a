use Rattle.std.proofs.Common.{sym, ◌∙◌, arith}
use Rattle.network.proofs.OnWay.{in_count, mail_filled, late_does, lost_first, lost_late, lost_post, late_post}
use Rattle.network.proofs.post.lose.Goals as goal

pub overflow_sub-id : goal.overflow_sub-id
overflow_sub-id g c = c.requires.among.0

pub index_mut-requires : goal.index_mut-requires
index_mut-requires g c =
    let within = in_count c.from-place.ensures c.requires.among in
    omega (arith, within, c.args.mails.now.ok.0)

pub returns-then-drop_front-clause-lost : goal.returns-then-drop_front-clause-lost
returns-then-drop_front-clause-lost g c =
    mail_filled _ c.from-place.ensures c.requires.among c.index_mut.result.now c.index_mut.ensures.value
    c.args.fresh.now.items (sym c.drop_front.ensures.does ∙ c.if-drop_front.true)

pub returns-then-drop_front-clause-left : goal.returns-then-drop_front-clause-left
returns-then-drop_front-clause-left g c =
    lost_first _ c.from-place.ensures c.requires.among c.index_mut.result.now c.index_mut.ensures.value
    c.args.fresh.now.items c.drop_front.new.self c.drop_front.ensures.left
    (sym c.drop_front.ensures.does ∙ c.if-drop_front.true)

pub returns-then-drop_front-clause-post : goal.returns-then-drop_front-clause-post
returns-then-drop_front-clause-post g c =
    lost_post _ c.from-place.ensures c.requires.among c.index_mut.result.now c.index_mut.ensures.value
    c.args.fresh.now.items c.requires.post c.drop_front.new.self c.drop_front.ensures.left

pub returns-clause-lost : goal.returns-clause-lost
returns-clause-lost g c =
    late_does _ c.from-place.ensures c.requires.among c.index_mut.result.now c.index_mut.ensures.value
    c.args.fresh.now.items (sym c.drop_front.ensures.does ∙ c.if-drop_front.false) c.drop_first.result
    c.drop_first.ensures.does

pub returns-clause-left : goal.returns-clause-left
returns-clause-left g c =
    lost_late _ c.from-place.ensures c.requires.among c.index_mut.result.now c.index_mut.ensures.value
    c.args.fresh.now.items c.drop_front.new.self c.drop_front.ensures.left
    (sym c.drop_front.ensures.does ∙ c.if-drop_front.false) c.drop_first.new.letters.items c.drop_first.ensures.left

pub returns-clause-post : goal.returns-clause-post
returns-clause-post g c =
    late_post _ c.from-place.ensures c.requires.among c.index_mut.result.now c.index_mut.ensures.value
    c.args.fresh.now.items c.requires.post c.drop_front.new.self c.drop_front.ensures.left
    c.drop_first.new.letters.items c.drop_first.ensures.left
