use Rattle.std.proofs.Common.{[], ◌∷◌, sym, ap, ◌∙◌}
use Rattle.std.specs.Option.{option_to_list}
use Rattle.bean_queue.proofs.calm.Woken.{covers-waking}
use Rattle.bean_queue.proofs.logic.Logic.wake.Goals as goal

pub serve-requires : goal.serve-requires
serve-requires g c =
    covers-waking c.args.op.now c.args.key c.args.self.now.now c.waking_row.new.self.now
    (c.in-Some.tube ∷ []) c.requires.wakes.loud c.requires.wakes.waking c.requires.calm c.woken_by.ensures.ids_rise
    c.woken_by.ensures.numbers_rise
    (sym (ap option_to_list c.in-Some.is) ∙ c.in_ok-woken.ensures.tube) c.in_ok-reply.ensures.state

pub serve-requires-in-None : goal.serve-requires-in-None
serve-requires-in-None g c =
    covers-waking c.args.op.now c.args.key c.args.self.now.now c.waking_row.new.self.now
    [] c.requires.wakes.loud c.requires.wakes.waking c.requires.calm c.woken_by.ensures.ids_rise c.woken_by.ensures.numbers_rise
    (sym (ap option_to_list c.in-None.is) ∙ c.in_ok-woken.ensures.tube) c.in_ok-reply.ensures.state
