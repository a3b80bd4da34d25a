use Rattle.std.proofs.Common.{sym, ◌∙◌}
use Rattle.hall.proofs.Recording.{answered_so, placed_so}
use Rattle.hall.proofs.recorded.RecordedNetwork.act.Goals as goal

pub answer_all-requires : goal.answer_all-requires
answer_all-requires g c = answered_so _ _ c.self.view_is c.args.node g.O.Object.rules c.args.deed c.requires.answered _
    _ c.new-given.ensures.items c.in_ok-outcome.ensures.answers.0

pub place-requires : goal.place-requires
place-requires g c = placed_so _ _ c.self.view_is c.args.node c.args.deed c.requires.placed _ _
    c.answer_all.ensures.answers c.in_ok-outcome.outcome c.in_ok-outcome.ensures.outcome c.in-Some.key
    (sym c.key_placed.ensures ∙ c.in-Some.is)
