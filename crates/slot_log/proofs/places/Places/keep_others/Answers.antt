use Rattle.std.proofs.Common.{rules}
use Rattle.std.proofs.lemmas.Fn.{filter_same}
use Rattle.slot_log.proofs.places.Places.keep_others.Goals as goal

pub returns-clause-others : goal.returns-clause-others
returns-clause-others g c = λ book requests proposals decisions.
    filter_same _ _ _ (λ x b f' k. search rules) _ _ c.retain.ensures.filtered
