use Rattle.std.proofs.Common.{◌∙◌, Bool, if◌then◌else◌, sym, ap}
use Rattle.bean_codec.specs.declared.profile.Profile.TheVariants.{Plain, Extended}
use Rattle.options.proofs.WordsLemmas.{profile_read}
use Rattle.options.proofs.words.profile_of.Goals as goal

pub returns-then-has_stats : goal.returns-then-has_stats
returns-then-has_stats c =
    sym (profile_read _ _ c.get_one.result c.get_one.ensures.none c.get_one.ensures.value
    ∙ ap (λ (b : Bool). if b then Extended else Plain) (sym c.unwrap_or-has_stats.ensures ∙ c.if-has_stats.true))

pub returns-else-has_stats : goal.returns-else-has_stats
returns-else-has_stats c =
    sym (profile_read _ _ c.get_one.result c.get_one.ensures.none c.get_one.ensures.value
    ∙ ap (λ (b : Bool). if b then Extended else Plain) (sym c.unwrap_or-has_stats.ensures ∙ c.if-has_stats.false))
