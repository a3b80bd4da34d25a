-- Each call adds an option that is not global.
use Rattle.std.proofs.Common.{rules, ◌≡◌, ◌∙◌, ap₂, codes}
use Rattle.std.proofs.lemmas.Result.{IfOk-weaker}
use Rattle.clap.specs.Words.{app_of, new_app, with_rule}
use Rattle.options.specs.Words.{run_command}
use Rattle.options.proofs.words.run_words.Goals as goal

pub returns-clause-app : goal.returns-clause-app
unfolding run_command
returns-clause-app c =
    let named : app_of c.about.result ≡ new_app (codes "run") = search rules in
    let nodes = c.in_ok-arg.ensures.shape c.nodes_words.ensures.local ∙ ap₂ with_rule named c.nodes_words.ensures.rule in
    let weights = c.in_ok-arg-2.ensures.shape c.weights_words.ensures.local ∙ ap₂ with_rule nodes c.weights_words.ensures.rule in
    let seed = c.in_ok-arg-3.ensures.shape c.seed_words.ensures.local ∙ ap₂ with_rule weights c.seed_words.ensures.rule in
    IfOk-weaker c.arg-4.result _ _ (λ r adds. adds.shape c.stats_words.ensures.local ∙ ap₂ with_rule seed c.stats_words.ensures.rule) c.arg-4.ensures
