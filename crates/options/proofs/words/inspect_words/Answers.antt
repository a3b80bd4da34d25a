-- The call adds an argument that is not global.
use Rattle.std.proofs.Common.{rules, ◌≡◌, ◌∙◌, ap₂, codes}
use Rattle.std.proofs.lemmas.Result.{IfOk-weaker}
use Rattle.clap.specs.Words.{app_of, new_app, with_rule}
use Rattle.options.specs.Words.{inspect_command}
use Rattle.options.proofs.words.inspect_words.Goals as goal

pub returns-clause-app : goal.returns-clause-app
unfolding inspect_command
returns-clause-app c =
    let named : app_of c.about.result ≡ new_app (codes "inspect") = search rules in
    IfOk-weaker c.arg.result _ _ (λ r adds. adds.shape c.file_words.ensures.local ∙ ap₂ with_rule named c.file_words.ensures.rule) c.arg.ensures
