-- The commands stand below the program's name.
use Rattle.std.proofs.Common.{rules, ◌≡◌, ◌∙◌, ap, ap₂, ◌||◌, Bool, true, false, codes}
use Rattle.std.proofs.lemmas.Result.{IfOk-weaker}
use Rattle.clap.specs.Words.{App, app_of, new_app, with_subcommand}
use Rattle.clap.specs.declared.builder.command.Command.TheViews.{out-Command}
use Rattle.options.specs.Words.{program_command}
use Rattle.options.proofs.words.program_words.Goals as goal

abbrev named : App
named = let app = new_app (codes "beanpax") in record app { top = record app.top { has_version = true; subcommand_required = true } }

pub returns-clause-app : goal.returns-clause-app
unfolding program_command
returns-clause-app c =
    let name_is : app_of c.new.result ≡ new_app (codes "beanpax") = search rules in
    let named_is : app_of c.subcommand_required.result ≡ named = search rules in
    let run_is = c.in_ok-subcommand.ensures.shape c.in_ok-run_words.ensures.no_globals
    ∙ ap₂ with_subcommand named_is (ap (λ (a : App). a.top) c.in_ok-run_words.ensures.app) in
    let serve_is = c.in_ok-subcommand-2.ensures.shape c.in_ok-serve_words.ensures.no_globals
    ∙ ap₂ with_subcommand run_is (ap (λ (a : App). a.top) c.in_ok-serve_words.ensures.app) in
    let inspect_is = c.in_ok-subcommand-3.ensures.shape c.in_ok-inspect_words.ensures.no_globals
    ∙ ap₂ with_subcommand serve_is (ap (λ (a : App). a.top) c.in_ok-inspect_words.ensures.app) in
    IfOk-weaker c.subcommand-4.result _ _
    (λ r adds. adds.shape c.version_words.ensures.no_globals ∙ ap₂ with_subcommand inspect_is (ap (λ (a : App). a.top) c.version_words.ensures.app))
    c.subcommand-4.ensures

none_global : (a b : Bool) → a ≡ false → b ≡ false → (a || b) ≡ false
none_global a b p q = ap₂ (λ x y. x || y) p q

pub returns-clause-no_globals : goal.returns-clause-no_globals
returns-clause-no_globals c =
    let named_local : (out-Command c.subcommand_required.result).has_globals ≡ false = search rules in
    let run_local = c.in_ok-subcommand.ensures.globals ∙ none_global _ _ named_local c.in_ok-run_words.ensures.no_globals in
    let serve_local = c.in_ok-subcommand-2.ensures.globals ∙ none_global _ _ run_local c.in_ok-serve_words.ensures.no_globals in
    let inspect_local = c.in_ok-subcommand-3.ensures.globals ∙ none_global _ _ serve_local c.in_ok-inspect_words.ensures.no_globals in
    IfOk-weaker c.subcommand-4.result _ _
    (λ r adds. adds.globals ∙ none_global _ _ inspect_local c.version_words.ensures.no_globals)
    c.subcommand-4.ensures
