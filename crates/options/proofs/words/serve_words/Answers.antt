-- Each call adds an option that is not global.
use Rattle.std.proofs.Common.{rules, ◌≡◌, ◌∙◌, ◌||◌, Bool, false, ap, ap₂, codes}
use Rattle.std.proofs.lemmas.Result.{IfOk-weaker}
use Rattle.clap.specs.Words.{app_of, new_app, with_rule}
use Rattle.clap.specs.declared.builder.command.Command.TheViews.{out-Command}
use Rattle.options.specs.Words.{serve_command}
use Rattle.options.proofs.words.serve_words.Goals as goal

pub returns-clause-app : goal.returns-clause-app
unfolding serve_command
returns-clause-app c =
    let named : app_of c.about.result ≡ new_app (codes "serve") = search (rules, c.about.ensures, c.new.ensures.app) in
    let host = c.in_ok-arg.ensures.shape c.host_words.ensures.local ∙ ap₂ with_rule named c.host_words.ensures.rule in
    let port = c.in_ok-arg-2.ensures.shape c.port_words.ensures.local ∙ ap₂ with_rule host c.port_words.ensures.rule in
    let nodes = c.in_ok-arg-3.ensures.shape c.nodes_words.ensures.local ∙ ap₂ with_rule port c.nodes_words.ensures.rule in
    let weights = c.in_ok-arg-4.ensures.shape c.weights_words.ensures.local ∙ ap₂ with_rule nodes c.weights_words.ensures.rule in
    let workers = c.in_ok-arg-5.ensures.shape c.workers_words.ensures.local ∙ ap₂ with_rule weights c.workers_words.ensures.rule in
    let sessions = c.in_ok-arg-6.ensures.shape c.sessions_words.ensures.local ∙ ap₂ with_rule workers c.sessions_words.ensures.rule in
    let dump = c.in_ok-arg-7.ensures.shape c.dump_words.ensures.local ∙ ap₂ with_rule sessions c.dump_words.ensures.rule in
    let log = c.in_ok-arg-8.ensures.shape c.log_words.ensures.local ∙ ap₂ with_rule dump c.log_words.ensures.rule in
    let sync = c.in_ok-arg-9.ensures.shape c.sync_words.ensures.local ∙ ap₂ with_rule log c.sync_words.ensures.rule in
    IfOk-weaker c.arg-10.result _ _ (λ r adds. adds.shape c.stats_words.ensures.local ∙ ap₂ with_rule sync c.stats_words.ensures.rule) c.arg-10.ensures

none_global : (a b : Bool) → a ≡ false → b ≡ false → (a || b) ≡ false
none_global a b p q = ap₂ (λ x y. x || y) p q

pub returns-clause-no_globals : goal.returns-clause-no_globals
returns-clause-no_globals c =
    let named : (out-Command c.about.result).has_globals ≡ false =
    ap (λ f. f.has_globals) c.about.ensures ∙ c.new.ensures.local in
    let host = c.in_ok-arg.ensures.globals ∙ none_global _ _ named c.host_words.ensures.local in
    let port = c.in_ok-arg-2.ensures.globals ∙ none_global _ _ host c.port_words.ensures.local in
    let nodes = c.in_ok-arg-3.ensures.globals ∙ none_global _ _ port c.nodes_words.ensures.local in
    let weights = c.in_ok-arg-4.ensures.globals ∙ none_global _ _ nodes c.weights_words.ensures.local in
    let workers = c.in_ok-arg-5.ensures.globals ∙ none_global _ _ weights c.workers_words.ensures.local in
    let sessions = c.in_ok-arg-6.ensures.globals ∙ none_global _ _ workers c.sessions_words.ensures.local in
    let dump = c.in_ok-arg-7.ensures.globals ∙ none_global _ _ sessions c.dump_words.ensures.local in
    let log = c.in_ok-arg-8.ensures.globals ∙ none_global _ _ dump c.log_words.ensures.local in
    let sync = c.in_ok-arg-9.ensures.globals ∙ none_global _ _ log c.sync_words.ensures.local in
    IfOk-weaker c.arg-10.result _ _ (λ r adds. adds.globals ∙ none_global _ _ sync c.stats_words.ensures.local) c.arg-10.ensures
