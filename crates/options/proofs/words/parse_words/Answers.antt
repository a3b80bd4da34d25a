use Rattle.std.proofs.Common.{◌≡◌, ◌∙◌, true, false, [], codes, map, string_bytes, unwrap_or, inl, inr, refl, sym, ap}
use Rattle.std.proofs.lemmas.Result.{IfOk-weaker}
use Rattle.clap.specs.Words.{App, IsAmong, found_of, has_subcommand}
use Rattle.clap.specs.declared.error.kind.ErrorKind.TheVariants.{DisplayHelp, DisplayVersion}
use Rattle.clap.proofs.CallerLemmas.{subcommand_required}
use Rattle.options.specs.Words.{AskFor, AskForRun, program_command}
use Rattle.options.proofs.CommandLemmas.{command_given-of, meets_one, met_by, run_asked, run_same, serve_asked, serve_same, text_given-of, word_given-of}
use Rattle.options.proofs.WordsLemmas.{among_errors, holds_of_errors}
use Rattle.options.proofs.words.parse_words.Goals as goal

pub returns-in-Some : goal.returns-in-Some
returns-in-Some c =
    let is_program = c.in_ok-program_words.ensures.app in
    let words = map string_bytes c.args.words.now in
    let met = met_by _ words c.in-Ok.matches is_program c.in-Ok.ensures.matches in
    let found = found_of c.in-Some.run'.now in
    let rows = c.in-Some.ensures.rows in
    let run : AskForRun words = (
      holds_of_errors
          (λ kinds. kinds ≡ []) _ _ is_program c.in-Ok.ensures.kinds,
      command_given-of words c.in-Ok.matches
          (codes "run") met (c.in-Some.ensures.found.0 refl),
    ) in
    IfOk-weaker c.run_of.result _ _
    (λ asked is. run_asked words run asked
    (run_same _ _ _ _ (text_given-of words c.in-Ok.matches found met rows)
    (word_given-of words c.in-Ok.matches found met rows) asked is))
    c.run_of.ensures

pub returns-in-Some-subcommand_matches : goal.returns-in-Some-subcommand_matches
returns-in-Some-subcommand_matches c =
    let is_program = c.in_ok-program_words.ensures.app in
    let words = map string_bytes c.args.words.now in
    let met = met_by _ words c.in-Ok.matches is_program c.in-Ok.ensures.matches in
    let found = found_of c.in-Some-subcommand_matches.serve.now in
    let rows = c.in-Some-subcommand_matches.ensures.rows in
    let serve : AskFor (codes "serve") words = (
      holds_of_errors (λ kinds. kinds ≡ []) _ _ is_program c.in-Ok.ensures.kinds,
      command_given-of words
          c.in-Ok.matches (codes "serve") met (c.in-Some-subcommand_matches.ensures.found.0 refl),
    ) in
    IfOk-weaker c.serve_of.result _ _
    (λ asked is. serve_asked words serve asked
    (serve_same _ _ _ _ (text_given-of words c.in-Ok.matches found met rows)
    (word_given-of words c.in-Ok.matches found met rows) asked is))
    c.serve_of.ensures

pub returns-in-Some-subcommand_matches-2 : goal.returns-in-Some-subcommand_matches-2
returns-in-Some-subcommand_matches-2 c =
    let is_program = c.in_ok-program_words.ensures.app in
    let words = map string_bytes c.args.words.now in
    let met = met_by _ words c.in-Ok.matches is_program c.in-Ok.ensures.matches in
    let found = found_of c.in-Some-subcommand_matches-2.inspect.now in
    let rows = c.in-Some-subcommand_matches-2.ensures.rows in (
      (
        holds_of_errors (λ kinds. kinds ≡ []) _ _ is_program c.in-Ok.ensures.kinds,
        command_given-of words
            c.in-Ok.matches (codes "inspect") met (c.in-Some-subcommand_matches-2.ensures.found.0 refl),
      ),
      c.file_of.ensures ∙ ap (λ w. unwrap_or w []) (word_given-of words c.in-Ok.matches found met rows (codes "file")),
    )

never : false ≡ true → ⊥
never e = absurd (cc)

pub unreachable-requires : goal.unreachable-requires
unfolding program_command
unreachable-requires c =
    let is_program = c.in_ok-program_words.ensures.app in
    let words = map string_bytes c.args.words.now in
    let is_required = ap (λ (a : App). a.top.subcommand_required) is_program in
    let met : has_subcommand c.in-Ok.matches ≡ true = subcommand_required _ _ c.in-Ok.ensures.parsed c.in_ok-program_words.ensures.no_globals is_required in
    meets_one words c.in-Ok.matches (holds_of_errors (λ kinds. kinds ≡ []) _ _ is_program c.in-Ok.ensures.kinds)
    (met_by _ words c.in-Ok.matches is_program c.in-Ok.ensures.matches) met
    (λ e. never (c.in_default.ensures.found.1 e)) (λ e. never (c.in_default-subcommand_matches.ensures.found.1 e)) (λ e. never (c.in-None.ensures.found.1 e))
    (λ e. never (sym c.if-is_some.false ∙ c.is_some.ensures ∙ c.subcommand_matches-in-Ok-2.ensures.found.1 e))

pub returns-in-DisplayHelp : goal.returns-in-DisplayHelp
returns-in-DisplayHelp c = (
  holds_of_errors (λ kinds. IsAmong DisplayHelp kinds) _ _ c.in_ok-program_words.ensures.app
      (λ simple. among_errors DisplayHelp _ c.in-Err.error (sym c.in-DisplayHelp.is ∙ c.kind.ensures) (λ e. cc) (c.in-Err.ensures.kinds simple)),
  c.in_ok-text_of-in-DisplayHelp.ensures,
)

pub returns : goal.returns
returns c = (
  (
    c.kind.result,
    c.in_default-kind.not-DisplayHelp,
    c.in_default-kind.not-DisplayVersion,
    holds_of_errors (λ kinds. IsAmong c.kind.result kinds) _ _ c.in_ok-program_words.ensures.app
        (λ simple. among_errors _ _ c.in-Err.error c.kind.ensures c.in_default-kind.not-OutOfMemory (c.in-Err.ensures.kinds simple)),
  ),
  c.in_ok-text_of-in_default-kind.ensures,
)

pub returns-then-is_some : goal.returns-then-is_some
returns-then-is_some c =
    let is_program = c.in_ok-program_words.ensures.app in
    let words = map string_bytes c.args.words.now in
    let met = met_by _ words c.in-Ok.matches is_program c.in-Ok.ensures.matches in
    inr (
      holds_of_errors (λ kinds. kinds ≡ []) _ _ is_program c.in-Ok.ensures.kinds,
      command_given-of words c.in-Ok.matches (codes "version") met
          (c.subcommand_matches-in-Ok-2.ensures.found.0 (sym c.is_some.ensures ∙ c.if-is_some.true)),
    )

pub returns-in-DisplayVersion : goal.returns-in-DisplayVersion
returns-in-DisplayVersion c =
    inl (holds_of_errors (λ kinds. IsAmong DisplayVersion kinds) _ _ c.in_ok-program_words.ensures.app
    (λ simple. among_errors DisplayVersion _ c.in-Err.error (sym c.in-DisplayVersion.is ∙ c.kind.ensures) (λ e. cc) (c.in-Err.ensures.kinds simple)))
