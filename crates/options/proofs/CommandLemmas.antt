-- A command line in which clap finds no error names one of the program's commands, and not `help`.
use Rattle.std.proofs.Common.{◌≡◌, ◌≢◌, ◌⊎◌, inl, inr, ◌∙◌, ◌&&◌, ◌||◌, ℕ, Bool, true, false, not, List, [], ◌∷◌, ◌++◌, map}
use Rattle.std.proofs.Common.{Option, None, Some, is_some, if◌then◌else◌, option_map, codes, refl, sym, ap, ap₂, subst}
use Rattle.std.proofs.Common.{◌^◌, ◌-◌}
use Rattle.std.specs.Prelude.{option_and_then, find, fold, cond}
use Rattle.std.specs.Bool.{⊤}
use Rattle.std.specs.Str.{bytes_eq}
use Rattle.std.proofs.lemmas.Slice.Eq.{bytes_eq-Decides}
use Rattle.clap.specs.Kinds.{Kinds, or_else}
use Rattle.std.specs.List.{slice_index_or}
use Rattle.clap.specs.Simple.{App, help_shape, Shape, argument_words, built, label_of, names_of, rows_at, subcommand_of}
use Rattle.clap.specs.Walk.{Names, Row, Rule, Text, Held, Step, Waiting, Walk, Outcome, after_flag, after_step}
use Rattle.clap.specs.Walk.{answers_to, arg_by_index, arg_by_long, long_met, long_or_other, nothing_held, plain_word}
use Rattle.clap.specs.Walk.{short_or_plain, bundle, subcommand_met, subcommand_or_other, to_positional, walk_from}
use Rattle.clap.specs.Walk.{walked, walked_from, word_met}
use Rattle.clap.specs.Lexer.{long_of, short_of}
use Rattle.clap.specs.Walk.Waiting.{idle, option, positional}
use Rattle.clap.specs.Walk.Step.{next, trailing, subcommand, value}
use Rattle.clap.specs.Walk.Outcome.{done, waits, plain, refused}
use Rattle.clap.specs.Faults.{other_fault, turn_fault, walk_fault}
use Rattle.clap.specs.Words.{HasMatchesOf, first_of, first_value, has_subcommand, is_simple, one_of, one_text, rows_of, subcommand_name_of, subcommand_rows_of}
use Rattle.clap.specs.declared.parser.matches.ArgMatches.{ArgMatches}
use Rattle.clap.specs.declared.parser.matches.ArgMatches.TheViews.{out-ArgMatches}
use Rattle.clap.specs.declared.parser.matches.Found.{Found}
use Rattle.clap.proofs.OnLiterals.{clap_on_literals}
use Rattle.clap.proofs.WalkLemmas.{first_value-rows, one_text-rows}
use Rattle.options.specs.Hosts.{IsHostOf}
use Rattle.options.specs.Numbers.{IsNumberIfGiven, IsNumberOr}
use Rattle.options.specs.Weights.{AreMembersOf}
use Rattle.options.specs.declared.words.Action.{Action}
use Rattle.options.specs.declared.words.Action.TheVariants.{Run, Serve, Inspect, BadWeights, BadHost, Help, Version, Wrong}
use Rattle.options.specs.Words.{AskFor, AskForRun, IsAskedBy, IsRunOf, IsServeOf, IsServerOf, command_given, errors_in}
use Rattle.options.specs.Words.{profile_by, program_command, run_command, serve_command, inspect_command, text_given, word_given}
use Rattle.options.specs.declared.words.ServerOptions.{ServerOptions}
use Rattle.options.proofs.WordsLemmas.{is_simple-program_command}

first_none : (a b : Kinds) → or_else a b ≡ [] → a ≡ []
first_none [] b e = refl
first_none (k ∷ ks) b e = absurd (cc)

then_none : (a b : Kinds) → or_else a b ≡ [] → b ≡ []
then_none [] b e = e
then_none (k ∷ ks) b e = absurd (cc)

-- a walk that stopped, stopped at another command than `help`
abbrev IsNoHelp : Option (Text × List Text) → Type 0
IsNoHelp None = ⊤
IsNoHelp (Some p) = bytes_eq p.0 (codes "help") ≡ false

-- the word of this step is no command
abbrev IsNoCommand : Step → Type 0
IsNoCommand (subcommand name) = ⊥
IsNoCommand (next waiting) = ⊤
IsNoCommand (trailing position) = ⊤
IsNoCommand value = ⊤

plain_is : (c : List Rule) (waiting : Waiting) (word : Text) (h : Held) → IsNoCommand (plain_word c waiting word h).1
plain_is c idle word h = tt
plain_is c (option id) word h = tt
plain_is c positional word h = tt

flag_is : (c : List Rule) (waiting : Waiting) (word : Text) (h : Held) (o : Outcome) → IsNoCommand (after_flag c waiting word h o).1
flag_is c waiting word h done = tt
flag_is c waiting word h (waits id) = tt
flag_is c waiting word h plain = plain_is c waiting word h
flag_is c waiting word h refused = plain_is c waiting word h

short_is : (c : List Rule) (waiting : Waiting) (word : Text) (short : Option Text) (h : Held) → IsNoCommand (short_or_plain c waiting word short h).1
short_is c waiting word None h = plain_is c waiting word h
short_is c waiting word (Some flags) h = flag_is c waiting word (bundle c flags h).0 (bundle c flags h).1

long_is : (c : List Rule) (waiting : Waiting) (word : Text) (long : Option (Text × Option Text)) (h : Held)
    → IsNoCommand (long_or_other c waiting word long h).1
long_is c waiting word None h = short_is c waiting word (short_of word) h
long_is c waiting word (Some p) h = flag_is c waiting word (long_met c (arg_by_long c p.0) p.1 h).0 (long_met c (arg_by_long c p.0) p.1 h).1

positional_is : (c : List Rule) (a : Option Rule) (word : Text) (w : Walk) (h : Held) → w.stopped ≡ None → IsNoHelp (to_positional c a word w h).stopped
positional_is c None word w h is_open = subst IsNoHelp (sym is_open) tt
positional_is c (Some a) word w h is_open = tt

-- such a step doesn't stop the walk
goes_on : (c : List Rule) (word : Text) (w : Walk) (h : Held) (s : Step) → IsNoCommand s → w.stopped ≡ None → IsNoHelp (after_step c word w h s).stopped
goes_on c word w h (next waiting) is_plain is_open = subst IsNoHelp (sym is_open) tt
goes_on c word w h (trailing position) is_plain is_open = subst IsNoHelp (sym is_open) tt
goes_on c word w h (subcommand name) named is_open = absurd named
goes_on c word w h value is_plain is_open = positional_is c (arg_by_index c w.position) word w h is_open

not_help : (is_help is_disabled : Bool) (kinds : Kinds) → is_disabled ≡ false → kinds ≢ []
    → (if is_help && not is_disabled then kinds else []) ≡ [] → is_help ≡ false
not_help false is_disabled kinds allowed some none = refl
not_help true false kinds allowed some none = absurd (some none)
not_help true true kinds allowed some none = absurd (cc)

-- a word that may be a command, where the code finds no fault in it
command_is : (s : Shape) (w : Walk) (word : Text) (met : Option Text) → s.disable_help_subcommand ≡ false → w.stopped ≡ None
    → other_fault s met word w.held ≡ []
    → IsNoHelp (after_step s.rules word w (subcommand_or_other s.rules met w.waiting w.position word w.held).0
    (subcommand_or_other s.rules met w.waiting w.position word w.held).1).stopped
command_is s w word (Some name) allowed is_open none = not_help (bytes_eq name (codes "help")) s.disable_help_subcommand _ allowed (λ e. cc) none
command_is s w word None allowed is_open none =
    elim (bytes_eq word (45 ∷ 45 ∷ [])) as (λ b. IsNoHelp (after_step s.rules word w
    (if b then (w.held, trailing w.position) else long_or_other s.rules w.waiting word (long_of word) w.held).0
    (if b then (w.held, trailing w.position) else long_or_other s.rules w.waiting word (long_of word) w.held).1).stopped) [
      | true ↦ goes_on s.rules word w w.held (trailing w.position) tt is_open
      | false ↦ goes_on s.rules word w (long_or_other s.rules w.waiting word (long_of word) w.held).0
          (long_or_other s.rules w.waiting word (long_of word) w.held).1
          (long_is s.rules w.waiting word (long_of word) w.held) is_open
    ]

-- one word more, where nothing has stopped the walk
word_is : (s : Shape) (names : Names) (w : Walk) (word : Text) (is_trailing : Bool) → s.disable_help_subcommand ≡ false → w.stopped ≡ None
    → (if is_trailing then [] else other_fault s (subcommand_met names w.waiting word) word w.held) ≡ []
    → IsNoHelp (after_step s.rules word w (word_met s.rules names is_trailing w.waiting w.position word w.held).0
    (word_met s.rules names is_trailing w.waiting w.position word w.held).1).stopped
word_is s names w word true allowed is_open none = goes_on s.rules word w w.held value tt is_open
word_is s names w word false allowed is_open none = command_is s w word (subcommand_met names w.waiting word) allowed is_open none

still_open : (stopped : Option (Text × List Text)) (kinds : Kinds) → stopped ≡ None → (if is_some stopped then [] else kinds) ≡ [] → kinds ≡ []
still_open None kinds is none = none
still_open (Some p) kinds is none = absurd (cc)

turn_is : (s : Shape) (names : Names) (w : Walk) (word : Text) (stopped : Option (Text × List Text))
    → w.stopped ≡ stopped → s.disable_help_subcommand ≡ false → IsNoHelp stopped
    → turn_fault s names w word ≡ [] → IsNoHelp (walked_from s.rules names stopped w word).stopped
turn_is s names w word (Some p) is allowed fine none = fine
turn_is s names w word None is allowed fine none =
    word_is s names w word w.is_trailing allowed is (first_none _ _ (still_open w.stopped _ is none))

walk_is : (s : Shape) (names : Names) (words : List Text) (w : Walk) → s.disable_help_subcommand ≡ false → IsNoHelp w.stopped
    → walk_fault s names w words ≡ [] → IsNoHelp (fold (walked s.rules names) w words).stopped
unfolding walked walk_fault
walk_is s names [] w allowed fine none = fine
walk_is s names (word ∷ words) w allowed fine none =
    walk_is s names words (walked s.rules names w word) allowed
    (turn_is s names w word w.stopped refl allowed fine (first_none (turn_fault s names w word) _ none)) (then_none (turn_fault s names w word) _ none)

-- what answers to `help` is named so
answers_help : (word : Text) → bytes_eq word (codes "help") ≡ false → answers_to word (codes "help", []) ≡ true → ⊥
answers_help word other is =
    let same : codes "help" ≡ word = (bytes_eq-Decides (codes "help") word).0 (either_false (bytes_eq (codes "help") word) is) in
    let again : bytes_eq word (codes "help") ≡ true = (bytes_eq-Decides word (codes "help")).1 (sym same) in
    absurd (cc)
  where
    either_false : (b : Bool) → (b || false) ≡ true → b ≡ true
    either_false true e = refl
    either_false false e = absurd (cc)

-- the name is one of these
abbrev IsOneOf : List Text → Text → Type 0
IsOneOf [] name = ⊥
IsOneOf (it ∷ names) name = (name ≡ it) ⊎ IsOneOf names name

-- the name is that of one of the program's commands
abbrev IsNamed : Text → Type 0
IsNamed name = IsOneOf (codes "run" ∷ codes "serve" ∷ codes "inspect" ∷ codes "version" ∷ []) name

-- which of these commands is found, where only `help` stands behind them
found_is : (shapes : List Shape) (help : Shape) (stop : Text × List Text) (rows : Text × List Row)
    → help.name ≡ codes "help" → help.aliases ≡ [] → bytes_eq stop.0 (codes "help") ≡ false
    → option_map (λ s. rows_at s stop.1) (find (λ s. answers_to stop.0 (label_of s)) (shapes ++ help ∷ [])) ≡ Some rows
    → IsOneOf (map (λ s. s.name) shapes) rows.0
found_is [] help stop rows named alone fine is = absurd (last (answers_to stop.0 (label_of help)) refl is)
  where
    last : (t : Bool) → answers_to stop.0 (label_of help) ≡ t → option_map (λ s. rows_at s stop.1) (cond t (Some help) None) ≡ Some rows → ⊥
    last true answers e =
        let label : label_of help ≡ (codes "help", []) = ap₂ (λ name aliases. (name, aliases)) named alone in
        answers_help stop.0 fine (subst (λ l. answers_to stop.0 l ≡ true) label answers)
    last false answers e = absurd (cc)
found_is (shape ∷ shapes) help stop rows named alone fine is =
    elim (answers_to stop.0 (label_of shape)) as (λ t. option_map (λ s. rows_at s stop.1)
    (cond t (Some shape) (find (λ s. answers_to stop.0 (label_of s)) (shapes ++ help ∷ []))) ≡ Some rows
    → IsOneOf (map (λ s. s.name) (shape ∷ shapes)) rows.0) [
      | true ↦ λ e. inl (sym (name_of e))
      | false ↦ λ e. inr (found_is shapes help stop rows named alone fine e)
    ] is
  where
    name_of : Some (rows_at shape stop.1) ≡ Some rows → shape.name ≡ rows.0
    name_of e = let same : rows_at shape stop.1 ≡ rows = cc in ap (λ r. r.0) same

-- which of them is entered
entered_is : (shapes : List Shape) (help : Shape) (stop : Option (Text × List Text)) (rows : Text × List Row)
    → help.name ≡ codes "help" → help.aliases ≡ [] → IsNoHelp stop
    → option_and_then (λ p. option_map (λ s. rows_at s p.1) (find (λ s. answers_to p.0 (label_of s)) (shapes ++ help ∷ []))) stop ≡ Some rows
    → IsOneOf (map (λ s. s.name) shapes) rows.0
entered_is shapes help None rows named alone fine is = absurd (cc)
entered_is shapes help (Some stop) rows named alone fine is = found_is shapes help stop rows named alone fine is

-- the command that is met at a built program, where the code finds no fault in the words
met_is : (words : List Text) (rows : Text × List Row) → errors_in words ≡ [] → subcommand_of program_command words ≡ Some rows → IsNamed rows.0
unfolding errors_in program_command run_command serve_command inspect_command clap_on_literals
met_is words rows none is =
    entered_is (run ∷ serve ∷ inspect ∷ version ∷ []) help _ rows refl refl
    (walk_is (built program_command).top (names_of (built program_command)) (argument_words program_command words)
    (walk_from nothing_held) refl tt (first_none _ _ none)) is
  where
    run : Shape
    run = slice_index_or (built program_command).subs 0 help_shape

    serve : Shape
    serve = slice_index_or (built program_command).subs 1 help_shape

    inspect : Shape
    inspect = slice_index_or (built program_command).subs 2 help_shape

    version : Shape
    version = slice_index_or (built program_command).subs 3 help_shape

    help : Shape
    help = slice_index_or (built program_command).subs 4 help_shape

given_is : (words : List Text) (met : Option (Text × List Row)) (name : Text)
    → subcommand_of program_command words ≡ met → errors_in words ≡ [] → option_map (λ c. c.0) met ≡ Some name
    → IsNamed name
given_is words None name is none named = absurd (cc)
given_is words (Some rows) name is none named =
    let same : rows.0 ≡ name = cc in
    subst IsNamed same (met_is words rows none is)

-- nothing is wrong with the words, so that they name one of the commands
names_a_command : (words : List Text) (name : Text) → errors_in words ≡ [] → command_given words ≡ Some name → IsNamed name
unfolding command_given
names_a_command words name none named = given_is words (subcommand_of program_command words) name refl none named

mapped_twice : {A B C : Type 0} (f : B → C) (g : A → B) (x : Option A) → option_map f (option_map g x) ≡ option_map (λ y. f (g y)) x
mapped_twice f g None = refl
mapped_twice f g (Some y) = refl

is_some-map : {A B : Type 0} (f : A → B) (x : Option A) → is_some x ≡ true → is_some (option_map f x) ≡ true
is_some-map f None some = absurd (cc)
is_some-map f (Some y) some = refl

-- what a parse met is what the words name
pub met_by : (a : App) (words : List Text) (m : ArgMatches) → a ≡ program_command → HasMatchesOf a words m
    → subcommand_rows_of m ≡ subcommand_of program_command words
met_by a words m is has = (has (ap is_simple is ∙ is_simple-program_command)).1 ∙ ap (λ (b : App). subcommand_of b words) is

pub command_given-of : (words : List Text) (m : ArgMatches) (name : Text)
    → subcommand_rows_of m ≡ subcommand_of program_command words → subcommand_name_of m ≡ Some name
    → command_given words ≡ Some name
unfolding command_given
command_given-of words m name met named = ap (option_map (λ p. p.0)) (sym met) ∙ mapped_twice (λ p. p.0) _ (out-ArgMatches m).subcommand ∙ named

read_of : (read : List Row → Option Text) (met : Option (Text × List Row)) (rows : List Row)
    → option_map (λ p. p.1) met ≡ Some rows → option_and_then (λ p. read p.1) met ≡ read rows
read_of read None rows e = absurd (cc)
read_of read (Some p) rows e = let same : p.1 ≡ rows = cc in ap read same

pub text_given-of : (words : List Text) (m : ArgMatches) (f : Found)
    → subcommand_rows_of m ≡ subcommand_of program_command words
    → option_map (λ p. p.1) (subcommand_rows_of m) ≡ Some (rows_of f)
    → (id : Text) → one_text f id ≡ text_given words id
unfolding text_given
text_given-of words m f met rows id = one_text-rows f id ∙ sym (read_of (one_of id) _ (rows_of f) (ap (option_map (λ p. p.1)) (sym met) ∙ rows))

pub word_given-of : (words : List Text) (m : ArgMatches) (f : Found)
    → subcommand_rows_of m ≡ subcommand_of program_command words
    → option_map (λ p. p.1) (subcommand_rows_of m) ≡ Some (rows_of f)
    → (id : Text) → first_value f id ≡ word_given words id
unfolding word_given
word_given-of words m f met rows id = first_value-rows f id ∙ sym (read_of (first_of id) _ (rows_of f) (ap (option_map (λ p. p.1)) (sym met) ∙ rows))

pub members_same : (number other weights another : Option (List ℕ)) (members : Option (List ℕ)) → number ≡ other
    → weights ≡ another → AreMembersOf number weights members → AreMembersOf other another members
members_same number other weights another members n w is =
    subst (λ (v : Option (List ℕ)). AreMembersOf other v members) w
    (subst (λ (m : Option (List ℕ)). AreMembersOf m weights members) n is)

-- the options by one reading of the words are those by another that gives the same
pub server_same : (text other word another : List ℕ → Option (List ℕ)) → ((id : List ℕ) → text id ≡ other id) → ((id : List ℕ) → word id ≡ another id)
    → (options : ServerOptions) → IsServerOf text word options → IsServerOf other another options
server_same text other word another texts words options is = record {
  host = subst (λ w. IsHostOf w (Some options.host)) (words (codes "host")) is.host;
  port = subst (λ t. IsNumberOr 11300 1 65535 t options.port) (texts (codes "port")) is.port;
  members = members_same (text (codes "nodes")) (other (codes "nodes")) (word (codes "weights"))
      (another (codes "weights")) (Some options.members) (texts (codes "nodes")) (words (codes "weights")) is.members;
  workers = subst (λ t. IsNumberOr 4 1 64 t options.workers) (texts (codes "workers")) is.workers;
  some_workers = is.some_workers;
  few_workers = is.few_workers;
  sessions = subst (λ t. IsNumberIfGiven 1 1000000 t options.sessions) (texts (codes "sessions")) is.sessions;
  dump = is.dump ∙ words (codes "dump");
  log = is.log ∙ words (codes "log");
  sync = subst (λ t. IsNumberOr 0 0 3600000 t options.sync) (texts (codes "sync")) is.sync;
  profile = is.profile ∙ ap profile_by (texts (codes "stats"));
}

-- a parse met one of the commands
pub meets_one : (words : List Text) (m : ArgMatches) → errors_in words ≡ []
    → subcommand_rows_of m ≡ subcommand_of program_command words → has_subcommand m ≡ true
    → (subcommand_name_of m ≡ Some (codes "run") → ⊥) → (subcommand_name_of m ≡ Some (codes "serve") → ⊥)
    → (subcommand_name_of m ≡ Some (codes "inspect") → ⊥) → (subcommand_name_of m ≡ Some (codes "version") → ⊥) → ⊥
meets_one words m none met some no_run no_serve no_inspect no_version = go (subcommand_name_of m) refl (is_some-map _ (out-ArgMatches m).subcommand some)
  where
    go : (name : Option Text) → subcommand_name_of m ≡ name → is_some name ≡ true → ⊥
    go None e is = absurd (cc)
    go (Some name) e is = elim (names_a_command words name none (command_given-of words m name met e)) as (λ v. ⊥) [
      | inl n ↦ no_run (e ∙ ap (λ x. Some x) n)
      | inr (inl n) ↦ no_serve (e ∙ ap (λ x. Some x) n)
      | inr (inr (inl n)) ↦ no_inspect (e ∙ ap (λ x. Some x) n)
      | inr (inr (inr (inl n))) ↦ no_version (e ∙ ap (λ x. Some x) n)
      | inr (inr (inr (inr never))) ↦ never
    ]

-- a run by one reading of the words is one by another that gives the same
pub run_same : (text other word another : List ℕ → Option (List ℕ)) → ((id : List ℕ) → text id ≡ other id) → ((id : List ℕ) → word id ≡ another id)
    → (asked : Action) → IsRunOf text word asked → IsRunOf other another asked
run_same text other word another texts words (Run options) is = (
  members_same _ _ _ _ (Some options.members) (texts (codes "nodes")) (words (codes "weights")) is.0,
  subst (λ t. IsNumberOr 0 0 (2 ^ 64 - 1) t options.seed) (texts (codes "seed")) is.1,
  is.2 ∙ ap profile_by (texts (codes "stats")),
)
run_same text other word another texts words BadWeights is = members_same _ _ _ _ None (texts (codes "nodes")) (words (codes "weights")) is
run_same text other word another texts words BadHost is = absurd is
run_same text other word another texts words (Serve options) is = absurd is
run_same text other word another texts words (Inspect file) is = absurd is
run_same text other word another texts words (Help told) is = absurd is
run_same text other word another texts words Version is = absurd is
run_same text other word another texts words (Wrong told) is = absurd is

-- and so is a server
pub serve_same : (text other word another : List ℕ → Option (List ℕ)) → ((id : List ℕ) → text id ≡ other id) → ((id : List ℕ) → word id ≡ another id)
    → (asked : Action) → IsServeOf text word asked → IsServeOf other another asked
serve_same text other word another texts words (Serve options) is = server_same text other word another texts words options is
serve_same text other word another texts words BadWeights is = members_same _ _ _ _ None (texts (codes "nodes")) (words (codes "weights")) is
serve_same text other word another texts words BadHost is = subst (λ w. IsHostOf w None) (words (codes "host")) is
serve_same text other word another texts words (Run options) is = absurd is
serve_same text other word another texts words (Inspect file) is = absurd is
serve_same text other word another texts words (Help told) is = absurd is
serve_same text other word another texts words Version is = absurd is
serve_same text other word another texts words (Wrong told) is = absurd is

-- what a run is asked of words that name it
pub run_asked : (words : List Text) → AskForRun words → (asked : Action) → IsRunOf (text_given words) (word_given words) asked → IsAskedBy words asked
run_asked words run (Run options) is = (run, is)
run_asked words run BadWeights is = (run.0, is)
run_asked words run BadHost is = absurd is
run_asked words run (Serve options) is = absurd is
run_asked words run (Inspect file) is = absurd is
run_asked words run (Help told) is = absurd is
run_asked words run Version is = absurd is
run_asked words run (Wrong told) is = absurd is

-- what a server is asked of words that name it
pub serve_asked : (words : List Text) → AskFor (codes "serve") words → (asked : Action)
    → IsServeOf (text_given words) (word_given words) asked → IsAskedBy words asked
serve_asked words serve (Serve options) is = (serve, is)
serve_asked words serve BadWeights is = (serve.0, is)
serve_asked words serve BadHost is = (serve, is)
serve_asked words serve (Run options) is = absurd is
serve_asked words serve (Inspect file) is = absurd is
serve_asked words serve (Help told) is = absurd is
serve_asked words serve Version is = absurd is
serve_asked words serve (Wrong told) is = absurd is
