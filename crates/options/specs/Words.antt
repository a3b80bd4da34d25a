-- What the words of a command line ask for.
use Rattle.std.specs.Prelude.{◌≡◌, ◌≢◌, ◌⊎◌, ◌≤◌, ◌^◌, ◌-◌, ℕ, pos, Bool, true, false, not, ◌&&◌, List, [], ◌∷◌, Option, None}
use Rattle.std.specs.Prelude.{Some, if◌then◌else◌, codes, option_map, option_and_then, string_bytes, unwrap_or, is_some}
use Rattle.clap.specs.Words.{App, Rule, IsAmong, Kinds, fault_of, first_of, new_app, new_rule, one_of, rule_of, subcommand_of, with_rule, with_subcommand}
use Rattle.clap.specs.declared.builder.action.ArgAction.TheVariants.{SetTrue}
use Rattle.clap.specs.declared.builder.arg.Arg.{Arg}
use Rattle.clap.specs.declared.builder.value_parser.ValueParser.TheVariants as parser
use Rattle.clap.specs.declared.error.kind.ErrorKind.{ErrorKind}
use Rattle.clap.specs.declared.error.kind.ErrorKind.TheVariants.{DisplayHelp, DisplayVersion}
use Rattle.std.specs.Str.{bytes_eq}
use Rattle.bean_codec.specs.declared.profile.Profile.{Profile}
use Rattle.bean_codec.specs.declared.profile.Profile.TheVariants.{Plain, Extended}
use Rattle.options.specs.declared.words.Action.{Action}
use Rattle.options.specs.declared.words.Action.TheVariants.{Run, Serve, Inspect, BadWeights, BadHost, Help, Version, Wrong}
use Rattle.options.specs.declared.words.ServerOptions.{ServerOptions}
use Rattle.options.specs.Hosts.{IsHostOf, IsLoopback}
use Rattle.options.specs.Numbers.{IsNumberOr, IsNumberIfGiven}
use Rattle.options.specs.Weights.{AreMembersOf}

-- the argument follows this rule, for its command alone
pub record IsArgument (wanted : Rule) (argument : Arg) : Type 0 where
  pub rule : rule_of argument ≡ wanted
  pub local : argument.global ≡ false

-- `--nodes N`, where N is 1 to 7
abbrev pub nodes_option : Rule
nodes_option = record (new_rule (codes "nodes")) { long = Some (codes "nodes"); value_names = 1; parser = Some (parser.Signed (pos 1) (pos 7)) }

-- `--weights W,W,..`, which are read by themselves
abbrev pub weights_option : Rule
weights_option = record (new_rule (codes "weights")) { long = Some (codes "weights"); value_names = 1 }

-- `--seed S`, where S is any number of 64 bits
abbrev pub seed_option : Rule
seed_option = record (new_rule (codes "seed")) { long = Some (codes "seed"); value_names = 1; parser = Some (parser.Unsigned 0 18446744073709551615) }

-- `--host ADDR`, which is read by itself
abbrev pub host_option : Rule
host_option = record (new_rule (codes "host")) { long = Some (codes "host"); value_names = 1 }

-- `--port P`, where P is 1 to 65535
abbrev pub port_option : Rule
port_option = record (new_rule (codes "port")) { long = Some (codes "port"); value_names = 1; parser = Some (parser.Signed (pos 1) (pos 65535)) }

-- `--workers K`, where K is 1 to 64
abbrev pub workers_option : Rule
workers_option = record (new_rule (codes "workers")) { long = Some (codes "workers"); value_names = 1; parser = Some (parser.Signed (pos 1) (pos 64)) }

-- `--sessions M`, where M is 1 to 1000000
abbrev pub sessions_option : Rule
sessions_option = record (new_rule (codes "sessions")) { long = Some (codes "sessions"); value_names = 1; parser = Some (parser.Signed (pos 1) (pos 1000000)) }

-- `--dump FILE`
abbrev pub dump_option : Rule
dump_option = record (new_rule (codes "dump")) { long = Some (codes "dump"); value_names = 1 }

-- `--log FILE`
abbrev pub log_option : Rule
log_option = record (new_rule (codes "log")) { long = Some (codes "log"); value_names = 1 }

-- `--sync MS`, where MS is 0 to 3600000
abbrev pub sync_option : Rule
sync_option = record (new_rule (codes "sync")) { long = Some (codes "sync"); value_names = 1; parser = Some (parser.Signed (pos 0) (pos 3600000)) }

-- `--stats`, which stands alone
abbrev pub stats_option : Rule
stats_option = record (new_rule (codes "stats")) { long = Some (codes "stats"); action = Some SetTrue }

-- `FILE`, which has to be given
abbrev pub file_argument : Rule
file_argument = record (new_rule (codes "file")) { value_names = 1; required = true }

-- `run` with its options
unfoldable pub run_command : App
run_command = with_rule (with_rule (with_rule (with_rule (new_app (codes "run")) nodes_option) weights_option) seed_option) stats_option

-- `serve` with its options
unfoldable pub serve_command : App
serve_command =
    let address = with_rule (with_rule (new_app (codes "serve")) host_option) port_option in
    let nodes = with_rule (with_rule address nodes_option) weights_option in
    let served = with_rule (with_rule nodes workers_option) sessions_option in
    with_rule (with_rule (with_rule (with_rule served dump_option) log_option) sync_option) stats_option

-- `inspect` with its file
unfoldable pub inspect_command : App
inspect_command = with_rule (new_app (codes "inspect")) file_argument

-- `version` alone
abbrev pub version_command : App
version_command = new_app (codes "version")

-- the program's name, and then one of its commands, or `--version`
unfoldable pub program_command : App
program_command =
    let named = new_app (codes "beanpax") in
    let required = record named { top = record named.top { has_version = true; subcommand_required = true } } in
    let working = with_subcommand (with_subcommand required run_command.top) serve_command.top in
    with_subcommand (with_subcommand working inspect_command.top) version_command.top

-- which errors clap finds in the words
unfoldable pub errors_in : List (List ℕ) → Kinds
errors_in words = fault_of program_command words

-- the command that the words name
unfoldable pub command_given : List (List ℕ) → Option (List ℕ)
command_given words = option_map (λ command. command.0) (subcommand_of program_command words)

-- the text that the words give an option of that command, where a number is read from it
unfoldable pub text_given : List (List ℕ) → List ℕ → Option (List ℕ)
text_given words option = option_and_then (λ command. one_of option command.1) (subcommand_of program_command words)

-- and where it is taken as it stands
unfoldable pub word_given : List (List ℕ) → List ℕ → Option (List ℕ)
word_given words option = option_and_then (λ command. first_of option command.1) (subcommand_of program_command words)

-- the profile, by what is read of `--stats`: `true` where that is given
abbrev pub profile_by : Option (List ℕ) → Profile
profile_by None = Plain
profile_by (Some text) = if bytes_eq text (codes "true") then Extended else Plain

-- the profile that the words ask for
abbrev pub profile_asked : List (List ℕ) → Profile
profile_asked words = profile_by (text_given words (codes "stats"))

-- what a server is to do, by the texts of its options: those from which numbers are read, and those that are taken as they stand
pub record IsServerOf (text word : List ℕ → Option (List ℕ)) (options : ServerOptions) : Type 0 where
  pub host : IsHostOf (word (codes "host")) (Some options.host)
  pub port : IsNumberOr 11300 1 65535 (text (codes "port")) options.port
  pub members : AreMembersOf (text (codes "nodes")) (word (codes "weights")) (Some options.members)
  pub workers : IsNumberOr 4 1 64 (text (codes "workers")) options.workers
  pub some_workers : 1 ≤ options.workers
  pub few_workers : options.workers ≤ 64
  pub sessions : IsNumberIfGiven 1 1000000 (text (codes "sessions")) options.sessions
  pub dump : option_map (λ file. file.now) options.dump ≡ word (codes "dump")
  pub log : option_map (λ file. file.now) options.log ≡ word (codes "log")
  pub sync : IsNumberOr 0 0 3600000 (text (codes "sync")) options.sync
  pub profile : options.profile ≡ profile_by (text (codes "stats"))

-- a run, by the texts of its options, unless the weights are bad
abbrev pub IsRunOf : (List ℕ → Option (List ℕ)) → (List ℕ → Option (List ℕ)) → Action → Type 0
IsRunOf text word (Run options) =
    AreMembersOf (text (codes "nodes")) (word (codes "weights")) (Some options.members)
    × IsNumberOr 0 0 (2 ^ 64 - 1) (text (codes "seed")) options.seed × (options.profile ≡ profile_by (text (codes "stats")))
IsRunOf text word BadWeights = AreMembersOf (text (codes "nodes")) (word (codes "weights")) None
IsRunOf text word _ = ⊥

-- a server, by the texts of its options, unless the weights or the address are bad
abbrev pub IsServeOf : (List ℕ → Option (List ℕ)) → (List ℕ → Option (List ℕ)) → Action → Type 0
IsServeOf text word (Serve options) = IsServerOf text word options
IsServeOf text word BadWeights = AreMembersOf (text (codes "nodes")) (word (codes "weights")) None
IsServeOf text word BadHost = IsHostOf (word (codes "host")) None
IsServeOf text word _ = ⊥

-- nothing is wrong with the words, and they name this command
abbrev pub AskFor : List ℕ → List (List ℕ) → Type 0
AskFor command words = (errors_in words ≡ []) × (command_given words ≡ Some command)

-- they ask for a run
abbrev pub AskForRun : List (List ℕ) → Type 0
AskForRun words = AskFor (codes "run") words

-- they ask for a server with these options
abbrev pub AskForServer : List (List ℕ) → ServerOptions → Type 0
AskForServer words options = AskFor (codes "serve") words × IsServerOf (text_given words) (word_given words) options

-- they ask for a server that writes a dump
abbrev pub AskForDump : List (List ℕ) → Type 0
AskForDump words = (options : ServerOptions) × AskForServer words options × (options.dump ≢ None)

-- they ask for a server that keeps a log
abbrev pub AskForLog : List (List ℕ) → Type 0
AskForLog words = (options : ServerOptions) × AskForServer words options × (options.log ≢ None)

-- the server is to write a dump at its end, and has none
abbrev pub has_unwritten_dump : ServerOptions → Bool
has_unwritten_dump options = is_some options.dump && not (is_some options.sessions)

-- they ask for a server whose dump is never written
abbrev pub AskForUnwrittenDump : List (List ℕ) → Type 0
AskForUnwrittenDump words = (options : ServerOptions) × AskForServer words options × (has_unwritten_dump options ≡ true)

-- they ask for a server at which clients of other machines come in
abbrev pub AskForOpenServer : List (List ℕ) → Type 0
AskForOpenServer words = (options : ServerOptions) × AskForServer words options × (IsLoopback options.host → ⊥)

-- they ask for an inspection of this file; clap finds a fault where they name none
abbrev pub AskForInspection : List (List ℕ) → List ℕ → Type 0
AskForInspection words file = AskFor (codes "inspect") words × (file ≡ unwrap_or (word_given words (codes "file")) [])

-- the words call for help
abbrev pub AskForHelp : List (List ℕ) → Type 0
AskForHelp words = IsAmong DisplayHelp (errors_in words)

-- the words call for the version: by `--version` or `-V`, or by the command `version`
abbrev pub AskForVersion : List (List ℕ) → Type 0
AskForVersion words = IsAmong DisplayVersion (errors_in words) ⊎ AskFor (codes "version") words

-- behind the program's name stands `--version` or `-V`, or `version` alone
abbrev pub NameVersion : List (List ℕ) → Type 0
NameVersion [] = ⊥
NameVersion (program ∷ []) = ⊥
NameVersion (program ∷ first ∷ rest) =
    (first ≡ codes "--version") ⊎ (first ≡ codes "-V") ⊎ ((first ≡ codes "version") × (rest ≡ []))

-- something is wrong with the words
abbrev pub AreWrong : List (List ℕ) → Type 0
AreWrong words = (kind : ErrorKind) × (kind ≢ DisplayHelp) × (kind ≢ DisplayVersion) × IsAmong kind (errors_in words)

-- nothing is wrong with the words but the weights, which are outside their rule or stand beside a number of nodes
abbrev pub HaveBadWeights : List (List ℕ) → Type 0
HaveBadWeights words = (errors_in words ≡ []) × AreMembersOf (text_given words (codes "nodes")) (word_given words (codes "weights")) None

-- they ask for a server, and nothing is wrong with them but that what they name as its address is none
abbrev pub HaveBadHost : List (List ℕ) → Type 0
HaveBadHost words = AskFor (codes "serve") words × IsHostOf (word_given words (codes "host")) None

-- this is what the words ask for; the help, and what is wrong with them, is some text
abbrev pub IsAskedBy : List (List ℕ) → Action → Type 0
IsAskedBy words (Run options) = AskForRun words × IsRunOf (text_given words) (word_given words) (Run options)
IsAskedBy words (Serve options) = AskForServer words options
IsAskedBy words (Inspect file) = AskForInspection words file.now
IsAskedBy words BadWeights = HaveBadWeights words
IsAskedBy words BadHost = HaveBadHost words
IsAskedBy words (Help text) = AskForHelp words × (string_bytes text ≢ [])
IsAskedBy words Version = AskForVersion words
IsAskedBy words (Wrong text) = AreWrong words × (string_bytes text ≢ [])
