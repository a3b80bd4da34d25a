-- Logs that grow by a line.
use Rattle.std.proofs.Common.{◌≡◌, ℕ, suc, ◌+◌, ◌-◌, ◌<◌, ◌≤◌, ◌^◌, min, List, [], ◌∷◌, ◌++◌, length, refl, sym, ap, ◌∙◌, arith}
use Rattle.std.proofs.Common.{append-nil, append_assoc, length-append}
use Rattle.std.specs.List.{AllByRecursion}
use Rattle.object.specs.declared.command.Command.{Command}
use Rattle.ballot.specs.Members.{IsMembers}
use Rattle.bean_words.specs.declared.op.Op.{Op}
use Rattle.command_log.specs.declared.chain.Chain.{Chain}
use Rattle.command_log.specs.declared.version.LogVersion.{LogVersion}
use Rattle.command_log.specs.declared.whole.Whole.{Whole}
use Rattle.command_log.specs.Lines.{IsLogLine, IsLogged}
use Rattle.command_log.specs.Reading.{IsLog}
use Rattle.command_log.specs.Text.{head_line, line_of_command, chain_behind, first_chain, lines_from, chain_after, log_text, log_chain}
use Rattle.command_log.proofs.Spelled.{head_is_line, line_long}

pub log_first : (version : LogVersion) (weights : List ℕ) → log_text version weights [] ≡ head_line version weights
unfolding log_text
log_first version weights = append-nil (head_line version weights)

pub chain_first : (version : LogVersion) (weights : List ℕ) → log_chain version weights [] ≡ first_chain version weights
unfolding log_chain
chain_first version weights = refl

lines_last : (chain : Chain) (commands : List (Command Op)) (c : Command Op)
    → lines_from chain (commands ++ (c ∷ [])) ≡ lines_from chain commands ++ line_of_command (chain_after chain commands) c
lines_last chain [] c = append-nil (line_of_command chain c)
lines_last chain (d ∷ commands) c =
    let next = chain_behind chain d in
    ap (λ t. line_of_command chain d ++ t) (lines_last next commands c)
    ∙ sym (append_assoc (line_of_command chain d) (lines_from next commands) (line_of_command (chain_after next commands) c))

chains_last : (chain : Chain) (commands : List (Command Op)) (c : Command Op)
    → chain_after chain (commands ++ (c ∷ [])) ≡ chain_behind (chain_after chain commands) c
chains_last chain [] c = refl
chains_last chain (d ∷ commands) c = chains_last (chain_behind chain d) commands c

pub log_last : (version : LogVersion) (weights : List ℕ) (commands : List (Command Op)) (c : Command Op)
    → log_text version weights (commands ++ (c ∷ [])) ≡ log_text version weights commands ++ line_of_command (log_chain version weights commands) c
unfolding log_text log_chain
log_last version weights commands c =
    let chain = first_chain version weights in
    ap (λ t. head_line version weights ++ t) (lines_last chain commands c)
    ∙ sym (append_assoc (head_line version weights) (lines_from chain commands) (line_of_command (chain_after chain commands) c))

pub chain_last : (version : LogVersion) (weights : List ℕ) (commands : List (Command Op)) (c : Command Op)
    → log_chain version weights (commands ++ (c ∷ [])) ≡ chain_behind (log_chain version weights commands) c
unfolding log_chain
chain_last version weights commands c = chains_last (first_chain version weights) commands c

pub all_last : {X : Type 0} (P : X → Type 0) (xs : List X) (x : X) → AllByRecursion P xs → P x → AllByRecursion P (xs ++ (x ∷ []))
all_last P [] x h p = (p, tt)
all_last P (y ∷ xs) x h p = (h.0, all_last P xs x h.1 p)

-- a log has no more lines than bytes

command_long : (chain : Chain) (c : Command Op) → 1 ≤ length (line_of_command chain c)
command_long chain c = omega (arith, line_long chain c)

one_byte : (line : List ℕ) → IsLogLine line → 1 ≤ length line
one_byte line is = omega (arith, ap length is.is, length-append is.said (10 ∷ []))

commands_long : (chain : Chain) (commands : List (Command Op)) → length commands ≤ length (lines_from chain commands)
commands_long chain [] = omega arith
commands_long chain (c ∷ commands) =
    let next = chain_behind chain c in
    omega (arith, command_long chain c, commands_long next commands, length-append (line_of_command chain c) (lines_from next commands))

pub log_long : (version : LogVersion) (weights : List ℕ) (commands : List (Command Op)) → IsMembers weights
    → suc (length commands) ≤ length (log_text version weights commands)
unfolding log_text
log_long version weights commands h =
    let chain = first_chain version weights in
    omega (
      arith,
      one_byte (head_line version weights) (head_is_line version weights h),
      commands_long chain commands,
      length-append (head_line version weights)
          (lines_from chain commands),
    )

-- ---- its size

pub first_log : (version : LogVersion) (weights line : List ℕ) (chain : Chain) → IsMembers weights → head_line version weights ≡ line
    → chain ≡ first_chain version weights
    → IsLog (record { version = version; members = weights; chain = chain; lines = 1; bytes = length line }) []
first_log version weights line chain h same is = record {
  members = h;
  logged = tt;
  chain = is ∙ sym (chain_first version weights);
  lines = refl;
  bytes = ap length (sym same ∙ sym (log_first version weights));
}

-- the log with a line more
abbrev pub longer : Whole → Chain → ℕ → Whole
longer whole next n = record {
  version = whole.version;
  members = whole.members;
  chain = next;
  lines = min (whole.lines + 1) (2 ^ 64 - 1);
  bytes = min (whole.bytes + n) (2 ^ 64 - 1);
}

pub next_log : (whole : Whole) (commands : List (Command Op)) (c : Command Op) (next : Chain) (n : ℕ) → IsLog whole commands → IsLogged c
    → next ≡ chain_behind whole.chain c → length (line_of_command whole.chain c) ≡ n
    → length (log_text whole.version whole.members commands ++ line_of_command whole.chain c) < 2 ^ 64
    → IsLog (longer whole next n) (commands ++ (c ∷ []))
next_log whole commands c next n log logged is long fits =
    let text = log_text whole.version whole.members commands in
    let here = log_chain whole.version whole.members commands in
    let bytes = log.bytes in
    let lines = log.lines in
    let chain = log.chain in
    let sum = length-append text (line_of_command whole.chain c) in
    let few = log_long whole.version whole.members commands log.members in
    let grown : length (log_text whole.version whole.members (commands ++ (c ∷ []))) ≡ length (text ++ line_of_command whole.chain c) =
    ap length (log_last whole.version whole.members commands c ∙ ap (λ k. text ++ line_of_command k c) (sym chain)) in
    record {
      members = log.members;
      logged = all_last IsLogged commands c log.logged logged;
      chain = is ∙ ap (λ k. chain_behind k c) chain ∙ sym (chain_last whole.version whole.members commands c);
      lines = omega (arith, lines, few, sum, fits, command_long whole.chain c, length-append commands (c ∷ []));
      bytes = omega (arith, bytes, long, sum, fits, grown);
    }
