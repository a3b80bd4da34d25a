-- The text of a log: a head with the members' weights, and then a line for each command, in their order. In version 2 each of
-- these tells the sum of the line before it.
use Rattle.std.specs.Prelude.{ℕ, List, [], ◌∷◌, ◌++◌, map, take, codes, decimal}
use Rattle.hex.specs.Hex.{encode_lower}
use Rattle.sha1.specs.Sha1.{sha1}
use Rattle.object.specs.declared.command.Command.{Command}
use Rattle.bean_words.specs.declared.op.Op.{Op}
use Rattle.chronicle_text.specs.Acts.{act_words}
use Rattle.chronicle_text.specs.Lines.{after_space, spaced, line}
use Rattle.command_log.specs.declared.chain.Chain.{Chain}
use Rattle.command_log.specs.declared.chain.Chain.TheVariants.{Unchained, After}
use Rattle.command_log.specs.declared.version.LogVersion.{LogVersion}
use Rattle.command_log.specs.declared.version.LogVersion.TheVariants.{One, Two}

-- what each head of a version begins with
abbrev pub log_name : LogVersion → List ℕ
log_name One = codes "beanpax-log 1"
log_name Two = codes "beanpax-log 2"

-- the head: what each member weighs
unfoldable pub head_line : LogVersion → List ℕ → List ℕ
head_line version weights = line (log_name version) (map decimal weights)

-- the words for a command, which are those of its S line in a dump: its key, and its act
unfoldable pub command_words : Command Op → List ℕ
command_words c = decimal c.key.session ++ spaced (decimal c.key.number ∷ act_words c.act)

-- the sum of words: the first 32 bits of their SHA-1 digest, in eight hex digits
unfoldable pub sum_word : List ℕ → List ℕ
sum_word words = encode_lower (take 4 (sha1 words))

-- what stands behind words that have their sum
unfoldable pub sum_end : List ℕ → List ℕ
sum_end words = after_space (sum_word words) ++ codes "\n"

-- words with their sum, as a line
abbrev pub summed : List ℕ → List ℕ
summed words = words ++ sum_end words

-- what a line says of the line before it: nothing, or that line's sum
abbrev pub chain_words : Chain → List ℕ
chain_words Unchained = []
chain_words (After sum) = after_space sum

-- the words of a command's line
abbrev pub chained_words : Chain → Command Op → List ℕ
chained_words chain c = command_words c ++ chain_words chain

-- the line for a command
abbrev pub line_of_command : Chain → Command Op → List ℕ
line_of_command chain c = summed (chained_words chain c)

-- how the line behind one with this sum is chained
abbrev pub next_chain : Chain → List ℕ → Chain
next_chain Unchained sum = Unchained
next_chain (After before) sum = After sum

-- how the line behind that of a command is chained
abbrev pub chain_behind : Chain → Command Op → Chain
chain_behind chain c = next_chain chain (sum_word (chained_words chain c))

-- how the line behind this head is chained: in version 2 by the sum of all its bytes
abbrev pub head_chain : LogVersion → List ℕ → Chain
head_chain One head = Unchained
head_chain Two head = After (sum_word head)

-- how the first command's line is chained
abbrev pub first_chain : LogVersion → List ℕ → Chain
first_chain version weights = head_chain version (head_line version weights)

-- the lines for commands, the first of them chained so
abbrev pub lines_from : Chain → List (Command Op) → List ℕ
lines_from chain [] = []
lines_from chain (c ∷ commands) = line_of_command chain c ++ lines_from (chain_behind chain c) commands

-- how the line behind them is chained
abbrev pub chain_after : Chain → List (Command Op) → Chain
chain_after chain [] = chain
chain_after chain (c ∷ commands) = chain_after (chain_behind chain c) commands

-- the text of a log
unfoldable pub log_text : LogVersion → List ℕ → List (Command Op) → List ℕ
log_text version weights commands = head_line version weights ++ lines_from (first_chain version weights) commands

-- how the next line of a log is chained
unfoldable pub log_chain : LogVersion → List ℕ → List (Command Op) → Chain
log_chain version weights commands = chain_after (first_chain version weights) commands
