-- Heads and commands, by the lines that a dump has for them.
use Rattle.std.proofs.Common.{◌≡◌, ℕ, ◌+◌, ◌*◌, ◌≤◌, true, List, [], ◌∷◌, ◌++◌, map, length, Option, Some, None, codes, decimal}
use Rattle.std.proofs.Common.{refl, sym, ap, subst, ◌∙◌, arith, append_assoc, length-append}
use Rattle.std.proofs.lemmas.Bool.{and_parts, leb-true}
use Rattle.std.proofs.lemmas.Fmt.{length-decimal-le}
use Rattle.std.proofs.lemmas.List.{append_cancel_left, append_cancel_right}
use Rattle.std.specs.List.{list_all}
use Rattle.std.specs.Prelude.{nat_le}
use Rattle.object.specs.declared.command.Command.{Command}
use Rattle.ballot.specs.Members.{IsMembers, is_weight}
use Rattle.bean_words.specs.declared.op.Op.{Op}
use Rattle.chronicle_text.specs.declared.entry.Entry.{Entry}
use Rattle.chronicle_text.specs.declared.entry.Entry.TheVariants as entry
use Rattle.chronicle_text.specs.Dump.{submission_line, weights_line}
use Rattle.chronicle_text.specs.Entries.{entry_line, IsEntryValue, Says}
use Rattle.chronicle_text.specs.Lines.{NoFeed, after_space, line, spaced}
use Rattle.chronicle_text.specs.Values.{IsCommandValue}
use Rattle.chronicle_text.proofs.spelling.Back.{hex_plain}
use Rattle.chronicle_text.proofs.spelling.EntryLines.{feeds, one_front, plain_no_feed, said_no_feed, spaced_no_feed}
use Rattle.chronicle_text.proofs.spelling.Heads.{weights_plain}
use Rattle.chronicle_text.proofs.spelling.Words.{by_test}
use Rattle.command_log.specs.declared.chain.Chain.{Chain}
use Rattle.command_log.specs.declared.line.TheConstants.{MAX_LINE}
use Rattle.command_log.specs.declared.version.LogVersion.{LogVersion}
use Rattle.command_log.specs.declared.version.LogVersion.TheVariants.{One, Two}
use Rattle.command_log.specs.Lines.{HeadsIn, IsChain, IsLogLine, IsLogged, TellsCommand}
use Rattle.command_log.specs.Spelling.{told_command, told_head}
use Rattle.command_log.specs.Text.{log_name, head_line, command_words, sum_word, sum_end, summed, chain_words, chained_words, line_of_command}
use Rattle.command_log.proofs.Chains.{chain_no_feed, chain_short, one_chained}
use Rattle.command_log.proofs.Sums.{one_summed, sum_end_long}

-- ---- as lines of a dump

-- what stands behind the name in a head, and in a line of weights
abbrev pub weight_words : List ℕ → List ℕ
weight_words weights = spaced (map decimal weights) ++ codes "\n"

pub head_is : (version : LogVersion) (weights : List ℕ) → head_line version weights ≡ log_name version ++ weight_words weights
unfolding head_line line
head_is version weights = append_assoc (log_name version) (spaced (map decimal weights)) (codes "\n")

weights_are : (weights : List ℕ) → weights_line weights ≡ codes "weights" ++ weight_words weights
unfolding weights_line line
weights_are weights = refl

command_is : (c : Command Op) → submission_line c ≡ codes "S " ++ (command_words c ++ codes "\n")
unfolding submission_line line command_words
command_is c = refl

-- two entries of one line are one
same_entry : (e f : Entry) → IsEntryValue e → IsEntryValue f → entry_line e ≡ entry_line f → e ≡ f
same_entry e f h k same = (one_front e f [] [] h k (ap (λ t. t ++ []) same)).0

pub one_command : (c d : Command Op) → IsCommandValue c → IsCommandValue d → command_words c ≡ command_words d → c ≡ d
one_command c d h k same =
    let entries = same_entry (entry.Submitted c) (entry.Submitted d) h k
    (command_is c ∙ ap (λ t. codes "S " ++ (t ++ codes "\n")) same ∙ sym (command_is d)) in
    cc

one_weights : (v w : List ℕ) → IsMembers v → IsMembers w → weight_words v ≡ weight_words w → v ≡ w
one_weights v w h k words =
    let entries = same_entry (entry.Weights v) (entry.Weights w) h k
    (weights_are v ∙ ap (λ t. codes "weights" ++ t) words ∙ sym (weights_are w)) in
    cc

abbrev first_byte : List ℕ → ℕ
first_byte [] = 0
first_byte (b ∷ text) = b

-- the version is told by the last byte of the name
two_names : (x y : List ℕ) → log_name One ++ x ≡ log_name Two ++ y → ⊥
two_names x y same =
    let last : 49 ≡ 50 = ap first_byte (append_cancel_left (codes "beanpax-log ") (49 ∷ x) (50 ∷ y) same) in
    absurd (omega (arith, last))

-- two heads in front of equal texts are of one version
pub one_version : (a b : LogVersion) (x y : List ℕ) → log_name a ++ x ≡ log_name b ++ y → a ≡ b
one_version One One x y same = refl
one_version One Two x y same = absurd (two_names x y same)
one_version Two One x y same = absurd (two_names y x (sym same))
one_version Two Two x y same = refl

pub one_head : (a b : LogVersion) (v w : List ℕ) → IsMembers v → IsMembers w → head_line a v ≡ head_line b w → (a ≡ b) × (v ≡ w)
one_head a b v w h k same =
    let text = sym (head_is a v) ∙ same ∙ head_is b w in
    let version = one_version a b (weight_words v) (weight_words w) text in
    let words = append_cancel_left (log_name b) (weight_words v) (weight_words w)
    (ap (λ n. log_name n ++ weight_words v) (sym version) ∙ text) in
    (version, one_weights v w h k words)

-- ---- where they end

words_no_feed : (c : Command Op) → IsCommandValue c → NoFeed (command_words c)
unfolding command_words
words_no_feed c h = (said_no_feed (entry.Submitted c) h).1.1

summed_is_line : (words : List ℕ) → NoFeed words → IsLogLine (summed words)
unfolding sum_end sum_word
summed_is_line words h = record {
  said = words ++ after_space (sum_word words);
  no_feed = feeds words (after_space (sum_word words)) h ((λ same. omega arith), plain_no_feed _ (hex_plain _));
  is = sym (append_assoc words (after_space (sum_word words)) (codes "\n"));
}

pub command_is_line : (version : LogVersion) (chain : Chain) (c : Command Op) → IsChain version chain → IsCommandValue c
    → IsLogLine (line_of_command chain c)
command_is_line version chain c h k =
    summed_is_line (chained_words chain c) (feeds (command_words c) (chain_words chain) (words_no_feed c k) (chain_no_feed version chain h))

-- two lines of one version are one only where they are chained to one line, and have one command
pub one_line : (version : LogVersion) (a b : Chain) (c d : Command Op) → IsChain version a → IsChain version b
    → IsLogged c → IsLogged d → line_of_command a c ≡ line_of_command b d → (a ≡ b) × (c ≡ d)
one_line version a b c d h k l m same =
    let both = one_chained version (command_words c) (command_words d) a b h k
    (one_summed (chained_words a c) (chained_words b d) same) in
    (both.1, one_command c d l.value m.value both.0)

pub line_long : (chain : Chain) (c : Command Op)
    → length (line_of_command chain c) ≡ length (command_words c) + length (chain_words chain) + 10
line_long chain c = omega (
  arith,
  length-append (chained_words chain c) (sum_end (chained_words chain c)),
  length-append (command_words c) (chain_words chain),
  sum_end_long (chained_words chain c),
)

pub line_short : (version : LogVersion) (chain : Chain) (c : Command Op) → IsChain version chain → IsLogged c
    → length (line_of_command chain c) ≤ MAX_LINE
line_short version chain c h k = let short = k.short in omega (arith, short, line_long chain c, chain_short version chain h)

name_no_feed : (version : LogVersion) → NoFeed (log_name version)
name_no_feed One = feeds (codes "beanpax-log") (codes " 1") (plain_no_feed (codes "beanpax-log") (by_test (codes "beanpax-log") refl))
    ((λ same. omega arith), ((λ same. omega arith), tt))
name_no_feed Two = feeds (codes "beanpax-log") (codes " 2") (plain_no_feed (codes "beanpax-log") (by_test (codes "beanpax-log") refl))
    ((λ same. omega arith), ((λ same. omega arith), tt))

pub head_is_line : (version : LogVersion) (weights : List ℕ) → IsMembers weights → IsLogLine (head_line version weights)
unfolding head_line line
head_is_line version weights h = record {
  said = log_name version ++ spaced (map decimal weights);
  no_feed = feeds (log_name version) (spaced (map decimal weights)) (name_no_feed version)
      (spaced_no_feed (map decimal weights) (weights_plain weights h));
  is = refl;
}

-- ---- a head is short

words_short : (weights : List ℕ) → list_all is_weight weights ≡ true → length (spaced (map decimal weights)) ≤ 5 * length weights
words_short [] h = omega arith
words_short (w ∷ weights) h =
    let both = and_parts (is_weight w) (list_all is_weight weights) h in
    let each = and_parts (nat_le 1 w) (nat_le w 1000) both.0 in
    let most = leb-true w 1000 each.1 in
    let digits : length (decimal w) ≤ 4 = length-decimal-le 4 w (omega arith) (omega (arith, most)) (omega (arith, most)) in
    omega (arith, digits, words_short weights both.1, length-append (after_space (decimal w)) (spaced (map decimal weights)))

name_long : (version : LogVersion) → length (log_name version) ≡ 13
name_long One = refl
name_long Two = refl

pub head_short : (version : LogVersion) (weights : List ℕ) → IsMembers weights → length (head_line version weights) ≤ MAX_LINE
head_short version weights h =
    let few = h.few in
    let short = words_short weights h.each in
    omega (
      arith,
      few,
      short,
      name_long version,
      ap length (head_is version weights),
      length-append (log_name version) (weight_words weights),
      length-append (spaced (map decimal weights))
          (codes "\n"),
    )

-- ---- what a dump's reader tells of them

other_command : (words : List ℕ) (e : Entry) → Says (codes "S " ++ (words ++ codes "\n")) (Some e)
    → ((c : Command Op) → e ≡ entry.Submitted c → ⊥) → TellsCommand words None
other_command words e says other c value same =
    other c (same_entry e (entry.Submitted c) says.1 value
    (says.0 ∙ ap (λ t. codes "S " ++ (t ++ codes "\n")) (sym same) ∙ sym (command_is c)))

tells : (words : List ℕ) (read : Option Entry) → Says (codes "S " ++ (words ++ codes "\n")) read → TellsCommand words (told_command read)
tells words None says = λ c value same.
    says (entry.Submitted c) value (command_is c ∙ ap (λ t. codes "S " ++ (t ++ codes "\n")) same)
tells words (Some (entry.Submitted c)) says = (
  append_cancel_right (command_words c) words (codes "\n")
      (append_cancel_left (codes "S ") (command_words c ++ codes "\n") (words ++ codes "\n") (sym (command_is c) ∙ says.0)),
  says.1,
)
tells words (Some (entry.Version v)) says = other_command words (entry.Version v) says (λ c same. cc)
tells words (Some (entry.Members n)) says = other_command words (entry.Members n) says (λ c same. cc)
tells words (Some (entry.Weights ws)) says = other_command words (entry.Weights ws) says (λ c same. cc)
tells words (Some (entry.Answered a)) says = other_command words (entry.Answered a) says (λ c same. cc)
tells words (Some (entry.Placed key)) says = other_command words (entry.Placed key) says (λ c same. cc)
tells words (Some entry.End) says = other_command words entry.End says (λ c same. cc)

other_head : (version : LogVersion) (rest : List ℕ) (e : Entry) → Says (codes "weights" ++ rest) (Some e)
    → ((ws : List ℕ) → e ≡ entry.Weights ws → ⊥) → HeadsIn version (log_name version ++ rest) None
other_head version rest e says other ws members same =
    let words = append_cancel_left (log_name version) (weight_words ws) rest (sym (head_is version ws) ∙ same) in
    other ws (same_entry e (entry.Weights ws) says.1 members
    (says.0 ∙ ap (λ t. codes "weights" ++ t) (sym words) ∙ sym (weights_are ws)))

heads : (version : LogVersion) (rest : List ℕ) (read : Option Entry) → Says (codes "weights" ++ rest) read
    → HeadsIn version (log_name version ++ rest) (told_head read)
heads version rest None says = λ ws members same.
    let words = append_cancel_left (log_name version) (weight_words ws) rest (sym (head_is version ws) ∙ same) in
    says (entry.Weights ws) members (weights_are ws ∙ ap (λ t. codes "weights" ++ t) words)
heads version rest (Some (entry.Weights ws)) says = (
  head_is version ws
      ∙ ap (λ t. log_name version ++ t) (append_cancel_left (codes "weights") (weight_words ws) rest (sym (weights_are ws) ∙ says.0)),
  says.1,
)
heads version rest (Some (entry.Version v)) says = other_head version rest (entry.Version v) says (λ ws same. cc)
heads version rest (Some (entry.Members n)) says = other_head version rest (entry.Members n) says (λ ws same. cc)
heads version rest (Some (entry.Submitted c)) says = other_head version rest (entry.Submitted c) says (λ ws same. cc)
heads version rest (Some (entry.Answered a)) says = other_head version rest (entry.Answered a) says (λ ws same. cc)
heads version rest (Some (entry.Placed key)) says = other_head version rest (entry.Placed key) says (λ ws same. cc)
heads version rest (Some entry.End) says = other_head version rest entry.End says (λ ws same. cc)

-- where a line doesn't begin with the name of a log, it is no head
pub no_head : (version : LogVersion) (text : List ℕ) → ((rest : List ℕ) → text ≡ log_name version ++ rest → ⊥) → HeadsIn version text None
no_head version text none ws members same = none (weight_words ws) (sym same ∙ head_is version ws)

-- ---- and what is read of a line of a log

pub reads_head : (version : LogVersion) (line weights dumped : List ℕ) (read : Option Entry) (found : Option (List ℕ))
    → line ≡ log_name version ++ weights → dumped ≡ codes "weights" ++ weights → Says dumped read → found ≡ told_head read
    → HeadsIn version line found
reads_head version line weights dumped read found cut is says told =
    subst (λ f. HeadsIn version line f) (sym told)
    (subst (λ l. HeadsIn version l (told_head read)) (sym cut) (heads version weights read (subst (λ d. Says d read) is says)))

pub reads_command : (words dumped : List ℕ) (read : Option Entry) (found : Option (Command Op))
    → dumped ≡ codes "S " ++ (words ++ codes "\n") → Says dumped read → found ≡ told_command read → TellsCommand words found
reads_command words dumped read found is says told =
    subst (λ f. TellsCommand words f) (sym told) (tells words read (subst (λ d. Says d read) is says))
