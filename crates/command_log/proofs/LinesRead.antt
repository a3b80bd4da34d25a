-- What is read of a line.
use Rattle.std.proofs.Common.{◌≡◌, ℕ, ◌-◌, ◌≤◌, List, ◌++◌, length, take, Some, None, sym, ap, subst, ◌∙◌}
use Rattle.std.proofs.Common.{arith, length-append}
use Rattle.std.proofs.lemmas.List.{take_at}
use Rattle.object.specs.declared.command.Command.{Command}
use Rattle.bean_words.specs.declared.op.Op.{Op}
use Rattle.command_log.specs.declared.chain.Chain.{Chain}
use Rattle.command_log.specs.declared.line.LogLine.{LogLine}
use Rattle.command_log.specs.declared.line.TheConstants.{MAX_WORDS}
use Rattle.command_log.specs.declared.version.LogVersion.{LogVersion}
use Rattle.command_log.specs.Lines.{EndsInChain, EndsInSum, HoldsCommand, IsChain, TellsCommand}
use Rattle.command_log.specs.Text.{command_words, chain_words, chained_words, next_chain, sum_word, summed, line_of_command}
use Rattle.command_log.proofs.Chains.{one_chained}
use Rattle.command_log.proofs.Sums.{one_summed, words_of}

-- a line is read from its end: its sum, what it says of the line before it, and the words for a command

pub without_sum : (version : LogVersion) (line : List ℕ) → EndsInSum line None → HoldsCommand version line None
without_sum version line none chain c is logged same = none (chained_words chain c) same

-- the words in front of the sum
pub record IsCut (line words sum : List ℕ) : Type 0 where
  pub is : summed words ≡ line
  pub sum_is : sum ≡ sum_word words

pub cut_sum : (line sum words : List ℕ) → EndsInSum line (Some sum) → words ≡ take (length line - 10) line → IsCut line words sum
cut_sum line sum words h cut =
    let same : words ≡ h.0 = cut ∙ words_of line h.0 h.1 in
    record { is = ap summed same ∙ h.1; sum_is = h.2 ∙ ap sum_word (sym same) }

pub without_chain : (version : LogVersion) (line words sum : List ℕ) → IsCut line words sum → EndsInChain version words None
    → HoldsCommand version line None
without_chain version line words sum cut none chain c is logged same =
    none (command_words c) chain is (one_summed (chained_words chain c) words (same ∙ sym cut.is))

-- the words in front of that
pub cut_chain : (version : LogVersion) (words said : List ℕ) (chain : Chain) (n : ℕ) → EndsInChain version words (Some chain)
    → n ≡ length (chain_words chain) → said ≡ take (length words - n) words → said ++ chain_words chain ≡ words
cut_chain version words said chain n h long cut =
    let front = h.1.0 in
    let at : length front ≡ length words - n = omega (arith, long, ap length h.1.1, length-append front (chain_words chain)) in
    ap (λ t. t ++ chain_words chain)
    (cut ∙ ap (take (length words - n)) (sym h.1.1) ∙ take_at front (chain_words chain) (length words - n) at)
    ∙ h.1.1

-- the words for a command that is kept are those
said_words : (version : LogVersion) (line words sum said : List ℕ) (chain other : Chain) (c : Command Op) → IsCut line words sum
    → IsChain version chain → said ++ chain_words chain ≡ words → IsChain version other → line_of_command other c ≡ line
    → command_words c ≡ said
said_words version line words sum said chain other c cut is front k same =
    (one_chained version (command_words c) said other chain k is
    (one_summed (chained_words other c) words (same ∙ sym cut.is) ∙ sym front)).0

pub too_long : (version : LogVersion) (line words sum said : List ℕ) (chain : Chain) → IsCut line words sum
    → EndsInChain version words (Some chain) → said ++ chain_words chain ≡ words → (length said ≤ MAX_WORDS → ⊥)
    → HoldsCommand version line None
too_long version line words sum said chain cut h front long other c k logged same =
    long (subst (λ (w : List ℕ). length w ≤ MAX_WORDS) (said_words version line words sum said chain other c cut h.0 front k same) logged.short)

pub without_command : (version : LogVersion) (line words sum said : List ℕ) (chain : Chain) → IsCut line words sum
    → EndsInChain version words (Some chain) → said ++ chain_words chain ≡ words → TellsCommand said None
    → HoldsCommand version line None
without_command version line words sum said chain cut h front none other c k logged same =
    none c logged.value (said_words version line words sum said chain other c cut h.0 front k same)

pub keeps : (version : LogVersion) (line words sum said : List ℕ) (chain : Chain) (c : Command Op) (read : LogLine) → IsCut line words sum
    → EndsInChain version words (Some chain) → said ++ chain_words chain ≡ words → length said ≤ MAX_WORDS
    → TellsCommand said (Some c) → read ≡ (record { chain = chain; command = c; next = next_chain chain sum })
    → HoldsCommand version line (Some read)
keeps version line words sum said chain c read cut h front short told is =
    let all : chained_words chain c ≡ words = ap (λ t. t ++ chain_words chain) told.0 ∙ front in
    subst (λ r. HoldsCommand version line (Some r)) (sym is)
    record {
      is = ap summed all ∙ cut.is;
      logged = record { value = told.1; short = subst (λ (w : List ℕ). length w ≤ MAX_WORDS) (sym told.0) short };
      chained = h.0;
      next = ap (next_chain chain) (cut.sum_is ∙ ap sum_word (sym all));
    }
