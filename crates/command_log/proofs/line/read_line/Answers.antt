use Rattle.std.proofs.Common.{ℕ, take, ap, subst, arith}
use Rattle.command_log.specs.declared.chain.Chain.{Chain}
use Rattle.command_log.specs.declared.line.LogLine.{LogLine}
use Rattle.command_log.specs.Lines.{EndsInChain, EndsInSum, TellsCommand}
use Rattle.command_log.proofs.LinesRead.{cut_chain, cut_sum, keeps, too_long, without_chain, without_command}
use Rattle.command_log.proofs.line.read_line.Goals as goal

pub returns-in_default-at_end : goal.returns-in_default-at_end
returns-in_default-at_end c =
    let line = c.args.line.now in
    let words = take c.saturating_sub.result line in
    let told = subst (EndsInSum line) c.in-Some.is c.in_ok-sum.ensures in
    let cut = cut_sum line c.in-Some.sum words told (ap (λ (n : ℕ). take n line) c.saturating_sub.ensures) in
    without_chain c.args.version line words c.in-Some.sum cut (subst (EndsInChain c.args.version words) c.in_default-at_end.is c.at_end.ensures)

pub returns-then-words-gt-MAX_WORDS : goal.returns-then-words-gt-MAX_WORDS
returns-then-words-gt-MAX_WORDS c =
    let line = c.args.line.now in
    let version = c.args.version in
    let words = take c.saturating_sub.result line in
    let said = take c.saturating_sub-2.result words in
    let chain = c.in-Some-at_end.chain in
    let long = c.if-words-gt-MAX_WORDS.true in
    let told = subst (EndsInSum line) c.in-Some.is c.in_ok-sum.ensures in
    let cut = cut_sum line c.in-Some.sum words told (ap (λ (n : ℕ). take n line) c.saturating_sub.ensures) in
    let end = subst (EndsInChain version words) c.in-Some-at_end.is c.at_end.ensures in
    let front = cut_chain version words said chain c.len.result end c.len.ensures (ap (λ (n : ℕ). take n words) c.saturating_sub-2.ensures) in
    too_long version line words c.in-Some.sum said chain cut end front (λ short. omega (arith, short, long))

pub returns-in_default-2 : goal.returns-in_default-2
returns-in_default-2 c =
    let line = c.args.line.now in
    let version = c.args.version in
    let words = take c.saturating_sub.result line in
    let said = take c.saturating_sub-2.result words in
    let chain = c.in-Some-at_end.chain in
    let told = subst (EndsInSum line) c.in-Some.is c.in_ok-sum.ensures in
    let cut = cut_sum line c.in-Some.sum words told (ap (λ (n : ℕ). take n line) c.saturating_sub.ensures) in
    let end = subst (EndsInChain version words) c.in-Some-at_end.is c.at_end.ensures in
    let front = cut_chain version words said chain c.len.result end c.len.ensures (ap (λ (n : ℕ). take n words) c.saturating_sub-2.ensures) in
    without_command version line words c.in-Some.sum said chain cut end front (subst (TellsCommand said) c.in_default-2.is c.in_ok-command.ensures)

pub returns : goal.returns
returns c =
    let line = c.args.line.now in
    let version = c.args.version in
    let words = take c.saturating_sub.result line in
    let said = take c.saturating_sub-2.result words in
    let chain = c.in-Some-at_end.chain in
    let command = c.in-Some-2.command in
    let long = c.if-words-gt-MAX_WORDS.false in
    let told = subst (EndsInSum line) c.in-Some.is c.in_ok-sum.ensures in
    let cut = cut_sum line c.in-Some.sum words told (ap (λ (n : ℕ). take n line) c.saturating_sub.ensures) in
    let end = subst (EndsInChain version words) c.in-Some-at_end.is c.at_end.ensures in
    let front = cut_chain version words said chain c.len.result end c.len.ensures (ap (λ (n : ℕ). take n words) c.saturating_sub-2.ensures) in
    let read : Chain → LogLine = λ next. record { chain = chain; command = command; next = next } in
    keeps version line words c.in-Some.sum said chain command (read c.behind-next.result) cut end front long
    (subst (TellsCommand said) c.in-Some-2.is c.in_ok-command.ensures) (ap read c.behind-next.ensures)
