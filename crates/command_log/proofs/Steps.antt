-- What a line more makes of what is known.
use Rattle.std.proofs.Common.{◌≡◌, ℕ, suc, ◌+◌, ◌-◌, ◌<◌, ◌≤◌, ◌^◌, min, List, [], ◌∷◌, ◌++◌, length, Option, Some, None, refl, sym, ap, subst}
use Rattle.std.proofs.Common.{◌∙◌, arith, append-nil, append_assoc, length-append}
use Rattle.std.proofs.lemmas.Grind.{flat_map-append}
use Rattle.std.specs.List.{AllByRecursion}
use Rattle.object.specs.declared.command.Command.{Command}
use Rattle.bean_words.specs.declared.op.Op.{Op}
use Rattle.chronicle_text.specs.Lines.{text_of_lines}
use Rattle.command_log.specs.declared.chain.Chain.{Chain}
use Rattle.command_log.specs.declared.head.LogHead.{LogHead}
use Rattle.command_log.specs.declared.line.LogLine.{LogLine}
use Rattle.command_log.specs.declared.line.TheConstants.{MAX_LINE}
use Rattle.command_log.specs.declared.stage.Stage.TheVariants.{Head, BadHead, Right, Wrong, Damaged}
use Rattle.command_log.specs.declared.version.LogVersion.{LogVersion}
use Rattle.command_log.specs.declared.whole.Whole.{Whole}
use Rattle.command_log.specs.Lines.{Heads, HeadsIn, HoldsCommand, IsChain, IsLogged, IsLogLine, IsMisplacedLogLine, IsRead, IsRightLogLine, IsWrongLogLine}
use Rattle.command_log.specs.Progress.{BeginsOtherwise, StepsOn, beginning_kept}
use Rattle.command_log.specs.Reading.{HasRightLine, IsDamagedAt, IsLineStart, IsLog}
use Rattle.command_log.specs.Text.{head_chain, head_line, line_of_command, chain_behind, chained_words, log_text}
use Rattle.command_log.proofs.Chains.{log_is}
use Rattle.command_log.proofs.Cuts.{lines_start}
use Rattle.command_log.proofs.Kept.{short_shown, whole_shown}
use Rattle.command_log.proofs.Logs.{all_last, first_log, log_first, log_last, log_long, longer, next_log}
use Rattle.command_log.proofs.Spelled.{head_short, line_short, one_line}

-- ---- what is shown of a line tells what the line is

same_shown : (version : LogVersion) (line : List ℕ) (read : LogLine) → IsRead version (beginning_kept line) read → beginning_kept line ≡ line
same_shown version line read h =
    whole_shown MAX_LINE line
    (subst (λ (l : List ℕ). length l ≤ MAX_LINE) h.is (line_short version read.chain read.command h.chained h.logged))

pub keeps_line : (version : LogVersion) (line : List ℕ) (read : Option LogLine) → HoldsCommand version (beginning_kept line) read
    → HoldsCommand version line read
keeps_line version line (Some read) h = record {
  is = h.is ∙ same_shown version line read h;
  logged = h.logged;
  chained = h.chained;
  next = h.next;
}
keeps_line version line None none = λ chain c is logged same.
    none chain c is logged
    (same ∙ sym (short_shown MAX_LINE line (subst (λ (l : List ℕ). length l ≤ MAX_LINE) same (line_short version chain c is logged))))

same_head : (version : LogVersion) (line weights : List ℕ) → HeadsIn version (beginning_kept line) (Some weights) → beginning_kept line ≡ line
same_head version line weights h =
    whole_shown MAX_LINE line (subst (λ (l : List ℕ). length l ≤ MAX_LINE) h.0 (head_short version weights h.1))

heads_in : (version : LogVersion) (line : List ℕ) → HeadsIn version (beginning_kept line) None → HeadsIn version line None
heads_in version line none weights members same =
    none weights members
    (same ∙ sym (short_shown MAX_LINE line (subst (λ (l : List ℕ). length l ≤ MAX_LINE) same (head_short version weights members))))

-- the line of a command is right in any version
pub command_right : (version : LogVersion) (chain : Chain) (c : Command Op) → IsChain version chain → IsLogged c
    → IsRightLogLine (line_of_command chain c)
command_right version chain c is logged =
    record { words = chained_words chain c; is = refl; short = line_short version chain c is logged }

-- what is shown of a line is right where the line is
right_line : (line shown : List ℕ) → shown ≡ beginning_kept line → IsRightLogLine shown → IsRightLogLine line
right_line line shown same h =
    let here : IsRightLogLine (beginning_kept line) = subst IsRightLogLine same h in
    subst IsRightLogLine (whole_shown MAX_LINE line here.short) here

wrong_line : (line shown : List ℕ) → IsLogLine line → shown ≡ beginning_kept line → (IsRightLogLine shown → ⊥) → IsWrongLogLine line
wrong_line line shown is same none = record {
  is_line = is;
  not_right = λ h. none (subst IsRightLogLine (sym (same ∙ short_shown MAX_LINE line h.short)) h);
}

-- ---- the first line

pub begins : (shown : List ℕ) (head : LogHead) (chain : Chain) (commands : List (Command Op)) → Heads shown (Some head)
    → chain ≡ head_chain head.version shown
    → StepsOn Head commands shown
    (Right (record { version = head.version; members = head.members; chain = chain; lines = 1; bytes = length shown })) commands
begins shown head chain commands h first lines line taken is same fits stands =
    let version = head.version in
    let weights = head.members in
    let here : HeadsIn version (beginning_kept line) (Some weights) = subst (λ s. HeadsIn version s (Some weights)) same h in
    let all = same_head version line weights here in
    let told : head_line version weights ≡ line = here.0 ∙ all in
    let long : length line ≡ length shown = ap length (sym all ∙ sym same) in
    let chained = first ∙ ap (head_chain version) (same ∙ all ∙ sym told) in
    let log = first_log version weights line chain here.1 told chained in
    let none : taken ++ commands ≡ [] = stands.1 in (
      subst (λ (n : ℕ). IsLog (record { version = version; members = weights; chain = chain; lines = 1; bytes = n }) (taken ++ commands)) long
          (subst (λ cs. IsLog (record { version = version; members = weights; chain = chain; lines = 1; bytes = length line }) cs) (sym none) log),
      ap (λ t. t ++ line) stands.0 ∙ sym told ∙ sym (log_first version weights) ∙ ap (λ cs. log_text version weights cs) (sym none),
    )

pub begins_otherwise : (shown : List ℕ) (commands : List (Command Op)) → Heads shown None → StepsOn Head commands shown BadHead commands
begins_otherwise shown commands none lines line taken is same fits stands = record {
  line = line;
  rest = [];
  is_line = is;
  no_head = λ version. heads_in version line (subst (λ s. HeadsIn version s None) same (none version));
  cut = ap (λ t. t ++ line) stands.0 ∙ sym (append-nil line);
}

pub begun_otherwise : (text more : List ℕ) → BeginsOtherwise text → BeginsOtherwise (text ++ more)
begun_otherwise text more h = record {
  line = h.line;
  rest = h.rest ++ more;
  is_line = h.is_line;
  no_head = h.no_head;
  cut = ap (λ t. t ++ more) h.cut ∙ append_assoc h.line h.rest more;
}

pub stays_bad : (shown : List ℕ) (commands : List (Command Op)) → StepsOn BadHead commands shown BadHead commands
stays_bad shown commands lines line taken is same fits stands = begun_otherwise lines line stands

-- ---- the lines behind it

pub right_on : (whole : Whole) (shown : List ℕ) (commands : List (Command Op)) (read : LogLine) → HoldsCommand whole.version shown (Some read)
    → read.chain ≡ whole.chain
    → StepsOn (Right whole) commands shown (Right (longer whole read.next (length shown))) (commands ++ (read.command ∷ []))
right_on whole shown commands read h placed lines line taken is same fits stands =
    let version = whole.version in
    let c = read.command in
    let all = taken ++ commands in
    let log = log_text version whole.members all in
    let here : HoldsCommand version (beginning_kept line) (Some read) = subst (λ s. HoldsCommand version s (Some read)) same h in
    let told = keeps_line version line (Some read) here in
    let said : line_of_command whole.chain c ≡ line = ap (λ k. line_of_command k c) (sym placed) ∙ told.is in
    let long : length (line_of_command whole.chain c) ≡ length shown = ap length (ap (λ k. line_of_command k c) (sym placed) ∙ h.is) in
    let text : lines ++ line ≡ log ++ line_of_command whole.chain c = ap (λ t. t ++ line) stands.1 ∙ ap (λ l. log ++ l) (sym said) in
    let next = next_log whole all c read.next (length shown) stands.0 told.logged (told.next ∙ ap (λ k. chain_behind k c) placed) long
    (subst (λ (t : List ℕ). length t < 2 ^ 64) text fits) in
    let order = append_assoc taken commands (c ∷ []) in (
      subst (λ cs. IsLog (longer whole read.next (length shown)) cs) order next,
      text ∙ ap (λ k. log ++ line_of_command k c) stands.0.chain ∙ sym (log_last version whole.members all c)
          ∙ ap (λ cs. log_text version whole.members cs) order,
    )

pub goes_wrong : (whole : Whole) (shown : List ℕ) (commands : List (Command Op)) → (IsRightLogLine shown → ⊥)
    → StepsOn (Right whole) commands shown (Wrong whole) commands
goes_wrong whole shown commands none lines line taken is same fits stands = (
  stands.0,
  record {
    wrong = line;
    more = [];
    are_wrong = (wrong_line line shown is same none, tt);
    cut = ap (λ t. t ++ line) stands.1
        ∙ ap (λ l. log_text whole.version whole.members (taken ++ commands) ++ l) (sym (append-nil line));
  },
)

-- the lines, and one more
lines_last : (lines : List (List ℕ)) (line : List ℕ) → text_of_lines (lines ++ (line ∷ [])) ≡ text_of_lines lines ++ line
lines_last lines line = flat_map-append (λ l. l) lines (line ∷ []) ∙ ap (λ t. text_of_lines lines ++ t) (append-nil line)

pub wrong_on : (whole : Whole) (shown : List ℕ) (commands : List (Command Op)) → (IsRightLogLine shown → ⊥)
    → StepsOn (Wrong whole) commands shown (Wrong whole) commands
wrong_on whole shown commands none lines line taken is same fits stands =
    let log = log_text whole.version whole.members (taken ++ commands) in
    let far = stands.1 in (
      stands.0,
      record {
        wrong = far.wrong;
        more = far.more ++ (line ∷ []);
        are_wrong = (
          far.are_wrong.0,
          all_last IsWrongLogLine far.more line far.are_wrong.1 (wrong_line line shown is same none),
        );
        cut = ap (λ t. t ++ line) far.cut ∙ append_assoc log (text_of_lines (far.wrong ∷ far.more)) line
            ∙ ap (λ t. log ++ t) (sym (lines_last (far.wrong ∷ far.more) line));
      },
    )

are_lines : (lines : List (List ℕ)) → AllByRecursion IsWrongLogLine lines → AllByRecursion IsLogLine lines
are_lines [] h = tt
are_lines (line ∷ lines) h = (h.0.is_line, are_lines lines h.1)

-- ---- lines that don't go on with the log

-- a line chained to another line keeps none here
misplaced : (version : LogVersion) (line : List ℕ) (chain : Chain) (read : LogLine) → IsLogLine line → IsChain version chain
    → IsRead version line read → (read.chain ≡ chain → ⊥) → IsMisplacedLogLine chain line
misplaced version line chain read is chained h other = record {
  is_line = is;
  keeps_none = λ c logged same.
      other (one_line version read.chain chain read.command c h.chained chained h.logged logged (h.is ∙ sym same)).0;
}

-- nor does a wrong one
wrong_here : (version : LogVersion) (line : List ℕ) (chain : Chain) → IsChain version chain → IsWrongLogLine line → IsMisplacedLogLine chain line
wrong_here version line chain chained wrong = record {
  is_line = wrong.is_line;
  keeps_none = λ c logged same. wrong.not_right (subst IsRightLogLine same (command_right version chain c chained logged));
}

-- the number of the line behind a log, in a text that isn't too long
line_number : (whole : Whole) (commands : List (Command Op)) (line rest : List ℕ) → IsLog whole commands → IsLogLine line
    → length (log_text whole.version whole.members commands ++ (line ++ rest)) < 2 ^ 64
    → min (whole.lines + 1) (2 ^ 64 - 1) ≡ suc (suc (length commands))
line_number whole commands line rest log is fits =
    let text = log_text whole.version whole.members commands in
    let number = log.lines in
    let few = log_long whole.version whole.members commands log.members in
    let one : 1 ≤ length line = omega (arith, ap length is.is, length-append is.said (10 ∷ [])) in
    omega (arith, number, few, one, fits, length-append text (line ++ rest), length-append line rest)

-- the log is damaged where that line stands
damaged_here : (whole : Whole) (commands : List (Command Op)) (text line rest : List ℕ) → IsLog whole commands → IsMisplacedLogLine whole.chain line
    → HasRightLine (line ++ rest) → text ≡ log_text whole.version whole.members commands ++ (line ++ rest)
    → length text < 2 ^ 64 → IsDamagedAt (min (whole.lines + 1) (2 ^ 64 - 1)) text
damaged_here whole commands text line rest log wrong later cut fits = record {
  version = whole.version;
  weights = whole.members;
  commands = commands;
  wrong = line;
  rest = rest;
  members = log.members;
  logged = log.logged;
  number = line_number whole commands line rest log wrong.is_line (subst (λ (t : List ℕ). length t < 2 ^ 64) cut fits);
  is_wrong = subst (λ k. IsMisplacedLogLine k line) log.chain wrong;
  later = later;
  cut = cut;
}

-- the chain of a log is one of its version
pub its_chain : (whole : Whole) (commands : List (Command Op)) → IsLog whole commands → IsChain whole.version whole.chain
its_chain whole commands log = subst (IsChain whole.version) (sym log.chain) (log_is whole.version whole.members commands)

right_there : (before line : List ℕ) (lines : List (List ℕ)) → before ≡ text_of_lines lines → AllByRecursion IsLogLine lines
    → IsLogLine line → IsRightLogLine line → HasRightLine (before ++ line)
right_there before line lines same are is right = record {
  before = before;
  line = line;
  rest = [];
  is_line = is;
  right = right;
  starts = subst (λ b. IsLineStart b) (sym same) (lines_start lines are);
  cut = ap (λ l. before ++ l) (sym (append-nil line));
}

-- a right line that doesn't go on with the log
damaged_first : (whole : Whole) (commands : List (Command Op)) (lines line : List ℕ) → IsLog whole commands
    → lines ≡ log_text whole.version whole.members commands → IsMisplacedLogLine whole.chain line → IsRightLogLine line
    → length (lines ++ line) < 2 ^ 64 → IsDamagedAt (min (whole.lines + 1) (2 ^ 64 - 1)) (lines ++ line)
damaged_first whole commands lines line log said wrong right fits =
    let later = subst HasRightLine (sym (append-nil line)) (right_there [] line [] refl tt wrong.is_line right) in
    let cut : lines ++ line ≡ log_text whole.version whole.members commands ++ (line ++ []) =
    ap (λ t. t ++ line) said ∙ ap (λ l. log_text whole.version whole.members commands ++ l) (sym (append-nil line)) in
    damaged_here whole commands (lines ++ line) line [] log wrong later cut fits

pub elsewhere : (whole : Whole) (shown : List ℕ) (commands : List (Command Op)) (read : LogLine) → HoldsCommand whole.version shown (Some read)
    → (read.chain ≡ whole.chain → ⊥)
    → StepsOn (Right whole) commands shown (Damaged (min (whole.lines + 1) (2 ^ 64 - 1))) commands
elsewhere whole shown commands read h other lines line taken is same fits stands =
    let version = whole.version in
    let all = taken ++ commands in
    let told = keeps_line version line (Some read) (subst (λ s. HoldsCommand version s (Some read)) same h) in
    damaged_first whole all lines line stands.0 stands.1
    (misplaced version line whole.chain read is (its_chain whole all stands.0) told other)
    (subst IsRightLogLine told.is (command_right version read.chain read.command told.chained told.logged)) fits

pub unread : (whole : Whole) (shown : List ℕ) (commands : List (Command Op)) → HoldsCommand whole.version shown None → IsRightLogLine shown
    → StepsOn (Right whole) commands shown (Damaged (min (whole.lines + 1) (2 ^ 64 - 1))) commands
unread whole shown commands none right lines line taken is same fits stands =
    let version = whole.version in
    let all = taken ++ commands in
    let told : HoldsCommand version line None = keeps_line version line None (subst (λ s. HoldsCommand version s None) same none) in
    damaged_first whole all lines line stands.0 stands.1
    record { is_line = is; keeps_none = λ c logged chain. told whole.chain c (its_chain whole all stands.0) logged chain }
    (right_line line shown same right) fits

pub damaged : (whole : Whole) (shown : List ℕ) (commands : List (Command Op)) → IsRightLogLine shown
    → StepsOn (Wrong whole) commands shown (Damaged (min (whole.lines + 1) (2 ^ 64 - 1))) commands
damaged whole shown commands right lines line taken is same fits stands =
    let version = whole.version in
    let all = taken ++ commands in
    let log = log_text version whole.members all in
    let far = stands.1 in
    let wrong = far.wrong ∷ far.more in
    let behind = text_of_lines far.more ++ line in
    let parts = append_assoc far.wrong (text_of_lines far.more) line in
    let cut : lines ++ line ≡ log ++ (far.wrong ++ behind) =
    ap (λ t. t ++ line) far.cut ∙ append_assoc log (text_of_lines wrong) line ∙ ap (λ t. log ++ t) parts in
    let later = subst HasRightLine parts
    (right_there (text_of_lines wrong) line wrong refl (are_lines wrong far.are_wrong) is (right_line line shown same right)) in
    damaged_here whole all (lines ++ line) far.wrong behind stands.0
    (wrong_here version far.wrong whole.chain (its_chain whole all stands.0) far.are_wrong.0) later cut fits

right_behind : (text more : List ℕ) → HasRightLine text → HasRightLine (text ++ more)
right_behind text more h = record {
  before = h.before;
  line = h.line;
  rest = h.rest ++ more;
  is_line = h.is_line;
  right = h.right;
  starts = h.starts;
  cut = ap (λ t. t ++ more) h.cut ∙ append_assoc h.before (h.line ++ h.rest) more
      ∙ ap (λ t. h.before ++ t) (append_assoc h.line h.rest more);
}

pub damaged_on : (n : ℕ) (text more : List ℕ) → IsDamagedAt n text → IsDamagedAt n (text ++ more)
damaged_on n text more h =
    let log = log_text h.version h.weights h.commands in
    let parts = append_assoc h.wrong h.rest more in
    record {
      version = h.version;
      weights = h.weights;
      commands = h.commands;
      wrong = h.wrong;
      rest = h.rest ++ more;
      members = h.members;
      logged = h.logged;
      number = h.number;
      is_wrong = h.is_wrong;
      later = subst HasRightLine parts (right_behind (h.wrong ++ h.rest) more h.later);
      cut = ap (λ t. t ++ more) h.cut ∙ append_assoc log (h.wrong ++ h.rest) more ∙ ap (λ t. log ++ t) parts;
    }

pub stays_damaged : (n : ℕ) (shown : List ℕ) (commands : List (Command Op)) → StepsOn (Damaged n) commands shown (Damaged n) commands
stays_damaged n shown commands lines line taken is same fits stands = damaged_on n lines line stands
