-- What is read of a log that was cut.
use Rattle.std.proofs.Common.{◌≡◌, ◌≢◌, ℕ, ◌+◌, ◌<◌, ◌≤◌, length, arith, inl, List, []}
use Rattle.std.proofs.Common.{◌∷◌, ◌++◌, drop, refl, sym, ap, subst, ◌∙◌, append_assoc, append-nil, take-append-drop}
use Rattle.std.proofs.lemmas.List.{append_cancel_left}
use Rattle.std.specs.List.{AllByRecursion}
use Rattle.object.specs.Lists.{IsBeginning}
use Rattle.object.specs.declared.command.Command.{Command}
use Rattle.ballot.specs.Members.{IsMembers}
use Rattle.bean_words.specs.declared.op.Op.{Op}
use Rattle.command_log.specs.declared.chain.Chain.{Chain}
use Rattle.command_log.specs.declared.faults.LogFault.{LogFault}
use Rattle.command_log.specs.declared.faults.LogFault.TheVariants.{Unbegun, BadHead, Damaged}
use Rattle.command_log.specs.declared.version.LogVersion.{LogVersion}
use Rattle.command_log.specs.declared.version.LogVersion.TheVariants.{One, Two}
use Rattle.command_log.specs.declared.whole.Whole.{Whole}
use Rattle.command_log.specs.Faults.{IsLogFault}
use Rattle.command_log.specs.Lines.{IsChain, IsLogged, IsMisplacedLogLine}
use Rattle.command_log.specs.Reading.{HasRightLine, IsDamagedAt, IsWholeLog}
use Rattle.command_log.specs.Text.{chain_after, chain_behind, chained_words, first_chain, head_line, lines_from, line_of_command, log_chain, log_text}
use Rattle.command_log.proofs.Begun.{headed_not_begun}
use Rattle.command_log.proofs.Chains.{first_is, log_is, next_is}
use Rattle.command_log.proofs.Cuts.{no_line_inside, one_front_line}
use Rattle.command_log.proofs.Logs.{chain_first, log_first}
use Rattle.command_log.proofs.Spelled.{command_is_line, head_is_line, one_head, one_line}
use Rattle.command_log.proofs.Steps.{command_right}
use Rattle.command_log.proofs.WordCounts.{one_chain}
use Rattle.log_file.specs.Logs.{BeginsWithLog, HasOtherHead, HasStrayLine, IsBehind, IsCutLog}

-- ---- commands in front of two equal texts

-- the first of them are one, and so is what stands behind
pub record IsOneFirst (c d : Command Op) (x y : List ℕ) : Type 0 where
  pub first : c ≡ d
  pub rest : x ≡ y

one_first : (version : LogVersion) (chain : Chain) (c d : Command Op) (cs ds : List (Command Op)) (x y : List ℕ) → IsChain version chain
    → IsLogged c → IsLogged d → lines_from chain (c ∷ cs) ++ x ≡ lines_from chain (d ∷ ds) ++ y
    → IsOneFirst c d (lines_from (chain_behind chain c) cs ++ x) (lines_from (chain_behind chain c) ds ++ y)
one_first version chain c d cs ds x y is h k same =
    let a = line_of_command chain c in
    let b = line_of_command chain d in
    let more = lines_from (chain_behind chain c) cs in
    let less = lines_from (chain_behind chain d) ds in
    let cut = one_front_line a b (more ++ x) (less ++ y) (command_is_line version chain c is h.value) (command_is_line version chain d is k.value)
    (sym (append_assoc a more x) ∙ same ∙ append_assoc b less y) in
    let first = (one_line version chain chain c d is is h k cut.0).1 in
    record { first = first; rest = cut.1 ∙ ap (λ e. lines_from (chain_behind chain e) ds ++ y) (sym first) }

behind_is : (version : LogVersion) (chain : Chain) (c : Command Op) → IsChain version chain → IsChain version (chain_behind chain c)
behind_is version chain c is = next_is version chain (chained_words chain c) is

none_left : (version : LogVersion) (chain : Chain) (c : Command Op) (cs : List (Command Op)) (x : List ℕ) → IsChain version chain → IsLogged c
    → lines_from chain (c ∷ cs) ++ x ≡ [] → ⊥
none_left version chain c cs x is h same =
    let more = lines_from (chain_behind chain c) cs in
    no_line_inside [] [] (line_of_command chain c) (more ++ x) tt (command_is_line version chain c is h.value)
    (sym same ∙ append_assoc (line_of_command chain c) more x)

longer_first : (c d : Command Op) (cs ds : List (Command Op)) → c ≡ d → IsBeginning cs ds → IsBeginning (c ∷ cs) (d ∷ ds)
longer_first c d cs ds same h = (h.0, ap (λ (e : Command Op). e ∷ ds) (sym same) ∙ ap (λ (l : List (Command Op)). c ∷ l) h.1)

-- behind those that were read stands no right line, so that none is left out
kept_first : (version : LogVersion) (chain : Chain) (kept read : List (Command Op)) (x y : List ℕ) → IsChain version chain
    → AllByRecursion IsLogged kept → AllByRecursion IsLogged read
    → lines_from chain kept ++ x ≡ lines_from chain read ++ y → (HasRightLine y → ⊥) → IsBeginning kept read
kept_first version chain [] read x y is h k same none = (read, refl)
kept_first version chain (c ∷ kept) [] x y is h k same none =
    absurd (none record {
      before = [];
      line = line_of_command chain c;
      rest = lines_from (chain_behind chain c) kept ++ x;
      is_line = command_is_line version chain c is h.0.value;
      right = command_right version chain c is h.0;
      starts = inl refl;
      cut = sym same ∙ append_assoc (line_of_command chain c) (lines_from (chain_behind chain c) kept) x;
    })
kept_first version chain (c ∷ kept) (d ∷ read) x y is h k same none =
    let one = one_first version chain c d kept read x y is h.0 k.0 same in
    longer_first c d kept read one.first (kept_first version (chain_behind chain c) kept read x y (behind_is version chain c is) h.1 k.1 one.rest none)

-- the line that goes on with a list goes on with the same list
same_place : (chain : Chain) (c d : Command Op) (ds : List (Command Op)) (line : List ℕ) → c ≡ d
    → IsMisplacedLogLine (chain_after chain (d ∷ ds)) line → IsMisplacedLogLine (chain_after (chain_behind chain c) ds) line
same_place chain c d ds line same is = subst (λ e. IsMisplacedLogLine (chain_after (chain_behind chain e) ds) line) (sym same) is

-- behind those in front of a line that doesn't go on with them stands none that does
before_wrong : (version : LogVersion) (chain : Chain) (kept read : List (Command Op)) (x wrong y : List ℕ) → IsChain version chain
    → AllByRecursion IsLogged kept → AllByRecursion IsLogged read
    → lines_from chain kept ++ x ≡ lines_from chain read ++ (wrong ++ y) → IsMisplacedLogLine (chain_after chain read) wrong → length kept ≤ length read
before_wrong version chain [] read x wrong y is h k same at = omega arith
before_wrong version chain (c ∷ kept) [] x wrong y is h k same at =
    let more = lines_from (chain_behind chain c) kept in
    let cut = one_front_line (line_of_command chain c) wrong (more ++ x) y (command_is_line version chain c is h.0.value) at.is_line
    (sym (append_assoc (line_of_command chain c) more x) ∙ same) in
    absurd (at.keeps_none c h.0 cut.0)
before_wrong version chain (c ∷ kept) (d ∷ read) x wrong y is h k same at =
    let one = one_first version chain c d kept read x (wrong ++ y) is h.0 k.0 same in
    let fewer = before_wrong version (chain_behind chain c) kept read x wrong y (behind_is version chain c is) h.1 k.1 one.rest
    (same_place chain c d read wrong one.first at) in
    omega arith

read_first : (version : LogVersion) (chain : Chain) (read noted : List (Command Op)) (x : List ℕ) → IsChain version chain
    → AllByRecursion IsLogged read → AllByRecursion IsLogged noted
    → lines_from chain read ++ x ≡ lines_from chain noted ++ [] → IsBeginning read noted
read_first version chain [] noted x is h k same = (noted, refl)
read_first version chain (c ∷ read) [] x is h k same = absurd (none_left version chain c read x is h.0 same)
read_first version chain (c ∷ read) (d ∷ noted) x is h k same =
    let one = one_first version chain c d read noted x [] is h.0 k.0 same in
    longer_first c d read noted one.first (read_first version (chain_behind chain c) read noted x (behind_is version chain c is) h.1 k.1 one.rest)

-- each of the lines of a log goes on with those before it
none_wrong : (version : LogVersion) (chain : Chain) (read noted : List (Command Op)) (wrong x : List ℕ) → IsChain version chain
    → AllByRecursion IsLogged read → AllByRecursion IsLogged noted → IsMisplacedLogLine (chain_after chain read) wrong
    → lines_from chain read ++ (wrong ++ x) ≡ lines_from chain noted ++ [] → ⊥
none_wrong version chain [] [] wrong x is h k at same = no_line_inside [] [] wrong x tt at.is_line (sym same)
none_wrong version chain [] (d ∷ noted) wrong x is h k at same =
    let more = lines_from (chain_behind chain d) noted in
    let cut = one_front_line (line_of_command chain d) wrong (more ++ []) x (command_is_line version chain d is k.0.value) at.is_line
    (sym (append_assoc (line_of_command chain d) more []) ∙ sym same) in
    at.keeps_none d k.0 cut.0
none_wrong version chain (c ∷ read) [] wrong x is h k at same = none_left version chain c read (wrong ++ x) is h.0 same
none_wrong version chain (c ∷ read) (d ∷ noted) wrong x is h k at same =
    let one = one_first version chain c d read noted (wrong ++ x) [] is h.0 k.0 same in
    none_wrong version (chain_behind chain c) read noted wrong x (behind_is version chain c is) h.1 k.1 at one.rest

-- ---- logs in front of two equal texts

-- their heads are one, and so are their lines with what stands behind
pub record IsOneHead (a b : LogVersion) (v w x y : List ℕ) : Type 0 where
  pub version : a ≡ b
  pub members : v ≡ w
  pub rest : x ≡ y

one_log_head : (a b : LogVersion) (v w : List ℕ) (cs ds : List (Command Op)) (x y : List ℕ) → IsMembers v → IsMembers w
    → log_text a v cs ++ x ≡ log_text b w ds ++ y
    → IsOneHead a b v w (lines_from (first_chain a v) cs ++ x) (lines_from (first_chain a v) ds ++ y)
unfolding log_text
one_log_head a b v w cs ds x y m n same =
    let more = lines_from (first_chain a v) cs in
    let less = lines_from (first_chain b w) ds in
    let cut = one_front_line (head_line a v) (head_line b w) (more ++ x) (less ++ y) (head_is_line a v m) (head_is_line b w n)
    (sym (append_assoc (head_line a v) more x) ∙ same ∙ append_assoc (head_line b w) less y) in
    let one = one_head a b v w m n cut.0 in
    let chain : first_chain b w ≡ first_chain a v = ap (λ n. first_chain n w) (sym one.0) ∙ ap (first_chain a) (sym one.1) in
    record { version = one.0; members = one.1; rest = cut.1 ∙ ap (λ k. lines_from k ds ++ y) chain }

begins_with : (text : List ℕ) (whole : Whole) (read : List (Command Op)) → IsWholeLog text whole read
    → text ≡ log_text whole.version whole.members read ++ drop whole.bytes text
begins_with text whole read h = sym (take-append-drop whole.bytes text) ∙ ap (λ t. t ++ drop whole.bytes text) h.begins

-- a line that doesn't go on with a log is one with the log that is this
in_place : (a b : LogVersion) (v w : List ℕ) (commands : List (Command Op)) (line : List ℕ) → a ≡ b → v ≡ w
    → IsMisplacedLogLine (log_chain b w commands) line → IsMisplacedLogLine (chain_after (first_chain a v) commands) line
unfolding log_chain
in_place a b v w commands line version members at =
    let chain : first_chain b w ≡ first_chain a v = ap (λ n. first_chain n w) (sym version) ∙ ap (first_chain a) (sym members) in
    subst (λ k. IsMisplacedLogLine (chain_after k commands) line) chain at

has_head : (text : List ℕ) (version : LogVersion) (members : List ℕ) (kept : List (Command Op)) (x : List ℕ)
    → text ≡ log_text version members kept ++ x → text ≡ head_line version members ++ (lines_from (first_chain version members) kept ++ x)
unfolding log_text
has_head text version members kept x same =
    same ∙ append_assoc (head_line version members) (lines_from (first_chain version members) kept) x

-- a text that begins with a head has no other fault than a wrong line
headed : (text : List ℕ) (version : LogVersion) (members rest : List ℕ) (fault : LogFault) (P : LogFault → Type 0) → IsMembers members
    → text ≡ head_line version members ++ rest → IsLogFault text fault → ((n : ℕ) → IsDamagedAt n text → P (Damaged n)) → P fault
headed text version members rest Unbegun P m cut h damaged = absurd (headed_not_begun version text members rest m cut h)
headed text version members rest BadHead P m cut h damaged = absurd (h.no_head version members rest m cut)
headed text version members rest (Damaged n) P m cut h damaged = damaged n h

-- ---- behind a log stands anything

pub reads_kept : (text : List ℕ) (version : LogVersion) (members : List ℕ) (kept read : List (Command Op)) (whole : Whole)
    → BeginsWithLog text version members kept → IsWholeLog text whole read
    → (whole.version ≡ version) × (whole.members ≡ members) × IsBeginning kept read
reads_kept text version members kept read whole has h =
    let behind = drop whole.bytes text in
    let one = one_log_head version whole.version members whole.members kept read has.begins.0 behind has.members_ok h.log.members
    (sym has.begins.1 ∙ begins_with text whole read h) in (
      sym one.version,
      sym one.members,
      kept_first version (first_chain version members) kept read has.begins.0 behind (first_is version members) has.logged h.log.logged one.rest
          h.ends,
    )

damaged_behind : (text : List ℕ) (version : LogVersion) (members : List ℕ) (kept : List (Command Op)) (n : ℕ)
    → BeginsWithLog text version members kept → IsDamagedAt n text → length kept + 1 < n
damaged_behind text version members kept n has h =
    let one = one_log_head version h.version members h.weights kept h.commands has.begins.0 (h.wrong ++ h.rest) has.members_ok h.members
    (sym has.begins.1 ∙ h.cut) in
    let few = before_wrong version (first_chain version members) kept h.commands has.begins.0 h.wrong h.rest (first_is version members) has.logged
    h.logged one.rest (in_place version h.version members h.weights h.commands h.wrong one.version one.members h.is_wrong) in
    let number = h.number in
    omega arith

pub faulty_behind : (text : List ℕ) (version : LogVersion) (members : List ℕ) (kept : List (Command Op)) (fault : LogFault)
    → BeginsWithLog text version members kept → IsLogFault text fault → IsBehind (length kept) fault
faulty_behind text version members kept fault has h =
    headed text version members (lines_from (first_chain version members) kept ++ has.begins.0) fault (IsBehind (length kept)) has.members_ok
    (has_head text version members kept has.begins.0 has.begins.1) h
    (λ n damaged. damaged_behind text version members kept n has damaged)

-- ---- behind a log stands a right line that is chained to another line

stray_log : (text : List ℕ) (version : LogVersion) (members : List ℕ) (commands : List (Command Op)) → HasStrayLine text version members commands
    → BeginsWithLog text version members commands
stray_log text version members commands h = record {
  members_ok = h.members_ok;
  logged = h.logged;
  begins = (line_of_command h.chain h.command ++ h.rest, h.cut);
}

stray_place : (text : List ℕ) (version : LogVersion) (members : List ℕ) (commands : List (Command Op)) (h : HasStrayLine text version members commands)
    → IsMisplacedLogLine (chain_after (first_chain version members) commands) (line_of_command h.chain h.command)
stray_place text version members commands h = in_place version version members members commands _ refl refl
    record {
      is_line = command_is_line h.stray_version h.chain h.command h.chained h.stray_logged.value;
      keeps_none = λ c logged same.
          h.elsewhere (sym (one_chain version h.stray_version (log_chain version members commands) h.chain c h.command
          (log_is version members commands) h.chained logged h.stray_logged same));
    }

-- no more commands are read than stand before it
stray_few : (text : List ℕ) (version other : LogVersion) (members weights : List ℕ) (commands read : List (Command Op)) (x : List ℕ)
    (h : HasStrayLine text version members commands) → IsMembers weights → AllByRecursion IsLogged read
    → text ≡ log_text other weights read ++ x → length read ≤ length commands
stray_few text version other members weights commands read x h m logged cut =
    let right = line_of_command h.chain h.command in
    let one = one_log_head version other members weights commands read (right ++ h.rest) x h.members_ok m (sym h.cut ∙ cut) in
    before_wrong version (first_chain version members) read commands x right h.rest (first_is version members) logged h.logged (sym one.rest)
    (stray_place text version members commands h)

pub stray_told : (text : List ℕ) (version : LogVersion) (members : List ℕ) (commands : List (Command Op)) (fault : LogFault)
    → HasStrayLine text version members commands → IsLogFault text fault → fault ≡ Damaged (length commands + 2)
stray_told text version members commands fault h says =
    let has = stray_log text version members commands h in
    headed text version members (lines_from (first_chain version members) commands ++ has.begins.0) fault (λ f. f ≡ Damaged (length commands + 2))
    h.members_ok (has_head text version members commands has.begins.0 has.begins.1) says
    (λ n damaged.
    let low = damaged_behind text version members commands n has damaged in
    let high = stray_few text version damaged.version members damaged.weights commands damaged.commands (damaged.wrong ++ damaged.rest) h
    damaged.members damaged.logged damaged.cut in
    let number = damaged.number in
    let same : n ≡ length commands + 2 = omega arith in
    ap Damaged same)

-- the line that was read last, and none behind it
all_of : (xs ys : List (Command Op)) → IsBeginning xs ys → length ys ≤ length xs → xs ≡ ys
all_of [] [] h few = refl
all_of [] (y ∷ ys) h few = absurd (omega arith)
all_of (x ∷ xs) [] h few = cc
all_of (x ∷ xs) (y ∷ ys) h few =
    let first : x ≡ y = cc in
    let on : ys ≡ xs ++ h.0 = cc in
    let rest = all_of xs ys (h.0, on) (omega arith) in
    cc

pub stray_unread : (text : List ℕ) (version : LogVersion) (members : List ℕ) (commands read : List (Command Op)) (whole : Whole)
    → HasStrayLine text version members commands → IsWholeLog text whole read → ⊥
stray_unread text version members commands read whole h w =
    let kept = reads_kept text version members commands read whole (stray_log text version members commands h) w in
    let few = stray_few text version whole.version members whole.members commands read (drop whole.bytes text) h w.log.members w.log.logged
    (begins_with text whole read w) in
    let same = all_of commands read kept.2 few in
    let right = line_of_command h.chain h.command ++ h.rest in
    let log : log_text whole.version whole.members read ≡ log_text version members commands =
    ap (λ n. log_text n whole.members read) kept.0 ∙ ap (λ m. log_text version m read) kept.1 ∙ ap (log_text version members) (sym same) in
    let behind : drop whole.bytes text ≡ right =
    append_cancel_left (log_text version members commands) (drop whole.bytes text) right
    (ap (λ t. t ++ drop whole.bytes text) (sym log) ∙ sym (begins_with text whole read w) ∙ h.cut) in
    w.ends (subst HasRightLine (sym behind)
    record {
      before = [];
      line = line_of_command h.chain h.command;
      rest = h.rest;
      is_line = command_is_line h.stray_version h.chain h.command h.chained h.stray_logged.value;
      right = command_right h.stray_version h.chain h.command h.chained h.stray_logged;
      starts = inl refl;
      cut = refl;
    })

-- ---- behind a head stand lines of another version

other_first : (a b : LogVersion) (v w : List ℕ) → a ≢ b → first_chain b w ≢ first_chain a v
other_first One One v w other same = other refl
other_first One Two v w other same = cc
other_first Two One v w other same = cc
other_first Two Two v w other same = other refl

pub other_is_stray : (text : List ℕ) (h : HasOtherHead text) → HasStrayLine text h.version h.members []
other_is_stray text h =
    let first = first_chain h.written h.others in
    let more = lines_from (chain_behind first h.command) h.commands in
    record {
      stray_version = h.written;
      chain = first;
      command = h.command;
      rest = more ++ h.rest;
      members_ok = h.members_ok;
      logged = tt;
      chained = first_is h.written h.others;
      stray_logged = h.logged;
      elsewhere = λ same. other_first h.version h.written h.members h.others h.other (same ∙ chain_first h.version h.members);
      cut = h.cut ∙ ap (λ t. head_line h.version h.members ++ t) (append_assoc (line_of_command first h.command) more h.rest)
          ∙ ap (λ t. t ++ (line_of_command first h.command ++ (more ++ h.rest))) (sym (log_first h.version h.members));
    }

-- ---- a log that was cut

-- a log in front of it, with the rest of the text from which it was cut
with_left : (text : List ℕ) (a version : LogVersion) (w x : List ℕ) (cs : List (Command Op)) (members : List ℕ) (noted : List (Command Op))
    (cut : IsCutLog text version members noted) → text ≡ log_text a w cs ++ x
    → log_text a w cs ++ (x ++ cut.cut.0) ≡ log_text version members noted ++ []
with_left text a version w x cs members noted cut same =
    sym (append_assoc (log_text a w cs) x cut.cut.0) ∙ ap (λ t. t ++ cut.cut.0) (sym same) ∙ sym cut.cut.1
    ∙ sym (append-nil (log_text version members noted))

pub reads_noted : (text : List ℕ) (version : LogVersion) (members : List ℕ) (noted read : List (Command Op)) (whole : Whole)
    → IsCutLog text version members noted → IsWholeLog text whole read
    → (whole.version ≡ version) × (whole.members ≡ members) × IsBeginning read noted
reads_noted text version members noted read whole cut h =
    let behind = drop whole.bytes text in
    let one = one_log_head whole.version version whole.members members read noted (behind ++ cut.cut.0) [] h.log.members cut.members_ok
    (with_left text whole.version version whole.members behind read members noted cut (begins_with text whole read h)) in (
      one.version,
      one.members,
      read_first whole.version (first_chain whole.version whole.members) read noted (behind ++ cut.cut.0) (first_is whole.version whole.members)
          h.log.logged cut.logged one.rest,
    )

not_damaged : (text : List ℕ) (version : LogVersion) (members : List ℕ) (noted : List (Command Op)) (n : ℕ) → IsCutLog text version members noted
    → IsDamagedAt n text → ⊥
not_damaged text version members noted n cut h =
    let same = with_left text h.version version h.weights (h.wrong ++ h.rest) h.commands members noted cut h.cut in
    let one = one_log_head h.version version h.weights members h.commands noted ((h.wrong ++ h.rest) ++ cut.cut.0) [] h.members cut.members_ok same in
    none_wrong h.version (first_chain h.version h.weights) h.commands noted h.wrong (h.rest ++ cut.cut.0) (first_is h.version h.weights) h.logged
    cut.logged (in_place h.version h.version h.weights h.weights h.commands h.wrong refl refl h.is_wrong)
    (ap (λ t. lines_from (first_chain h.version h.weights) h.commands ++ t) (sym (append_assoc h.wrong h.rest cut.cut.0)) ∙ one.rest)

pub no_fault : (text : List ℕ) (version : LogVersion) (members : List ℕ) (noted : List (Command Op)) (fault : LogFault)
    → IsCutLog text version members noted → IsLogFault text fault → ⊥
no_fault text version members noted fault cut h =
    headed text version members cut.head.0 fault (λ f. ⊥) cut.members_ok cut.head.1 h
    (λ n damaged. not_damaged text version members noted n cut damaged)

-- ---- a log that wasn't cut

both_begin : (xs ys : List (Command Op)) → IsBeginning xs ys → IsBeginning ys xs → xs ≡ ys
both_begin [] [] h k = refl
both_begin [] (y ∷ ys) h k = cc
both_begin (x ∷ xs) [] h k = cc
both_begin (x ∷ xs) (y ∷ ys) h k =
    let first : x ≡ y = cc in
    let on : ys ≡ xs ++ h.0 = cc in
    let back : xs ≡ ys ++ k.0 = cc in
    let rest = both_begin xs ys (h.0, on) (k.0, back) in
    cc

head_first : (version : LogVersion) (members : List ℕ) (commands : List (Command Op))
    → IsBeginning (head_line version members) (log_text version members commands)
unfolding log_text
head_first version members commands = (lines_from (first_chain version members) commands, refl)

pub reads_all : (version : LogVersion) (members : List ℕ) (commands read : List (Command Op)) (whole : Whole) → IsMembers members
    → AllByRecursion IsLogged commands → IsWholeLog (log_text version members commands) whole read
    → (whole.version ≡ version) × (whole.members ≡ members) × (read ≡ commands)
reads_all version members commands read whole ok logged h =
    let text = log_text version members commands in
    let itself : IsBeginning text text = ([], sym (append-nil text)) in
    let kept = reads_kept text version members commands read whole record { members_ok = ok; logged = logged; begins = itself } h in
    let noted = reads_noted text version members commands read whole
    record { members_ok = ok; logged = logged; head = head_first version members commands; cut = itself } h in
    (kept.0, kept.1, both_begin read commands noted.2 kept.2)
