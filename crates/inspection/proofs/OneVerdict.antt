-- One thing is found of a text.
use Rattle.std.proofs.Common.{◌≡◌, ◌∙◌, inl, inr, ℕ, ◌+◌, ◌<◌, ◌≤◌, List, [], ◌∷◌, ◌++◌, length, drop, arith}
use Rattle.std.proofs.Common.{sym, ap, ap₂, subst, append-nil, length-append, take-append-drop}
use Rattle.std.proofs.lemmas.List.{drop_at}
use Rattle.object.specs.Lists.{IsBeginning}
use Rattle.object.specs.declared.command.Command.{Command}
use Rattle.bean_words.specs.declared.op.Op.{Op}
use Rattle.bean_words.specs.declared.reply.Reply.{Reply}
use Rattle.recorder.specs.Chronicles.{Chronicle}
use Rattle.chronicle.specs.CheckFaults.{IsFaultAt}
use Rattle.chronicle.specs.Checking.{IsFaultless}
use Rattle.chronicle_text.specs.Dump.{dump_text}
use Rattle.chronicle_text.specs.Reading.{IsBadLine}
use Rattle.chronicle_text.specs.Values.{IsChronicleValue}
use Rattle.chronicle.specs.declared.check_fault.What.{What}
use Rattle.command_log.specs.declared.faults.LogFault.{LogFault}
use Rattle.command_log.specs.declared.faults.LogFault.TheVariants.{Unbegun, BadHead, Damaged}
use Rattle.command_log.specs.declared.version.LogVersion.{LogVersion}
use Rattle.command_log.specs.declared.whole.Whole.{Whole}
use Rattle.command_log.specs.Faults.{IsLogFault}
use Rattle.command_log.specs.Reading.{HasRightLine, IsDamagedAt, IsWholeLog}
use Rattle.command_log.specs.Text.{log_text}
use Rattle.log_file.specs.Logs.{BeginsWithLog, IsBehind}
use Rattle.inspection.specs.Verdicts.{BeginsAsLog, CountsLog, IsDamagedLog, IsDumpVerdict, IsLogVerdict, IsVerdict, IsVerdictOn, IsVerdictOnDump}
use Rattle.inspection.specs.declared.verdict.Verdict.{Verdict}
use Rattle.inspection.specs.declared.verdict.Verdict.TheVariants.{Legal, BadLine, At, Log, LogDamaged}

-- ---- a log in front of a text

in_front : (text : List ℕ) (whole : Whole) (commands : List (Command Op)) → IsWholeLog text whole commands
    → BeginsWithLog text whole.version whole.members commands
in_front text whole commands h = record {
  members_ok = h.log.members;
  logged = h.log.logged;
  begins = (drop whole.bytes text, sym (take-append-drop whole.bytes text) ∙ ap (λ t. t ++ drop whole.bytes text) h.begins);
}

before_damage : (n : ℕ) (text : List ℕ) (h : IsDamagedAt n text) → BeginsWithLog text h.version h.weights h.commands
before_damage n text h = record { members_ok = h.members; logged = h.logged; begins = (h.wrong ++ h.rest, h.cut) }

both_begin : (xs ys : List (Command Op)) → IsBeginning xs ys → length ys ≤ length xs → xs ≡ ys
both_begin xs ys ([], e) few = sym (e ∙ append-nil xs)
both_begin xs ys (y ∷ more, e) few =
    let long = ap length e ∙ length-append xs (y ∷ more) in absurd (omega arith)

-- two logs that are alike have one text
alike : (a b : LogVersion) (v w : List ℕ) (cs ds : List (Command Op)) → a ≡ b → v ≡ w → cs ≡ ds → log_text a v cs ≡ log_text b w ds
alike a b v w cs ds version members commands =
    ap (λ n. log_text n v cs) version ∙ ap₂ (λ x y. log_text b x y) members commands

module _
    (kept : (text : List ℕ) (version : LogVersion) (members : List ℕ) (kept read : List (Command Op)) (whole : Whole)
    → BeginsWithLog text version members kept → IsWholeLog text whole read
    → (whole.version ≡ version) × (whole.members ≡ members) × IsBeginning kept read)
    (behind : (text : List ℕ) (version : LogVersion) (members : List ℕ) (kept : List (Command Op)) (fault : LogFault)
    → BeginsWithLog text version members kept → IsLogFault text fault → IsBehind (length kept) fault)
  where
    -- a text in front of which a log stands whole has no wrong line
    no_damage : (text : List ℕ) (whole : Whole) (read : List (Command Op)) (n : ℕ) → IsWholeLog text whole read → IsDamagedAt n text → ⊥
    no_damage text whole read n h damaged =
        let same = kept text damaged.version damaged.weights damaged.commands read whole (before_damage n text damaged) h in
        let far : length read + 1 < n = behind text whole.version whole.members read (Damaged n) (in_front text whole read h) damaged in
        let number = damaged.number in
        let one : damaged.commands ≡ read = both_begin damaged.commands read same.2 (omega arith) in
        let said = log_text damaged.version damaged.weights damaged.commands in
        let size : length said ≡ whole.bytes =
        ap length (alike damaged.version whole.version damaged.weights whole.members damaged.commands read (sym same.0) (sym same.1) one)
        ∙ sym h.log.bytes in
        let left : drop whole.bytes text ≡ damaged.wrong ++ damaged.rest =
        ap (drop whole.bytes) damaged.cut ∙ drop_at said (damaged.wrong ++ damaged.rest) whole.bytes size in
        h.ends (subst HasRightLine (sym left) damaged.later)

    one_begun : (text : List ℕ) (n m a b : ℕ) → BeginsAsLog text n a → BeginsAsLog text m b → (n ≡ m) × (a ≡ b)
    one_begun text n m a b is other =
        let w = is.whole in
        let v = other.whole in
        let there = kept text w.version w.members is.commands other.commands v (in_front text w is.commands is.log) other.log in
        let back = kept text v.version v.members other.commands is.commands w (in_front text v other.commands other.log) is.log in
        let more = ap length there.2.1 ∙ length-append is.commands there.2.0 in
        let one = both_begin is.commands other.commands there.2
        (let e = ap length back.2.1 ∙ length-append other.commands back.2.0 in omega arith) in
        let bytes : w.bytes ≡ v.bytes =
        is.log.log.bytes ∙ ap length (alike w.version v.version w.members v.members is.commands other.commands (sym there.0) (sym there.1) one)
        ∙ sym other.log.log.bytes in
        let left = is.left in
        let rest = other.left in
        (is.counted ∙ ap length one ∙ sym other.counted, omega arith)

    -- a log stands there, or it isn't begun
    not_begun : (text : List ℕ) (n a : ℕ) → BeginsAsLog text n a → IsLogFault text Unbegun → ⊥
    not_begun text n a is h = behind text is.whole.version is.whole.members is.commands Unbegun (in_front text is.whole is.commands is.log) h

    one_held : (text : List ℕ) (n m a b : ℕ) → CountsLog text n a → CountsLog text m b → (n ≡ m) × (a ≡ b)
    one_held text n m a b (inl is) (inl other) = one_begun text n m a b is other
    one_held text n m a b (inl is) (inr (unbegun, none, all)) = absurd (not_begun text n a is unbegun)
    one_held text n m a b (inr (unbegun, none, all)) (inl other) = absurd (not_begun text m b other unbegun)
    one_held text n m a b (inr (unbegun, none, all)) (inr (again, empty, every)) = (none ∙ sym empty, all ∙ sym every)

    one_damage : (text : List ℕ) (n m : ℕ) → IsDamagedLog text n → IsDamagedLog text m → n ≡ m
    one_damage text n m (inl is) (inl other) =
        let there : length is.commands + 1 < m = behind text is.version is.weights is.commands (Damaged m) (before_damage n text is) other in
        let back : length other.commands + 1 < n = behind text other.version other.weights other.commands (Damaged n) (before_damage m text other) is in
        let first = is.number in
        let second = other.number in
        omega arith
    one_damage text n m (inl is) (inr (bad, line)) = absurd (behind text is.version is.weights is.commands BadHead (before_damage n text is) bad)
    one_damage text n m (inr (bad, line)) (inl other) = absurd (behind text other.version other.weights other.commands BadHead (before_damage m text other) bad)
    one_damage text n m (inr (bad, line)) (inr (again, same)) = line ∙ sym same

    not_held : (text : List ℕ) (n a m : ℕ) → CountsLog text n a → IsDamagedLog text m → ⊥
    not_held text n a m (inl is) (inl damaged) = no_damage text is.whole is.commands m is.log damaged
    not_held text n a m (inl is) (inr (bad, line)) = behind text is.whole.version is.whole.members is.commands BadHead (in_front text is.whole is.commands is.log) bad
    not_held text n a m (inr (unbegun, none, all)) (inl damaged) =
        behind text damaged.version damaged.weights damaged.commands Unbegun (before_damage m text damaged) unbegun
    not_held text n a m (inr (unbegun, none, all)) (inr (bad, line)) = bad.not_begun unbegun

    pub one_log_verdict : (text : List ℕ) (v w : Verdict) → IsLogVerdict text v → IsLogVerdict text w → v ≡ w
    one_log_verdict text (Log n a) (Log m b) is other =
        let one = one_held text n m a b is other in ap₂ (λ x y. Log x y) one.0 one.1
    one_log_verdict text (Log n a) (LogDamaged m) is other = absurd (not_held text n a m is other)
    one_log_verdict text (LogDamaged m) (Log n a) is other = absurd (not_held text n a m other is)
    one_log_verdict text (LogDamaged n) (LogDamaged m) is other = ap (λ k. LogDamaged k) (one_damage text n m is other)
    one_log_verdict text (Log n a) (BadLine m) is other = absurd other
    one_log_verdict text (Log n a) (Legal s t o) is other = absurd other
    one_log_verdict text (Log n a) (At m what) is other = absurd other
    one_log_verdict text (LogDamaged n) (BadLine m) is other = absurd other
    one_log_verdict text (LogDamaged n) (Legal s t o) is other = absurd other
    one_log_verdict text (LogDamaged n) (At m what) is other = absurd other
    one_log_verdict text (BadLine n) w is other = absurd is
    one_log_verdict text (Legal s t o) w is other = absurd is
    one_log_verdict text (At n what) w is other = absurd is

module _
    (one_dump : (c d : Chronicle Op Reply) → IsChronicleValue c → IsChronicleValue d → dump_text c ≡ dump_text d → c ≡ d)
    (one_fault : (c : Chronicle Op Reply) (n m : ℕ) (v w : What) → IsFaultAt c n v → IsFaultAt c m w → (n ≡ m) × (v ≡ w))
    (faultless : (c : Chronicle Op Reply) (n : ℕ) (what : What) → IsFaultless c → IsFaultAt c n what → ⊥)
    (one_bad_line : (text : List ℕ) (n m : ℕ) → IsBadLine n text → IsBadLine m text → n ≡ m)
  where
    one_on : (c : Chronicle Op Reply) (v w : Verdict) → IsVerdictOn c v → IsVerdictOn c w → v ≡ w
    one_on c (BadLine n) w is other = absurd is
    one_on c (Log n a) w is other = absurd is
    one_on c (LogDamaged n) w is other = absurd is
    one_on c (Legal s a o) (BadLine n) is other = absurd other
    one_on c (Legal s a o) (Log n b) is other = absurd other
    one_on c (Legal s a o) (LogDamaged n) is other = absurd other
    one_on c (At m what) (BadLine n) is other = absurd other
    one_on c (At m what) (Log n b) is other = absurd other
    one_on c (At m what) (LogDamaged n) is other = absurd other
    one_on c (Legal s a o) (Legal t b p) is other =
        let submitted : s ≡ t = is.1 ∙ sym other.1 in
        let answered : a ≡ b = is.2 ∙ sym other.2 in
        let ordered : o ≡ p = is.3 ∙ sym other.3 in cc
    one_on c (Legal s a o) (At n what) is other = absurd (faultless c n what is.0 other)
    one_on c (At n what) (Legal s a o) is other = absurd (faultless c n what other.0 is)
    one_on c (At n v) (At m w) is other =
        let one = one_fault c n m v w is other in
        let line : n ≡ m = one.0 in
        let fault : v ≡ w = one.1 in cc

    one_on_dump : (text : List ℕ) (v w : Verdict) → IsVerdictOnDump text v → IsVerdictOnDump text w → v ≡ w
    one_on_dump text v w (c, is_value, is_text, is) (d, other_value, other_text, other) =
        let same = one_dump c d is_value other_value (is_text ∙ sym other_text) in
        one_on d v w (subst (λ e. IsVerdictOn e v) same is) other

    no_dump : (text : List ℕ) (n : ℕ) (v w : Verdict) → IsBadLine n text → IsVerdictOnDump text v → w ≡ v
    no_dump text n v w bad (c, is_value, is_text, is) = absurd (bad.unfinished c is_value is_text)

    pub one_dump_verdict : (text : List ℕ) (v w : Verdict) → IsDumpVerdict text v → IsDumpVerdict text w → v ≡ w
    one_dump_verdict text (BadLine n) (BadLine m) is other = ap (λ k. BadLine k) (one_bad_line text n m is other)
    one_dump_verdict text (BadLine n) (Legal s a o) is other = no_dump text n (Legal s a o) (BadLine n) is other
    one_dump_verdict text (BadLine n) (At m what) is other = no_dump text n (At m what) (BadLine n) is other
    one_dump_verdict text (Legal s a o) (BadLine n) is other = sym (no_dump text n (Legal s a o) (BadLine n) other is)
    one_dump_verdict text (At m what) (BadLine n) is other = sym (no_dump text n (At m what) (BadLine n) other is)
    one_dump_verdict text (Legal s a o) (Legal t b p) is other = one_on_dump text (Legal s a o) (Legal t b p) is other
    one_dump_verdict text (Legal s a o) (At n what) is other = one_on_dump text (Legal s a o) (At n what) is other
    one_dump_verdict text (At n what) (Legal s a o) is other = one_on_dump text (At n what) (Legal s a o) is other
    one_dump_verdict text (At n v) (At m w) is other = one_on_dump text (At n v) (At m w) is other
    one_dump_verdict text (BadLine n) (Log m b) is other = absurd other
    one_dump_verdict text (BadLine n) (LogDamaged m) is other = absurd other
    one_dump_verdict text (Legal s a o) (Log m b) is other = absurd other
    one_dump_verdict text (Legal s a o) (LogDamaged m) is other = absurd other
    one_dump_verdict text (At n v) (Log m b) is other = absurd other
    one_dump_verdict text (At n v) (LogDamaged m) is other = absurd other
    one_dump_verdict text (Log n a) w is other = absurd is
    one_dump_verdict text (LogDamaged n) w is other = absurd is

-- of a text that is read as a log, and of one that isn't
pub one_of_both : (text : List ℕ) (v w : Verdict) → (IsLogVerdict text v → IsLogVerdict text w → v ≡ w)
    → (IsDumpVerdict text v → IsDumpVerdict text w → v ≡ w) → IsVerdict text v → IsVerdict text w → v ≡ w
one_of_both text v w log dump (inl (begins, is)) (inl (too, other)) = log is other
one_of_both text v w log dump (inl (begins, is)) (inr (otherwise, other)) = absurd (otherwise begins)
one_of_both text v w log dump (inr (otherwise, is)) (inl (begins, other)) = absurd (otherwise begins)
one_of_both text v w log dump (inr (otherwise, is)) (inr (too, other)) = dump is other
