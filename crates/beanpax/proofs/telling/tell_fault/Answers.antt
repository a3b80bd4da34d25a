-- Each number has a digit or two.
use Rattle.std.proofs.Common.{◌≡◌, ◌∙◌, ◌++◌, ℕ, refl, sym, ap, subst, codes, decimal, append_assoc, arith}
use Rattle.std.proofs.lemmas.Fmt.{decimal_digit, decimal_step}
use Rattle.beanpax.specs.Faults.{fault_line_text}
use Rattle.beanpax.specs.Program.{WritesText}
use Rattle.beanpax.specs.declared.faults.ProgramFault.TheVariants.{OutOfMemory, BadNumber, ReadFailed, WriteFailed}
use Rattle.beanpax.specs.declared.faults.ProgramFault.TheVariants.{ServiceStopped, ListenFailed, FileFailed}
use Rattle.beanpax.specs.declared.faults.ProgramFault.TheVariants.{ThreadFailed, LogDamaged}
use Rattle.beanpax.proofs.telling.tell_fault.Goals as goal

out_of_memory : fault_line_text OutOfMemory ≡ codes "beanpax: 1 out of memory\n"
unfolding fault_line_text
out_of_memory = rw (decimal_digit 1 (omega arith)) refl

bad_number : fault_line_text BadNumber ≡ codes "beanpax: 6 bad number\n"
unfolding fault_line_text
bad_number = rw (decimal_digit 6 (omega arith)) refl

read_failed : fault_line_text ReadFailed ≡ codes "beanpax: 7 read failed\n"
unfolding fault_line_text
read_failed = rw (decimal_digit 7 (omega arith)) refl

write_failed : fault_line_text WriteFailed ≡ codes "beanpax: 8 write failed\n"
unfolding fault_line_text
write_failed = rw (decimal_digit 8 (omega arith)) refl

service_stopped : fault_line_text ServiceStopped ≡ codes "beanpax: 9 service stopped\n"
unfolding fault_line_text
service_stopped = rw (decimal_digit 9 (omega arith)) refl

cannot_listen : fault_line_text ListenFailed ≡ codes "beanpax: 12 cannot listen\n"
unfolding fault_line_text
cannot_listen = rw (decimal_step 12 (omega arith) (omega arith), decimal_digit 1 (omega arith)) refl

file_failed : fault_line_text FileFailed ≡ codes "beanpax: 13 file failed\n"
unfolding fault_line_text
file_failed = rw (decimal_step 13 (omega arith) (omega arith), decimal_digit 1 (omega arith)) refl

cannot_start : fault_line_text ThreadFailed ≡ codes "beanpax: 14 cannot start a thread\n"
unfolding fault_line_text
cannot_start = rw (decimal_step 14 (omega arith) (omega arith), decimal_digit 1 (omega arith)) refl

damaged : (line : ℕ) → fault_line_text (LogDamaged line) ≡ codes "beanpax: 15 log damaged: line " ++ (decimal line ++ codes "\n")
unfolding fault_line_text
damaged line =
    rw (decimal_step 15 (omega arith) (omega arith), decimal_digit 1 (omega arith))
    (append_assoc (codes "beanpax: 15 ") (codes "log damaged: line " ++ decimal line) (codes "\n")
    ∙ ap (λ text. codes "beanpax: 15 " ++ text) (append_assoc (codes "log damaged: line ") (decimal line) (codes "\n")))

pub returns-in-OutOfMemory : goal.returns-in-OutOfMemory
returns-in-OutOfMemory g c = subst (WritesText _ _ _) (sym (ap fault_line_text c.in-OutOfMemory.is ∙ out_of_memory)) c.tell_error.ensures

pub returns-in-BadNumber : goal.returns-in-BadNumber
returns-in-BadNumber g c =
    subst (WritesText _ _ _) (sym (ap fault_line_text c.in-BadNumber.is ∙ bad_number)) c.tell_error-in-BadNumber.ensures

pub returns-in-ReadFailed : goal.returns-in-ReadFailed
returns-in-ReadFailed g c =
    subst (WritesText _ _ _) (sym (ap fault_line_text c.in-ReadFailed.is ∙ read_failed)) c.tell_error-in-ReadFailed.ensures

pub returns-in-WriteFailed : goal.returns-in-WriteFailed
returns-in-WriteFailed g c =
    subst (WritesText _ _ _) (sym (ap fault_line_text c.in-WriteFailed.is ∙ write_failed)) c.tell_error-in-WriteFailed.ensures

pub returns-in-ServiceStopped : goal.returns-in-ServiceStopped
returns-in-ServiceStopped g c =
    subst (WritesText _ _ _) (sym (ap fault_line_text c.in-ServiceStopped.is ∙ service_stopped)) c.tell_error-in-ServiceStopped.ensures

pub returns-in-ListenFailed : goal.returns-in-ListenFailed
returns-in-ListenFailed g c =
    subst (WritesText _ _ _) (sym (ap fault_line_text c.in-ListenFailed.is ∙ cannot_listen)) c.tell_error-in-ListenFailed.ensures

pub returns-in-FileFailed : goal.returns-in-FileFailed
returns-in-FileFailed g c =
    subst (WritesText _ _ _) (sym (ap fault_line_text c.in-FileFailed.is ∙ file_failed)) c.tell_error-in-FileFailed.ensures

pub returns-in-ThreadFailed : goal.returns-in-ThreadFailed
returns-in-ThreadFailed g c =
    subst (WritesText _ _ _) (sym (ap fault_line_text c.in-ThreadFailed.is ∙ cannot_start)) c.tell_error-in-ThreadFailed.ensures

pub returns-in-LogDamaged : goal.returns-in-LogDamaged
returns-in-LogDamaged g c =
    subst (WritesText _ _ _) (sym (ap fault_line_text c.in-LogDamaged.is ∙ damaged c.in-LogDamaged.line)) c.tell_number.ensures
