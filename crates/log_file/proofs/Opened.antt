-- What is read of a locked file, and what is opened there.
use Rattle.std.proofs.Common.{◌≡◌, ◌≢◌, ℕ, ◌≤◌, ◌^◌, List, ◌++◌, length}
use Rattle.std.proofs.Common.{Option, None, Some, Result, Ok, Err, IfOk, IfErr, IfSome, sym, ap, subst, ◌∙◌, arith}
use Rattle.std.proofs.Common.{append-nil, length-append}
use Rattle.command_log.specs.declared.faults.LogFault.TheVariants.{Unbegun}
use Rattle.command_log.specs.Faults.{IsLogFault}
use Rattle.log_file.specs.declared.faults.OpenFault.{OpenFault}
use Rattle.log_file.specs.declared.faults.OpenFault.TheVariants as open_fault
use Rattle.log_file.specs.declared.faults.ReadFault.{ReadFault}
use Rattle.log_file.specs.declared.faults.ReadFault.TheVariants as fault
use Rattle.log_file.specs.declared.file.OpenedLog.{OpenedLog}
use Rattle.log_file.specs.declared.reader.Recovered.{Recovered}
use Rattle.log_file.specs.Bytes.{known_from}
use Rattle.log_file.specs.Faults.{IsReadFault, IsUnreadBy}
use Rattle.log_file.specs.Opening.{CutsOff, HoldsOpened, IsOpenedOf, IsReadOf, Opens}
use Rattle.log_file.specs.Reads.{IsRecovered, ReadsAll, ReadsSome}

-- ---- what is read of known bytes

-- what is so of all bytes that were left is so of the text
all_of : (after : Option (List ℕ)) (text : List ℕ) (P : List ℕ → Type 0) → ReadsAll (Some text) after P → P text
all_of None text P h = absurd h.1
all_of (Some left) text P h =
    subst P (sym (h.1 ∙ ap (λ (l : List ℕ). h.0 ++ l) h.2.0 ∙ append-nil h.0)) h.2.1

-- so many bytes are no more than the text has
long_of : (after : Option (List ℕ)) (text : List ℕ) → ReadsSome (Some text) after (λ read. 2 ^ 64 ≤ length read) → 2 ^ 64 ≤ length text
long_of None text h = absurd h.1
long_of (Some left) text h =
    let cut = ap length h.1 in
    let long = length-append h.0 left in
    let read = h.2 in
    omega arith

fault_of : (after : Option (List ℕ)) (text : List ℕ) (f : ReadFault) → IsReadFault (Some text) after f → IsReadOf text (Err f)
fault_of after text fault.OutOfMemory h = tt
fault_of after text (fault.ReadFailed e) h = tt
fault_of after text fault.TooLong h = long_of after text h
fault_of after text (fault.NoLog f) h = all_of after text (λ read. IsLogFault read f) h

read_of : (after : Option (List ℕ)) (text : List ℕ) (result : Result Recovered ReadFault)
    → IfOk result (λ recovered. ReadsAll (Some text) after (λ read. IsRecovered read recovered))
    → IfErr result (IsReadFault (Some text) after) → IsReadOf text result
read_of after text (Ok recovered) ok err = all_of after text (λ read. IsRecovered read recovered) ok
read_of after text (Err f) ok err = fault_of after text f err

-- of a file's bytes from the first one on
pub read_from_start : (known after : Option (List ℕ)) (result : Result Recovered ReadFault)
    → IfOk result (λ recovered. ReadsAll (known_from known 0) after (λ read. IsRecovered read recovered))
    → IfErr result (IsReadFault (known_from known 0) after) → (text : List ℕ) → known ≡ Some text → IsReadOf text result
read_from_start None after result ok err text same = absurd (subst (λ (known : Option (List ℕ)). IfSome known (λ _. ⊥)) same tt)
read_from_start (Some held) after result ok err text same =
    subst (λ (known : Option (List ℕ)). IfSome known (λ t. IsReadOf t result)) same (read_of after held result ok err)

-- ---- what is opened

pub opened_of : {W : Type 0} (known : Option (List ℕ)) (new : List ℕ) (read : Result Recovered ReadFault) (result : Result (OpenedLog W) OpenFault)
    → ((text : List ℕ) → known ≡ Some text → IsReadOf text read)
    → IfOk result (λ o. Opens read new o.members o.commands.items o.cut)
    → IfOk result (λ o. (text : List ℕ) → known ≡ Some text → CutsOff text read o.cut)
    → IfOk result (λ o. (text : List ℕ) → known ≡ Some text → IsOpenedOf text new o.members o.commands.items o.cut)
opened_of known new read (Ok o) is opens cuts =
    λ text same. record { read = read; of = is text same; opens = opens; cuts = cuts text same }
opened_of known new read (Err e) is opens cuts = tt

pub held_of : {W : Type 0} (contents : W → Option (List ℕ)) (known : Option (List ℕ)) (read : Result Recovered ReadFault)
    (result : Result (OpenedLog W) OpenFault) → ((text : List ℕ) → known ≡ Some text → IsReadOf text read)
    → IfOk result (λ o. (text : List ℕ) → known ≡ Some text → IsReadOf text read → HoldsOpened contents o)
    → IfOk result (λ o. (text : List ℕ) → known ≡ Some text → HoldsOpened contents o)
held_of contents known read (Ok o) is holds = λ text same. holds text same (is text same)
held_of contents known read (Err e) is holds = tt

-- ---- why nothing is opened

unread_fault : (text : List ℕ) (read : Result Recovered ReadFault) (f : OpenFault) → IsReadOf text read
    → IsUnreadBy (λ e. (read ≡ Err e) × (e ≢ fault.NoLog Unbegun)) f
    → IsUnreadBy (λ e. IsReadOf text (Err e) × (e ≢ fault.NoLog Unbegun)) f
unread_fault text read open_fault.OutOfMemory is h = tt
unread_fault text read open_fault.Locked is h = absurd h
unread_fault text read open_fault.NotAFile is h = absurd h
unread_fault text read (open_fault.FileFailed e) is h = tt
unread_fault text read (open_fault.Unread e) is h = (subst (IsReadOf text) h.0 is, h.1)
unread_fault text read (open_fault.Unkept e) is h = tt

pub unread_of : {T : Type 0} (known : Option (List ℕ)) (read : Result Recovered ReadFault) (result : Result T OpenFault)
    → ((text : List ℕ) → known ≡ Some text → IsReadOf text read)
    → IfErr result (IsUnreadBy (λ e. (read ≡ Err e) × (e ≢ fault.NoLog Unbegun)))
    → (text : List ℕ) → known ≡ Some text → IfErr result (IsUnreadBy (λ e. IsReadOf text (Err e) × (e ≢ fault.NoLog Unbegun)))
unread_of known read (Ok o) is h text same = tt
unread_of known read (Err f) is h text same = unread_fault text read f (is text same) h
