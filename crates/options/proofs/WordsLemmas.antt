-- From what clap says of a parse to what the words ask for.
use Rattle.std.proofs.Common.{◌≡◌, ◌≢◌, ◌∙◌, ◌<◌, ◌≤◌, ◌^◌, ℕ, arith, true, List, Option, None, Some, Result, Ok, Err}
use Rattle.std.proofs.Common.{unwrap_or, Bool, false, if◌then◌else◌, codes, bytes_eq, refl, sym, ap, subst, inl, inr}
use Rattle.std.specs.Str.Parse.{ParsesBool, ParsesUnsigned}
use Rattle.std.proofs.lemmas.Slice.Eq.{bytes_eq-Decides}
use Rattle.bean_codec.specs.declared.profile.Profile.TheVariants.{Plain, Extended}
use Rattle.clap.specs.Words.{App, HasKind, IsAmong, Kinds, ReadsOne, fault_of, is_simple, is_simple_and_free, kind_of}
use Rattle.clap.specs.declared.error.Error.{Error}
use Rattle.clap.specs.declared.error.kind.ErrorKind.{ErrorKind}
use Rattle.clap.specs.declared.error.kind.ErrorKind.TheVariants.{OutOfMemory}
use Rattle.clap.proofs.OnLiterals.{clap_on_literals}
use Rattle.options.specs.Numbers.{IsNumberOr, IsNumberIfGiven, Writes}
use Rattle.options.specs.Words.{errors_in, profile_by, program_command, run_command, serve_command, inspect_command}

pub is_simple-program_command : is_simple program_command ≡ true
unfolding program_command run_command serve_command inspect_command clap_on_literals
is_simple-program_command = refl

pub is_simple_and_free-program_command : is_simple_and_free program_command ≡ true
unfolding program_command run_command serve_command inspect_command clap_on_literals
is_simple_and_free-program_command = refl

-- what holds of the errors of a simple command holds of those of the program's
pub holds_of_errors : (P : Kinds → Type 0) (a : App) (words : List (List ℕ)) → a ≡ program_command
    → (is_simple_and_free a ≡ true → P (fault_of a words)) → P (errors_in words)
unfolding errors_in
holds_of_errors P a words is h =
    subst (λ (b : App). P (fault_of b words)) is (h (ap is_simple_and_free is ∙ is_simple_and_free-program_command))

-- a kind that is not want of memory is one of those that clap found
pub among_errors : (k : ErrorKind) (kinds : Kinds) (e : Error) → k ≡ kind_of e → k ≢ OutOfMemory → HasKind kinds e → IsAmong k kinds
among_errors k kinds e is not_memory (inl memory) = absurd (not_memory (is ∙ memory))
among_errors k kinds e is not_memory (inr among) = subst (λ (j : ErrorKind). IsAmong j kinds) (sym is) among

-- a number that a text writes is read, where the bits are enough for it
digits_read : (bits : ℕ) (E : Type 0) (gives : List ℕ → Result ℕ E → Type 0)
    → ((t : List ℕ) (r : Result ℕ E) → gives t r → ParsesUnsigned bits 10 t r)
    → (m : ℕ) (t : List ℕ) → m < 2 ^ bits → Writes t m
    → (read : Option ℕ) → ReadsOne gives t read → read ≡ Some m
digits_read bits E gives parses m t fits writes None (e, given) =
    let r : Result ℕ E = Err e in
    absurd (parses t r given (writes.0, subst (λ v. v < 2 ^ bits) (sym writes.1) fits))
digits_read bits E gives parses m t fits writes (Some v) given =
    let r : Result ℕ E = Ok v in
    ap (λ n. Some n) ((parses t r given).1 ∙ writes.1)

-- and without a text it is the default
pub number_read : (bits default least most : ℕ) → most < 2 ^ bits → (E : Type 0) (gives : List ℕ → Result ℕ E → Type 0)
    → ((t : List ℕ) (r : Result ℕ E) → gives t r → ParsesUnsigned bits 10 t r)
    → (text : Option (List ℕ)) (read : Option ℕ) → (text ≡ None → read ≡ None)
    → ((t : List ℕ) → text ≡ Some t → ReadsOne gives t read) → IsNumberOr default least most text (unwrap_or read default)
number_read bits default least most fits E gives parses None read none some = ap (λ r. unwrap_or r default) (none refl)
number_read bits default least most fits E gives parses (Some t) read none some = λ m above below writes.
    ap (λ r. unwrap_or r default) (digits_read bits E gives parses m t (omega (arith, below, fits)) writes read (some t refl))

-- without a default there is no number then
pub number_if_read : (bits least most : ℕ) → most < 2 ^ bits → (E : Type 0) (gives : List ℕ → Result ℕ E → Type 0)
    → ((t : List ℕ) (r : Result ℕ E) → gives t r → ParsesUnsigned bits 10 t r)
    → (text : Option (List ℕ)) (read : Option ℕ) → (text ≡ None → read ≡ None)
    → ((t : List ℕ) → text ≡ Some t → ReadsOne gives t read) → IsNumberIfGiven least most text read
number_if_read bits least most fits E gives parses None read none some = none refl
number_if_read bits least most fits E gives parses (Some t) read none some = λ m above below writes.
    digits_read bits E gives parses m t (omega (arith, below, fits)) writes read (some t refl)

-- the default stands for a number out of range, which no text writes
pub out_of_range : (default least most n : ℕ) (text : Option (List ℕ)) → IsNumberOr default least most text n
    → least ≤ default → default ≤ most → ((least ≤ n) → (n ≤ most) → ⊥) → IsNumberOr default least most text default
out_of_range default least most n None is above below out = refl
out_of_range default least most n (Some t) is above below out = λ m low high e.
    let same = is m low high e in absurd (out (omega (arith, same, low)) (omega (arith, same, high)))

-- what is no `true` says so
other_text : (t : List ℕ) → t ≢ codes "true" → bytes_eq t (codes "true") ≡ false
other_text t other = go (bytes_eq t (codes "true")) refl
  where
    go : (b : Bool) → bytes_eq t (codes "true") ≡ b → bytes_eq t (codes "true") ≡ false
    go true is = absurd (other ((bytes_eq-Decides t (codes "true")).0 is))
    go false is = is

-- the profile is read from the text of a switch
pub profile_read : (E : Type 0) (text : Option (List ℕ)) (read : Option Bool) → (text ≡ None → read ≡ None)
    → ((t : List ℕ) → text ≡ Some t → ReadsOne (ParsesBool {E = E}) t read)
    → profile_by text ≡ (if unwrap_or read false then Extended else Plain)
profile_read E None read none some = ap (λ (r : Option Bool). if unwrap_or r false then Extended else Plain) (sym (none refl))
profile_read E (Some t) read none some =
    profile_of t read (some t refl)
  where
    profile_of : (t : List ℕ) (read : Option Bool) → ReadsOne (ParsesBool {E = E}) t read
        → (if bytes_eq t (codes "true") then Extended else Plain) ≡ (if unwrap_or read false then Extended else Plain)
    profile_of t (Some true) is =
        ap (λ (b : Bool). if b then Extended else Plain) ((bytes_eq-Decides t (codes "true")).1 is)
    profile_of t (Some false) is =
        ap (λ (b : Bool). if b then Extended else Plain)
        (other_text t (λ same. let text : codes "false" ≡ codes "true" = sym is ∙ same in absurd (cc)))
    profile_of t None is = ap (λ (b : Bool). if b then Extended else Plain) (other_text t is.1.0)
