-- What a line says in both profiles.
use Rattle.std.proofs.Common.{◌≡◌, ◌⊎◌, inl, inr, ℕ, Bool, true, false, List, [], ◌∷◌, ◌++◌, length, Option, Some, None, Result, Ok, Err}
use Rattle.std.proofs.Common.{refl, subst, cond}
use Rattle.std.specs.Prelude.{nat_lt}
use Rattle.bean_codec.specs.declared.profile.Profile.TheVariants.{Plain, Extended}
use Rattle.bean_codec.specs.declared.command.CommandName.{CommandName}
use Rattle.bean_codec.specs.declared.request.Request.{Request}
use Rattle.bean_codec.specs.declared.request.Fault.{Fault}
use Rattle.bean_codec.specs.declared.request.Fault.TheVariants.{BadFormat, UnknownCommand}
use Rattle.bean_codec.specs.declared.line.Meaning.{Meaning}
use Rattle.bean_codec.specs.Lines.{crlf}
use Rattle.bean_codec.specs.Words.{words, begins_with_no_word}
use Rattle.bean_codec.specs.Commands.{plain_command, stats_command, command_of}
use Rattle.bean_codec.specs.Grammar.{Completes, IsStatsLine, Spells, command_line, meaning, longest_line}

-- the same, or unknown in the plain profile where this holds
abbrev SameOr : Type 0 → Result Meaning Fault → Result Meaning Fault → Type 0
SameOr Adds plain extended = (plain ≡ extended) ⊎ (Adds × (plain ≡ Err UnknownCommand))

of_first : (line first : List ℕ) (rest : List (List ℕ)) (plain more : Option CommandName) → words line ≡ first ∷ rest
    → plain_command first ≡ plain → stats_command first ≡ more
    → SameOr (IsStatsLine line) (command_line Plain (first ∷ rest)) (command_line Extended (first ∷ rest))
unfolding command_line command_of
of_first line first rest (Some command) more is plain_is more_is = inl (rw plain_is refl)
of_first line first rest None (Some command) is plain_is more_is = inr ((first, rest, is, rw more_is refl), rw plain_is refl)
of_first line first rest None None is plain_is more_is = inl (rw (plain_is, more_is) refl)

of_words : (line : List ℕ) (all : List (List ℕ)) → words line ≡ all
    → SameOr (IsStatsLine line) (command_line Plain all) (command_line Extended all)
unfolding command_line
of_words line [] is = inl refl
of_words line (first ∷ rest) is = of_first line first rest (plain_command first) (stats_command first) is refl refl

of_line : (Adds : Type 0) (long wordless : Bool) (plain extended : Result Meaning Fault) → SameOr Adds plain extended
    → SameOr Adds (cond long (Err BadFormat) (cond wordless (Err UnknownCommand) plain))
    (cond long (Err BadFormat) (cond wordless (Err UnknownCommand) extended))
of_line Adds true wordless plain extended h = inl refl
of_line Adds false true plain extended h = inl refl
of_line Adds false false plain extended h = h

-- a line says the same in both, or its first word is of the extended one alone
pub both_say : (line : List ℕ) → (meaning Plain line ≡ meaning Extended line) ⊎ (IsStatsLine line × (meaning Plain line ≡ Err UnknownCommand))
unfolding meaning
both_say line =
    of_line (IsStatsLine line) (nat_lt longest_line (length (line ++ crlf))) (begins_with_no_word line)
    (command_line Plain (words line)) (command_line Extended (words line)) (of_words line (words line) refl)

-- what is a request of the plain profile is the same of the extended one
pub request_stays : (text : List ℕ) (request : Request) → Spells Plain text (Ok request) → Spells Extended text (Ok request)
request_stays text request s =
    let P : Result Meaning Fault → Type 0 = λ m. Completes m s.rest (Ok request) in
    let completes : P (meaning Extended s.line) = elim (both_say s.line) as (λ v. P (meaning Extended s.line)) [
      | inl same ↦ subst P same s.completes
      | inr unknown ↦ absurd (let none : Completes (Err UnknownCommand) s.rest (Ok request) = subst P unknown.1 s.completes in let e = none.1 in cc)
    ] in
    record { line = s.line; rest = s.rest; is_line = s.is_line; cut = s.cut; completes = completes }
