-- Words that name the version first call for it alone.
use Rattle.std.proofs.Common.{◌≡◌, ◌∙◌, false, inl, inr, ℕ, List, [], ◌∷◌, None, Some, codes, bytes_eq, refl, sym, subst}
use Rattle.std.proofs.lemmas.Bool.{false≢true}
use Rattle.std.proofs.lemmas.Slice.Eq.{bytes_eq-Decides}
use Rattle.clap.specs.Words.{IsAmong, Kinds}
use Rattle.clap.specs.declared.error.kind.ErrorKind.TheVariants.{DisplayHelp, DisplayVersion, UnknownArgument}
use Rattle.clap.proofs.OnLiterals.{clap_on_literals}
use Rattle.options.specs.Weights.{AreMembersOf}
use Rattle.options.specs.declared.words.Action.{Action}
use Rattle.options.specs.declared.words.Action.TheVariants.{Run, Serve, Inspect, BadWeights, BadHost, Help, Version, Wrong}
use Rattle.options.specs.Words.{AreWrong, AskForVersion, IsAskedBy, NameVersion, command_given, errors_in, text_given, word_given}
use Rattle.options.specs.Words.{program_command, run_command, serve_command, inspect_command}

long_is : (program : List ℕ) (rest : List (List ℕ)) → errors_in (program ∷ codes "--version" ∷ rest) ≡ DisplayVersion ∷ []
unfolding errors_in program_command run_command serve_command inspect_command clap_on_literals
long_is program rest = refl

short_is : (program : List ℕ) (rest : List (List ℕ)) → errors_in (program ∷ codes "-V" ∷ rest) ≡ DisplayVersion ∷ []
unfolding errors_in program_command run_command serve_command inspect_command clap_on_literals
short_is program rest = refl

behind_is : (program : List ℕ) → errors_in (program ∷ codes "serve" ∷ codes "--version" ∷ []) ≡ UnknownArgument ∷ []
unfolding errors_in program_command run_command serve_command inspect_command clap_on_literals
behind_is program = refl

command_is : (program : List ℕ) → errors_in (program ∷ codes "version" ∷ []) ≡ []
unfolding errors_in program_command run_command serve_command inspect_command clap_on_literals
command_is program = refl

given_is : (program : List ℕ) → command_given (program ∷ codes "version" ∷ []) ≡ Some (codes "version")
unfolding command_given program_command run_command serve_command inspect_command clap_on_literals
given_is program = refl

no_text : (program id : List ℕ) → text_given (program ∷ codes "version" ∷ []) id ≡ None
unfolding text_given program_command run_command serve_command inspect_command clap_on_literals
no_text program id = refl

no_word : (program id : List ℕ) → word_given (program ∷ codes "version" ∷ []) id ≡ None
unfolding word_given program_command run_command serve_command inspect_command clap_on_literals
no_word program id = refl

some : {kinds : Kinds} → kinds ≡ DisplayVersion ∷ [] → kinds ≡ [] → ⊥
some found none = absurd (cc)

among : {kinds : Kinds} → kinds ≡ DisplayVersion ∷ [] → IsAmong DisplayVersion kinds
among found = subst (λ kinds. IsAmong DisplayVersion kinds) (sym found) (inl refl)

other : (name : List ℕ) → bytes_eq name (codes "version") ≡ false → (program : List ℕ)
    → command_given (program ∷ codes "version" ∷ []) ≡ Some name → ⊥
other name differs program named =
    let same : name ≡ codes "version" = some_same (sym named ∙ given_is program) in
    false≢true (sym differs ∙ (bytes_eq-Decides name (codes "version")).1 same)
  where
    some_same : {a b : List ℕ} → Some a ≡ Some b → a ≡ b
    some_same e = cc

no_members : (program : List ℕ) → AreMembersOf (text_given (program ∷ codes "version" ∷ []) (codes "nodes"))
    (word_given (program ∷ codes "version" ∷ []) (codes "weights")) None → ⊥
no_members program none =
    let given = subst (λ w. AreMembersOf None w None) (no_word program (codes "weights"))
    (subst (λ t. AreMembersOf t (word_given (program ∷ codes "version" ∷ []) (codes "weights")) None) (no_text program (codes "nodes")) none) in
    let same = given.4 in absurd (cc)

-- where clap finds that the version is called for, nothing else is asked
none_but_it : (words : List (List ℕ)) (action : Action) → errors_in words ≡ DisplayVersion ∷ [] → IsAskedBy words action → action ≡ Version
none_but_it words (Run options) found is = absurd (some found is.0.0)
none_but_it words (Serve options) found is = absurd (some found is.0.0)
none_but_it words (Inspect file) found is = absurd (some found is.0.0)
none_but_it words BadWeights found is = absurd (some found is.0)
none_but_it words BadHost found is = absurd (some found is.0.0)
none_but_it words (Help text) found is = absurd (elim (subst (λ kinds. IsAmong DisplayHelp kinds) found is.0) as (λ v. ⊥) [
  | inl same ↦ absurd (cc)
  | inr never ↦ never
])
none_but_it words Version found is = refl
none_but_it words (Wrong text) found is = absurd (elim (subst (λ kinds. IsAmong is.0.0 kinds) found is.0.3) as (λ v. ⊥) [
  | inl same ↦ is.0.2 same
  | inr never ↦ never
])

-- and where `version` stands alone
none_beside : (program : List ℕ) (action : Action) → IsAskedBy (program ∷ codes "version" ∷ []) action → action ≡ Version
none_beside program (Run options) is = absurd (other (codes "run") refl program is.0.1)
none_beside program (Serve options) is = absurd (other (codes "serve") refl program is.0.1)
none_beside program (Inspect file) is = absurd (other (codes "inspect") refl program is.0.1)
none_beside program BadWeights is = absurd (no_members program is.1)
none_beside program BadHost is = absurd (other (codes "serve") refl program is.0.1)
none_beside program (Help text) is = absurd (subst (λ kinds. IsAmong DisplayHelp kinds) (command_is program) is.0)
none_beside program Version is = refl
none_beside program (Wrong text) is = absurd (subst (λ kinds. IsAmong is.0.0 kinds) (command_is program) is.0.3)

pub asked : (words : List (List ℕ)) → NameVersion words → AskForVersion words
asked [] named = absurd named
asked (program ∷ []) named = absurd named
asked (program ∷ first ∷ rest) (inl long) =
    inl (subst (λ w. IsAmong DisplayVersion (errors_in (program ∷ w ∷ rest))) (sym long) (among (long_is program rest)))
asked (program ∷ first ∷ rest) (inr (inl short)) =
    inl (subst (λ w. IsAmong DisplayVersion (errors_in (program ∷ w ∷ rest))) (sym short) (among (short_is program rest)))
asked (program ∷ first ∷ rest) (inr (inr command)) =
    subst (λ w. AskForVersion (program ∷ w ∷ rest)) (sym command.0)
    (subst (λ ws. AskForVersion (program ∷ codes "version" ∷ ws)) (sym command.1) (inr (command_is program, given_is program)))

pub alone : (words : List (List ℕ)) (action : Action) → NameVersion words → IsAskedBy words action → action ≡ Version
alone [] action named is = absurd named
alone (program ∷ []) action named is = absurd named
alone (program ∷ first ∷ rest) action (inl long) is =
    none_but_it (program ∷ codes "--version" ∷ rest) action (long_is program rest) (subst (λ w. IsAskedBy (program ∷ w ∷ rest) action) long is)
alone (program ∷ first ∷ rest) action (inr (inl short)) is =
    none_but_it (program ∷ codes "-V" ∷ rest) action (short_is program rest) (subst (λ w. IsAskedBy (program ∷ w ∷ rest) action) short is)
alone (program ∷ first ∷ rest) action (inr (inr command)) is =
    none_beside program action
    (subst (λ ws. IsAskedBy (program ∷ codes "version" ∷ ws) action) command.1
    (subst (λ w. IsAskedBy (program ∷ w ∷ rest) action) command.0 is))

pub first : (program : List ℕ) → AreWrong (program ∷ codes "serve" ∷ codes "--version" ∷ [])
first program = (
  UnknownArgument,
  λ e. cc,
  λ e. cc,
  subst (λ kinds. IsAmong UnknownArgument kinds) (sym (behind_is program)) (inl refl),
)
