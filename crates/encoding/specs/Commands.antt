-- Commands as bytes: a key, and what it asks for.
use Rattle.std.proofs.Common.{◌≡◌, ℕ, cond, eqb, List, [], ◌∷◌, ◌++◌, Option, Some, None, refl, ap}
use Rattle.std.specs.Prelude.{⊤}
use Rattle.object.specs.declared.command.Act.{Act}
use Rattle.object.specs.declared.command.Act.TheVariants.{Do, Close, Tick}
use Rattle.object.specs.declared.command.Key.{Key}
use Rattle.object.specs.Commands.{KeyedAct, IsCommand}
use Rattle.encoding.specs.Formats.{◌>>=◌, AreBytes, Takes, Format, no_value}
use Rattle.encoding.specs.Numbers.{u32_format, u64_format}
use Rattle.encoding.specs.Joined.{nothing, both, seen, ruled}
use Rattle.encoding.specs.Variants.{read_as, of_kind, by_choice}
use Rattle.encoding.specs.Decisions.{command_rule}

-- a session, and which of its requests it is
abbrev pub key_format : Format Key
key_format = seen (both u32_format u64_format) (λ k. (k.session, k.number)) (λ p. record { session = p.0; number = p.1 })
    (λ k. refl) (λ p. refl)

-- which kind of act it is, and the operation if it is one
abbrev pub act_format : {Op : Type 0} → Format Op → Format (Act Op)
act_format {Op} f = record { bytes = act_bytes; at = act_at; Fits = FitsAct; takes = act_takes; again = act_again }
  where
    act_bytes : Act Op → List ℕ
    act_bytes (Do op) = 0 ∷ f.bytes op
    act_bytes Close = 1 ∷ []
    act_bytes Tick = 2 ∷ []

    act_of : ℕ → List ℕ → Option (Act Op × List ℕ)
    act_of t text =
        cond (eqb t 0) (read_as f Do text)
        (cond (eqb t 1) (Some (Close, text)) (cond (eqb t 2) (Some (Tick, text)) None))

    act_at : List ℕ → Option (Act Op × List ℕ)
    act_at [] = None
    act_at (t ∷ text) = act_of t text

    FitsAct : Act Op → Type 0
    FitsAct (Do op) = f.Fits op
    FitsAct Close = ⊤
    FitsAct Tick = ⊤

    act_takes : (text : List ℕ) (act : Act Op) (rest : List ℕ) → AreBytes text → act_at text ≡ Some (act, rest)
        → Takes text (act_bytes act) rest × FitsAct act
    act_takes [] act rest are e = no_value (act, rest) e
    act_takes (t ∷ text) act rest are e =
        by_choice (eqb t 0) (read_as f Do text)
        (cond (eqb t 1) (Some (Close, text)) (cond (eqb t 2) (Some (Tick, text)) None)) (act, rest) e
        (λ is h. of_kind f Do act_bytes FitsAct t 0 (λ op. refl) (λ op fits. fits) text act rest are is h)
        (λ h. by_choice (eqb t 1) (Some (Close, text)) (cond (eqb t 2) (Some (Tick, text)) None) (act, rest) h
        (λ is k. of_kind nothing (λ u. Close) act_bytes FitsAct t 1 (λ u. refl) (λ u fits. tt) text act rest are is k)
        (λ k. by_choice (eqb t 2) (Some (Tick, text)) None (act, rest) k
        (λ is l. of_kind nothing (λ u. Tick) act_bytes FitsAct t 2 (λ u. refl) (λ u fits. tt) text act rest are is l)
        (λ l. no_value (act, rest) l)))

    act_again : (act : Act Op) (rest : List ℕ) → FitsAct act → act_at (act_bytes act ++ rest) ≡ Some (act, rest)
    act_again (Do op) rest fits = ap (λ r. r >>= λ o. Some (Do o.0, o.1)) (f.again op rest fits)
    act_again Close rest fits = refl
    act_again Tick rest fits = refl

-- a key, and an act that it may ask for
abbrev pub command_format : {Op : Type 0} → Format Op → Format (KeyedAct Op)
command_format f =
    ruled (seen (both key_format (act_format f)) (λ c. (c.key, c.act)) (λ p. record { key = p.0; act = p.1 }) (λ c. refl)
    (λ p. refl)) IsCommand command_rule
