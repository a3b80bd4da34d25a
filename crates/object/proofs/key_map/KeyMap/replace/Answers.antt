use Rattle.std.proofs.Common.{ℕ, List, IsSome, Some, ap, sym, subst, ◌∙◌}
use mathlib.Core.Bool.{false≢true}
use Rattle.std.specs.Option.{option_and_then, option_copied_mut}
use Rattle.object.specs.KeyMaps.{at_key, with_key}
use Rattle.object.specs.NumberMaps.{value_of}
use Rattle.object.proofs.KeyMaps.{written_at}
use Rattle.object.proofs.key_map.KeyMap.replace.Goals as goal

pub replace-requires : goal.replace-requires
replace-requires g c =
    subst IsSome
    (ap (λ (m : List (ℕ × List (ℕ × _))). at_key m c.args.key) (sym c.self.view_is)
    ∙ ap (option_and_then (λ (numbers : List (ℕ × _)). value_of numbers c.args.key.number)) (sym c.in-Some.ensures.value))
    c.requires

-- a key of a session that isn't there has no value
pub unreachable-requires : goal.unreachable-requires
unreachable-requires g c =
    absurd (false≢true (subst IsSome
    (ap (λ (m : List (ℕ × List (ℕ × _))). at_key m c.args.key) (sym c.self.view_is)
    ∙ ap (option_and_then (λ (numbers : List (ℕ × _)). value_of numbers c.args.key.number)) (sym c.get_mut.ensures.value ∙ ap option_copied_mut c.in-None.is))
    c.requires))

pub returns : goal.returns
returns g c q =
    written_at c.self.inside.sessions (c.get_mut.follows.lender c.replace.new.self) c.args.key c.in-Some.numbers.now c.replace.new.self (Some c.args.value)
    c.in-Some.ensures.value (c.get_mut.follows.holds c.replace.new.self) c.replace.ensures q
    ∙ ap (λ (m : List (ℕ × List (ℕ × _))). with_key (at_key m) c.args.key c.args.value q) c.self.view_is
