use Rattle.std.proofs.Common.{ℕ, List, ap, ◌∙◌}
use Rattle.std.specs.Option.{option_and_then}
use Rattle.object.specs.KeyMaps.{at_key}
use Rattle.object.specs.NumberMaps.{value_of}
use Rattle.object.proofs.key_map.KeyMap.get.Goals as goal

pub returns-in_err-get : goal.returns-in_err-get
returns-in_err-get g c =
    c.from_residual.ensures
    ∙ ap (option_and_then (λ numbers. value_of numbers c.args.key.number)) c.in_err-get.ensures.value
    ∙ ap (λ (m : List (ℕ × List (ℕ × _))). at_key m c.args.key) c.self.view_is

pub returns : goal.returns
returns g c =
    c.get-2.ensures
    ∙ ap (option_and_then (λ numbers. value_of numbers c.args.key.number)) c.in_ok-get.ensures.value
    ∙ ap (λ (m : List (ℕ × List (ℕ × _))). at_key m c.args.key) c.self.view_is
