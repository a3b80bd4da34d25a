use Rattle.std.proofs.Common.{◌≡◌, ℕ, List, not, rules, tests, sym, ap, ◌∙◌}
use Rattle.std.proofs.lemmas.Iterator.Adapters.{option_map_id}
use Rattle.std.proofs.lemmas.Iterator.Consumers.{YieldsList-from_copied, YieldsList-from_rest}
use Rattle.std.proofs.lemmas.Iterator.Search.{find_from_yields_List}
use Rattle.std.specs.List.{find}
use Rattle.std.specs.FinMap.{contains_key}
use Rattle.std.specs.Map.{keys_of}
use Rattle.slot_log.specs.Decisions.{undecided}
use Rattle.slot_log.proofs.slot_log.SlotLog.undecided.Goals as goal

pub returns : goal.returns
returns g c =
    let keys = keys_of c.entries.result.now.entries in
    let found : c.find.result ≡ find (λ s. not (contains_key c.self.inside.decisions s)) keys =
    sym (option_map_id c.find.result)
    ∙ find_from_yields_List (λ s. not (contains_key c.self.inside.decisions s)) _ _ c.find.result c.find.ensures.ran
    (YieldsList-from_copied (YieldsList-from_rest keys cc)) (λ x b q k. search (rules, tests)) in
    found
    ∙ ap (λ (es : List (ℕ × _)). find (λ s. not (contains_key c.self.inside.decisions s)) (keys_of es)) c.entries.ensures
    ∙ ap undecided c.self.view_is
