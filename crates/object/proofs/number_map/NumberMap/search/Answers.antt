use Rattle.std.proofs.Common.{◌≡◌, ℕ, ◌<◌, ◌-◌, List, length, subst, sym, ◌∙◌}
use Rattle.object.specs.NumberMaps.{IsGapFor, number_at}
use Rattle.object.proofs.NumberMaps.{gap_at_end}
use Rattle.object.proofs.number_map.NumberMap.search.Goals as goal

pub returns-in-Some-clause-absent : goal.returns-in-Some-clause-absent
returns-in-Some-clause-absent g c =
    let es = c.self.inside.pairs.items in
    let size : c.len.result ≡ length es = c.len.ensures ∙ c.self.inside.pairs.ok.0 in
    let above : (d : ℕ × _) → number_at es (length es - 1) d < c.args.number =
    λ d. subst (λ (xs : List (ℕ × _)). number_at xs (length xs - 1) d < c.args.number) c.deref.ensures.value
    (subst (λ (e : ℕ × _). e.0 < c.args.number) (c.in-Some.ensures.item.3.1 d) c.if-last-number.true) in
    let gap : IsGapFor es c.args.number (length es) = gap_at_end es c.args.number c.self.invariant (λ d. above d) in
    rw (← c.self.view_is) (subst (IsGapFor es c.args.number) (sym size) gap)
