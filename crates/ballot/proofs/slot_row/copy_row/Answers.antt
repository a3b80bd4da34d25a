use Rattle.std.proofs.Common.{rules, arith, suc, refl, ap, ap₂, sym, ◌∙◌, ◌≡◌, ◌+◌, List, [], ◌∷◌, ◌++◌, Option, length, take}
use Rattle.std.proofs.Math.Seq.{take-suc}
use Rattle.std.proofs.lemmas.List.{take_all, length-take-le}
use Rattle.ballot.specs.Slots.{Slots}
use Rattle.ballot.specs.SlotRows.{with_row}
use Rattle.ballot.proofs.SlotRows.{with_row_push, with_nothing}
use Rattle.ballot.proofs.slot_row.copy_row.Goals as goal

pub loop-place-init : goal.loop-place-init
loop-place-init g c = sym (with_nothing c.args.first [] c.args.map.now refl)

pub loop-place-preserved : goal.loop-place-preserved
loop-place-preserved g c =
    let place : length (take c.loop-place.place c.args.row.now.items) ≡ c.loop-place.place =
    length-take-le c.loop-place.place c.args.row.now.items (search rules) in
    let next : suc c.loop-place.place ≡ c.loop-place.place + 1 = omega arith in
    c.in_ok-copy_entry.ensures ∙
    ap₂ (λ n (m : Slots g.row.X.Denot). with_row n (c.index.result.now ∷ []) m) (ap (λ n. c.args.first + n) (sym place)) c.loop-place.invariant ∙
    with_row_push c.args.first (take c.loop-place.place c.args.row.now.items) c.index.result.now c.args.map.now ∙
    ap (λ (os : List (Option g.row.X.Denot)). with_row c.args.first os c.args.map.now)
    (sym (take-suc c.args.row.now.items c.loop-place.place c.index.result.now (search rules) ∙ ap
    (λ x. take c.loop-place.place c.args.row.now.items ++ x ∷ []) (sym c.index.ensures))) ∙
    ap (λ n. with_row c.args.first (take n c.args.row.now.items) c.args.map.now) next

pub returns : goal.returns
returns g c = c.loop-place.invariant ∙ ap
    (λ (os : List (Option g.row.X.Denot)). with_row c.args.first os c.args.map.now)
    (take_all c.loop-place.place c.args.row.now.items (search rules))
