use Rattle.std.proofs.Common.{◌≡◌, ◌++◌, sym, ap, ◌∙◌}
use Rattle.std.specs.Option.{option_or}
use Rattle.std.specs.FinMap.{empty, get}
use Rattle.ballot.specs.Slots.{Slots}
use Rattle.leader.specs.Greatest.{all_raised, all_taken}
use Rattle.leader.proofs.GreatestValues.{all_raised-append, all_taken-append, takes}
use Rattle.leader.proofs.greatest.with_greatest.Goals as goal

pub returns : goal.returns
returns g c =
    let ps = c.args.gathered.now in
    let qs = c.args.report.now in
    let all = ps ++ qs in
    let greatest : c.note_greatest-2.new.greatest ≡ all_raised empty all =
    c.in_ok-note_greatest-2.ensures ∙
    ap (λ m. all_raised m qs) (c.in_ok-note_greatest.ensures ∙ ap (λ m. all_raised m ps) c.new-greatest.ensures) ∙
    sym (all_raised-append empty ps qs) in
    let taken : c.take_greatest-2.new.taken ≡ all_taken (all_raised empty all) empty all =
    c.in_ok-take_greatest-2.ensures ∙
    ap (λ m. all_taken c.note_greatest-2.new.greatest m qs)
    (c.in_ok-take_greatest.ensures ∙ ap (λ m. all_taken c.note_greatest-2.new.greatest m ps) c.new-taken.ensures) ∙
    sym (all_taken-append c.note_greatest-2.new.greatest empty ps qs) ∙ ap (λ m. all_taken m empty all) greatest in
    takes c.args.proposals.now c.take_open.new.taken all
    (λ s. c.in_ok-take_open.ensures s ∙ ap (λ (m : Slots g.row.C.Denot). option_or (get m s) (get c.in_ok-own.own s)) taken ∙
    ap (λ (m : Slots g.row.C.Denot). option_or (get (all_taken (all_raised empty all) empty all) s) (get m s)) c.in_ok-own.ensures)
