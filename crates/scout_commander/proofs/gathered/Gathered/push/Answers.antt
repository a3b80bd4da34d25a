use Rattle.std.proofs.Common.{rules, ◌≡◌, ◌+◌, ◌≤◌, sym, subst, length}
use Rattle.scout_commander.specs.Starts.{start, IsIndexOf}
use Rattle.scout_commander.proofs.Places.{as_well, pushed}
use Rattle.scout_commander.proofs.gathered.Gathered.push.Goals as goal

pub invariant_of-self-2 : goal.invariant_of-self-2
invariant_of-self-2 g c =
    let p = c.args.pvalue in
    let ps = c.self.inside.pvalues.items in
    let starts = c.note_end.new.starts in
    let all : c.len-len.result ≡ length ps = search rules in
    let reached : start starts (p.slot, p.ballot) (length ps + 1) ≤ length ps =
    subst (λ n. start starts (p.slot, p.ballot) (n + 1) ≤ n) all c.in_ok-note_end.ensures.noted in
    subst (λ qs. IsIndexOf starts qs) (sym c.in_ok-push.ensures.items)
    (pushed starts ps p reached (as_well c.self.inside.starts starts ps c.len-len.result all c.note_end.ensures.same c.self.invariant))
