use Rattle.std.proofs.Common.{◌≡◌, sym, subst, true}
use Rattle.std.specs.BTreeMap.{is_at}
use Rattle.std.specs.List.{list_any}
use Rattle.session_store.specs.Lines.{line_cmp}
use Rattle.session_store.proofs.TubeSets.{set-put, set-new, stays}
use Rattle.session_store.proofs.tube_lines.TubeLines.put.Goals as goal

pub returns-in_err-insert-clause-grown : goal.returns-in_err-insert-clause-grown
returns-in_err-insert-clause-grown c =
    λ t p.
    set-put line_cmp c.args.tube.now t p c.args.self.now.lines
    (c.get_mut.follows.lender c.insert.new.self) c.in-Some.line.now c.insert.new.self c.in-Some.ensures.value
    (c.get_mut.follows.holds c.insert.new.self)
    (λ same h. subst (λ ks. list_any (is_at (line_cmp p)) ks ≡ true) (sym c.in_err-insert.ensures.err) h)

pub returns-in-Some-clause-grown : goal.returns-in-Some-clause-grown
returns-in-Some-clause-grown c =
    λ t p.
    set-put line_cmp c.args.tube.now t p c.args.self.now.lines
    (c.get_mut.follows.lender c.insert.new.self) c.in-Some.line.now c.insert.new.self c.in-Some.ensures.value
    (c.get_mut.follows.holds c.insert.new.self)
    (λ same. stays line_cmp c.args.place p c.in-Some.line.now c.insert.new.self (c.in_ok-insert.ensures.updates.0 p))

pub returns-clause-grown : goal.returns-clause-grown
returns-clause-grown c =
    λ t p. set-new line_cmp c.args.tube.now c.in_ok-copy.field-0 t p c.args.self.now.lines c.insert-3.new.self _
    c.insert-2.new.self c.in_ok-copy.ensures c.get_mut.follows.holds-at-none
    (c.in_ok-insert-3.ensures.updates.0 t) c.in_default.ensures.value
