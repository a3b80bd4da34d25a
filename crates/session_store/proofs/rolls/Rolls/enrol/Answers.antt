use Rattle.std.proofs.Common.{◌≡◌, sym, subst, true, nat_cmp}
use Rattle.std.specs.BTreeMap.{is_at}
use Rattle.std.specs.List.{list_any}
use Rattle.session_store.proofs.TubeSets.{set-put, set-new, stays}
use Rattle.session_store.proofs.rolls.Rolls.enrol.Goals as goal

pub returns-in_err-insert-clause-grown : goal.returns-in_err-insert-clause-grown
returns-in_err-insert-clause-grown c =
    λ t x.
    set-put nat_cmp c.args.tube.now t x c.args.self.now.rolls
    (c.get_mut.follows.lender c.insert.new.self) c.in-Some.roll.now c.insert.new.self c.in-Some.ensures.value
    (c.get_mut.follows.holds c.insert.new.self)
    (λ same h. subst (λ ks. list_any (is_at (nat_cmp x)) ks ≡ true) (sym c.in_err-insert.ensures.err) h)

pub returns-in-Some-clause-grown : goal.returns-in-Some-clause-grown
returns-in-Some-clause-grown c =
    λ t x.
    set-put nat_cmp c.args.tube.now t x c.args.self.now.rolls
    (c.get_mut.follows.lender c.insert.new.self) c.in-Some.roll.now c.insert.new.self c.in-Some.ensures.value
    (c.get_mut.follows.holds c.insert.new.self)
    (λ same. stays nat_cmp c.args.number x c.in-Some.roll.now c.insert.new.self (c.in_ok-insert.ensures.updates.0 x))

pub returns-clause-grown : goal.returns-clause-grown
returns-clause-grown c =
    λ t x. set-new nat_cmp c.args.tube.now c.in_ok-copy.field-0 t x c.args.self.now.rolls c.insert-3.new.self _
    c.insert-2.new.self c.in_ok-copy.ensures c.get_mut.follows.holds-at-none
    (c.in_ok-insert-3.ensures.updates.0 t) c.in_default.ensures.value
