use Rattle.std.proofs.Common.{ℕ, length, Result, Ok, Err, IfOk, Some, sym, subst, ◌∙◌}
use Rattle.std.proofs.lemmas.Bool.{false≢true}
use Rattle.command_log.specs.declared.stage.Stage.TheVariants.{Right, Damaged}
use Rattle.command_log.specs.Lines.{HoldsCommand}
use Rattle.command_log.specs.Progress.{StepsOn}
use Rattle.command_log.proofs.Logs.{longer}
use Rattle.command_log.proofs.Steps.{elsewhere, right_on}
use Rattle.command_log.proofs.stage.after_right.Goals as goal

if_ok : {A E : Type 0} (r : Result A E) (P Q : A → Type 0) → ((a : A) → P a → Q a) → IfOk r P → IfOk r Q
if_ok (Ok a) P Q f h = f a h
if_ok (Err e) P Q f h = h

pub returns-in_default : goal.returns-in_default
returns-in_default c =
    if_ok c.after_wrong.result _ _
    (λ stage told.
    told c.args.commands.now.items
    (subst (λ read. HoldsCommand c.args.whole.version c.args.line.now read) c.in_default.is c.in_ok-read.ensures))
    c.after_wrong.ensures.first

pub returns-then-not-follows : goal.returns-then-not-follows
returns-then-not-follows c =
    let line = c.args.line.now in
    let old = c.args.commands.now.items in
    let read = c.in-Some.read in
    let told : HoldsCommand c.args.whole.version line (Some read) =
    subst (λ r. HoldsCommand c.args.whole.version line r) c.in-Some.is c.in_ok-read.ensures in
    subst (λ (n : ℕ). StepsOn (Right c.args.whole) old line (Damaged n) old) (sym c.saturating_add.ensures)
    (elsewhere c.args.whole line old read told (λ same. false≢true (sym c.if-not-follows.true ∙ c.follows.ensures.1 same)))

pub returns : goal.returns
returns c =
    let line = c.args.line.now in
    let old = c.args.commands.now.items in
    let read = c.in-Some.read in
    let told : HoldsCommand c.args.whole.version line (Some read) =
    subst (λ r. HoldsCommand c.args.whole.version line r) c.in-Some.is c.in_ok-read.ensures in
    subst (λ whole. StepsOn (Right c.args.whole) old line (Right whole) c.push.new.self.items) (sym c.with_line.ensures)
    (subst (λ new. StepsOn (Right c.args.whole) old line (Right (longer c.args.whole read.next (length line))) new) (sym c.in_ok-push.ensures.items)
    (right_on c.args.whole line old read told (c.follows.ensures.0 c.if-not-follows.false)))
