use Rattle.std.proofs.Common.{rules, arith, ℕ, List, ◌++◌, map, sym, ap, ap₂, ◌∙◌}
use Rattle.std.proofs.lemmas.Grind.{common_steps}
use Rattle.std.specs.Ordering.{nat_cmp}
use Rattle.std.specs.FinMap.{insert, entries, from_entries, entries_sorted}
use Rattle.std.specs.Map.Iter.{deref_pair}
use Rattle.scout_commander.specs.Commanders.{Commanding, new_commander}
use Rattle.ballot.specs.Slots.{Slots}
use Rattle.leader.specs.Leaders.{Leading, pvalue}
use Rattle.ballot.specs.Letters.{to_all, all_to_all}
use Rattle.ballot.specs.declared.letter.LetterBody.{LetterBody}
use Rattle.ballot.specs.declared.letter.LetterBody.TheVariants.{P2a}
use Rattle.leader.proofs.Saying.{said_next}
use Rattle.ballot.proofs.Turns.{made, turn, whole}
use Rattle.leader.proofs.leader.Leader.append_asks.Goals as goal

pub loop-slot-preserved : goal.loop-slot-preserved
loop-slot-preserved g c =
    let p = c.self.inside in
    let s = c.in-Some.slot.now in
    let commander : ℕ → g.row.C.Denot → Commanding g.row.C.Denot = λ s v. new_commander c.args.self.now.members (pvalue c.args.self.now.ballot s v) in
    let ask : ℕ × g.row.C.Denot → LetterBody g.row.C.Denot = λ e. P2a (pvalue c.args.self.now.ballot e.0 e.1) in
    record {
      commanders =
          c.in_ok-start_commander.ensures.commander.0 ∙
          ap₂ (λ (m : Slots (Commanding g.row.C.Denot)) x. insert m s x) c.loop-slot.invariant.commanders
          (ap (λ v. new_commander p.members (pvalue p.ballot s v)) c.in_ok-copy.ensures ∙
          ap (λ (l : Leading g.row.C.Denot). new_commander l.members (pvalue l.ballot s c.in-Some.command.now)) c.self.view_is) ∙
          turn deref_pair commander (entries c.args.proposals.now) c.loop-slot.yielded c.into_iter-slot-iterator.result
          c.loop-slot.slot-iterator c.next.new.self c.next.result
          (search rules) c.loop-slot.yielded_by (entries_sorted c.args.proposals.now) (c.in-Some.slot, c.in-Some.command) c.in-Some.is c.next.ensures.steps;
      said =
          said_next c.args.out.now.items c.loop-slot.out.items c.start_commander.new.out.items c.args.self.now.members
          c.args.self.now.ballot.node ask deref_pair c.loop-slot.yielded
          (c.in-Some.slot, c.in-Some.command) c.loop-slot.invariant.said
          (c.in_ok-start_commander.ensures.out.0 ∙
          ap (λ ls. c.loop-slot.out.items ++ ls)
          (ap₂ (λ n v. to_all p.members n (P2a (pvalue p.ballot s v))) (sym c.self.invariant.same_node) c.in_ok-copy.ensures ∙
          ap (λ (l : Leading g.row.C.Denot). to_all l.members l.ballot.node (P2a (pvalue l.ballot s c.in-Some.command.now))) c.self.view_is));
      front = grind (arith, common_steps);
    }

pub returns-clause-commanders : goal.returns-clause-commanders
returns-clause-commanders g c =
    let commander : ℕ → g.row.C.Denot → Commanding g.row.C.Denot = λ s v. new_commander c.args.self.now.members (pvalue c.args.self.now.ballot s v) in
    c.loop-slot.invariant.commanders ∙
    ap (λ (es : List (ℕ × g.row.C.Denot)). from_entries {R = nat_cmp} (map (made commander) es))
    (whole deref_pair commander (entries c.args.proposals.now) c.loop-slot.yielded c.into_iter-slot-iterator.result
    c.loop-slot.slot-iterator c.next.new.self c.next.result
    (search rules) c.loop-slot.yielded_by c.in-None.is c.next.ensures.steps)

pub returns-clause-out : goal.returns-clause-out
returns-clause-out g c =
    let commander : ℕ → g.row.C.Denot → Commanding g.row.C.Denot = λ s v. new_commander c.args.self.now.members (pvalue c.args.self.now.ballot s v) in (
      c.loop-slot.invariant.said ∙
          ap (λ (es : List (ℕ × g.row.C.Denot)).
          c.args.out.now.items ++ all_to_all c.args.self.now.members c.args.self.now.ballot.node
          (map (λ e. P2a (pvalue c.args.self.now.ballot e.0 e.1)) es))
          (whole deref_pair commander (entries c.args.proposals.now) c.loop-slot.yielded c.into_iter-slot-iterator.result
          c.loop-slot.slot-iterator c.next.new.self c.next.result
          (search rules) c.loop-slot.yielded_by c.in-None.is c.next.ensures.steps),
      grind (arith, common_steps),
    )
