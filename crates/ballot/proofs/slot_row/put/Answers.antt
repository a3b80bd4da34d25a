use Rattle.std.proofs.Common.{rules, arith, refl, ap, ◌∙◌, ◌+◌, List, Option, Some}
use Rattle.ballot.specs.SlotRows.{in_row, but_at}
use Rattle.ballot.proofs.SlotRows.{in_row_push_none, in_row_set}
use Rattle.ballot.proofs.slot_row.put.Goals as goal

pub loop-init : goal.loop-init
loop-init g c = (λ first s. refl, search rules, omega arith)

pub returns-in_err-push_back-clause-err : goal.returns-in_err-push_back-clause-err
returns-in_err-push_back-clause-err g c = search (rules, c.loop.invariant.0)

pub returns-in_err-push_back-clause-length : goal.returns-in_err-push_back-clause-length
returns-in_err-push_back-clause-length g c = search (rules, c.loop.invariant.2)

pub loop-preserved : goal.loop-preserved
loop-preserved g c = (
  λ first s. ap
      (λ (os : List (Option g.row.X.Denot)). in_row first os s) c.in_ok-push_back.ensures.items ∙ in_row_push_none first
      c.loop.row.items s ∙ c.loop.invariant.0 first s,
  search rules,
  search rules,
)

pub index_mut-requires : goal.index_mut-requires
index_mut-requires g c = search rules

pub returns-clause-ok : goal.returns-clause-ok
returns-clause-ok g c = λ first s.
    in_row_set first c.loop.row.items c.args.place (Some c.args.value) s (search rules) ∙ ap
    (λ r. but_at (λ _. r) (first + c.args.place) (Some c.args.value) s) (c.loop.invariant.0 first s)

pub returns-clause-length : goal.returns-clause-length
returns-clause-length g c = search rules
