use Rattle.std.proofs.Common.{ℕ, List, ap, ◌∙◌}
use Rattle.job_store.specs.declared.spot.Spot.{Spot}
use Rattle.job_store.proofs.shelving.Shelving.{puts-listed, puts-nothing, not_ok}
use Rattle.job_store.proofs.shelves.Shelves.put.Goals as goal

pub returns-in_err-list-clause-put : goal.returns-in_err-list-clause-put
returns-in_err-list-clause-put c =
    puts-nothing c.args.self.now c.list.new.self _ c.from_residual.result c.from_residual.ensures.0 c.in_err-list.ensures.more

pub returns-in_err-put_everywhere-clause-put : goal.returns-in_err-put_everywhere-clause-put
returns-in_err-put_everywhere-clause-put c =
    puts-listed c.args.self.now c.list.new.self c.put_everywhere.new.self c.args.id c.args.spot
    c.from_residual-in_err-put_everywhere.result c.in_ok-list.ensures.more
    c.in_ok-list.ensures.came c.in_ok-list.ensures.went c.in_err-put_everywhere.ensures.put
    (not_ok _ c.from_residual-in_err-put_everywhere.result c.from_residual-in_err-put_everywhere.ensures.0)

pub returns-clause-put : goal.returns-clause-put
returns-clause-put c =
    puts-listed c.args.self.now c.list.new.self c.put_everywhere.new.self c.args.id c.args.spot _ c.in_ok-list.ensures.more
    c.in_ok-list.ensures.came c.in_ok-list.ensures.went c.in_ok-put_everywhere.ensures.put c.in_ok-put_everywhere.ensures.come

pub returns-clause-went : goal.returns-clause-went
returns-clause-went c =
    ap (λ (x : List (ℕ × Spot) × List (ℕ × Spot)). x.1) c.in_ok-put_everywhere.ensures.put.lists ∙ c.in_ok-list.ensures.went
