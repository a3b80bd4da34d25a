-- Sessions that are counted are no more than there are numbers for them.
use Rattle.std.proofs.Common.{ℕ, suc, ◌+◌, ◌≤◌, ◌^◌, true, false, cond, List, [], ◌∷◌, filter, length, arith}
use Rattle.job_store.specs.Entries.{Rising}
use Rattle.session_store.specs.declared.session.SessionState.{SessionState}
use Rattle.bean_queue.specs.declared.group.Group.{Group}
use Rattle.bean_queue.specs.Groups.{count_in, is_of_group}

few-sessions : (lo hi : ℕ) (es : List (ℕ × SessionState)) → Rising lo hi es → lo + length es ≤ hi
few-sessions lo hi [] r = omega (arith, r)
few-sessions lo hi (e ∷ es) r = let rest = few-sessions (suc e.0) hi es r.1 in let low = r.0 in omega (arith, rest, low)

fewer-in : (group : Group) (es : List (ℕ × SessionState)) → count_in group es ≤ length es
fewer-in group [] = omega arith
fewer-in group (e ∷ es) =
    let rest = fewer-in group es in
    elim (is_of_group group e.1) as (λ b. length (cond b (e ∷ filter (λ e. is_of_group group e.1) es) (filter (λ e. is_of_group group e.1) es))
    ≤ suc (length es)) [ true ↦ omega (arith, rest) | false ↦ omega (arith, rest) ]

-- they can be counted
pub few-in : (group : Group) (es : List (ℕ × SessionState)) → Rising 0 (2 ^ 32) es → count_in group es ≤ 2 ^ 32
few-in group es rising =
    let few = few-sessions 0 (2 ^ 32) es rising in
    let fewer = fewer-in group es in
    omega (arith, few, fewer)
