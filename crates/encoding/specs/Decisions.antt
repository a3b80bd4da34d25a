-- Rules of which it can be told whether they hold.
use Rattle.std.proofs.Common.{◌<◌, ◌≤◌, ◌^◌, ℕ, zero, suc, inl, inr, ⊎_elim, arith}
use Rattle.std.proofs.lemmas.Bool.{cases_eq, cases_lt}
use Rattle.object.specs.declared.command.Act.{Act}
use Rattle.object.specs.declared.command.Act.TheVariants.{Do, Close, Tick}
use Rattle.object.specs.declared.command.Key.{Key}
use Rattle.object.specs.Commands.{KeyedAct, MayAsk, IsCommand}
use Rattle.bean_codec.specs.TubeNames.{Decided}

both_hold : {P Q : Type 0} → Decided P → Decided Q → Decided (P × Q)
both_hold (inl p) (inl q) = inl (p, q)
both_hold (inl p) (inr n) = inr (λ h. n h.1)
both_hold (inr n) d = inr (λ h. n h.0)

-- and of a rule that says the same
told_by : {P Q : Type 0} → (P → Q) → (Q → P) → Decided P → Decided Q
told_by to from (inl p) = inl (to p)
told_by to from (inr n) = inr (λ q. n (from q))

at_most : (m n : ℕ) → Decided (m ≤ n)
at_most m n = ⊎_elim
    (λ (less : n < m). inr (λ h. absurd (omega (arith, less, h))))
    (λ (more : m ≤ n). inl more)
    (cases_lt n m)

is_positive : (n : ℕ) → Decided (0 < n)
is_positive zero = inr (λ h. omega (arith, h))
is_positive (suc n) = inl (omega arith)

number_rule : (n : ℕ) → Decided ((0 < n) × (n ≤ 2 ^ 62))
number_rule n = both_hold (is_positive n) (at_most n (2 ^ 62))

act_rule : {Op : Type 0} (key : Key) (act : Act Op) → Decided (MayAsk key act)
act_rule key (Do op) = is_positive key.session
act_rule key Close = is_positive key.session
act_rule key Tick = both_hold (cases_eq key.session 0) (at_most key.number (2 ^ 40))

pub command_rule : {Op : Type 0} (c : KeyedAct Op) → Decided (IsCommand c)
command_rule c = told_by
    (λ h. record { above = h.0.0; within = h.0.1; allowed = h.1 })
    (λ h. ((h.above, h.within), h.allowed))
    (both_hold (number_rule c.key.number) (act_rule c.key c.act))
