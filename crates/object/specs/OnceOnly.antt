-- A filter in front of an object: a command counts only where its number is greater than each earlier one of its
-- session.
use Rattle.std.specs.Prelude.{◌≡◌, ℕ, Bool, true, List, [], Option, None, Some, nat_lt, if◌then◌else◌}
use Rattle.std.specs.Ordering.{nat_cmp}
use Rattle.std.specs.FinMap.{FinMap, get, insert, code}
use Rattle.std.specs.Coded.{Coded, coded_ℕ}
use Rattle.object.specs.declared.command.Answer.{Answer}
use Rattle.object.specs.declared.command.Command.{Command}
use Rattle.object.specs.declared.command.Key.{Key}
use Rattle.object.specs.Replays.{is_new}

-- the greatest number of each session so far
abbrev pub LatestNumbers : Type 0
LatestNumbers = FinMap nat_cmp ℕ

abbrev pub latest_code : Coded LatestNumbers
latest_code = code coded_ℕ coded_ℕ

-- the object, and what the filter knows
pub record Filtered (O : Type 0) : Type 0 where
  pub object : O
  pub latest : LatestNumbers

abbrev pub is_above : Option ℕ → ℕ → Bool
is_above None number = true
is_above (Some latest) number = nat_lt latest number

-- the number is greater than its session's latest
abbrev pub is_later : Key → LatestNumbers → Bool
is_later key latest = is_above (get latest key.session) key.number

-- the number is its session's latest
abbrev pub noted : Key → LatestNumbers → LatestNumbers
noted key latest = insert latest key.session key.number

-- A command is obeyed where it is later, and else nothing is done. The first argument is the object's `after`.
abbrev pub filtered : {S Op : Type 0} → (S → Command Op → S) → Filtered S → Command Op → Filtered S
filtered after f c =
    if is_later c.key f.latest then record { object = after f.object c; latest = noted c.key f.latest } else f

-- and is answered where it is obeyed; the first argument is the object's `answers`
abbrev pub filtered_answers : {S Op Reply : Type 0} → (S → Command Op → List (Answer Reply)) → Filtered S → Command Op → List (Answer Reply)
filtered_answers answers f c = if is_later c.key f.latest then answers f.object c else []

-- of every command, the filter knows whether its number is new after the earlier ones
abbrev pub Remembers : {Op : Type 0} → LatestNumbers → List (Command Op) → Type 0
Remembers {Op} latest earlier = (c : Command Op) → is_later c.key latest ≡ is_new c earlier
