-- Why a hall refuses a second of its clock.
use Rattle.std.proofs.Common.{◌≡◌, ◌≢◌, ℕ, ◌≤◌, ◌^◌, Bool, true, false, true≢false, Some, None, refl, sym, arith}
use Rattle.std.specs.Prelude.{not, if◌then◌else◌}
use Rattle.std.proofs.lemmas.Bool.Decides.{nat_tests}
use Rattle.ballot.specs.Members.{is_member}
use Rattle.hall.specs.declared.error.HallError.TheVariants.{NoSuchNode, BadNumber, Full}
use Rattle.hall.specs.Halls.{HallState}
use Rattle.hall.specs.Refusals.{is_full, is_second, tick_refusal}

second_is : (second : ℕ) → 1 ≤ second → second ≤ 2 ^ 40 → is_second second ≡ true
second_is second least most = grind (arith, nat_tests)

none_refused : (member second full : Bool) → member ≡ true → second ≡ true → full ≡ false
    → (if not member then Some NoSuchNode else (if not second then Some BadNumber else (if full then Some Full else None))) ≡ None
none_refused true true false m s f = refl
none_refused true true true m s f = absurd (true≢false f)
none_refused true false full m s f = absurd (true≢false (sym s))
none_refused false second full m s f = absurd (true≢false (sym m))

-- at a member, a second that a clock may show is refused for want of memory, or since the hall takes no event more
pub refused_full : {Op Reply : Type 0} (h : HallState Op Reply) (second : ℕ)
    → is_member h.nodes.network.members 1 ≡ true → 1 ≤ second → second ≤ 2 ^ 40 → tick_refusal h second 1 ≢ None
    → is_full h ≡ true
refused_full {Op} {Reply} h second member least most refused = at (is_full h) refl
  where
    at : (full : Bool) → is_full h ≡ full → is_full h ≡ true
    at true e = e
    at false e = absurd (refused (none_refused (is_member h.nodes.network.members 1) (is_second second) (is_full h) member (second_is second least most) e))
