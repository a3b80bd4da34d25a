use Rattle.std.proofs.Common.{◌≡◌, ℕ, List, ap, sym, ◌∙◌, arith}
use Rattle.std.proofs.lemmas.Bool.{false≢true}
use Rattle.std.specs.Option.{is_some}
use Rattle.std.specs.Ordering.{nat_cmp}
use Rattle.std.specs.FinMap.{get, len, len-empty, get-empty}
use Rattle.ballot.specs.Slots.{Slots}
use Rattle.slot_log.proofs.Standing.{among}
use Rattle.slot_log.proofs.Held.{nothing_known}
use Rattle.slot_log.proofs.slot_log.SlotLog.at.Goals as goal

pub invariant_of-result : goal.invariant_of-result
invariant_of-result g c =
    let none = λ (m : Slots g.row.C.Denot) (s : ℕ) (e : m ≡ _). ap (λ (n : Slots g.row.C.Denot). get n s) e ∙ get-empty nat_cmp s in
    let proposed = ap (λ (m : Slots g.row.C.Denot). len m) c.new-2.ensures ∙ len-empty nat_cmp g.row.C.Denot in
    let requested = c.new.ensures.len in
    record {
      slot_in = (omega arith, omega arith);
      slot_out = (omega arith, omega arith);
      front_rank = omega arith;
      within = λ s h. absurd (false≢true (ap is_some (sym (none c.new-3.result s c.new-3.ensures)) ∙ h));
      performed = λ s low high. absurd (omega arith);
      numbered = λ s h. absurd (false≢true (ap is_some (sym (none c.new-2.result s c.new-2.ensures)) ∙ h));
      near = λ s h. absurd (false≢true (ap is_some (sym (none c.new-2.result s c.new-2.ensures)) ∙ h));
      ahead = λ s low. none c.new-2.result s c.new-2.ensures;
      room = omega arith;
      others = λ d h. absurd (false≢true (ap (λ (ds : List g.row.C.Denot). among g.C.PartialEq.eq ds d) (sym c.new-4.ensures.others) ∙ h));
      found = λ d h. absurd (false≢true
          (sym (nothing_known g.C.PartialEq.eq c.new.result.items c.new-2.result c.new-3.result c.new.ensures.items
          c.new-2.ensures c.new-3.ensures d) ∙ h));
    }
