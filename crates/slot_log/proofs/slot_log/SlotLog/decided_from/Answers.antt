use Rattle.std.proofs.Common.{◌≡◌, ◌+◌, ◌^◌, ◌<◌, ◌≤◌, ℕ, min, List, ◌++◌, Option, arith, ap, ap₂, sym, subst, ◌∙◌}
use Rattle.std.specs.Option.{SomeIff, is_some}
use Rattle.std.specs.FinMap.{get, entries, entries_sorted, get-entries}
use Rattle.slot_log.specs.Decisions.{decided_from, entry_of}
use Rattle.slot_log.proofs.Windows.{next_inside, nothing_yet, whole_window}
use Rattle.slot_log.proofs.slot_log.SlotLog.decided_from.Goals as goal

pub loop-number-init : goal.loop-number-init
loop-number-init g c =
    let from = c.number-number.ensures.number in (
      c.new-known.ensures.items ∙ sym
          (nothing_yet c.args.slot c.number-number.result (entries c.self.inside.decisions) (omega (arith, from))),
      omega
          (arith, from),
    )

pub loop-number-preserved : goal.loop-number-preserved
loop-number-preserved g c =
    let d = c.self.inside.decisions in
    let n = c.loop-number.number in
    let own : c.unwrap-slot.result ≡ n = (subst (λ r. SomeIff r ((0 < n) × (n ≤ 2 ^ 62)) n) c.unwrap-slot.ensures c.new-in-loop-number.ensures).1 in (
      c.in_ok-push_copy.ensures ∙
          ap₂ (λ (xs ys : List (ℕ × g.row.C.Denot)). xs ++ ys) c.loop-number.invariant.0
          (ap₂ (λ k (o : Option g.row.C.Denot). entry_of k o) own
          (c.get.ensures ∙ ap (λ k. get d k) own ∙ get-entries d n)) ∙
          sym (next_inside c.args.slot n (entries d) (entries_sorted d) c.loop-number.invariant.1),
      omega (arith, c.loop-number.invariant.1),
    )

pub returns : goal.returns
returns g c =
    let d = c.self.inside.decisions in
    let s = c.args.slot in
    let last : c.unwrap-last.result ≡ min (s + 63) (2 ^ 62) =
    (subst (λ r. SomeIff r ((0 < c.min.result) × (c.min.result ≤ 2 ^ 62)) c.min.result) c.unwrap-last.ensures
    c.new.ensures).1 ∙ c.min.ensures ∙ ap (λ n. min (n + 63) (2 ^ 62)) c.number.ensures.number in
    let from = c.number-number.ensures.number in
    let within = c.number-number.ensures.within in
    let to = c.number-number-end.ensures.number in
    let least = c.loop-number-test.false in
    let most = c.loop-number.auto.number-end (omega (arith, last, from, within, to)) in
    let end : c.loop-number.number ≡ min (s + 63) (2 ^ 62) + 1 = omega (arith, last, to, least, most) in
    c.loop-number.invariant.0 ∙
    whole_window s c.loop-number.number (entries d) (λ q there. c.self.invariant.within q (ap is_some (get-entries d q) ∙ there)) end ∙
    ap (λ b. decided_from b s) c.self.view_is
