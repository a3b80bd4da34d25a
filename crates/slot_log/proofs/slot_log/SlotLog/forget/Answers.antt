use Rattle.std.proofs.Common.{◌≡◌, ◌≤◌, max, refl, sym, ap, subst, ◌∙◌, arith}
use Rattle.ballot.specs.Slots.{Slots}
use Rattle.ballot.specs.Rests.{kept_from}
use Rattle.slot_log.specs.declared.slot_log.SlotLog.TheInside.{Inside}
use Rattle.slot_log.specs.Books.{SlotBook}
use Rattle.slot_log.specs.Rests.{rest_of_book}
use Rattle.slot_log.specs.Kept.{book_of, KeepsBook}
use Rattle.slot_log.proofs.Forgetting.{all_found, kept_all, whole_kept, rest_kept}
use Rattle.slot_log.proofs.slot_log.SlotLog.forget.Goals as goal
use Rattle.slot_log.proofs.slot_log.SlotLog.forget.Goals.{then-start-base, else-start-base}

pub settle-requires-clause-found : goal.settle-requires-clause-found
settle-requires-clause-found g c = all_found g.C.PartialEq.eq g.C.Keyed.key_of g.met.C.Value.exact g.met.C.Eq.laws.refl c.self.inside c.self.invariant

pub invariant_of-self : goal.invariant_of-self
invariant_of-self g c =
    let a = c.self.inside in
    let base = c.args.base in
    let next = c.max-self-inside.result in
    let out : base ≤ a.slot_out = subst (λ (b : SlotBook g.row.C.Denot). base ≤ b.slot_out) (sym c.self.view_is) c.requires in
    let Keeps = λ (s : Inside g.row.C.Denot). KeepsBook g.C.PartialEq.eq g.C.Keyed.key_of (record s { slot_in = next }) in
    elim c.if-start-base.branch as (λ _. Keeps c.if-start-base.self-inside) [
      | then-start-base w ↦
          let later : next ≡ max a.slot_in base = c.max-self-inside.ensures ∙ ap (λ (s : Inside g.row.C.Denot). max s.slot_in base) w.self-inside-is in
          subst Keeps (sym w.self-inside-is)
          (subst (λ (ds : Slots g.row.C.Denot). Keeps (record a { decisions = ds; places = w.keep_others.new.self })) (sym w.forget.ensures)
          (rest_kept g.C.PartialEq.eq g.C.Keyed.key_of g.met.C.Value.exact g.met.C.Eq.laws.refl a c.self.invariant base next later out
          w.settle.new.places w.leave.new.places w.keep_others.new.self w.settle.ensures w.leave.ensures.places w.leave.ensures.others
          w.keep_others.ensures.places
          (w.keep_others.ensures.others (book_of (record a { slot_in = next; decisions = kept_from base a.decisions })) refl refl (sym w.forget.ensures))))
      | else-start-base w ↦
          let later : next ≡ max a.slot_in base = c.max-self-inside.ensures ∙ ap (λ (s : Inside g.row.C.Denot). max s.slot_in base) w.self-inside-is in
          subst Keeps (sym w.self-inside-is)
          (whole_kept g.C.PartialEq.eq g.C.Keyed.key_of g.met.C.Value.exact g.met.C.Eq.laws.refl a c.self.invariant base next later out)
    ]

pub returns : goal.returns
returns g c =
    let a = c.self.inside in
    let base = c.args.base in
    let next = c.max-self-inside.result in
    let Rest = λ (s : Inside g.row.C.Denot). book_of (record s { slot_in = next }) ≡ rest_of_book base (book_of a) in
    elim c.if-start-base.branch as (λ _. Rest c.if-start-base.self-inside) [
      | then-start-base w ↦
          let later : next ≡ max a.slot_in base = c.max-self-inside.ensures ∙ ap (λ (s : Inside g.row.C.Denot). max s.slot_in base) w.self-inside-is in
          subst Rest (sym w.self-inside-is) (λ i. record (book_of a) { slot_in = later i; decisions = w.forget.ensures i })
      | else-start-base w ↦
          let later : next ≡ max a.slot_in base = c.max-self-inside.ensures ∙ ap (λ (s : Inside g.row.C.Denot). max s.slot_in base) w.self-inside-is in
          let all = kept_all base a.decisions (λ s there. let low = c.start-start.ensures.least s there in let high = w.if-start-base.false in omega arith) in
          subst Rest (sym w.self-inside-is) (λ i. record (book_of a) { slot_in = later i; decisions = sym all i })
    ]
    ∙ ap (rest_of_book base) c.self.view_is
