use Rattle.std.proofs.Common.{◌∙◌, ◌+◌, length, sum, sym, ap}
use Rattle.hall.specs.Halls.{HallState}
use Rattle.counted_hall.proofs.Counts.{book_sum, book_length}
use Rattle.loops.proofs.Keeping.{still_within}
use Rattle.loops.proofs.hall_desk.HallDeskDesk.submit.Goals as goal

pub invariant_of-self-2 : goal.invariant_of-self-2
invariant_of-self-2 g c =
    let book = ap (λ (h : HallState _ _). h.book) c.in_ok-submit.ensures.ok in
    let next = c.in_ok-submit.ensures.next in
    record {
      marked = c.args.self.now.marked ∙ sym (ap (λ b. length b) book ∙ book_length c.args.self.now.hall.book _ _);
      counted = ap sum book ∙ book_sum c.args.self.now.hall.book _ _ next.opened next.number
          ∙ ap (λ n. n + 1) c.args.self.now.counted;
      within = still_within c.args.self.now.hall.nodes.past c.submit.new.self.nodes.past c.args.self.now.taken c.in_ok-submit.ensures.begun
          c.args.self.now.within;
    }
