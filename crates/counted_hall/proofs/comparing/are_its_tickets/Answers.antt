use Rattle.std.proofs.Common.{◌≡◌, false, length, refl, sym, ◌∙◌, subst}
use Rattle.std.specs.Prelude.{All}
use Rattle.std.proofs.lemmas.List.Elements.{All-replicate}
use Rattle.counted_hall.specs.Accounts.{all_tickets}
use Rattle.counted_hall.proofs.Judging.{are_its, can_be_marked, was_marked}
use Rattle.counted_hall.proofs.comparing.are_its_tickets.Goals as goal

pub returns-then-all_agree : goal.returns-then-all_agree
returns-then-all_agree g c =
    let h = c.args.hall.now in
    let m = c.fill.new.self in
    let ts = all_tickets c.args.tickets.now in
    let none = subst (All (λ b. b ≡ false)) (sym (c.fill.ensures.after (λ y e. e))) (All-replicate (λ b. b ≡ false) (length c.args.marks.now) false refl) in
    let long = c.fill.ensures.len ∙ c.requires.marks in (
      (λ e. are_its h m c.mark_all.new.marks ts none long c.requires.count (c.all_agree.ensures.0 c.if-all_agree.true) (c.mark_all.ensures.ok e)),
      λ are. was_marked c.mark_all.result _ c.mark_all.ensures.none (can_be_marked h m ts none long are),
    )
