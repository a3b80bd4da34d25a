use Rattle.std.proofs.Common.{rules, ap, sym, ◌∙◌, Some}
use Rattle.std.specs.FinMap.{insert}
use Rattle.std.proofs.lemmas.Result.{on_ok_weaker, on_err_weaker}
use Rattle.ballot.specs.Slots.{Slots}
use Rattle.ballot.specs.SlotRows.{in_row, with_row, but_at}
use Rattle.ballot.proofs.SlotRows.{put_in_row, put_beside, same_row, outside}
use Rattle.ballot.proofs.slot_row.SlotRow.insert.Goals as goal

pub returns-in-Some : goal.returns-in-Some
returns-in-Some g c = record {
  ok = (
    on_ok_weaker c.put.result
        (λ is. put_in_row c.first_for-self-inside.result c.self.inside.row.items c.put.new.row.items c.self.inside.beside c.args.slot c.args.value
        (λ s. is c.first_for-self-inside.result s ∙ ap
        (λ k. but_at (in_row c.first_for-self-inside.result c.self.inside.row.items) k (Some c.args.value) s)
        (sym c.in-Some.ensures.place)) ∙
        ap (λ (m : Slots g.row.X.Denot). insert m c.args.slot c.args.value)
        (c.first_for-self-inside.ensures.same c.self.inside.beside ∙ c.self.view_is)) c.put.ensures.ok,
    on_err_weaker c.put.result
        (λ is. same_row c.first_for-self-inside.result c.self.inside.row.items c.put.new.row.items c.self.inside.beside
        (is c.first_for-self-inside.result) ∙ c.first_for-self-inside.ensures.same c.self.inside.beside ∙
        c.self.view_is) c.put.ensures.err,
  );
}

pub returns : goal.returns
returns g c = record {
  ok = (
    on_ok_weaker c.insert.result
        (λ is. ap (λ (m : Slots g.row.X.Denot). with_row c.first_for-self-inside.result c.self.inside.row.items m) is ∙
        put_beside c.first_for-self-inside.result c.self.inside.row.items c.self.inside.beside c.args.slot c.args.value
        (outside c.first_for-self-inside.result c.self.inside.row.items c.args.slot (search rules)) ∙
        ap (λ (m : Slots g.row.X.Denot). insert m c.args.slot c.args.value)
        (c.first_for-self-inside.ensures.same c.self.inside.beside ∙ c.self.view_is)) c.insert.ensures.ok.0,
    on_err_weaker c.insert.result
        (λ is. ap (λ (m : Slots g.row.X.Denot). with_row c.first_for-self-inside.result c.self.inside.row.items m) is ∙
        c.first_for-self-inside.ensures.same c.self.inside.beside ∙ c.self.view_is) c.insert.ensures.ok.1,
  );
}
