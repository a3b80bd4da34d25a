use Rattle.std.proofs.Common.{◌≡◌, ◌≤◌, ◌<◌, ◌∙◌, List, ℕ, ◌++◌, subst, length, take, ap, length-take, arith, rules}
use Rattle.session.specs.Held.{Held, StandsBefore}
use Rattle.session.specs.Serving.{longest_piece}
use Rattle.session.proofs.server.read_piece.Goals as goal

pub returns-clause-fed : goal.returns-clause-fed
returns-clause-fed g c = λ _.
    let n : ℕ = c.in_ok-n.n in
    let within : n ≤ length c.read.new.buf = search rules in
    let some : 0 < n = search rules in
    let bytes = take n c.read.new.buf in
    let piece : 0 < length bytes = omega (arith, within, some, length-take n c.read.new.buf) in
    let same : length c.read.new.buf ≡ length c.args.piece.now = search rules in
    let few : length c.args.piece.now ≤ longest_piece = search rules in
    let small : length bytes ≤ longest_piece = omega (arith, within, same, few, length-take n c.read.new.buf) in
    let held = c.make_room.ensures.held in
    let fed = c.in-Ok.ensures.fed.ok in (
      bytes,
      piece,
      small,
      search rules,
      ap (λ (s : Held). s.unsent) fed ∙ ap (λ (s : Held). s.unsent) held,
      ap (λ (s : Held). s.is_open) fed ∙ ap (λ (s : Held). s.is_open) held,
      ap (λ (s : Held). s.profile) fed ∙ ap (λ (s : Held). s.profile) held,
      subst (λ (s : Held). (text : List ℕ) → StandsBefore s text → StandsBefore c.feed.new.self (text ++ bytes)) held c.in-Ok.ensures.stands,
    )
