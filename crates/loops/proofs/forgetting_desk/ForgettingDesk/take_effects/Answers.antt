use Rattle.std.proofs.Common.{◌≡◌, ◌+◌, true, length, ap, subst, ◌∙◌}
use Rattle.forgetting_hall.specs.Halls.{rest_of_hall}
use Rattle.forgetting_hall.specs.Leading.{LeadsOn}
use Rattle.forgetting_hall.specs.LeadingLaws.{leads_same, leads_trans}
use Rattle.loops.specs.Desks.{LeanDesk}
use Rattle.loops.proofs.Counting.{count_then, taken_then}
use Rattle.loops.proofs.Ending.{HasMore}
use Rattle.loops.proofs.forgetting_desk.ForgettingDesk.take_effects.Goals as goal

pub invariant_of-self : goal.invariant_of-self
invariant_of-self g c = λ is.
    let h = c.self.inside.hall in
    let y = c.note_ends.new.hall in
    taken_then g.O.Object.rules h (c.tells_in_order.ensures.counted h) (c.tells_in_order.ensures.takes h) c.take_placed-placed.new.self y
    c.take_placed-placed.ensures.left c.note_ends.ensures.goes_on c.note_ends.ensures.gathering (c.tells_in_order.ensures.counted y)
    c.self.inside.taken c.placed_count-self-inside.result (c.self.invariant is) c.placed_count-self-inside.ensures.count

pub returns-clause-freed : goal.returns-clause-freed
returns-clause-freed g c =
    let now = c.note_ends.new.free.items in
    subst (λ (d : LeanDesk _ _ _). HasMore d.hall.gathering.commands d.free now) c.self.view_is
    (subst (λ commands. HasMore commands c.self.inside.free.items now) (c.deref.ensures.value ∙ c.take_placed-placed.ensures.placed)
    c.note_ends.ensures.freed)

pub returns-clause-taken : goal.returns-clause-taken
returns-clause-taken g c =
    let h = c.self.inside.hall in
    let y = c.note_ends.new.hall in
    let n = c.placed_count-self-inside.result in
    subst (λ (d : LeanDesk _ _ _). d.logs ≡ true → n ≡ d.taken + length d.hall.gathering.commands) c.self.view_is (λ is.
    count_then g.O.Object.rules h (c.tells_in_order.ensures.counted h) (c.tells_in_order.ensures.takes h) c.take_placed-placed.new.self y
    c.take_placed-placed.ensures.left c.note_ends.ensures.goes_on c.note_ends.ensures.gathering (c.tells_in_order.ensures.counted y)
    c.self.inside.taken n (c.self.invariant is) c.placed_count-self-inside.ensures.count)

pub returns-clause-goes_on : goal.returns-clause-goes_on
returns-clause-goes_on g c =
    let rules = g.O.Object.rules in
    let h = c.self.inside.hall in
    let z = c.take_placed-placed.new.self in
    let y = c.note_ends.new.hall in
    subst (λ (d : LeanDesk _ _ _). LeadsOn rules d.hall y) c.self.view_is
    (leads_trans rules h z y (leads_same rules h z (ap (rest_of_hall rules) c.take_placed-placed.ensures.left)) c.note_ends.ensures.goes_on.leads)
