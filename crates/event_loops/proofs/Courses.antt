-- What goes on, goes on from step to step.
use Rattle.std.proofs.Common.{◌≡◌}
use Rattle.event_loops.specs.Courses.{AllLead, Course, Sight, Sights}

-- where nothing happens
pub goes_nowhere : (leads : Course) (from : Sights) → ((w : Sight) → leads w w) → AllLead leads from from
goes_nowhere leads from stays w shown = (w, stays w, shown)

-- and from step to step
pub goes_further : (leads : Course) (from on to : Sights)
    → ((a b c : Sight) → leads a b → leads b c → leads a c)
    → AllLead leads from on → AllLead leads on to → AllLead leads from to
goes_further leads from on to further first then w shown =
    let v = first w shown in
    let u = then v.0 v.2 in
    (u.0, further w v.0 u.0 v.1 u.1, u.2)
