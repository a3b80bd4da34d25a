use Rattle.std.proofs.Common.{◌∙◌, ap, ◌++◌, ◌∷◌, []}
use Rattle.hall.proofs.Halls.{opened_as}
use Rattle.hall.proofs.hall.Hall.open_session.Goals as goal

pub invariant_of-self-2 : goal.invariant_of-self-2
invariant_of-self-2 g c =
    opened_as g.O.Object.rules _ c.self.invariant c.len.result (c.len.ensures ∙ c.self.inside.book.ok.0) c.if-len-ge-MOST_SESSIONS.false _
    (c.push_reserved.ensures.items ∙ ap (λ xs. xs ++ (0 ∷ [])) c.in_ok-reserve.ensures.items)
