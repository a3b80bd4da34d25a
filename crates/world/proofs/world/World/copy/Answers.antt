use Rattle.std.proofs.Common.{◌∙◌}
use Rattle.world.proofs.steps.Noted.{noted_again}
use Rattle.world.proofs.world.World.copy.Goals as goal

pub invariant_of-result : goal.invariant_of-result
invariant_of-result g c =
    let nodes = c.in_ok-nodes.ensures ∙ c.deref.ensures.value in
    let letters = c.in_ok-letters.ensures ∙ c.deref-2.ensures.value in
    let submitted = c.in_ok-submitted.ensures ∙ c.deref-3.ensures.value in
    let answers = c.in_ok-answers.ensures ∙ c.deref-4.ensures.value in
    noted_again g.O.Object.rules _ _ c.self.inside.performed.items _ (λ i. record {
      cluster = record { members = c.self.inside.members; nodes = nodes i; letters = letters i };
      happenings = record { submitted = submitted i; answers = answers i };
      reach = c.self.inside.reach;
      taken = c.self.inside.taken;
    }) (c.in_ok-performed.ensures ∙ c.deref-5.ensures.value) c.self.invariant
