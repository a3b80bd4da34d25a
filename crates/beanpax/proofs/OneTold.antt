-- What is told for an input is one text.
use Rattle.std.proofs.Common.{◌≡◌, ℕ, List, map, sym, ap₂, subst, ◌∙◌}
use Rattle.bean_codec.specs.declared.profile.Profile.{Profile}
use Rattle.session.specs.declared.faults.End.{End}
use Rattle.session.specs.Items.{Response, operations, told_text}
use Rattle.session.proofs.Whole.{IsOneItem, one_reading}
use Rattle.simulated_hall.specs.OneClient.{opened}
use Rattle.beanpax.specs.Sessions.{queue, AreQueueAnswers, is_refused}
use Rattle.beanpax.specs.Told.{IsToldWith}
use Rattle.beanpax.proofs.Obeyed.{one_answers}

-- what is told for one input is one text, where the same operations are refused
pub one_told : (profile : Profile) → IsOneItem profile → (input a b : List ℕ) (d e : End) (xs ys : List Response)
    → IsToldWith profile xs input a d → IsToldWith profile ys input b e → map is_refused xs ≡ map is_refused ys → (a ≡ b) × (d ≡ e)
one_told profile one input a b d e xs ys r q refused =
    let same = one_reading profile one input r.0 q.0 d e r.1 q.1 in
    let answers : xs ≡ ys = one_answers (opened queue) (operations q.0) xs ys (subst (λ items. AreQueueAnswers (operations items) xs) same.0 r.2) q.2 refused in
    (r.3 ∙ ap₂ told_text same.0 answers ∙ sym q.3, same.1)
