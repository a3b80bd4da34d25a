-- What is put on the list of ended sessions.
use Rattle.std.proofs.Common.{◌≡◌, ◌⊎◌, inl, inr, ◌<◌, ◌++◌, ◌∷◌, [], ℕ, true, List, length, refl, sym, ap, ◌∙◌}
use lib.ListN.{get_or}
use Rattle.std.specs.List.{All}
use Rattle.std.proofs.lemmas.List.{append_assoc}
use Rattle.std.proofs.lemmas.List.Elements.{All-push}
use Rattle.object.specs.declared.command.Command.{Command}
use Rattle.object.specs.declared.command.Key.{Key}
use Rattle.object.specs.Objects.{Rules}
use Rattle.hall.specs.Tickets.{is_close}
use Rattle.forgetting_hall.specs.Halls.{ForgettingState}
use Rattle.forgetting_hall.specs.Leading.{TurnsOn}
use Rattle.loops.specs.Lending.{IsEndAmong}

module _ {Op : Type 0} (commands : List (Command Op)) where
  -- behind some keys there are others, each of an end among the commands
  abbrev pub HasMore : List Key → List Key → Type 0
  HasMore before now = (more : List Key) × (now ≡ before ++ more) × All (λ key. IsEndAmong commands key) more

  -- and still are where one end more is put there, or none
  pub one_end_more : (i : ℕ) (c : Command Op) → i < length commands → c ≡ get_or commands i c → (before now then : List Key)
      → HasMore before now → (then ≡ now) ⊎ ((then ≡ now ++ c.key ∷ []) × (is_close c.act ≡ true)) → HasMore before then
  one_end_more i c inside at before now then was (inl same) = (was.0, same ∙ was.1, was.2)
  one_end_more i c inside at before now then was (inr more) = (
    was.0 ++ c.key ∷ [],
    more.0 ∙ ap (λ keys. keys ++ c.key ∷ []) was.1 ∙ append_assoc before was.0 (c.key ∷ []),
    All-push (λ key. IsEndAmong commands key) was.0 c.key was.2 (i, c, inside, sym at, (refl, more.1)),
  )

-- those that were put on the list since are ends among the commands, and the hall goes on
pub record HasNoted {O Op Reply : Type 0} (rules : Rules O Op Reply) (h z : ForgettingState Op O Reply) (commands : List (Command Op))
    (before now : List Key) : Type 0 where
  pub freed : HasMore commands before now
  pub submitted : z.summary.submitted ≡ h.summary.submitted
  pub opened : z.opened ≡ h.opened
  pub gathering : z.gathering ≡ h.gathering
  pub goes_on : TurnsOn rules h z
