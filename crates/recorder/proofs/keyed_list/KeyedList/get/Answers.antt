use Rattle.std.proofs.Common.{◌≡◌, ◌≤◌, ◌<◌, ℕ, Bor, List, length, Option, None, Some, refl, ap, sym, ◌∙◌}
use Rattle.std.proofs.lemmas.Option.{slice_get_past, slice_get_read}
use Rattle.std.specs.Option.{option_copied, option_and_then, MatchOption}
use Rattle.std.specs.List.{slice_get, HoldsAt}
use Rattle.object.specs.Keys.{found}
use Rattle.recorder.proofs.Places.{found_at}
use Rattle.recorder.proofs.keyed_list.KeyedList.get.Goals as goal

pub returns-in_err-place : goal.returns-in_err-place
returns-in_err-place g c =
    ap option_copied c.from_residual.ensures
    ∙ ap (option_and_then (slice_get c.self.inside.items.items)) (c.in_err-place.ensures ∙ c.self.invariant.at c.args.key)
    ∙ sym (found_at g.X.Keyed.key_of c.args.key c.self.inside.items.items)
    ∙ ap (found g.X.Keyed.key_of c.args.key) c.self.view_is

-- what a slice gives at a place
given : {X : Type 0} (xs : List X) (i : ℕ) (r : Option (Bor X))
    → MatchOption r (length xs ≤ i) (λ x. (i < length xs) × HoldsAt (λ y. x.now ≡ y) xs i)
    → option_copied r ≡ slice_get xs i
given xs i None h = sym (slice_get_past xs i h)
given xs i (Some x) h = sym (slice_get_read xs (length xs) i x.now refl h.0 (h.1 x.now))

pub returns : goal.returns
returns g c =
    given c.deref.result.now c.in_ok-place.place c.get-2.result c.get-2.ensures.lookup.3
    ∙ ap (λ xs. slice_get xs c.in_ok-place.place) c.deref.ensures.value
    ∙ ap (option_and_then (slice_get c.self.inside.items.items)) (c.in_ok-place.ensures ∙ c.self.invariant.at c.args.key)
    ∙ sym (found_at g.X.Keyed.key_of c.args.key c.self.inside.items.items)
    ∙ ap (found g.X.Keyed.key_of c.args.key) c.self.view_is
