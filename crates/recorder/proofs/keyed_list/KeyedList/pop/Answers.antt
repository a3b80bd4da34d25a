use Rattle.std.proofs.Common.{◌≡◌, cond, List, [], ◌∷◌, ◌++◌, None, ap, ap₂, subst, ◌∙◌}
use Rattle.object.specs.declared.command.Key.{Key}
use Rattle.object.specs.Keys.{same_key, place_of, KeysOnce}
use Rattle.recorder.proofs.Places.{place_less, once_less}
use Rattle.recorder.proofs.keyed_list.KeyedList.pop.Goals as goal

pub invariant_of-self : goal.invariant_of-self
invariant_of-self g c =
    let key_of = g.X.Keyed.key_of in
    let left = c.pop.new.self.items in
    let item = c.in-Some.item in
    let all : c.self.inside.items.items ≡ left ++ item ∷ [] = c.in-Some.ensures.items in
    let once = once_less key_of left item (subst (λ (xs : List _). KeysOnce key_of xs) all c.self.invariant.once) in
    record {
      at = λ q.
          c.remove.ensures q
          ∙ ap (λ o. cond (same_key c.key.result q) None o) (c.self.invariant.at q)
          ∙ ap₂ (λ (k : Key) xs. cond (same_key k q) None (place_of key_of q xs)) c.key.ensures all
          ∙ place_less key_of item q left once.1;
      once = once.0;
    }
