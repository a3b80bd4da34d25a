use Rattle.std.proofs.Common.{◌≡◌, cond, [], ◌∷◌, ◌++◌, Some, ap, ap₂, sym, subst, ◌∙◌}
use Rattle.object.specs.declared.command.Key.{Key}
use Rattle.object.specs.Keys.{same_key, stands, place_of, KeysOnce}
use Rattle.recorder.proofs.Places.{place_more, once_more}
use Rattle.recorder.proofs.keyed_list.KeyedList.push.Goals as goal

pub invariant_of-self-2 : goal.invariant_of-self-2
invariant_of-self-2 g c =
    let key_of = g.X.Keyed.key_of in
    let old = c.self.inside.items.items in
    let new = ap (stands key_of (key_of c.args.item)) c.self.view_is ∙ c.requires in
    let items : c.push_reserved.new.self.items ≡ old ++ c.args.item ∷ [] =
    c.push_reserved.ensures.items ∙ ap (λ xs. xs ++ c.args.item ∷ []) c.in_ok-reserve.ensures.items in
    record {
      at = λ q.
          c.in_ok-insert.ensures.ok q
          ∙ ap (λ o. cond (same_key c.key.result q) (Some c.len-place.result) o) (c.self.invariant.at q)
          ∙ ap₂ (λ (k : Key) n. cond (same_key k q) (Some n) (place_of key_of q old)) c.key.ensures (c.len-place.ensures ∙ c.self.inside.items.ok.0)
          ∙ sym (place_more key_of c.args.item q old new)
          ∙ ap (place_of key_of q) (sym items);
      once = subst (KeysOnce key_of) (sym items) (once_more key_of old c.args.item c.self.invariant.once new);
    }

pub returns-clause-once : goal.returns-clause-once
returns-clause-once g c =
    let key_of = g.X.Keyed.key_of in
    let old = c.self.inside.items.items in
    let new = ap (stands key_of (key_of c.args.item)) c.self.view_is ∙ c.requires in
    let items : c.push_reserved.new.self.items ≡ old ++ c.args.item ∷ [] =
    c.push_reserved.ensures.items ∙ ap (λ xs. xs ++ c.args.item ∷ []) c.in_ok-reserve.ensures.items in
    subst (KeysOnce key_of) (sym items) (once_more key_of old c.args.item c.self.invariant.once new)
