-- The record while answers are given and commands take effect.
use Rattle.std.proofs.Common.{◌≡◌, inl, Bool, true, false, cond, ◌||◌, List, [], ◌∷◌, ◌++◌, Option, Some, None, refl, sym, ap, ◌∙◌, append-nil}
use Rattle.std.specs.Option.{option_to_list}
use Rattle.std.proofs.lemmas.Bool.{false_from_ne_true}
use Rattle.object.specs.declared.command.Answer.{Answer}
use Rattle.object.specs.declared.command.Key.{Key}
use Rattle.object.specs.Answers.{answered_key}
use Rattle.object.specs.Happenings.{Happenings, IsTimeline, with_answers}
use Rattle.object.specs.Keys.{same_key, stands, KeysOnce}
use Rattle.object.specs.KeyLaws.{same_is}
use Rattle.object.specs.ListLaws.{In-right}
use Rattle.recorder.specs.Firsts.{firsts, CutsBefore}
use Rattle.recorder.specs.Records.{Record, own_key, with_first_answers}
use Rattle.hall.specs.Recorded.{with_place_if}
use Rattle.hall.specs.Shows.{told_once}
use Rattle.hall.proofs.Told.{told_answers}

-- the last of keys that stand once is none of those before it
pub last_apart : (key : Key) (keys : List Key) → KeysOnce own_key (keys ++ (key ∷ [])) → stands own_key key keys ≡ false
last_apart key [] once = refl
last_apart key (k ∷ keys) once =
    ap (λ b. b || stands own_key key keys)
    (false_from_ne_true (same_key k key)
    (λ e. once.0 key (In-right key keys (key ∷ []) (inl refl)) (sym (same_is k key e))))
    ∙ last_apart key keys once.1

module _ {Op Reply : Type 0} where
  placed_by : (b : Bool) (key : Key) (r : Record Op Reply) → (cond b r (record r { order = r.order ++ (key ∷ []) })).happenings ≡ r.happenings
  placed_by true key r = refl
  placed_by false key r = refl

  -- what takes effect changes nothing of what happened
  pub placed_happenings : (o : Option Key) (r : Record Op Reply) → (with_place_if o r).happenings ≡ r.happenings
  placed_happenings None r = refl
  placed_happenings (Some key) r = placed_by (stands own_key key r.order) key r

  -- and its key is the last of the order
  pub placed_order : (o : Option Key) (r : Record Op Reply) → KeysOnce own_key (r.order ++ option_to_list o)
      → (with_place_if o r).order ≡ r.order ++ option_to_list o
  placed_order None r once = sym (append-nil r.order)
  placed_order (Some key) r once = ap (λ b. (cond b r (record r { order = r.order ++ (key ∷ []) })).order) (last_apart key r.order once)

  -- answers that are given to what was told once
  pub first_answers_told : ((xs ys : List (Answer Reply)) → CutsBefore answered_key xs ys)
      → (r : Record Op Reply) (h : Happenings Op Reply) (given : List (Answer Reply)) → r.happenings ≡ told_once h
      → IsTimeline h → (with_first_answers given r).happenings ≡ told_once (with_answers given h)
  first_answers_told cut r h given same t =
      ap (λ (g : Happenings Op Reply). record g { answers = firsts answered_key (g.answers ++ given) }) same
      ∙ ap (λ xs. record { submitted = (told_once h).submitted; answers = xs }) (sym (cut h.answers given))
      ∙ sym (told_answers h given t)
