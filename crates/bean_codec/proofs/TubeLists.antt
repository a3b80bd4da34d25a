-- How the data of a list of tubes grows name by name.
use Rattle.std.proofs.Common.{◌≡◌, ℕ, ◌+◌, ◌<◌, ◌≤◌, List, ◌++◌, length, take, get_or, codes, ap, sym, ◌∙◌, arith, length-append}
use Rattle.std.proofs.Math.Seq.{take-append_seam}
use Rattle.std.proofs.lemmas.List.{take-take}
use Rattle.std.proofs.lemmas.List.Folds.{length-flat_map-take}
use Rattle.std.specs.List.{flat_map}
use Rattle.bean_codec.specs.Replies.{tube_text, tubes_data}

-- the data of the first names and the text of the next are no more than all the data
pub length-tubes_data-take : (names : List (List ℕ)) (i : ℕ) (name : List ℕ) → i < length names → name ≡ get_or names i name →
    length (tubes_data (take i names)) + length (tube_text name) ≤ length (tubes_data names)
unfolding tubes_data
length-tubes_data-take names i name inside same =
    let h = length-flat_map-take tube_text names i name inside in
    let text = ap (λ n. length (tube_text n)) same in
    omega (arith, h, text, length-append (codes "---\n") (flat_map tube_text names), length-append (codes "---\n") (flat_map tube_text (take i names)))

-- what stood in front of a longer front stands in front
pub front_kept : (old text mid new : List ℕ) (n m : ℕ) → n ≡ length old → m ≡ length mid → mid ≡ old ++ text → take m new ≡ mid → take n new ≡ old
front_kept old text mid new n m n_is m_is mid_is kept =
    let within : n ≤ m = omega (arith, ap length mid_is, length-append old text) in
    sym (take-take n m new within) ∙ ap (take n) (kept ∙ mid_is) ∙ ap (λ k. take k (old ++ text)) n_is ∙ take-append_seam old text
