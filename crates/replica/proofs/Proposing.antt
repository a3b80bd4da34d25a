-- A proposal goes to all members: copies of it, and at last itself.
use Rattle.std.proofs.Common.{◌≡◌, ℕ, ◌+◌, ◌-◌, ◌<◌, Option, Some, List, [], ◌∷◌, ◌++◌, map, length, sym, ap, ◌∙◌, arith}
use Rattle.std.proofs.lemmas.List.{append-nil}
use Rattle.std.proofs.lemmas.Option.{same_Some}
use Rattle.std.specs.List.{range_with_len}
use Rattle.ballot.specs.declared.letter.LetterBody.{LetterBody}
use Rattle.ballot.specs.declared.letter.LetterBody.TheVariants.{Propose}
use Rattle.ballot.specs.declared.letter.Letter.{Letter}
use Rattle.ballot.specs.Letters.{letter, to_all, all_to_all}
use Rattle.ballot.proofs.Sending.{one_more}
use Rattle.replica.specs.Replicas.{but_last, proposes_first}

pub proposal_sent : {C : Type 0} (old now new : List (Letter C)) (members : List ℕ) (n last : ℕ) (p q : ℕ × C)
    (next : Option (ℕ × C)) → Some p ≡ next → Some q ≡ next → 0 < length members → last ≡ length members
    → now ≡ old ++ map (letter n (Propose p.0 p.1)) (but_last members)
    → new ≡ now ++ letter n (Propose q.0 q.1) last ∷ [] → new ≡ old ++ all_to_all members n (proposes_first next)
proposal_sent {C} old now new members n last p q next copied moved some all sent pushed =
    let body : LetterBody C = Propose p.0 p.1 in
    let itself : LetterBody C = Propose q.0 q.1 in
    let same : q ≡ p = same_Some q p (moved ∙ sym copied) in
    let count : length members - 1 + 1 ≡ length members = omega arith in
    one_more old now new n (length members - 1) body itself sent (ap (λ (r : ℕ × C). Propose r.0 r.1) same)
    (pushed ∙ ap (λ m. now ++ letter n itself m ∷ []) (all ∙ sym count))
    ∙ ap (λ m. old ++ map (letter n body) (range_with_len 1 m)) count
    ∙ ap (λ ls. old ++ ls) (sym (append-nil (to_all members n body)))
    ∙ ap (λ (o : Option (ℕ × C)). old ++ all_to_all members n (proposes_first o)) copied
