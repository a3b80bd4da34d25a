-- What happened, taken submission by submission.
use Rattle.std.proofs.Common.{◌≡◌, ℕ, zero, suc, ◌+◌, ◌<◌, ◌≤◌, cond, List, [], ◌∷◌, ◌++◌, map, length, take, drop, inl}
use Rattle.std.proofs.Common.{inr, refl, sym, ap, ◌∙◌, arith, add-zero}
use Rattle.std.proofs.lemmas.Bool.{ne_eqb, eq-eqb}
use Rattle.object.specs.Lists.{In}
use Rattle.object.specs.declared.command.Answer.{Answer}
use Rattle.object.specs.declared.command.Submission.{Submission}
use Rattle.chronicle_text.specs.Happenings.{Happening, came_at, moment, happenings_from}
use Rattle.chronicle_text.specs.Happenings.Happening.{Submitted, Answered}

-- one that came at another time is not of this moment
other_time : {Op : Type 0} (given : ℕ) (s : Submission Op) (rest : List (Submission Op)) → (s.after ≡ given → ⊥) → came_at given (s ∷ rest) ≡ came_at given rest
other_time given s rest other = ap (λ b. cond b (s ∷ came_at given rest) (came_at given rest)) (ne_eqb s.after given other)

-- one that came then stands first
this_time : {Op : Type 0} (given : ℕ) (s : Submission Op) (rest : List (Submission Op)) → s.after ≡ given → came_at given (s ∷ rest) ≡ s ∷ came_at given rest
this_time given s rest same = ap (λ b. cond b (s ∷ came_at given rest) (came_at given rest)) (eq-eqb s.after given same)

-- where all come later, none is of this moment
none_yet : {Op : Type 0} (given : ℕ) (submitted : List (Submission Op))
    → ((s : Submission Op) → In s submitted → given < s.after) → came_at given submitted ≡ []
none_yet given [] later = refl
none_yet given (s ∷ rest) later =
    let first = later s (inl refl) in
    other_time given s rest (λ same. omega arith) ∙ none_yet given rest (λ t i. later t (inr i))

said : {Op Reply : Type 0} → List (Submission Op) → List (Happening Op Reply)
said submitted = map (λ s. Submitted s.command) submitted

-- one that came before changes nothing later
pub past : {Op Reply : Type 0} (given : ℕ) (s : Submission Op) (rest : List (Submission Op))
    (answers : List (Answer Reply)) → s.after < given
    → happenings_from given (s ∷ rest) answers ≡ happenings_from given rest answers
past given s rest [] earlier = ap (λ came. map (λ t. Submitted t.command) came) (other_time given s rest (λ same. omega arith))
past given s rest (a ∷ more) earlier =
    ap (λ came. map (λ t. Submitted t.command) came ++ (Answered a ∷ happenings_from (suc given) (s ∷ rest) more))
    (other_time given s rest (λ same. omega arith))
    ∙ ap (λ later. moment given rest ++ (Answered a ∷ later)) (past (suc given) s rest more (omega arith))

-- one that came then is the first to happen
pub comes : {Op Reply : Type 0} (s : Submission Op) (rest : List (Submission Op)) (answers : List (Answer Reply))
    → happenings_from s.after (s ∷ rest) answers ≡ Submitted s.command ∷ happenings_from s.after rest answers
comes s rest [] = ap (λ came. map (λ t. Submitted t.command) came) (this_time s.after s rest refl)
comes s rest (a ∷ more) =
    ap (λ came. map (λ t. Submitted t.command) came ++ (Answered a ∷ happenings_from (suc s.after) (s ∷ rest) more)) (this_time s.after s rest refl)
    ∙ ap (λ later. Submitted s.command ∷ (moment s.after rest ++ (Answered a ∷ later))) (past (suc s.after) s rest more (omega arith))

-- where all come after n answers more, these happen first
pub answers_first : {Op Reply : Type 0} (n given : ℕ) (submitted : List (Submission Op)) (answers : List (Answer Reply))
    → ((s : Submission Op) → In s submitted → given + n ≤ s.after) → n ≤ length answers →
    happenings_from given submitted answers ≡ map Answered (take n answers) ++ happenings_from (given + n) submitted (drop n answers)
answers_first zero given submitted answers later enough = ap (λ k. happenings_from k submitted answers) (sym (add-zero given))
answers_first (suc n) given submitted [] later enough = absurd (omega arith)
answers_first (suc n) given submitted (a ∷ more) later enough =
    let next : suc given + n ≡ given + suc n = omega arith in
    ap (λ came. map (λ t. Submitted t.command) came ++ (Answered a ∷ happenings_from (suc given) submitted more))
    (none_yet given submitted (λ s i. let h = later s i in omega arith))
    ∙ ap (λ rest. Answered a ∷ rest) (answers_first n (suc given) submitted more (λ s i. let h = later s i in omega arith) (omega arith)
    ∙ ap (λ k. map Answered (take n more) ++ happenings_from k submitted (drop n more)) next)

-- where nothing is submitted any more, the answers alone happen
pub answers_last : {Op Reply : Type 0} (given : ℕ) (answers : List (Answer Reply)) → happenings_from {Op = Op} given [] answers ≡ map Answered answers
answers_last given [] = refl
answers_last given (a ∷ more) = ap (λ rest. Answered a ∷ rest) (answers_last (suc given) more)
