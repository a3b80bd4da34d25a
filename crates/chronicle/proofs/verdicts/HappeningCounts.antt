-- How many things happened.
use Rattle.std.proofs.Common.{◌≡◌, ℕ, ◌+◌, ◌-◌, ◌≤◌, List, [], ◌∷◌, ◌++◌, map, length, take, drop, ap, ◌∙◌, arith, length-drop}
use Rattle.std.proofs.lemmas.List.{length-append, length-map, length-take-le}
use Rattle.object.specs.Happenings.{IsTimeline}
use Rattle.object.specs.declared.command.Answer.{Answer}
use Rattle.object.specs.declared.command.Submission.{Submission}
use Rattle.recorder.proofs.Between.{ComeBetween, after_first, between_rest, between_timeline, least, most}
use Rattle.chronicle_text.proofs.texts.InTime.{comes, answers_first, answers_last}
use Rattle.chronicle_text.specs.Happenings.{Happening, happenings, happenings_from}
use Rattle.chronicle_text.specs.Happenings.Happening.{Answered}

count_from : {Op Reply : Type 0} (given high : ℕ) (submitted : List (Submission Op)) (answers : List (Answer Reply))
    → given + length answers ≡ high → ComeBetween given high submitted
    → length (happenings_from given submitted answers) ≡ length submitted + length answers
count_from given high [] answers all b = ap length (answers_last given answers) ∙ length-map answers Answered ∙ omega arith
count_from {Op} {Reply} given high (s ∷ rest) answers all b =
    let low = least given high s rest b in
    let top = most given high s rest b in
    let n = s.after - given in
    let now : given + n ≡ s.after = omega arith in
    let few : n ≤ length answers = omega arith in
    let left : length (drop n answers) ≡ length answers - n = length-drop n answers in
    let more = count_from s.after high rest (drop n answers) (omega arith) (between_rest given high s rest b) in
    let first : length (map {B = Happening Op Reply} Answered (take n answers)) ≡ n = length-map (take n answers) Answered ∙ length-take-le n answers few in
    ap length (answers_first n given (s ∷ rest) answers (λ t i. let h = after_first given high s rest b t i in omega arith) few
    ∙ ap (λ k. map Answered (take n answers) ++ happenings_from k (s ∷ rest) (drop n answers)) now
    ∙ ap (λ t. map Answered (take n answers) ++ t) (comes s rest (drop n answers)))
    ∙ length-append (map Answered (take n answers)) _
    ∙ omega arith

pub happenings_count : {Op Reply : Type 0} (submitted : List (Submission Op)) (answers : List (Answer Reply))
    → IsTimeline (record { submitted = submitted; answers = answers })
    → length (happenings submitted answers) ≡ length submitted + length answers
happenings_count submitted answers t =
    count_from 0 (length answers) submitted answers (omega arith)
    (between_timeline (record { submitted = submitted; answers = answers }) t)
