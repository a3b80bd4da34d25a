-- The lines for what happened, taken submission by submission.
use Rattle.std.proofs.Common.{◌≡◌, ℕ, ◌+◌, ◌-◌, ◌≤◌, List, [], ◌∷◌, ◌++◌, map, length, take, drop, sym, ap, ◌∙◌, arith}
use Rattle.std.proofs.Common.{append_assoc, length-append, length-drop}
use Rattle.std.proofs.Math.Seq.{take-append_seam}
use Rattle.std.proofs.lemmas.List.{take-take, drop-drop}
use Rattle.std.proofs.lemmas.List.Folds.{flat_map-map}
use Rattle.std.proofs.lemmas.Grind.{flat_map-append}
use Rattle.std.specs.List.{flat_map}
use Rattle.object.specs.Lists.{In}
use Rattle.object.specs.declared.command.Answer.{Answer}
use Rattle.object.specs.declared.command.Submission.{Submission}
use Rattle.bean_words.specs.declared.op.Op.{Op}
use Rattle.bean_words.specs.declared.reply.Reply.{Reply}
use Rattle.chronicle_text.specs.Dump.{submission_line, answer_line, happening_line}
use Rattle.chronicle_text.specs.Happenings.{happenings_from}
use Rattle.chronicle_text.specs.Happenings.Happening.{Submitted, Answered}
use Rattle.recorder.proofs.Between.{ComeBetween, after_first}
use Rattle.chronicle_text.proofs.texts.InTime.{comes, answers_first, answers_last}

-- what stood in front of a longer front stands in front
pub front_kept : (old text mid new : List ℕ) (n m : ℕ) → n ≡ length old → m ≡ length mid → mid ≡ old ++ text → take m new ≡ mid → take n new ≡ old
front_kept old text mid new n m n_is m_is mid_is kept =
    let within : n ≤ m = omega (arith, ap length mid_is, length-append old text) in
    sym (take-take n m new within) ∙ ap (take n) (kept ∙ mid_is) ∙ ap (λ k. take k (old ++ text)) n_is ∙ take-append_seam old text

-- the lines of answers
pub told : (answers : List (Answer Reply)) → flat_map happening_line (map Answered answers) ≡ flat_map answer_line answers
told answers = flat_map-map happening_line Answered answers

-- The lines from a submission on: those of the answers before it, its own, and the rest.
pub lines_from : (low : ℕ) (s : Submission Op) (rest : List (Submission Op)) (answers : List (Answer Reply))
    → ComeBetween low (length answers) (s ∷ rest) → low ≤ s.after → s.after ≤ length answers →
    flat_map happening_line (happenings_from low (s ∷ rest) (drop low answers))
    ≡ flat_map answer_line (take (s.after - low) (drop low answers)) ++
    (submission_line s.command ++ flat_map happening_line (happenings_from s.after rest (drop s.after answers)))
lines_from low s rest answers between least most =
    let n : ℕ = s.after - low in
    let at : low + n ≡ s.after = omega arith in
    let enough : n ≤ length (drop low answers) = omega (arith, length-drop low answers) in
    let above : (t : Submission Op) → In t (s ∷ rest) → low + n ≤ t.after = λ t i. let h = after_first low (length answers) s rest between t i in omega arith in
    let before = take n (drop low answers) in
    let later = happenings_from s.after rest (drop s.after answers) in
    let tail : happenings_from (low + n) (s ∷ rest) (drop n (drop low answers)) ≡ Submitted s.command ∷ later =
    ap (λ d. happenings_from (low + n) (s ∷ rest) d) (drop-drop n low answers) ∙ ap
    (λ k. happenings_from k (s ∷ rest) (drop k answers)) at ∙ comes s rest (drop s.after answers) in
    ap (flat_map happening_line) (answers_first n low (s ∷ rest) (drop low answers) above enough ∙ ap (λ t. map Answered before ++ t) tail)
    ∙ flat_map-append happening_line (map Answered before) (Submitted s.command ∷ later)
    ∙ ap (λ t. t ++ (submission_line s.command ++ flat_map happening_line later)) (told before)

-- the lines after the last submission are those of the answers
pub lines_last : (given : ℕ) (answers : List (Answer Reply))
    → flat_map happening_line (happenings_from {Op = Op} given [] answers) ≡ flat_map answer_line answers
lines_last given answers = ap (flat_map happening_line) (answers_last given answers) ∙ told answers

-- a text that grew grows on
pub grow : (old text mid more new : List ℕ) → mid ≡ old ++ text → new ≡ mid ++ more → new ≡ old ++ (text ++ more)
grow old text mid more new before now = now ∙ ap (λ t. t ++ more) before ∙ append_assoc old text more

-- what is written and what is left, by its parts
pub regroup : (old said line rest mid new : List ℕ) → mid ≡ old ++ said → new ≡ mid ++ line → new ++ rest ≡ old ++ (said ++ (line ++ rest))
regroup old said line rest mid new before now =
    ap (λ t. t ++ rest) (now ∙ ap (λ t. t ++ line) before) ∙ append_assoc (old ++ said) line rest ∙ append_assoc old said (line ++ rest)
