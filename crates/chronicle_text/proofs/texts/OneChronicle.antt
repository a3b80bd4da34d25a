-- Chronicles of one text are one.
use Rattle.std.proofs.Common.{◌≡◌, ℕ, suc, ◌+◌, ◌-◌, ◌≤◌, ◌==◌, true, false, cond, List, [], ◌∷◌, ◌++◌, map, length}
use Rattle.std.proofs.Common.{take, drop, refl, sym, ap, ◌∙◌, arith, length-take, length-drop, add-zero}
use Rattle.std.specs.List.{AllByRecursion}
use Rattle.object.specs.Lists.{In}
use Rattle.object.specs.declared.command.Answer.{Answer}
use Rattle.object.specs.declared.command.Key.{Key}
use Rattle.object.specs.declared.command.Submission.{Submission}
use Rattle.bean_words.specs.declared.op.Op.{Op}
use Rattle.bean_words.specs.declared.reply.Reply.{Reply}
use Rattle.recorder.specs.Chronicles.{Chronicle, IsChronicle}
use Rattle.chronicle_text.specs.Dump.{version_of, dump_text}
use Rattle.chronicle_text.specs.Fits.{FitsChronicle, FitsCommand, FitsAnswer}
use Rattle.chronicle_text.specs.Happenings.{Happening, happenings, happenings_from, moment, came_at}
use Rattle.chronicle_text.specs.Happenings.Happening.{Submitted, Answered}
use Rattle.recorder.proofs.Between.{ComeBetween, between_timeline, between_rest, after_first, least, most}
use Rattle.chronicle_text.proofs.texts.InTime.{comes, answers_first, answers_last}
use Rattle.chronicle_text.proofs.texts.LineLists.{Line, lines, PlainLine, one_text, dump_is, FitsHappening, happened}
use Rattle.chronicle_text.proofs.texts.LineLists.{tail_lines, happened_back, ordered, ordered_back, head_happened}
use Rattle.chronicle_text.proofs.texts.LineLists.{head_ordered, weights, weights_back, lines_plain}

-- ---- submissions and answers, read off what happened

abbrev answers_of : {Op Reply : Type 0} → List (Happening Op Reply) → List (Answer Reply)
answers_of [] = []
answers_of (Submitted c ∷ hs) = answers_of hs
answers_of (Answered a ∷ hs) = a ∷ answers_of hs

abbrev submissions_of : {Op Reply : Type 0} → ℕ → List (Happening Op Reply) → List (Submission Op)
submissions_of given [] = []
submissions_of given (Submitted c ∷ hs) = record { command = c; after = given } ∷ submissions_of given hs
submissions_of given (Answered a ∷ hs) = submissions_of (suc given) hs

no_answers : {Op Reply : Type 0} (submitted : List (Submission Op)) (rest : List (Happening Op Reply))
    → answers_of (map (λ s. Submitted s.command) submitted ++ rest) ≡ answers_of rest
no_answers [] rest = refl
no_answers (s ∷ submitted) rest = no_answers submitted rest

none_alone : {Op Reply : Type 0} (submitted : List (Submission Op)) → answers_of {Reply = Reply} (map (λ s. Submitted s.command) submitted) ≡ []
none_alone [] = refl
none_alone (s ∷ submitted) = none_alone submitted

answers_back : {Op Reply : Type 0} (given : ℕ) (submitted : List (Submission Op)) (answers : List (Answer Reply))
    → answers_of (happenings_from given submitted answers) ≡ answers
answers_back given submitted [] = none_alone (came_at given submitted)
answers_back given submitted (a ∷ more) =
    no_answers (came_at given submitted) (Answered a ∷ happenings_from (suc given) submitted more) ∙ ap (λ t. a ∷ t) (answers_back (suc given) submitted more)

past_answers : {Op Reply : Type 0} (given : ℕ) (answers : List (Answer Reply)) (rest : List (Happening Op Reply))
    → submissions_of given (map Answered answers ++ rest) ≡ submissions_of (given + length answers) rest
past_answers given [] rest = ap (λ n. submissions_of n rest) (sym (add-zero given))
past_answers given (a ∷ more) rest =
    let next : suc given + length more ≡ given + length (a ∷ more) = omega arith in
    past_answers (suc given) more rest ∙ ap (λ n. submissions_of n rest) next

no_submissions : {Op Reply : Type 0} (given : ℕ) (answers : List (Answer Reply)) → submissions_of {Op = Op} given (map Answered answers) ≡ []
no_submissions given [] = refl
no_submissions given (a ∷ more) = no_submissions (suc given) more

submissions_back : {Op Reply : Type 0} (high given : ℕ) (submitted : List (Submission Op))
    (answers : List (Answer Reply)) → high ≡ given + length answers → ComeBetween given high submitted
    → submissions_of given (happenings_from given submitted answers) ≡ submitted
submissions_back high given [] answers total b = ap (submissions_of given) (answers_last given answers) ∙ no_submissions given answers
submissions_back {Op} {Reply} high given (s ∷ rest) answers total b =
    let low = least given high s rest b in
    let top = most given high s rest b in
    let n : ℕ = s.after - given in
    let at : given + n ≡ s.after = omega arith in
    let enough : n ≤ length answers = omega arith in
    let above : (t : Submission Op) → In t (s ∷ rest) → given + n ≤ t.after = λ t i. let h = after_first given high s rest b t i in omega arith in
    let later : List (Happening Op Reply) = happenings_from s.after rest (drop n answers) in
    let first : happenings_from given (s ∷ rest) answers ≡ map Answered (take n answers) ++ (Submitted s.command ∷ later) =
    answers_first n given (s ∷ rest) answers above enough ∙ ap (λ t. map Answered (take n answers) ++ t)
    (ap (λ k. happenings_from k (s ∷ rest) (drop n answers)) at ∙ comes s rest (drop n answers)) in
    let taken : given + length (take n answers) ≡ s.after = omega (arith, length-take n answers) in
    let left : high ≡ s.after + length (drop n answers) = omega (arith, length-drop n answers) in
    ap (submissions_of given) first
    ∙ past_answers given (take n answers) (Submitted s.command ∷ later)
    ∙ ap (λ k. submissions_of k (Submitted s.command ∷ later)) taken
    ∙ ap (λ t. s ∷ t) (submissions_back high s.after rest (drop n answers) left (between_rest given high s rest b))

-- ---- what happened fits

abbrev FitSubmissions : List (Submission Op) → Type 0
FitSubmissions submitted = AllByRecursion (λ (s : Submission Op). FitsCommand s.command) submitted

fits_came : (given : ℕ) (submitted : List (Submission Op)) → FitSubmissions submitted → FitSubmissions (came_at given submitted)
fits_came given [] h = tt
fits_came given (s ∷ rest) h =
    elim (s.after == given) as (λ b. FitSubmissions (cond b (s ∷ came_at given rest) (came_at given rest))) [
      | true ↦ (h.0, fits_came given rest h.1)
      | false ↦ fits_came given rest h.1
    ]

fits_each : (came : List (Submission Op)) → FitSubmissions came → AllByRecursion FitsHappening (map (λ (s : Submission Op). Submitted s.command) came)
fits_each [] h = tt
fits_each (s ∷ came) h = (h.0, fits_each came h.1)

fits_moment : (given : ℕ) (submitted : List (Submission Op)) → FitSubmissions submitted → AllByRecursion FitsHappening (moment {Reply = Reply} given submitted)
fits_moment given submitted h = fits_each (came_at given submitted) (fits_came given submitted h)

fits_more : (hs ks : List (Happening Op Reply)) → AllByRecursion FitsHappening hs → AllByRecursion FitsHappening ks → AllByRecursion FitsHappening (hs ++ ks)
fits_more [] ks h k = k
fits_more (x ∷ hs) ks h k = (h.0, fits_more hs ks h.1 k)

fits_happenings : (given : ℕ) (submitted : List (Submission Op)) (answers : List (Answer Reply))
    → FitSubmissions submitted → AllByRecursion FitsAnswer answers
    → AllByRecursion FitsHappening (happenings_from given submitted answers)
fits_happenings given submitted [] h k = fits_moment given submitted h
fits_happenings given submitted (a ∷ more) h k =
    fits_more (moment given submitted) (Answered a ∷ happenings_from (suc given) submitted more)
    (fits_moment given submitted h) (k.0, fits_happenings (suc given) submitted more h k.1)

-- ---- the chronicle that the lines tell

abbrev chronicle_of : List Line → Chronicle Op Reply
chronicle_of ls =
    let hs = happened ls in
    record { members = weights ls; submitted = submissions_of 0 hs; answers = answers_of hs; order = ordered ls }

built : (m n : List ℕ) (s t : List (Submission Op)) (a b : List (Answer Reply)) (o p : List Key) → m ≡ n → s ≡ t → a ≡ b → o ≡ p →
    (let c : Chronicle Op Reply = record { members = m; submitted = s; answers = a; order = o } in c)
    ≡ record { members = n; submitted = t; answers = b; order = p }
built m n s t a b o p members submitted answers order = cc

back : (c : Chronicle Op Reply) → IsChronicle c → FitsChronicle c → chronicle_of (lines c) ≡ c
back c is fits =
    let hs = happenings c.submitted c.answers in
    let v = version_of c.members in
    let members = weights_back v c.members (tail_lines hs c.order) refl is.members in
    let all = head_happened v c.members (tail_lines hs c.order) ∙ happened_back hs c.order
    (fits_happenings 0 c.submitted c.answers fits.submitted fits.answers) in
    let order = head_ordered v c.members (tail_lines hs c.order) ∙ ordered_back hs c.order fits.order in
    let total : length c.answers ≡ 0 + length c.answers = omega arith in
    let submitted = ap (submissions_of 0) all ∙ submissions_back (length c.answers) 0 c.submitted c.answers total
    (between_timeline (record { submitted = c.submitted; answers = c.answers }) is.timeline) in
    let answers = ap answers_of all ∙ answers_back 0 c.submitted c.answers in
    built (weights (lines c)) c.members _ c.submitted _ c.answers _ c.order members submitted answers order

plain : (c : Chronicle Op Reply) → IsChronicle c → FitsChronicle c → AllByRecursion PlainLine (lines c)
plain c is fits = lines_plain c is.members (fits_happenings 0 c.submitted c.answers fits.submitted fits.answers) fits.order

pub one_chronicle : (c d : Chronicle Op Reply) → IsChronicle c → IsChronicle d → FitsChronicle c → FitsChronicle d → dump_text c ≡ dump_text d → c ≡ d
one_chronicle c d is js fits gits same =
    let one = one_text (lines c) (lines d) (plain c is fits) (plain d js gits) (sym (dump_is c) ∙ same ∙ dump_is d) in
    sym (back c is fits) ∙ ap chronicle_of one ∙ back d js gits
