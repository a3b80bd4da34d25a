-- The happenings of every reachable world are legal for its order.
use Rattle.std.proofs.Common.{◌≡◌, ◌⊎◌, inl, inr, ⊎_elim, ℕ, zero, suc, ◌<◌, ◌≤◌, true, false, List, [], ◌∷◌, ◌++◌}
use Rattle.std.proofs.Common.{length, length-append, fold, Some, refl, sym, ap, ◌∙◌, subst, append_assoc, arith}
use Rattle.std.specs.Prelude.{slice_get}
use Rattle.std.proofs.lemmas.Bool.{cases_Bool}
use Rattle.object.specs.Lists.{In, IsBeginning}
use Rattle.object.specs.Answers.{AnswersOnce}
use Rattle.object.specs.Replays.{Placed, replay_from, is_new, kept}
use Rattle.object.specs.declared.command.Answer.{Answer}
use Rattle.object.specs.declared.command.Command.{Command}
use Rattle.object.specs.declared.command.Key.{Key}
use Rattle.object.specs.declared.command.Submission.{Submission}
use Rattle.object.specs.Objects.{Rules, replay_of}
use Rattle.object.specs.Obeying.{answers_after}
use Rattle.agreement.specs.Told.{IsGivenByReached}
use Rattle.agreement.specs.Worlds.{World}
use Rattle.agreement.specs.Runs.{IsReachable}
use Rattle.agreement.specs.Chosen.{IsOrder, IsChosenFrom}
use Rattle.object.specs.Legal.{IsLegal, IsGivenAt, StandsAt, WasSubmitted, given_before}
use Rattle.object.specs.ListLaws.{In-left, In-right, In-map}
use Rattle.ballot.specs.OrderLaws.{BallotLaws}
use Rattle.agreement.proofs.chosen.Invariants.{IsSound}
use Rattle.agreement.proofs.chosen.Reach.{reachable_sound}
use Rattle.object.specs.ReplayLaws.{noted_at, answers_in, kept-push_new, replay-append}
use Rattle.object.specs.FilterLaws.{answers_new, answers_old}
use Rattle.agreement.proofs.chosen.Growing.{kept_beginning}
use Rattle.agreement.proofs.order.Submitted.{chosen_submitted}
use Rattle.agreement.proofs.order.Rising.{In-kept, kept_rises}
use Rattle.agreement.proofs.order.Once.{ObjectLaws, replay_once, one_answer}
use Rattle.agreement.proofs.answered.Performed.{run_chosen, run_from, run_of_all, run_within}
use Rattle.agreement.proofs.answered.Answered.{IsGiven, IsPast, IsTraced, reachable_traced}

-- what stands in a list stands in a beginning of it, or behind
place_cases : {A : Type 0} (xs more : List A) (n : ℕ) (x : A) → slice_get (xs ++ more) n ≡ Some x → In x xs ⊎ (length xs ≤ n)
place_cases [] more n x e = inr (omega arith)
place_cases (y ∷ ys) more zero x e = inl (inl (cc))
place_cases (y ∷ ys) more (suc n) x e = ⊎_elim (λ (i : In x ys). inl (inr i)) (λ (l : length ys ≤ n). inr (omega arith)) (place_cases ys more n x e)

module _ {O Op Reply : Type 0} (rules : Rules O Op Reply) where
  -- only a command that is new is answered
  answered_new : (earlier : List (Command Op)) (c : Command Op) (a : Answer Reply) → In a (answers_after rules earlier c) → is_new c earlier ≡ true
  answered_new earlier c a i = ⊎_elim
      (λ (e : is_new c earlier ≡ true). e)
      (λ (e : is_new c earlier ≡ false). absurd (subst (In a) (answers_old rules earlier c e) i))
      (cases_Bool (is_new c earlier))

  -- the answers of the command after a beginning stand at its place
  given_at : (first : List (Command Op)) (c : Command Op) (more : List (Command Op)) (a : Answer Reply)
      → In a (rules.answers (fold rules.after rules.fresh first) c)
      → IsGivenAt rules (first ++ (c ∷ more)) (length first) a
  given_at first c more a i =
      subst (In (record { place = length first; answer = a })) (sym (replay-append rules.after rules.answers rules.fresh first (c ∷ more)))
      (In-right (record { place = length first; answer = a }) (replay_of rules first)
      (replay_from rules.after rules.answers (fold rules.after rules.fresh first) (length first) (c ∷ more))
      (In-left (record { place = length first; answer = a }) (noted_at (length first) (rules.answers (fold rules.after rules.fresh first) c)) _
      (In-map (λ b. record { place = length first; answer = b }) a (rules.answers (fold rules.after rules.fresh first) c) i)))

  -- what is kept of some commands and a new one begins what is kept of more
  kept_with : (earlier : List (Command Op)) (c : Command Op) (all : List (Command Op)) → is_new c earlier ≡ true
      → IsBeginning (earlier ++ (c ∷ [])) all → (more : List (Command Op)) × (kept all ≡ kept earlier ++ (c ∷ more))
  kept_with earlier c all e b =
      let k = kept_beginning (earlier ++ (c ∷ [])) all b in
      (k.0, k.1 ∙ ap (λ l. l ++ k.0) (kept-push_new earlier c e) ∙ append_assoc (kept earlier) (c ∷ []) k.0)

  given_place : (earlier : List (Command Op)) (c : Command Op) (all : List (Command Op)) (a : Answer Reply)
      → In a (answers_after rules earlier c) → IsBeginning (earlier ++ (c ∷ [])) all
      → IsGivenAt rules (kept all) (length (kept earlier)) a
  given_place earlier c all a i b =
      let e = answered_new earlier c a i in
      let k = kept_with earlier c all e b in
      subst (λ l. IsGivenAt rules l (length (kept earlier)) a) (sym k.1) (given_at (kept earlier) c k.0 a (subst (In a) (answers_new rules earlier c e) i))

  -- an answer of the replay has one place
  one_place : (order : List (Command Op)) → AnswersOnce (answers_in (replay_of rules order))
      → (a : Answer Reply) (m n : ℕ) → IsGivenAt rules order m a → IsGivenAt rules order n a → m ≡ n
  one_place order once a m n i j =
      ap (λ (p : Placed Reply). p.place)
      (one_answer (replay_of rules order) once (record { place = m; answer = a })
      (record { place = n; answer = a }) i j refl)

module _ (laws : BallotLaws) {O Op Reply : Type 0} (rules : Rules O Op Reply) (waits : O → Key → Type 0)
    (object : ObjectLaws rules waits) (w : World Op Reply) (r : IsReachable rules w) (all : List (Command Op))
    (chosen : IsChosenFrom w.cluster 1 all) where
  told : IsTraced rules w
  told = reachable_traced laws rules w r

  sound : IsSound w.cluster
  sound = reachable_sound laws rules w r

  once : AnswersOnce (answers_in (replay_of rules (kept all)))
  once = replay_once rules waits object (kept all) (kept_rises all)

  was_submitted : (c : Command Op) → In c (kept all) → WasSubmitted c w.happenings.submitted
  was_submitted c i =
      let at = run_chosen w.cluster 1 all (run_from w.cluster 1 all chosen) c (In-kept all c i) in
      chosen_submitted laws rules w.cluster.members w r.0 r.1 at.0 c at.1

  place_of : (bound : ℕ) (a : Answer Reply) → (h : IsGiven rules w.cluster bound a) → IsGivenAt rules (kept all) (length (kept h.earlier)) a
  place_of bound a h = given_place rules h.earlier h.last all a h.answer (run_of_all laws w.cluster sound 1 (h.earlier ++ (h.last ∷ [])) all h.chosen chosen)

  -- an answer's place is among what was kept when it was given
  placed_within : (run : List (Command Op)) (a : Answer Reply) (h : IsGiven rules w.cluster (length run) a)
      → IsBeginning (h.earlier ++ (h.last ∷ [])) run → length (kept h.earlier) < length (kept run)
  placed_within run a h b =
      let k = kept_with rules h.earlier h.last run (answered_new rules h.earlier h.last a h.answer) b in
      let e = ap length k.1 ∙ length-append (kept h.earlier) (h.last ∷ k.0) in
      omega arith

  is_later : (s : Submission Op) → IsPast rules w.cluster w.happenings.answers s → (a : Answer Reply)
      → In a (given_before s w.happenings.answers) → (m n : ℕ) → IsGivenAt rules (kept all) m a
      → StandsAt s.command.key (kept all) n → m < n
  is_later s past a i m n given stands =
      let h = past.given a i in
      let e : m ≡ length (kept h.earlier) = one_place rules (kept all) once a m (length (kept h.earlier)) given (place_of (length past.run) a h) in
      let f = length-append h.earlier (h.last ∷ []) in
      let l = h.within in
      let b = run_within laws w.cluster sound 1 (h.earlier ++ (h.last ∷ [])) past.run h.chosen past.chosen (omega arith) in
      let k = kept_beginning past.run all (run_of_all laws w.cluster sound 1 past.run all past.chosen chosen) in
      let within = placed_within past.run a h b in
      ⊎_elim
      (λ (old : In stands.0 (kept past.run)). absurd (past.others stands.0 (In-kept past.run stands.0 old) stands.2))
      (λ (behind : length (kept past.run) ≤ n). omega arith)
      (place_cases (kept past.run) k.0 n stands.0 (ap (λ l. slice_get l n) (sym k.1) ∙ stands.1))

  kept_legal : IsLegal rules w.happenings (kept all)
  kept_legal = record {
    submitted = was_submitted;
    rising = kept_rises all;
    answered = λ a i. let h = told.given a i in (length (kept h.earlier), place_of w.reach a h);
    once = once;
    later = λ s i a j m n given stands. is_later s (told.past s i) a j m n given stands;
  }

-- each answer that was given is one of an object that obeys what is kept of the commands up to the reach
pub reached_gives : (laws : BallotLaws) {O Op Reply : Type 0} (rules : Rules O Op Reply) (w : World Op Reply) → IsReachable rules w → IsGivenByReached rules w
reached_gives laws rules w r cs reached a i =
    let h = (reachable_traced laws rules w r).given a i in
    let f = length-append h.earlier (h.last ∷ []) in
    let l = h.within in
    let count = reached.count in (
      length (kept h.earlier),
      given_place rules h.earlier h.last cs a h.answer
          (run_within laws w.cluster (reachable_sound laws rules w r) 1 (h.earlier ++ (h.last ∷ [])) cs h.chosen reached.chosen (omega arith)),
    )

-- the happenings of a reachable world are legal for its order
pub reachable_legal : (laws : BallotLaws) {O Op Reply : Type 0} (rules : Rules O Op Reply) (waits : O → Key → Type 0)
    → ObjectLaws rules waits → (w : World Op Reply) → IsReachable rules w → (order : List (Command Op))
    → IsOrder w.cluster order → IsLegal rules w.happenings order
reachable_legal laws rules waits object w r order h = subst (IsLegal rules w.happenings) (sym h.2) (kept_legal laws rules waits object w r h.0 h.1)
