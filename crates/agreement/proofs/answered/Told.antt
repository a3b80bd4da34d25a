-- Every answer to what was performed has been given.
use Rattle.std.proofs.Common.{◌≡◌, ◌⊎◌, inl, inr, ⊎_elim, ℕ, ◌+◌, ◌<◌, ◌≤◌, max, Bool, true, false, cond, List, [], ◌∷◌}
use Rattle.std.proofs.Common.{◌++◌, length, length-append, fold, Option, Some, None, refl, sym, ap, ◌∙◌, subst}
use Rattle.std.proofs.Common.{append-nil, arith}
use Rattle.std.proofs.lemmas.Bool.{cases_lt, cases_Bool}
use Rattle.object.specs.Lists.{In}
use Rattle.object.specs.Replays.{Placed, replay_from, is_new, kept}
use Rattle.object.specs.declared.command.Answer.{Answer}
use Rattle.object.specs.declared.command.Command.{Command}
use Rattle.ballot.specs.declared.letter.LetterBody.{LetterBody}
use Rattle.ballot.specs.declared.letter.Letter.{Letter}
use Rattle.ballot.specs.Letters.{all_to_all}
use Rattle.leader.specs.Leaders.{woken}
use Rattle.replica.specs.Replicas.{proposes_first}
use Rattle.slot_log.specs.Books.{SlotBook}
use Rattle.slot_log.specs.Requests.{is_known, requested}
use Rattle.slot_log.specs.Proposals.{next_proposal, proposed}
use Rattle.slot_log.specs.Decisions.{next_decided}
use Rattle.ballot.specs.Members.{is_member}
use Rattle.agreement.specs.declared.event.Event.{Event}
use Rattle.object.specs.Objects.{Rules, is_one, replay_of}
use Rattle.slot_log.specs.Histories.{history}
use Rattle.object.specs.Obeying.{answers_after}
use Rattle.node.specs.Nodes.{NodeState}
use Rattle.agreement.specs.Nodes.{Cluster, node, turned}
use Rattle.agreement.specs.Worlds.{World, opening}
use Rattle.object.specs.Happenings.{is_submitted, with_submission}
use Rattle.node.specs.Receiving.{Receives, promises_ballot, accepts_pvalue, hears_promise, hears_vote, hears_proposal, learns, tells_decisions}
use Rattle.node.specs.Deeds.{said_again}
use Rattle.agreement.specs.Steps.{Step, submit, deliver, wake, nudge, propose, perform, restart, after_performing}
use Rattle.agreement.specs.Runs.{Leads, at_once, after, IsReachable, IsWorld}
use Rattle.agreement.specs.Chosen.{IsChosen}
use Rattle.object.specs.Legal.{IsGivenAt}
use Rattle.agreement.specs.Reached.{IsRun, IsReached}
use Rattle.agreement.specs.Told.{TellsReached, IsAnswered}
use Rattle.object.specs.ListLaws.{Each-at, In-get, In-left, In-right, In-cases}
use Rattle.ballot.specs.OrderLaws.{BallotLaws}
use Rattle.agreement.proofs.chosen.Invariants.{IsFair, IsSound}
use Rattle.agreement.proofs.chosen.Grows.{Grows}
use Rattle.agreement.proofs.chosen.Reach.{opened_at, opening_sound, leads_sound, step_sound}
use Rattle.object.specs.ReplayLaws.{noted_at, kept-push_new, kept-push_old, replay-append}
use Rattle.object.specs.FilterLaws.{answers_new}
use Rattle.agreement.proofs.answered.Performed.{run_stays, run_push, same_run, AllPerformed, history_run, turn_all}
use Rattle.agreement.proofs.answered.Answered.{leads_traced, reachable_reached, reached_beginning}

-- no replica is past this slot
abbrev pub AllWithin : {C : Type 0} → Cluster C → ℕ → Type 0
AllWithin k bound = (m : ℕ) → (node k m).replica.slot_out ≤ bound

requested_slot : {C : Type 0} (same : C → C → Bool) (r : SlotBook C) (c : C) → (requested same r c).slot_out ≡ r.slot_out
requested_slot {C} same r c = at (is_known same r c)
  where
    at : (test : Bool) → (cond test r (record r { requests = r.requests ++ (c ∷ []) })).slot_out ≡ r.slot_out
    at true = refl
    at false = refl

proposed_slot : {C : Type 0} (r : SlotBook C) (o : Option (ℕ × C)) → (proposed r o).slot_out ≡ r.slot_out
proposed_slot r None = refl
proposed_slot r (Some p) = refl

receives_slot : {C : Type 0} (members : List ℕ) (m n : ℕ) (x : NodeState C) (body : LetterBody C) (z : NodeState C)
    (out : List (Letter C)) → Receives members m n x body z out → z.replica.slot_out ≡ x.replica.slot_out
receives_slot members m n x body z out (promises_ballot b report r) = refl
receives_slot members m n x body z out (accepts_pvalue p) = refl
receives_slot members m n x body z out (hears_promise b report fresh taken may) = refl
receives_slot members m n x body z out (hears_vote b s by) = refl
receives_slot members m n x body z out (hears_proposal s c) = refl
receives_slot members m n x body z out (learns s c) = refl
receives_slot members m n x body z out (tells_decisions s) = refl

module _ (laws : BallotLaws) {O Op Reply : Type 0} (rules : Rules O Op Reply) where
  turn_within : (k : Cluster (Command Op)) (i : IsSound k) (n : ℕ) (member : is_member k.members n ≡ true)
      (x : NodeState (Command Op)) (out : List (Letter (Command Op))) (bound : ℕ) → AllWithin k bound
      → x.replica.slot_out ≤ bound → AllWithin (turned k n x out) bound
  turn_within k i n member x out bound f fx = turn_all laws (λ r. r.slot_out ≤ bound) k i n member x out f fx

  performs_within : (v : World Op Reply) → IsSound v.cluster → (n : ℕ) → is_member v.cluster.members n ≡ true
      → AllWithin v.cluster (v.reach + 1) → (o : Option (Command Op))
      → AllWithin (after_performing rules v n (node v.cluster n).replica o).cluster
      ((after_performing rules v n (node v.cluster n).replica o).reach + 1)
  performs_within v i n member f None = f
  performs_within v i n member f (Some c) =
      turn_within v.cluster i n member _ [] (max v.reach (node v.cluster n).replica.slot_out + 1) (λ m. let l = f m in omega arith) (omega arith)

  -- no replica is past the slot after the reach
  step_within : (v : World Op Reply) (e : Event Op) (u : World Op Reply) → IsSound v.cluster → Step rules v e u
      → AllWithin v.cluster (v.reach + 1) → AllWithin u.cluster (u.reach + 1)
  step_within v e u i (submit n c member own) f =
      turn_within v.cluster i n member _ [] (v.reach + 1) f
      (let same = requested_slot (is_one rules) (node v.cluster n).replica c in let l = f n in omega arith)
  step_within v e u i (deliver j l x out at receives) f =
      let fair = Each-at (IsFair v.cluster) v.cluster.letters l i.letters (In-get v.cluster.letters j l at) in
      turn_within v.cluster i l.to fair.receiver x out (v.reach + 1) f
      (let same = receives_slot v.cluster.members l.«from» l.to
      (node v.cluster l.to) l.body x out receives in let low = f l.to in omega arith)
  step_within v e u i (wake n member) f =
      turn_within v.cluster i n member _ (all_to_all v.cluster.members n (woken (node v.cluster n).leader).says)
      (v.reach + 1) f (f n)
  step_within v e u i (nudge n member) f =
      turn_within v.cluster i n member (node v.cluster n) (said_again v.cluster.members n (node v.cluster n))
      (v.reach + 1) f (f n)
  step_within v e u i (propose n member) f =
      turn_within v.cluster i n member _
      (all_to_all v.cluster.members n (proposes_first (next_proposal (node v.cluster n).replica))) (v.reach + 1) f
      (let same = proposed_slot (node v.cluster n).replica (next_proposal (node v.cluster n).replica) in let l =
      f n in omega arith)
  step_within v e u i (perform n member) f = performs_within v i n member f (next_decided (node v.cluster n).replica)
  step_within v e u i (restart n member) f = turn_within v.cluster i n member _ [] (v.reach + 1) f (omega arith)

-- one of these answers, at this place
noted_answer : {Reply : Type 0} (n : ℕ) (given : List (Answer Reply)) (p : Placed Reply) → In p (noted_at n given) → In p.answer given
noted_answer n [] p i = absurd i
noted_answer n (a ∷ given) p (inl e) = inl (ap (λ (q : Placed _). q.answer) e)
noted_answer n (a ∷ given) p (inr i) = inr (noted_answer n given p i)

module _ {O Op Reply : Type 0} (rules : Rules O Op Reply) where
  given_new : (earlier : List (Command Op)) (c : Command Op) → is_new c earlier ≡ true → (place : ℕ) (a : Answer Reply)
      → IsGivenAt rules (kept (earlier ++ (c ∷ []))) place a → IsGivenAt rules (kept earlier) place a
      ⊎ In a (answers_after rules earlier c)
  given_new earlier c e place a i =
      let p : Placed Reply = record { place = place; answer = a } in
      let now = rules.answers (fold rules.after rules.fresh (kept earlier)) c in
      let last = replay_from rules.after rules.answers (fold rules.after rules.fresh (kept earlier)) (length (kept earlier)) (c ∷ []) in
      let split : replay_of rules (kept (earlier ++ (c ∷ []))) ≡ replay_of rules (kept earlier) ++ last =
      ap (replay_of rules) (kept-push_new earlier c e) ∙ replay-append rules.after rules.answers rules.fresh (kept earlier) (c ∷ []) in
      ⊎_elim
      (λ (old : In p (replay_of rules (kept earlier))). inl old)
      (λ (new : In p last). inr (subst (In a) (sym (answers_new rules earlier c e))
      (noted_answer (length (kept earlier)) now p
      (subst (In p) (append-nil (noted_at (length (kept earlier)) now)) new))))
      (In-cases p (replay_of rules (kept earlier)) last (subst (In p) split i))

  -- what is answered with one command more was answered before, or is answered to it
  given_push : (earlier : List (Command Op)) (c : Command Op) (place : ℕ) (a : Answer Reply)
      → IsGivenAt rules (kept (earlier ++ (c ∷ []))) place a → IsGivenAt rules (kept earlier) place a
      ⊎ In a (answers_after rules earlier c)
  given_push earlier c place a i = ⊎_elim
      (λ (e : is_new c earlier ≡ true). given_new earlier c e place a i)
      (λ (e : is_new c earlier ≡ false). inl (subst (λ l. IsGivenAt rules l place a) (kept-push_old earlier c e) i))
      (cases_Bool (is_new c earlier))

module _ (laws : BallotLaws) {O Op Reply : Type 0} (rules : Rules O Op Reply) (v : World Op Reply)
    (reached : (cs : List (Command Op)) × IsReached v cs) (told : TellsReached rules v) where
  -- where the reach stays, so do the commands of its slots
  still_told : (u : World Op Reply) → IsSound u.cluster → Grows v.cluster u.cluster → u.reach ≡ v.reach
      → ((a : Answer Reply) → In a v.happenings.answers → In a u.happenings.answers) → TellsReached rules u
  still_told u i g same more cs r place a given =
      let old = reached.1 in
      let e : cs ≡ reached.0 = same_run laws u.cluster i 1 cs reached.0 r.chosen
      (run_stays v.cluster u.cluster g 1 reached.0 old.chosen) (r.count ∙ same ∙ sym old.count) in
      more a (told reached.0 old place a (subst (λ l. IsGivenAt rules (kept l) place a) e given))

  quiet_told : (u : World Op Reply) → IsSound u.cluster → Grows v.cluster u.cluster → u.reach ≡ v.reach
      → u.happenings.answers ≡ v.happenings.answers → TellsReached rules u
  quiet_told u i g same answers = still_told u i g same (λ a at. subst (In a) (sym answers) at)

  -- a replica performs the slot after the reach
  further_told : (u : World Op Reply) → IsSound u.cluster → (earlier : List (Command Op)) (c : Command Op)
      → IsReached v earlier → IsReached u (earlier ++ (c ∷ []))
      → u.happenings.answers ≡ v.happenings.answers ++ answers_after rules earlier c → TellsReached rules u
  further_told u i earlier c before now answers cs r place a given =
      let e : cs ≡ earlier ++ (c ∷ []) = same_run laws u.cluster i 1 cs (earlier ++ (c ∷ [])) r.chosen now.chosen (r.count ∙ sym now.count) in
      subst (In a) (sym answers)
      (⊎_elim
      (λ (old : IsGivenAt rules (kept earlier) place a). In-left a v.happenings.answers (answers_after rules earlier c) (told earlier before place a old))
      (λ (new : In a (answers_after rules earlier c)). In-right a v.happenings.answers (answers_after rules earlier c) new)
      (given_push rules earlier c place a (subst (λ l. IsGivenAt rules (kept l) place a) e given)))

  performs_told : IsSound v.cluster → AllPerformed v.cluster → AllWithin v.cluster (v.reach + 1)
      → (n : ℕ) (o : Option (Command Op)) → next_decided (node v.cluster n).replica ≡ o → (u : World Op Reply)
      → IsSound u.cluster → Grows v.cluster u.cluster
      → u.reach ≡ (after_performing rules v n (node v.cluster n).replica o).reach
      → u.happenings.answers ≡ (after_performing rules v n (node v.cluster n).replica o).happenings.answers
      → TellsReached rules u
  performs_told i full within n None e u iu g reach answers = quiet_told u iu g reach answers
  performs_told i full within n (Some c) e u iu g reach answers = ⊎_elim
      (λ (l : v.reach < slot).
      further_told u iu earlier c
      (record { chosen = done.0; count = let d = done.1 in let w = within n in omega arith })
      (record {
        chosen = run_stays v.cluster u.cluster g 1 (earlier ++ (c ∷ [])) now;
        count = let d = done.1 in let f =
            length-append earlier (c ∷ []) in omega arith;
      })
      answers)
      (λ (l : slot ≤ v.reach). still_told u iu g (reach ∙ omega arith)
      (λ a at. subst (In a) (sym answers) (In-left a v.happenings.answers (answers_after rules earlier c) at)))
      (cases_lt v.reach slot)
    where
      slot : ℕ
      slot = (node v.cluster n).replica.slot_out

      earlier : List (Command Op)
      earlier = history (node v.cluster n).replica

      done : IsRun v.cluster 1 earlier × (length earlier + 1 ≡ slot)
      done = history_run v.cluster i n (full n)

      now : IsRun v.cluster 1 (earlier ++ (c ∷ []))
      now = run_push v.cluster 1 earlier c done.0 (subst (λ s. IsChosen v.cluster s c) (let d = done.1 in omega arith) ((i.nodes n).decisions slot c e))

submitted_answers : {Op Reply : Type 0} (w : World Op Reply) (c : Command Op) → (with_submission c w.happenings).answers ≡ w.happenings.answers
submitted_answers w c = at (is_submitted c.key w.happenings.submitted)
  where
    at : (test : Bool) → (cond test w.happenings
        (record w.happenings {
          submitted =
              w.happenings.submitted ++ (record { command = c; after = length w.happenings.answers } ∷ []);
        })).answers
        ≡ w.happenings.answers
    at true = refl
    at false = refl

-- what holds in each reachable world
pub record Tells {O Op Reply : Type 0} (rules : Rules O Op Reply) (w : World Op Reply) : Type 0 where
  pub within : AllWithin w.cluster (w.reach + 1)
  pub told : TellsReached rules w

module _ (laws : BallotLaws) {O Op Reply : Type 0} (rules : Rules O Op Reply) where
  step_told : (v : World Op Reply) (e : Event Op) (u : World Op Reply) → IsSound v.cluster → AllPerformed v.cluster
      → (cs : List (Command Op)) × IsReached v cs → IsSound u.cluster → Grows v.cluster u.cluster → Tells rules v
      → Step rules v e u → TellsReached rules u
  step_told v e u i full reached iu g h (submit n c member own) = quiet_told laws rules v reached h.told u iu g refl (submitted_answers v c)
  step_told v e u i full reached iu g h (deliver j l x out at receives) = quiet_told laws rules v reached h.told u iu g refl refl
  step_told v e u i full reached iu g h (wake n member) = quiet_told laws rules v reached h.told u iu g refl refl
  step_told v e u i full reached iu g h (nudge n member) = quiet_told laws rules v reached h.told u iu g refl refl
  step_told v e u i full reached iu g h (propose n member) = quiet_told laws rules v reached h.told u iu g refl refl
  step_told v e u i full reached iu g h (perform n member) =
      performs_told laws rules v reached h.told i full h.within n
      (next_decided (node v.cluster n).replica) refl u iu g refl refl
  step_told v e u i full reached iu g h (restart n member) = quiet_told laws rules v reached h.told u iu g refl refl

  opening_told : (members : List ℕ) → TellsReached rules (opening members)
  opening_told members [] r place a i = absurd i
  opening_told members (c ∷ cs) r place a i = let e = r.count in absurd (omega arith)

  opening_tells : (members : List ℕ) → Tells rules (opening members)
  opening_tells members = record {
    within = λ m. subst (λ (x : NodeState (Command Op)). x.replica.slot_out ≤ 0 + 1) (sym (opened_at members m)) (omega arith);
    told = opening_told members;
  }

  leads_tells : (members : List ℕ) (u : World Op Reply) (es : List (Event Op)) → Leads rules (opening members) es u → Tells rules u
  leads_tells members u es at_once = opening_tells members
  leads_tells members u es (after {es = before} {v = v} e u' l s) =
      let i = (leads_sound laws rules (opening members) v before (opening_sound (Command Op) members) l).sound in
      let k = step_sound laws rules v e u i s in
      let traced = leads_traced laws rules members v before l in
      let h = leads_tells members v before l in
      record {
        within = step_within laws rules v e u i s h.within;
        told = step_told v e u i traced.full (traced.reached, record { chosen = traced.chosen; count = traced.reach }) k.sound k.grows h s;
      }

  -- what was performed is answered, in each reachable world
  reachable_answered : (w : World Op Reply) → IsReachable rules w → IsAnswered rules w
  reachable_answered w r = record {
    some = reachable_reached laws rules w r;
    begins = reached_beginning laws rules w r;
    told = (leads_tells w.cluster.members w r.0 r.1).told;
  }

  -- nor is a replica past the slot after the reach
  pub reachable_within_reach : (w : World Op Reply) → IsReachable rules w → AllWithin w.cluster (w.reach + 1)
  reachable_within_reach w r = (leads_tells w.cluster.members w r.0 r.1).within

  pub answered_now : (v w : World Op Reply) → v ≡ w → IsWorld rules v → IsAnswered rules w
  answered_now v w is i = reachable_answered w (subst (IsReachable rules) is i.reachable)
