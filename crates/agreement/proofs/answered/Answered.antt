-- From which chosen commands each answer came, and which were chosen when a command was submitted.
use Rattle.std.proofs.Common.{◌≡◌, ⊎_elim, ℕ, ◌+◌, ◌<◌, ◌≤◌, max, Bool, true, false, cond, List, [], ◌∷◌, ◌++◌, take}
use Rattle.std.proofs.Common.{length, length-append, Option, Some, None, refl, sym, ap, ◌∙◌, subst, append-nil, arith}
use Rattle.std.proofs.lemmas.Bool.{cases_lt}
use Rattle.std.proofs.lemmas.List.{take-append-le, take_all}
use Rattle.object.specs.Lists.{In, IsBeginning}
use Rattle.object.specs.Replays.{kept}
use Rattle.object.specs.declared.command.Answer.{Answer}
use Rattle.object.specs.declared.command.Command.{Command}
use Rattle.object.specs.declared.command.Submission.{Submission}
use Rattle.slot_log.specs.Decisions.{next_decided}
use Rattle.agreement.specs.declared.event.Event.{Event}
use Rattle.object.specs.Objects.{Rules}
use Rattle.slot_log.specs.Histories.{history}
use Rattle.object.specs.Obeying.{answers_after}
use Rattle.node.specs.Kept.{IsPerformed}
use Rattle.agreement.specs.Nodes.{Cluster, node}
use Rattle.agreement.specs.Worlds.{World, opening}
use Rattle.object.specs.Happenings.{is_submitted, with_submission}
use Rattle.agreement.specs.Steps.{Step, submit, deliver, wake, nudge, propose, perform, restart, after_performing, with_cluster, counted}
use Rattle.agreement.specs.Runs.{Leads, at_once, after, IsReachable}
use Rattle.agreement.specs.Chosen.{IsChosen, IsChosenFrom, IsOrder}
use Rattle.agreement.specs.Reached.{IsRun, IsReached}
use Rattle.object.specs.Legal.{WasSubmitted}
use Rattle.object.specs.ListLaws.{In-cases}
use Rattle.agreement.proofs.chosen.Growing.{kept_beginning}
use Rattle.ballot.specs.OrderLaws.{BallotLaws, not_both}
use Rattle.agreement.proofs.chosen.Invariants.{IsSound}
use Rattle.agreement.proofs.chosen.Grows.{Grows}
use Rattle.agreement.proofs.chosen.Reach.{opened_at, opening_sound, leads_sound, step_sound, reachable_sound}
use Rattle.agreement.proofs.order.Submitted.{chosen_submitted, key_submitted}
use Rattle.agreement.proofs.answered.Performed.{run_stays, run_push, run_chosen, run_of_all, AllPerformed, history_run, step_full}

-- the answer came when this command was performed after those, which are chosen in the slots from 1 on
pub record IsGiven {O Op Reply : Type 0} (rules : Rules O Op Reply) (k : Cluster (Command Op)) (bound : ℕ) (a : Answer Reply) : Type 0 where
  pub earlier : List (Command Op)
  pub last : Command Op
  pub chosen : IsRun k 1 (earlier ++ (last ∷ []))
  pub within : length earlier + 1 ≤ bound
  pub answer : In a (answers_after rules earlier last)

-- At the submission these commands were chosen in the slots from 1 on, none of them of its key, and the answers before
-- it came from among them.
pub record IsPast {O Op Reply : Type 0} (rules : Rules O Op Reply) (k : Cluster (Command Op)) (answers : List (Answer Reply)) (s : Submission Op) : Type 0 where
  pub count : s.after ≤ length answers
  pub run : List (Command Op)
  pub chosen : IsRun k 1 run
  pub others : (d : Command Op) → In d run → d.key ≡ s.command.key → ⊥
  pub given : (a : Answer Reply) → In a (take s.after answers) → IsGiven rules k (length run) a

-- what holds in each reachable world; the slots up to the reach are all chosen
pub record IsTraced {O Op Reply : Type 0} (rules : Rules O Op Reply) (w : World Op Reply) : Type 0 where
  pub full : AllPerformed w.cluster
  pub reached : List (Command Op)
  pub chosen : IsRun w.cluster 1 reached
  pub reach : length reached ≡ w.reach
  pub given : (a : Answer Reply) → In a w.happenings.answers → IsGiven rules w.cluster w.reach a
  pub past : (s : Submission Op) → In s w.happenings.submitted → IsPast rules w.cluster w.happenings.answers s

module _ {O Op Reply : Type 0} (rules : Rules O Op Reply) (k z : Cluster (Command Op)) (g : Grows k z) where
  given_stays : (m n : ℕ) → m ≤ n → (a : Answer Reply) → IsGiven rules k m a → IsGiven rules z n a
  given_stays m n le a h = record {
    earlier = h.earlier;
    last = h.last;
    chosen = run_stays k z g 1 (h.earlier ++ (h.last ∷ [])) h.chosen;
    within = let l = h.within in omega arith;
    answer = h.answer;
  }

  past_stays : (answers more : List (Answer Reply)) (s : Submission Op) → IsPast rules k answers s → IsPast rules z (answers ++ more) s
  past_stays answers more s h = record {
    count = let e = length-append answers more in let l = h.count in omega arith;
    run = h.run;
    chosen = run_stays k z g 1 h.run h.chosen;
    others = h.others;
    given = λ a i. given_stays (length h.run) (length h.run) (omega arith) a (h.given a (subst (In a) (take-append-le s.after answers more h.count) i));
  }

  past_same : (answers : List (Answer Reply)) (s : Submission Op) → IsPast rules k answers s → IsPast rules z answers s
  past_same answers s h = subst (λ l. IsPast rules z l s) (append-nil answers) (past_stays answers [] s h)

module _ {O Op Reply : Type 0} (rules : Rules O Op Reply) (v : World Op Reply) (told : IsTraced rules v) where
  -- nothing happens that a client sees
  quiet_traced : (z : Cluster (Command Op)) → Grows v.cluster z → AllPerformed z → IsTraced rules (counted (with_cluster v z))
  quiet_traced z g full = record {
    full = full;
    reached = told.reached;
    chosen = run_stays v.cluster z g 1 told.reached told.chosen;
    reach = told.reach;
    given = λ a i. given_stays rules v.cluster z g v.reach v.reach (omega arith) a (told.given a i);
    past = λ s i. past_same rules v.cluster z g v.happenings.answers s (told.past s i);
  }

  -- a key that wasn't submitted yet is none of those that are chosen
  fresh_key : ((s : ℕ) (d : Command Op) → IsChosen v.cluster s d → WasSubmitted d v.happenings.submitted)
      → (c : Command Op) → is_submitted c.key v.happenings.submitted ≡ false → (d : Command Op) → In d told.reached
      → d.key ≡ c.key → ⊥
  fresh_key submitted c new d i same =
      let at = run_chosen v.cluster 1 told.reached told.chosen d i in
      not_both (ap (λ k. is_submitted k v.happenings.submitted) (sym same) ∙ key_submitted d v.happenings.submitted (submitted at.0 d at.1)) new

  new_past : (z : Cluster (Command Op)) → Grows v.cluster z → (c : Command Op)
      → ((d : Command Op) → In d told.reached → d.key ≡ c.key → ⊥)
      → IsPast rules z v.happenings.answers (record { command = c; after = length v.happenings.answers })
  new_past z g c others = record {
    count = omega arith;
    run = told.reached;
    chosen = run_stays v.cluster z g 1 told.reached told.chosen;
    others = others;
    given = λ a i. given_stays rules v.cluster z g v.reach (length told.reached) (let e = told.reach in omega arith) a
        (told.given a (subst (In a) (take_all (length v.happenings.answers) v.happenings.answers (omega arith)) i));
  }

  submits_traced : ((s : ℕ) (d : Command Op) → IsChosen v.cluster s d → WasSubmitted d v.happenings.submitted)
      → (z : Cluster (Command Op)) → Grows v.cluster z → AllPerformed z → (c : Command Op)
      → IsTraced rules (counted (record v { cluster = z; happenings = with_submission c v.happenings }))
  submits_traced submitted z g full c = at (is_submitted c.key v.happenings.submitted) refl
    where
      new : Submission Op
      new = record { command = c; after = length v.happenings.answers }

      at : (test : Bool) → is_submitted c.key v.happenings.submitted ≡ test
          → IsTraced rules (counted (record v {
            cluster = z;
            happenings =
                cond test v.happenings (record v.happenings { submitted = v.happenings.submitted ++ (new ∷ []) });
          }))
      at true e = quiet_traced z g full
      at false e = record {
        full = full;
        reached = told.reached;
        chosen = run_stays v.cluster z g 1 told.reached told.chosen;
        reach = told.reach;
        given = λ a i. given_stays rules v.cluster z g v.reach v.reach (omega arith) a (told.given a i);
        past = λ s i. ⊎_elim
            (λ (old : In s v.happenings.submitted). past_same rules v.cluster z g v.happenings.answers s (told.past s old))
            (λ (last : In s (new ∷ [])). ⊎_elim
            (λ (f : s ≡ new). subst (IsPast rules z v.happenings.answers) (sym f)
            (new_past z g c (fresh_key submitted c e))) (λ (never : ⊥). absurd never) last)
            (In-cases s v.happenings.submitted (new ∷ []) i);
      }

  -- a replica performs this command
  module _ (i : IsSound v.cluster) (n : ℕ) (c : Command Op) (decided : next_decided (node v.cluster n).replica ≡ Some c) where
    done : IsRun v.cluster 1 (history (node v.cluster n).replica) × (length (history (node v.cluster n).replica) + 1 ≡ (node v.cluster n).replica.slot_out)
    done = history_run v.cluster i n (told.full n)

    now_done : IsRun v.cluster 1 (history (node v.cluster n).replica ++ (c ∷ []))
    now_done = run_push v.cluster 1 (history (node v.cluster n).replica) c done.0
        (subst (λ s. IsChosen v.cluster s c) (let e = done.1 in omega arith)
        ((i.nodes n).decisions (node v.cluster n).replica.slot_out c decided))

    given_now : (a : Answer Reply) → In a (answers_after rules (history (node v.cluster n).replica) c)
        → IsGiven rules v.cluster (max v.reach (node v.cluster n).replica.slot_out) a
    given_now a at = record {
      earlier = history (node v.cluster n).replica;
      last = c;
      chosen = now_done;
      within = let e = done.1 in omega arith;
      answer = at;
    }

    reached_now : (cs : List (Command Op)) × IsRun v.cluster 1 cs × (length cs ≡ max v.reach (node v.cluster n).replica.slot_out)
    reached_now = ⊎_elim
        (λ (l : v.reach < (node v.cluster n).replica.slot_out). (
          history (node v.cluster n).replica ++ (c ∷ []),
          now_done,
          let e = done.1 in let f =
              length-append (history (node v.cluster n).replica) (c ∷ []) in omega arith,
        ))
        (λ (l : (node v.cluster n).replica.slot_out ≤ v.reach). (told.reached, told.chosen, let e = told.reach in omega arith))
        (cases_lt v.reach (node v.cluster n).replica.slot_out)

  performs_traced : IsSound v.cluster → (n : ℕ) → (o : Option (Command Op))
      → next_decided (node v.cluster n).replica ≡ o
      → Grows v.cluster (after_performing rules v n (node v.cluster n).replica o).cluster
      → AllPerformed (after_performing rules v n (node v.cluster n).replica o).cluster
      → IsTraced rules (counted (after_performing rules v n (node v.cluster n).replica o))
  performs_traced i n None e g full = quiet_traced v.cluster g full
  performs_traced i n (Some c) e g full = record {
    full = full;
    reached = (reached_now i n c e).0;
    chosen = run_stays v.cluster z g 1 (reached_now i n c e).0 (reached_now i n c e).1;
    reach = (reached_now i n c e).2;
    given = λ a at. ⊎_elim
        (λ (old : In a v.happenings.answers). given_stays rules v.cluster z g v.reach (max v.reach slot) (omega arith) a (told.given a old))
        (λ (new : In a now). given_stays rules v.cluster z g (max v.reach slot) (max v.reach slot) (omega arith) a (given_now i n c e a new))
        (In-cases a v.happenings.answers now at);
    past = λ s at. past_stays rules v.cluster z g v.happenings.answers now s (told.past s at);
  }
    where
      z : Cluster (Command Op)
      z = (after_performing rules v n (node v.cluster n).replica (Some c)).cluster

      slot : ℕ
      slot = (node v.cluster n).replica.slot_out

      now : List (Answer Reply)
      now = answers_after rules (history (node v.cluster n).replica) c

module _ (laws : BallotLaws) {O Op Reply : Type 0} (rules : Rules O Op Reply) where
  step_traced : (v : World Op Reply) (e : Event Op) (u : World Op Reply) → IsSound v.cluster
      → ((s : ℕ) (d : Command Op) → IsChosen v.cluster s d → WasSubmitted d v.happenings.submitted)
      → Grows v.cluster u.cluster → AllPerformed u.cluster → IsTraced rules v → Step rules v e u → IsTraced rules u
  step_traced v e u i submitted g full told (submit n c member own) = submits_traced rules v told submitted _ g full c
  step_traced v e u i submitted g full told (deliver j l x out at receives) = quiet_traced rules v told _ g full
  step_traced v e u i submitted g full told (wake n member) = quiet_traced rules v told _ g full
  step_traced v e u i submitted g full told (nudge n member) = quiet_traced rules v told _ g full
  step_traced v e u i submitted g full told (propose n member) = quiet_traced rules v told _ g full
  step_traced v e u i submitted g full told (perform n member) = performs_traced rules v told i n (next_decided (node v.cluster n).replica) refl g full
  step_traced v e u i submitted g full told (restart n member) = quiet_traced rules v told _ g full

  opening_traced : (members : List ℕ) → IsTraced rules (opening members)
  opening_traced members = record {
    full = λ m. subst (λ x. IsPerformed x.replica) (sym (opened_at members m)) (record { first = omega arith; known = λ s low high. absurd (omega arith) });
    reached = [];
    chosen = tt;
    reach = refl;
    given = λ a i. absurd i;
    past = λ s i. absurd i;
  }

  pub leads_traced : (members : List ℕ) (u : World Op Reply) (es : List (Event Op)) → Leads rules (opening members) es u → IsTraced rules u
  leads_traced members u es at_once = opening_traced members
  leads_traced members u es (after {es = before} {v = v} e u' l s) =
      let i = (leads_sound laws rules (opening members) v before (opening_sound (Command Op) members) l).sound in
      let told = leads_traced members v before l in
      step_traced v e u i (chosen_submitted laws rules members v before l) (step_sound laws rules v e u i s).grows
      (step_full laws rules v e u i s told.full) told s

  pub reachable_traced : (w : World Op Reply) → IsReachable rules w → IsTraced rules w
  reachable_traced w r = leads_traced w.cluster.members w r.0 r.1

  -- what a replica performed is a beginning of the chosen commands
  pub history_beginning : (w : World Op Reply) → IsReachable rules w → (n : ℕ) (all : List (Command Op))
      → IsChosenFrom w.cluster 1 all → IsBeginning (history (node w.cluster n).replica) all
  history_beginning w r n all chosen =
      let i = reachable_sound laws rules w r in
      run_of_all laws w.cluster i 1 (history (node w.cluster n).replica) all (history_run w.cluster i n ((reachable_traced w r).full n)).0 chosen

  -- each slot up to the reach has a chosen command
  pub reachable_reached : (w : World Op Reply) → IsReachable rules w → (cs : List (Command Op)) × IsReached w cs
  reachable_reached w r = let told = reachable_traced w r in (told.reached, record { chosen = told.chosen; count = told.reach })

  -- what is kept of them begins the order
  pub reached_beginning : (w : World Op Reply) → IsReachable rules w → (cs order : List (Command Op)) → IsReached w cs
      → IsOrder w.cluster order → IsBeginning (kept cs) order
  reached_beginning w r cs order h o =
      let b = kept_beginning cs o.0 (run_of_all laws w.cluster (reachable_sound laws rules w r) 1 cs o.0 h.chosen o.1) in
      (b.0, o.2 ∙ b.1)
