-- A host that takes over a snapshot shows a world in which its node was told the decisions before it, and performed
-- them.
use Rattle.std.specs.FinMap.{get}
use Rattle.ballot.specs.Rests.{kept_from}
use Rattle.std.proofs.Common.{false, inr, ◌≡◌, ◌≢◌, ⊎_elim, ℕ, ◌+◌, ◌*◌, ◌-◌, ◌<◌, ◌≤◌, true, List, [], ◌∷◌, length}
use Rattle.std.proofs.Common.{drop, length-drop, zero, suc, ◌++◌, Some}
use Rattle.std.proofs.Common.{refl, sym, ap, ◌∙◌, subst, arith}
use Rattle.std.proofs.lemmas.Bool.{cases_eq}
use Rattle.object.specs.Lists.{In}
use Rattle.object.specs.Objects.{Rules, is_one}
use Rattle.object.specs.Obeying.{obeyed}
use Rattle.object.specs.OnceOnly.{Filtered}
use Rattle.object.specs.declared.command.Answer.{Answer}
use Rattle.object.specs.declared.command.Command.{Command}
use Rattle.ballot.specs.Members.{is_member, is_majority}
use Rattle.ballot.specs.OrderLaws.{BallotLaws}
use Rattle.acceptor.specs.Acceptors.{Acceptances, Keeps}
use Rattle.acceptor.specs.Rests.{rest_of_acceptor}
use Rattle.leader.specs.Leaders.{pvalue}
use Rattle.slot_log.specs.Histories.{history}
use Rattle.slot_log.specs.Rests.{rest_of_book}
use Rattle.node.specs.Nodes.{NodeState}
use Rattle.node.specs.Receiving.{ShowsNode}
use Rattle.node.specs.Rests.{rest_of_node}
use Rattle.agreement.specs.Chosen.{IsChosen, IsChosenFrom, IsOrder}
use Rattle.agreement.specs.Nodes.{Cluster, node}
use Rattle.agreement.specs.Reached.{IsRun, IsReached}
use Rattle.agreement.specs.Runs.{most_events, IsWorld}
use Rattle.agreement.specs.Worlds.{World}
use Rattle.agreement.proofs.answered.Told.{answered_now}
use Rattle.agreement.proofs.every.Every.{is_given}
use Rattle.agreement.proofs.chosen.Growing.{happenings_go_on}
use Rattle.cluster.specs.CatchingUp.{CatchesUp}
use Rattle.slot_log.specs.CatchingUp.{proposed_upto}
use Rattle.cluster.specs.Snapshots.{AreToldFrom, IsSnapshot}
use Rattle.cluster.proofs.catching_up.CatchingUp.{HasCome, has_come, comes_to, at_slot}
use Rattle.cluster.proofs.catching_up.Histories.{history_told, told_from_adds}

-- where the acceptors are the same, the same is chosen
module _ {Op : Type 0} (k z : Cluster (Command Op)) (members : z.members ≡ k.members)
    (same : (m : ℕ) → (node z m).acceptor ≡ (node k m).acceptor) where
  chosen_there : (s : ℕ) (c : Command Op) → IsChosen k s c → IsChosen z s c
  chosen_there s c h = (
    h.0,
    record {
      voters = h.1.voters;
      majority = subst (λ ms. is_majority ms h.1.voters ≡ true) (sym members) h.1.majority;
      accepted = λ m x. subst (λ (a : Acceptances (Command Op)). In (pvalue h.0 s c) a.accepted) (sym (same m))
          (h.1.accepted m x);
    },
  )

module _ {Op : Type 0} (k z : Cluster (Command Op)) (members : z.members ≡ k.members)
    (same : (m : ℕ) → (node z m).acceptor ≡ (node k m).acceptor) where
  chosen_from_there : (cs : List (Command Op)) (s : ℕ) → IsChosenFrom k s cs → IsChosenFrom z s cs
  chosen_from_there [] s h = λ c is. h c (chosen_there z k (sym members) (λ m. sym (same m)) s c is)
  chosen_from_there (c ∷ cs) s h = (chosen_there k z members same s c h.0, chosen_from_there cs (s + 1) h.1)

  order_there : (order : List (Command Op)) → IsOrder k order → IsOrder z order
  order_there order h = (h.0, chosen_from_there h.0 1 h.1, h.2)

  run_there : (cs : List (Command Op)) (s : ℕ) → IsRun k s cs → IsRun z s cs
  run_there [] s h = tt
  run_there (c ∷ cs) s h = (chosen_there k z members same s c h.0, run_there cs (s + 1) h.1)

drop_In : {X : Type 0} (m : ℕ) (xs : List X) (y : X) → In y (drop m xs) → In y xs
drop_In m [] y i = subst (In y) (nothing m) i
  where
    nothing : {X : Type 0} (m : ℕ) → drop {A = X} m [] ≡ []
    nothing zero = refl
    nothing (suc m) = refl
drop_In zero (x ∷ xs) y i = i
drop_In (suc m) (x ∷ xs) y i = inr (drop_In m xs y i)

-- what was told from a later slot on
told_behind : {Op : Type 0} (k : Cluster (Command Op)) (m : ℕ) (cs : List (Command Op)) (s : ℕ) → AreToldFrom k s cs
    → AreToldFrom k (s + m) (drop m cs)
told_behind k m [] s told = subst (λ xs. AreToldFrom k (s + m) xs) (nothing m) tt
  where
    nothing : {X : Type 0} (m : ℕ) → [] ≡ drop {A = X} m []
    nothing zero = refl
    nothing (suc m) = refl
told_behind k zero (c ∷ cs) s told = subst (λ t. AreToldFrom k t (c ∷ cs)) (omega arith) told
told_behind k (suc m) (c ∷ cs) s told =
    subst (λ t. AreToldFrom k t (drop m cs)) (omega arith) (told_behind k m cs (s + 1) told.1)

module _ (laws : BallotLaws) {O Op Reply : Type 0} (rules : Rules O Op Reply) (n : ℕ) (w : World Op Reply)
    (i : IsWorld rules w)
    (member : is_member w.cluster.members n ≡ true) where
  abbrev x : NodeState (Command Op)
  x = node w.cluster n

  module _ (slot : ℕ) (v : World Op Reply) (come : HasCome laws rules n w slot v) where
    same_acceptors : (m : ℕ) → (node v.cluster m).acceptor ≡ (node w.cluster m).acceptor
    same_acceptors m = ⊎_elim
        (λ (e : m ≡ n). ap (λ j. (node v.cluster j).acceptor) e ∙ ap (λ y. y.acceptor) come.here
        ∙ ap (λ j. (node w.cluster j).acceptor) (sym e))
        (λ (apart : m ≢ n). ap (λ y. y.acceptor) (come.others m apart))
        (cases_eq m n)

    same_boots : (m : ℕ) → (node v.cluster m).boot ≡ (node w.cluster m).boot
    same_boots m = ⊎_elim
        (λ (e : m ≡ n). ap (λ j. (node v.cluster j).boot) e ∙ ap (λ y. y.boot) come.here
        ∙ ap (λ j. (node w.cluster j).boot) (sym e))
        (λ (apart : m ≢ n). ap (λ y. y.boot) (come.others m apart))
        (cases_eq m n)

    -- an answer up to the reach was given before
    told_before : (a : Answer Reply) → In a v.happenings.answers → In a w.happenings.answers
    told_before a j =
        let answered = answered_now laws rules w w refl i in
        let cs = answered.some.0 in
        let reached = answered.some.1 in
        let then : IsReached v cs = record {
          chosen = run_there w.cluster v.cluster come.members same_acceptors cs 1 reached.chosen;
          count = reached.count ∙ sym come.reach;
        } in
        let given = is_given laws rules v come.is cs then a j in
        answered.told cs reached given.0 a given.1

    -- a host that keeps what is left of the node from the slot on
    module _ (base : ℕ) (h : NodeState (Command Op)) (object : Filtered O)
        (state : ShowsNode h (rest_of_node slot (at_slot laws rules n w slot x.replica.decisions)))
        (cs : List (Command Op)) (told : AreToldFrom w.cluster 1 cs) (count : slot ≡ length cs + 1)
        (obeys : object ≡ obeyed rules cs) where
      then_history : history (node v.cluster n).replica ≡ cs
      then_history = history_told laws rules v come.is n (ap (λ ms. is_member ms n) come.members ∙ member) cs
          (told_from_adds w.cluster v.cluster come.members (λ l j. subst (In l) (sym come.letters) j) cs 1 told)
          (ap (λ (y : NodeState (Command Op)). y.replica.slot_out) come.here ∙ count)

      same_rest : rest_of_node slot (node v.cluster n) ≡ rest_of_node slot
          (at_slot laws rules n w slot x.replica.decisions)
      same_rest = ap (rest_of_node slot) come.here
          ∙ ap (λ d. record (rest_of_node slot x) {
            replica = record (rest_of_book slot x.replica) {
              slot_out = slot;
              requests = x.replica.requests ++ proposed_upto slot x.replica;
              proposals = kept_from slot x.replica.proposals;
              decisions = d;
            };
          }) come.above

      pub takes_over : CatchesUp rules (record { base = slot; holding = record { state = h; object = object } }) n w
      takes_over = record {
        world = v;
        events = come.events;
        leads = come.leads;
        each = come.each;
        is = come.is;
        shows = record {
          member = ap (λ ms. is_member ms n) come.members ∙ member;
          held = record {
            state = subst (ShowsNode h) (sym same_rest) state;
            object = obeys ∙ ap (obeyed rules) (sym then_history);
          };
          past = let out = ap (λ (y : NodeState (Command Op)). y.replica.slot_out) come.here in omega (arith, out);
        };
        members = come.members;
        others = come.others;
        letters = come.letters;
        taken = come.taken;
        answers = (happenings_go_on rules w v come.events come.leads).answers;
        reach = come.reach;
        stored = λ d m is. record {
          acceptor = subst (λ (a : Acceptances (Command Op)). Keeps (rest_of_acceptor d.base a) d.acceptor)
              (sym (same_acceptors m)) is.acceptor;
          boot = is.boot ∙ sym (same_boots m);
        };
        submitted = come.submitted;
        told_once = told_before;
        order = order_there w.cluster v.cluster come.members same_acceptors;
      }

  -- a snapshot that is no older than the node
  module _ (slot : ℕ) (object : Filtered O) (snap : IsSnapshot rules slot object w) (h : NodeState (Command Op))
      (state : ShowsNode h (rest_of_node slot (at_slot laws rules n w slot x.replica.decisions)))
      (first : 0 < x.replica.slot_out) (older : x.replica.slot_out ≤ slot)
      (apart : (s : ℕ) (p c : Command Op) → get x.replica.proposals s ≡ Some p → s < slot → In c snap.commands
      → is_one rules p c ≡ false)
      (room : w.taken + 2 * (slot - x.replica.slot_out) ≤ most_events) where
    abbrev more : List (Command Op)
    more = drop (x.replica.slot_out - 1) snap.commands

    count_more : length more ≡ length snap.commands - (x.replica.slot_out - 1)
    count_more = length-drop (x.replica.slot_out - 1) snap.commands

    upto : x.replica.slot_out + length more ≡ slot
    upto = let all = snap.count in omega (arith, count_more, all, first, older)

    told_more : AreToldFrom w.cluster x.replica.slot_out more
    told_more = subst (λ t. AreToldFrom w.cluster t more) (omega (arith, first))
        (told_behind w.cluster (x.replica.slot_out - 1) snap.commands 1 snap.told)

    come : (v : World Op Reply) × HasCome laws rules n w slot v
    come =
        let reach = snap.reach in
        let all = snap.count in
        let r = comes_to laws rules n w member more x.replica.slot_out w (has_come laws rules n w i) told_more
        (λ s p c e low j. apart s p c e (omega (arith, low, upto))
        (drop_In (x.replica.slot_out - 1) snap.commands c j)) (omega (arith, upto, all, reach))
        (omega (arith, upto, room)) in
        (r.0, subst (λ t. HasCome laws rules n w t r.0) upto r.1)

    pub takes_snapshot : CatchesUp rules (record { base = slot; holding = record { state = h; object = object } }) n w
    takes_snapshot = takes_over slot come.0 come.1 slot h object state snap.commands snap.told snap.count snap.obeys
