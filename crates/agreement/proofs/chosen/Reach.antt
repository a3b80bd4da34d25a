-- The invariant holds in each reachable world: so it agrees, and what is chosen stays chosen.
use Rattle.std.proofs.Common.{◌≡◌, ℕ, zero, suc, ◌+◌, true, List, [], ◌∷◌, ◌++◌, map, length, Some, None, Option, refl, sym, ap, subst, arith}
use Rattle.std.specs.Prelude.{slice_index_or}
use Rattle.std.specs.List.{range_with_len}
use Rattle.object.specs.declared.command.Command.{Command}
use Rattle.ballot.specs.Members.{is_member}
use Rattle.slot_log.specs.Advances.{advanced}
use Rattle.slot_log.specs.Decisions.{next_decided}
use Rattle.agreement.specs.declared.event.Event.{Event}
use Rattle.object.specs.Objects.{Rules, is_one}
use Rattle.node.specs.Nodes.{NodeState, new_node, node_in}
use Rattle.agreement.specs.Nodes.{Cluster, new_cluster, node}
use Rattle.agreement.specs.Worlds.{World, opening}
use Rattle.agreement.specs.Steps.{Step, submit, deliver, wake, nudge, propose, perform, restart, after_performing}
use Rattle.agreement.specs.Runs.{Leads, at_once, after, IsReachable}
use Rattle.object.specs.ListLaws.{Each-at, In-get}
use Rattle.node.specs.SlotLaws.{none_in_empty}
use Rattle.ballot.specs.OrderLaws.{BallotLaws}
use Rattle.agreement.proofs.chosen.Invariants.{IsFair, IsNode, IsSound}
use Rattle.agreement.proofs.chosen.Grows.{grows_itself, grows_trans}
use Rattle.agreement.proofs.chosen.Turns.{Kept}
use Rattle.agreement.proofs.chosen.Good.{leader_sound}
use Rattle.agreement.proofs.chosen.LeaderRows.{none_not, off_on, woken_good}
use Rattle.agreement.proofs.chosen.Rows.{receive_sound, restart_sound, nudge_sound, request_sound, propose_sound, quiet_sound}

module _ (laws : BallotLaws) {O Op Reply : Type 0} (rules : Rules O Op Reply) where
  performs_sound : (w : World Op Reply) → IsSound w.cluster → (n : ℕ) → is_member w.cluster.members n ≡ true
      → (o : Option (Command Op)) → Kept w.cluster (after_performing rules w n (node w.cluster n).replica o).cluster
  performs_sound w i n member None = record { sound = i; grows = grows_itself w.cluster }
  performs_sound w i n member (Some c) = quiet_sound laws w.cluster i n member (advanced (is_one rules) (node w.cluster n).replica) refl

  pub step_sound : (w : World Op Reply) (e : Event Op) (u : World Op Reply) → IsSound w.cluster → Step rules w e u → Kept w.cluster u.cluster
  step_sound w e u i (submit n c member own) = request_sound laws w.cluster i n member (is_one rules) c
  step_sound w e u i (deliver j l x out at receives) =
      let fair = Each-at (IsFair w.cluster) w.cluster.letters l i.letters (In-get w.cluster.letters j l at) in
      receive_sound laws w.cluster i l.to fair.receiver l.«from» fair.sender l.body fair.says
      (λ p same. (l, In-get w.cluster.letters j l at, same)) x out receives
  step_sound w e u i (wake n member) = leader_sound laws w.cluster i n member _ (woken_good laws w.cluster i n (node w.cluster n) (i.nodes n))
  step_sound w e u i (nudge n member) = nudge_sound laws w.cluster i n member
  step_sound w e u i (propose n member) = propose_sound laws w.cluster i n member
  step_sound w e u i (perform n member) = performs_sound w i n member (next_decided (node w.cluster n).replica)
  step_sound w e u i (restart n member) = restart_sound laws w.cluster i n member

new_fine : {C : Type 0} (k : Cluster C) (n : ℕ) → IsNode k n (new_node k.members n)
new_fine k n = record {
  owner = refl;
  boot = refl;
  acceptor = record { sent = λ p h. absurd h; promised = λ p h. absurd h };
  leader = record { members = refl; safe = λ on s c may. off_on refl on; scouting = λ s e. none_not refl e; commanding = λ s c e. none_in_empty s c e };
  decisions = λ s c e. none_in_empty s c e;
}

opened : {C : Type 0} (members : List ℕ) (len base j n : ℕ) → n ≡ base + j
    → slice_index_or (map (new_node {C = C} members) (range_with_len base len)) j (new_node members n)
    ≡ new_node members n
opened members zero base j n e = refl
opened members (suc len) base zero n e = ap (new_node members) (omega arith)
opened members (suc len) base (suc j) n e = opened members len (base + 1) j n (omega arith)

pub opened_at : {C : Type 0} (members : List ℕ) (n : ℕ) → node_in {C = C} members (new_cluster members).nodes n ≡ new_node members n
opened_at members zero = refl
opened_at members (suc j) = opened members (length members) 1 j (suc j) (omega arith)

mapped_length : (C : Type 0) (members : List ℕ) (len base : ℕ) → length (map (new_node {C = C} members) (range_with_len base len)) ≡ len
mapped_length C members zero base = refl
mapped_length C members (suc len) base = ap suc (mapped_length C members len (base + 1))

pub opening_sound : (C : Type 0) (members : List ℕ) → IsSound (new_cluster {C = C} members)
opening_sound C members = record {
  size = mapped_length C members (length members) 1;
  owned = λ p a. absurd a.1;
  unique = λ p q a b e f. absurd a.1;
  safe = λ p a. absurd a.1;
  nodes = λ n. subst (λ (x : NodeState C). IsNode (new_cluster members) n x) (sym (opened_at members n)) (new_fine (new_cluster members) n);
  letters = tt;
}

module _ (laws : BallotLaws) {O Op Reply : Type 0} (rules : Rules O Op Reply) where
  pub leads_sound : (w u : World Op Reply) (es : List (Event Op)) → IsSound w.cluster → Leads rules w es u → Kept w.cluster u.cluster
  leads_sound w u es i at_once = record { sound = i; grows = grows_itself w.cluster }
  leads_sound w u es i (after {es = before} {v = v} e u' l s) =
      let h = leads_sound w v before i l in
      let t = step_sound laws rules v e u h.sound s in
      record { sound = t.sound; grows = grows_trans w.cluster v.cluster u.cluster h.grows t.grows }

  pub reachable_sound : (w : World Op Reply) → IsReachable rules w → IsSound w.cluster
  reachable_sound w r = (leads_sound (opening w.cluster.members) w r.0 (opening_sound (Command Op) w.cluster.members) r.1).sound

  -- one event more
  pub one_more : (w : World Op Reply) (e : Event Op) (u : World Op Reply) → IsReachable rules w → Step rules w e u → IsReachable rules u
  one_more w e u r s = (
    r.0 ++ (e ∷ []),
    subst (λ ms. Leads rules (opening ms) (r.0 ++ (e ∷ [])) u)
        (sym (step_sound laws rules w e u (reachable_sound w r) s).grows.members) (after e u r.1 s),
  )

  pub opening_reachable : (members : List ℕ) → IsReachable rules (opening members)
  opening_reachable members = ([], at_once)
