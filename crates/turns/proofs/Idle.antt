-- A node that has nothing to do, and what its turn leaves.
use Rattle.std.proofs.Common.{◌≡◌, zero, suc, ℕ, Bool, false, List, [], Option, Some, None, refl, ap, ◌∙◌}
use Rattle.std.specs.Prelude.{not, ◌&&◌, is_some, Result, Ok, Err, IfOk}
use Rattle.std.proofs.lemmas.List.{set-get_or}
use Rattle.object.specs.Objects.{Rules}
use Rattle.object.specs.declared.command.Command.{Command}
use Rattle.ballot.specs.Letters.{all_to_all}
use Rattle.ballot.specs.Members.{is_member}
use Rattle.slot_log.specs.Decisions.{next_decided}
use Rattle.slot_log.specs.Proposals.{next_proposal, proposed}
use Rattle.replica.specs.Replicas.{proposes_first}
use Rattle.node.specs.Deeds.{performing}
use Rattle.node.specs.Nodes.{NodeState, new_node, node_in, put}
use Rattle.node.specs.declared.deed.Deed.TheVariants as deeds
use Rattle.network.specs.Networks.{NetworkState, node_of, has_mail, turned_net, acted_net}
use Rattle.network.proofs.Posts.{none_posted}
use Rattle.hall.specs.Acting.{Acts, came_to}
use Rattle.hall.specs.Halls.{HallState}
use Rattle.hall.specs.declared.error.HallError.{HallError}
use Rattle.hall.specs.declared.work.Work.{Work}
use Rattle.turns.specs.Working.{work_of}

-- what node n has to do, by the nodes and their mail
abbrev pub net_work : {Op : Type 0} → NetworkState (Command Op) → ℕ → Work
net_work k n = record {
  mail = not (not (is_member k.members n)) && has_mail k n;
  request = not (not (is_member k.members n)) && is_some (next_proposal (node_of k n).replica);
  decision = not (not (is_member k.members n)) && is_some (next_decided (node_of k n).replica);
}

put_back : {C : Type 0} (members : List ℕ) (nodes : List (NodeState C)) (n : ℕ) → put nodes n (node_in members nodes n) ≡ nodes
put_back members nodes zero = refl
put_back members nodes (suc i) = set-get_or nodes i (new_node members (suc i))

-- a node that becomes what it is and says nothing leaves all as it is
pub still_net : {C : Type 0} (k : NetworkState C) (n : ℕ) → turned_net k n (node_of k n) [] ≡ k
still_net k n = λ i. record k { nodes = put_back k.members k.nodes n i; mails = none_posted 1 k.mails i }

module _ {O Op Reply : Type 0} (rules : Rules O Op Reply) (k : NetworkState (Command Op)) (n : ℕ) where
  -- it proposes, where it can't
  pub no_proposal : next_proposal (node_of k n).replica ≡ None → acted_net rules k n deeds.Propose ≡ k
  no_proposal none =
      (λ i. turned_net k n
      (record (node_of k n) { replica = proposed (node_of k n).replica (none i) })
      (all_to_all k.members n (proposes_first (none i))))
      ∙ still_net k n

  -- it performs, where no decision is known
  pub no_decision : next_decided (node_of k n).replica ≡ None → acted_net rules k n deeds.Perform ≡ k
  no_decision none =
      (λ i. turned_net k n (performing rules (node_of k n) (none i)).state (performing rules (node_of k n) (none i)).sent)
      ∙ still_net k n

-- there is none
none_there : {X : Type 0} (b : Bool) (o : Option X) → b ≡ is_some o → b ≡ false → o ≡ None
none_there b None is e = refl
none_there b (Some x) is e = absurd (cc)

module _ {O Op Reply : Type 0} (rules : Rules O Op Reply) (h z : HallState Op Reply) (n : ℕ) where
  same_work : z.nodes.network ≡ h.nodes.network → work_of z ≡ work_of h
  same_work e = ap (λ (k : NetworkState (Command Op)). net_work k) e

  -- nothing was proposed
  pub calm_proposing : (result : Result Bool HallError) → IfOk result (λ does. does ≡ is_some (next_proposal (node_of h.nodes.network n).replica))
      → Acts rules n deeds.Propose h z (came_to result) → result ≡ Ok false → work_of z ≡ work_of h
  calm_proposing (Err error) does acts e = absurd (cc)
  calm_proposing (Ok b) does acts e =
      let none : b ≡ false = cc in
      same_work
      (ap (λ (q : HallState Op Reply). q.nodes.network) acts.ok
      ∙ no_proposal rules h.nodes.network n (none_there b (next_proposal (node_of h.nodes.network n).replica) does none))

  -- nothing was performed
  pub calm_performing : (result : Result Bool HallError) → IfOk result (λ does. does ≡ is_some (next_decided (node_of h.nodes.network n).replica))
      → Acts rules n deeds.Perform h z (came_to result) → result ≡ Ok false → work_of z ≡ work_of h
  calm_performing (Err error) does acts e = absurd (cc)
  calm_performing (Ok b) does acts e =
      let none : b ≡ false = cc in
      same_work
      (ap (λ (q : HallState Op Reply). q.nodes.network) acts.ok
      ∙ no_decision rules h.nodes.network n (none_there b (next_decided (node_of h.nodes.network n).replica) does none))
