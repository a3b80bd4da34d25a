-- One event of a world, from what was done to its parts.
use Rattle.std.proofs.Common.{◌≡◌, ℕ, ◌+◌, ◌<◌, ◌^◌, true, List, [], ◌∷◌, length, Some, refl, sym, ap, ◌∙◌, subst, arith}
use Rattle.std.specs.Prelude.{slice_get}
use Rattle.object.specs.declared.command.Command.{Command}
use Rattle.object.specs.declared.command.Key.{Key}
use Rattle.ballot.specs.Members.{is_member}
use Rattle.ballot.specs.declared.letter.LetterBody.{LetterBody}
use Rattle.ballot.specs.declared.letter.LetterBody.TheVariants.{P1a, P1b, P2a, P2b, Propose, Decision, Ask}
use Rattle.ballot.specs.declared.letter.Letter.{Letter}
use Rattle.agreement.specs.declared.event.Event.{Event}
use Rattle.agreement.specs.declared.event.Event.TheVariants as events
use Rattle.object.specs.Objects.{Rules}
use Rattle.agreement.specs.Nodes.{Cluster, node}
use Rattle.agreement.specs.Worlds.{World}
use Rattle.agreement.specs.Steps.{Step, IsItsOwn}
use Rattle.agreement.specs.Runs.{Leads, IsReachable, IsWorld, most_events}
use Rattle.agreement.specs.Runs as Runs
use Rattle.agreement.specs.Showing.{HasNode}
use Rattle.node.specs.Receiving.{IsFit}
use Rattle.object.specs.ListLaws.{Each-at, In-get}
use Rattle.ballot.specs.OrderLaws.{BallotLaws}
use Rattle.agreement.proofs.chosen.Invariants.{IsFair, IsTrueOf, IsSound, agree}
use Rattle.agreement.proofs.chosen.Bounds.{BodyWithin, reachable_within}
use Rattle.agreement.specs.OneOrder.{HasOneOrder, GoesOnFrom}
use Rattle.agreement.proofs.order.Once.{ObjectLaws}
use Rattle.agreement.proofs.order.OneOrder.{reachable_one_order, leads_later}
use Rattle.agreement.specs.Agreements.{StaysChosen}
use Rattle.agreement.proofs.chosen.Grows.{chosen_stays}
use Rattle.agreement.proofs.chosen.Reach.{reachable_sound, step_sound, one_more}

module _ (laws : BallotLaws) {O Op Reply : Type 0} (rules : Rules O Op Reply) where
  pub next_world : (v w : World Op Reply) → v ≡ w → (e : Event Op) (u : World Op Reply) → IsWorld rules v
      → w.taken < most_events → u.taken ≡ v.taken + 1 → Step rules v e u → IsWorld rules u
  next_world v w is e u i room count s = record {
    reachable = one_more laws rules v e u i.reachable s;
    few = let same = ap (λ y. y.taken) is in omega arith;
  }

  module _ (v w : World Op Reply) (is : v ≡ w) (i : IsWorld rules v) where
    sound : IsSound v.cluster
    sound = reachable_sound laws rules v i.reachable

    pub has_node : (n : ℕ) → is_member w.cluster.members n ≡ true → HasNode n v.cluster
    has_node n member = record {
      size = sound.size;
      seated = record {
        member = ap (λ y. is_member y.cluster.members n) is ∙ member;
        speaks = (sound.nodes n).leader.members;
        node = (sound.nodes n).owner;
      };
    }

    -- a boot is still to come
    pub boots : (n : ℕ) → w.taken < most_events → (node v.cluster n).boot < 2 ^ 62
    boots n room = let b = ((reachable_within laws rules v i.reachable).nodes n).boot in let few = i.few in omega arith

    -- what is known to be decided is what a Decision says
    fit_body : (k : Cluster (Command Op)) → k ≡ v.cluster → (m n : ℕ) (body : LetterBody (Command Op))
        → IsTrueOf v.cluster m body → BodyWithin v.taken body → IsFit (node v.cluster n) body
    fit_body k same m n (P1a b) says low = tt
    fit_body k same m n (P1b b report) says low = let few = i.few in omega arith
    fit_body k same m n (P2a p) says low = tt
    fit_body k same m n (P2b o s by) says low = λ b e. let q = low b e in let few = i.few in omega arith
    fit_body k same m n (Propose s c) says low = tt
    fit_body k same m n (Decision s c) says low = λ d e. agree laws v.cluster sound s d c ((sound.nodes n).decisions s d e) says
    fit_body k same m n (Ask s) says low = tt

    pub fit : (j : ℕ) (l : Letter (Command Op)) → slice_get v.cluster.letters j ≡ Some l → IsFit (node v.cluster l.to) l.body
    fit j l at =
        let there = In-get v.cluster.letters j l at in
        let fair = Each-at (IsFair v.cluster) v.cluster.letters l sound.letters there in
        fit_body v.cluster refl l.«from» l.to l.body fair.says
        (Each-at (λ l. BodyWithin v.taken l.body) v.cluster.letters l
        (reachable_within laws rules v i.reachable).letters there)

    pub receiver : (j : ℕ) (l : Letter (Command Op)) → slice_get v.cluster.letters j ≡ Some l → HasNode l.to v.cluster
    receiver j l at = record {
      size = sound.size;
      seated = record {
        member = (Each-at (IsFair v.cluster) v.cluster.letters l sound.letters (In-get v.cluster.letters j l at)).receiver;
        speaks = (sound.nodes l.to).leader.members;
        node = (sound.nodes l.to).owner;
      };
    }

module _ {O Op Reply : Type 0} (rules : Rules O Op Reply) (v w : World Op Reply) (is : v ≡ w) where
  -- the step from the world as it was
  pub from_view : (e : Event Op) (u : World Op Reply) → Step rules v e u → Step rules w e u
  from_view e u s = subst (λ y. Step rules y e u) is s

  pub sent_in_view : (j : ℕ) → j < length w.cluster.letters → j < length v.cluster.letters
  sent_in_view j h = subst (λ y. j < length y.cluster.letters) (sym is) h

  pub member_in_view : (n : ℕ) → is_member w.cluster.members n ≡ true → is_member v.cluster.members n ≡ true
  member_in_view n member = ap (λ y. is_member y.cluster.members n) is ∙ member

pub own_in_view : {Op Reply : Type 0} (v w : World Op Reply) → v ≡ w → (c : Command Op) → IsItsOwn c w.happenings.submitted → IsItsOwn c v.happenings.submitted
own_in_view v w is c own = subst (λ y. IsItsOwn c y.happenings.submitted) (sym is) own

module _ (laws : BallotLaws) {O Op Reply : Type 0} (rules : Rules O Op Reply) where
  -- what is chosen before an event is chosen after it
  pub stays_chosen : (v w : World Op Reply) → v ≡ w → IsWorld rules v → (e : Event Op) (u : World Op Reply) → Step rules w e u → StaysChosen w.cluster u.cluster
  stays_chosen v w is i e u s t c h =
      chosen_stays w.cluster u.cluster (step_sound laws rules w e u (reachable_sound laws rules w (subst (IsReachable rules) is i.reachable)) s).grows t c h

  pub sound_now : (v w : World Op Reply) → v ≡ w → IsWorld rules v → IsSound w.cluster
  sound_now v w is i = reachable_sound laws rules w (subst (IsReachable rules) is i.reachable)

module _ (laws : BallotLaws) {O Op Reply : Type 0} (rules : Rules O Op Reply) where
  -- what came later is later
  pub later_by : (v w : World Op Reply) → v ≡ w → IsWorld rules v → (es : List (Event Op)) (u : World Op Reply) → Leads rules w es u → GoesOnFrom w u
  later_by v w is i es u l = leads_later laws rules w u es (subst (IsReachable rules) is i.reachable) l

  pub later_step : (v w : World Op Reply) → v ≡ w → IsWorld rules v → (e : Event Op) (u : World Op Reply) → Step rules w e u → GoesOnFrom w u
  later_step v w is i e u s = later_by v w is i (e ∷ []) u (Runs.after e u Runs.at_once s)

  pub later_same : (v w : World Op Reply) → v ≡ w → IsWorld rules v → (u : World Op Reply) → u ≡ w → GoesOnFrom w u
  later_same v w is i u same = subst (GoesOnFrom w) (sym same) (later_by v w is i [] w Runs.at_once)

  pub order_now : (waits : O → Key → Type 0) → ObjectLaws rules waits → (v w : World Op Reply) → v ≡ w → IsWorld rules v → HasOneOrder rules w
  order_now waits object v w is i = reachable_one_order laws rules waits object w (subst (IsReachable rules) is i.reachable)
