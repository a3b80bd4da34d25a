-- A letter that reaches its receiver, as an event of its world. It is lent to the receiver, and another stands in its
-- place while letters are sent.
use Rattle.std.proofs.Common.{◌≡◌, ℕ, zero, suc, ◌-◌, ◌+◌, ◌<◌, ◌≤◌, List, [], ◌∷◌, ◌++◌, length, length-append, append-nil}
use Rattle.std.proofs.Common.{length-set, Some, refl, sym, ap, ◌∙◌, subst, arith}
use Rattle.std.specs.Prelude.{slice_index_or, slice_set, slice_get, Result, Ok, Err, OnOk, OnErr}
use Rattle.std.proofs.lemmas.Option.{slice_get-get_or}
use Rattle.object.specs.declared.command.Command.{Command}
use Rattle.object.specs.declared.command.Key.{Key}
use Rattle.object.specs.Objects.{Rules}
use Rattle.ballot.specs.BallotLaws.{BallotLaws}
use Rattle.ballot.specs.declared.letter.Letter.{Letter}
use Rattle.node.specs.Nodes.{NodeState}
use Rattle.node.specs.Receiving.{IsFit, SaysNothingNew, Received}
use Rattle.agreement.specs.declared.event.Event.TheVariants as events
use Rattle.world.specs.Kept.{IsNoted}
use Rattle.agreement.specs.Nodes.{node}
use Rattle.world.specs.Quiet.{BringsNothing}
use Rattle.agreement.specs.Runs.{most_events}
use Rattle.agreement.specs.Showing.{HasNode}
use Rattle.agreement.specs.Steps.{Step, deliver}
use Rattle.agreement.specs.Worlds.{World}
use Rattle.world.proofs.steps.Acting.{set_own}
use Rattle.agreement.proofs.every.Events.{receiver, fit, sent_in_view}
use Rattle.world.proofs.steps.Events.{next_noted}
use Rattle.node.specs.PlaceLaws.{node_at}
use Rattle.world.proofs.steps.Places.{delivered}
use Rattle.agreement.proofs.chosen.Sets.{member_bounds}

-- what was lent is put back
put_back : {A : Type 0} (xs more : List A) (j : ℕ) (other x d : A) → j < length xs → x ≡ slice_index_or xs j d
    → slice_set (slice_set xs j other ++ more) j x ≡ xs ++ more
put_back [] more j other x d within at = absurd (omega arith)
put_back (y ∷ xs) more zero other x d within at = ap (λ z. z ∷ (xs ++ more)) at
put_back (y ∷ xs) more (suc j) other x d within at = ap (λ zs. y ∷ zs) (put_back xs more j other x d (omega arith) at)

put_back_alone : {A : Type 0} (xs : List A) (j : ℕ) (other x d : A) → j < length xs → x ≡ slice_index_or xs j d → slice_set (slice_set xs j other) j x ≡ xs
put_back_alone xs j other x d within at =
    ap (λ zs. slice_set zs j x) (sym (append-nil (slice_set xs j other))) ∙ put_back xs [] j other x d within at ∙ append-nil xs

-- its place is still there when it is put back
pub still_there : {C T E : Type 0} (r : Result T E) (m : ℕ) (y z : NodeState C) (l : Letter C)
    (before out : List (Letter C)) (j : ℕ) → j < length before → OnOk r (Received m y l.body z before out)
    → OnErr r ((z ≡ y) × (out ≡ before)) → j < length out
still_there (Ok x) m y z l before out j within ok err = let e = ap length ok.2 in let f = length-append before ok.0 in omega arith
still_there (Err x) m y z l before out j within ok err = let e = ap length err.1 in omega arith

pub lent_within : {A : Type 0} (xs : List A) (i j : ℕ) (x : A) → j < length xs → j < length (slice_set xs i x)
lent_within xs i j x within = let e = length-set xs i x in omega arith

module _ (laws : BallotLaws) {O Op Reply : Type 0} (rules : Rules O Op Reply) (v w : World Op Reply) (is : v ≡ w)
    (keys : List Key) (noted : IsNoted rules v keys) (j : ℕ) (sent : j < length w.cluster.letters)
    (room : w.taken < most_events) (x l : Letter (Command Op)) (at : x ≡ slice_index_or v.cluster.letters j x)
    (read : l ≡ x) where
  within : j < length v.cluster.letters
  within = sent_in_view rules v w is j sent

  letter_is : slice_get v.cluster.letters j ≡ Some l
  letter_is = slice_get-get_or v.cluster.letters j x within ∙ ap (λ y. Some y) (sym at ∙ sym read)

  has : HasNode l.to v.cluster
  has = receiver laws rules v w is noted.world j l letter_is

  bounds : (1 ≤ l.to) × (l.to ≤ length v.cluster.nodes)
  bounds = let b = member_bounds v.cluster.members l.to has.seated.member in let size = has.size in (b.0, omega (arith, b.1))

  pub to_above : 1 ≤ l.to
  to_above = bounds.0

  module _ (p : ℕ) (place : p ≡ l.to - 1) where
    pub receiver_within : p < length v.cluster.nodes
    receiver_within = omega (arith, bounds.0, bounds.1)

    module _ (y : NodeState (Command Op)) (here : y ≡ slice_index_or v.cluster.nodes p y) where
      own : y ≡ node v.cluster l.to
      own = node_at v.cluster.members v.cluster.nodes l.to y bounds.0 bounds.1 (here ∙ ap (λ i. slice_index_or v.cluster.nodes i y) place)

      pub fit_now : IsFit y l.body
      fit_now = subst (λ z. IsFit z l.body) (sym own) (fit laws rules v w is noted.world j l letter_is)

      pub silent_now : BringsNothing rules w.cluster (events.Deliver j) → SaysNothingNew y l.body
      silent_now i =
          let silent : BringsNothing rules v.cluster (events.Deliver j) =
          subst (λ (u : World Op Reply). BringsNothing rules u.cluster (events.Deliver j)) (sym is) i in
          subst (λ z. SaysNothingNew z l.body) (sym own) (silent l letter_is)

      module _ (z : NodeState (Command Op)) (other : Letter (Command Op)) (out : List (Letter (Command Op))) where
        restored : (more : List (Letter (Command Op))) → out ≡ slice_set v.cluster.letters j other ++ more → slice_set out j l ≡ v.cluster.letters ++ more
        restored more e = ap (λ ls. slice_set ls j l) e ∙ put_back v.cluster.letters more j other l x within (read ∙ at)

        pub delivered_step : Received l.«from» y l.body z (slice_set v.cluster.letters j other) out
            → Step rules v (events.Deliver j)
            (record {
              cluster = record {
                members = v.cluster.members;
                nodes = slice_set v.cluster.nodes p z;
                letters =
                    slice_set out j l;
              };
              happenings = v.happenings;
              reach = v.reach;
              taken = v.taken + 1;
            })
        delivered_step r =
            let d = delivered v.cluster l y z p (slice_set out j l) place has here (r.0, r.1, restored r.0 r.2) in
            subst (λ k. Step rules v (events.Deliver j) (record { cluster = k; happenings = v.happenings; reach = v.reach; taken = v.taken + 1 })) (sym d.3)
            (deliver j l d.0 d.1 letter_is d.2)

        pub delivered_kept : Received l.«from» y l.body z (slice_set v.cluster.letters j other) out
            → IsNoted rules (record {
              cluster =
                  record { members = v.cluster.members; nodes = slice_set v.cluster.nodes p z; letters = slice_set out j l };
              happenings = v.happenings;
              reach = v.reach;
              taken = v.taken + 1;
            }) keys
        delivered_kept r = next_noted laws rules v w is (events.Deliver j) _ keys noted room refl refl (delivered_step r)

        pub delivered_not : z ≡ y → out ≡ slice_set v.cluster.letters j other
            → record {
              cluster = record {
                members = v.cluster.members;
                nodes = slice_set v.cluster.nodes p z;
                letters =
                    slice_set out j l;
              };
              happenings = v.happenings;
              reach = v.reach;
              taken = v.taken;
            } ≡ v
        delivered_not same e = λ i. record {
          cluster = record {
            members = v.cluster.members;
            nodes = (ap (slice_set v.cluster.nodes p) (same ∙ here) ∙ set_own v.cluster.nodes p y) i;
            letters = (ap (λ ls. slice_set ls j l) e ∙ put_back_alone v.cluster.letters j other l x within (read ∙ at)) i;
          };
          happenings = v.happenings;
          reach = v.reach;
          taken = v.taken;
        }
