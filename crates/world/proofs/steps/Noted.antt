-- The keys of what was performed, from event to event.
use Rattle.std.proofs.Common.{◌≡◌, ⊎_elim, ℕ, ◌+◌, true, false, nat_lt, cond, List, [], ◌∷◌, ◌++◌, Option, Some, None}
use Rattle.std.proofs.Common.{refl, sym, ap, ◌∙◌, subst, append-nil, arith}
use Rattle.std.specs.Option.{option_to_list}
use Rattle.std.proofs.lemmas.Bool.{cases_Bool}
use Rattle.std.proofs.lemmas.List.{map-append}
use Rattle.object.specs.declared.command.Command.{Command}
use Rattle.object.specs.declared.command.Key.{Key}
use Rattle.object.specs.Objects.{Rules}
use Rattle.slot_log.specs.Decisions.{next_decided}
use Rattle.agreement.specs.Chosen.{IsChosen}
use Rattle.agreement.specs.Nodes.{node}
use Rattle.agreement.specs.Worlds.{World, opening}
use Rattle.node.specs.Deeds.{performs}
use Rattle.node.specs.Outcomes.{reach_after}
use Rattle.world.specs.Kept.{HasNoted, IsNoted, key_past}
use Rattle.agreement.proofs.chosen.Invariants.{IsSound}
use Rattle.agreement.proofs.chosen.Grows.{Grows}
use Rattle.agreement.proofs.answered.Told.{AllWithin}
use Rattle.agreement.proofs.answered.Reaching.{reached_stays, reached_more, past_when, within_when}

pub opening_noted : {Op Reply : Type 0} (members : List ℕ) → HasNoted {Op = Op} {Reply = Reply} (opening members) []
opening_noted members = ([], record { chosen = tt; count = refl }, refl)

-- the same world with the same keys
pub noted_again : {O Op Reply : Type 0} (rules : Rules O Op Reply) (w z : World Op Reply) (keys again : List Key)
    → z ≡ w → again ≡ keys → IsNoted rules w keys → IsNoted rules z again
noted_again rules w z keys again same kept noted = subst (IsNoted rules z) (sym kept) (subst (λ v. IsNoted rules v keys) (sym same) noted)

module _ {Op Reply : Type 0} (v u : World Op Reply) (grows : Grows v.cluster u.cluster) (keys : List Key) (noted : HasNoted v keys) where
  -- where the reach stays, so do the keys
  pub noted_stays : u.reach ≡ v.reach → HasNoted u keys
  noted_stays same = (noted.0, reached_stays v u grows noted.0 noted.1 same, noted.2)

  -- and where it grows by one slot, the key of its command is one more
  pub noted_more : (c : Command Op) → IsChosen v.cluster u.reach c → u.reach ≡ v.reach + 1 → HasNoted u (keys ++ (c.key ∷ []))
  noted_more c chosen more = (
    noted.0 ++ (c ∷ []),
    reached_more v u grows noted.0 noted.1 c chosen more,
    ap (λ ks. ks ++ (c.key ∷ [])) noted.2 ∙ sym (map-append (λ (x : Command Op). x.key) noted.0 (c ∷ [])),
  )

-- a replica performs
pub performs_noted : {Op Reply : Type 0} (v u : World Op Reply) → IsSound v.cluster → AllWithin v.cluster (v.reach + 1)
    → Grows v.cluster u.cluster → (keys : List Key) → HasNoted v keys → (n : ℕ) (o : Option (Command Op))
    → next_decided (node v.cluster n).replica ≡ o
    → u.reach ≡ reach_after v.reach (performs (node v.cluster n).replica o)
    → HasNoted u (keys ++ option_to_list (key_past v.reach (performs (node v.cluster n).replica o)))
performs_noted v u i within g keys noted n None e reach = subst (HasNoted u) (sym (append-nil keys)) (noted_stays v u g keys noted reach)
performs_noted v u i within g keys noted n (Some c) e reach = ⊎_elim
    (λ (t : nat_lt v.reach slot ≡ true).
    let past = past_when v.reach slot t in
    let low = within n in
    subst (λ b. HasNoted u (keys ++ option_to_list (cond b (Some c.key) None))) (sym t)
    (noted_more v u g keys noted c (subst (λ s. IsChosen v.cluster s c) (omega arith) ((i.nodes n).decisions slot c e)) (omega arith)))
    (λ (f : nat_lt v.reach slot ≡ false).
    let old = within_when v.reach slot f in
    subst (λ b. HasNoted u (keys ++ option_to_list (cond b (Some c.key) None))) (sym f)
    (subst (HasNoted u) (sym (append-nil keys)) (noted_stays v u g keys noted (reach ∙ omega arith))))
    (cases_Bool (nat_lt v.reach slot))
  where
    slot : ℕ
    slot = (node v.cluster n).replica.slot_out
