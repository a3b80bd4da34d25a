-- What is left of a leader is that of a leader.
use Rattle.std.proofs.Common.{◌≡◌, ℕ, Bool, true, false, cond, Option, None, Some, refl, sym, ap, ◌∙◌}
use Rattle.std.specs.Prelude.{nat_le, option_map}
use Rattle.std.specs.FinMap.{get}
use Rattle.ballot.specs.Slots.{Slots}
use Rattle.ballot.specs.Rests.{kept_from}
use Rattle.ballot.proofs.Rests.{get_above}
use Rattle.scout_commander.specs.Scouts.{Scouting}
use Rattle.scout_commander.specs.Commanders.{Commanding}
use Rattle.scout_commander.specs.Rests.{rest_of_scout}
use Rattle.leader.specs.Leaders.{Leading, IsLeaderOf, IsScoutOf}
use Rattle.leader.specs.Rests.{rest_of_leader}

-- what is kept was there
there_before : {X : Type 0} (b : Bool) (o : Option X) (x : X) → cond b o None ≡ Some x → o ≡ Some x
there_before true o x e = e
there_before false o x e = cc

module _ {C : Type 0} (base : ℕ) where
  of_kept : (l : Leading C) (o : Option (Scouting C)) (s : Scouting C) → l.scout ≡ o → option_map (rest_of_scout base) o ≡ Some s
      → ((t : Scouting C) → l.scout ≡ Some t → IsScoutOf l t) → IsScoutOf (rest_of_leader base l) s
  of_kept l None s is e of = cc
  of_kept l (Some t) s is e of =
      let same : rest_of_scout base t ≡ s = cc in
      let x = of t is in
      record { members = ap (λ (r : Scouting C). r.members) (sym same) ∙ x.members; ballot = ap (λ (r : Scouting C). r.ballot) (sym same) ∙ x.ballot }

  pub kept_rest : (node boot : ℕ) (l : Leading C) → IsLeaderOf node boot l → IsLeaderOf node boot (rest_of_leader base l)
  kept_rest node boot l k = record {
    same_node = k.same_node;
    same_boot = k.same_boot;
    leader = record {
      member = k.leader.member;
      within = k.leader.within;
      scout = λ s e. of_kept l l.scout s refl e k.leader.scout;
      commanders = λ s c e.
          let x = k.leader.commanders s c (there_before (nat_le base s) (get l.commanders s) c (sym (get_above base l.commanders s) ∙ e)) in
          record { members = x.members; ballot = x.ballot; slot = x.slot };
    };
  }

  -- each part was left as what is left of it
  pub rest_of_parts : (l : Leading C) (proposals : Slots C) (scout : Option (Scouting C)) (commanders : Slots (Commanding C))
      → proposals ≡ kept_from base l.proposals → scout ≡ option_map (rest_of_scout base) l.scout → commanders ≡ kept_from base l.commanders
      → record l { proposals = proposals; scout = scout; commanders = commanders } ≡ rest_of_leader base l
  rest_of_parts l proposals scout commanders p s c = λ i. record l { proposals = p i; scout = s i; commanders = c i }
