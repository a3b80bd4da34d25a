-- What is true of every leader stays so.
use Rattle.std.proofs.Common.{◌≡◌, ◌≤◌, ◌^◌, ⊎_elim, ℕ, Bool, true, false, List, map, Option, None, Some, refl, sym, ap, subst, ◌∙◌}
use Rattle.std.specs.Ordering.{nat_cmp}
use Rattle.std.specs.Cmp.{nat_cmp_total}
use Rattle.std.specs.FinMap.{empty, get, insert, remove, entries, get-empty, get-from_entries}
use Rattle.ballot.specs.Ballots.{Numbers}
use Rattle.ballot.specs.Members.{is_member}
use Rattle.scout_commander.specs.Commanders.{Commanding, new_commander}
use Rattle.ballot.specs.Slots.{Slots}
use Rattle.ballot.proofs.SlotMaps.{insert_cases, kept_by_remove}
use Rattle.ballot.proofs.Turns.{made, find_made}
use Rattle.leader.specs.Leaders.{Leading, IsLeaderOf, IsCommanderOf, pvalue}
use Rattle.leader.specs.Adoptions.{commanders_for}

pub not_none : {X P : Type 0} (o : Option X) (x : X) → o ≡ None → o ≡ Some x → P
not_none o x e f = absurd (cc)

pub nothing_in_empty : {X P : Type 0} (m : Slots X) (s : ℕ) (x : X) → m ≡ empty → get m s ≡ Some x → P
nothing_in_empty {X = X} m s x e f = not_none (get m s) x (ap (λ (n : Slots X). get n s) e ∙ get-empty nat_cmp s) f

pub kept_new : {C : Type 0} (members : List ℕ) (node boot : ℕ) (ballot : Numbers) (proposals : Slots C)
    (commanders : Slots (Commanding C)) → is_member members node ≡ true → boot ≤ 2 ^ 62 → ballot.node ≡ node
    → ballot.boot ≡ boot → commanders ≡ empty
    → IsLeaderOf {C = C} node boot
    (record {
      members = members;
      ballot = ballot;
      active = false;
      proposals = proposals;
      scout = None;
      commanders =
          commanders;
    })
kept_new {C = C} members node boot ballot proposals commanders member within same_node same_boot none = record {
  same_node = same_node;
  same_boot = same_boot;
  leader = record {
    member = subst (λ n. is_member members n ≡ true) (sym same_node) member;
    within = subst (λ n. n ≤ 2 ^ 62) (sym same_boot) within;
    scout = λ s e. not_none None s refl e;
    commanders = λ s c e. nothing_in_empty commanders s c none e;
  };
}

-- the scout and the members stay, and each commander is of the leader's ballot
pub kept_commanders : {C : Type 0} (node boot : ℕ) (l : Leading C) (active : Bool) (proposals : Slots C)
    (commanders : Slots (Commanding C)) → IsLeaderOf node boot l
    → ((s : ℕ) (c : Commanding C) → get commanders s ≡ Some c → IsCommanderOf l s c)
    → IsLeaderOf node boot (record l { active = active; proposals = proposals; commanders = commanders })
kept_commanders node boot l active proposals commanders k of = record {
  same_node = k.same_node;
  same_boot = k.same_boot;
  leader = record {
    member = k.leader.member;
    within = k.leader.within;
    scout = λ s e. let x = k.leader.scout s e in record { members = x.members; ballot = x.ballot };
    commanders = λ s c e. let x = of s c e in record { members = x.members; ballot = x.ballot; slot = x.slot };
  };
}

-- one commander more
pub kept_insert : {C : Type 0} (node boot : ℕ) (l : Leading C) (proposals : Slots C) (commanders : Slots (Commanding C))
    (s : ℕ) (c : Commanding C) → IsLeaderOf node boot l → commanders ≡ insert l.commanders s c → IsCommanderOf l s c
    → IsLeaderOf node boot (record l { proposals = proposals; commanders = commanders })
kept_insert {C} node boot l proposals commanders s c k e of =
    kept_commanders node boot l l.active proposals commanders k
    (λ q d there.
    ⊎_elim
    (λ (h : (q ≡ s) × (get (insert l.commanders s c) q ≡ Some c)).
    let same : Some c ≡ Some d = sym h.1 ∙ ap (λ (m : Slots (Commanding C)). get m q) (sym e) ∙ there in
    let is : c ≡ d = cc in record {
      members = ap (λ (x : Commanding C). x.members) (sym is) ∙ of.members;
      ballot =
          ap (λ (x : Commanding C). x.pvalue.ballot) (sym is) ∙ of.ballot;
      slot =
          ap (λ (x : Commanding C). x.pvalue.slot) (sym is) ∙ of.slot ∙ sym h.0;
    })
    (λ (h : get (insert l.commanders s c) q ≡ get l.commanders q). k.leader.commanders q d (sym h ∙ ap (λ (m : Slots (Commanding C)). get m q) (sym e) ∙ there))
    (insert_cases l.commanders s c q))

-- one commander less
pub kept_remove : {C : Type 0} (node boot : ℕ) (l : Leading C) (commanders : Slots (Commanding C)) (s : ℕ)
    → IsLeaderOf node boot l → commanders ≡ remove l.commanders s
    → IsLeaderOf node boot (record l { commanders = commanders })
kept_remove {C} node boot l commanders s k e =
    kept_commanders node boot l l.active l.proposals commanders k
    (λ q d there. k.leader.commanders q d (kept_by_remove l.commanders s q d (ap (λ (m : Slots (Commanding C)). get m q) (sym e) ∙ there)))

-- adopted, with a commander for each proposal
pub kept_adopted : {C : Type 0} (node boot : ℕ) (l : Leading C) (proposals : Slots C)
    (commanders : Slots (Commanding C)) → IsLeaderOf node boot l → commanders ≡ commanders_for l proposals
    → IsLeaderOf node boot (record l { active = true; proposals = proposals; scout = None; commanders = commanders })
kept_adopted {C} node boot l proposals commanders k e = record {
  same_node = k.same_node;
  same_boot = k.same_boot;
  leader = record {
    member = k.leader.member;
    within = k.leader.within;
    scout = λ s h. not_none None s refl h;
    commanders = λ s c h.
        let f : ℕ → C → Commanding C = λ q v. new_commander l.members (pvalue l.ballot q v) in
        let m = find_made f (entries proposals) s c
        (sym (ap (λ (n : Slots (Commanding C)). get n s) e ∙ get-from_entries nat_cmp_total
        (map (made f) (entries proposals)) s) ∙ h) in
        record {
          members = ap (λ (x : Commanding C). x.members) m.1;
          ballot =
              ap (λ (x : Commanding C). x.pvalue.ballot) m.1;
          slot = ap (λ (x : Commanding C). x.pvalue.slot) m.1;
        };
  };
}
