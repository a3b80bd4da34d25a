-- A rest from a higher base on is the rest of a rest.
use Rattle.std.proofs.Common.{◌≡◌, ◌≤◌, ℕ, max, Bool, true, false, true≢false, cond, List, [], ◌∷◌, Some, None, Option, refl, sym, ap, ◌∙◌, arith}
use Rattle.std.specs.Prelude.{nat_le, option_map}
use Rattle.std.specs.FinMap.{get}
use Rattle.std.proofs.lemmas.Bool.Decides.{nat_tests}
use Rattle.ballot.specs.Slots.{Slots}
use Rattle.ballot.specs.declared.pvalue.Pvalue.{Pvalue}
use Rattle.scout_commander.specs.Scouts.{Scouting}
use Rattle.acceptor.specs.Acceptors.{Acceptances, Keeps}
use Rattle.node.specs.Nodes.{NodeState}
use Rattle.ballot.specs.Rests.{kept_from, if_from, pvalues_from, rest_of_body}
use Rattle.acceptor.specs.Rests.{rest_of_acceptor}
use Rattle.scout_commander.specs.Rests.{rest_of_scout}
use Rattle.node.specs.Rests.{rest_of_node}
use Rattle.ballot.specs.declared.letter.LetterBody.{LetterBody}
use Rattle.ballot.specs.declared.letter.LetterBody.TheVariants.{P1a, P1b, P2a, P2b, Propose, Decision, Ask}
use Rattle.ballot.proofs.SlotMaps.{same_slots}
use Rattle.ballot.proofs.Rests.{get_above}
use Rattle.ballot.proofs.Filters.{filter_all}
use Rattle.forgetting.proofs.Parts.{rest_of_report}

module _ (low high : ℕ) (h : low ≤ high) where
  lower : (s : ℕ) → nat_le high s ≡ true → nat_le low s ≡ true
  lower s t = grind (arith, nat_tests)

  slot_twice : {X : Type 0} (s : ℕ) (o : Option X) → cond (nat_le high s) (cond (nat_le low s) o None) None ≡ cond (nat_le high s) o None
  slot_twice {X} s o = by_test (nat_le high s) refl
    where
      by_test : (b : Bool) → nat_le high s ≡ b → cond b (cond (nat_le low s) o None) None ≡ cond b o None
      by_test true t = ap (λ b. cond b o None) (lower s t)
      by_test false t = refl

  pub above_twice : {X : Type 0} (m : Slots X) → kept_from high (kept_from low m) ≡ kept_from high m
  above_twice m = same_slots _ _
      (λ q. get_above high (kept_from low m) q ∙ ap (λ o. cond (nat_le high q) o None)
      (get_above low m q) ∙ slot_twice q (get m q) ∙ sym (get_above high m q))

  pvalue_twice : {C : Type 0} (p : Pvalue C) (ps qs : List (Pvalue C)) → pvalues_from high ps ≡ qs
      → pvalues_from high (cond (nat_le low p.slot) (p ∷ ps) ps) ≡ cond (nat_le high p.slot) (p ∷ qs) qs
  pvalue_twice {C} p ps qs e = by_tests (nat_le low p.slot) (nat_le high p.slot) refl refl
    where
      by_tests : (a b : Bool) → nat_le low p.slot ≡ a → nat_le high p.slot ≡ b → pvalues_from high (cond a (p ∷ ps) ps) ≡ cond b (p ∷ qs) qs
      by_tests true true s t = ap (λ c. cond c (p ∷ pvalues_from high ps) (pvalues_from high ps)) t ∙ ap (λ xs. p ∷ xs) e
      by_tests true false s t = ap (λ c. cond c (p ∷ pvalues_from high ps) (pvalues_from high ps)) t ∙ e
      by_tests false true s t = absurd (true≢false (sym (lower p.slot t) ∙ s))
      by_tests false false s t = e

  pub pvalues_twice : {C : Type 0} (ps : List (Pvalue C)) → pvalues_from high (pvalues_from low ps) ≡ pvalues_from high ps
  pvalues_twice [] = refl
  pvalues_twice (p ∷ ps) = pvalue_twice p (pvalues_from low ps) (pvalues_from high ps) (pvalues_twice ps)

  scout_twice : {C : Type 0} (o : Option (Scouting C)) → option_map (rest_of_scout high) (option_map (rest_of_scout low) o) ≡ option_map (rest_of_scout high) o
  scout_twice None = refl
  scout_twice (Some s) = ap (λ ps. Some (record s { gathered = ps })) (pvalues_twice s.gathered)

  pub node_twice : {C : Type 0} (x : NodeState C) → rest_of_node high (rest_of_node low x) ≡ rest_of_node high x
  node_twice x =
      let accepted = pvalues_twice x.acceptor.accepted in
      let proposals = above_twice x.leader.proposals in
      let scout = scout_twice x.leader.scout in
      let commanders = above_twice x.leader.commanders in
      let decisions = above_twice x.replica.decisions in
      let slot_in : max (max x.replica.slot_in low) high ≡ max x.replica.slot_in high = omega arith in
      λ i. record x {
        acceptor = record x.acceptor { accepted = accepted i };
        leader = record x.leader { proposals = proposals i; scout = scout i; commanders = commanders i };
        replica = record x.replica { slot_in = slot_in i; decisions = decisions i };
      }

pub rest_keeps : {C : Type 0} (base : ℕ) (all kept : Acceptances C) → Keeps all kept → Keeps (rest_of_acceptor base all) (rest_of_acceptor base kept)
rest_keeps base all kept is = record { promised = is.promised; accepted = rest_of_report base all.accepted kept.accepted is.accepted }

-- from slot 0 on nothing is left out
zero_le : (s : ℕ) → nat_le 0 s ≡ true
zero_le s = grind (arith, nat_tests)

above_all : {X : Type 0} (m : Slots X) → kept_from 0 m ≡ m
above_all m = same_slots _ _ (λ q. get_above 0 m q ∙ ap (λ b. cond b (get m q) None) (zero_le q))

pvalues_all : {C : Type 0} (ps : List (Pvalue C)) → pvalues_from 0 ps ≡ ps
pvalues_all ps = filter_all (λ p. nat_le 0 p.slot) ps (λ p i. zero_le p.slot)

scout_all : {C : Type 0} (o : Option (Scouting C)) → option_map (rest_of_scout 0) o ≡ o
scout_all None = refl
scout_all (Some s) = ap (λ ps. Some (record s { gathered = ps })) (pvalues_all s.gathered)

pub node_all : {C : Type 0} (x : NodeState C) → rest_of_node 0 x ≡ x
node_all x =
    let accepted = pvalues_all x.acceptor.accepted in
    let proposals = above_all x.leader.proposals in
    let scout = scout_all x.leader.scout in
    let commanders = above_all x.leader.commanders in
    let decisions = above_all x.replica.decisions in
    let slot_in : max x.replica.slot_in 0 ≡ x.replica.slot_in = omega arith in
    λ i. record x {
      acceptor = record x.acceptor { accepted = accepted i };
      leader = record x.leader { proposals = proposals i; scout = scout i; commanders = commanders i };
      replica = record x.replica { slot_in = slot_in i; decisions = decisions i };
    }

all_at : {C : Type 0} (s : ℕ) (b : LetterBody C) → if_from 0 s b ≡ Some b
all_at s b = ap (λ t. cond t (Some b) None) (zero_le s)

pub body_all : {C : Type 0} (b : LetterBody C) → rest_of_body 0 b ≡ Some b
body_all (P1a b) = refl
body_all (P1b b report) = ap (λ ps. Some (P1b b ps)) (pvalues_all report)
body_all (P2a p) = all_at p.slot (P2a p)
body_all (P2b o s by) = all_at s (P2b o s by)
body_all (Propose s c) = all_at s (Propose s c)
body_all (Decision s c) = all_at s (Decision s c)
body_all (Ask s) = refl
