-- What the rest of a node does is the rest of what the node does.
use Rattle.std.proofs.Common.{◌≤◌, ◌≡◌, ◌⊎◌, ℕ, Bool, true, false, cond, List, [], ◌∷◌, ◌++◌, map, Some, None, Option, refl, sym, ap, ap₂, ◌∙◌, subst, arith}
use Rattle.std.specs.Prelude.{nat_le, option_map}
use Rattle.std.specs.List.{cons_option}
use Rattle.std.proofs.lemmas.Bool.Decides.{nat_tests}
use Rattle.std.proofs.lemmas.List.Elements.{filter-append, filter_map-append}
use Rattle.object.specs.declared.command.Command.{Command}
use Rattle.object.specs.Objects.{Rules, is_one}
use Rattle.object.specs.Lists.{In}
use Rattle.ballot.specs.Ballots.{Numbers, higher, is_promise}
use Rattle.ballot.specs.Letters.{letter, all_to_all}
use Rattle.ballot.specs.declared.pvalue.Pvalue.{Pvalue}
use Rattle.ballot.specs.declared.letter.LetterBody.{LetterBody}
use Rattle.ballot.specs.declared.letter.LetterBody.TheVariants.{P1a, P1b, P2a, P2b, Propose, Decision, Ask}
use Rattle.ballot.specs.declared.letter.Letter.{Letter}
use Rattle.acceptor.specs.Acceptors.{Acceptances, after_p1a, after_p2a}
use Rattle.leader.specs.Leaders.{Leading, Done, woken, says_again, on_propose}
use Rattle.leader.specs.Promises as promises
use Rattle.leader.specs.Votes as votes
use Rattle.slot_log.specs.Decisions.{learnt, next_decided}
use Rattle.slot_log.specs.Proposals.{next_proposal}
use Rattle.replica.specs.Replicas.{proposes_first, proposes_again, asks_others, nudges, tells}
use Rattle.node.specs.Nodes.{NodeState}
use Rattle.node.specs.Deeds.{acted, led, performing}
use Rattle.node.specs.Receiving.{IsFit, Receives, promises_ballot, accepts_pvalue, hears_promise, hears_vote, hears_proposal, learns, tells_decisions}
use Rattle.node.specs.declared.deed.Deed.{Deed}
use Rattle.node.specs.declared.deed.Deed.TheVariants as deeds
use Rattle.ballot.specs.Rests.{pvalues_from, if_from}
use Rattle.acceptor.specs.Rests.{rest_of_acceptor}
use Rattle.leader.specs.Rests.{StandInSlots, rest_of_leader}
use Rattle.slot_log.specs.Rests.{IsPast}
use Rattle.ballot.specs.Rests.{rest_of_body, rests}
use Rattle.leader.specs.Rests.{rest_of_done}
use Rattle.slot_log.specs.Rests.{rest_of_book}
use Rattle.node.specs.Rests.{rest_of_node}
use Rattle.forgetting.specs.RestLaws.{IsDoneByRest, IsRestOfTurn, ReceivesWhole}
use Rattle.ballot.proofs.Rests.{lt_true, get_high}
use Rattle.forgetting.proofs.Letters.{bodies, rests_to_all, rests_to_one}
use Rattle.forgetting.proofs.Books.{rest_learnt, rest_next, rest_advanced, rest_proposal, rest_proposed_next}
use Rattle.forgetting.proofs.Books.{proposal_high, rest_requested, rest_tells, rest_proposes_again, rest_asks}
use Rattle.forgetting.proofs.Leaders.{rest_woken, rest_says_again, rest_on_propose, rest_on_p2b}
use Rattle.forgetting.proofs.Parts.{whole_report}
use Rattle.forgetting.proofs.Promises.{hears_whole}

-- a pvalue from the base on is accepted
pub rest_p2a : {C : Type 0} (base : ℕ) (a : Acceptances C) (p : Pvalue C) → base ≤ p.slot
    → rest_of_acceptor base (after_p2a a p) ≡ after_p2a (rest_of_acceptor base a) p
rest_p2a base a p h = ap (λ ps. record (rest_of_acceptor base a) { accepted = ps }) (by_test (is_promise a.promised p.ballot))
  where
    more : pvalues_from base (a.accepted ++ (p ∷ [])) ≡ pvalues_from base a.accepted ++ (p ∷ [])
    more = filter-append (λ q. nat_le base q.slot) a.accepted (p ∷ []) ∙ ap (λ b. pvalues_from base a.accepted ++ cond b (p ∷ []) []) (lt_true base p.slot h)

    by_test : (b : Bool) → pvalues_from base (cond b (a.accepted ++ (p ∷ [])) a.accepted)
        ≡ cond b (pvalues_from base a.accepted ++ (p ∷ [])) (pvalues_from base a.accepted)
    by_test true = more
    by_test false = refl

module _ {C : Type 0} (base : ℕ) (members : List ℕ) (n : ℕ) (x : NodeState C) where
  -- what its leader did
  abbrev led_sent : Done (Leading C) C → List (Letter C)
  led_sent d = all_to_all members n d.says

  led_state : (whole kept : Done (Leading C) C) → rest_of_done base whole ≡ kept → led (rest_of_node base x) kept ≡ rest_of_node base (led x whole)
  led_state whole kept e = ap (λ d. led (rest_of_node base x) d) (sym e)

  led_told : (whole kept : Done (Leading C) C) → rest_of_done base whole ≡ kept → led_sent kept ≡ rests base (led_sent whole)
  led_told whole kept e = ap led_sent (sym e) ∙ sym (rests_to_all base members n whole.says)

module _ {O Op Reply : Type 0} (rules : Rules O Op Reply) (base : ℕ) (members : List ℕ) (n : ℕ) (x : NodeState (Command Op)) where
  performing_rest : (o : Option (Command Op)) → base ≤ x.replica.slot_out → IsRestOfTurn base (performing rules (rest_of_node base x) o) (performing rules x o)
  performing_rest None h = record { state = refl; sent = refl }
  performing_rest (Some c) h = record {
    state =
        ap (λ b. record (rest_of_node base x) { replica = b }) (sym (rest_advanced base x.replica (is_one rules) h));
    sent = refl;
  }

  proposed_says : (o : Option (ℕ × Command Op)) → ((p : ℕ × Command Op) → o ≡ Some p → base ≤ p.0) → bodies base (proposes_first o) ≡ proposes_first o
  proposed_says None h = refl
  proposed_says (Some p) h = ap (λ b. cons_option (cond b (Some (Propose p.0 p.1)) None) []) (lt_true base p.0 (h p refl))

  pub rest_acted : StandInSlots x.leader → IsPast base x.replica → (d : Deed Op) → IsDoneByRest rules base x d
      → IsRestOfTurn base (acted rules members n (rest_of_node base x) d) (acted rules members n x d)
  rest_acted is past (deeds.Request c) new = record {
    state = ap (λ b. record (rest_of_node base x) { replica = b })
        (sym (rest_requested base x.replica (is_one rules) c ∙ ap
        (λ t. cond t (rest_of_book base x.replica)
        (acted rules members n (rest_of_node base x) (deeds.Request c)).state.replica) new));
    sent = refl;
  }
  rest_acted is past deeds.Wake h = record {
    state = led_state base members n x (woken x.leader) (woken (rest_of_leader base x.leader)) (rest_woken base x.leader);
    sent = led_told base members n x (woken x.leader) (woken (rest_of_leader base x.leader)) (rest_woken base x.leader);
  }
  rest_acted is past deeds.Nudge h = record {
    state = refl;
    sent = sym (
        filter_map-append _ (all_to_all members n (says_again x.leader)) (nudges members n x.replica)
        ∙ ap₂ (λ xs ys. xs ++ ys)
        (rests_to_all base members n (says_again x.leader) ∙ ap (all_to_all members n) (rest_says_again base x.leader is))
        (filter_map-append _ (all_to_all members n (proposes_again x.replica)) (asks_others members n x.replica.slot_out)
        ∙ ap₂ (λ xs ys. xs ++ ys)
        (rests_to_all base members n (proposes_again x.replica) ∙ ap (all_to_all members n) (rest_proposes_again base x.replica past))
        (rest_asks base x.replica members n x.replica.slot_out)));
  }
  rest_acted is past deeds.Propose h = record {
    state = ap (λ b. record (rest_of_node base x) { replica = b }) (sym (rest_proposed_next base x.replica past));
    sent =
        ap (λ o. all_to_all members n (proposes_first o)) (rest_proposal base x.replica past)
        ∙ ap (all_to_all members n) (sym (proposed_says (next_proposal x.replica) (proposal_high base x.replica past)))
        ∙ sym (rests_to_all base members n (proposes_first (next_proposal x.replica)));
  }
  rest_acted is past deeds.Perform h =
      subst (λ o. IsRestOfTurn base (performing rules (rest_of_node base x) o) (performing rules x (next_decided x.replica)))
      (sym (rest_next base x.replica past.out)) (performing_rest (next_decided x.replica) past.out)
  rest_acted is past deeds.Restart h = absurd h

-- one that is left of what is from the base on alone
pub left : {X : Type 0} (base s : ℕ) (x k : X) → if_from base s x ≡ Some k → (k ≡ x) × (base ≤ s)
left {X} base s x k e = by_test (nat_le base s) refl e
  where
    by_test : (b : Bool) → nat_le base s ≡ b → cond b (Some x) None ≡ Some k → (k ≡ x) × (base ≤ s)
    by_test true t f = (cc, grind (arith, nat_tests))
    by_test false t f = absurd (cc)

module _ {C : Type 0} (decide : (p : Pvalue C) (ps : List (Pvalue C)) → In p ps ⊎ (In p ps → ⊥)) (base : ℕ) (members : List ℕ) (m n : ℕ) (x : NodeState C) where
  one_letter : (body : LetterBody C) (rest : LetterBody C) → rest_of_body base body ≡ Some rest → letter n rest m ∷ [] ≡ rests base (letter n body m ∷ [])
  one_letter body rest e = ap (λ o. cons_option (option_map (λ b. letter n b m) o) []) (sym e)

  with_p1a : (b : Numbers) (z : NodeState C) (sent : List (Letter C))
      → Receives members m n (rest_of_node base x) (P1a b) z sent → ReceivesWhole base members m n x (P1a b) z sent
  with_p1a b _ _ (promises_ballot c report is) =
      let w = whole_report base x.acceptor.accepted report is in
      record {
        state = record x { acceptor = after_p1a x.acceptor b };
        letters = letter n (P1b (higher x.acceptor.promised b) w.0) m ∷ [];
        receives = promises_ballot b w.0 w.1;
        rest = refl;
        told = ap (λ ps. letter n (P1b (higher x.acceptor.promised b) ps) m ∷ []) (sym w.2);
      }

  with_p2a : (p : Pvalue C) → base ≤ p.slot → (z : NodeState C) (sent : List (Letter C))
      → Receives members m n (rest_of_node base x) (P2a p) z sent → ReceivesWhole base members m n x (P2a p) z sent
  with_p2a p h _ _ (accepts_pvalue q) = record {
    state = record x { acceptor = after_p2a x.acceptor p };
    letters = letter n (P2b x.acceptor.promised p.slot p.ballot) m ∷ [];
    receives = accepts_pvalue p;
    rest = ap (λ a. record (rest_of_node base x) { acceptor = a }) (sym (rest_p2a base x.acceptor p h));
    told = one_letter (P2b x.acceptor.promised p.slot p.ballot) (P2b x.acceptor.promised p.slot p.ballot)
        (ap (λ b. cond b (Some (P2b x.acceptor.promised p.slot p.ballot)) None) (lt_true base p.slot h));
  }

  with_p1b : (b : Numbers) (report : List (Pvalue C)) (z : NodeState C) (sent : List (Letter C))
      → Receives members m n (rest_of_node base x) (P1b b (pvalues_from base report)) z sent
      → ReceivesWhole base members m n x (P1b b report) z sent
  with_p1b b report _ _ (hears_promise c r part some hears) =
      let w = hears_whole base decide x.leader m b report part some hears in
      let whole = promises.on_p1b x.leader m b w.fresh w.taken in
      let kept = promises.on_p1b (rest_of_leader base x.leader) m b part some in
      record {
        state = led x whole;
        letters = all_to_all members n whole.says;
        receives = hears_promise b report w.fresh w.taken w.hears;
        rest = led_state base members n x whole kept w.done;
        told = led_told base members n x whole kept w.done;
      }

  with_p2b : (o : Option Numbers) (s : ℕ) (by : Numbers) → base ≤ s → (z : NodeState C) (sent : List (Letter C))
      → Receives members m n (rest_of_node base x) (P2b o s by) z sent
      → ReceivesWhole base members m n x (P2b o s by) z sent
  with_p2b o s by h _ _ (hears_vote c t d) =
      let whole = votes.on_p2b x.leader m o s by in
      let kept = votes.on_p2b (rest_of_leader base x.leader) m o s by in
      let e = rest_on_p2b base x.leader m o s by h in
      record {
        state = led x whole;
        letters = all_to_all members n whole.says;
        receives = hears_vote o s by;
        rest = led_state base members n x whole kept e;
        told = led_told base members n x whole kept e;
      }

  with_propose : (s : ℕ) (c : C) → base ≤ s → (z : NodeState C) (sent : List (Letter C))
      → Receives members m n (rest_of_node base x) (Propose s c) z sent
      → ReceivesWhole base members m n x (Propose s c) z sent
  with_propose s c h _ _ (hears_proposal t d) =
      let whole = on_propose x.leader s c in
      let kept = on_propose (rest_of_leader base x.leader) s c in
      let e = rest_on_propose base x.leader s c h in
      record {
        state = led x whole;
        letters = all_to_all members n whole.says;
        receives = hears_proposal s c;
        rest = led_state base members n x whole kept e;
        told = led_told base members n x whole kept e;
      }

  with_decision : (s : ℕ) (c : C) → base ≤ s → (z : NodeState C) (sent : List (Letter C))
      → Receives members m n (rest_of_node base x) (Decision s c) z sent
      → ReceivesWhole base members m n x (Decision s c) z sent
  with_decision s c h _ _ (learns t d) = record {
    state = record x { replica = learnt x.replica s c };
    letters = [];
    receives = learns s c;
    rest = ap (λ b. record (rest_of_node base x) { replica = b }) (sym (rest_learnt base x.replica s c h));
    told = refl;
  }

  with_ask : (s : ℕ) (z : NodeState C) (sent : List (Letter C))
      → Receives members m n (rest_of_node base x) (Ask s) z sent → ReceivesWhole base members m n x (Ask s) z sent
  with_ask s _ _ (tells_decisions t) = record {
    state = x;
    letters = map (λ b. letter n b m) (tells x.replica s);
    receives = tells_decisions s;
    rest = refl;
    told = ap (map (λ b. letter n b m)) (sym (rest_tells base x.replica s)) ∙ sym (rests_to_one base n m (tells x.replica s));
  }

  some_is : (b k : LetterBody C) → Some b ≡ Some k → b ≡ k
  some_is b k e = cc

  -- the rest of a letter was received: the letter may be received, and brings what this is the rest of
  pub rest_receives : (body kept : LetterBody C) → rest_of_body base body ≡ Some kept
      → (z : NodeState C) (sent : List (Letter C)) → Receives members m n (rest_of_node base x) kept z sent
      → ReceivesWhole base members m n x body z sent
  rest_receives (P1a b) kept e z sent r = with_p1a b z sent (subst (λ k. Receives members m n (rest_of_node base x) k z sent) (sym (some_is _ _ e)) r)
  rest_receives (P1b b report) kept e z sent r =
      with_p1b b report z sent (subst (λ k. Receives members m n (rest_of_node base x) k z sent)
      (sym (some_is _ _ e)) r)
  rest_receives (P2a p) kept e z sent r = let l =
      left base p.slot (P2a p) kept e in with_p2a p l.1 z sent
      (subst (λ k. Receives members m n (rest_of_node base x) k z sent) l.0 r)
  rest_receives (P2b o s by) kept e z sent r = let l =
      left base s (P2b o s by) kept e in with_p2b o s by l.1 z sent
      (subst (λ k. Receives members m n (rest_of_node base x) k z sent) l.0 r)
  rest_receives (Propose s c) kept e z sent r = let l =
      left base s (Propose s c) kept e in with_propose s c l.1 z sent
      (subst (λ k. Receives members m n (rest_of_node base x) k z sent) l.0 r)
  rest_receives (Decision s c) kept e z sent r = let l =
      left base s (Decision s c) kept e in with_decision s c l.1 z sent
      (subst (λ k. Receives members m n (rest_of_node base x) k z sent) l.0 r)
  rest_receives (Ask s) kept e z sent r = with_ask s z sent (subst (λ k. Receives members m n (rest_of_node base x) k z sent) (sym (some_is _ _ e)) r)

-- what is left of a letter may be received where the letter may
module _ {C : Type 0} (base : ℕ) (x : NodeState C) where
  fit_left : (body kept : LetterBody C) → kept ≡ body → IsFit (rest_of_node base x) body → IsFit (rest_of_node base x) kept
  fit_left body kept same h = subst (IsFit (rest_of_node base x)) (sym same) h

  same_left : (b k : LetterBody C) → Some b ≡ Some k → k ≡ b
  same_left b k e = cc

  pub rest_fit : (body kept : LetterBody C) → rest_of_body base body ≡ Some kept → IsFit x body → IsFit (rest_of_node base x) kept
  rest_fit (P1a b) kept e h = fit_left (P1a b) kept (same_left _ _ e) tt
  rest_fit (P1b b report) kept e h = fit_left (P1b b (pvalues_from base report)) kept (same_left _ _ e) h
  rest_fit (P2a p) kept e h = fit_left (P2a p) kept (left base p.slot (P2a p) kept e).0 tt
  rest_fit (P2b o s by) kept e h = fit_left (P2b o s by) kept (left base s (P2b o s by) kept e).0 h
  rest_fit (Propose s c) kept e h = fit_left (Propose s c) kept (left base s (Propose s c) kept e).0 tt
  rest_fit (Decision s c) kept e h =
      let l = left base s (Decision s c) kept e in
      fit_left (Decision s c) kept l.0 (λ d f. h d (sym (get_high base x.replica.decisions s l.1) ∙ f))
  rest_fit (Ask s) kept e h = fit_left (Ask s) kept (same_left _ _ e) tt
