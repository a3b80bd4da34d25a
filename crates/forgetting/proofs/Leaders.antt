-- The rest of a leader.
use Rattle.std.proofs.Common.{◌≤◌, ◌≡◌, ℕ, Bool, true, false, cond, not, List, [], ◌∷◌, ◌++◌, map, Some, None, Option, refl, sym, ap, ap₂, ◌∙◌}
use Rattle.std.specs.Prelude.{nat_le, ◌&&◌, is_some, is_none, option_map}
use Rattle.std.specs.FinMap.{get, contains_key, insert, entries}
use Rattle.std.specs.List.{cons_option}
use Rattle.std.proofs.lemmas.List.Elements.{filter-append, filter_map-append}
use Rattle.object.specs.ListLaws.{Each, Each-all, Each-weaker}
use Rattle.ballot.specs.Ballots.{Numbers, is_below, is_same, next_after}
use Rattle.ballot.specs.Members.{is_member, add, is_majority}
use Rattle.ballot.specs.Slots.{Slots}
use Rattle.ballot.specs.declared.pvalue.Pvalue.{Pvalue}
use Rattle.ballot.specs.declared.letter.LetterBody.{LetterBody}
use Rattle.ballot.specs.declared.letter.LetterBody.TheVariants.{P1a, P2a, Decision}
use Rattle.scout_commander.specs.Scouts.{Scouting, Hearing, new_scout}
use Rattle.scout_commander.specs.Scouts as scouts
use Rattle.scout_commander.specs.Commanders.{Commanding, Voting, new_commander}
use Rattle.scout_commander.specs.Commanders as commanders
use Rattle.scout_commander.specs.declared.commander.Voted.{Voted}
use Rattle.scout_commander.specs.declared.commander.Voted.TheVariants as voted
use Rattle.scout_commander.specs.declared.scout.Heard.{Heard}
use Rattle.scout_commander.specs.declared.scout.Heard.TheVariants as heard
use Rattle.leader.specs.Leaders.{Leading, silently, pvalue, commands, on_propose, preempted, woken, scout_says, says_again}
use Rattle.leader.specs.Adoptions.{adopted}
use Rattle.leader.specs.Promises as promises
use Rattle.leader.specs.Promises.{at_heard, at_scout}
use Rattle.leader.specs.Votes as votes
use Rattle.leader.specs.Votes.{at_voted, at_commander, answers_another}
use Rattle.node.specs.SlotLaws.{entries_get}
use Rattle.ballot.specs.Rests.{kept_from, if_from, pvalues_from, rest_of_body}
use Rattle.scout_commander.specs.Rests.{rest_of_scout}
use Rattle.leader.specs.Rests.{StandInSlots, rest_of_leader, rest_of_done}
use Rattle.ballot.proofs.Rests.{lt_true, get_high, above_insert, above_remove, above_empty, above_each, entries_above}
use Rattle.forgetting.proofs.Letters.{bodies, said_each}

-- what is made of a choice
pub under : {A B : Type 0} (f : A → B) (b : Bool) (x y : A) (v w : B) → f x ≡ v → f y ≡ w → f (cond b x y) ≡ cond b v w
under f true x y v w g h = g
under f false x y v w g h = h

module _ {C : Type 0} (base : ℕ) where
  one_high : (s : ℕ) (b : LetterBody C) → base ≤ s → cons_option (if_from base s b) [] ≡ b ∷ []
  one_high s b h = ap (λ t. cons_option (cond t (Some b) None) []) (lt_true base s h)

  module _ (l : Leading C) where
    -- a proposal
    rest_commands : (s : ℕ) (c : C) → base ≤ s → rest_of_done base (commands l s c) ≡ commands (rest_of_leader base l) s c
    rest_commands s c h =
        let p = pvalue l.ballot s c in
        let says = one_high s (P2a p) h in
        let proposals = above_insert base l.proposals s c h in
        let commanders = above_insert base l.commanders s (new_commander l.members p) h in
        λ i. record { state = record (rest_of_leader base l) { proposals = proposals i; commanders = commanders i }; says = says i }

    pub rest_on_propose : (s : ℕ) (c : C) → base ≤ s → rest_of_done base (on_propose l s c) ≡ on_propose (rest_of_leader base l) s c
    rest_on_propose s c h =
        under (rest_of_done base) (contains_key l.proposals s) _ _ (silently (rest_of_leader base l)) _ refl
        (under (rest_of_done base) l.active _ _ (commands (rest_of_leader base l) s c)
        (silently (record (rest_of_leader base l) { proposals = insert (kept_from base l.proposals) s c }))
        (rest_commands s c h)
        (ap (λ m. silently (record (rest_of_leader base l) { proposals = m })) (above_insert base l.proposals s c h)))
        ∙ ap (λ (o : Option C). cond (is_some o) (silently (rest_of_leader base l))
        (cond l.active (commands (rest_of_leader base l) s c)
        (silently (record (rest_of_leader base l) { proposals = insert (kept_from base l.proposals) s c }))))
        (sym (get_high base l.proposals s h))

    -- a greater ballot
    pub rest_preempted : (b : Numbers) → rest_of_leader base (preempted l b) ≡ preempted (rest_of_leader base l) b
    rest_preempted b =
        let none = above_empty {X = C} base in
        let nobody = above_empty {X = Commanding C} base in
        under (rest_of_leader base) (is_below l.ballot b) _ l _ (rest_of_leader base l)
        (ap (λ m. record (rest_of_leader base l) { ballot = next_after b l.ballot.node l.ballot.boot; active = false; scout = None; commanders = m }) nobody)
        refl

    -- Wake
    same_none : (o : Option (Scouting C)) → is_none o ≡ is_none (option_map (rest_of_scout base) o)
    same_none None = refl
    same_none (Some s) = refl

    pub rest_woken : rest_of_done base (woken l) ≡ woken (rest_of_leader base l)
    rest_woken =
        under (rest_of_done base) (not l.active && is_none l.scout) _ _
        (record {
          state = record (rest_of_leader base l) { scout = Some (new_scout l.members l.ballot) };
          says =
              P1a l.ballot ∷ [];
        }) (silently (rest_of_leader base l)) refl refl
        ∙ ap (λ b. cond (not l.active && b)
        (record {
          state = record (rest_of_leader base l) { scout = Some (new_scout l.members l.ballot) };
          says =
              P1a l.ballot ∷ [];
        }) (silently (rest_of_leader base l))) (same_none l.scout)

    -- Nudge
    scout_again : (o : Option (Scouting C)) → bodies base (scout_says o) ≡ scout_says (option_map (rest_of_scout base) o)
    scout_again None = refl
    scout_again (Some s) = refl

    commander_again : StandInSlots l
        → Each (λ (e : ℕ × Commanding C). rest_of_body base (P2a e.1.pvalue)
        ≡ cond (nat_le base e.0) (Some (P2a e.1.pvalue)) None) (entries l.commanders)
    commander_again is = Each-weaker _ _ (λ e f. ap (λ s. if_from base s (P2a e.1.pvalue)) (is e.0 e.1 f)) (entries l.commanders) (entries_get l.commanders)

    pub rest_says_again : StandInSlots l → bodies base (says_again l) ≡ says_again (rest_of_leader base l)
    rest_says_again is =
        filter_map-append (rest_of_body base) (scout_says l.scout) (map (λ e. P2a e.1.pvalue) (entries l.commanders))
        ∙ ap₂ (λ bs cs. bs ++ cs) (scout_again l.scout)
        (said_each base (λ (e : ℕ × Commanding C). P2a e.1.pvalue) (entries l.commanders) (commander_again is)
        ∙ ap (map (λ (e : ℕ × Commanding C). P2a e.1.pvalue)) (sym (entries_above base l.commanders)))

    -- a vote
    rest_at_voted : (s : ℕ) (c : Commanding C) (v : Voted) → base ≤ s → rest_of_done base (at_voted l s c v) ≡ at_voted (rest_of_leader base l) s c v
    rest_at_voted s c voted.Wait h = ap (λ m. silently (record (rest_of_leader base l) { commanders = m })) (above_insert base l.commanders s c h)
    rest_at_voted s c voted.Decided h =
        let says = one_high s (Decision s c.pvalue.value) h in
        let commanders = above_remove base l.commanders s in
        λ i. record { state = record (rest_of_leader base l) { commanders = commanders i }; says = says i }
    rest_at_voted s c (voted.Preempted b) h = ap silently (rest_preempted b)

    rest_at_commander : (m : ℕ) (b : Option Numbers) (s : ℕ) (o : Option (Commanding C)) → base ≤ s
        → rest_of_done base (at_commander l m b s o) ≡ at_commander (rest_of_leader base l) m b s o
    rest_at_commander m b s None h = refl
    rest_at_commander m b s (Some c) h = rest_at_voted s (commanders.on_p2b c m b).commander (commanders.on_p2b c m b).says h

    pub rest_on_p2b : (m : ℕ) (b : Option Numbers) (s : ℕ) (asked : Numbers) → base ≤ s
        → rest_of_done base (votes.on_p2b l m b s asked) ≡ votes.on_p2b (rest_of_leader base l) m b s asked
    rest_on_p2b m b s asked h =
        under (rest_of_done base) (answers_another l b asked) _ _ (silently (rest_of_leader base l)) _ refl (rest_at_commander m b s (get l.commanders s) h)
        ∙ ap (λ o. cond (answers_another l b asked) (silently (rest_of_leader base l))
        (at_commander (rest_of_leader base l) m b s o)) (sym (get_high base l.commanders s h))

    -- a promise
    rest_adopted : (proposals : Slots C) → rest_of_done base (adopted l proposals) ≡ adopted (rest_of_leader base l) (kept_from base proposals)
    rest_adopted proposals =
        let cs = above_each (λ s c. new_commander l.members (pvalue l.ballot s c)) base proposals in
        let says = said_each base (λ (e : ℕ × C). P2a (pvalue l.ballot e.0 e.1)) (entries proposals) (Each-all _ _ (λ e. refl))
        ∙ ap (map (λ (e : ℕ × C). P2a (pvalue l.ballot e.0 e.1))) (sym (entries_above base proposals)) in
        λ i. record {
          state = record (rest_of_leader base l) {
            active = true;
            proposals =
                kept_from base proposals;
            scout = None;
            commanders = cs i;
          };
          says = says i;
        }

    rest_at_heard : (proposals : Slots C) (s : Scouting C) (h : Heard)
        → rest_of_done base (at_heard l proposals s h)
        ≡ at_heard (rest_of_leader base l) (kept_from base proposals) (rest_of_scout base s) h
    rest_at_heard proposals s heard.Wait = refl
    rest_at_heard proposals s heard.Adopted = rest_adopted proposals
    rest_at_heard proposals s (heard.Preempted b) = ap silently (rest_preempted b)

    abbrev rest_of_hearing : Hearing C → Hearing C
    rest_of_hearing h = record { scout = rest_of_scout base h.scout; says = h.says }

    pub rest_scout : (s : Scouting C) (m : ℕ) (b : Numbers) (fresh : List (Pvalue C))
        → rest_of_hearing (scouts.on_p1b s m b fresh)
        ≡ scouts.on_p1b (rest_of_scout base s) m b (pvalues_from base fresh)
    rest_scout s m b fresh =
        under rest_of_hearing (is_member s.members m) _ _ _ (scouts.unmoved (rest_of_scout base s) heard.Wait)
        (under rest_of_hearing (is_same b s.ballot) _ _ (scouts.gathers (rest_of_scout base s) m (pvalues_from base fresh)) _
        (ap (λ ps. record {
          scout = record s { heard = add s.heard m; gathered = ps };
          says =
              cond (is_majority s.members (add s.heard m)) heard.Adopted heard.Wait;
        })
        (filter-append (λ p. nat_le base p.slot) s.gathered fresh))
        (under rest_of_hearing (is_below s.ballot b) _ _ (scouts.unmoved (rest_of_scout base s) (heard.Preempted b))
        (scouts.unmoved (rest_of_scout base s) heard.Wait) refl refl))
        refl

    rest_at_scout : (m : ℕ) (b : Numbers) (fresh : List (Pvalue C)) (proposals : Slots C) (o : Option (Scouting C))
        → rest_of_done base (at_scout l m b fresh proposals o)
        ≡ at_scout (rest_of_leader base l) m b (pvalues_from base fresh) (kept_from base proposals)
        (option_map (rest_of_scout base) o)
    rest_at_scout m b fresh proposals None = refl
    rest_at_scout m b fresh proposals (Some s) =
        rest_at_heard proposals (scouts.on_p1b s m b fresh).scout (scouts.on_p1b s m b fresh).says
        ∙ ap (λ h. at_heard (rest_of_leader base l) (kept_from base proposals) h.scout h.says) (rest_scout s m b fresh)

    pub rest_on_p1b : (m : ℕ) (b : Numbers) (fresh : List (Pvalue C)) (proposals : Slots C)
        → rest_of_done base (promises.on_p1b l m b fresh proposals)
        ≡ promises.on_p1b (rest_of_leader base l) m b (pvalues_from base fresh) (kept_from base proposals)
    rest_on_p1b m b fresh proposals = rest_at_scout m b fresh proposals l.scout
