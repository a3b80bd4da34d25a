-- What a leader may make of a promise, from what its rest made of the rest of it.
use Rattle.std.proofs.Common.{◌≡◌, ◌⊎◌, inl, inr, ⊎_elim, ℕ, Bool, true, false, true≢false, cond, not, List, [], ◌∷◌}
use Rattle.std.proofs.Common.{◌++◌, filter, Some, None, Option, refl, sym, ap, ap₂, ◌∙◌, subst, arith}
use Rattle.std.specs.Prelude.{nat_le, ◌&&◌, option_map}
use Rattle.std.proofs.lemmas.Bool.Decides.{nat_tests}
use Rattle.std.specs.Option.{option_or}
use Rattle.std.specs.Ordering.{nat_cmp, eq_by_cmp}
use Rattle.std.specs.Cmp.{nat_cmp_total}
use Rattle.std.specs.FinMap.{get, empty, entries, find, from_entries, get-entries, get-from_entries}
use Rattle.object.specs.Lists.{In}
use Rattle.ballot.specs.Slots.{Slots}
use Rattle.ballot.specs.Ballots.{Numbers, is_below, is_same}
use Rattle.ballot.specs.Members.{is_member}
use Rattle.ballot.specs.declared.pvalue.Pvalue.{Pvalue}
use Rattle.leader.specs.Leaders.{Leading}
use Rattle.leader.specs.Adoptions.{IsGreatest, IsOpen, TakesGreatest, adopted}
use Rattle.leader.specs.Greatest.{all_raised, all_taken}
use Rattle.leader.specs.Promises.{Hears, AllowsAt, at_heard, at_scout, on_p1b}
use Rattle.leader.proofs.GreatestValues.{takes}
use Rattle.scout_commander.specs.Scouts.{Scouting, Hearing, IsPromising, TakesFresh}
use Rattle.scout_commander.specs.Scouts as scouts
use Rattle.scout_commander.specs.declared.scout.Heard.{Heard}
use Rattle.scout_commander.specs.declared.scout.Heard.TheVariants as heard
use Rattle.ballot.specs.Rests.{kept_from, pvalues_from}
use Rattle.scout_commander.specs.Rests.{rest_of_scout}
use Rattle.leader.specs.Rests.{rest_of_leader, rest_of_done}
use Rattle.ballot.proofs.SlotMaps.{same_slots}
use Rattle.ballot.proofs.Rests.{get_above, find_filter}
use Rattle.forgetting.proofs.Parts.{test_cases, above_In, In_above, whole_fresh}
use Rattle.forgetting.proofs.Leaders.{rest_scout, rest_on_p1b}

find_both : {X : Type 0} (q : ℕ) (xs ys : List (ℕ × X)) → find nat_cmp q (xs ++ ys) ≡ option_or (find nat_cmp q xs) (find nat_cmp q ys)
find_both q [] ys = refl
find_both {X} q (x ∷ xs) ys =
    elim (eq_by_cmp nat_cmp q x.0) as (λ b. cond b (Some x.1) (find nat_cmp q (xs ++ ys))
    ≡ option_or (cond b (Some x.1) (find nat_cmp q xs)) (find nat_cmp q ys)) [
      | true ↦ refl
      | false ↦ find_both q xs ys
    ]

-- the entries of two lists, those of the first before the second's
get_both : {X : Type 0} (xs ys : List (ℕ × X)) (q : ℕ) → get (from_entries {R = nat_cmp} (xs ++ ys)) q ≡ option_or (find nat_cmp q xs) (find nat_cmp q ys)
get_both xs ys q = get-from_entries nat_cmp_total (xs ++ ys) q ∙ find_both q xs ys

module _ {C : Type 0} (base : ℕ) where
  -- the greatest that any leader can take
  some_taken : (old : Slots C) (ps : List (Pvalue C)) → (new : Slots C) × TakesGreatest old ps new
  some_taken old ps =
      let t : Slots C = all_taken (all_raised empty ps) empty ps in
      let new : Slots C = from_entries (entries t ++ entries old) in
      (new, takes old new ps (λ s. get_both (entries t) (entries old) s ∙ ap₂ option_or (sym (get-entries t s)) (sym (get-entries old s))))

  module _ (old : Slots C) (ps : List (Pvalue C)) (taken : Slots C) (is : TakesGreatest (kept_from base old) (pvalues_from base ps) taken) where
    abbrev any : Slots C
    any = (some_taken old ps).0

    abbrev whole : Slots C
    whole = from_entries (entries taken ++ filter (λ e. not (nat_le base e.0)) (entries any))

    whole_at : (s : ℕ) → get whole s ≡ option_or (get taken s) (cond (not (nat_le base s)) (get any s) None)
    whole_at s =
        get_both (entries taken) (filter (λ e. not (nat_le base e.0)) (entries any)) s
        ∙ ap₂ option_or (sym (get-entries taken s))
        (find_filter (λ s. not (nat_le base s)) s (entries any) ∙ ap (λ o. cond (not (nat_le base s)) o None)
        (sym (get-entries any s)))

    or_none : (o : Option C) → option_or o None ≡ o
    or_none None = refl
    or_none (Some c) = refl

    whole_high : (s : ℕ) → nat_le base s ≡ true → get whole s ≡ get taken s
    whole_high s h = whole_at s ∙ ap (λ b. option_or (get taken s) (cond (not b) (get any s) None)) h ∙ or_none (get taken s)

    old_high : (s : ℕ) → nat_le base s ≡ true → get (kept_from base old) s ≡ get old s
    old_high s h = get_above base old s ∙ ap (λ b. cond b (get old s) None) h

    taken_low : (s : ℕ) → nat_le base s ≡ false → get taken s ≡ None
    taken_low s l = ⊎_elim
        (λ (x : IsOpen (pvalues_from base ps) s × (get taken s ≡ get (kept_from base old) s)). x.1 ∙ get_above base old s ∙ ap (λ b. cond b (get old s) None) l)
        (λ (x : (p : Pvalue C) × IsGreatest (pvalues_from base ps) s p × (get taken s ≡ Some p.value)). absurd
        (true≢false (sym (above_In base x.0 ps x.1.within).1 ∙ ap (nat_le base) x.1.slot ∙ l)))
        (is s)

    whole_low : (s : ℕ) → nat_le base s ≡ false → get whole s ≡ get any s
    whole_low s l = whole_at s ∙ ap₂ (λ o b. option_or o (cond (not b) (get any s) None)) (taken_low s l) l

    high_of : (p : Pvalue C) (s : ℕ) → nat_le base s ≡ true → In p ps → p.slot ≡ s → In p (pvalues_from base ps)
    high_of p s h i e = In_above base p ps (ap (nat_le base) e ∙ h) i

    takes_whole : TakesGreatest old ps whole
    takes_whole s = ⊎_elim
        (λ (h : nat_le base s ≡ true). ⊎_elim
        (λ (x : IsOpen (pvalues_from base ps) s × (get taken s ≡ get (kept_from base old) s)). inl
        (λ q i e. x.0 q (high_of q s h i e) e, whole_high s h ∙ x.1 ∙ old_high s h))
        (λ (x : (p : Pvalue C) × IsGreatest (pvalues_from base ps) s p × (get taken s ≡ Some p.value)). inr (
          x.0,
          record { within = (above_In base x.0 ps x.1.within).0; slot = x.1.slot; greatest = λ q i e. x.1.greatest q (high_of q s h i e) e },
          whole_high s h ∙ x.2,
        ))
        (is s))
        (λ (l : nat_le base s ≡ false). ⊎_elim
        (λ (x : IsOpen ps s × (get any s ≡ get old s)). inl (x.0, whole_low s l ∙ x.1))
        (λ (x : (p : Pvalue C) × IsGreatest ps s p × (get any s ≡ Some p.value)). inr (x.0, x.1, whole_low s l ∙ x.2))
        ((some_taken old ps).1 s))
        (test_cases (nat_le base s))

    whole_rest : kept_from base whole ≡ taken
    whole_rest = same_slots (kept_from base whole) taken (λ s. get_above base whole s ∙ ⊎_elim
        (λ (h : nat_le base s ≡ true). ap (λ b. cond b (get whole s) None) h ∙ whole_high s h)
        (λ (l : nat_le base s ≡ false). ap (λ b. cond b (get whole s) None) l ∙ sym (taken_low s l))
        (test_cases (nat_le base s)))

  module _ (decide : (p : Pvalue C) (ps : List (Pvalue C)) → In p ps ⊎ (In p ps → ⊥)) (l : Leading C) (m : ℕ) (b : Numbers) (report : List (Pvalue C)) where
    -- a leader that hears the whole of what its rest heard
    pub record HearsWhole (part : List (Pvalue C)) (some : Slots C) : Type 0 where
      pub fresh : List (Pvalue C)
      pub taken : Slots C
      pub hears : Hears l m b report fresh taken
      pub done : rest_of_done base (on_p1b l m b fresh taken) ≡ on_p1b (rest_of_leader base l) m b part some

    -- with the scout that stands
    pub record ScoutHears (s : Scouting C) (part : List (Pvalue C)) : Type 0 where
      pub fresh : List (Pvalue C)
      pub takes : TakesFresh s m b report fresh
      pub same : scouts.on_p1b (rest_of_scout base s) m b (pvalues_from base fresh) ≡ scouts.on_p1b (rest_of_scout base s) m b part

    same_ballot : (a : Numbers) → is_same a a ≡ true
    same_ballot a = grind (arith, nat_tests)

    ballots_same : (a c : Numbers) → is_same a c ≡ true → a ≡ c
    ballots_same a c h = grind (arith, nat_tests)

    abbrev by_ballot : Scouting C → Bool → List (Pvalue C) → Hearing C
    by_ballot s t xs =
        cond (is_member s.members m)
        (cond t (scouts.gathers s m xs) (cond (is_below s.ballot b) (scouts.unmoved s (heard.Preempted b)) (scouts.unmoved s heard.Wait)))
        (scouts.unmoved s heard.Wait)

    abbrev by_member : Scouting C → Bool → List (Pvalue C) → Hearing C
    by_member s t xs =
        cond t
        (cond (is_same b s.ballot) (scouts.gathers s m xs) (cond (is_below s.ballot b) (scouts.unmoved s (heard.Preempted b)) (scouts.unmoved s heard.Wait)))
        (scouts.unmoved s heard.Wait)

    -- a promise of another ballot, or of no member
    unmoved_by : (s : Scouting C) (member same : Bool) → is_member s.members m ≡ member → is_same b s.ballot ≡ same
        → member && same ≡ false → (xs ys : List (Pvalue C)) → scouts.on_p1b s m b xs ≡ scouts.on_p1b s m b ys
    unmoved_by s true true e f g xs ys = absurd (true≢false g)
    unmoved_by s true false e f g xs ys = ap (λ t. by_ballot s t xs) f ∙ sym (ap (λ t. by_ballot s t ys) f)
    unmoved_by s false same e f g xs ys = ap (λ t. by_member s t xs) e ∙ sym (ap (λ t. by_member s t ys) e)

    promised : (s : Scouting C) (part : List (Pvalue C)) → is_member s.members m ≡ true → is_same b s.ballot ≡ true
        → TakesFresh (rest_of_scout base s) m b (pvalues_from base report) part → ScoutHears s part
    promised s part e f takes =
        let w = whole_fresh base decide s.gathered report part (takes (record { member = e; same = ballots_same b s.ballot f })) in
        record { fresh = w.0; takes = λ p. w.1; same = ap (scouts.on_p1b (rest_of_scout base s) m b) w.2 }

    scout_hears : (s : Scouting C) (part : List (Pvalue C)) → TakesFresh (rest_of_scout base s) m b (pvalues_from base report) part → ScoutHears s part
    scout_hears s part takes = by_tests (is_member s.members m) (is_same b s.ballot) refl refl
      where
        unheard : (member same : Bool) → is_member s.members m ≡ member → is_same b s.ballot ≡ same → member && same ≡ false → ScoutHears s part
        unheard member same e f g = record {
          fresh = [];
          takes = λ p. absurd (true≢false
              (sym (ap₂ (λ x y. x && y) (sym e ∙ p.member)
              (sym f ∙ ap (λ z. is_same z s.ballot) p.same ∙ same_ballot s.ballot)) ∙ g));
          same = unmoved_by (rest_of_scout base s) member same e f g (pvalues_from base []) part;
        }

        by_tests : (member same : Bool) → is_member s.members m ≡ member → is_same b s.ballot ≡ same → ScoutHears s part
        by_tests true true e f = promised s part e f takes
        by_tests true false e f = unheard true false e f refl
        by_tests false same e f = unheard false same e f refl

    -- by what the scout says
    pub record TakesWhole (s : Scouting C) (says : Heard) (some : Slots C) : Type 0 where
      pub taken : Slots C
      pub allows : AllowsAt l.proposals s says taken
      pub done : at_heard (rest_of_leader base l) (kept_from base taken) (rest_of_scout base s) says
          ≡ at_heard (rest_of_leader base l) some (rest_of_scout base s) says

    takes_whole_at : (s : Scouting C) (says : Heard) (some : Slots C)
        → AllowsAt (kept_from base l.proposals) (rest_of_scout base s) says some → TakesWhole s says some
    takes_whole_at s heard.Wait some allows = record { taken = empty; allows = tt; done = refl }
    takes_whole_at s heard.Adopted some allows = record {
      taken = whole l.proposals s.gathered some allows;
      allows = takes_whole l.proposals s.gathered some allows;
      done = ap (adopted (rest_of_leader base l)) (whole_rest l.proposals s.gathered some allows);
    }
    takes_whole_at s (heard.Preempted c) some allows = record { taken = empty; allows = tt; done = refl }

    no_scout : {P : Type 0} (s : Scouting C) → l.scout ≡ None → l.scout ≡ Some s → P
    no_scout s e f = absurd (cc)

    one_scout : (s t : Scouting C) → l.scout ≡ Some s → l.scout ≡ Some t → s ≡ t
    one_scout s t e f = cc

    by_scout : (part : List (Pvalue C)) (some : Slots C)
        → Hears (rest_of_leader base l) m b (pvalues_from base report) part some → (o : Option (Scouting C))
        → l.scout ≡ o → HearsWhole part some
    by_scout part some h None e = record {
      fresh = [];
      taken = empty;
      hears = record { gathers = λ s f. no_scout s e f; takes = λ s f. no_scout s e f };
      done =
          rest_on_p1b base l m b [] empty
          ∙ ap (λ o. at_scout (rest_of_leader base l) m b [] (kept_from base empty) (option_map (rest_of_scout base) o)) e
          ∙ sym (ap (λ o. at_scout (rest_of_leader base l) m b part some (option_map (rest_of_scout base) o)) e);
    }
    by_scout part some h (Some s) e =
        let stands = ap (option_map (rest_of_scout base)) e in
        let sh = scout_hears s part (h.gathers (rest_of_scout base s) stands) in
        let H = scouts.on_p1b s m b sh.fresh in
        let both = rest_scout base l s m b sh.fresh ∙ sh.same in
        let tw = takes_whole_at H.scout H.says some
        (subst (λ (k : Hearing C). AllowsAt (kept_from base l.proposals) k.scout k.says some) (sym both)
        (h.takes (rest_of_scout base s) stands)) in
        record {
          fresh = sh.fresh;
          taken = tw.taken;
          hears = record {
            gathers = λ t f. subst (λ z. TakesFresh z m b report sh.fresh) (one_scout s t e f) sh.takes;
            takes = λ t f. subst (λ z. AllowsAt l.proposals (scouts.on_p1b z m b sh.fresh).scout
                (scouts.on_p1b z m b sh.fresh).says tw.taken) (one_scout s t e f) tw.allows;
          };
          done =
              rest_on_p1b base l m b sh.fresh tw.taken
              ∙ ap (λ o. at_scout (rest_of_leader base l) m b (pvalues_from base sh.fresh) (kept_from base tw.taken) (option_map (rest_of_scout base) o)) e
              ∙ ap (λ (k : Hearing C). at_heard (rest_of_leader base l) (kept_from base tw.taken) k.scout k.says) (sym (rest_scout base l s m b sh.fresh))
              ∙ tw.done
              ∙ ap (λ (k : Hearing C). at_heard (rest_of_leader base l) some k.scout k.says) both
              ∙ sym (ap (λ o. at_scout (rest_of_leader base l) m b part some (option_map (rest_of_scout base) o)) e);
        }

    pub hears_whole : (part : List (Pvalue C)) (some : Slots C) → Hears (rest_of_leader base l) m b (pvalues_from base report) part some → HearsWhole part some
    hears_whole part some h = by_scout part some h l.scout refl
