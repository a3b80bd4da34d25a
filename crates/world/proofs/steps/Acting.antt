-- What a node does by itself, as an event of its world.
use Rattle.std.proofs.Common.{◌≡◌, ℕ, zero, suc, ◌-◌, ◌+◌, ◌<◌, ◌≤◌, ◌^◌, Bool, true, false, cond, List, []}
use Rattle.std.proofs.Common.{◌∷◌, ◌++◌, length, append-nil, Option, Some, None, refl, sym, ap, ap₂, ◌∙◌, subst, arith}
use Rattle.std.specs.Prelude.{slice_index_or, slice_set, is_some, Result, Ok, Err, IsOk, OnOk, OnErr}
use Rattle.std.proofs.lemmas.Bool.{false≢true}
use Rattle.std.specs.Option.{option_to_list}
use Rattle.object.specs.declared.command.Answer.{Answer}
use Rattle.object.specs.declared.command.Command.{Command}
use Rattle.object.specs.declared.command.Key.{Key}
use Rattle.object.specs.declared.command.Submission.{Submission}
use Rattle.object.specs.Happenings.{Happenings, is_submitted}
use Rattle.object.specs.Objects.{Rules}
use Rattle.ballot.specs.BallotLaws.{BallotLaws}
use Rattle.ballot.specs.declared.letter.Letter.{Letter}
use Rattle.slot_log.specs.Decisions.{next_decided}
use Rattle.slot_log.specs.Proposals.{next_proposal}
use Rattle.node.specs.Nodes.{NodeState, members_of, number_of, node_in, put}
use Rattle.node.specs.Deeds.{acted, own_turn, performing, performs, done_if, outcome_of, IsAble, ComesToNothing}
use Rattle.node.specs.declared.deed.Deed.{Deed}
use Rattle.node.specs.declared.deed.Deed.TheVariants as deeds
use Rattle.node.specs.declared.deed.Outcome.{Outcome}
use Rattle.agreement.specs.Nodes.{Cluster, node, turned}
use Rattle.agreement.specs.Worlds.{World}
use Rattle.agreement.specs.Events.{event_of, is_at_member}
use Rattle.agreement.specs.Steps.{Step, submit, wake, nudge, propose, perform, restart, AsksForItsOwn, counted, after_performing}
use Rattle.ballot.specs.Members.{is_member}
use Rattle.world.specs.Refusals.{IsAllowed}
use Rattle.agreement.specs.Runs.{most_events}
use Rattle.agreement.specs.Showing.{HasNode}
use Rattle.node.specs.Outcomes.{reach_after}
use Rattle.world.specs.Kept.{HasNoted, IsNoted, submission_by, key_past, is_performance}
use Rattle.agreement.proofs.every.Events.{next_world, has_node, boots}
use Rattle.world.proofs.steps.Events.{own_event}
use Rattle.world.proofs.steps.Idle.{no_submission, no_performance, noted_where}
use Rattle.world.proofs.steps.Noted.{noted_stays, performs_noted}
use Rattle.node.specs.PlaceLaws.{node_at, put_at}
use Rattle.agreement.proofs.chosen.Reach.{reachable_sound, step_sound}
use Rattle.agreement.proofs.chosen.Sets.{member_bounds}
use Rattle.agreement.proofs.answered.Told.{reachable_within_reach}

pub set_own : {A : Type 0} (xs : List A) (i : ℕ) (d : A) → slice_set xs i (slice_index_or xs i d) ≡ xs
set_own [] i d = refl
set_own (x ∷ xs) zero d = refl
set_own (x ∷ xs) (suc i) d = ap (λ ys. x ∷ ys) (set_own xs i d)

put_own : {C : Type 0} (members : List ℕ) (nodes : List (NodeState C)) (n : ℕ) → put nodes n (node_in members nodes n) ≡ nodes
put_own members nodes zero = refl
put_own members nodes (suc i) = set_own nodes i _

-- a node that stays as it is, and sends nothing
turned_not : {C : Type 0} (k : Cluster C) (n : ℕ) → turned k n (node k n) [] ≡ k
turned_not k n = λ i. record { members = k.members; nodes = put_own k.members k.nodes n i; letters = append-nil k.letters i }

nothing_more : {Op Reply : Type 0} (h : Happenings Op Reply) → record { submitted = h.submitted ++ []; answers = h.answers ++ [] } ≡ h
nothing_more h = λ i. record { submitted = append-nil h.submitted i; answers = append-nil h.answers i }

-- a submission, where its key is new
submitted_if : {Op Reply : Type 0} (h : Happenings Op Reply) (x : Submission Op) (test : Bool)
    → cond test h (record h { submitted = h.submitted ++ (x ∷ []) })
    ≡ record { submitted = h.submitted ++ option_to_list (cond test None (Some x)); answers = h.answers ++ [] }
submitted_if h x true = sym (nothing_more h)
submitted_if h x false = λ i. record { submitted = h.submitted ++ (x ∷ []); answers = sym (append-nil h.answers) i }

same_reach : {X : Type 0} (reach : ℕ) (o : Option X) → reach_after reach (done_if o) ≡ reach
same_reach reach None = refl
same_reach reach (Some x) = refl

no_key : {X : Type 0} (reach : ℕ) (o : Option X) → key_past reach (done_if o) ≡ None
no_key reach None = refl
no_key reach (Some x) = refl

-- what the world becomes when node n does this
abbrev pub acts : {O Op Reply : Type 0} → Rules O Op Reply → World Op Reply → ℕ → Deed Op → World Op Reply
acts rules w n d = record {
  cluster = turned w.cluster n (acted rules w.cluster.members n (node w.cluster n) d).state (acted rules w.cluster.members n (node w.cluster n) d).sent;
  happenings = record {
    submitted = w.happenings.submitted ++ option_to_list (submission_by d w.happenings.submitted (length w.happenings.answers));
    answers = w.happenings.answers ++ (acted rules w.cluster.members n (node w.cluster n) d).answers;
  };
  reach = reach_after w.reach (outcome_of (node w.cluster n) d);
  taken = w.taken + 1;
}

module _ {O Op Reply : Type 0} (rules : Rules O Op Reply) (w : World Op Reply) (n : ℕ) where
  performed_if : (o : Option (Command Op)) → counted (after_performing rules w n (node w.cluster n).replica o) ≡ record {
    cluster = turned w.cluster n (performing rules (node w.cluster n) o).state (performing rules (node w.cluster n) o).sent;
    happenings = record { submitted = w.happenings.submitted ++ []; answers = w.happenings.answers ++ (performing rules (node w.cluster n) o).answers };
    reach = reach_after w.reach (performs (node w.cluster n).replica o);
    taken = w.taken + 1;
  }
  performed_if None = λ i. record {
    cluster = sym (turned_not w.cluster n) i;
    happenings =
        sym (nothing_more w.happenings) i;
    reach = w.reach;
    taken = w.taken + 1;
  }
  performed_if (Some c) = λ i. record (counted
      (after_performing rules w n (node w.cluster n).replica (Some c))) {
        happenings =
            record (after_performing rules w n (node w.cluster n).replica (Some c)).happenings {
              submitted =
                  sym (append-nil w.happenings.submitted) i;
            };
      }

  -- it is one event
  pub acts_step : HasNode n w.cluster → (d : Deed Op) → AsksForItsOwn d w.happenings.submitted → Step rules w (event_of n d) (acts rules w n d)
  acts_step has (deeds.Request c) own =
      subst (λ h. Step rules w (event_of n (deeds.Request c)) (record (acts rules w n (deeds.Request c)) { happenings = h }))
      (submitted_if w.happenings (record { command = c; after = length w.happenings.answers }) (is_submitted c.key w.happenings.submitted))
      (submit n c has.seated.member own)
  acts_step has deeds.Wake own =
      subst (λ h. Step rules w (event_of n deeds.Wake) (record (acts rules w n deeds.Wake) { happenings = h }))
      (sym (nothing_more w.happenings)) (wake n has.seated.member)
  acts_step has deeds.Nudge own =
      subst (λ h. Step rules w (event_of n deeds.Nudge) (record (acts rules w n deeds.Nudge) { happenings = h }))
      (sym (nothing_more w.happenings)) (nudge n has.seated.member)
  acts_step has deeds.Propose own =
      subst (λ r. Step rules w (event_of n deeds.Propose) (record (acts rules w n deeds.Propose) { reach = r }))
      (sym (same_reach w.reach (next_proposal (node w.cluster n).replica)))
      (subst (λ h. Step rules w (event_of n deeds.Propose)
      (record (acts rules w n deeds.Propose) { happenings = h; reach = w.reach })) (sym (nothing_more w.happenings))
      (propose n has.seated.member))
  acts_step has deeds.Perform own =
      subst (Step rules w (event_of n deeds.Perform)) (performed_if (next_decided (node w.cluster n).replica))
      (perform n has.seated.member)
  acts_step has deeds.Restart own =
      subst (λ h. Step rules w (event_of n deeds.Restart) (record (acts rules w n deeds.Restart) { happenings = h }))
      (sym (nothing_more w.happenings)) (restart n has.seated.member)

  -- and the keys that are noted beside the world go on
  module _ (laws : BallotLaws) (keys : List Key) (i : IsNoted rules w keys) (room : w.taken < most_events) (d : Deed Op)
      (s : Step rules w (event_of n d) (acts rules w n d)) where
    quietly_noted : (acts rules w n d).reach ≡ w.reach → key_past w.reach (outcome_of (node w.cluster n) d) ≡ None
        → IsNoted rules (acts rules w n d) (keys ++ option_to_list (key_past w.reach (outcome_of (node w.cluster n) d)))
    quietly_noted reach none = record {
      world = next_world laws rules w w refl (event_of n d) (acts rules w n d) i.world room refl s;
      noted = subst (HasNoted (acts rules w n d)) (sym (ap (λ o. keys ++ option_to_list o) none ∙ append-nil keys))
          (noted_stays w (acts rules w n d)
          (step_sound laws rules w (event_of n d) (acts rules w n d)
          (reachable_sound laws rules w i.world.reachable) s).grows keys i.noted reach);
    }

  pub acts_noted : (laws : BallotLaws) (keys : List Key) → IsNoted rules w keys → w.taken < most_events → (d : Deed Op)
      → Step rules w (event_of n d) (acts rules w n d)
      → IsNoted rules (acts rules w n d) (keys ++ option_to_list (key_past w.reach (outcome_of (node w.cluster n) d)))
  acts_noted laws keys i room (deeds.Request c) s = quietly_noted laws keys i room (deeds.Request c) s refl refl
  acts_noted laws keys i room deeds.Wake s = quietly_noted laws keys i room deeds.Wake s refl refl
  acts_noted laws keys i room deeds.Nudge s = quietly_noted laws keys i room deeds.Nudge s refl refl
  acts_noted laws keys i room deeds.Propose s =
      let o = next_proposal (node w.cluster n).replica in
      quietly_noted laws keys i room deeds.Propose s (same_reach w.reach o) (no_key w.reach o)
  acts_noted laws keys i room deeds.Perform s =
      let sound = reachable_sound laws rules w i.world.reachable in
      record {
        world = next_world laws rules w w refl (event_of n deeds.Perform) (acts rules w n deeds.Perform) i.world room refl s;
        noted = performs_noted w (acts rules w n deeds.Perform) sound
            (reachable_within_reach laws rules w i.world.reachable)
            (step_sound laws rules w (event_of n deeds.Perform) (acts rules w n deeds.Perform) sound s).grows keys
            i.noted n (next_decided (node w.cluster n).replica) refl refl;
      }
  acts_noted laws keys i room deeds.Restart s = quietly_noted laws keys i room deeds.Restart s refl refl

-- the parts of a world after node n, at place p, did something
module _ {O Op Reply : Type 0} (rules : Rules O Op Reply) (v : World Op Reply) (n p : ℕ) (place : p ≡ n - 1)
    (has : HasNode n v.cluster) (x : NodeState (Command Op)) (at : x ≡ slice_index_or v.cluster.nodes p x) where
  bounds : (1 ≤ n) × (n ≤ length v.cluster.nodes)
  bounds = let b = member_bounds v.cluster.members n has.seated.member in let size = has.size in (b.0, omega (arith, b.1))

  pub own_at : x ≡ node v.cluster n
  own_at = node_at v.cluster.members v.cluster.nodes n x bounds.0 bounds.1 (at ∙ ap (λ j. slice_index_or v.cluster.nodes j x) place)

  seated : (d : Deed Op) → own_turn rules x d ≡ acted rules v.cluster.members n (node v.cluster n) d
  seated d =
      ap₂ (λ ms m. acted rules ms m x d) (ap (λ y. members_of y) own_at ∙ has.seated.speaks) (ap (λ y. number_of y) own_at ∙ has.seated.node)
      ∙ ap (λ y. acted rules v.cluster.members n y d) own_at

  -- a restart has a boot left
  pub able_at : (d : Deed Op) → (node v.cluster n).boot < 2 ^ 62 → IsAble x d
  able_at (deeds.Request c) h = tt
  able_at deeds.Wake h = tt
  able_at deeds.Nudge h = tt
  able_at deeds.Propose h = tt
  able_at deeds.Perform h = tt
  able_at deeds.Restart h = subst (λ (y : NodeState (Command Op)). y.boot < 2 ^ 62) (sym own_at) h

  module _ (z : NodeState (Command Op)) (d : Deed Op) (new : z ≡ (own_turn rules x d).state) where
    -- they are those that the world's event makes
    pub acts_are : (letters : List (Letter (Command Op))) → letters ≡ v.cluster.letters ++ (own_turn rules x d).sent
        → (given : List (Answer Reply)) → given ≡ v.happenings.answers ++ (own_turn rules x d).answers
        → (submitted : List (Submission Op))
        → submitted ≡ v.happenings.submitted ++ option_to_list
        (submission_by d v.happenings.submitted (length v.happenings.answers))
        → (came : Outcome) → came ≡ outcome_of x d → (reach : ℕ) → reach ≡ reach_after v.reach came
        → record {
          cluster = record {
            members = v.cluster.members;
            nodes = slice_set v.cluster.nodes p z;
            letters =
                letters;
          };
          happenings = record { submitted = submitted; answers = given };
          reach = reach;
          taken =
              v.taken + 1;
        } ≡ acts rules v n d
    acts_are letters sent given answered submitted asked came out reach high = λ i. record {
      cluster = record {
        members = v.cluster.members;
        nodes = (ap₂ (λ j y. slice_set v.cluster.nodes j y) place
            (new ∙ ap (λ t. t.state) (seated d)) ∙ put_at v.cluster.nodes n
            (acted rules v.cluster.members n (node v.cluster n) d).state bounds.0) i;
        letters = (sent ∙ ap (λ t. v.cluster.letters ++ t.sent) (seated d)) i;
      };
      happenings = record { submitted = asked i; answers = (answered ∙ ap (λ t. v.happenings.answers ++ t.answers) (seated d)) i };
      reach = (high ∙ ap (reach_after v.reach) (out ∙ ap (λ y. outcome_of y d) own_at)) i;
      taken = v.taken + 1;
    }

    pub came_is : (came : Outcome) → came ≡ outcome_of x d → key_past v.reach came ≡ key_past v.reach (outcome_of (node v.cluster n) d)
    came_is came out = ap (key_past v.reach) (out ∙ ap (λ y. outcome_of y d) own_at)

-- what a deed that is allowed may count on
pub at_member : {Op : Type 0} (members : List ℕ) (n : ℕ) (d : Deed Op) → is_at_member members (event_of n d) ≡ true → is_member members n ≡ true
at_member members n (deeds.Request c) h = h
at_member members n deeds.Wake h = h
at_member members n deeds.Nudge h = h
at_member members n deeds.Propose h = h
at_member members n deeds.Perform h = h
at_member members n deeds.Restart h = h

pub asks_own : {Op Reply : Type 0} (same : Op → Op → Bool) → ((x y : Op) → same x y ≡ true → x ≡ y)
    → (w : World Op Reply) (n : ℕ) (d : Deed Op) → IsAllowed same w (event_of n d)
    → AsksForItsOwn d w.happenings.submitted
asks_own same exact w n (deeds.Request c) a = own_event same exact w.happenings.submitted (event_of n (deeds.Request c)) n c refl a.acts
asks_own same exact w n deeds.Wake a = tt
asks_own same exact w n deeds.Nudge a = tt
asks_own same exact w n deeds.Propose a = tt
asks_own same exact w n deeds.Perform a = tt
asks_own same exact w n deeds.Restart a = tt

-- what a deed submits stands after the submissions before
pub asked_more : {Op Reply : Type 0} (submitted seen room now : List (Submission Op)) (answers : List (Answer Reply))
    (after : ℕ) (d : Deed Op) (added : Option (Submission Op)) → seen ≡ submitted → after ≡ length answers
    → added ≡ submission_by d seen after → room ≡ submitted → now ≡ room ++ option_to_list added
    → now ≡ submitted ++ option_to_list (submission_by d submitted (length answers))
asked_more submitted seen room now answers after d added same count new kept more =
    more ∙ (λ i. kept i ++ option_to_list (new i)) ∙ (λ i. submitted ++ option_to_list (submission_by d (same i) (count i)))

-- parts that are as before
pub acts_not : {Op Reply : Type 0} (v : World Op Reply) (p : ℕ) (x z : NodeState (Command Op))
    → x ≡ slice_index_or v.cluster.nodes p x → z ≡ x → (letters : List (Letter (Command Op)))
    → letters ≡ v.cluster.letters → (given : List (Answer Reply)) → given ≡ v.happenings.answers
    → (submitted : List (Submission Op)) → submitted ≡ v.happenings.submitted
    → record {
      cluster = record {
        members = v.cluster.members;
        nodes = slice_set v.cluster.nodes p z;
        letters =
            letters;
      };
      happenings = record { submitted = submitted; answers = given };
      reach = v.reach;
      taken = v.taken;
    }
    ≡ v
acts_not v p x z at same letters sent given answered submitted asked =
    let nodes : slice_set v.cluster.nodes p z ≡ v.cluster.nodes = ap (slice_set v.cluster.nodes p) (same ∙ at) ∙ set_own v.cluster.nodes p x in
    λ i. record {
      cluster = record { members = v.cluster.members; nodes = nodes i; letters = sent i };
      happenings = record { submitted = asked i; answers = answered i };
      reach = v.reach;
      taken = v.taken;
    }

-- what has nothing to do submits nothing
pub nothing_submitted : (laws : BallotLaws) {O Op Reply : Type 0} (rules : Rules O Op Reply) (v w : World Op Reply)
    → v ≡ w → (keys : List Key) → IsNoted rules v keys → (n : ℕ) (d : Deed Op)
    → ComesToNothing rules (node w.cluster n) d → (seen : List (Submission Op)) → seen ≡ v.happenings.submitted
    → (after : ℕ) → submission_by d seen after ≡ None
nothing_submitted laws {O} {Op} {Reply} rules v w is keys noted n d i seen same after =
    ap (λ s. submission_by d s after) same
    ∙ no_submission laws rules v noted.world.reachable n d (subst (λ (y : World Op Reply). ComesToNothing rules (node y.cluster n) d) (sym is) i) after

-- A world, from its fields after a deed of node n, which stands at place p.
module _ (laws : BallotLaws) {O Op Reply : Type 0} (rules : Rules O Op Reply) (v w : World Op Reply) (is : v ≡ w)
    (keys : List Key) (noted : IsNoted rules v keys) (n p : ℕ) (d : Deed Op)
    (member : is_member w.cluster.members n ≡ true) (own : AsksForItsOwn d w.happenings.submitted)
    (room : w.taken < most_events) (place : p ≡ n - 1) where
  there : HasNode n v.cluster
  there = has_node laws rules v w is noted.world n member

  pub place_within : p < length v.cluster.nodes
  place_within = let b = member_bounds v.cluster.members n there.seated.member in let size = there.size in omega (arith, b.0, b.1)

  module _ (x : NodeState (Command Op)) (at : x ≡ slice_index_or v.cluster.nodes p x) where
    pub able_now : IsAble x d
    able_now = able_at rules v n p place there x at d (boots laws rules v w is noted.world n room)

    there_too : x ≡ node w.cluster n
    there_too = own_at rules v n p place there x at ∙ ap (λ (y : World Op Reply). node y.cluster n) is

    pub nothing_now : ComesToNothing rules (node w.cluster n) d → ComesToNothing rules x d
    nothing_now i = subst (λ (y : NodeState (Command Op)). ComesToNothing rules y d) (sym there_too) i

    pub performs_none : ComesToNothing rules (node w.cluster n) d → is_performance (outcome_of x d) ≡ false
    performs_none i = no_performance rules x d (nothing_now i)

    -- what was looked at before performs a command where one was performed
    pub performs_now : (y : NodeState (Command Op)) → y ≡ slice_index_or v.cluster.nodes p y → (does : Bool)
        → does ≡ is_performance (outcome_of y d) → (came : Outcome) → came ≡ outcome_of x d → (past : Option Key)
        → past ≡ key_past v.reach came → is_some past ≡ true → does ≡ true
    performs_now y looked does performs came out past key e =
        performs
        ∙ ap (λ z. is_performance (outcome_of z d)) (own_at rules v n p place there y looked ∙ sym (own_at rules v n p place there x at))
        ∙ ap is_performance (sym out)
        ∙ noted_where v.reach came (ap is_some (sym key) ∙ e)

    module _ (z : NodeState (Command Op)) (new : z ≡ (own_turn rules x d).state) (letters : List (Letter (Command Op)))
        (sent : letters ≡ v.cluster.letters ++ (own_turn rules x d).sent) (given : List (Answer Reply))
        (answered : given ≡ v.happenings.answers ++ (own_turn rules x d).answers) (submitted : List (Submission Op))
        (asked : submitted ≡ v.happenings.submitted ++ option_to_list
        (submission_by d v.happenings.submitted (length v.happenings.answers))) (came : Outcome)
        (out : came ≡ outcome_of x d) (reach : ℕ) (high : reach ≡ reach_after v.reach came) where
      abbrev now : World Op Reply
      now = record {
        cluster = record {
          members = v.cluster.members;
          nodes = slice_set v.cluster.nodes p z;
          letters =
              letters;
        };
        happenings = record { submitted = submitted; answers = given };
        reach = reach;
        taken =
            v.taken + 1;
      }

      same : now ≡ acts rules v n d
      same = acts_are rules v n p place there x at z d new letters sent given answered submitted asked came out reach high

      step : Step rules v (event_of n d) (acts rules v n d)
      step = acts_step rules v n there d (subst (λ y. AsksForItsOwn d y.happenings.submitted) (sym is) own)

      pub acts_taken : Step rules w (event_of n d) now
      acts_taken = subst (λ y. Step rules y (event_of n d) now) is (subst (Step rules v (event_of n d)) (sym same) step)

      pub acts_kept : (past : Option Key) → past ≡ key_past v.reach came → (kept after : List Key) → kept ≡ keys
          → after ≡ kept ++ option_to_list past → IsNoted rules now after
      acts_kept past key kept after stay more =
          subst (λ y. IsNoted rules y after) (sym same)
          (subst (IsNoted rules (acts rules v n d))
          (sym (more ∙ (λ i. stay i ++ option_to_list ((key ∙ came_is rules v n p place there x at z d new came out) i))))
          (acts_noted rules v n laws keys noted (subst (λ y. y.taken < most_events) (sym is) room) d step))

pub on_err : {T E Q : Type 0} (r : Result T E) → Q → OnErr r Q
on_err (Ok x) q = tt
on_err (Err e) q = q

pub ok_of : {T E Q : Type 0} (r s : Result T E) (x : T) → s ≡ r → s ≡ Ok x → OnOk r Q → Q
ok_of {Q = Q} r s x same e h = subst (λ t. OnOk t Q) (sym same ∙ e) h

pub err_of : {T E Q : Type 0} (r s : Result T E) (x : E) → s ≡ r → s ≡ Err x → OnErr r Q → Q
err_of {Q = Q} r s x same e h = subst (λ t. OnErr t Q) (sym same ∙ e) h

pub not_err : {T E Q : Type 0} (r s : Result T E) (x : E) → s ≡ r → s ≡ Err x → IsOk r → Q
not_err r s x same e h = absurd (false≢true (subst (λ t. IsOk t) (sym same ∙ e) h))
