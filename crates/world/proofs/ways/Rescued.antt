-- Events that led to an order with the key bring the key into the order whenever they are tried again; and a key that
-- was submitted is the last of its session, or a greater number was submitted.
use Rattle.std.proofs.Common.{◌≡◌, ◌⊎◌, inl, inr, ⊎_elim, ℕ, zero, suc, ◌+◌, ◌<◌, ◌≤◌, ◌==◌, Bool, true, false, not}
use Rattle.std.proofs.Common.{◌&&◌, ◌||◌, List, [], ◌∷◌, ◌++◌, length, take, None, Some, refl, sym, ap, ◌∙◌, subst}
use Rattle.std.proofs.Common.{arith}
use Rattle.std.specs.Prelude.{slice_get, nat_lt}
use Rattle.std.specs.List.{list_all, list_any}
use Rattle.std.proofs.lemmas.Bool.{false≢true, or_parts}
use Rattle.std.proofs.lemmas.Bool.Decides.{nat_tests}
use Rattle.std.proofs.lemmas.List.{length-take-le, length_push}
use Rattle.std.proofs.lemmas.Option.{slice_get_within}
use Rattle.ballot.specs.OrderLaws.{BallotLaws}
use Rattle.object.specs.Commands.{same_acts}
use Rattle.object.specs.Happenings.{is_submitted}
use Rattle.object.specs.Keys.{same_key}
use Rattle.object.specs.KeyLaws.{same_is, same_when}
use Rattle.object.specs.Lists.{In}
use Rattle.object.specs.Objects.{Rules}
use Rattle.object.specs.declared.command.Act.{Act}
use Rattle.object.specs.declared.command.Act.TheVariants.{Do, Close, Tick}
use Rattle.object.specs.declared.command.Command.{Command}
use Rattle.object.specs.declared.command.Key.{Key}
use Rattle.object.specs.declared.command.Submission.{Submission}
use Rattle.world.specs.Refusals.{has_other_act, keeps_acts, refusal}
use Rattle.agreement.specs.Events.{is_at_member, is_sent}
use Rattle.agreement.specs.Runs.{most_events, Leads, at_once, after, IsWorld}
use Rattle.world.specs.Rescues.{IsInOrder, IsLast, HasGreater, Rescues, keeps_nodes}
use Rattle.agreement.specs.Steps.{Step, IsItsOwn, submit, deliver, wake, nudge, propose, perform, restart}
use Rattle.agreement.specs.Worlds.{World}
use Rattle.agreement.specs.declared.event.Event.{Event}
use Rattle.world.proofs.ways.Allowing.{not_refused}
use Rattle.agreement.proofs.order.Deciding.{any_found, any_from}
use Rattle.world.proofs.alike.AlikeOrders.{alike_order, alike_refusals}
use Rattle.world.proofs.alike.AlikeRuns.{alike_runs}
use Rattle.agreement.proofs.every.Every.{counts}

module _ {Op : Type 0} (same : Op → Op → Bool) (reflexive : (o : Op) → same o o ≡ true) where
  pub act_itself : (a : Act Op) → same_acts same a a ≡ true
  act_itself (Do o) = reflexive o
  act_itself Close = refl
  act_itself Tick = refl

  -- a command that is its own was not submitted with another act
  pub no_other_act : (submitted : List (Submission Op)) (c : Command Op) → IsItsOwn c submitted → has_other_act same submitted c ≡ false
  no_other_act [] c own = refl
  no_other_act (s ∷ more) c own =
      ap (λ b. b || has_other_act same more c) (of (same_key s.command.key c.key) refl)
      ∙ no_other_act more c (λ t i. own t (inr i))
    where
      of : (b : Bool) → same_key s.command.key c.key ≡ b → (b && not (same_acts same s.command.act c.act)) ≡ false
      of false is = refl
      of true is =
          let one = own s (inl refl) is in
          ap not (ap (λ (d : Command Op). same_acts same d.act c.act) one ∙ act_itself c.act)

module _ {O Op Reply : Type 0} (rules : Rules O Op Reply) (same : Op → Op → Bool) (reflexive : (o : Op) → same o o ≡ true) where
  at_member : (w v : World Op Reply) (e : Event Op) → Step rules w e v → is_at_member w.cluster.members e ≡ true
  at_member w v e (submit n c member own) = member
  at_member w v e (deliver i l x out at receives) = refl
  at_member w v e (wake n member) = member
  at_member w v e (nudge n member) = member
  at_member w v e (propose n member) = member
  at_member w v e (perform n member) = member
  at_member w v e (restart n member) = member

  sent_before : (w v : World Op Reply) (e : Event Op) → Step rules w e v → is_sent (length w.cluster.letters) e ≡ true
  sent_before w v e (submit n c member own) = refl
  sent_before w v e (deliver i l x out at receives) = let within = slice_get_within w.cluster.letters i l at in grind (arith, nat_tests)
  sent_before w v e (wake n member) = refl
  sent_before w v e (nudge n member) = refl
  sent_before w v e (propose n member) = refl
  sent_before w v e (perform n member) = refl
  sent_before w v e (restart n member) = refl

  acts_kept : (w v : World Op Reply) (e : Event Op) → Step rules w e v → keeps_acts same w.happenings.submitted e ≡ true
  acts_kept w v e (submit n c member own) = ap not (no_other_act same reflexive w.happenings.submitted c own)
  acts_kept w v e (deliver i l x out at receives) = refl
  acts_kept w v e (wake n member) = refl
  acts_kept w v e (nudge n member) = refl
  acts_kept w v e (propose n member) = refl
  acts_kept w v e (perform n member) = refl
  acts_kept w v e (restart n member) = refl

  -- an event that leads on is refused for want of memory alone, where the world takes one more
  pub step_allowed : (w v : World Op Reply) (e : Event Op) → Step rules w e v → w.taken < most_events → refusal same w e ≡ None
  step_allowed w v e s room = not_refused same w e (record {
    member = at_member w v e s;
    sent = sent_before w v e s;
    acts = acts_kept w v e s;
    room = room;
  })

-- an element of a list with one more at its end stands in the list, or is that one
at_push : {X : Type 0} (xs : List X) (d : X) (n : ℕ) (e : X) → slice_get (xs ++ (d ∷ [])) n ≡ Some e
    → ((take n (xs ++ (d ∷ [])) ≡ take n xs) × (slice_get xs n ≡ Some e)) ⊎ ((take n (xs ++ (d ∷ [])) ≡ xs) × (d ≡ e))
at_push [] d zero e at = inr (refl, cc)
at_push [] d (suc n) e at = absurd (cc)
at_push (x ∷ xs) d zero e at = inl (refl, at)
at_push (x ∷ xs) d (suc n) e at = ⊎_elim
    (λ h. inl (ap (λ ys. x ∷ ys) h.0, h.1))
    (λ h. inr (ap (λ ys. x ∷ ys) h.0, h.1))
    (at_push xs d n e at)

module _ (laws : BallotLaws) {O Op Reply : Type 0} (rules : Rules O Op Reply) where
  -- the world counts the events that lead to it
  pub leads_count : (w v : World Op Reply) (es : List (Event Op)) → Leads rules w es v → v.taken ≡ w.taken + length es
  leads_count w v es at_once = omega arith
  leads_count w v es (after {es = before} {v = u} e v' l s) =
      let some = leads_count w u before l in
      let one = counts laws rules u v e s in
      let size = length_push before e in
      omega arith

  -- the event of this place leads on from a world to which those before it lead
  record Passes (w : World Op Reply) (es : List (Event Op)) (n : ℕ) (e : Event Op) : Type 0 where
    here : World Op Reply
    next : World Op Reply
    leads : Leads rules w (take n es) here
    step : Step rules here e next

  passes : (w u : World Op Reply) (es : List (Event Op)) → Leads rules w es u → (n : ℕ) (e : Event Op) → slice_get es n ≡ Some e → Passes w es n e
  passes w u es at_once n e at = absurd (cc)
  passes w u es (after {es = before} {v = v} d u' l s) n e at = ⊎_elim
      (λ h. let p = passes w v before l n e h.1 in record {
        here = p.here;
        next = p.next;
        leads = subst (λ ds. Leads rules w ds p.here) (sym h.0) p.leads;
        step = p.step;
      })
      (λ h. record {
        here = v;
        next = u;
        leads = subst (λ ds. Leads rules w ds v) (sym h.0) l;
        step = subst (λ c. Step rules v c u) h.1 s;
      })
      (at_push before d n e at)

module _ (laws : BallotLaws) {O Op Reply : Type 0} (rules : Rules O Op Reply) (same : Op → Op → Bool) (reflexive : (o : Op) → same o o ≡ true) where
  -- events that restart no node and led to an order with the key bring it into the order on every run
  pub rescued : (w u : World Op Reply) (events : List (Event Op)) (key : Key) → IsWorld rules w → Leads rules w events u
      → w.taken + length events ≤ most_events → list_all keeps_nodes events ≡ true → IsInOrder u.cluster key
      → Rescues rules same w key events
  rescued w u events key i l room calm has = record {
    calm = calm;
    allowed = λ n v e m at.
        let p = passes laws rules w u events l n e at in
        alike_refusals v p.here (alike_runs laws rules w v p.here (take n events) i m p.leads) same e
        ∙ step_allowed rules same reflexive p.here p.next e p.step (before_all n e at p.here p.leads);
    ends = λ v m. (
      has.0,
      (alike_order laws u v (alike_runs laws rules w u v events i l m) has.0).0 has.1,
      has.2,
    );
  }
    where
      before_all : (n : ℕ) (e : Event Op) → slice_get events n ≡ Some e → (v : World Op Reply) → Leads rules w (take n events) v → v.taken < most_events
      before_all n e at v m =
          let count = leads_count laws rules w v (take n events) m in
          let within = slice_get_within events n e at in
          let size = length-take-le n events (omega arith) in
          omega arith

module _ {O Op Reply : Type 0} (rules : Rules O Op Reply) where
  -- no event leads no further
  stays : (w v : World Op Reply) (es : List (Event Op)) → es ≡ [] → Leads rules w es v → w ≡ v
  stays w v es none at_once = refl
  stays w v es none (after {es = before} {v = u} e v' l s) = no_event before none
    where
      no_event : (ds : List (Event Op)) → ds ++ (e ∷ []) ≡ [] → w ≡ v
      no_event [] same = absurd (cc)
      no_event (d ∷ ds) same = absurd (cc)

  -- a key that stands in the order needs no event
  pub nothing : (same : Op → Op → Bool) (w : World Op Reply) (key : Key) → IsInOrder w.cluster key → Rescues rules same w key []
  nothing same w key has = record {
    calm = refl;
    allowed = λ n v e m at. absurd (cc);
    ends = λ v m. subst (λ (u : World Op Reply). IsInOrder u.cluster key) (stays w v [] refl m) has;
  }

-- what the test of a greater number tells
greater_parts : (t n s m : ℕ) → (t == s && nat_lt m n) ≡ true → (t ≡ s) × (m < n)
greater_parts t n s m h = (grind (arith, nat_tests), grind (arith, nat_tests))

not_greater : (t n s m : ℕ) → (t == s && nat_lt m n) ≡ false → t ≡ s → n ≤ m
not_greater t n s m h e = grind (arith, nat_tests)

-- a test of elements that finds none
finds_none : {X : Type 0} (test : X → Bool) (xs : List X) → list_any test xs ≡ false → (x : X) → In x xs → test x ≡ false
finds_none test [] h x i = absurd i
finds_none test (y ∷ ys) h x (inl e) = ap test e ∙ (or_parts (test y) (list_any test ys) h).0
finds_none test (y ∷ ys) h x (inr i) = finds_none test ys (or_parts (test y) (list_any test ys) h).1 x i

module _ {Op : Type 0} (key : Key) where
  -- the submission is of a greater number of the key's session
  abbrev is_greater : Submission Op → Bool
  is_greater s = s.command.key.session == key.session && nat_lt key.number s.command.key.number

  -- a key that was submitted, with no greater number, is the last of its session
  pub is_last : (submitted : List (Submission Op)) → is_submitted key submitted ≡ true
      → list_any (λ s. s.command.key.session == key.session && nat_lt key.number s.command.key.number) submitted ≡ false
      → IsLast key submitted
  is_last submitted was none =
      let f = any_found (λ s. same_key s.command.key key) submitted was in
      record {
        command = f.0.command;
        was = (f.0, f.1, refl);
        own = same_is f.0.command.key key f.2;
        last = λ s i of. not_greater s.command.key.session s.command.key.number key.session key.number (finds_none is_greater submitted none s i) of;
      }

  -- and where the test finds one, a greater number was submitted
  pub has_greater : (submitted : List (Submission Op))
      → list_any (λ s. s.command.key.session == key.session && nat_lt key.number s.command.key.number) submitted ≡ true
      → HasGreater key submitted
  has_greater submitted some =
      let f = any_found is_greater submitted some in
      let parts = greater_parts f.0.command.key.session f.0.command.key.number key.session key.number f.2 in
      record { submission = f.0; was = f.1; session = parts.0; greater = parts.1 }

  -- a key is not both
  apart : (submitted : List (Submission Op)) → HasGreater key submitted → IsLast key submitted → ⊥
  apart submitted more is =
      let low = is.last more.submission more.was more.session in
      let high = more.greater in
      absurd (omega arith)

  -- the last key of its session was submitted
  last_submitted : (submitted : List (Submission Op)) → IsLast key submitted → is_submitted key submitted ≡ true
  last_submitted submitted is =
      let own : is.was.0.command.key ≡ key = ap (λ (c : Command Op). c.key) is.was.2 ∙ is.own in
      any_from (λ s. same_key s.command.key key) is.was.0 submitted is.was.1 (same_when is.was.0.command.key key own)

  -- a key that was never submitted, or before a greater number of its session, is not the last of its session
  pub not_last : (submitted : List (Submission Op)) → (is_submitted key submitted ≡ false) ⊎ HasGreater key submitted → IsLast key submitted → ⊥
  not_last submitted (inl never) is = false≢true (sym never ∙ last_submitted submitted is)
  not_last submitted (inr more) is = apart submitted more is
