-- A reserve, where nothing was left to give: its own session alone can get a job.
use Rattle.std.proofs.Common.{◌≡◌, ℕ, suc, ◌+◌, ◌<◌, ◌^◌, Bool, true, false, cond, ◌&&◌, inl, inr, List, [], ◌∷◌, ◌++◌}
use Rattle.std.proofs.Common.{append-nil, filter_map, Option, Some, None, IfSome, is_some, unwrap_or, ◌==◌, refl, sym}
use Rattle.std.proofs.Common.{ap, ap₂, subst, ◌∙◌, arith, eq-eqb, eqb-true, ne_eqb}
use Rattle.std.proofs.lemmas.Bool.{cases_eq, cond-true, cond-false, and_from, both_ways}
use Rattle.std.specs.List.{cons_option}
use Rattle.object.specs.Lists.{In}
use Rattle.object.specs.declared.command.Answer.{Answer}
use Rattle.object.specs.declared.command.Key.{Key}
use Rattle.job_store.specs.declared.job.Job.{Job}
use Rattle.job_store.specs.Entries.{Rising, value_at, with_value, altered}
use Rattle.job_store.specs.EntryLaws.{value_at-here, value_at-next, value_at-In, value_at-insert, value_at-altered_same, altered-in, altered-none, altered-back}
use Rattle.job_store.specs.Least.{lesser, least}
use Rattle.job_store.specs.LookUps.{is_among, ready_in, best_ready, pri_of_job, not_paused}
use Rattle.job_store.specs.States.{is_ready, reserved_job}
use Rattle.session_store.specs.declared.session.SessionState.{SessionState}
use Rattle.session_store.specs.declared.session.Wait.{Wait}
use Rattle.session_store.specs.Sessions.{new_session, session_of, known, with_wait, with_wait_ended, is_waiting, wait_rank, first_waiting}
use Rattle.bean_words.specs.declared.op.Op.{Op}
use Rattle.bean_words.specs.declared.reply.Reply.{Reply}
use Rattle.bean_queue.specs.Queue.{QueueState, with_sessions, watched_by, paused_tubes, holds_by}
use Rattle.bean_queue.specs.Rows.{row, reserve_row, time_out, waiting}
use Rattle.bean_queue.specs.Turns.{QueueOutcome, stop, after_turn, after_option, all_turns, wanted, next_job, given, give, give_to, serve_turn, serve}
use Rattle.bean_queue.specs.TurnLaws.{least-none, none-least, best_ready-in}
use Rattle.bean_queue.specs.Effects.{then_do, with_ask_noted, called, own_outcome, is_zero, turned_away, carried_out}
use Rattle.bean_queue.specs.Reserving.{is_reserve, wake_outcome, IsTaken, best_for, with_next_rank, taken, outcome_with}
use Rattle.bean_queue.specs.Reserving.{denial, refused_by, reserved_by, reserve_outcome}
use Rattle.bean_queue.proofs.best.Paused.{open-watched, watched-open}
use Rattle.bean_queue.proofs.calm.Calm.{calm, changed-calmer, called-calm, no-turn, serve-none}
use Rattle.bean_queue.proofs.best.Served.{idle_none, turns-unroll, serves}

-- Of some sessions one is changed, and it alone matters

module _ (x hi : ℕ) (g : SessionState → SessionState) where
  changed-here : (e : ℕ × SessionState) (c : SessionState) → x ≡ e.0 → e.1 ≡ c → ◌≡◌ {A = ℕ × SessionState} (e.0, cond (x == e.0) (g e.1) e.1) (x, g c)
  changed-here e c same it = ap₂ (λ k v. (k, v)) (sym same) (cond-true (x == e.0) (g e.1) e.1 (eq-eqb x e.0 same) ∙ ap g it)

  changed-aside : (e : ℕ × SessionState) → (x ≡ e.0 → ⊥) → ◌≡◌ {A = ℕ × SessionState} (e.0, cond (x == e.0) (g e.1) e.1) e
  changed-aside e apart = ap (λ v. (e.0, v)) (cond-false (x == e.0) (g e.1) e.1 (ne_eqb x e.0 apart))

  module _ {Y : Type 0} (f : ℕ × SessionState → Option Y) where
    all-none : (es : List (ℕ × SessionState)) → ((e : ℕ × SessionState) → In e es → f e ≡ None) → filter_map f es ≡ []
    all-none [] h = refl
    all-none (e ∷ es) h = ap (λ o. cons_option o (filter_map f es)) (h e (inl refl)) ∙ all-none es (λ d i. h d (inr i))

    only-one : (lo : ℕ) (es : List (ℕ × SessionState)) (c : SessionState) (y : Y) → Rising lo hi es
        → value_at x es ≡ Some c → f (x, g c) ≡ Some y → ((e : ℕ × SessionState) → In e es → f e ≡ None)
        → filter_map f (altered x g es) ≡ y ∷ []
    only-one lo [] c y r there is others = cc
    only-one lo (e ∷ es) c y r there is others =
        elim (cases_eq x e.0) [
          | inl same ↦
              let here : Some e.1 ≡ Some c = sym (value_at-here x e es same) ∙ there in
              let it : e.1 ≡ c = cc in
              let below : x < suc e.0 = omega arith in
              ap (λ o. cons_option o (filter_map f (altered x g es))) (ap f (changed-here e c same it) ∙ is) ∙
              ap (λ zs. y ∷ zs) (ap (filter_map f) (altered-none x (suc e.0) hi g es below r.1) ∙ all-none es (λ d i. others d (inr i)))
          | inr apart ↦
              ap (λ o. cons_option o (filter_map f (altered x g es))) (ap f (changed-aside e apart) ∙ others e (inl refl)) ∙
              only-one (suc e.0) es c y r.1 (sym (value_at-next x e es apart) ∙ there) is (λ d i. others d (inr i))
        ]

  module _ (test : ℕ × SessionState → Bool) (by : SessionState → ℕ) where
    only-least : (lo : ℕ) (es : List (ℕ × SessionState)) (c : SessionState) → Rising lo hi es → value_at x es ≡ Some c
        → test (x, g c) ≡ true → ((e : ℕ × SessionState) → In e es → test e ≡ false)
        → least test by (altered x g es) ≡ Some (x, g c)
    only-least lo [] c r there is others = cc
    only-least lo (e ∷ es) c r there is others =
        elim (cases_eq x e.0) [
          | inl same ↦
              let here : Some e.1 ≡ Some c = sym (value_at-here x e es same) ∙ there in
              let it : e.1 ≡ c = cc in
              let below : x < suc e.0 = omega arith in
              let rest : least test by (altered x g es) ≡ None =
              ap (least test by) (altered-none x (suc e.0) hi g es below r.1) ∙ none-least test by es (λ d i t. both_ways (test d) (others d (inr i)) t) in
              ap (λ (d : ℕ × SessionState). cond (test d) (Some (lesser by d (least test by (altered x g es))))
              (least test by (altered x g es))) (changed-here e c same it) ∙
              cond-true (test (x, g c)) (Some (lesser by (x, g c) (least test by (altered x g es)))) (least test by (altered x g es)) is ∙
              ap (λ o. Some (lesser by (x, g c) o)) rest
          | inr apart ↦
              ap (λ (d : ℕ × SessionState). cond (test d) (Some (lesser by d (least test by (altered x g es))))
              (least test by (altered x g es))) (changed-aside e apart) ∙
              cond-false (test e) (Some (lesser by e (least test by (altered x g es)))) (least test by (altered x g es)) (others e (inl refl)) ∙
              only-least (suc e.0) es c r.1 (sym (value_at-next x e es apart) ∙ there) is (λ d i. others d (inr i))
        ]

-- A session that was called is there, and doesn't wait

known-alone : (x : ℕ) (sessions : List (ℕ × SessionState)) → (c : SessionState) × (value_at x (known x sessions) ≡ Some c) × (c.wait ≡ None)
known-alone x sessions =
    elim (value_at x sessions) as (λ o. value_at x sessions ≡ o → (c : SessionState) × (value_at x (known x sessions) ≡ Some c) × (c.wait ≡ None)) [
      | None ↦ λ e. (
        new_session,
        ap (λ b. value_at x (cond b (with_wait_ended x sessions) (with_value x new_session sessions)))
            (ap is_some e) ∙ value_at-insert x new_session sessions,
        refl,
      )
      | Some v ↦ λ e. (
        with_wait None v,
        ap (λ b. value_at x (cond b (with_wait_ended x sessions) (with_value x new_session sessions)))
            (ap is_some e) ∙ value_at-altered_same x (with_wait None) sessions v e,
        refl,
      )
    ] refl

pub called-idle : (op : Op) (x : ℕ) (s : QueueState) → (c : SessionState) × (value_at x (called op x s).sessions ≡ Some c) × (c.wait ≡ None)
called-idle op x s =
    let alone = known-alone x s.sessions in
    (with_ask_noted op alone.0, value_at-altered_same x (with_ask_noted op) (known x s.sessions) alone.0 alone.1, alone.2)

wait-back : (w : Option Wait) (c : SessionState) → c.wait ≡ None → with_wait None (with_wait w c) ≡ c
wait-back w c none = λ i. record c { wait = sym none i }

-- Where nothing is left to give, nothing is wanted

wanted-none : (s : QueueState) → serve_turn s ≡ None → (e : ℕ × SessionState) → In e s.sessions → wanted (paused_tubes s) s.jobs e ≡ None
wanted-none s none e i =
    elim (is_waiting e.1) as (λ b. is_waiting e.1 ≡ b → cond b (best_ready (not_paused (paused_tubes s) e.1.watched) s.jobs) None ≡ None) [
      | true ↦ λ t. idle_none s none e i t
      | false ↦ λ t. refl
    ] refl

-- no session that waits watches the tube of a ready job that one may have
nobody-waits : (s : QueueState) (tubes : List (List ℕ)) (j : ℕ × Job) → serve_turn s ≡ None → In j s.jobs
    → is_ready j.1.state ≡ true → is_among j.1.tube (paused_tubes s) ≡ false → (e : ℕ × SessionState) → In e s.sessions
    → (is_waiting e.1 && is_among j.1.tube e.1.watched) ≡ false
nobody-waits s tubes j none there ready unpaused e i =
    elim (is_waiting e.1) as (λ b. is_waiting e.1 ≡ b → (b && is_among j.1.tube e.1.watched) ≡ false) [
      | false ↦ λ t. refl
      | true ↦ λ t.
          elim (is_among j.1.tube e.1.watched) as (λ b. is_among j.1.tube e.1.watched ≡ b → b ≡ false) [
            | false ↦ λ a. refl
            | true ↦ λ a.
                absurd
                (least-none (ready_in (not_paused (paused_tubes s) e.1.watched)) pri_of_job s.jobs j (idle_none s none e i t) there
                (and_from (is_ready j.1.state) (is_among j.1.tube (not_paused (paused_tubes s) e.1.watched)) ready
                (watched-open (paused_tubes s) e.1.watched j.1.tube a unpaused)))
          ] refl
    ] refl

-- The session alone waits for what there is

module _ (key : Key) (seconds : Option ℕ) (s : QueueState) (c : SessionState) (none : serve_turn s ≡ None)
    (r : Rising 0 (2 ^ 32) s.sessions) (there : value_at key.session s.sessions ≡ Some c) (idle : c.wait ≡ None) where
  abbrev its_wait : Wait
  its_wait = record { number = key.number; rank = s.next_rank; time_out = time_out s.now seconds }

  abbrev waits : QueueState
  waits = waiting s key.session key.number seconds

  abbrev itself : ℕ × SessionState
  itself = (key.session, with_wait (Some its_wait) c)

  sessions-back : with_wait_ended key.session waits.sessions ≡ s.sessions
  sessions-back = altered-back key.session 0 (2 ^ 32) (with_wait (Some its_wait)) (with_wait None) s.sessions c r there (wait-back (Some its_wait) c idle)

  its-tubes : watched_by s key.session ≡ c.watched
  its-tubes = ap (λ o. (unwrap_or o new_session).watched) there

  module _ (j : ℕ × Job) (best : best_for s key.session ≡ Some j) where
    best-own : best_ready (not_paused (paused_tubes s) c.watched) s.jobs ≡ Some j
    best-own = ap (λ tubes. best_ready (not_paused (paused_tubes s) tubes) s.jobs) (sym its-tubes) ∙ best

    best-is : In j s.jobs × (is_ready j.1.state ≡ true) × (is_among j.1.tube (not_paused (paused_tubes s) c.watched) ≡ true)
    best-is = subst (λ o. IfSome o
        (λ (j : ℕ × Job). In j s.jobs × (is_ready j.1.state ≡ true)
        × (is_among j.1.tube (not_paused (paused_tubes s) c.watched) ≡ true))) best-own
        (best_ready-in (not_paused (paused_tubes s) c.watched) s.jobs)

    next-is : next_job waits ≡ Some j
    next-is = ap (least (λ e. true) pri_of_job)
        (only-one key.session (2 ^ 32) (with_wait (Some its_wait))
        (wanted (paused_tubes s) s.jobs) 0 s.sessions c j r there best-own (wanted-none s none))

    first-is : first_waiting (λ e. is_among j.1.tube e.1.watched) waits.sessions ≡ Some itself
    first-is =
        let clear = open-watched (paused_tubes s) c.watched j.1.tube best-is.2 in
        only-least key.session (2 ^ 32) (with_wait (Some its_wait))
        (λ e. is_waiting e.1 && is_among j.1.tube e.1.watched) wait_rank 0 s.sessions c r there clear.0
        (nobody-waits s c.watched j none best-is.0 best-is.1 clear.1)

    turn-is : serve_turn waits ≡ Some (given waits j itself)
    unfolding serve_turn
    turn-is = ap (give waits) next-is ∙ ap (give_to waits j) first-is

    after-is : (given waits j itself).state ≡ taken s key.session j
    unfolding given
    after-is = ap (λ sessions. record (taken s key.session j) { sessions = sessions }) sessions-back

    calm-after : serve_turn (taken s key.session j) ≡ None
    calm-after = calm s (taken s key.session j) none (record { jobs = changed-calmer j.0 _ s.jobs (λ job. refl); sessions = λ w i t. i; pauses = λ tube p. p })

    answer-is : (given waits j itself).answer ≡ record { to = key; reply = Reply.Reserved j.0 j.1.body }
    unfolding given
    answer-is = refl

    serve-is : serve waits ≡ outcome_with key (taken s key.session j) (Reply.Reserved j.0 j.1.body)
    unfolding serve
    serve-is =
        turns-unroll serve_turn serves waits ∙ ap (after_option (all_turns serve_turn) waits) turn-is ∙
        ap₂ (λ a t. after_turn a (all_turns serve_turn t)) answer-is after-is ∙
        ap (after_turn (record { to = key; reply = Reply.Reserved j.0 j.1.body })) (serve-none (taken s key.session j) calm-after)

    not-turned : turned_away (Op.Reserve seconds) key (taken s key.session j) ≡ stop (taken s key.session j)
    unfolding turned_away
    not-turned =
        cond-false (is_waiting (session_of key.session s.sessions)) _ (stop (taken s key.session j))
        (ap (λ o. is_waiting (unwrap_or o new_session)) there ∙ ap is_some idle)

  module _ (best : best_for s key.session ≡ None) where
    none-turn : serve_turn waits ≡ None
    none-turn =
        no-turn waits
        (λ w i t.
        altered-in key.session (with_wait (Some its_wait))
        (λ w. is_waiting w.1 ≡ true → best_ready (not_paused (paused_tubes s) w.1.watched) s.jobs ≡ None) s.sessions
        (λ d there.
        elim (key.session == d.0) as (λ b. (key.session == d.0) ≡ b
        → is_waiting (cond b (with_wait (Some its_wait) d.1) d.1) ≡ true
        → best_ready (not_paused (paused_tubes s) (cond b (with_wait (Some its_wait) d.1) d.1).watched) s.jobs
        ≡ None) [
          | true ↦ λ e t.
              let found : value_at key.session s.sessions ≡ Some d.1 =
              ap (λ k. value_at k s.sessions) (eqb-true key.session d.0 e) ∙ value_at-In 0
              (2 ^ 32) s.sessions d r there in
              ap (λ o. best_ready (not_paused (paused_tubes s) (unwrap_or o new_session).watched) s.jobs) (sym found) ∙ best
          | false ↦ λ e t. idle_none s none d there t
        ] refl)
        w i t)

    still-waits : is_waiting (session_of key.session waits.sessions) ≡ true
    still-waits = ap (λ o. is_waiting (unwrap_or o new_session)) (value_at-altered_same key.session (with_wait (Some its_wait)) s.sessions c there)

    turned : turned_away (Op.Reserve seconds) key waits ≡ refused_by key seconds s (denial s key.session seconds)
    unfolding turned_away
    turned =
        cond-true (is_waiting (session_of key.session waits.sessions)) _ (stop waits) still-waits ∙
        elim (holds_by key.session (s.now + 1) s.jobs) as (λ b. cond b
        (outcome_with key (with_sessions waits (with_wait_ended key.session waits.sessions)) Reply.DeadlineSoon)
        (cond (is_zero seconds) (outcome_with key
        (with_sessions waits (with_wait_ended key.session waits.sessions)) Reply.TimedOut) (stop waits))
        ≡ refused_by key seconds s (cond b (Some Reply.DeadlineSoon)
        (cond (is_zero seconds) (Some Reply.TimedOut) None))) [
          | true ↦ ap (λ sessions. outcome_with key (with_sessions (with_next_rank s) sessions) Reply.DeadlineSoon) sessions-back
          | false ↦ elim (is_zero seconds) as (λ b. cond b
              (outcome_with key (with_sessions waits (with_wait_ended key.session waits.sessions)) Reply.TimedOut)
              (stop waits) ≡ refused_by key seconds s (cond b (Some Reply.TimedOut) None)) [
                | true ↦ ap (λ sessions. outcome_with key (with_sessions (with_next_rank s) sessions) Reply.TimedOut) sessions-back
                | false ↦ refl
              ]
        ]

  -- serve, and what comes after it
  served-turned : then_do (serve waits) (turned_away (Op.Reserve seconds) key) ≡ reserve_outcome key seconds s
  unfolding reserve_outcome
  served-turned =
      elim (best_for s key.session) as (λ o. best_for s key.session ≡ o
      → then_do (serve waits) (turned_away (Op.Reserve seconds) key) ≡ reserved_by key seconds s o) [
        | Some j ↦ λ best.
            ap (λ o. then_do o (turned_away (Op.Reserve seconds) key)) (serve-is j best) ∙
            ap (λ (o : QueueOutcome). record {
              state = o.state;
              answers =
                  record { to = key; reply = Reply.Reserved j.0 j.1.body } ∷ o.answers;
            }) (not-turned j best)
        | None ↦ λ best.
            ap (λ o. then_do o (turned_away (Op.Reserve seconds) key)) (serve-none waits (none-turn best)) ∙ turned best
      ] refl

  pub reserved : then_do (then_do (own_outcome key (row (Op.Reserve seconds) key s)) serve)
      (turned_away (Op.Reserve seconds) key) ≡ reserve_outcome key seconds s
  unfolding row reserve_row
  reserved = served-turned

pub reserve-carried : (op : Op) (key : Key) (seconds : Option ℕ) (s t : QueueState) → op ≡ Op.Reserve seconds
    → serve_turn s ≡ None → t ≡ called op key.session s → Rising 0 (2 ^ 32) t.sessions
    → reserve_outcome key seconds t ≡ carried_out op key s
unfolding carried_out
reserve-carried op key seconds s t is none c r =
    let there = called-idle (Op.Reserve seconds) key.session s in
    let it : t ≡ called (Op.Reserve seconds) key.session s = c ∙ ap (λ o. called o key.session s) is in
    ap (reserve_outcome key seconds) it ∙
    sym (reserved key seconds (called (Op.Reserve seconds) key.session s) there.0 (called-calm (Op.Reserve seconds) key.session s none)
    (subst (λ (u : QueueState). Rising 0 (2 ^ 32) u.sessions) it r) there.1 there.2) ∙
    ap (λ o. carried_out o key s) (sym is)

never-turned : (op : Op) (key : Key) (s : QueueState) → is_reserve op ≡ false → turned_away op key s ≡ stop s
unfolding turned_away
never-turned (Op.Reserve seconds) key s e = cc
never-turned _ key s e = refl

pub wake-carried : (op : Op) (key : Key) (s t : QueueState) → is_reserve op ≡ false → t ≡ called op key.session s → wake_outcome op key t ≡ carried_out op key s
unfolding carried_out
wake-carried op key s t wakes c =
    let o = wake_outcome op key (called op key.session s) in
    ap (wake_outcome op key) c ∙
    ap (λ (xs : List (Answer Reply)). let q : QueueOutcome = record { state = o.state; answers = xs } in q) (sym (append-nil o.answers)) ∙
    sym (ap (λ (p : QueueOutcome). let q : QueueOutcome =
    record { state = p.state; answers = o.answers ++ p.answers } in q) (never-turned op key o.state wakes))

-- The best job is given

pub took : (key : Key) (s : QueueState) (j : ℕ × Job) (jobs : List (ℕ × Job)) (xs ys : List (Answer Reply)) (due : ℕ)
    (body : List ℕ) → best_for s key.session ≡ Some j → due ≡ s.now + j.1.ttr
    → jobs ≡ altered j.0 (reserved_job key.session due) s.jobs → body ≡ j.1.body
    → ys ≡ xs ++ record { to = key; reply = Reply.Reserved j.0 body } ∷ []
    → IsTaken key s (record s { next_rank = s.next_rank + 1; jobs = jobs }) xs ys true
took key s j jobs xs ys due body best d js b a = (
  j,
  best,
  ap (λ es. let t : QueueState = record s { next_rank = s.next_rank + 1; jobs = es } in t)
      (js ∙ ap (λ n. altered j.0 (reserved_job key.session n) s.jobs) d),
  a ∙ ap (λ bytes. let r : Answer Reply = record { to = key; reply = Reply.Reserved j.0 bytes } in xs ++ r ∷ []) b,
)
