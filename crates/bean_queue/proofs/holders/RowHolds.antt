-- What each row does to the jobs, and to one that is held.
use Rattle.std.proofs.Common.{◌≡◌, ℕ, zero, suc, ◌+◌, Bool, true, false, cond, ◌&&◌, ◌⊎◌, inl, inr, List, [], ◌∷◌, Option, Some, None}
use Rattle.std.proofs.Common.{IfSome, is_some, ◌==◌, bytes_eq, refl, sym, ap, subst, ◌∙◌, arith, eq-eqb, eqb-true, ne_eqb}
use Rattle.std.proofs.Common.{true≢false}
use Rattle.std.proofs.lemmas.Bool.{cases_eq, and_parts, cond-true, cond-false}
use Rattle.object.specs.Lists.{In}
use Rattle.object.specs.declared.command.Act.{Act}
use Rattle.object.specs.declared.command.Key.{Key}
use Rattle.job_store.specs.declared.job.Job.{Job}
use Rattle.job_store.specs.declared.state.State.{State}
use Rattle.job_store.specs.Entries.{Rising, value_at, altered}
use Rattle.job_store.specs.EntryLaws.{value_at-without_other, value_at-insert_other, value_at-below, value_at-In}
use Rattle.job_store.specs.EntryLaws.{Rising-altered, Rising-without, Rising-insert, Rising-wider, Rising-end}
use Rattle.job_store.specs.States.{is_held, is_buried, is_delayed, with_state, reserved_job, kicked_job}
use Rattle.job_store.specs.LookUps.{is_among, first_buried, first_delayed, first_ready, buried_in, delayed_in, due_of_job, rank_of_job}
use Rattle.session_store.specs.WatchLists.{is_alone}
use Rattle.bean_words.specs.declared.op.Op.{Op}
use Rattle.bean_words.specs.declared.reply.Reply.{Reply}
use Rattle.bean_queue.specs.Queue.{QueueState, with_jobs, used_by, watched_by, HasRisingIds}
use Rattle.bean_queue.specs.Rows.{is_idle, Row, replies, row, put_row, use_row, watch_row, ignore_row, reserve_row}
use Rattle.bean_queue.specs.Rows.{delete_row, may_delete, delete_found, is_job_that, release_row, touch_row, bury_row, kicked}
use Rattle.bean_queue.specs.Rows.{kicked_option, kick_row, kick_job_row, peek_row, shown, at_id, pause_row}
use Rattle.bean_queue.specs.Tubes.{all_tubes}
use Rattle.bean_queue.specs.Rows.{is_unreserved, reserve_found, reserve_job_row, reported, stats_job_row, stats_tube_row, stats_row}
use Rattle.bean_queue.specs.Reports.{tube_figures, tube_report}
use Rattle.bean_queue.specs.Effects.{own}
use Rattle.bean_queue.specs.Holds.{is_touch, handing_out}
use Rattle.bean_queue.specs.TurnLaws.{least-in, IfSome-map}
use Rattle.bean_queue.proofs.holders.Held.{Held, Held-altered_other, Held-reserved, IsQuiet}

-- a row gives the job id, which nobody had, to the session of its key
pub record RowGives (id : ℕ) (s : QueueState) (key : Key) (r : Row) : Type 0 where
  pub reply : Reply
  pub ttr : ℕ
  pub free : (x ttr second : ℕ) → Held s.jobs x id ttr second → ⊥
  pub only : handing_out id (own key r.reply) ≡ record { to = key; reply = reply } ∷ []
  pub held : Held r.state.jobs key.session id ttr s.now

-- a row leaves the jobs in order and the second as it was, and its reply is no RESERVED of the job, or it gives the job
pub record IsRowOk (s : QueueState) (key : Key) (r : Row) : Type 0 where
  pub sound : HasRisingIds r.state
  pub at : r.state.now ≡ s.now
  pub given : (id : ℕ) → IsQuiet id (own key r.reply) ⊎ RowGives id s key r

-- the reply of a row to a hold that was there is no RESERVED of it
pub holder-quiet : (x id ttr second : ℕ) (s : QueueState) (key : Key) (r : Row) → IsRowOk s key r → Held s.jobs x id ttr second
    → IsQuiet id (own key r.reply)
holder-quiet x id ttr second s key r ok h =
    elim (ok.given id) as (λ v. IsQuiet id (own key r.reply)) [ inl quiet ↦ quiet | inr gives ↦ absurd (gives.free x ttr second h) ]

-- the two cases of a test
ok_if : (s : QueueState) (key : Key) (b : Bool) (r q : Row) → IsRowOk s key r → IsRowOk s key q → IsRowOk s key (cond b r q)
ok_if s key true r q h k = h
ok_if s key false r q h k = k

ok_altered : (s : QueueState) (key : Key) (id : ℕ) (f : Job → Job) (reply : Reply)
    → ((id : ℕ) → IsQuiet id (own key (Some reply))) → HasRisingIds s
    → IsRowOk s key (replies (with_jobs s (altered id f s.jobs)) reply)
ok_altered s key id f reply quiet sound = record { sound = Rising-altered _ _ 1 s.next_id s.jobs sound; at = refl; given = λ id. inl (quiet id) }

ok_same : (s : QueueState) (key : Key) (reply : Reply) → ((id : ℕ) → IsQuiet id (own key (Some reply))) → HasRisingIds s → IsRowOk s key (replies s reply)
ok_same s key reply quiet sound = record { sound = sound; at = refl; given = λ id. inl (quiet id) }

kicked-sound : (pick : List (ℕ × Job) → Option (ℕ × Job)) (hi n : ℕ) (jobs : List (ℕ × Job)) → Rising 1 hi jobs → Rising 1 hi (kicked pick n jobs).jobs
unfolding kicked
kicked-sound pick hi zero jobs r = r
kicked-sound pick hi (suc n) jobs r =
    elim (pick jobs) as (λ o. Rising 1 hi (kicked_option (kicked pick n) jobs o).jobs) [
      | None ↦ r
      | Some e ↦ kicked-sound pick hi n (altered e.0 kicked_job jobs) (Rising-altered _ _ 1 hi jobs r)
    ]

shown-quiet : (key : Key) (o : Option (ℕ × Job)) (id : ℕ) → IsQuiet id (own key (Some (shown o)))
shown-quiet key None id = refl
shown-quiet key (Some e) id = refl

sameness : (a b : Job) → Some a ≡ Some b → a ≡ b
sameness a b e = cc

-- a job that is free is nobody's
free-unheld : (jobs : List (ℕ × Job)) (id : ℕ) (job : Job) → value_at id jobs ≡ Some job → is_unreserved job.state ≡ true
    → (x ttr second : ℕ) → Held jobs x id ttr second → ⊥
free-unheld jobs id job there free x ttr second h =
    let same : job ≡ h.job = cc in
    true≢false (sym free ∙ ap (λ (job : Job). is_unreserved job.state) same ∙ ap is_unreserved h.held)

-- the job k is given to the session of the key
gives-free : (s : QueueState) (key : Key) (k : ℕ) (job : Job) → HasRisingIds s → value_at k s.jobs ≡ Some job → is_unreserved job.state ≡ true
    → IsRowOk s key (replies (with_jobs s (altered k (reserved_job key.session (s.now + job.ttr)) s.jobs)) (Reply.Reserved k job.body))
gives-free s key k job sound there free = record {
  sound = Rising-altered _ _ 1 s.next_id s.jobs sound;
  at = refl;
  given = λ id. elim (cases_eq id k) [
    | inr apart ↦ inl (cond-false (id == k) _ _ (ne_eqb id k apart))
    | inl same ↦ inr (record {
      reply = Reply.Reserved k job.body;
      ttr = job.ttr;
      free = free-unheld s.jobs id job (ap (λ q. value_at q s.jobs) same ∙ there) free;
      only = cond-true (id == k) _ _ (eq-eqb id k same);
      held =
          subst (λ q. Held (altered k (reserved_job key.session (s.now + job.ttr)) s.jobs) key.session q job.ttr s.now) (sym same)
          (Held-reserved s.jobs key.session k s.now (reserved_job key.session (s.now + job.ttr)) job there refl refl);
    })
  ];
}

reserved-ok : (s : QueueState) (key : Key) (k : ℕ) → HasRisingIds s → IsRowOk s key (reserve_found s key.session k (value_at k s.jobs))
reserved-ok s key k sound =
    elim (value_at k s.jobs) as (λ o. value_at k s.jobs ≡ o → IsRowOk s key (reserve_found s key.session k o)) [
      | None ↦ λ there. ok_same s key Reply.NotFound (λ id. refl) sound
      | Some job ↦ λ there.
          elim (is_unreserved job.state) as (λ b. is_unreserved job.state ≡ b → IsRowOk s key
          (cond b (replies (with_jobs s (altered k (reserved_job key.session (s.now + job.ttr)) s.jobs)) (Reply.Reserved k job.body))
          (replies s Reply.NotFound))) [
            | true ↦ λ free. gives-free s key k job sound there free
            | false ↦ λ taken. ok_same s key Reply.NotFound (λ id. refl) sound
          ] refl
    ] refl

deleted-ok : (s : QueueState) (key : Key) (j : ℕ) (o : Option Job) → HasRisingIds s → IsRowOk s key (delete_found s key.session j o)
deleted-ok s key j None sound = ok_same s key Reply.NotFound (λ id. refl) sound
deleted-ok s key j (Some job) sound =
    ok_if s key (may_delete key.session job.state) _ _
    (record { sound = Rising-without j 1 s.next_id s.jobs sound; at = refl; given = λ id. inl refl })
    (ok_same s key Reply.NotFound (λ id. refl) sound)

told-quiet : (key : Key) (b : Bool) (text : List ℕ) (id : ℕ) → IsQuiet id (own key (Some (cond b (Reply.Data text) Reply.NotFound)))
told-quiet key true text id = refl
told-quiet key false text id = refl

reported-quiet : (key : Key) (now k : ℕ) (o : Option Job) (id : ℕ) → IsQuiet id (own key (Some (reported now k o)))
reported-quiet key now k None id = refl
reported-quiet key now k (Some job) id = refl

pub row-ok : (op : Op) (key : Key) (s : QueueState) → HasRisingIds s → IsRowOk s key (row op key s)
unfolding row put_row use_row watch_row ignore_row reserve_row delete_row release_row touch_row bury_row kick_row kick_job_row
    reserve_job_row peek_row pause_row stats_job_row stats_tube_row stats_row
row-ok (Op.Put pri delay ttr body) key s sound =
    record {
      sound =
          Rising-insert s.next_id 1 (s.next_id + 1) _ s.jobs (Rising-end 1 s.next_id s.jobs sound) (omega arith)
          (Rising-wider 1 1 s.next_id (s.next_id + 1) s.jobs (omega arith) (omega arith) sound);
      at = refl;
      given = λ id. inl refl;
    }
row-ok (Op.Use tube) key s sound = record { sound = sound; at = refl; given = λ id. inl refl }
row-ok (Op.Watch tube) key s sound = record { sound = sound; at = refl; given = λ id. inl refl }
row-ok (Op.Ignore tube) key s sound =
    ok_if s key (is_alone tube (watched_by s key.session)) _ _ (ok_same s key Reply.NotIgnored (λ id. refl) sound)
    (record { sound = sound; at = refl; given = λ id. inl refl })
row-ok (Op.Reserve seconds) key s sound = record { sound = sound; at = refl; given = λ id. inl refl }
row-ok (Op.Delete j) key s sound = deleted-ok s key j (value_at j s.jobs) sound
row-ok (Op.Release j pri delay) key s sound =
    ok_if s key (is_job_that (is_held key.session) (value_at j s.jobs)) _ _
    (ok_altered s key j _ Reply.Released (λ id. refl) sound) (ok_same s key Reply.NotFound (λ id. refl) sound)
row-ok (Op.Bury j pri) key s sound =
    ok_if s key (is_job_that (is_held key.session) (value_at j s.jobs)) _ _
    (record { sound = Rising-altered _ _ 1 s.next_id s.jobs sound; at = refl; given = λ id. inl refl })
    (ok_same s key Reply.NotFound (λ id. refl) sound)
row-ok (Op.Touch j) key s sound =
    ok_if s key (is_job_that (is_held key.session) (value_at j s.jobs)) _ _
    (ok_altered s key j _ Reply.Touched (λ id. refl) sound) (ok_same s key Reply.NotFound (λ id. refl) sound)
row-ok (Op.Kick bound) key s sound =
    record { sound = kicked-sound _ s.next_id bound s.jobs sound; at = refl; given = λ id. inl refl }
row-ok (Op.KickJob j) key s sound =
    ok_if s key (is_job_that is_idle (value_at j s.jobs)) _ _ (ok_altered s key j _ Reply.Kicked (λ id. refl) sound)
    (ok_same s key Reply.NotFound (λ id. refl) sound)
row-ok (Op.ReserveJob j) key s sound = reserved-ok s key j sound
row-ok (Op.Peek j) key s sound = ok_same s key _ (shown-quiet key (at_id j s.jobs)) sound
row-ok Op.PeekReady key s sound = ok_same s key _ (shown-quiet key (first_ready (used_by s key.session) s.jobs)) sound
row-ok Op.PeekDelayed key s sound = ok_same s key _ (shown-quiet key (first_delayed (used_by s key.session) s.jobs)) sound
row-ok Op.PeekBuried key s sound = ok_same s key _ (shown-quiet key (first_buried (used_by s key.session) s.jobs)) sound
row-ok Op.ListTubes key s sound = ok_same s key _ (λ id. refl) sound
row-ok Op.ListTubeUsed key s sound = ok_same s key _ (λ id. refl) sound
row-ok Op.ListTubesWatched key s sound = ok_same s key _ (λ id. refl) sound
row-ok (Op.Pause tube seconds) key s sound =
    ok_if s key (is_among tube (all_tubes s)) _ _ (record { sound = sound; at = refl; given = λ id. inl refl })
    (ok_same s key Reply.NotFound (λ id. refl) sound)
row-ok (Op.StatsJob j) key s sound = ok_same s key _ (reported-quiet key s.now j (value_at j s.jobs)) sound
row-ok (Op.StatsTube tube) key s sound = ok_same s key _ (told-quiet key (is_among tube (all_tubes s)) (tube_report tube (tube_figures s tube))) sound
row-ok Op.Stats key s sound = ok_same s key _ (λ id. refl) sound

-- the commands that end a hold, with the replies that say so
pub data EndsHold (id : ℕ) : Op → Reply → Type 0 where
  by_delete : (j : ℕ) → j ≡ id → EndsHold id (Op.Delete j) Reply.Deleted
  by_release : (j pri delay : ℕ) → j ≡ id → EndsHold id (Op.Release j pri delay) Reply.Released
  by_bury : (j pri : ℕ) → j ≡ id → EndsHold id (Op.Bury j pri) Reply.Buried

-- what a row does to a hold of session x: it ends by a command of x's own, or stays, or is renewed by x's touch
pub data HoldAfter (x id ttr second now : ℕ) (op : Op) (key : Key) (r : Row) : Type 0 where
  ended : (reply : Reply) → EndsHold id op reply → key.session ≡ x → r.reply ≡ Some reply → HoldAfter x id ttr second now op key r
  stays : Held r.state.jobs x id ttr second → (is_touch id (Act.Do op) && (key.session == x)) ≡ false → HoldAfter x id ttr second now op key r
  renewed : Held r.state.jobs x id ttr now → is_touch id (Act.Do op) ≡ true → key.session ≡ x
      → r.reply ≡ Some Reply.Touched → HoldAfter x id ttr second now op key r

-- a test of the job at an id, where the job is held
found-held : (test : State → Bool) (jobs : List (ℕ × Job)) (x id j ttr second : ℕ) → j ≡ id → Held jobs x id ttr second
    → is_job_that test (value_at j jobs) ≡ test (State.Reserved x (second + ttr))
found-held test jobs x id j ttr second same h =
    ap (λ q. is_job_that test (value_at q jobs)) same ∙ ap (is_job_that test) h.there ∙ ap test h.held

hold_if : (x id ttr second now : ℕ) (op : Op) (key : Key) (b : Bool) (r q : Row)
    → (b ≡ true → HoldAfter x id ttr second now op key r) → (b ≡ false → HoldAfter x id ttr second now op key q)
    → HoldAfter x id ttr second now op key (cond b r q)
hold_if x id ttr second now op key true r q f g = f refl
hold_if x id ttr second now op key false r q f g = g refl

not_both : (a b : Bool) → (a ≡ true → b ≡ true → ⊥) → (a && b) ≡ false
not_both true true h = absurd (h refl refl)
not_both true false h = refl
not_both false b h = refl

-- jobs that are not Reserved are not those that are held
unheld_apart : (jobs : List (ℕ × Job)) (hi x id ttr second : ℕ) (j : ℕ × Job) → Rising 1 hi jobs
    → Held jobs x id ttr second → In j jobs → is_held x j.1.state ≡ false → j.0 ≡ id → ⊥
unheld_apart jobs hi x id ttr second j sound h i idle same =
    let a : value_at id jobs ≡ Some j.1 = ap (λ q. value_at q jobs) (sym same) ∙ value_at-In 1 hi jobs j sound i in
    let b : h.job ≡ j.1 = cc in
    let c : is_held x j.1.state ≡ (x == x) = ap (λ (job : Job). is_held x job.state) (sym b) ∙ ap (is_held x) h.held in
    true≢false (sym (eq-eqb x x refl) ∙ sym c ∙ idle)

delayed_unheld : (x : ℕ) (st : State) → is_delayed st ≡ true → is_held x st ≡ false
delayed_unheld x State.Ready e = refl
delayed_unheld x (State.Delayed due) e = refl
delayed_unheld x (State.Reserved y due) e = cc
delayed_unheld x (State.Buried rank) e = refl

buried_unheld : (x : ℕ) (st : State) → is_buried st ≡ true → is_held x st ≡ false
buried_unheld x State.Ready e = refl
buried_unheld x (State.Delayed due) e = refl
buried_unheld x (State.Reserved y due) e = cc
buried_unheld x (State.Buried rank) e = refl

kicked-holds : (pick : List (ℕ × Job) → Option (ℕ × Job)) (x : ℕ)
    → ((jobs : List (ℕ × Job)) → IfSome (pick jobs) (λ e. In e jobs × (is_held x e.1.state ≡ false)))
    → (hi id ttr second n : ℕ) (jobs : List (ℕ × Job)) → Rising 1 hi jobs → Held jobs x id ttr second
    → Held (kicked pick n jobs).jobs x id ttr second
unfolding kicked
kicked-holds pick x picks hi id ttr second zero jobs r h = h
kicked-holds pick x picks hi id ttr second (suc n) jobs r h =
    elim (pick jobs) as (λ o. IfSome o (λ e. In e jobs × (is_held x e.1.state ≡ false)) → Held (kicked_option (kicked pick n) jobs o).jobs x id ttr second) [
      | None ↦ λ i. h
      | Some e ↦ λ i. kicked-holds pick x picks hi id ttr second n (altered e.0 kicked_job jobs)
          (Rising-altered _ _ 1 hi jobs r)
          (Held-altered_other e.0 kicked_job jobs x id ttr second
          (unheld_apart jobs hi x id ttr second e r h i.0 i.1) h)
    ] (picks jobs)

picks_buried : (x : ℕ) (tube : List ℕ) (jobs : List (ℕ × Job)) → IfSome (first_buried tube jobs) (λ e. In e jobs × (is_held x e.1.state ≡ false))
picks_buried x tube jobs =
    IfSome-map _ _ (first_buried tube jobs)
    (λ e h. (h.0, buried_unheld x e.1.state (and_parts (is_buried e.1.state) (bytes_eq tube e.1.tube) h.1).0))
    (least-in (buried_in tube) rank_of_job jobs)

picks_delayed : (x : ℕ) (tube : List ℕ) (jobs : List (ℕ × Job)) → IfSome (first_delayed tube jobs) (λ e. In e jobs × (is_held x e.1.state ≡ false))
picks_delayed x tube jobs =
    IfSome-map _ _ (first_delayed tube jobs)
    (λ e h. (h.0, delayed_unheld x e.1.state (and_parts (is_delayed e.1.state) (bytes_eq tube e.1.tube) h.1).0))
    (least-in (delayed_in tube) due_of_job jobs)

-- a change of the job j, allowed where the session of the key holds it, that ends the hold
held_row-ends : (x id ttr second now : ℕ) (op : Op) (key : Key) (s : QueueState) (j : ℕ) (test : State → Bool) (t : QueueState) (reply : Reply) →
    ((due : ℕ) → test (State.Reserved x due) ≡ (key.session == x)) →
    (j ≡ id → EndsHold id op reply) →
    is_touch id (Act.Do op) ≡ false →
    Held s.jobs x id ttr second →
    ((j ≡ id → ⊥) → Held t.jobs x id ttr second) →
    HoldAfter x id ttr second now op key (cond (is_job_that test (value_at j s.jobs)) (replies t reply) (replies s Reply.NotFound))
held_row-ends x id ttr second now op key s j test t reply tests ends untouched h other =
    hold_if x id ttr second now op key (is_job_that test (value_at j s.jobs)) _ _
    (λ e. elim (cases_eq j id) [
      | inl same ↦ ended reply (ends same)
          (eqb-true key.session x (sym (tests (second + ttr)) ∙ sym
          (found-held test s.jobs x id j ttr second same h) ∙ e)) refl
      | inr apart ↦ stays (other apart) (not_both _ _ (λ p q. true≢false (sym p ∙ untouched)))
    ])
    (λ e. stays h (not_both _ _ (λ p q. true≢false (sym p ∙ untouched))))

stays_same : (x id ttr second now : ℕ) (op : Op) (key : Key) (s : QueueState) (r : Row)
    → is_touch id (Act.Do op) ≡ false → Held r.state.jobs x id ttr second → HoldAfter x id ttr second now op key r
stays_same x id ttr second now op key s r untouched h = stays h (not_both _ _ (λ p q. true≢false (sym p ∙ untouched)))

-- x's touch of a job that it holds
touched_held : (x id ttr second y j : ℕ) (s : QueueState) → Held s.jobs x id ttr second → j ≡ id → y ≡ x
    → Held (altered j (λ job. with_state (State.Reserved y (s.now + job.ttr)) job) s.jobs) x id ttr s.now
touched_held x id ttr second y j s h same who =
    subst (λ q. Held (altered q (λ job. with_state (State.Reserved y (s.now + job.ttr)) job) s.jobs) x id ttr s.now) (sym same)
    (subst (λ t. Held (altered id (λ job. with_state (State.Reserved y (s.now + job.ttr)) job) s.jobs) x id t s.now) h.runs
    (Held-reserved s.jobs x id s.now (λ job. with_state (State.Reserved y (s.now + job.ttr)) job) h.job h.there
    (ap (λ z. State.Reserved z (s.now + h.job.ttr)) who) refl))

-- a delete of the job ends the hold, where it is the holder's
deleted-holds : (x id ttr second j : ℕ) (key : Key) (s : QueueState) → Held s.jobs x id ttr second
    → HoldAfter x id ttr second s.now (Op.Delete j) key (delete_found s key.session j (value_at j s.jobs))
deleted-holds x id ttr second j key s h =
    elim (value_at j s.jobs) as (λ o. value_at j s.jobs ≡ o
    → HoldAfter x id ttr second s.now (Op.Delete j) key (delete_found s key.session j o)) [
      | None ↦ λ there. stays_same x id ttr second s.now _ key s _ refl h
      | Some job ↦ λ there.
          hold_if x id ttr second s.now (Op.Delete j) key (may_delete key.session job.state) _ _
          (λ may. elim (cases_eq j id) [
            | inl same ↦
                let held : job ≡ h.job = sameness job h.job (sym there ∙ ap (λ q. value_at q s.jobs) same ∙ h.there) in
                ended Reply.Deleted (by_delete j same)
                (eqb-true key.session x (sym (ap (may_delete key.session) (ap (λ (job : Job). job.state) held ∙ h.held)) ∙ may)) refl
            | inr apart ↦
                stays_same x id ttr second s.now _ key s _ refl
                (record { job = h.job; there = value_at-without_other j id s.jobs apart ∙ h.there; runs = h.runs; held = h.held })
          ])
          (λ kept. stays_same x id ttr second s.now _ key s _ refl h)
    ] refl

-- a job that another session is given stays as it was where it is held
found-holds : (x id ttr second k : ℕ) (key : Key) (s : QueueState) → Held s.jobs x id ttr second
    → HoldAfter x id ttr second s.now (Op.ReserveJob k) key (reserve_found s key.session k (value_at k s.jobs))
found-holds x id ttr second k key s h =
    elim (value_at k s.jobs) as (λ o. value_at k s.jobs ≡ o
    → HoldAfter x id ttr second s.now (Op.ReserveJob k) key (reserve_found s key.session k o)) [
      | None ↦ λ there. stays_same x id ttr second s.now _ key s _ refl h
      | Some job ↦ λ there.
          hold_if x id ttr second s.now (Op.ReserveJob k) key (is_unreserved job.state) _ _
          (λ free. stays_same x id ttr second s.now _ key s _ refl
          (Held-altered_other k _ s.jobs x id ttr second
          (λ same. free-unheld s.jobs k job there free x ttr second (subst (λ q. Held s.jobs x q ttr second) (sym same) h)) h))
          (λ taken. stays_same x id ttr second s.now _ key s _ refl h)
    ] refl

pub row-holds : (x id ttr second : ℕ) (op : Op) (key : Key) (s : QueueState) → HasRisingIds s
    → Held s.jobs x id ttr second → HoldAfter x id ttr second s.now op key (row op key s)
unfolding row put_row use_row watch_row ignore_row reserve_row delete_row release_row touch_row bury_row kick_row kick_job_row
    reserve_job_row peek_row pause_row stats_job_row stats_tube_row stats_row
row-holds x id ttr second (Op.Put pri delay t body) key s sound h =
    stays_same x id ttr second s.now _ key s _ refl (record {
      job = h.job;
      there =
          value_at-insert_other s.next_id id _ s.jobs (λ same. omega (arith, same, value_at-below 1 s.next_id id s.jobs h.job sound h.there)) ∙
          h.there;
      runs = h.runs;
      held = h.held;
    })
row-holds x id ttr second (Op.Use tube) key s sound h = stays_same x id ttr second s.now _ key s _ refl h
row-holds x id ttr second (Op.Watch tube) key s sound h = stays_same x id ttr second s.now _ key s _ refl h
row-holds x id ttr second (Op.Ignore tube) key s sound h =
    hold_if x id ttr second s.now _ key (is_alone tube (watched_by s key.session)) _ _
    (λ e. stays_same x id ttr second s.now _ key s _ refl h)
    (λ e. stays_same x id ttr second s.now _ key s _ refl h)
row-holds x id ttr second (Op.Reserve seconds) key s sound h = stays_same x id ttr second s.now _ key s _ refl h
row-holds x id ttr second (Op.Delete j) key s sound h = deleted-holds x id ttr second j key s h
row-holds x id ttr second (Op.Release j pri delay) key s sound h =
    held_row-ends x id ttr second s.now (Op.Release j pri delay) key s j (is_held key.session) _ Reply.Released
    (λ due. refl) (λ e. by_release j pri delay e) refl h
    (λ apart. Held-altered_other j _ s.jobs x id ttr second apart h)
row-holds x id ttr second (Op.Bury j pri) key s sound h =
    held_row-ends x id ttr second s.now (Op.Bury j pri) key s j (is_held key.session) _ Reply.Buried (λ due. refl) (λ e. by_bury j pri e) refl h
    (λ apart. Held-altered_other j _ s.jobs x id ttr second apart h)
row-holds x id ttr second (Op.Touch j) key s sound h =
    elim (cases_eq j id) [
      | inr apart ↦
          hold_if x id ttr second s.now (Op.Touch j) key (is_job_that (is_held key.session) (value_at j s.jobs)) _ _
          (λ e. stays (Held-altered_other j _ s.jobs x id ttr second apart h) (not_both _ _ (λ p q. apart (sym (eqb-true id j p)))))
          (λ e. stays h (not_both _ _ (λ p q. apart (sym (eqb-true id j p)))))
      | inl same ↦
          hold_if x id ttr second s.now (Op.Touch j) key (is_job_that (is_held key.session) (value_at j s.jobs)) _ _
          (λ e.
          let who : key.session ≡ x = eqb-true key.session x (sym (found-held (is_held key.session) s.jobs x id j ttr second same h) ∙ e) in
          renewed
          (touched_held x id ttr second key.session j s h same who)
          (eq-eqb id j (sym same)) who refl)
          (λ e. stays h (not_both _ _ (λ p q. true≢false (sym q ∙ sym (found-held (is_held key.session) s.jobs x id j ttr second same h) ∙ e))))
    ]
row-holds x id ttr second (Op.Kick bound) key s sound h =
    stays_same x id ttr second s.now (Op.Kick bound) key s _ refl
    (elim (is_some (first_buried (used_by s key.session) s.jobs)) as (λ b. Held
    (kicked (cond b (first_buried (used_by s key.session)) (first_delayed (used_by s key.session))) bound
    s.jobs).jobs x id ttr second) [
      | true ↦ kicked-holds (first_buried (used_by s key.session)) x (picks_buried x (used_by s key.session)) s.next_id id ttr second bound s.jobs sound h
      | false ↦ kicked-holds (first_delayed (used_by s key.session)) x (picks_delayed x (used_by s key.session)) s.next_id id ttr second bound s.jobs sound h
    ])
row-holds x id ttr second (Op.KickJob j) key s sound h =
    hold_if x id ttr second s.now (Op.KickJob j) key (is_job_that is_idle (value_at j s.jobs)) _ _
    (λ e. stays_same x id ttr second s.now (Op.KickJob j) key s _ refl
    (Held-altered_other j _ s.jobs x id ttr second
    (λ same. true≢false (sym e ∙ found-held is_idle s.jobs x id j ttr second same h)) h))
    (λ e. stays_same x id ttr second s.now (Op.KickJob j) key s _ refl h)
row-holds x id ttr second (Op.ReserveJob j) key s sound h = found-holds x id ttr second j key s h
row-holds x id ttr second (Op.Peek j) key s sound h = stays_same x id ttr second s.now _ key s _ refl h
row-holds x id ttr second Op.PeekReady key s sound h = stays_same x id ttr second s.now _ key s _ refl h
row-holds x id ttr second Op.PeekDelayed key s sound h = stays_same x id ttr second s.now _ key s _ refl h
row-holds x id ttr second Op.PeekBuried key s sound h = stays_same x id ttr second s.now _ key s _ refl h
row-holds x id ttr second Op.ListTubes key s sound h = stays_same x id ttr second s.now _ key s _ refl h
row-holds x id ttr second Op.ListTubeUsed key s sound h = stays_same x id ttr second s.now _ key s _ refl h
row-holds x id ttr second Op.ListTubesWatched key s sound h = stays_same x id ttr second s.now _ key s _ refl h
row-holds x id ttr second (Op.Pause tube seconds) key s sound h =
    hold_if x id ttr second s.now _ key (is_among tube (all_tubes s)) _ _
    (λ e. stays_same x id ttr second s.now _ key s _ refl h)
    (λ e. stays_same x id ttr second s.now _ key s _ refl h)
row-holds x id ttr second (Op.StatsJob j) key s sound h = stays_same x id ttr second s.now _ key s _ refl h
row-holds x id ttr second (Op.StatsTube tube) key s sound h = stays_same x id ttr second s.now _ key s _ refl h
row-holds x id ttr second Op.Stats key s sound h = stays_same x id ttr second s.now _ key s _ refl h
