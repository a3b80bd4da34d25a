-- The tubes that an operation wakes cover all that can be given after it.
use Rattle.std.proofs.Common.{◌≡◌, ℕ, zero, suc, ◌^◌, Bool, true, false, cond, ◌&&◌, ◌⊎◌, inl, inr, List, [], ◌∷◌}
use Rattle.std.proofs.Common.{Option, Some, None, IfSome, is_some, ◌==◌, bytes_eq, refl, sym, ap, subst, ◌∙◌}
use Rattle.std.proofs.Common.{eqb-true, true≢false}
use Rattle.std.proofs.lemmas.Bool.{and_parts, and_from}
use Rattle.std.proofs.lemmas.Slice.Eq.{bytes_eq-Decides}
use Rattle.object.specs.Lists.{In}
use Rattle.object.specs.declared.command.Key.{Key}
use Rattle.job_store.specs.declared.job.Job.{Job}
use Rattle.job_store.specs.Entries.{Rising, value_at, with_value, altered}
use Rattle.job_store.specs.EntryLaws.{altered-in, insert-in, value_at-In, Rising-altered}
use Rattle.job_store.specs.LookUps.{is_among, ready_in, first_buried, first_delayed, buried_in, delayed_in, pri_of_job, rank_of_job, due_of_job, not_paused}
use Rattle.job_store.specs.States.{is_ready, is_held, is_buried, is_delayed, released_job, kicked_job}
use Rattle.session_store.specs.declared.session.SessionState.{SessionState}
use Rattle.session_store.specs.Sessions.{is_waiting}
use Rattle.session_store.specs.WatchLists.{joined}
use Rattle.pause_store.specs.Pauses.{is_paused, paused_for, tubes_over}
use Rattle.pause_store.proofs.OneTube.{others, goes-on-or-over}
use Rattle.pause_store.proofs.Over.{joined-keeps, joined-has}
use Rattle.bean_words.specs.declared.op.Op.{Op}
use Rattle.bean_queue.specs.Best.{IsWanted}
use Rattle.bean_queue.specs.Queue.{QueueState, paused_tubes, pauses_of, used_by}
use Rattle.bean_queue.specs.Rows.{Row, kicked, kicked_option, put_job, ready_after, is_job_that, is_idle, row, put_row}
use Rattle.bean_queue.specs.Rows.{release_row, kick_row, kick_job_row, pause_row}
use Rattle.bean_queue.specs.Tubes.{all_tubes}
use Rattle.bean_queue.specs.Turns.{serve_turn}
use Rattle.bean_queue.specs.TurnLaws.{least-none, least-in, IfSome-map}
use Rattle.bean_queue.specs.Effects.{released, second_begun, is_quiet}
use Rattle.bean_queue.specs.Reserving.{is_reserve}
use Rattle.bean_queue.specs.Woken.{Covers, AreWoken, tube_of, woken_by}
use Rattle.bean_queue.proofs.best.Paused.{watched-open}
use Rattle.bean_queue.proofs.calm.Calm.{ended-calmer}
use Rattle.bean_queue.proofs.best.Served.{idle_none}

-- Where nothing is left to give

pub nothing-wanted : (s : QueueState) (j : ℕ × Job) → serve_turn s ≡ None → IsWanted s j → ⊥
nothing-wanted s j none w =
    least-none (ready_in (not_paused (paused_tubes s) w.watched.0.1.watched)) pri_of_job s.jobs j
    (idle_none s none w.watched.0 w.watched.1 w.watched.2)
    w.there
    (and_from (is_ready j.1.state) (is_among j.1.tube (not_paused (paused_tubes s) w.watched.0.1.watched)) w.ready
    (watched-open (paused_tubes s) w.watched.0.1.watched j.1.tube w.watched.3 w.unpaused))

covers-nothing : (tubes : List (List ℕ)) (s : QueueState) → serve_turn s ≡ None → Covers tubes s
covers-nothing tubes s none j w = absurd (nothing-wanted s j none w)

-- a tube that is not paused was not so before, or is one of these
abbrev Opens : List (List ℕ) → QueueState → QueueState → Type 0
Opens tubes s t = (tube : List ℕ) → is_paused tube t.pauses ≡ false → (is_paused tube s.pauses ≡ false) ⊎ In tube tubes

-- what can be given is of a job that became ready, or in a tube that is paused no longer
covers-new : (tubes : List (List ℕ)) (s t : QueueState) → serve_turn s ≡ None
    → ((w : ℕ × SessionState) → In w t.sessions → is_waiting w.1 ≡ true → In w s.sessions) → Opens tubes s t
    → AreWoken tubes s.jobs t.jobs → Covers tubes t
covers-new tubes s t none fewer opens woken j w =
    elim (woken j w.there w.ready) as (λ v. In j.1.tube tubes) [
      | inl was ↦ elim (opens j.1.tube w.unpaused) as (λ v. In j.1.tube tubes) [
        | inl open-before ↦ absurd (nothing-wanted s j none
            (record {
              there = was;
              ready = w.ready;
              unpaused = open-before;
              watched =
                  (w.watched.0, fewer w.watched.0 w.watched.1 w.watched.2, w.watched.2, w.watched.3);
            }))
        | inr named ↦ named
      ]
      | inr named ↦ named
    ]

-- Jobs that become ready

-- none did
pub none-woken : (tubes : List (List ℕ)) (jobs : List (ℕ × Job)) → AreWoken tubes jobs jobs
none-woken tubes jobs j i t = inl i

woken-then : (tubes : List (List ℕ)) (a b c : List (ℕ × Job)) → AreWoken tubes a b → AreWoken tubes b c → AreWoken tubes a c
woken-then tubes a b c first then j i t = elim (then j i t) as (λ v. In j a ⊎ In j.1.tube tubes) [ inl was ↦ first j was t | inr named ↦ inr named ]

pub woken-more : (tubes more : List (List ℕ)) (a b : List (ℕ × Job)) → ((tube : List ℕ) → In tube tubes → In tube more) → AreWoken tubes a b → AreWoken more a b
woken-more tubes more a b keeps woken j i t =
    elim (woken j i t) as (λ v. In j a
    ⊎ In j.1.tube more) [ inl was ↦ inl was | inr named ↦ inr (keeps j.1.tube named) ]

-- the job at an id
altered-woken : (id hi : ℕ) (f : Job → Job) (jobs : List (ℕ × Job)) → Rising 0 hi jobs
    → ((job : Job) → (f job).tube ≡ job.tube) → AreWoken (tube_of (value_at id jobs)) jobs (altered id f jobs)
altered-woken id hi f jobs r same =
    altered-in id f (λ j. is_ready j.1.state ≡ true → In j jobs ⊎ In j.1.tube (tube_of (value_at id jobs))) jobs
    (λ d there.
    elim (id == d.0) as (λ b. (id == d.0) ≡ b → is_ready (cond b (f d.1) d.1).state ≡ true
    → In (d.0, cond b (f d.1) d.1) jobs ⊎ In (cond b (f d.1) d.1).tube (tube_of (value_at id jobs))) [
      | true ↦ λ e t.
          let found : value_at id jobs ≡ Some d.1 = ap (λ k. value_at k jobs) (eqb-true id d.0 e) ∙ value_at-In 0 hi jobs d r there in
          inr (subst (λ o. In (f d.1).tube (tube_of o)) (sym found) (inl (same d.1)))
      | false ↦ λ e t. inl there
    ] refl)

-- a job that stands there, which is changed
one-woken : (hi : ℕ) (f : Job → Job) (jobs : List (ℕ × Job)) (e : ℕ × Job) → ((job : Job) → (f job).tube ≡ job.tube)
    → Rising 0 hi jobs → In e jobs → AreWoken (e.1.tube ∷ []) jobs (altered e.0 f jobs)
one-woken hi f jobs e same r there =
    subst (λ o. AreWoken (tube_of o) jobs (altered e.0 f jobs)) (value_at-In 0 hi jobs e r there)
    (altered-woken e.0 hi f jobs r same)

-- a job that is put
put-woken : (id : ℕ) (job : Job) (jobs : List (ℕ × Job)) → AreWoken (job.tube ∷ []) jobs (with_value id job jobs)
put-woken id job jobs =
    insert-in (λ j. is_ready j.1.state ≡ true → In j jobs ⊎ In j.1.tube (job.tube ∷ [])) id job jobs (λ q t. inr (inl refl)) (λ d there t. inl there)

-- Kicks

-- what is picked is a job of the tube
abbrev PicksIn : List ℕ → (List (ℕ × Job) → Option (ℕ × Job)) → Type 0
PicksIn tube pick = (jobs : List (ℕ × Job)) → IfSome (pick jobs) (λ e. In e jobs × (e.1.tube ≡ tube))

kicked-woken : (tube : List ℕ) (pick : List (ℕ × Job) → Option (ℕ × Job)) → PicksIn tube pick
    → (n hi : ℕ) (jobs : List (ℕ × Job)) → Rising 0 hi jobs → AreWoken (tube ∷ []) jobs (kicked pick n jobs).jobs
unfolding kicked
kicked-woken tube pick picks zero hi jobs r = none-woken (tube ∷ []) jobs
kicked-woken tube pick picks (suc n) hi jobs r =
    elim (pick jobs) as (λ o. IfSome o (λ e. In e jobs × (e.1.tube ≡ tube)) → AreWoken (tube ∷ []) jobs (kicked_option (kicked pick n) jobs o).jobs) [
      | None ↦ λ p. none-woken (tube ∷ []) jobs
      | Some e ↦ λ p.
          woken-then (tube ∷ []) jobs (altered e.0 kicked_job jobs) (kicked pick n (altered e.0 kicked_job jobs)).jobs
          (subst (λ t. AreWoken (t ∷ []) jobs (altered e.0 kicked_job jobs)) p.1 (one-woken hi kicked_job jobs e (λ job. refl) r p.0))
          (kicked-woken tube pick picks n hi (altered e.0 kicked_job jobs) (Rising-altered e.0 kicked_job 0 hi jobs r))
    ] (picks jobs)

its-tube : (b : Bool) (tube of : List ℕ) → (b && bytes_eq tube of) ≡ true → of ≡ tube
its-tube b tube of t = sym ((bytes_eq-Decides tube of).0 (and_parts b (bytes_eq tube of) t).1)

picks-buried : (tube : List ℕ) → PicksIn tube (first_buried tube)
picks-buried tube jobs =
    IfSome-map _ _ (first_buried tube jobs) (λ e h. (h.0, its-tube (is_buried e.1.state) tube e.1.tube h.1)) (least-in (buried_in tube) rank_of_job jobs)

picks-delayed : (tube : List ℕ) → PicksIn tube (first_delayed tube)
picks-delayed tube jobs =
    IfSome-map _ _ (first_delayed tube jobs) (λ e h. (h.0, its-tube (is_delayed e.1.state) tube e.1.tube h.1)) (least-in (delayed_in tube) due_of_job jobs)

kick-woken : (tube : List ℕ) (b : Bool) (bound hi : ℕ) (jobs : List (ℕ × Job)) → Rising 0 hi jobs
    → AreWoken (tube ∷ []) jobs (kicked (cond b (first_buried tube) (first_delayed tube)) bound jobs).jobs
kick-woken tube true bound hi jobs r = kicked-woken tube (first_buried tube) (picks-buried tube) bound hi jobs r
kick-woken tube false bound hi jobs r = kicked-woken tube (first_delayed tube) (picks-delayed tube) bound hi jobs r

-- Operations

covers_if : (tubes : List (List ℕ)) (b : Bool) (r q : Row) → Covers tubes r.state → Covers tubes q.state → Covers tubes (cond b r q).state
covers_if tubes true r q h k = h
covers_if tubes false r q h k = k

-- a pause opens its own tube at most
paused-opens : (tube : List ℕ) (seconds : ℕ) (s : QueueState) → Opens (tube ∷ []) s (record s { pauses = (paused_for tube seconds (pauses_of s)).pauses })
paused-opens tube seconds s other u =
    elim (bytes_eq other tube) as (λ b. bytes_eq other tube ≡ b → (is_paused other s.pauses ≡ false) ⊎ In other (tube ∷ [])) [
      | true ↦ λ t. inr (inl ((bytes_eq-Decides other tube).0 t))
      | false ↦ λ t. inl (sym (others tube other seconds (pauses_of s) (λ same. true≢false (sym ((bytes_eq-Decides other tube).1 same) ∙ t))) ∙ u)
    ] refl

row-covers : (op : Op) (key : Key) (s : QueueState) → is_quiet op ≡ false → is_reserve op ≡ false → serve_turn s ≡ None
    → Rising 0 (2 ^ 64) s.jobs → Rising 0 (2 ^ 32) s.sessions → Covers (woken_by op key s) (row op key s).state
unfolding row put_row release_row kick_row kick_job_row pause_row
row-covers (Op.Put pri delay ttr body) key s q wakes none ids numbers =
    covers-new (used_by s key.session ∷ []) s _ none (λ w i t. i) (λ tube u. inl u) (put-woken s.next_id (put_job s key.session pri delay ttr body) s.jobs)
row-covers (Op.Reserve seconds) key s q wakes none ids numbers = cc
row-covers (Op.Release id pri delay) key s q wakes none ids numbers =
    covers_if (tube_of (value_at id s.jobs)) (is_job_that (is_held key.session) (value_at id s.jobs)) _ _
    (covers-new (tube_of (value_at id s.jobs)) s _ none (λ w i t. i) (λ tube u. inl u)
    (altered-woken id (2 ^ 64) (released_job pri delay (ready_after s.now delay)) s.jobs ids (λ job. refl)))
    (covers-nothing (tube_of (value_at id s.jobs)) s none)
row-covers (Op.Kick bound) key s q wakes none ids numbers =
    covers-new (used_by s key.session ∷ []) s _ none (λ w i t. i) (λ tube u. inl u)
    (kick-woken (used_by s key.session) (is_some (first_buried (used_by s key.session) s.jobs)) bound
    (2 ^ 64) s.jobs ids)
row-covers (Op.KickJob id) key s q wakes none ids numbers =
    covers_if (tube_of (value_at id s.jobs)) (is_job_that is_idle (value_at id s.jobs)) _ _
    (covers-new (tube_of (value_at id s.jobs)) s _ none (λ w i t. i) (λ tube u. inl u)
    (altered-woken id (2 ^ 64) kicked_job s.jobs ids (λ job. refl)))
    (covers-nothing (tube_of (value_at id s.jobs)) s none)
row-covers (Op.Use tube) key s q wakes none ids numbers = cc
row-covers (Op.Watch tube) key s q wakes none ids numbers = cc
row-covers (Op.Ignore tube) key s q wakes none ids numbers = cc
row-covers (Op.Delete id) key s q wakes none ids numbers = cc
row-covers (Op.Touch id) key s q wakes none ids numbers = cc
row-covers (Op.Bury id pri) key s q wakes none ids numbers = cc
row-covers (Op.ReserveJob id) key s q wakes none ids numbers = cc
row-covers (Op.Peek id) key s q wakes none ids numbers = cc
row-covers Op.PeekReady key s q wakes none ids numbers = cc
row-covers Op.PeekDelayed key s q wakes none ids numbers = cc
row-covers Op.PeekBuried key s q wakes none ids numbers = cc
row-covers Op.ListTubes key s q wakes none ids numbers = cc
row-covers Op.ListTubeUsed key s q wakes none ids numbers = cc
row-covers Op.ListTubesWatched key s q wakes none ids numbers = cc
row-covers (Op.Pause tube seconds) key s q wakes none ids numbers =
    covers_if (tube ∷ []) (is_among tube (all_tubes s)) _ _
    (covers-new (tube ∷ []) s _ none (λ w i t. i) (paused-opens tube seconds s) (none-woken (tube ∷ []) s.jobs))
    (covers-nothing (tube ∷ []) s none)
row-covers (Op.StatsJob id) key s q wakes none ids numbers = cc
row-covers (Op.StatsTube tube) key s q wakes none ids numbers = cc
row-covers Op.Stats key s q wakes none ids numbers = cc

-- after such an operation
pub covers-waking : (op : Op) (key : Key) (s t : QueueState) (tubes : List (List ℕ)) → is_quiet op ≡ false
    → is_reserve op ≡ false → serve_turn s ≡ None → Rising 0 (2 ^ 64) s.jobs → Rising 0 (2 ^ 32) s.sessions
    → tubes ≡ woken_by op key s → t ≡ (row op key s).state → Covers tubes t
covers-waking op key s t tubes loud wakes none ids numbers woken e =
    subst (λ ts. Covers ts t) (sym woken) (subst (Covers (woken_by op key s)) (sym e) (row-covers op key s loud wakes none ids numbers))

-- after a second has come
pub covers-second : (tubes : List (List ℕ)) (second : ℕ) (s t : QueueState) → serve_turn s ≡ None
    → t ≡ second_begun second s → AreWoken tubes s.jobs t.jobs
    → ((tube : List ℕ) → In tube (tubes_over second s.pauses) → In tube tubes) → Covers tubes t
covers-second tubes second s t none e woken over =
    covers-new tubes s t none (λ w i waits. subst (λ (u : QueueState). In w u.sessions) e i)
    (λ tube u.
    elim (is_paused tube s.pauses) as (λ b. is_paused tube s.pauses ≡ b → (b ≡ false) ⊎ In tube tubes) [
      | true ↦ λ paused. inr (over tube (goes-on-or-over tube second s.pauses paused (subst (λ (v : QueueState). is_paused tube v.pauses ≡ false) e u)))
      | false ↦ λ _. inl refl
    ] refl)
    woken

-- after a session has given its jobs back
pub covers-released : (tubes : List (List ℕ)) (x : ℕ) (s t : QueueState) → serve_turn s ≡ None → t ≡ released x s
    → AreWoken tubes s.jobs t.jobs → Covers tubes t
covers-released tubes x s t none e woken =
    covers-new tubes s t none (λ w i waits. ended-calmer x s.sessions w
    (subst (λ (u : QueueState). In w u.sessions) e i) waits)
    (λ tube u. inl (subst (λ (v : QueueState). is_paused tube v.pauses ≡ false) e u)) woken

-- Tubes that are gathered one by one

-- one job more was made ready, and its tube was added
pub gathered : (hi : ℕ) (first jobs new : List (ℕ × Job)) (e : ℕ × Job) (tubes more : List (List ℕ)) (name : List ℕ)
    → (f : Job → Job) → ((job : Job) → (f job).tube ≡ job.tube) → Rising 0 hi jobs → In e jobs → new ≡ altered e.0 f jobs
    → name ≡ e.1.tube
    → more ≡ joined name tubes → AreWoken tubes first jobs → AreWoken more first new
gathered hi first jobs new e tubes more name f same_tube r there n copied added woken =
    let one : AreWoken (e.1.tube ∷ []) jobs new = subst (AreWoken (e.1.tube ∷ []) jobs) (sym n) (one-woken hi f jobs e same_tube r there) in
    let same : more ≡ joined e.1.tube tubes = added ∙ ap (λ m. joined m tubes) copied in
    woken-then more first jobs new
    (woken-more tubes more first jobs (λ tube i. subst (In tube) (sym same) (joined-keeps e.1.tube tubes tube i)) woken)
    (woken-more (e.1.tube ∷ []) more jobs new
    (λ tube i. elim i as (λ v. In tube more) [
      | inl here ↦ subst (In tube) (sym same)
          (subst (λ t. In t (joined e.1.tube tubes)) (sym here) (joined-has e.1.tube tubes))
      | inr never ↦ absurd never
    ])
    one)
