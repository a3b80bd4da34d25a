-- What a row makes of a state is the same but for histories, whatever they were.
use Rattle.std.proofs.Common.{◌≡◌, ℕ, zero, suc, ◌+◌, Bool, true, false, cond, List, [], ◌∷◌, ◌++◌, Option, Some, None, option_map}
use Rattle.std.proofs.Common.{codes, flat_map, is_some, refl, sym, ap, subst, ◌∙◌}
use Rattle.object.specs.declared.command.Key.{Key}
use Rattle.job_store.specs.declared.job.Job.{Job}
use Rattle.job_store.specs.declared.state.State.{State}
use Rattle.job_store.specs.Entries.{value_at, altered}
use Rattle.job_store.specs.EntryLaws.{value_at-each}
use Rattle.job_store.specs.States.{is_held, with_state, reserved_job, released_job, buried_job, kicked_job}
use Rattle.job_store.specs.LookUps.{is_among, ready_in, delayed_in, buried_in, first_ready, first_delayed, first_buried}
use Rattle.job_store.specs.LookUps.{pri_of_job, due_of_job, rank_of_job}
use Rattle.session_store.specs.WatchLists.{joined, left_out}
use Rattle.pause_store.specs.Pauses.{paused_for}
use Rattle.bean_words.specs.declared.op.Op.{Op}
use Rattle.bean_words.specs.declared.reply.Reply.{Reply}
use Rattle.bean_queue.specs.Queue.{QueueState, pauses_of, used_by}
use Rattle.bean_queue.specs.Forgetful.{without_history, uncounted, without_counts, is_report}
use Rattle.bean_queue.specs.Rows.{Row, replies, with_session, row, put_job, put_row, use_row, watch_row, ignore_row, waiting}
use Rattle.bean_queue.specs.Rows.{reserve_row, is_job_that, may_delete, delete_found, delete_row, held_row, ready_after, release_row, touch_row}
use Rattle.bean_queue.specs.Rows.{bury_row, Kicked, kicked_option, kicked, kick_by, kick_row, is_idle, kick_job_row, shown}
use Rattle.bean_queue.specs.Rows.{is_unreserved, reserve_found, reserve_job_row, at_id, peek_row, pause_row}
use Rattle.bean_queue.specs.Tubes.{in_order, all_tubes}
use Rattle.bean_queue.proofs.blind.Jobs.{blank, blanks, IsBlind, blanks-twice, altered-blind, without-blind, insert-blind, least-blind, tubes-blind}

-- the replies are the same, and the states but for histories
pub record SameRow (r q : Row) : Type 0 where
  pub reply : r.reply ≡ q.reply
  pub state : without_counts r.state ≡ without_counts q.state

same_if : (b c : Bool) (r q s t : Row) → b ≡ c → SameRow r s → SameRow q t → SameRow (cond b r q) (cond c s t)
same_if b c r q s t e h k =
    subst (λ d. SameRow (cond b r q) (cond d s t)) e (elim b as (λ b. SameRow (cond b r q) (cond b s t)) [ true ↦ h | false ↦ k ])

-- a reply, and nothing changes
same_reply : (s : QueueState) (a b : Reply) → a ≡ b → SameRow (replies (without_counts s) a) (replies s b)
same_reply s a b e = record { reply = ap Some e; state = ap (uncounted s) (blanks-twice s.jobs) }

-- the state changes, and not in its jobs
same_jobs : (s : QueueState) (o : Option Reply) → SameRow (record { state = without_counts s; reply = o }) (record { state = s; reply = o })
same_jobs s o = record { reply = refl; state = ap (uncounted s) (blanks-twice s.jobs) }

asked-blind : (test : State → Bool) (id : ℕ) (jobs : List (ℕ × Job)) → is_job_that test (value_at id (blanks jobs)) ≡ is_job_that test (value_at id jobs)
asked-blind test id jobs =
    ap (is_job_that test) (value_at-each without_history id jobs) ∙
    elim (value_at id jobs) as (λ o. is_job_that test (option_map without_history o) ≡ is_job_that test o) [ None ↦ refl | Some job ↦ refl ]

held-blind : (s : QueueState) (x id : ℕ) (f : Job → Job) (reply : Reply) → IsBlind f
    → SameRow (held_row (without_counts s) x id f reply) (held_row s x id f reply)
held-blind s x id f reply blind =
    same_if _ _ _ _ _ _ (asked-blind (is_held x) id s.jobs)
    (record { reply = refl; state = ap (uncounted s) (altered-blind id f s.jobs blind) })
    (same_reply s Reply.NotFound Reply.NotFound refl)

-- Kicks

pub record SameKicked (k m : Kicked) : Type 0 where
  pub count : k.count ≡ m.count
  pub jobs : blanks k.jobs ≡ blanks m.jobs

-- what is picked doesn't depend on histories
abbrev IsBlindPick : (List (ℕ × Job) → Option (ℕ × Job)) → Type 0
IsBlindPick pick = (jobs : List (ℕ × Job)) → pick (blanks jobs) ≡ option_map blank (pick jobs)

kicked-blind : (pick : List (ℕ × Job) → Option (ℕ × Job)) → IsBlindPick pick → (n : ℕ) (jobs : List (ℕ × Job))
    → SameKicked (kicked pick n (blanks jobs)) (kicked pick n jobs)
unfolding kicked
kicked-blind pick blind zero jobs = record { count = refl; jobs = blanks-twice jobs }
kicked-blind pick blind (suc n) jobs =
    subst (λ o. SameKicked (kicked_option (kicked pick n) (blanks jobs) o) (kicked_option (kicked pick n) jobs (pick jobs))) (sym (blind jobs))
    (elim (pick jobs) as (λ o. SameKicked (kicked_option (kicked pick n) (blanks jobs) (option_map blank o)) (kicked_option (kicked pick n) jobs o)) [
      | None ↦ record { count = refl; jobs = blanks-twice jobs }
      | Some e ↦
          let one = kicked-blind pick blind n (altered e.0 kicked_job (blanks jobs)) in
          let two = kicked-blind pick blind n (altered e.0 kicked_job jobs) in
          let same : blanks (altered e.0 kicked_job (blanks jobs)) ≡ blanks (altered e.0 kicked_job jobs) =
          altered-blind e.0 kicked_job jobs (λ job. refl) in
          record {
            count = ap (λ n. n + 1) (sym one.count ∙ ap (λ js. (kicked pick n js).count) same ∙ two.count);
            jobs = sym one.jobs ∙ ap (λ js. blanks (kicked pick n js).jobs) same ∙ two.jobs;
          }
    ])

first_ready-blind : (tube : List ℕ) → IsBlindPick (first_ready tube)
first_ready-blind tube jobs = least-blind (ready_in (tube ∷ [])) pri_of_job jobs (λ e. refl) (λ job. refl)

first_delayed-blind : (tube : List ℕ) → IsBlindPick (first_delayed tube)
first_delayed-blind tube jobs = least-blind (delayed_in tube) due_of_job jobs (λ e. refl) (λ job. refl)

first_buried-blind : (tube : List ℕ) → IsBlindPick (first_buried tube)
first_buried-blind tube jobs = least-blind (buried_in tube) rank_of_job jobs (λ e. refl) (λ job. refl)

-- whether there is one
some-blind : (o : Option (ℕ × Job)) → is_some (option_map blank o) ≡ is_some o
some-blind None = refl
some-blind (Some e) = refl

idle-blind : (tube : List ℕ) (b : Bool) → IsBlindPick (cond b (first_buried tube) (first_delayed tube))
idle-blind tube true = first_buried-blind tube
idle-blind tube false = first_delayed-blind tube

kick-blind : (s : QueueState) (x bound : ℕ) → SameRow (kick_row (without_counts s) x bound) (kick_row s x bound)
unfolding kick_row
kick-blind s x bound =
    let tube = used_by s x in
    let buried : is_some (first_buried (used_by s x) (blanks s.jobs)) ≡ is_some (first_buried (used_by s x) s.jobs) =
    ap is_some (first_buried-blind (used_by s x) s.jobs) ∙ some-blind (first_buried (used_by s x) s.jobs) in
    let k = kicked-blind (cond (is_some (first_buried (used_by s x) s.jobs)) (first_buried (used_by s x)) (first_delayed (used_by s x)))
    (idle-blind (used_by s x) (is_some (first_buried (used_by s x) s.jobs))) bound s.jobs in
    subst (λ b. SameRow (kick_by (without_counts s) (kicked (cond b (first_buried (used_by s x)) (first_delayed (used_by s x))) bound (blanks s.jobs)))
    (kick_by s (kicked (cond (is_some (first_buried (used_by s x) s.jobs)) (first_buried (used_by s x)) (first_delayed (used_by s x))) bound s.jobs)))
    (sym buried)
    (record { reply = ap (λ n. Some (Reply.KickedCount n)) k.count; state = ap (uncounted s) k.jobs })

-- Look-ups

shown-blind : (o : Option (ℕ × Job)) → shown (option_map blank o) ≡ shown o
shown-blind None = refl
shown-blind (Some e) = refl

at_id-blind : (id : ℕ) → IsBlindPick (at_id id)
at_id-blind id jobs =
    ap (λ (o : Option Job). elim o as (λ _. Option (ℕ × Job)) [ None ↦ None | Some job ↦ Some (id, job) ]) (value_at-each without_history id jobs) ∙
    elim (value_at id jobs) as (λ o.
    elim (option_map without_history o) as (λ _. Option (ℕ × Job)) [ None ↦ None | Some job ↦ Some (id, job) ]
    ≡ option_map blank (elim o as (λ _. Option (ℕ × Job)) [ None ↦ None | Some job ↦ Some (id, job) ])) [ None ↦ refl | Some job ↦ refl ]

peek-blind : (pick : List (ℕ × Job) → Option (ℕ × Job)) (s : QueueState) → IsBlindPick pick
    → SameRow (peek_row (without_counts s) (pick (blanks s.jobs))) (peek_row s (pick s.jobs))
unfolding peek_row
peek-blind pick s blind = same_reply s _ _ (ap shown (blind s.jobs) ∙ shown-blind (pick s.jobs))

all_tubes-blind : (s : QueueState) → all_tubes (without_counts s) ≡ all_tubes s
unfolding all_tubes
all_tubes-blind s = ap (λ tubes. in_order (codes "default" ∷ tubes ++ flat_map (λ e. e.1.used ∷ e.1.watched) s.sessions)) (tubes-blind s.jobs)

delete-blind : (s : QueueState) (x id : ℕ) → SameRow (delete_found (without_counts s) x id (value_at id (blanks s.jobs)))
    (delete_found s x id (value_at id s.jobs))
delete-blind s x id =
    subst (λ o. SameRow (delete_found (without_counts s) x id o) (delete_found s x id (value_at id s.jobs)))
    (sym (value_at-each without_history id s.jobs))
    (elim (value_at id s.jobs) as (λ o. SameRow (delete_found (without_counts s) x id (option_map without_history o)) (delete_found s x id o)) [
      | None ↦ same_reply s Reply.NotFound Reply.NotFound refl
      | Some job ↦
          same_if (may_delete x job.state) (may_delete x job.state) _ _ _ _ refl
          (record { reply = refl; state = ap (uncounted s) (without-blind id s.jobs) })
          (same_reply s Reply.NotFound Reply.NotFound refl)
    ])

found-blind : (s : QueueState) (x id : ℕ) → SameRow (reserve_found (without_counts s) x id (value_at id (blanks s.jobs)))
    (reserve_found s x id (value_at id s.jobs))
found-blind s x id =
    subst (λ o. SameRow (reserve_found (without_counts s) x id o) (reserve_found s x id (value_at id s.jobs)))
    (sym (value_at-each without_history id s.jobs))
    (elim (value_at id s.jobs) as (λ o. SameRow (reserve_found (without_counts s) x id (option_map without_history o)) (reserve_found s x id o)) [
      | None ↦ same_reply s Reply.NotFound Reply.NotFound refl
      | Some job ↦
          same_if (is_unreserved job.state) (is_unreserved job.state) _ _ _ _ refl
          (record { reply = refl; state = ap (uncounted s) (altered-blind id (reserved_job x (s.now + job.ttr)) s.jobs (λ job. refl)) })
          (same_reply s Reply.NotFound Reply.NotFound refl)
    ])

pub row-blind : (op : Op) (key : Key) (s : QueueState) → is_report op ≡ false → SameRow (row op key (without_counts s)) (row op key s)
unfolding row put_row use_row watch_row ignore_row reserve_row delete_row release_row touch_row bury_row kick_job_row reserve_job_row pause_row
row-blind (Op.Put pri delay ttr body) key s plain = record {
  reply = refl;
  state = ap (uncounted (record s { next_id = s.next_id + 1 })) (insert-blind s.next_id (put_job s key.session pri delay ttr body) s.jobs);
}
row-blind (Op.Use tube) key s plain =
    record { reply = refl; state = ap (uncounted (with_session s key.session (λ c. record c { used = tube }))) (blanks-twice s.jobs) }
row-blind (Op.Watch tube) key s plain = same_jobs (with_session s key.session (λ c. record c { watched = joined tube c.watched })) _
row-blind (Op.Ignore tube) key s plain =
    same_if _ _ _ _ _ _ refl (same_reply s Reply.NotIgnored Reply.NotIgnored refl)
    (record { reply = refl; state = ap (uncounted (with_session s key.session (λ c. record c { watched = left_out tube c.watched }))) (blanks-twice s.jobs) })
row-blind (Op.Reserve seconds) key s plain = same_jobs (waiting s key.session key.number seconds) None
row-blind (Op.Delete id) key s plain = delete-blind s key.session id
row-blind (Op.Touch id) key s plain =
    held-blind s key.session id (λ job. with_state (State.Reserved key.session (s.now + job.ttr)) job) Reply.Touched (λ job. refl)
row-blind (Op.Release id pri delay) key s plain =
    held-blind s key.session id (released_job pri delay (ready_after s.now delay)) Reply.Released (λ job. refl)
row-blind (Op.Bury id pri) key s plain =
    same_if _ _ _ _ _ _ (asked-blind (is_held key.session) id s.jobs)
    (record {
      reply = refl;
      state = ap (uncounted (record s { next_rank = s.next_rank + 1 })) (altered-blind id (buried_job pri s.next_rank) s.jobs (λ job. refl));
    })
    (same_reply s Reply.NotFound Reply.NotFound refl)
row-blind (Op.Kick bound) key s plain = kick-blind s key.session bound
row-blind (Op.KickJob id) key s plain =
    same_if _ _ _ _ _ _ (asked-blind is_idle id s.jobs)
    (record { reply = refl; state = ap (uncounted s) (altered-blind id kicked_job s.jobs (λ job. refl)) })
    (same_reply s Reply.NotFound Reply.NotFound refl)
row-blind (Op.ReserveJob id) key s plain = found-blind s key.session id
row-blind (Op.Peek id) key s plain = peek-blind (at_id id) s (at_id-blind id)
row-blind Op.PeekReady key s plain = peek-blind (first_ready (used_by s key.session)) s (first_ready-blind (used_by s key.session))
row-blind Op.PeekDelayed key s plain = peek-blind (first_delayed (used_by s key.session)) s (first_delayed-blind (used_by s key.session))
row-blind Op.PeekBuried key s plain = peek-blind (first_buried (used_by s key.session)) s (first_buried-blind (used_by s key.session))
row-blind Op.ListTubes key s plain = same_reply s _ _ (ap Reply.Tubes (all_tubes-blind s))
row-blind Op.ListTubeUsed key s plain = same_reply s _ _ refl
row-blind Op.ListTubesWatched key s plain = same_reply s _ _ refl
row-blind (Op.Pause tube seconds) key s plain =
    same_if _ _ _ _ _ _ (ap (is_among tube) (all_tubes-blind s))
    (record { reply = refl; state = ap (uncounted (record s { pauses = (paused_for tube seconds (pauses_of s)).pauses })) (blanks-twice s.jobs) })
    (same_reply s Reply.NotFound Reply.NotFound refl)
row-blind (Op.StatsJob id) key s plain = cc
row-blind (Op.StatsTube tube) key s plain = cc
row-blind Op.Stats key s plain = cc
