-- Which tubes there are doesn't change by a command that brings none, after which the tube that it may take away is there.
use Rattle.std.proofs.Common.{◌≡◌, ℕ, zero, suc, ◌+◌, ◌^◌, Bool, true, false, cond, not, ◌==◌, ◌⊎◌, inl, inr, List, [], ◌∷◌, ◌++◌, filter, length}
use Rattle.std.proofs.Common.{Option, Some, None, IfSome, option_map, is_some, unwrap_or, bytes_eq, refl, sym, ap, subst, ◌∙◌, arith}
use Rattle.std.proofs.Common.{true≢false, eqb-true}
use Rattle.std.proofs.lemmas.Bool.{cases_Bool, cond-true}
use Rattle.std.proofs.lemmas.Slice.Eq.{bytes_eq-Decides}
use Rattle.object.specs.Lists.{In}
use Rattle.object.specs.declared.command.Key.{Key}
use Rattle.job_store.specs.declared.job.Job.{Job}
use Rattle.job_store.specs.declared.state.State.{State}
use Rattle.job_store.specs.Entries.{Rising, value_at, with_value, altered, without}
use Rattle.job_store.specs.EntryLaws.{altered-in, without-in, insert-in, without-insert, without-absent, value_at-In, value_at-found, value_at-below}
use Rattle.job_store.specs.EntryLaws.{value_at-altered, value_at-insert, Rising-altered, Rising-insert, Rising-wider}
use Rattle.job_store.specs.LookUps.{is_among}
use Rattle.job_store.specs.States.{is_held, with_state, reserved_job, released_job, buried_job, kicked_job}
use Rattle.job_store.proofs.least.Least.{among-member}
use Rattle.session_store.specs.declared.session.SessionState.{SessionState}
use Rattle.session_store.specs.Sessions.{new_session, session_of, known, with_wait, with_wait_ended}
use Rattle.session_store.specs.WatchLists.{joined, left_out, is_alone}
use Rattle.bean_words.specs.declared.op.Op.{Op}
use Rattle.bean_words.specs.declared.reply.Reply.{Reply}
use Rattle.bean_queue.specs.Queue.{QueueState, used_by, watched_by, with_jobs, with_sessions, HasRisingIds}
use Rattle.bean_queue.specs.Rows.{Row, row, replies, settled, put_job, put_row, use_row, watch_row, ignore_row, reserve_row, delete_row}
use Rattle.bean_queue.specs.Rows.{deleted, may_delete, delete_found, is_job_that, is_idle, release_row, touch_row, bury_row, kicked, kicked_option}
use Rattle.bean_queue.specs.Rows.{kick_row, kick_job_row, peek_row, pause_row, is_unreserved, reserve_found, reserve_job_row}
use Rattle.bean_queue.specs.Rows.{ready_after, stats_job_row, stats_tube_row, stats_row}
use Rattle.bean_queue.specs.WaitLaws.{in-append}
use Rattle.bean_queue.specs.Woken.{tube_of}
use Rattle.job_store.proofs.shelving.Shelving.{in-front}
use Rattle.bean_queue.specs.declared.logic.staying.Listed.{Listed}
use Rattle.bean_queue.specs.Staying.{brings_tube, left_by, AreTubes, IsListedBefore, IsStillListed}
use Rattle.bean_queue.specs.Tubes.{all_tubes, IsTube}
use Rattle.bean_queue.specs.Turns.{serve}
use Rattle.bean_queue.specs.Effects.{with_ask_noted, called, turned_away, carried_out, ends_wait, do_effect, has_no_number, is_quiet}
use Rattle.bean_queue.specs.Effects.{released}
use Rattle.bean_queue.proofs.tubes.Listed.{in-altered, called-tubes}
use Rattle.bean_queue.proofs.tubes.TubeLists.{same-names, tubes-all, tubes-sorted, tubes_of_jobs, tubes_of_sessions}
use Rattle.bean_queue.proofs.tubes.Turning.{altered-jobs, altered-sessions, same-lists, ended-tubes, serve-tubes}
use Rattle.bean_queue.proofs.tubes.Turning.{turned_away-tubes, released-tubes, still-listed}

not-false : (b : Bool) → not b ≡ false → b ≡ true
not-false true e = refl
not-false false e = cc

a-tube : (s : QueueState) (t : List ℕ) → is_among t (all_tubes s) ≡ true → IsTube s t
a-tube s t e = (tubes-all s t).0 ((among-member t (all_tubes s)).0 e)

-- tubes that come from those of s, and come back
alike : (s t : QueueState) → ((u : List ℕ) → IsTube t u → IsTube s u) → ((u : List ℕ) → IsTube s u → IsTube t u) → all_tubes t ≡ all_tubes s
alike s t to from =
    same-names (all_tubes t) (all_tubes s) (tubes-sorted t) (tubes-sorted s)
    (λ u i. (tubes-all s u).1 (to u ((tubes-all t u).0 i)))
    (λ u i. (tubes-all t u).1 (from u ((tubes-all s u).0 i)))

-- A put

used-tube : (s : QueueState) (x : ℕ) → IsTube s (used_by s x)
used-tube s x =
    elim (value_at x s.sessions) as (λ o. value_at x s.sessions ≡ o → IsTube s (unwrap_or o new_session).used) [
      | None ↦ λ e. IsTube.default refl
      | Some c ↦ λ e.
          let f = value_at-found x s.sessions c e in
          IsTube.used f.0 f.1 (ap (λ (d : SessionState). d.used) (sym f.3))
    ] refl

next-free : (s : QueueState) → HasRisingIds s → value_at s.next_id s.jobs ≡ None
next-free s ids =
    elim (value_at s.next_id s.jobs) as (λ o. value_at s.next_id s.jobs ≡ o → o ≡ None) [
      | None ↦ λ e. refl
      | Some job ↦ λ e. let below = value_at-below 1 s.next_id s.next_id s.jobs job ids e in absurd (omega (arith, below))
    ] refl

module _ (s : QueueState) (x : ℕ) (job : Job) (its : job.tube ≡ used_by s x) (ids : HasRisingIds s) (t : QueueState)
    (jobs : t.jobs ≡ with_value s.next_id job s.jobs) (sessions : t.sessions ≡ s.sessions) where
  put-to : (u : List ℕ) → IsTube t u → IsTube s u
  put-to u (IsTube.default same) = IsTube.default same
  put-to u (IsTube.of_job j i e) =
      insert-in (λ d. u ≡ d.1.tube → IsTube s u) s.next_id job s.jobs
      (λ q same. subst (IsTube s) (sym (same ∙ its)) (used-tube s x))
      (λ d there same. IsTube.of_job d there same) j (subst (In j) jobs i) e
  put-to u (IsTube.used w i e) = IsTube.used w (subst (In w) sessions i) e
  put-to u (IsTube.watched w i e) = IsTube.watched w (subst (In w) sessions i) e

  put-from : (u : List ℕ) → IsTube s u → IsTube t u
  put-from u (IsTube.default same) = IsTube.default same
  put-from u (IsTube.of_job j i e) =
      IsTube.of_job j (subst (In j) (sym jobs) (without-in s.next_id (with_value s.next_id job s.jobs) j
      (subst (In j) (sym (without-insert s.next_id job s.jobs (next-free s ids))) i))) e
  put-from u (IsTube.used w i e) = IsTube.used w (subst (In w) (sym sessions) i) e
  put-from u (IsTube.watched w i e) = IsTube.watched w (subst (In w) (sym sessions) i) e

  put-tubes : all_tubes t ≡ all_tubes s
  put-tubes = alike s t put-to put-from

-- A delete

module _ {X : Type 0} where
  filter-in : (f : X → Bool) (xs : List X) (x : X) → In x xs → f x ≡ true → In x (filter f xs)
  filter-in f [] x i e = i
  filter-in f (y ∷ ys) x (inl same) e =
      subst (In x) (sym (cond-true (f y) (y ∷ filter f ys) (filter f ys) (ap f (sym same) ∙ e))) (inl same)
  filter-in f (y ∷ ys) x (inr later) e =
      elim (f y) as (λ b. In x (cond b (y ∷ filter f ys) (filter f ys))) [
        | true ↦ inr (filter-in f ys x later e)
        | false ↦ filter-in f ys x later e
      ]

-- an entry is left, or is the one that goes
left-entry : {X : Type 0} (k lo hi : ℕ) (es : List (ℕ × X)) (e : ℕ × X) (v : X) → Rising lo hi es → value_at k es ≡ Some v → In e es
    → In e (without k es) ⊎ (e.1 ≡ v)
left-entry {X} k lo hi es e v rising found i =
    elim (cases_Bool (k == e.0)) as (λ _. In e (without k es) ⊎ (e.1 ≡ v)) [
      | inl here ↦
          let at : Some e.1 ≡ Some v = sym (value_at-In lo hi es e rising i) ∙ ap (λ q. value_at q es) (sym (eqb-true k e.0 here)) ∙ found in
          inr cc
      | inr other ↦ inl (filter-in (λ d. not (k == d.0)) es e i (ap not other))
    ]

module _ (s : QueueState) (k : ℕ) (job : Job) (ids : HasRisingIds s) (found : value_at k s.jobs ≡ Some job) (t : QueueState)
    (jobs : t.jobs ≡ without k s.jobs) (sessions : t.sessions ≡ s.sessions) (there : is_among job.tube (all_tubes t) ≡ true) where
  delete-to : (u : List ℕ) → IsTube t u → IsTube s u
  delete-to u (IsTube.default same) = IsTube.default same
  delete-to u (IsTube.of_job j i e) = IsTube.of_job j (without-in k s.jobs j (subst (In j) jobs i)) e
  delete-to u (IsTube.used w i e) = IsTube.used w (subst (In w) sessions i) e
  delete-to u (IsTube.watched w i e) = IsTube.watched w (subst (In w) sessions i) e

  delete-from : (u : List ℕ) → IsTube s u → IsTube t u
  delete-from u (IsTube.default same) = IsTube.default same
  delete-from u (IsTube.of_job j i e) =
      elim (left-entry k 1 s.next_id s.jobs j job ids found i) as (λ v. IsTube t u) [
        | inl left ↦ IsTube.of_job j (subst (In j) (sym jobs) left) e
        | inr same ↦ subst (IsTube t) (sym (e ∙ ap (λ (d : Job). d.tube) same)) (a-tube t job.tube there)
      ]
  delete-from u (IsTube.used w i e) = IsTube.used w (subst (In w) (sym sessions) i) e
  delete-from u (IsTube.watched w i e) = IsTube.watched w (subst (In w) (sym sessions) i) e

  delete-tubes : all_tubes t ≡ all_tubes s
  delete-tubes = alike s t delete-to delete-from

-- A session that goes

module _ (s : QueueState) (x hi : ℕ) (c : SessionState) (rising : Rising 0 hi s.sessions) (found : value_at x s.sessions ≡ Some c)
    (t : QueueState) (after : all_tubes t ≡ all_tubes (with_sessions s (without x s.sessions)))
    (used : is_among c.used (all_tubes t) ≡ true) (watched : AreTubes c.watched t) where
  abbrev without-it : QueueState
  without-it = with_sessions s (without x s.sessions)

  its-tube : (u : List ℕ) → is_among u (all_tubes t) ≡ true → IsTube without-it u
  its-tube u e = a-tube without-it u (ap (is_among u) (sym after) ∙ e)

  forget-to : (u : List ℕ) → IsTube without-it u → IsTube s u
  forget-to u (IsTube.default same) = IsTube.default same
  forget-to u (IsTube.of_job j i e) = IsTube.of_job j i e
  forget-to u (IsTube.used w i e) = IsTube.used w (without-in x s.sessions w i) e
  forget-to u (IsTube.watched w i e) = IsTube.watched w (without-in x s.sessions w i) e

  forget-from : (u : List ℕ) → IsTube s u → IsTube without-it u
  forget-from u (IsTube.default same) = IsTube.default same
  forget-from u (IsTube.of_job j i e) = IsTube.of_job j i e
  forget-from u (IsTube.used w i e) =
      elim (left-entry x 0 hi s.sessions w c rising found i) as (λ v. IsTube without-it u) [
        | inl left ↦ IsTube.used w left e
        | inr same ↦ its-tube u (ap (λ n. is_among n (all_tubes t)) (e ∙ ap (λ (d : SessionState). d.used) same) ∙ used)
      ]
  forget-from u (IsTube.watched w i e) =
      elim (left-entry x 0 hi s.sessions w c rising found i) as (λ v. IsTube without-it u) [
        | inl left ↦ IsTube.watched w left e
        | inr same ↦ its-tube u (watched u (subst (λ (d : SessionState). In u d.watched) same e))
      ]

  pub forgotten-tubes : all_tubes t ≡ all_tubes s
  forgotten-tubes = after ∙ alike s without-it forget-to forget-from

-- one that isn't there
pub absent-tubes : (s : QueueState) (x : ℕ) → value_at x s.sessions ≡ None → all_tubes (with_sessions s (without x s.sessions)) ≡ all_tubes s
absent-tubes s x absent = ap (λ es. all_tubes (with_sessions s es)) (without-absent x s.sessions absent)

-- Other tubes of a session

module _ (s : QueueState) (x hi : ℕ) (f : SessionState → SessionState) (rising : Rising 0 hi s.sessions) (t : QueueState) (jobs : t.jobs ≡ s.jobs)
    (sessions : t.sessions ≡ altered x f s.sessions)
    (used-to : (c : SessionState) (u : List ℕ) → u ≡ (f c).used → (u ≡ c.used) ⊎ IsTube s u)
    (watched-to : (c : SessionState) (u : List ℕ) → In u (f c).watched → In u c.watched ⊎ IsTube s u)
    (used-from : (c : SessionState) (u : List ℕ) → value_at x s.sessions ≡ Some c → u ≡ c.used → (u ≡ (f c).used) ⊎ IsTube t u)
    (watched-from : (c : SessionState) (u : List ℕ) → In u c.watched → In u (f c).watched ⊎ IsTube t u) where
  session-to-used : (u : List ℕ) (d : ℕ × SessionState) → In d s.sessions → (b : Bool) → u ≡ (cond b (f d.1) d.1).used → IsTube s u
  session-to-used u d there true e = elim (used-to d.1 u e) as (λ v. IsTube s u) [ inl was ↦ IsTube.used d there was | inr is ↦ is ]
  session-to-used u d there false e = IsTube.used d there e

  session-to-watched : (u : List ℕ) (d : ℕ × SessionState) → In d s.sessions → (b : Bool) → In u (cond b (f d.1) d.1).watched → IsTube s u
  session-to-watched u d there true e = elim (watched-to d.1 u e) as (λ v. IsTube s u) [ inl was ↦ IsTube.watched d there was | inr is ↦ is ]
  session-to-watched u d there false e = IsTube.watched d there e

  session-to : (u : List ℕ) → IsTube t u → IsTube s u
  session-to u (IsTube.default same) = IsTube.default same
  session-to u (IsTube.of_job j i e) = IsTube.of_job j (subst (In j) jobs i) e
  session-to u (IsTube.used w i e) =
      altered-in x f (λ d. u ≡ d.1.used → IsTube s u) s.sessions (λ d there e. session-to-used u d there (x == d.0) e) w
      (subst (In w) sessions i) e
  session-to u (IsTube.watched w i e) =
      altered-in x f (λ d. In u d.1.watched → IsTube s u) s.sessions (λ d there e. session-to-watched u d there (x == d.0) e) w
      (subst (In w) sessions i) e

  stands : (d : ℕ × SessionState) → In d s.sessions → In (d.0, cond (x == d.0) (f d.1) d.1) t.sessions
  stands d i = subst (In (d.0, cond (x == d.0) (f d.1) d.1)) (sym sessions) (in-altered x f s.sessions d i)

  the-one : (d : ℕ × SessionState) → In d s.sessions → (x == d.0) ≡ true → value_at x s.sessions ≡ Some d.1
  the-one d i same = ap (λ q. value_at q s.sessions) (eqb-true x d.0 same) ∙ value_at-In 0 hi s.sessions d rising i

  session-from : (u : List ℕ) → IsTube s u → IsTube t u
  session-from u (IsTube.default same) = IsTube.default same
  session-from u (IsTube.of_job j i e) = IsTube.of_job j (subst (In j) (sym jobs) i) e
  session-from u (IsTube.used w i e) =
      elim (x == w.0) as (λ b. (x == w.0) ≡ b → In (w.0, cond b (f w.1) w.1) t.sessions → IsTube t u) [
        | true ↦ λ same there.
            elim (used-from w.1 u (the-one w i same) e) as (λ v. IsTube t u) [ inl stays ↦ IsTube.used (w.0, f w.1) there stays | inr is ↦ is ]
        | false ↦ λ same there. IsTube.used w there e
      ] refl (stands w i)
  session-from u (IsTube.watched w i e) =
      elim (x == w.0) as (λ b. In (w.0, cond b (f w.1) w.1) t.sessions → IsTube t u) [
        | true ↦ λ there.
            elim (watched-from w.1 u e) as (λ v. IsTube t u) [ inl stays ↦ IsTube.watched (w.0, f w.1) there stays | inr is ↦ is ]
        | false ↦ λ there. IsTube.watched w there e
      ] (stands w i)

  session-tubes : all_tubes t ≡ all_tubes s
  session-tubes = alike s t session-to session-from

listed-tube : (tube : List ℕ) (s : QueueState) → not (is_among tube (all_tubes s)) ≡ false → IsTube s tube
listed-tube tube s known = a-tube s tube (not-false (is_among tube (all_tubes s)) known)

in-joined : (tube u : List ℕ) (names : List (List ℕ)) → In u (joined tube names) → In u names ⊎ (u ≡ tube)
in-joined tube u names i =
    elim (is_among tube names) as (λ b. In u (cond b names (names ++ tube ∷ [])) → In u names ⊎ (u ≡ tube)) [
      | true ↦ λ i. inl i
      | false ↦ λ i. elim (in-append names (tube ∷ []) u i) as (λ v. In u names ⊎ (u ≡ tube)) [
        | inl was ↦ inl was
        | inr (inl new) ↦ inr new
        | inr (inr never) ↦ absurd never
      ]
    ] i

to-joined : (tube u : List ℕ) (names : List (List ℕ)) → In u names → In u (joined tube names)
to-joined tube u names i =
    elim (is_among tube names) as (λ b. In u (cond b names (names ++ tube ∷ []))) [
      | true ↦ i
      | false ↦ in-front u names (tube ∷ []) i
    ]

from-left_out : (tube u : List ℕ) (names : List (List ℕ)) → In u (left_out tube names) → In u names
from-left_out tube u [] i = i
from-left_out tube u (n ∷ ns) i =
    elim (not (bytes_eq tube n)) as (λ b. In u (cond b (n ∷ left_out tube ns) (left_out tube ns)) → In u (n ∷ ns)) [
      | true ↦ λ i. elim i as (λ i. In u (n ∷ ns)) [ inl same ↦ inl same | inr later ↦ inr (from-left_out tube u ns later) ]
      | false ↦ λ i. inr (from-left_out tube u ns i)
    ] i

to-left_out : (tube u : List ℕ) (names : List (List ℕ)) → In u names → In u (left_out tube names) ⊎ (u ≡ tube)
to-left_out tube u names i =
    elim (cases_Bool (bytes_eq tube u)) as (λ v. In u (left_out tube names) ⊎ (u ≡ tube)) [
      | inl same ↦ inr (sym ((bytes_eq-Decides tube u).0 same))
      | inr other ↦ inl (filter-in (λ n. not (bytes_eq tube n)) names u i (ap not other))
    ]

used-is : (x : ℕ) (s : QueueState) (c : SessionState) → value_at x s.sessions ≡ Some c → used_by s x ≡ c.used
used-is x s c found = ap (λ o. (unwrap_or o new_session).used) found

use-tubes : (x hi : ℕ) (tube : List ℕ) (s : QueueState) → Rising 0 hi s.sessions → not (is_among tube (all_tubes s)) ≡ false
    → AreTubes (used_by s x ∷ []) (use_row s x tube).state → all_tubes (use_row s x tube).state ≡ all_tubes s
unfolding use_row
use-tubes x hi tube s rising known left =
    let t : QueueState = settled (used_by s x ∷ []) (record s { sessions = altered x (λ c. record c { used = tube }) s.sessions }) in
    session-tubes s x hi (λ c. record c { used = tube }) rising t refl refl
    (λ c u e. inr (subst (IsTube s) (sym e) (listed-tube tube s known)))
    (λ c u i. inl i)
    (λ c u found e. inr (subst (IsTube t) (used-is x s c found ∙ sym e) (a-tube t (used_by s x) (left (used_by s x) (inl refl)))))
    (λ c u i. inl i)

watch-tubes : (x hi : ℕ) (tube : List ℕ) (s : QueueState) → Rising 0 hi s.sessions → not (is_among tube (all_tubes s)) ≡ false
    → all_tubes (watch_row s x tube).state ≡ all_tubes s
unfolding watch_row
watch-tubes x hi tube s rising known =
    let t : QueueState = record s { sessions = altered x (λ c. record c { watched = joined tube c.watched }) s.sessions } in
    session-tubes s x hi (λ c. record c { watched = joined tube c.watched }) rising t refl refl
    (λ c u e. inl e)
    (λ c u i. elim (in-joined tube u c.watched i) as (λ v. In u c.watched ⊎ IsTube s u) [
      | inl was ↦ inl was
      | inr new ↦ inr (subst (IsTube s) (sym new) (listed-tube tube s known))
    ])
    (λ c u found e. inl e)
    (λ c u i. inl (to-joined tube u c.watched i))

ignored-tubes : (x hi : ℕ) (tube : List ℕ) (s t : QueueState) → Rising 0 hi s.sessions → t.jobs ≡ s.jobs
    → t.sessions ≡ altered x (λ c. record c { watched = left_out tube c.watched }) s.sessions
    → is_among tube (all_tubes t) ≡ true → all_tubes t ≡ all_tubes s
ignored-tubes x hi tube s t rising jobs sessions there =
    session-tubes s x hi (λ c. record c { watched = left_out tube c.watched }) rising t jobs sessions
    (λ c u e. inl e)
    (λ c u i. inl (from-left_out tube u c.watched i))
    (λ c u found e. inl e)
    (λ c u i. elim (to-left_out tube u c.watched i) as (λ v. In u (left_out tube c.watched) ⊎ IsTube t u) [
      | inl stays ↦ inl stays
      | inr same ↦ inr (subst (IsTube t) (sym same) (a-tube t tube there))
    ])

ignore-tubes : (x hi : ℕ) (tube : List ℕ) (s : QueueState) → Rising 0 hi s.sessions
    → AreTubes (tube ∷ []) (ignore_row s x tube).state → all_tubes (ignore_row s x tube).state ≡ all_tubes s
unfolding ignore_row
ignore-tubes x hi tube s rising left =
    let t : QueueState = settled (tube ∷ []) (record s { sessions = altered x (λ c. record c { watched = left_out tube c.watched }) s.sessions }) in
    let more = Reply.Watching (length (left_out tube (watched_by s x))) in
    elim (is_alone tube (watched_by s x)) as (λ b. AreTubes (tube ∷ []) (cond b (replies s Reply.NotIgnored) (replies t more)).state
    → all_tubes (cond b (replies s Reply.NotIgnored) (replies t more)).state ≡ all_tubes s) [
      | true ↦ λ left. refl
      | false ↦ λ left. ignored-tubes x hi tube s t rising refl refl (left tube (inl refl))
    ] left

found-tubes : (x id : ℕ) (s : QueueState) (o : Option Job) → value_at id s.jobs ≡ o → HasRisingIds s
    → AreTubes (tube_of o) (delete_found s x id o).state → all_tubes (delete_found s x id o).state ≡ all_tubes s
found-tubes x id s None found ids left = refl
found-tubes x id s (Some job) found ids left =
    let t : QueueState = deleted s id job in
    elim (may_delete x job.state) as (λ b. AreTubes (job.tube ∷ []) (cond b (replies t Reply.Deleted) (replies s Reply.NotFound)).state
    → all_tubes (cond b (replies t Reply.Deleted) (replies s Reply.NotFound)).state ≡ all_tubes s) [
      | true ↦ λ left. delete-tubes s id job ids found t refl refl (left job.tube (inl refl))
      | false ↦ λ left. refl
    ] left

delete-row-tubes : (x id : ℕ) (s : QueueState) → HasRisingIds s → AreTubes (tube_of (value_at id s.jobs)) (delete_row s x id).state
    → all_tubes (delete_row s x id).state ≡ all_tubes s
unfolding delete_row
delete-row-tubes x id s ids left = found-tubes x id s (value_at id s.jobs) refl ids left

-- A row

kicked-tubes : (pick : List (ℕ × Job) → Option (ℕ × Job)) (n : ℕ) (jobs : List (ℕ × Job))
    → tubes_of_jobs (kicked pick n jobs).jobs ≡ tubes_of_jobs jobs
unfolding kicked
kicked-tubes pick zero jobs = refl
kicked-tubes pick (suc n) jobs =
    elim (pick jobs) as (λ o. tubes_of_jobs (kicked_option (kicked pick n) jobs o).jobs ≡ tubes_of_jobs jobs) [
      | None ↦ refl
      | Some e ↦ kicked-tubes pick n (altered e.0 kicked_job jobs) ∙ altered-jobs kicked_job (λ job. refl) e.0 jobs
    ]

row_if : (s : QueueState) (b : Bool) (r q : Row) → all_tubes r.state ≡ all_tubes s → all_tubes q.state ≡ all_tubes s
    → all_tubes (cond b r q).state ≡ all_tubes s
row_if s true r q h k = h
row_if s false r q h k = k

changed-tubes : (s t : QueueState) (id : ℕ) (f : Job → Job) → ((job : Job) → (f job).tube ≡ job.tube) → t.jobs ≡ altered id f s.jobs
    → t.sessions ≡ s.sessions → all_tubes t ≡ all_tubes s
changed-tubes s t id f same jobs sessions =
    same-lists s t (ap tubes_of_jobs jobs ∙ altered-jobs f same id s.jobs) (ap tubes_of_sessions sessions)

reserved-tubes : (x id : ℕ) (s : QueueState) (o : Option Job) → all_tubes (reserve_found s x id o).state ≡ all_tubes s
reserved-tubes x id s None = refl
reserved-tubes x id s (Some job) =
    row_if s (is_unreserved job.state) _ _
    (changed-tubes s (with_jobs s (altered id (reserved_job x (s.now + job.ttr)) s.jobs)) id
    (reserved_job x (s.now + job.ttr)) (λ job. refl) refl refl)
    refl

pub row-tubes : (op : Op) (key : Key) (s : QueueState) (hi : ℕ) → HasRisingIds s → (is_quiet op ≡ true → Rising 0 hi s.sessions)
    → brings_tube op (all_tubes s) ≡ false
    → AreTubes (left_by op key s) (row op key s).state → all_tubes (row op key s).state ≡ all_tubes s
unfolding row put_row reserve_row release_row touch_row bury_row kick_row kick_job_row reserve_job_row peek_row pause_row stats_job_row
    stats_tube_row stats_row
row-tubes (Op.Put pri delay ttr body) key s hi ids rising none left =
    put-tubes s key.session (put_job s key.session pri delay ttr body) refl ids (put_row s key.session pri delay ttr body).state refl refl
row-tubes (Op.Use tube) key s hi ids rising none left = use-tubes key.session hi tube s (rising refl) none left
row-tubes (Op.Watch tube) key s hi ids rising none left = watch-tubes key.session hi tube s (rising refl) none
row-tubes (Op.Ignore tube) key s hi ids rising none left = ignore-tubes key.session hi tube s (rising refl) left
row-tubes (Op.Reserve seconds) key s hi ids rising none left =
    same-lists s (reserve_row s key.session key.number seconds).state refl (altered-sessions _ (λ c. refl) key.session s.sessions)
row-tubes (Op.Delete id) key s hi ids rising none left = delete-row-tubes key.session id s ids left
row-tubes (Op.Release id pri delay) key s hi ids rising none left =
    row_if s (is_job_that (is_held key.session) (value_at id s.jobs)) _ _
    (changed-tubes s _ id (released_job pri delay (ready_after s.now delay)) (λ job. refl) refl refl) refl
row-tubes (Op.Bury id pri) key s hi ids rising none left =
    row_if s (is_job_that (is_held key.session) (value_at id s.jobs)) _ _
    (changed-tubes s _ id (buried_job pri s.next_rank) (λ job. refl) refl refl) refl
row-tubes (Op.Touch id) key s hi ids rising none left =
    row_if s (is_job_that (is_held key.session) (value_at id s.jobs)) _ _
    (changed-tubes s _ id (λ job. with_state (State.Reserved key.session (s.now + job.ttr)) job) (λ job. refl) refl refl) refl
row-tubes (Op.Kick bound) key s hi ids rising none left = same-lists s (kick_row s key.session bound).state (kicked-tubes _ bound s.jobs) refl
row-tubes (Op.KickJob id) key s hi ids rising none left =
    row_if s (is_job_that is_idle (value_at id s.jobs)) _ _ (changed-tubes s _ id kicked_job (λ job. refl) refl refl) refl
row-tubes (Op.ReserveJob id) key s hi ids rising none left = reserved-tubes key.session id s (value_at id s.jobs)
row-tubes (Op.Peek id) key s hi ids rising none left = refl
row-tubes Op.PeekReady key s hi ids rising none left = refl
row-tubes Op.PeekDelayed key s hi ids rising none left = refl
row-tubes Op.PeekBuried key s hi ids rising none left = refl
row-tubes Op.ListTubes key s hi ids rising none left = refl
row-tubes Op.ListTubeUsed key s hi ids rising none left = refl
row-tubes Op.ListTubesWatched key s hi ids rising none left = refl
row-tubes (Op.Pause tube seconds) key s hi ids rising none left =
    row_if s (is_among tube (all_tubes s)) _ _ (same-lists s _ refl refl) refl
row-tubes (Op.StatsJob id) key s hi ids rising none left = refl
row-tubes (Op.StatsTube tube) key s hi ids rising none left = refl
row-tubes Op.Stats key s hi ids rising none left = refl

-- A command

known-rising : (x hi : ℕ) (sessions : List (ℕ × SessionState)) → Rising 0 hi sessions → Rising 0 (hi + suc x) (known x sessions)
known-rising x hi sessions rising =
    let wide = Rising-wider 0 0 hi (hi + suc x) sessions (omega arith) (omega arith) rising in
    elim (is_some (value_at x sessions)) as (λ b. Rising 0 (hi + suc x) (cond b (with_wait_ended x sessions) (with_value x new_session sessions))) [
      | true ↦ Rising-altered x (with_wait None) 0 (hi + suc x) sessions wide
      | false ↦ Rising-insert x 0 (hi + suc x) new_session sessions (omega arith) (omega arith) wide
    ]

same-used : (f : SessionState → SessionState) → ((c : SessionState) → (f c).used ≡ c.used) → (o : Option SessionState)
    → (unwrap_or (option_map f o) new_session).used ≡ (unwrap_or o new_session).used
same-used f same None = refl
same-used f same (Some c) = same c

none-used : (o : Option SessionState) → is_some o ≡ false → new_session.used ≡ (unwrap_or o new_session).used
none-used None e = refl
none-used (Some c) e = absurd (true≢false e)

known-used : (x : ℕ) (sessions : List (ℕ × SessionState)) → (session_of x (known x sessions)).used ≡ (session_of x sessions).used
known-used x sessions =
    elim (is_some (value_at x sessions)) as (λ b. is_some (value_at x sessions) ≡ b
    → (session_of x (cond b (with_wait_ended x sessions) (with_value x new_session sessions))).used ≡ (session_of x sessions).used) [
      | true ↦ λ there.
          ap (λ o. (unwrap_or o new_session).used) (value_at-altered x (with_wait None) sessions) ∙
          same-used (with_wait None) (λ c. refl) (value_at x sessions)
      | false ↦ λ absent.
          ap (λ o. (unwrap_or o new_session).used) (value_at-insert x new_session sessions) ∙ none-used (value_at x sessions) absent
    ] refl

called-used : (op : Op) (x : ℕ) (s : QueueState) → used_by (called op x s) x ≡ used_by s x
called-used op x s =
    ap (λ o. (unwrap_or o new_session).used) (value_at-altered x (with_ask_noted op) (known x s.sessions)) ∙
    same-used (with_ask_noted op) (λ c. refl) (value_at x (known x s.sessions)) ∙ known-used x s.sessions

called-left : (op : Op) (key : Key) (s : QueueState) → left_by op key (called op key.session s) ≡ left_by op key s
called-left (Op.Use tube) key s = ap (λ u. u ∷ []) (called-used (Op.Use tube) key.session s)
called-left _ key s = refl

carried_out-tubes : (op : Op) (key : Key) (s : QueueState) (hi : ℕ) → HasRisingIds s → (is_quiet op ≡ true → Rising 0 hi s.sessions)
    → brings_tube op (all_tubes s) ≡ false
    → AreTubes (left_by op key s) (carried_out op key s).state → all_tubes (carried_out op key s).state ≡ all_tubes s
unfolding carried_out
carried_out-tubes op key s hi ids rising none left =
    let t = called op key.session s in
    let r = row op key t in
    let o = serve r.state in
    let rest : all_tubes (turned_away op key o.state).state ≡ all_tubes r.state = turned_away-tubes op key o.state ∙ serve-tubes r.state in
    rest ∙
    row-tubes op key t (hi + suc key.session) ids
    (λ quiet. Rising-altered key.session (with_ask_noted op) 0 (hi + suc key.session) (known key.session s.sessions)
    (known-rising key.session hi s.sessions (rising quiet)))
    (ap (brings_tube op) (called-tubes op key.session s) ∙ none)
    (λ u among. ap (is_among u) (sym rest) ∙ left u (subst (In u) (called-left op key s) among)) ∙
    called-tubes op key.session s

pub do-tubes : (op : Op) (key : Key) (s : QueueState) (hi : ℕ) → HasRisingIds s → (is_quiet op ≡ true → Rising 0 hi s.sessions)
    → brings_tube op (all_tubes s) ≡ false
    → AreTubes (left_by op key s) (do_effect op key s).state → all_tubes (do_effect op key s).state ≡ all_tubes s
unfolding do_effect
do-tubes op key s hi ids rising none left =
    elim (has_no_number op s) as (λ b. AreTubes (left_by op key s) (cond b (ends_wait s key Reply.InternalError) (carried_out op key s)).state
    → all_tubes (cond b (ends_wait s key Reply.InternalError) (carried_out op key s)).state ≡ all_tubes s) [
      | true ↦ λ left. ended-tubes key.session s
      | false ↦ λ left. carried_out-tubes op key s hi ids rising none left
    ] left

-- the operation brings no tube, and takes none away
record KeepsTubes (op : Op) : Type 0 where
  none : (tubes : List (List ℕ)) → brings_tube op tubes ≡ false
  left : (key : Key) (s : QueueState) → left_by op key s ≡ []

loud-kind : (op : Op) → is_quiet op ≡ false → KeepsTubes op
loud-kind (Op.Put pri delay ttr body) e = record { none = λ tubes. refl; left = λ key s. refl }
loud-kind (Op.Reserve seconds) e = record { none = λ tubes. refl; left = λ key s. refl }
loud-kind (Op.Release id pri delay) e = record { none = λ tubes. refl; left = λ key s. refl }
loud-kind (Op.Kick bound) e = record { none = λ tubes. refl; left = λ key s. refl }
loud-kind (Op.KickJob id) e = record { none = λ tubes. refl; left = λ key s. refl }
loud-kind (Op.Pause tube seconds) e = record { none = λ tubes. refl; left = λ key s. refl }
loud-kind _ e = cc

-- an operation that is not quiet brings no tube, and takes none away
pub loud-tubes : (op : Op) (key : Key) (s : QueueState) → is_quiet op ≡ false → HasRisingIds s → all_tubes (do_effect op key s).state ≡ all_tubes s
loud-tubes op key s loud ids =
    let l = loud-kind op loud in
    do-tubes op key s 0 ids (λ quiet. absurd (true≢false (sym quiet ∙ loud))) (l.none (all_tubes s))
    (λ u among. absurd (subst (In u) (l.left key s) among))

-- The end of a session

-- names that are listed after it
pub after-close : (x : ℕ) (s t u : QueueState) (stay : Bool) (before after : Option (List (List ℕ))) → t ≡ (serve (released x s)).state
    → (stay ≡ true → all_tubes u ≡ all_tubes t) → after ≡ cond stay before None → IfSome before (λ names. names ≡ all_tubes s)
    → IfSome after (λ names. names ≡ all_tubes u)
after-close x s t u true before after made same kept listed =
    subst (λ o. IfSome o (λ names. names ≡ all_tubes u)) (sym kept)
    (still-listed before s u (same refl ∙ ap all_tubes made ∙ serve-tubes (released x s) ∙ released-tubes x s) listed)
after-close x s t u false before after made same kept listed = subst (λ o. IfSome o (λ names. names ≡ all_tubes u)) (sym kept) tt

-- names that are listed after an operation
pub after-quiet : (op : Op) (key : Key) (s t : QueueState) (before : Option Listed) (after : Option (List (List ℕ))) → HasRisingIds s
    → IfSome before (IsListedBefore op key s) → t ≡ (do_effect op key s).state → IfSome after (IsStillListed t before)
    → IfSome after (λ names. names ≡ all_tubes t)
after-quiet op key s t before None ids listed made still = tt
after-quiet op key s t before (Some names) ids listed made still =
    let was = subst (λ o. IfSome o (IsListedBefore op key s)) still.before_is listed in
    let same : all_tubes (do_effect op key s).state ≡ all_tubes s =
    do-tubes op key s (2 ^ 32) ids (λ quiet. was.rising) was.none_new
    (λ u among. ap (λ (v : QueueState). is_among u (all_tubes v)) (sym made) ∙ still.still u (subst (In u) (sym was.left) among)) in
    still.same ∙ was.all ∙ sym same ∙ ap all_tubes (sym made)
