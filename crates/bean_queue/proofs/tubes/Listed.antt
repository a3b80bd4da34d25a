-- Which tubes there are doesn't change by a call: a session that is made uses and watches `default` alone.
use Rattle.std.proofs.Common.{◌≡◌, ◌⊎◌, inl, inr, ℕ, ◌==◌, Bool, true, false, cond, List, [], ◌∷◌, Option, None, is_some}
use Rattle.std.proofs.Common.{Some, refl, sym, ap, subst, ◌∙◌, true≢false}
use Rattle.std.proofs.lemmas.Bool.{cond-false}
use Rattle.object.specs.Lists.{In}
use Rattle.object.specs.declared.command.Key.{Key}
use Rattle.job_store.specs.Entries.{value_at, with_value, altered}
use Rattle.job_store.specs.EntryLaws.{altered-in, without-in, insert-in, without-insert}
use Rattle.session_store.specs.declared.session.SessionState.{SessionState}
use Rattle.session_store.specs.Sessions.{new_session, known, with_wait, with_wait_ended}
use Rattle.bean_words.specs.declared.op.Op.{Op}
use Rattle.bean_words.specs.declared.reply.Reply.{Reply}
use Rattle.bean_queue.specs.Queue.{QueueState}
use Rattle.bean_queue.specs.Rows.{row, stats_row}
use Rattle.bean_queue.specs.Turns.{QueueOutcome, serve_turn}
use Rattle.bean_queue.specs.Effects.{with_ask_noted, called, carried_out, ends_wait, do_effect, has_no_number, is_quiet, lists_tubes}
use Rattle.bean_queue.specs.Tubes.{all_tubes, IsTube}
use Rattle.bean_queue.proofs.calm.Called.{quiet-state, quiet-reply}
use Rattle.bean_queue.proofs.tubes.TubeLists.{same-names, tubes-all, tubes-sorted}

-- the session uses or watches the tube
abbrev names : List ℕ → ℕ × SessionState → Type 0
names t e = (t ≡ e.1.used) ⊎ In t e.1.watched

of-session : (s : QueueState) (t : List ℕ) (w : ℕ × SessionState) → In w s.sessions → names t w → IsTube s t
of-session s t w i (inl used) = IsTube.used w i used
of-session s t w i (inr watched) = IsTube.watched w i watched

pub in-altered : {X : Type 0} (k : ℕ) (f : X → X) (es : List (ℕ × X)) (d : ℕ × X) → In d es
    → In (d.0, cond (k == d.0) (f d.1) d.1) (altered k f es)
in-altered k f [] d i = absurd i
in-altered {X} k f (e ∷ es) d (inl same) = inl (ap (λ (p : ℕ × X). (p.0, cond (k == p.0) (f p.1) p.1)) same)
in-altered k f (e ∷ es) d (inr later) = inr (in-altered k f es d later)

module _ (f : SessionState → SessionState) (used : (v : SessionState) → (f v).used ≡ v.used)
    (watched : (v : SessionState) → (f v).watched ≡ v.watched) (t : List ℕ) (k : ℕ) where
  -- what the change leaves to a session
  names-after : (b : Bool) (v : SessionState) → names t (k, v) → names t (k, cond b (f v) v)
  names-after true v (inl it) = inl (it ∙ sym (used v))
  names-after true v (inr it) = inr (subst (In t) (sym (watched v)) it)
  names-after false v it = it

  names-before : (b : Bool) (v : SessionState) → names t (k, cond b (f v) v) → names t (k, v)
  names-before true v (inl it) = inl (it ∙ used v)
  names-before true v (inr it) = inr (subst (In t) (watched v) it)
  names-before false v it = it

new-names : (s : QueueState) (t : List ℕ) (x : ℕ) → names t (x, new_session) → IsTube s t
new-names s t x (inl same) = IsTube.default same
new-names s t x (inr (inl same)) = IsTube.default same
new-names s t x (inr (inr never)) = absurd never

module _ (op : Op) (x : ℕ) (s : QueueState) (t : List ℕ) where
  from-known : (e : ℕ × SessionState) → In e (known x s.sessions) → names t e → IsTube s t
  from-known =
      elim (is_some (value_at x s.sessions)) as (λ b. (e : ℕ × SessionState)
      → In e (cond b (with_wait_ended x s.sessions) (with_value x new_session s.sessions)) → names t e → IsTube s t) [
        | true ↦ altered-in x (with_wait None) (λ e. names t e → IsTube s t) s.sessions
            (λ d i n. of-session s t d i (names-before (with_wait None) (λ v. refl) (λ v. refl) t d.0 (x == d.0) d.1 n))
        | false ↦ insert-in (λ e. names t e → IsTube s t) x new_session s.sessions (λ q n. new-names s t q n)
            (λ d i n. of-session s t d i n)
      ]

  from-called : (e : ℕ × SessionState) → In e (called op x s).sessions → names t e → IsTube s t
  from-called =
      altered-in x (with_ask_noted op) (λ e. names t e → IsTube s t) (known x s.sessions)
      (λ d i n. from-known d i (names-before (with_ask_noted op) (λ v. refl) (λ v. refl) t d.0 (x == d.0) d.1 n))

  was-tube : IsTube (called op x s) t → IsTube s t
  was-tube (IsTube.default same) = IsTube.default same
  was-tube (IsTube.of_job j i e) = IsTube.of_job j i e
  was-tube (IsTube.used w i e) = from-called w i (inl e)
  was-tube (IsTube.watched w i e) = from-called w i (inr e)

  none-there : (o : Option SessionState) → is_some o ≡ false → o ≡ None
  none-there None e = refl
  none-there (Some v) e = absurd (true≢false e)

  to-known : (d : ℕ × SessionState) → In d s.sessions → names t d
      → (e : ℕ × SessionState) × In e (known x s.sessions) × names t e
  to-known d i n =
      elim (is_some (value_at x s.sessions)) as (λ b. is_some (value_at x s.sessions) ≡ b → (e : ℕ × SessionState)
      × In e (cond b (with_wait_ended x s.sessions) (with_value x new_session s.sessions)) × names t e) [
        | true ↦ λ there. (
          (d.0, cond (x == d.0) (with_wait None d.1) d.1),
          in-altered x (with_wait None) s.sessions d i,
          names-after (with_wait None) (λ v. refl) (λ v. refl) t d.0 (x == d.0) d.1 n,
        )
        | false ↦ λ absent. (
          d,
          without-in x (with_value x new_session s.sessions) d
              (subst (In d) (sym (without-insert x new_session s.sessions (none-there (value_at x s.sessions) absent))) i),
          n,
        )
      ] refl

  still-named : (d : ℕ × SessionState) → In d s.sessions → names t d → IsTube (called op x s) t
  still-named d i n =
      let k = to-known d i n in
      of-session (called op x s) t (k.0.0, cond (x == k.0.0) (with_ask_noted op k.0.1) k.0.1)
      (in-altered x (with_ask_noted op) (known x s.sessions) k.0 k.1)
      (names-after (with_ask_noted op) (λ v. refl) (λ v. refl) t k.0.0 (x == k.0.0) k.0.1 k.2)

  is-still-tube : IsTube s t → IsTube (called op x s) t
  is-still-tube (IsTube.default same) = IsTube.default same
  is-still-tube (IsTube.of_job j i e) = IsTube.of_job j i e
  is-still-tube (IsTube.used w i e) = still-named w i (inl e)
  is-still-tube (IsTube.watched w i e) = still-named w i (inr e)

pub called-tubes : (op : Op) (x : ℕ) (s : QueueState) → all_tubes (called op x s) ≡ all_tubes s
called-tubes op x s =
    same-names (all_tubes (called op x s)) (all_tubes s) (tubes-sorted (called op x s)) (tubes-sorted s)
    (λ t i. (tubes-all s t).1 (was-tube op x s t ((tubes-all (called op x s) t).0 i)))
    (λ t i. (tubes-all (called op x s) t).1 (is-still-tube op x s t ((tubes-all s t).0 i)))

-- An operation that lists tubes changes nothing else

listing-cases : (op : Op) → lists_tubes op ≡ true → (op ≡ Op.ListTubes) ⊎ (op ≡ Op.Stats)
listing-cases Op.ListTubes e = inl refl
listing-cases Op.Stats e = inr refl
listing-cases (Op.Put pri delay ttr body) e = absurd (true≢false (sym e))
listing-cases (Op.Use tube) e = absurd (true≢false (sym e))
listing-cases (Op.Watch tube) e = absurd (true≢false (sym e))
listing-cases (Op.Ignore tube) e = absurd (true≢false (sym e))
listing-cases (Op.Reserve seconds) e = absurd (true≢false (sym e))
listing-cases (Op.Delete id) e = absurd (true≢false (sym e))
listing-cases (Op.Touch id) e = absurd (true≢false (sym e))
listing-cases (Op.Release id pri delay) e = absurd (true≢false (sym e))
listing-cases (Op.Bury id pri) e = absurd (true≢false (sym e))
listing-cases (Op.Kick bound) e = absurd (true≢false (sym e))
listing-cases (Op.KickJob id) e = absurd (true≢false (sym e))
listing-cases (Op.ReserveJob id) e = absurd (true≢false (sym e))
listing-cases (Op.Peek id) e = absurd (true≢false (sym e))
listing-cases Op.PeekReady e = absurd (true≢false (sym e))
listing-cases Op.PeekDelayed e = absurd (true≢false (sym e))
listing-cases Op.PeekBuried e = absurd (true≢false (sym e))
listing-cases Op.ListTubeUsed e = absurd (true≢false (sym e))
listing-cases Op.ListTubesWatched e = absurd (true≢false (sym e))
listing-cases (Op.Pause tube seconds) e = absurd (true≢false (sym e))
listing-cases (Op.StatsJob id) e = absurd (true≢false (sym e))
listing-cases (Op.StatsTube tube) e = absurd (true≢false (sym e))

-- the operation is quiet, needs no number, and leaves the state as it was called
pub record OnlyReports (op : Op) : Type 0 where
  pub quiet : is_quiet op ≡ true
  pub numbered : (s : QueueState) → has_no_number op s ≡ false
  pub stays : (key : Key) (s : QueueState) → (row op key s).state ≡ s

listing : OnlyReports Op.ListTubes
unfolding row
listing = record { quiet = refl; numbered = λ s. refl; stays = λ key s. refl }

counting : OnlyReports Op.Stats
unfolding row stats_row
counting = record { quiet = refl; numbered = λ s. refl; stays = λ key s. refl }

pub is-listing : (op : Op) → lists_tubes op ≡ true → OnlyReports op
is-listing op lists =
    elim (listing-cases op lists) as (λ v. OnlyReports op) [
      | inl same ↦ subst OnlyReports (sym same) listing
      | inr same ↦ subst OnlyReports (sym same) counting
    ]

pub listing-effect : (op : Op) (key : Key) (s : QueueState) → lists_tubes op ≡ true → do_effect op key s ≡ carried_out op key s
unfolding do_effect
listing-effect op key s lists =
    cond-false (has_no_number op s) (ends_wait s key Reply.InternalError) (carried_out op key s) ((is-listing op lists).numbered s)

pub listing-state : (op : Op) (key : Key) (s t : QueueState) → lists_tubes op ≡ true → serve_turn s ≡ None
    → t ≡ called op key.session s → t ≡ (do_effect op key s).state
listing-state op key s t lists calm is =
    let l = is-listing op lists in
    quiet-state op key s t t l.quiet calm is (sym (l.stays key t)) ∙ ap (λ (o : QueueOutcome). o.state) (sym (listing-effect op key s lists))

pub listing-reply : (op : Op) (key : Key) (s t : QueueState) (reply : Reply) → lists_tubes op ≡ true → serve_turn s ≡ None
    → t ≡ called op key.session s → (row op key t).reply ≡ Some reply
    → (do_effect op key s).answers ≡ record { to = key; reply = reply } ∷ []
listing-reply op key s t reply lists calm is told =
    ap (λ (o : QueueOutcome). o.answers) (listing-effect op key s lists) ∙
    quiet-reply op key s t reply (is-listing op lists).quiet calm is told
