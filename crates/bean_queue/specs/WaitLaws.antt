-- The laws of every effect: who waits, and whom the answers name.
use Rattle.std.proofs.Common.{◌≡◌, ℕ, zero, suc, ◌+◌, Bool, true, false, cond, ◌⊎◌, inl, inr, List, [], ◌∷◌, ◌++◌}
use Rattle.std.proofs.Common.{length, Option, Some, None, IfSome, nat_lt, refl, sym, ap, subst, ◌∙◌, append_assoc}
use Rattle.object.specs.Lists.{In}
use Rattle.object.specs.Answers.{AnswersOnce}
use Rattle.object.specs.declared.command.Act.{Act}
use Rattle.object.specs.declared.command.Answer.{Answer}
use Rattle.object.specs.declared.command.Command.{Command}
use Rattle.object.specs.declared.command.Key.{Key}
use Rattle.job_store.specs.declared.job.Job.{Job}
use Rattle.job_store.specs.Entries.{value_at}
use Rattle.job_store.specs.LookUps.{is_among}
use Rattle.job_store.specs.States.{is_held}
use Rattle.session_store.specs.declared.session.SessionState.{SessionState}
use Rattle.session_store.specs.Sessions.{session_of, known, with_wait_ended, is_waiting, wait_number}
use Rattle.session_store.specs.WatchLists.{is_alone}
use Rattle.session_store.specs.Waits.{WaitsIn}
use Rattle.session_store.specs.WaitLaws.{altered-waits, ended-waits, forgotten-waits, known-waits, waiting-waits, some_wait, session_waits}
use Rattle.pause_store.specs.Pauses.{tubes_over}
use Rattle.bean_words.specs.declared.op.Op.{Op}
use Rattle.bean_words.specs.declared.reply.Reply.{Reply}
use Rattle.bean_queue.specs.Queue.{QueueState, fresh, holds_by, watched_by}
use Rattle.bean_queue.specs.Turns.{QueueOutcome, QueueTurn, stop, turns, all_turns, after_option, given, told_turn}
use Rattle.bean_queue.specs.Turns.{serve_turn, deadline_turn, timeout_turn, serve}
use Rattle.bean_queue.specs.Rows.{is_idle, Row, row, put_row, use_row, watch_row, ignore_row, reserve_row, delete_row}
use Rattle.bean_queue.specs.Rows.{may_delete, delete_found, is_job_that, release_row, touch_row, bury_row, kick_row, kick_job_row}
use Rattle.bean_queue.specs.Rows.{is_unreserved, reserve_found, reserve_job_row, peek_row, pause_row, stats_job_row, stats_tube_row, stats_row}
use Rattle.bean_queue.specs.Tubes.{all_tubes}
use Rattle.bean_queue.specs.Effects.{own, with_ask_noted, called, ends_wait, is_zero, turned_away, then_do, then_settled, has_no_number, carried_out}
use Rattle.bean_queue.specs.Effects.{do_effect, released, close_effect, second_begun, tick_effect, act_effect, effect}
use Rattle.bean_queue.specs.Waits.{Waits, NoneTwice, IsLawful}
use Rattle.bean_queue.specs.TurnLaws.{IsServed, IsTold, serve_turn-is, deadline_turn-is, timeout_turn-is, IfSome-map}

module _ {X : Type 0} where
  pub in-append : (xs ys : List X) (a : X) → In a (xs ++ ys) → In a xs ⊎ In a ys
  in-append [] ys a i = inr i
  in-append (x ∷ xs) ys a (inl same) = inl (inl same)
  in-append (x ∷ xs) ys a (inr later) = elim (in-append xs ys a later) [ inl i ↦ inl (inr i) | inr i ↦ inr i ]

pub none_twice-append : (xs ys : List (Answer Reply)) → NoneTwice xs → NoneTwice ys
    → ((a b : Answer Reply) → In a xs → In b ys → b.to.session ≡ a.to.session → ⊥) → NoneTwice (xs ++ ys)
none_twice-append [] ys p q h = q
none_twice-append (x ∷ xs) ys p q h = (
  λ b i e. elim (in-append xs ys b i) as (λ v. ⊥) [ inl j ↦ p.0 b j e | inr j ↦ h x b (inl refl) j e ],
  none_twice-append xs ys p.1 q (λ a b i j. h a b (inr i) j),
)

-- Turns

pub record IsDealt (s : QueueState) (o : QueueOutcome) : Type 0 where
  pub fewer : (k : Key) → Waits o.state k → Waits s k
  pub named : (a : Answer Reply) → In a o.answers → Waits s a.to
  pub over : (a : Answer Reply) (k : Key) → In a o.answers → Waits o.state k → k.session ≡ a.to.session → ⊥
  pub once : NoneTwice o.answers

dealt-none : (s : QueueState) → IsDealt s (stop s)
dealt-none s = record { fewer = λ k h. h; named = λ a i. absurd i; over = λ a k i. absurd i; once = tt }

dealt-then : (s t u : QueueState) (xs ys : List (Answer Reply)) → IsDealt s (record { state = t; answers = xs })
    → IsDealt t (record { state = u; answers = ys }) → IsDealt s (record { state = u; answers = xs ++ ys })
dealt-then s t u xs ys p q =
    record {
      fewer = λ k h. p.fewer k (q.fewer k h);
      named = λ a i. elim (in-append xs ys a i) [ inl j ↦ p.named a j | inr j ↦ p.fewer a.to (q.named a j) ];
      over = λ a k i h e. elim (in-append xs ys a i) as (λ v. ⊥) [ inl j ↦ p.over a k j (q.fewer k h) e | inr j ↦ q.over a k j h e ];
      once = none_twice-append xs ys p.once q.once (λ a b i j e. p.over a b.to i (q.named b j) e);
    }

pub record IsWaiterTurn (s : QueueState) (t : QueueTurn) : Type 0 where
  pub session : ℕ × SessionState
  pub known : In session s.sessions
  pub waits : is_waiting session.1 ≡ true
  pub sessions : t.state.sessions ≡ with_wait_ended session.0 s.sessions
  pub to : t.answer.to ≡ record { session = session.0; number = wait_number session.1.wait }

pub given-waiter : (s : QueueState) (t : QueueTurn) → IsServed s t → IsWaiterTurn s t
unfolding given
given-waiter s t i = record {
  session = i.session;
  known = i.known;
  waits = i.waits;
  sessions =
      ap (λ (t : QueueTurn). t.state.sessions) i.made;
  to = ap (λ (t : QueueTurn). t.answer.to) i.made;
}

pub told-waiter : (reply : Reply) (s : QueueState) (t : QueueTurn) → IsTold reply s t → IsWaiterTurn s t
unfolding told_turn
told-waiter reply s t i = record {
  session = i.session;
  known = i.known;
  waits = i.waits;
  sessions =
      ap (λ (t : QueueTurn). t.state.sessions) i.made;
  to = ap (λ (t : QueueTurn). t.answer.to) i.made;
}

dealt-turn : (s : QueueState) (t : QueueTurn) → IsWaiterTurn s t → IsDealt s (record { state = t.state; answers = t.answer ∷ [] })
dealt-turn s t i =
    let w = some_wait i.session.1.wait i.waits in
    let waited : Waits s t.answer.to = (i.session, w.0, i.known, ap (λ (k : Key). k.session) (sym i.to), w.1, w.2 ∙ ap (λ (k : Key). k.number) (sym i.to)) in
    let after : (k : Key) → Waits t.state k → WaitsIn s.sessions k × (k.session ≡ i.session.0 → ⊥) =
    λ k h. ended-waits i.session.0 s.sessions k (subst (λ ss. WaitsIn ss k) i.sessions h) in
    record {
      fewer = λ k h. (after k h).0;
      named = λ a j. elim j as (λ j. Waits s a.to) [ inl same ↦ subst (λ (a : Answer Reply). Waits s a.to) (sym same) waited | inr never ↦ absurd never ];
      over = λ a k j h e. elim j as (λ j. ⊥) [
        | inl same ↦ (after k h).1
            (e ∙ ap (λ (a : Answer Reply). a.to.session) same ∙ ap (λ (k : Key). k.session) i.to)
        | inr never ↦ never
      ];
      once = (λ b j e. j, tt);
    }

turns-dealt : (turn : QueueState → Option QueueTurn) → ((s : QueueState) → IfSome (turn s) (IsWaiterTurn s))
    → (n : ℕ) (s : QueueState) → IsDealt s (turns turn n s)
unfolding turns
turns-dealt turn good zero s = dealt-none s
turns-dealt turn good (suc n) s =
    elim (turn s) as (λ o. IfSome o (IsWaiterTurn s) → IsDealt s (after_option (turns turn n) s o)) [
      | None ↦ λ i. dealt-none s
      | Some t ↦ λ i. dealt-then s t.state (turns turn n t.state).state (t.answer ∷ []) (turns turn n t.state).answers
          (dealt-turn s t i) (turns-dealt turn good n t.state)
    ] (good s)

pub serve-dealt : (s : QueueState) → IsDealt s (serve s)
unfolding serve all_turns
serve-dealt s = turns-dealt serve_turn (λ s. IfSome-map _ _ (serve_turn s) (given-waiter s) (serve_turn-is s)) (length s.sessions) s

pub deadlines-dealt : (s : QueueState) → IsDealt s (all_turns deadline_turn s)
unfolding all_turns
deadlines-dealt s = turns-dealt deadline_turn
    (λ s. IfSome-map _ _ (deadline_turn s) (told-waiter Reply.DeadlineSoon s) (deadline_turn-is s))
    (length s.sessions) s

pub timeouts-dealt : (s : QueueState) → IsDealt s (all_turns timeout_turn s)
unfolding all_turns
timeouts-dealt s = turns-dealt timeout_turn (λ s. IfSome-map _ _ (timeout_turn s) (told-waiter Reply.TimedOut s) (timeout_turn-is s)) (length s.sessions) s

-- Rows: nobody waits anew, or the command itself does, without a reply
data RowWaits (key : Key) (s : QueueState) (r : Row) : Type 0 where
  still : ((k : Key) → Waits r.state k → Waits s k) → RowWaits key s r
  anew : r.reply ≡ None → ((k : Key) → Waits r.state k → Waits s k ⊎ (k ≡ key)) → RowWaits key s r

still_if : (key : Key) (s : QueueState) (b : Bool) (r q : Row) → RowWaits key s r → RowWaits key s q → RowWaits key s (cond b r q)
still_if key s true r q h k = h
still_if key s false r q h k = k

-- the sessions are as they were
same : (key : Key) (s : QueueState) (r : Row) → r.state.sessions ≡ s.sessions → RowWaits key s r
same key s r e = RowWaits.still (λ k h. subst (λ ss. WaitsIn ss k) e h)

deleted-waits : (key : Key) (s : QueueState) (j : ℕ) (o : Option Job) → RowWaits key s (delete_found s key.session j o)
deleted-waits key s j None = same key s _ refl
deleted-waits key s j (Some job) = still_if key s (may_delete key.session job.state) _ _ (same key s _ refl) (same key s _ refl)

found-waits : (key : Key) (s : QueueState) (j : ℕ) (o : Option Job) → RowWaits key s (reserve_found s key.session j o)
found-waits key s j None = same key s _ refl
found-waits key s j (Some job) = still_if key s (is_unreserved job.state) _ _ (same key s _ refl) (same key s _ refl)

row-waits : (op : Op) (key : Key) (s : QueueState) → RowWaits key s (row op key s)
unfolding row put_row use_row watch_row ignore_row reserve_row delete_row release_row touch_row bury_row kick_row kick_job_row
    reserve_job_row peek_row pause_row stats_job_row stats_tube_row stats_row
row-waits (Op.Put pri delay ttr body) key s = same key s _ refl
row-waits (Op.Use tube) key s = RowWaits.still (λ k h. altered-waits key.session _ s.sessions k (λ c. refl) h)
row-waits (Op.Watch tube) key s = RowWaits.still (λ k h. altered-waits key.session _ s.sessions k (λ c. refl) h)
row-waits (Op.Ignore tube) key s =
    still_if key s (is_alone tube (watched_by s key.session)) _ _ (same key s _ refl)
    (RowWaits.still (λ k h. altered-waits key.session _ s.sessions k (λ c. refl) h))
row-waits (Op.Reserve seconds) key s =
    RowWaits.anew refl (λ k h. waiting-waits key.session _ _ s.sessions k key refl refl (λ c. refl) h)
row-waits (Op.Delete j) key s = deleted-waits key s j (value_at j s.jobs)
row-waits (Op.Release j pri delay) key s = still_if key s (is_job_that (is_held key.session) (value_at j s.jobs)) _ _ (same key s _ refl) (same key s _ refl)
row-waits (Op.Bury j pri) key s =
    still_if key s (is_job_that (is_held key.session) (value_at j s.jobs)) _ _ (same key s _ refl) (same key s _ refl)
row-waits (Op.Touch j) key s = still_if key s (is_job_that (is_held key.session) (value_at j s.jobs)) _ _ (same key s _ refl) (same key s _ refl)
row-waits (Op.Kick bound) key s = same key s _ refl
row-waits (Op.KickJob j) key s = still_if key s (is_job_that is_idle (value_at j s.jobs)) _ _ (same key s _ refl) (same key s _ refl)
row-waits (Op.ReserveJob j) key s = found-waits key s j (value_at j s.jobs)
row-waits (Op.Peek j) key s = same key s _ refl
row-waits Op.PeekReady key s = same key s _ refl
row-waits Op.PeekDelayed key s = same key s _ refl
row-waits Op.PeekBuried key s = same key s _ refl
row-waits Op.ListTubes key s = same key s _ refl
row-waits Op.ListTubeUsed key s = same key s _ refl
row-waits Op.ListTubesWatched key s = same key s _ refl
row-waits (Op.Pause tube seconds) key s = still_if key s (is_among tube (all_tubes s)) _ _ (same key s _ refl) (same key s _ refl)
row-waits (Op.StatsJob j) key s = same key s _ refl
row-waits (Op.StatsTube tube) key s = same key s _ refl
row-waits Op.Stats key s = same key s _ refl

ends_wait-dealt : (s : QueueState) (key : Key) (reply : Reply) → Waits s key → IsDealt s (ends_wait s key reply)
ends_wait-dealt s key reply h =
    record {
      fewer = λ k w. (ended-waits key.session s.sessions k w).0;
      named = λ a j. elim j as (λ j. Waits s a.to) [ inl e ↦ subst (λ (a : Answer Reply). Waits s a.to) (sym e) h | inr never ↦ absurd never ];
      over = λ a k j w e. elim j as (λ j. ⊥) [
        | inl f ↦ (ended-waits key.session s.sessions k w).1
            (e ∙ ap (λ (a : Answer Reply). a.to.session) f)
        | inr never ↦ never
      ];
      once = (λ b j e. j, tt);
    }

dealt_if : (s : QueueState) (b : Bool) (o p : QueueOutcome) → (b ≡ true → IsDealt s o) → IsDealt s p → IsDealt s (cond b o p)
dealt_if s true o p h k = h refl
dealt_if s false o p h k = k

-- where x waits by the key alone
turned_away-dealt : (op : Op) (key : Key) (s : QueueState) → ((k : Key) → Waits s k → k.session ≡ key.session → k ≡ key) → IsDealt s (turned_away op key s)
unfolding turned_away
turned_away-dealt (Op.Reserve seconds) key s only =
    dealt_if s (is_waiting (session_of key.session s.sessions)) _ _
    (λ e.
    let w = session_waits key.session s.sessions e in
    let h : Waits s key = subst (λ k. Waits s k) (only w.0 w.1 w.2) w.1 in
    dealt_if s (holds_by key.session (s.now + 1) s.jobs) _ _ (λ e. ends_wait-dealt s key Reply.DeadlineSoon h)
    (dealt_if s (is_zero seconds) _ _ (λ e. ends_wait-dealt s key Reply.TimedOut h) (dealt-none s)))
    (dealt-none s)
turned_away-dealt _ key s only = dealt-none s

lawful_along : (key : Key) (s t : QueueState) (xs ys : List (Answer Reply)) → xs ≡ ys
    → IsLawful key s (record { state = t; answers = xs }) → IsLawful key s (record { state = t; answers = ys })
lawful_along key s t xs ys e h = subst (λ zs. IsLawful key s (record { state = t; answers = zs })) e h

-- answers that nobody else could have, and then what is dealt
with_own : (key : Key) (s t u : QueueState) (reply : Reply) (ys : List (Answer Reply))
    → ((k : Key) → Waits t k → Waits s k × (k.session ≡ key.session → ⊥))
    → IsDealt t (record { state = u; answers = ys })
    → IsLawful key s (record { state = u; answers = own key (Some reply) ++ ys })
with_own key s t u reply ys h d =
    record {
      waits = λ k w. inl (h k (d.fewer k w)).0;
      named = λ a i. elim i as (λ i. (a.to ≡ key) ⊎ Waits s a.to) [ inl e ↦ inl (ap (λ (a : Answer Reply). a.to) e) | inr j ↦ inr (h a.to (d.named a j)).0 ];
      over = λ a i w. elim i as (λ i. ⊥) [ inl e ↦ (h a.to (d.fewer a.to w)).1 (ap (λ (a : Answer Reply). a.to.session) e) | inr j ↦ d.over a a.to j w refl ];
      once = (λ b j e. (h b.to (d.named b j)).1 e, d.once);
    }

without_own : (key : Key) (s t u : QueueState) (ys : List (Answer Reply))
    → ((k : Key) → Waits t k → Waits s k ⊎ (k ≡ key)) → IsDealt t (record { state = u; answers = ys })
    → IsLawful key s (record { state = u; answers = ys })
without_own key s t u ys h d =
    record {
      waits = λ k w. h k (d.fewer k w);
      named = λ a i. elim (h a.to (d.named a i)) [ inl w ↦ inr w | inr e ↦ inl e ];
      over = λ a i w. d.over a a.to i w refl;
      once = d.once;
    }

carried_out-lawful : (op : Op) (key : Key) (s : QueueState) → IsLawful key s (carried_out op key s)
unfolding carried_out
carried_out-lawful op key s =
    let t = called op key.session s in
    let r = row op key (called op key.session s) in
    let start : (k : Key) → Waits (called op key.session s) k → Waits s k × (k.session ≡ key.session → ⊥) =
    λ k w. known-waits key.session s.sessions k (altered-waits key.session (with_ask_noted op) (known key.session s.sessions) k (λ c. refl) w) in
    let served = serve-dealt r.state in
    lawful_along key s (turned_away op key (serve r.state).state).state
    (own key r.reply ++ ((serve r.state).answers ++ (turned_away op key (serve r.state).state).answers))
    ((own key r.reply ++ (serve r.state).answers) ++ (turned_away op key (serve r.state).state).answers)
    (sym (append_assoc (own key r.reply) (serve r.state).answers (turned_away op key (serve r.state).state).answers))
    (elim (row-waits op key (called op key.session s)) as (λ v. IsLawful key s
    (record {
      state = (turned_away op key (serve r.state).state).state;
      answers =
          own key r.reply ++ ((serve r.state).answers ++ (turned_away op key (serve r.state).state).answers);
    })) [
      | RowWaits.still h ↦
          let d : IsDealt r.state (record {
            state = (turned_away op key (serve r.state).state).state;
            answers =
                (serve r.state).answers ++ (turned_away op key (serve r.state).state).answers;
          }) =
          dealt-then r.state (serve r.state).state (turned_away op key (serve r.state).state).state
          (serve r.state).answers (turned_away op key (serve r.state).state).answers served
          (turned_away-dealt op key (serve r.state).state (λ k w e. absurd ((start k (h k (served.fewer k w))).1 e))) in
          elim r.reply as (λ o. IsLawful key s
          (record {
            state = (turned_away op key (serve r.state).state).state;
            answers =
                own key o ++ ((serve r.state).answers ++ (turned_away op key (serve r.state).state).answers);
          })) [
            | None ↦ without_own key s r.state _ _ (λ k w. inl (start k (h k w)).0) d
            | Some reply ↦ with_own key s r.state _ reply _ (λ k w. start k (h k w)) d
          ]
      | RowWaits.anew none h ↦
          let d : IsDealt r.state (record {
            state = (turned_away op key (serve r.state).state).state;
            answers =
                (serve r.state).answers ++ (turned_away op key (serve r.state).state).answers;
          }) =
          dealt-then r.state (serve r.state).state (turned_away op key (serve r.state).state).state
          (serve r.state).answers (turned_away op key (serve r.state).state).answers served
          (turned_away-dealt op key (serve r.state).state
          (λ k w e. elim (h k (served.fewer k w)) as (λ v. k
          ≡ key) [ inl was ↦ absurd ((start k was).1 e) | inr it ↦ it ])) in
          subst (λ o. IsLawful key s (record {
            state = (turned_away op key (serve r.state).state).state;
            answers =
                own key o ++ ((serve r.state).answers ++ (turned_away op key (serve r.state).state).answers);
          }))
          (sym none)
          (without_own key s r.state _ _ (λ k w. elim (h k w) [ inl was ↦ inl (start k was).0 | inr it ↦ inr it ]) d)
    ])

do-lawful : (op : Op) (key : Key) (s : QueueState) → IsLawful key s (do_effect op key s)
unfolding do_effect
do-lawful op key s =
    elim (has_no_number op s) as (λ b. IsLawful key s (cond b (ends_wait s key Reply.InternalError) (carried_out op key s))) [
      | true ↦ with_own key s (ends_wait s key Reply.InternalError).state
          (ends_wait s key Reply.InternalError).state Reply.InternalError [] (ended-waits key.session s.sessions)
          (dealt-none (ends_wait s key Reply.InternalError).state)
      | false ↦ carried_out-lawful op key s
    ]

close-lawful : (key : Key) (s : QueueState) → IsLawful key s (close_effect key.session s)
unfolding close_effect
close-lawful key s =
    let d = serve-dealt (released key.session s) in
    let o = serve (released key.session s) in
    without_own key s (released key.session s) _ _
    (λ k w. inl (ended-waits key.session s.sessions k w).0)
    (record {
      fewer = λ k w. d.fewer k (forgotten-waits key.session o.state.sessions k w);
      named = d.named;
      over = λ a k i w. d.over a k i (forgotten-waits key.session o.state.sessions k w);
      once = d.once;
    })

tick-lawful : (key : Key) (s : QueueState) → IsLawful key s (tick_effect key.number s)
unfolding tick_effect
tick-lawful key s =
    elim (nat_lt s.now key.number) as (λ b. IsLawful key s
    (cond b (then_settled (tubes_over key.number s.pauses)
    (then_do (then_do (serve (second_begun key.number s)) (all_turns deadline_turn)) (all_turns timeout_turn)))
    (stop s))) [
      | true ↦
          let a = serve (second_begun key.number s) in
          let b = all_turns deadline_turn (serve (second_begun key.number s)).state in
          let c = all_turns timeout_turn b.state in
          let d = dealt-then (second_begun key.number s) b.state c.state (a.answers ++ b.answers) c.answers
          (dealt-then (second_begun key.number s) a.state b.state a.answers b.answers (serve-dealt (second_begun key.number s)) (deadlines-dealt a.state))
          (timeouts-dealt b.state) in
          without_own key s (second_begun key.number s) _ _ (λ k w. inl w) (record { fewer = d.fewer; named = d.named; over = d.over; once = d.once })
      | false ↦ without_own key s s _ _ (λ k w. inl w) (dealt-none s)
    ]

-- the laws, for every state and command
pub effect-lawful : (c : Command Op) (s : QueueState) → IsLawful c.key s (effect c s)
unfolding effect act_effect
effect-lawful c s =
    elim c.act as (λ act. IsLawful c.key s (act_effect act c.key s)) [
      | Act.Do op ↦ do-lawful op c.key s
      | Act.Close ↦ close-lawful c.key s
      | Act.Tick ↦ tick-lawful c.key s
    ]

pub fresh-idle : (k : Key) → Waits fresh k → ⊥
fresh-idle k h = h.2

none_twice-once : (xs : List (Answer Reply)) → NoneTwice xs → AnswersOnce xs
none_twice-once [] h = tt
none_twice-once (a ∷ xs) h = (λ b i e. h.0 b i (ap (λ (k : Key). k.session) e), none_twice-once xs h.1)

-- no key is answered twice
pub effect-once : (c : Command Op) (s : QueueState) → AnswersOnce (effect c s).answers
effect-once c s = none_twice-once (effect c s).answers (effect-lawful c s).once
