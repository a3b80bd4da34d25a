-- A job that is held, and what Serve and the other turns do to it.
use Rattle.std.proofs.Common.{◌≡◌, ℕ, ◌+◌, true, false, List, [], ◌∷◌, ◌++◌, length, cond, Option, option_map, Some}
use Rattle.std.proofs.Common.{IfSome, refl, sym, ap, subst, ◌∙◌, ne_eqb, true≢false}
use Rattle.std.proofs.lemmas.Bool.{cond-false}
use Rattle.std.specs.List.{AllByRecursion}
use Rattle.object.specs.Lists.{In}
use Rattle.object.specs.declared.command.Answer.{Answer}
use Rattle.job_store.specs.declared.job.Job.{Job}
use Rattle.job_store.specs.declared.state.State.{State}
use Rattle.job_store.specs.Entries.{Rising, value_at, each_value, altered}
use Rattle.job_store.specs.EntryLaws.{value_at-each, value_at-altered_same, value_at-altered_other, value_at-In, Rising-altered}
use Rattle.job_store.specs.States.{is_ready}
use Rattle.session_store.specs.declared.session.SessionState.{SessionState}
use Rattle.bean_words.specs.declared.reply.Reply.{Reply}
use Rattle.bean_queue.specs.Queue.{QueueState, HasRisingIds}
use Rattle.bean_queue.specs.Turns.{QueueOutcome, QueueTurn, all_turns, given, serve_turn, told_turn, deadline_turn, timeout_turn, serve}
use Rattle.bean_queue.specs.Holds.{hands_out, handing_out}
use Rattle.bean_queue.specs.TurnLaws.{turns-keep, serve_turn-is, deadline_turn-is, timeout_turn-is, IsServed, IsTold, IfSome-map}

-- session x holds the job id, whose time to run counts from the second
pub record Held (jobs : List (ℕ × Job)) (x id ttr second : ℕ) : Type 0 where
  pub job : Job
  pub there : value_at id jobs ≡ Some job
  pub runs : job.ttr ≡ ttr
  pub held : job.state ≡ State.Reserved x (second + ttr)

pub Held-altered_other : (k : ℕ) (f : Job → Job) (jobs : List (ℕ × Job)) (x id ttr second : ℕ) → (k ≡ id → ⊥)
    → Held jobs x id ttr second → Held (altered k f jobs) x id ttr second
Held-altered_other k f jobs x id ttr second apart h =
    record { job = h.job; there = value_at-altered_other k id f jobs apart ∙ h.there; runs = h.runs; held = h.held }

-- a job that was given or touched
pub Held-reserved : (jobs : List (ℕ × Job)) (x id now : ℕ) (f : Job → Job) (job : Job) → value_at id jobs ≡ Some job
    → (f job).state ≡ State.Reserved x (now + job.ttr) → (f job).ttr ≡ job.ttr
    → Held (altered id f jobs) x id job.ttr now
Held-reserved jobs x id now f job e state ttr =
    record { job = f job; there = value_at-altered_same id f jobs job e; runs = ttr; held = state }

-- a job that a map over all jobs leaves alone
pub Held-each : (f : Job → Job) (jobs : List (ℕ × Job)) (x id ttr second : ℕ) (h : Held jobs x id ttr second)
    → f h.job ≡ h.job → Held (each_value f jobs) x id ttr second
Held-each f jobs x id ttr second h e =
    record {
      job = h.job;
      there = value_at-each f id jobs ∙ ap (option_map f) h.there ∙ ap Some e;
      runs = h.runs;
      held = h.held;
    }

ready≢reserved : (x due : ℕ) (st : State) → is_ready st ≡ true → st ≡ State.Reserved x due → ⊥
ready≢reserved x due st r e = true≢false (sym r ∙ ap is_ready e)

-- a Ready job is not one that is held
pub ready_apart : (jobs : List (ℕ × Job)) (hi x id ttr second : ℕ) (j : ℕ × Job) → Rising 1 hi jobs
    → Held jobs x id ttr second → In j jobs → is_ready j.1.state ≡ true → j.0 ≡ id → ⊥
ready_apart jobs hi x id ttr second j sound h i r same =
    let a : value_at id jobs ≡ Some j.1 = ap (λ q. value_at q jobs) (sym same) ∙ value_at-In 1 hi jobs j sound i in
    let b : h.job ≡ j.1 = cc in
    ready≢reserved x (second + ttr) j.1.state r (ap (λ (job : Job). job.state) (sym b) ∙ h.held)

-- what Serve keeps of a held job
pub record Keeps (x id ttr second now : ℕ) (s : QueueState) : Type 0 where
  pub sound : HasRisingIds s
  pub held : Held s.jobs x id ttr second
  pub at : s.now ≡ now

abbrev pub IsQuietReply : ℕ → Answer Reply → Type 0
IsQuietReply id a = hands_out id a.reply ≡ false

pub serve-keeps_turn : (x id ttr second now : ℕ) (s : QueueState) → Keeps x id ttr second now s
    → IfSome (serve_turn s) (λ t. Keeps x id ttr second now t.state × IsQuietReply id t.answer)
unfolding given
serve-keeps_turn x id ttr second now s k =
    IfSome-map _ _ (serve_turn s)
    (λ t (i : IsServed s t).
    let apart : i.job.0 ≡ id → ⊥ = ready_apart s.jobs s.next_id x id ttr second i.job k.sound k.held i.there i.ready in
    subst (λ (t : QueueTurn). Keeps x id ttr second now t.state × IsQuietReply id t.answer) (sym i.made) (
      record {
        sound = Rising-altered _ _ 1 s.next_id s.jobs k.sound;
        held = Held-altered_other i.job.0 _ s.jobs x id ttr second apart k.held;
        at = k.at;
      },
      ne_eqb id i.job.0 (λ e. apart (sym e)),
    ))
    (serve_turn-is s)

-- no answer is RESERVED of the job
abbrev pub IsQuiet : ℕ → List (Answer Reply) → Type 0
IsQuiet id answers = handing_out id answers ≡ []

pub quiet-all : (id : ℕ) (answers : List (Answer Reply)) → AllByRecursion (IsQuietReply id) answers → IsQuiet id answers
quiet-all id [] h = refl
quiet-all id (a ∷ more) h = cond-false (hands_out id a.reply) (a ∷ handing_out id more) (handing_out id more) h.0 ∙ quiet-all id more h.1

pub handing_out-append : (id : ℕ) (more bs : List (Answer Reply)) → handing_out id (more ++ bs) ≡ handing_out id more ++ handing_out id bs
handing_out-append id [] bs = refl
handing_out-append id (a ∷ more) bs =
    elim (hands_out id a.reply) as (λ b. cond b (a ∷ handing_out id (more ++ bs)) (handing_out id (more ++ bs))
    ≡ cond b (a ∷ handing_out id more) (handing_out id more) ++ handing_out id bs) [
      | true ↦ ap (λ zs. a ∷ zs) (handing_out-append id more bs)
      | false ↦ handing_out-append id more bs
    ]

all-at : (id : ℕ) (answers : List (Answer Reply))
    → AllByRecursion (λ a. (id : ℕ) → hands_out id a.reply ≡ false) answers → AllByRecursion (IsQuietReply id) answers
all-at id [] h = tt
all-at id (a ∷ more) h = (h.0 id, all-at id more h.1)

pub quiet-append : (id : ℕ) (xs ys : List (Answer Reply)) → IsQuiet id xs → IsQuiet id ys → IsQuiet id (xs ++ ys)
quiet-append id xs ys p q = handing_out-append id xs ys ∙ ap (λ zs. zs ++ handing_out id ys) p ∙ q

-- an outcome that keeps a hold: no RESERVED of the job, and the same hold
pub record KeepsHold (x id ttr second now : ℕ) (o : QueueOutcome) : Type 0 where
  pub keeps : Keeps x id ttr second now o.state
  pub quiet : IsQuiet id o.answers

pub serve-keeps : (x id ttr second now : ℕ) (s : QueueState) → Keeps x id ttr second now s → KeepsHold x id ttr second now (serve s)
unfolding serve all_turns
serve-keeps x id ttr second now s k =
    let r = turns-keep serve_turn (Keeps x id ttr second now) (IsQuietReply id) (serve-keeps_turn x id ttr second now) (length s.sessions) s k in
    record { keeps = r.0; quiet = quiet-all id _ r.1 }

-- an outcome that leaves the jobs alone, and reserves none
pub record IsAside (s : QueueState) (o : QueueOutcome) : Type 0 where
  pub jobs : o.state.jobs ≡ s.jobs
  pub at : o.state.now ≡ s.now
  pub next : o.state.next_id ≡ s.next_id
  pub quiet : (id : ℕ) → IsQuiet id o.answers

-- a state with the same jobs
pub record IsLike (s t : QueueState) : Type 0 where
  pub jobs : t.jobs ≡ s.jobs
  pub at : t.now ≡ s.now
  pub next : t.next_id ≡ s.next_id

told-like : (s t : QueueState) (reply : Reply) (w : ℕ × SessionState) → IsLike s t → IsLike s (told_turn t reply w).state
unfolding told_turn
told-like s t reply w l = record { jobs = l.jobs; at = l.at; next = l.next }

told-quiet : (s : QueueState) (reply : Reply) (w : ℕ × SessionState) (id : ℕ) → hands_out id reply ≡ false
    → hands_out id (told_turn s reply w).answer.reply ≡ false
unfolding told_turn
told-quiet s reply w id e = e

told-aside : (reply : Reply) → ((id : ℕ) → hands_out id reply ≡ false) → (turn : QueueState → Option QueueTurn)
    → ((s : QueueState) → IfSome (turn s) (IsTold reply s)) → (s : QueueState) → IsAside s (all_turns turn s)
unfolding all_turns
told-aside reply quiet turn is s =
    let r = turns-keep turn (IsLike s) (λ a. (id : ℕ) → hands_out id a.reply ≡ false)
    (λ t l. IfSome-map _ _ (turn t)
    (λ u (i : IsTold reply t u). subst
    (λ (u : QueueTurn). IsLike s u.state × ((id : ℕ) → hands_out id u.answer.reply ≡ false)) (sym i.made)
    (told-like s t reply i.session l, λ id. told-quiet t reply i.session id (quiet id))) (is t))
    (length s.sessions) s (record { jobs = refl; at = refl; next = refl }) in
    record { jobs = r.0.jobs; at = r.0.at; next = r.0.next; quiet = λ id. quiet-all id _ (all-at id _ r.1) }

pub deadlines-aside : (s : QueueState) → IsAside s (all_turns deadline_turn s)
deadlines-aside s = told-aside Reply.DeadlineSoon (λ id. refl) deadline_turn deadline_turn-is s

pub timeouts-aside : (s : QueueState) → IsAside s (all_turns timeout_turn s)
timeouts-aside s = told-aside Reply.TimedOut (λ id. refl) timeout_turn timeout_turn-is s

pub sound-along : (s t : QueueState) → t.jobs ≡ s.jobs → t.next_id ≡ s.next_id → HasRisingIds s → HasRisingIds t
sound-along s t jobs next sound = subst (λ n. Rising 1 n t.jobs) (sym next) (subst (λ es. Rising 1 s.next_id es) (sym jobs) sound)

pub aside-keeps : (x id ttr second now : ℕ) (s : QueueState) (o : QueueOutcome) → Keeps x id ttr second now s → IsAside s o → KeepsHold x id ttr second now o
aside-keeps x id ttr second now s o k a =
    record {
      keeps =
          record {
            sound = sound-along s o.state a.jobs a.next k.sound;
            held = subst (λ es. Held es x id ttr second) (sym a.jobs) k.held;
            at = a.at ∙ k.at;
          };
      quiet = a.quiet id;
    }
