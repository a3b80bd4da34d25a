-- What Serve gives: at most one RESERVED of a job, and then the job is held.
use Rattle.std.proofs.Common.{◌≡◌, ℕ, zero, suc, ◌+◌, false, ◌⊎◌, inl, inr, [], ◌∷◌, length, Some, None, IfSome, ◌==◌}
use Rattle.std.proofs.Common.{refl, sym, ap, subst, ◌∙◌, eq-eqb, ne_eqb}
use Rattle.std.proofs.lemmas.Bool.{cases_eq, cond-true, cond-false}
use Rattle.object.specs.Lists.{In}
use Rattle.object.specs.declared.command.Answer.{Answer}
use Rattle.job_store.specs.declared.job.Job.{Job}
use Rattle.job_store.specs.declared.state.State.{State}
use Rattle.job_store.specs.Entries.{altered}
use Rattle.job_store.specs.EntryLaws.{value_at-In, Rising-altered}
use Rattle.job_store.specs.States.{reserved_job}
use Rattle.session_store.specs.declared.session.SessionState.{SessionState}
use Rattle.bean_words.specs.declared.reply.Reply.{Reply}
use Rattle.bean_queue.specs.Queue.{QueueState, HasRisingIds}
use Rattle.bean_queue.specs.Turns.{QueueOutcome, QueueTurn, turns, all_turns, after_turn, after_option, given, serve_turn, serve}
use Rattle.bean_queue.specs.Holds.{hands_out, handing_out}
use Rattle.bean_queue.specs.TurnLaws.{turns-keep, serve_turn-is, IsServed}
use Rattle.bean_queue.proofs.holders.Held.{Held, Held-reserved, Keeps, IsQuietReply, IsQuiet, quiet-all, serve-keeps_turn}

-- one RESERVED of the job, whose receiver holds it from the second on
pub record Gave (id now : ℕ) (o : QueueOutcome) : Type 0 where
  pub answer : Answer Reply
  pub ttr : ℕ
  pub only : handing_out id o.answers ≡ answer ∷ []
  pub held : Held o.state.jobs answer.to.session id ttr now

pub record GivesOnce (id now : ℕ) (o : QueueOutcome) : Type 0 where
  pub sound : HasRisingIds o.state
  pub at : o.state.now ≡ now
  pub given : IsQuiet id o.answers ⊎ Gave id now o

now_held : (id now : ℕ) (s : QueueState) (j : ℕ × Job) (w : ℕ × SessionState) → id ≡ j.0 → In j s.jobs → HasRisingIds s
    → s.now ≡ now → Keeps w.0 id j.1.ttr now now (given s j w).state
unfolding given
now_held id now s j w same i sound at =
    record {
      sound = Rising-altered _ _ 1 s.next_id s.jobs sound;
      held =
          subst (λ q. Held (altered j.0 (reserved_job w.0 (s.now + j.1.ttr)) s.jobs) w.0 q j.1.ttr now) (sym same)
          (Held-reserved s.jobs w.0 j.0 now (reserved_job w.0 (s.now + j.1.ttr)) j.1 (value_at-In 1 s.next_id s.jobs j sound i)
          (ap (λ n. State.Reserved w.0 (n + j.1.ttr)) at) refl);
      at = at;
    }

given-sound : (s : QueueState) (j : ℕ × Job) (w : ℕ × SessionState) → HasRisingIds s → HasRisingIds (given s j w).state
unfolding given
given-sound s j w sound = Rising-altered _ _ 1 s.next_id s.jobs sound

given-now : (s : QueueState) (j : ℕ × Job) (w : ℕ × SessionState) → (given s j w).state.now ≡ s.now
unfolding given
given-now s j w = refl

given-reserved : (id : ℕ) (s : QueueState) (j : ℕ × Job) (w : ℕ × SessionState) → hands_out id (given s j w).answer.reply ≡ (id == j.0)
unfolding given
given-reserved id s j w = refl

given-to : (s : QueueState) (j : ℕ × Job) (w : ℕ × SessionState) → (given s j w).answer.to.session ≡ w.0
unfolding given
given-to s j w = refl

once_given : (id now : ℕ) (s : QueueState) (j : ℕ × Job) (w : ℕ × SessionState) (o : QueueOutcome)
    → IsQuiet id o.answers → Keeps w.0 id j.1.ttr now now o.state → id ≡ j.0
    → GivesOnce id now (after_turn (given s j w).answer o)
once_given id now s j w o quiet k same =
    record {
      sound = k.sound;
      at = k.at;
      given =
          inr (record {
            answer = (given s j w).answer;
            ttr = j.1.ttr;
            only =
                cond-true (hands_out id (given s j w).answer.reply) ((given s j w).answer ∷ handing_out id o.answers)
                (handing_out id o.answers) (given-reserved id s j w ∙ eq-eqb id j.0 same) ∙
                ap (λ zs. (given s j w).answer ∷ zs) quiet;
            held = subst (λ x. Held o.state.jobs x id j.1.ttr now) (sym (given-to s j w)) k.held;
          });
    }

once_later : (id now : ℕ) (a : Answer Reply) (o : QueueOutcome) → hands_out id a.reply ≡ false → GivesOnce id now o → GivesOnce id now (after_turn a o)
once_later id now a o e g =
    let skip : handing_out id (a ∷ o.answers) ≡ handing_out id o.answers =
    cond-false (hands_out id a.reply) (a ∷ handing_out id o.answers) (handing_out id o.answers) e in
    record {
      sound = g.sound;
      at = g.at;
      given =
          elim g.given as (λ v. IsQuiet id (a ∷ o.answers) ⊎ Gave id now (after_turn a o)) [
            | inl quiet ↦ inl (skip ∙ quiet)
            | inr gave ↦ inr (record { answer = gave.answer; ttr = gave.ttr; only = skip ∙ gave.only; held = gave.held })
          ];
    }

turns-give : (id now n : ℕ) (s : QueueState) → HasRisingIds s → s.now ≡ now → GivesOnce id now (turns serve_turn n s)
unfolding turns
turns-give id now zero s sound at = record { sound = sound; at = at; given = inl refl }
turns-give id now (suc n) s sound at =
    elim (serve_turn s) as (λ o. IfSome o (IsServed s) → GivesOnce id now (after_option (turns serve_turn n) s o)) [
      | None ↦ λ i. record { sound = sound; at = at; given = inl refl }
      | Some t ↦ λ i.
          let j = i.job in
          let w = i.session in
          subst (λ (t : QueueTurn). GivesOnce id now (after_turn t.answer (turns serve_turn n t.state))) (sym i.made)
          (elim (cases_eq id i.job.0) as (λ v. GivesOnce id now
          (after_turn (given s i.job i.session).answer (turns serve_turn n (given s i.job i.session).state))) [
            | inl same ↦
                let r = turns-keep serve_turn (Keeps i.session.0 id i.job.1.ttr now now) (IsQuietReply id)
                (serve-keeps_turn i.session.0 id i.job.1.ttr now now) n (given s i.job i.session).state
                (now_held id now s i.job i.session same i.there sound at) in
                once_given id now s i.job i.session (turns serve_turn n (given s i.job i.session).state) (quiet-all id _ r.1) r.0 same
            | inr apart ↦
                once_later id now (given s i.job i.session).answer (turns serve_turn n (given s i.job i.session).state)
                (given-reserved id s i.job i.session ∙ ne_eqb id i.job.0 apart)
                (turns-give id now n (given s i.job i.session).state (given-sound s i.job i.session sound) (given-now s i.job i.session ∙ at))
          ])
    ] (serve_turn-is s)

pub serve-gives : (id : ℕ) (s : QueueState) → HasRisingIds s → GivesOnce id s.now (serve s)
unfolding serve all_turns
serve-gives id s sound = turns-give id s.now (length s.sessions) s sound refl
