-- What each command gives, and what it does to a hold.
use Rattle.std.proofs.Common.{◌≡◌, ℕ, ◌+◌, Bool, true, false, cond, ◌&&◌, ◌⊎◌, inl, inr, List, [], ◌∷◌, ◌++◌, Option}
use Rattle.std.proofs.Common.{Some, ◌==◌, nat_lt, nat_le, refl, sym, ap, subst, ◌∙◌, eq-eqb, ne_eqb, leb-true}
use Rattle.std.proofs.Common.{append-nil}
use Rattle.std.proofs.lemmas.Bool.{cases_eq, cases_Bool, cond-true, cond-false}
use Rattle.std.specs.List.{list_any}
use Rattle.object.specs.Lists.{In}
use Rattle.object.specs.declared.command.Act.{Act}
use Rattle.object.specs.declared.command.Answer.{Answer}
use Rattle.object.specs.declared.command.Command.{Command}
use Rattle.object.specs.declared.command.Key.{Key}
use Rattle.job_store.specs.States.{is_held, is_due}
use Rattle.job_store.specs.EntryLaws.{Rising-each}
use Rattle.pause_store.specs.Pauses.{tubes_over}
use Rattle.session_store.specs.Sessions.{session_of, is_waiting}
use Rattle.bean_words.specs.declared.op.Op.{Op}
use Rattle.bean_words.specs.declared.reply.Reply.{Reply}
use Rattle.bean_queue.specs.Queue.{QueueState, holds_by, HasRisingIds}
use Rattle.bean_queue.specs.Rows.{Row, row}
use Rattle.bean_queue.specs.Turns.{QueueOutcome, stop, serve, all_turns, deadline_turn, timeout_turn}
use Rattle.bean_queue.specs.Effects.{own, called, ends_wait, is_zero, turned_away, then_do, then_settled, own_outcome, has_no_number}
use Rattle.bean_queue.specs.Effects.{carried_out, do_effect, released, close_effect, second_begun, tick_effect, act_effect}
use Rattle.bean_queue.specs.Effects.{effect}
use Rattle.bean_queue.specs.Places.{QueuePlace, queue_place}
use Rattle.bean_queue.specs.Holds.{hands_out, is_touched, is_touch, handing_out, touches, Ends}
use Rattle.bean_queue.proofs.holders.Held.{Held, Held-each, KeepsHold, IsQuiet, IsAside, quiet-append}
use Rattle.bean_queue.proofs.holders.Held.{handing_out-append, sound-along, aside-keeps, serve-keeps, deadlines-aside}
use Rattle.bean_queue.proofs.holders.Held.{timeouts-aside}
use Rattle.bean_queue.proofs.holders.Given.{Gave, GivesOnce, serve-gives}
use Rattle.bean_queue.proofs.holders.RowHolds.{IsRowOk, row-ok, holder-quiet, EndsHold, HoldAfter, row-holds}

aside-stop : (s : QueueState) → IsAside s (stop s)
aside-stop s = record { jobs = refl; at = refl; next = refl; quiet = λ id. refl }

aside_if : (s : QueueState) (b : Bool) (o p : QueueOutcome) → IsAside s o → IsAside s p → IsAside s (cond b o p)
aside_if s true o p h k = h
aside_if s false o p h k = k

aside-ends_wait : (s : QueueState) (key : Key) (reply : Reply) → ((id : ℕ) → hands_out id reply ≡ false) → IsAside s (ends_wait s key reply)
aside-ends_wait s key reply e =
    record { jobs = refl; at = refl; next = refl; quiet = λ id. cond-false (hands_out id reply) (record { to = key; reply = reply } ∷ []) [] (e id) }

turned_away-aside : (op : Op) (key : Key) (s : QueueState) → IsAside s (turned_away op key s)
unfolding turned_away
turned_away-aside (Op.Reserve seconds) key s =
    aside_if s (is_waiting (session_of key.session s.sessions)) _ _
    (aside_if s (holds_by key.session (s.now + 1) s.jobs) _ _ (aside-ends_wait s key Reply.DeadlineSoon (λ id. refl))
    (aside_if s (is_zero seconds) _ _ (aside-ends_wait s key Reply.TimedOut (λ id. refl)) (aside-stop s)))
    (aside-stop s)
turned_away-aside _ key s = aside-stop s

-- first some answers that reserve nothing
gives-after : (id now : ℕ) (answers : List (Answer Reply)) (o : QueueOutcome) → IsQuiet id answers → GivesOnce id now o
    → GivesOnce id now (record { state = o.state; answers = answers ++ o.answers })
gives-after id now answers o quiet g =
    let skip : handing_out id (answers ++ o.answers) ≡ handing_out id o.answers =
    handing_out-append id answers o.answers ∙ ap (λ zs. zs ++ handing_out id o.answers) quiet in
    record {
      sound = g.sound;
      at = g.at;
      given =
          elim g.given as (λ v. IsQuiet id (answers ++ o.answers) ⊎ Gave id now (record { state = o.state; answers = answers ++ o.answers })) [
            | inl q ↦ inl (skip ∙ q)
            | inr gave ↦ inr (record { answer = gave.answer; ttr = gave.ttr; only = skip ∙ gave.only; held = gave.held })
          ];
    }

-- then an outcome that leaves the jobs alone
gives-then : (id now : ℕ) (o : QueueOutcome) (f : QueueState → QueueOutcome) → GivesOnce id now o → IsAside o.state (f o.state) → GivesOnce id now (then_do o f)
gives-then id now o f g a =
    let skip : handing_out id (o.answers ++ (f o.state).answers) ≡ handing_out id o.answers =
    handing_out-append id o.answers (f o.state).answers ∙ ap (λ zs. handing_out id o.answers ++ zs)
    (a.quiet id) ∙ append-nil (handing_out id o.answers) in
    record {
      sound = sound-along o.state (f o.state).state a.jobs a.next g.sound;
      at = a.at ∙ g.at;
      given =
          elim g.given as (λ v. IsQuiet id (o.answers ++ (f o.state).answers) ⊎ Gave id now (then_do o f)) [
            | inl q ↦ inl (skip ∙ q)
            | inr gave ↦
                inr (record {
                  answer = gave.answer;
                  ttr = gave.ttr;
                  only = skip ∙ gave.only;
                  held = subst (λ es. Held es gave.answer.to.session id gave.ttr now) (sym a.jobs) gave.held;
                })
          ];
    }

-- then waiting sessions are served
gives-serve : (id now : ℕ) (o : QueueOutcome) → GivesOnce id now o → GivesOnce id now (then_do o serve)
gives-serve id now o g =
    elim g.given as (λ v. GivesOnce id now (then_do o serve)) [
      | inl quiet ↦ gives-after id now o.answers (serve o.state) quiet (subst (λ n. GivesOnce id n (serve o.state)) g.at (serve-gives id o.state g.sound))
      | inr gave ↦
          let k = serve-keeps gave.answer.to.session id gave.ttr now now o.state (record { sound = g.sound; held = gave.held; at = g.at }) in
          record {
            sound = k.keeps.sound;
            at = k.keeps.at;
            given = inr (record {
              answer = gave.answer;
              ttr = gave.ttr;
              only =
                  handing_out-append id o.answers (serve o.state).answers ∙
                  ap (λ zs. handing_out id o.answers ++ zs) k.quiet ∙ append-nil (handing_out id o.answers) ∙ gave.only;
              held = k.keeps.held;
            });
          }
    ]

-- what a row gives
row-gives : (id : ℕ) (key : Key) (s : QueueState) (r : Row) → IsRowOk s key r → GivesOnce id s.now (own_outcome key r)
row-gives id key s r ok = record {
  sound = ok.sound;
  at = ok.at;
  given =
      elim (ok.given id) as (λ v. IsQuiet id (own key r.reply) ⊎ Gave id s.now (own_outcome key r)) [
        | inl quiet ↦ inl quiet
        | inr gives ↦ inr (record { answer = record { to = key; reply = gives.reply }; ttr = gives.ttr; only = gives.only; held = gives.held })
      ];
}

carried_out-gives : (id : ℕ) (op : Op) (key : Key) (s : QueueState) → HasRisingIds s → GivesOnce id s.now (carried_out op key s)
unfolding carried_out
carried_out-gives id op key s sound =
    let r = row op key (called op key.session s) in
    gives-then id s.now (then_do (own_outcome key r) serve) (turned_away op key)
    (gives-serve id s.now (own_outcome key r) (row-gives id key (called op key.session s) r (row-ok op key (called op key.session s) sound)))
    (turned_away-aside op key (serve r.state).state)

pub do-gives : (id : ℕ) (op : Op) (key : Key) (s : QueueState) → HasRisingIds s → GivesOnce id s.now (do_effect op key s)
unfolding do_effect
do-gives id op key s sound =
    elim (has_no_number op s) as (λ b. GivesOnce id s.now (cond b (ends_wait s key Reply.InternalError) (carried_out op key s))) [
      | true ↦
          gives-then id s.now (stop s) (λ t. ends_wait t key Reply.InternalError) (record { sound = sound; at = refl; given = inl refl })
          (aside-ends_wait s key Reply.InternalError (λ id. refl))
      | false ↦ carried_out-gives id op key s sound
    ]

pub close-gives : (id x : ℕ) (s : QueueState) → HasRisingIds s → GivesOnce id s.now (close_effect x s)
unfolding close_effect
close-gives id x s sound = let g = serve-gives id (released x s) (Rising-each _ 1 s.next_id s.jobs sound) in
    record {
      sound = g.sound;
      at = g.at;
      given =
          elim g.given as (λ v. IsQuiet id (close_effect x s).answers ⊎ Gave id s.now (close_effect x s)) [
            | inl quiet ↦ inl quiet
            | inr gave ↦ inr (record { answer = gave.answer; ttr = gave.ttr; only = gave.only; held = gave.held })
          ];
    }

-- what is counted of tubes has no part in it
settled-gives : (tubes : List (List ℕ)) (id now : ℕ) (o : QueueOutcome) → GivesOnce id now o → GivesOnce id now (then_settled tubes o)
settled-gives tubes id now o g = record {
  sound = g.sound;
  at = g.at;
  given =
      elim g.given as (λ v. IsQuiet id o.answers ⊎ Gave id now (then_settled tubes o)) [
        | inl quiet ↦ inl quiet
        | inr gave ↦ inr (record { answer = gave.answer; ttr = gave.ttr; only = gave.only; held = gave.held })
      ];
}

pub tick-gives : (id t : ℕ) (s : QueueState) → HasRisingIds s → GivesOnce id (tick_effect t s).state.now (tick_effect t s)
unfolding tick_effect
tick-gives id t s sound =
    elim (nat_lt s.now t) as (λ b. GivesOnce id
    (cond b (then_settled (tubes_over t s.pauses) (then_do (then_do (serve (second_begun t s)) (all_turns deadline_turn)) (all_turns timeout_turn)))
    (stop s)).state.now (cond b (then_settled (tubes_over t s.pauses) (then_do (then_do (serve (second_begun t s)) (all_turns deadline_turn))
    (all_turns timeout_turn))) (stop s))) [
      | true ↦
          let g = gives-then id t (then_do (serve (second_begun t s)) (all_turns deadline_turn)) (all_turns timeout_turn)
          (gives-then id t (serve (second_begun t s)) (all_turns deadline_turn)
          (serve-gives id (second_begun t s) (Rising-each _ 1 s.next_id s.jobs sound)) (deadlines-aside _))
          (timeouts-aside _) in
          let f = settled-gives (tubes_over t s.pauses) id t (then_do (then_do (serve (second_begun t s)) (all_turns deadline_turn))
          (all_turns timeout_turn)) g in
          subst (λ n. GivesOnce id n
          (then_settled (tubes_over t s.pauses) (then_do (then_do (serve (second_begun t s)) (all_turns deadline_turn)) (all_turns timeout_turn)))) (sym f.at) f
      | false ↦ record { sound = sound; at = refl; given = inl refl }
    ]

pub effect-gives : (id : ℕ) (c : Command Op) (s : QueueState) → HasRisingIds s → GivesOnce id (effect c s).state.now (effect c s)
unfolding effect act_effect
effect-gives id c s sound =
    elim c.act as (λ act. GivesOnce id (act_effect act c.key s).state.now (act_effect act c.key s)) [
      | Act.Do op ↦ let g = do-gives id op c.key s sound in subst (λ n. GivesOnce id n (do_effect op c.key s)) (sym g.at) g
      | Act.Close ↦ let g = close-gives id c.key.session s sound in subst (λ n. GivesOnce id n (close_effect c.key.session s)) (sym g.at) g
      | Act.Tick ↦ tick-gives id c.key.number s sound
    ]

-- at a place the hold ends, or goes on
pub data HoldsOn (x id ttr second : ℕ) (p : QueuePlace) : Type 0 where
  ends : Ends p x id (second + ttr) → HoldsOn x id ttr second p
  on : IsQuiet id p.answers → HasRisingIds p.state → Held p.state.jobs x id ttr (cond (touches p x id) p.state.now second) → HoldsOn x id ttr second p

keeps-then : (x id ttr second now : ℕ) (o : QueueOutcome) (f : QueueState → QueueOutcome)
    → KeepsHold x id ttr second now o → IsAside o.state (f o.state) → KeepsHold x id ttr second now (then_do o f)
keeps-then x id ttr second now o f k a =
    let r = aside-keeps x id ttr second now o.state (f o.state) k.keeps a in
    record { keeps = r.keeps; quiet = quiet-append id o.answers (f o.state).answers k.quiet r.quiet }

-- after a row that keeps the hold
carried_out-keeps : (x id ttr second : ℕ) (op : Op) (key : Key) (s : QueueState) → HasRisingIds s
    → IsQuiet id (own key (row op key (called op key.session s)).reply)
    → Held (row op key (called op key.session s)).state.jobs x id ttr second
    → KeepsHold x id ttr second s.now (carried_out op key s)
unfolding carried_out
carried_out-keeps x id ttr second op key s sound quiet h =
    let ok = row-ok op key (called op key.session s) sound in
    let r = row op key (called op key.session s) in
    let served = serve-keeps x id ttr second s.now r.state (record { sound = ok.sound; held = h; at = ok.at }) in
    keeps-then x id ttr second s.now (then_do (own_outcome key r) serve) (turned_away op key)
    (record { keeps = served.keeps; quiet = quiet-append id (own key r.reply) (serve r.state).answers quiet served.quiet })
    (turned_away-aside op key (serve r.state).state)

-- the own answer stands first
own_there : (key : Key) (o : Option Reply) (reply : Reply) (xs ys : List (Answer Reply)) → o ≡ Some reply
    → In (record { to = key; reply = reply }) ((own key o ++ xs) ++ ys)
own_there key o reply xs ys e = subst (λ o. In (record { to = key; reply = reply }) ((own key o ++ xs) ++ ys)) (sym e) (inl refl)

own_touched : (key : Key) (o : Option Reply) (xs ys : List (Answer Reply)) → o ≡ Some Reply.Touched
    → list_any (λ a. is_touched a.reply) ((own key o ++ xs) ++ ys) ≡ true
own_touched key o xs ys e = subst (λ o. list_any (λ (a : Answer Reply). is_touched a.reply) ((own key o ++ xs) ++ ys) ≡ true) (sym e) refl

carried_out-own : (op : Op) (key : Key) (s : QueueState) (reply : Reply)
    → (row op key (called op key.session s)).reply ≡ Some reply
    → In (record { to = key; reply = reply }) (carried_out op key s).answers
unfolding carried_out
carried_out-own op key s reply e = own_there key _ reply _ _ e

carried_out-touched : (op : Op) (key : Key) (s : QueueState)
    → (row op key (called op key.session s)).reply ≡ Some Reply.Touched
    → list_any (λ a. is_touched a.reply) (carried_out op key s).answers ≡ true
unfolding carried_out
carried_out-touched op key s e = own_touched key _ _ _ e

carried_out-ends : (x id due : ℕ) (op : Op) (key : Key) (s : QueueState) (reply : Reply) → EndsHold id op reply
    → key.session ≡ x → (row op key (called op key.session s)).reply ≡ Some reply
    → Ends (queue_place (record { key = key; act = Act.Do op }) (carried_out op key s)) x id due
carried_out-ends x id due op key s reply (EndsHold.by_delete j same) who e =
    Ends.deleted (who, ap (λ q. Act.Do (Op.Delete q)) same, carried_out-own (Op.Delete j) key s Reply.Deleted e)
carried_out-ends x id due op key s reply (EndsHold.by_release j pri delay same) who e =
    Ends.released pri delay (
      who,
      ap (λ q. Act.Do (Op.Release q pri delay)) same,
      carried_out-own
          (Op.Release j pri delay) key s Reply.Released e,
    )
carried_out-ends x id due op key s reply (EndsHold.by_bury j pri same) who e =
    Ends.buried pri (who, ap (λ q. Act.Do (Op.Bury q pri)) same, carried_out-own (Op.Bury j pri) key s Reply.Buried e)

untouched : (a b c : Bool) → (a && b) ≡ false → (a && (b && c)) ≡ false
untouched true true c e = cc
untouched true false c e = refl
untouched false b c e = refl

touched : (a b c : Bool) → a ≡ true → b ≡ true → c ≡ true → (a && (b && c)) ≡ true
touched a b c p q r = cc

carried_out-holds : (x id ttr second : ℕ) (op : Op) (key : Key) (s : QueueState) → HasRisingIds s
    → Held s.jobs x id ttr second → HoldsOn x id ttr second
    (queue_place (record { key = key; act = Act.Do op }) (carried_out op key s))
carried_out-holds x id ttr second op key s sound h =
    let p : QueuePlace = queue_place (record { key = key; act = Act.Do op }) (carried_out op key s) in
    let quiet = holder-quiet x id ttr second (called op key.session s) key (row op key (called op key.session s))
    (row-ok op key (called op key.session s) sound) h in
    elim (row-holds x id ttr second op key (called op key.session s) sound h) as (λ v. HoldsOn x id ttr second p) [
      | HoldAfter.ended reply e who said ↦ ends (carried_out-ends x id (second + ttr) op key s reply e who said)
      | HoldAfter.stays h e ↦
          let k = carried_out-keeps x id ttr second op key s sound quiet h in
          on k.quiet k.keeps.sound (subst (λ n. Held (carried_out op key s).state.jobs x id ttr n)
          (sym (cond-false (touches p x id) p.state.now second
          (untouched (is_touch id (Act.Do op)) (key.session == x)
          (list_any (λ (a : Answer Reply). is_touched a.reply) p.answers) e))) k.keeps.held)
      | HoldAfter.renewed h e who said ↦
          let k = carried_out-keeps x id ttr s.now op key s sound quiet h in
          on k.quiet k.keeps.sound (subst (λ n. Held (carried_out op key s).state.jobs x id ttr n)
          (sym (cond-true (touches p x id) p.state.now second
          (touched (is_touch id (Act.Do op)) (key.session == x)
          (list_any (λ (a : Answer Reply). is_touched a.reply) p.answers) e (eq-eqb key.session x who)
          (carried_out-touched op key s said)) ∙ k.keeps.at)) k.keeps.held)
    ]

without_touch : (a b : Bool) → (a && (b && false)) ≡ false
without_touch true true = refl
without_touch true false = refl
without_touch false b = refl

-- nothing but the end of a wait
refused-holds : (x id ttr second : ℕ) (op : Op) (key : Key) (s : QueueState) → HasRisingIds s
    → Held s.jobs x id ttr second → HoldsOn x id ttr second
    (queue_place (record { key = key; act = Act.Do op }) (ends_wait s key Reply.InternalError))
refused-holds x id ttr second op key s sound h =
    on refl sound
    (subst (λ n. Held s.jobs x id ttr n)
    (sym (cond-false (touches (queue_place (record { key = key; act = Act.Do op })
    (ends_wait s key Reply.InternalError)) x id) s.now second
    (without_touch (is_touch id (Act.Do op)) (key.session == x)))) h)

pub do-holds : (x id ttr second : ℕ) (op : Op) (key : Key) (s : QueueState) → HasRisingIds s
    → Held s.jobs x id ttr second → HoldsOn x id ttr second
    (queue_place (record { key = key; act = Act.Do op }) (do_effect op key s))
unfolding do_effect
do-holds x id ttr second op key s sound h =
    elim (has_no_number op s) as (λ b. HoldsOn x id ttr second
    (queue_place (record { key = key; act = Act.Do op })
    (cond b (ends_wait s key Reply.InternalError) (carried_out op key s)))) [
      | true ↦ refused-holds x id ttr second op key s sound h
      | false ↦ carried_out-holds x id ttr second op key s sound h
    ]

pub close-holds : (x id ttr second : ℕ) (key : Key) (s : QueueState) → HasRisingIds s → Held s.jobs x id ttr second
    → HoldsOn x id ttr second (queue_place (record { key = key; act = Act.Close }) (close_effect key.session s))
unfolding close_effect
close-holds x id ttr second key s sound h =
    elim (cases_eq key.session x) [
      | inl same ↦ ends (Ends.closed same refl)
      | inr apart ↦
          let k = serve-keeps x id ttr second s.now (released key.session s) (record {
            sound = Rising-each _ 1 s.next_id s.jobs sound;
            held = Held-each _ s.jobs x id ttr second h
                (cond-false (is_held key.session h.job.state) _ h.job
                (ap (is_held key.session) h.held ∙ ne_eqb key.session x apart));
            at = refl;
          }) in
          on k.quiet k.keeps.sound k.keeps.held
    ]

pub tick-holds : (x id ttr second : ℕ) (key : Key) (s : QueueState) → HasRisingIds s → Held s.jobs x id ttr second
    → HoldsOn x id ttr second (queue_place (record { key = key; act = Act.Tick }) (tick_effect key.number s))
unfolding tick_effect
tick-holds x id ttr second key s sound h =
    elim (cases_Bool (nat_le (second + ttr) key.number)) [
      | inl due ↦ ends (Ends.came_due refl (leb-true (second + ttr) key.number due))
      | inr early ↦
          elim (nat_lt s.now key.number) as (λ b. HoldsOn x id ttr second
          (queue_place (record { key = key; act = Act.Tick })
          (cond b (then_settled (tubes_over key.number s.pauses) (then_do (then_do (serve (second_begun key.number s)) (all_turns deadline_turn))
          (all_turns timeout_turn))) (stop s)))) [
            | true ↦
                let k = serve-keeps x id ttr second key.number (second_begun key.number s) (record {
                  sound = Rising-each _ 1 s.next_id s.jobs sound;
                  held = Held-each _ s.jobs x id ttr second h (cond-false (is_due key.number h.job.state) _ h.job (ap (is_due key.number) h.held ∙ early));
                  at = refl;
                }) in
                let all = keeps-then x id ttr second key.number (then_do (serve (second_begun key.number s)) (all_turns deadline_turn)) (all_turns timeout_turn)
                (keeps-then x id ttr second key.number (serve (second_begun key.number s)) (all_turns deadline_turn) k (deadlines-aside _))
                (timeouts-aside _) in
                on all.quiet all.keeps.sound all.keeps.held
            | false ↦ on refl sound h
          ]
    ]

pub effect-holds : (x id ttr second : ℕ) (c : Command Op) (s : QueueState) → HasRisingIds s
    → Held s.jobs x id ttr second → HoldsOn x id ttr second (queue_place c (effect c s))
unfolding effect act_effect
effect-holds x id ttr second c s sound h =
    elim c.act as (λ act. HoldsOn x id ttr second (queue_place (record { key = c.key; act = act }) (act_effect act c.key s))) [
      | Act.Do op ↦ do-holds x id ttr second op c.key s sound h
      | Act.Close ↦ close-holds x id ttr second c.key s sound h
      | Act.Tick ↦ tick-holds x id ttr second c.key s sound h
    ]
