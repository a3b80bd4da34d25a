-- What a command that has taken effect has said to a key, and how far the client has come.
use Rattle.std.proofs.Common.{◌≡◌, ◌≢◌, ◌⊎◌, ⊎_elim, ℕ, zero, suc, ◌+◌, ◌-◌, ◌<◌, true, List, [], ◌∷◌, ◌++◌, map, fold}
use Rattle.std.proofs.Common.{length, Option, None, Some, refl, sym, ap, ◌∙◌, subst, arith}
use Rattle.std.proofs.lemmas.List.{map-append, length-append}
use Rattle.object.specs.Lists.{In}
use Rattle.object.specs.ListLaws.{In-right, In-cases, In-map}
use Rattle.object.specs.Answers.{AnswersOnce}
use Rattle.object.specs.Keys.{stands}
use Rattle.object.specs.Legal.{IsRising, IsGivenAt}
use Rattle.object.specs.Objects.{Rules}
use Rattle.object.specs.Replays.{Placed}
use Rattle.object.specs.ReplayLaws.{answers_in, noted_at}
use Rattle.object.specs.declared.command.Act.{Act}
use Rattle.object.specs.declared.command.Act.TheVariants.{Do}
use Rattle.object.specs.declared.command.Answer.{Answer}
use Rattle.object.specs.declared.command.Command.{Command}
use Rattle.object.specs.declared.command.Key.{Key}
use Rattle.object.specs.declared.command.Submission.{Submission}
use Rattle.recorder.specs.Records.{Record, own_key}
use Rattle.hall.specs.Explained.{IsExplained}
use Rattle.hall.specs.Halls.{HallState, new_hall, after_submit, after_tick, reply_to}
use Rattle.hall.specs.Recorded.{untouched}
use Rattle.hall.specs.Tickets.{TicketState, new_ticket, last_key, next_command, with_act}
use Rattle.simulated_hall.specs.OneClient.{Talk, Said, opened, next_key, request, next_second, reply_among, next_obeyed, passed, unless_said, waited, answered}
use Rattle.simulated_hall.specs.Standing.{SimulatedState, IsObeyedBy, StandsFor, IsSaid, IsUnanswered, AreUnused, SubmitsNothing, submitted_in}
use Rattle.simulated_hall.proofs.Lists.{In-one}
use Rattle.simulated_hall.proofs.Orders.{keys, grown}
use Rattle.simulated_hall.proofs.Replays.{replayed, answers_at, one_more, state_more, answers_to, once-right}
use Rattle.simulated_hall.proofs.Replays.{reply_found, reply_missing, reply_there, reply_none}
use Rattle.simulated_hall.proofs.HandedIn.{submitted_last}

-- A command was handed in after those that an object obeyed, and is all that took effect since.
module _ {O Op Reply : Type 0} (rules : Rules O Op Reply) (promise : List (Command Op) → Type 0)
    (old handed new : Record Op Reply) (t : Talk O) (c : Command Op)
    (past : IsObeyedBy rules old t) (fresh : (d : Command Op) → In d (submitted_in old) → d.key ≢ c.key)
    (last : submitted_in handed ≡ submitted_in old ++ (c ∷ [])) (same_order : handed.order ≡ old.order) (nothing : SubmitsNothing handed new)
    (placed : stands own_key c.key new.order ≡ true) (explained : IsExplained rules promise new) where
  abbrev before : List (Command Op)
  before = submitted_in old

  abbrev given : List (Answer Reply)
  given = rules.answers (fold rules.after rules.fresh before) c

  all : submitted_in new ≡ before ++ (c ∷ [])
  all = ap (λ submitted. map (λ (s : Submission Op). s.command) submitted) nothing.submitted ∙ last

  within : (d : Command Op) → In d explained.order → In d (before ++ (c ∷ []))
  within d i =
      let was = explained.legal.submitted d i in
      subst (In d) all (subst (λ x. In x (submitted_in new)) was.2 (In-map (λ (s : Submission Op). s.command) was.0 new.happenings.submitted was.1))

  ends : explained.order ≡ before ++ (c ∷ [])
  ends =
      grown before c explained.order nothing.order.0 past.rising explained.legal.rising within fresh
      (sym explained.keys ∙ nothing.order.1 ∙ ap (λ ks. ks ++ nothing.order.0) (same_order ∙ past.order))
      (subst (λ ks. stands own_key c.key ks ≡ true) explained.keys placed)

  told : (place : ℕ) (a : Answer Reply) → IsGivenAt rules (before ++ (c ∷ [])) place a → In a new.happenings.answers
  told place a i = explained.told place a (subst (λ cs. IsGivenAt rules cs place a) (sym ends) i)

  grows : (n : ℕ) × (replayed rules rules.fresh 0 (before ++ (c ∷ [])) ≡ replayed rules rules.fresh 0 before ++ noted_at n given)
  grows = one_more rules rules.fresh 0 before c

  once : AnswersOnce given
  once =
      let all = subst (λ cs. AnswersOnce (answers_in (replayed rules rules.fresh 0 cs))) ends explained.legal.once in
      let cut = subst (λ ps. AnswersOnce (answers_in ps)) grows.1 all in
      subst AnswersOnce (answers_at grows.0 given)
      (once-right (answers_in (replayed rules rules.fresh 0 before)) (answers_in (noted_at grows.0 given))
      (subst AnswersOnce (map-append (λ (p : Placed Reply). p.answer) (replayed rules rules.fresh 0 before) (noted_at grows.0 given)) cut))

  -- where the key had no answer, what it has by now is what the command said to it
  module _ (key : Key) (not_yet : (place : ℕ) (a : Answer Reply) → IsGivenAt rules before place a → a.to ≢ key) where
    said_some : (reply : Reply) → reply_among key new.happenings.answers ≡ Some reply → reply_among key given ≡ Some reply
    said_some reply e =
        let a : Answer Reply = record { to = key; reply = reply } in
        let r = explained.legal.answered a (reply_there new.happenings.answers key reply e) in
        let p : Placed Reply = record { place = r.0; answer = a } in
        let there = subst (In p) grows.1 (subst (λ cs. In p (replayed rules rules.fresh 0 cs)) ends r.1) in
        ⊎_elim
        (λ (earlier : In p (replayed rules rules.fresh 0 before)). absurd (not_yet r.0 a earlier refl))
        (λ (now : In p (noted_at grows.0 given)).
        reply_found given a once (subst (In a) (answers_at grows.0 given) (In-map (λ (q : Placed Reply). q.answer) p (noted_at grows.0 given) now)))
        (In-cases p (replayed rules rules.fresh 0 before) (noted_at grows.0 given) there)

    said_none : reply_among key new.happenings.answers ≡ None → reply_among key given ≡ None
    said_none none = reply_missing given key (λ a i to.
        let p : Placed Reply = record { place = grows.0; answer = a } in
        let there = In-right p (replayed rules rules.fresh 0 before) (noted_at grows.0 given)
        (In-map (λ (b : Answer Reply). record { place = grows.0; answer = b }) a given i) in
        reply_none new.happenings.answers key none a (told grows.0 a (subst (In p) (sym grows.1) there)) to)

    pub said_is : reply_among key (rules.answers t.object c) ≡ reply_among key new.happenings.answers
    said_is = ap (λ o. reply_among key (rules.answers o c)) past.object ∙ at (reply_among key new.happenings.answers) refl
      where
        at : (said : Option Reply) → reply_among key new.happenings.answers ≡ said → reply_among key given ≡ said
        at None e = said_none e
        at (Some reply) e = said_some reply e

    pub none_yet : reply_among key new.happenings.answers ≡ None → (place : ℕ) (a : Answer Reply) → IsGivenAt rules (submitted_in new) place a → a.to ≢ key
    none_yet none place a i = reply_none new.happenings.answers key none a (told place a (subst (λ cs. IsGivenAt rules cs place a) all i))

  -- and the object obeyed it
  pub obeyed_then : (u : Talk O) → u.object ≡ rules.after t.object c → AreUnused u.next u.second (before ++ (c ∷ [])) → IsObeyedBy rules new u
  obeyed_then u object unused = record {
    order = explained.keys ∙ ap keys (ends ∙ sym all);
    rising = subst IsRising (ends ∙ sym all) explained.legal.rising;
    object = object ∙ ap (λ o. rules.after o c) past.object ∙ sym (state_more rules rules.fresh before c) ∙ ap (fold rules.after rules.fresh) (sym all);
    unused = subst (AreUnused u.next u.second) (sym all) unused;
  }

module _ {O Op : Type 0} (t : Talk O) (cs : List (Command Op)) (unused : AreUnused t.next t.second cs) where
  request_fresh : (act : Act Op) (d : Command Op) → In d cs → d.key ≢ (request t act).key
  request_fresh act d i same =
      let less = unused.requests d i (ap (λ (k : Key). k.session) same) in
      let number = ap (λ (k : Key). k.number) same in
      omega (arith, less, number)

  second_fresh : (d : Command Op) → In d cs → d.key ≢ (next_second {Op = Op} t).key
  second_fresh d i same =
      let less = unused.ticks d i (ap (λ (k : Key). k.session) same) in
      let number = ap (λ (k : Key). k.number) same in
      omega (arith, less, number)

  request_unused : (act : Act Op) → AreUnused (t.next + 1) t.second (cs ++ (request t act ∷ []))
  request_unused act = record {
    requests = λ d i s. ⊎_elim
        (λ (old : In d cs). let less = unused.requests d old s in omega (arith, less))
        (λ (new : In d (request t act ∷ [])). let same = ap (λ (x : Command Op). x.key.number) (In-one d (request t act) new) in omega (arith, same))
        (In-cases d cs (request t act ∷ []) i);
    ticks = λ d i s. ⊎_elim
        (λ (old : In d cs). unused.ticks d old s)
        (λ (new : In d (request t act ∷ [])). let same =
        ap (λ (x : Command Op). x.key.session) (In-one d (request t act) new) in absurd (omega (arith, same, s)))
        (In-cases d cs (request t act ∷ []) i);
  }

  second_unused : AreUnused t.next (t.second + 1) (cs ++ (next_second t ∷ []))
  second_unused = record {
    requests = λ d i s. ⊎_elim
        (λ (old : In d cs). unused.requests d old s)
        (λ (new : In d (next_second t ∷ [])). let same =
        ap (λ (x : Command Op). x.key.session) (In-one d (next_second t) new) in absurd (omega (arith, same, s)))
        (In-cases d cs (next_second t ∷ []) i);
    ticks = λ d i s. ⊎_elim
        (λ (old : In d cs). let less = unused.ticks d old s in omega (arith, less))
        (λ (new : In d (next_second t ∷ [])). let same = ap (λ (x : Command Op). x.key.number) (In-one d (next_second t) new) in omega (arith, same))
        (In-cases d cs (next_second t ∷ []) i);
  }

-- no replay answers a key that none of its commands has
not_answered : {O Op Reply : Type 0} (rules : Rules O Op Reply) (waits : O → Key → Type 0)
    → ((k : Key) → waits rules.fresh k → ⊥)
    → ((s : O) (c : Command Op) (k : Key) → waits (rules.after s c) k → waits s k ⊎ (k ≡ c.key))
    → ((s : O) (c : Command Op) (a : Answer Reply) → In a (rules.answers s c) → (a.to ≡ c.key) ⊎ waits s a.to)
    → (cs : List (Command Op)) (key : Key) → ((d : Command Op) → In d cs → d.key ≢ key)
    → (place : ℕ) (a : Answer Reply) → IsGivenAt rules cs place a → a.to ≢ key
not_answered {O} {Op} rules waits idle waiting named cs key fresh place a i to = ⊎_elim
    (λ (d : (c : Command Op) × In c cs × (c.key ≡ a.to)). fresh d.0 d.1 (d.2 ∙ to))
    (λ (w : waits rules.fresh a.to). idle a.to w)
    (answers_to rules waits waiting named rules.fresh 0 cs (record { place = place; answer = a }) i)

last_of_act : {Op Reply : Type 0} (ticket : TicketState Op Reply) (act : Act Op) → length (with_act ticket act).acts ≡ length ticket.acts + 1
last_of_act ticket act = length-append ticket.acts (record { act = act; reply = None } ∷ [])

-- the ticket's next command has the key of the next request
pub next_key_is : {O Op Reply : Type 0} (rules : Rules O Op Reply) (s : SimulatedState Op Reply) (t : Talk O)
    (act : Act Op) → StandsFor rules s t → last_key (with_act s.ticket act) ≡ next_key t
next_key_is rules s t act stands_for = let number =
    last_of_act s.ticket act ∙ sym stands_for.next in λ i. record { session = stands_for.session i; number = number i }

-- what was said to the next request
module _ {O Op Reply : Type 0} (rules : Rules O Op Reply) (promise : List (Command Op) → Type 0) (waits : O → Key → Type 0)
    (idle : (k : Key) → waits rules.fresh k → ⊥)
    (waiting : (s : O) (c : Command Op) (k : Key) → waits (rules.after s c) k → waits s k ⊎ (k ≡ c.key))
    (named : (s : O) (c : Command Op) (a : Answer Reply) → In a (rules.answers s c) → (a.to ≡ c.key) ⊎ waits s a.to) where
  pub request_said : (s : SimulatedState Op Reply) (t : Talk O) (act : Act Op) (asked new : HallState Op Reply) (reply : Option Reply) (calls : ℕ)
      → StandsFor rules s t → asked ≡ after_submit rules s.hall 1 (next_command s.ticket act)
      → SubmitsNothing asked.nodes.past new.nodes.past → stands own_key (last_key (with_act s.ticket act)) new.nodes.past.order ≡ true
      → IsExplained rules promise new.nodes.past → reply ≡ reply_to new (last_key (with_act s.ticket act))
      → IsSaid rules (record { hall = new; ticket = with_act s.ticket act; second = s.second; calls = calls }) (next_obeyed rules t act) reply
  request_said s t act asked new reply calls stands_for is nothing placed explained reply_is = record {
    stands = record {
      past = obeyed_then rules promise s.hall.nodes.past asked.nodes.past new.nodes.past t
          (request t act) stands_for.past fresh last same_order nothing there explained
          (next_obeyed rules t act).talk refl
          (request_unused t (submitted_in s.hall.nodes.past) stands_for.past.unused act);
      session = stands_for.session;
      next = ap (λ n. n + 1) (stands_for.next ∙ sym (last_of_act s.ticket act));
      second = stands_for.second;
    };
    same = said_is rules promise s.hall.nodes.past asked.nodes.past new.nodes.past t
        (request t act) stands_for.past fresh last same_order nothing there explained
        (next_key t) not_yet ∙ sym reply_then;
    none = λ e.
        subst (λ k. (place : ℕ) (a : Answer Reply) → IsGivenAt rules (submitted_in new.nodes.past) place a → a.to ≢ k) (sym key_is)
        (none_yet rules promise s.hall.nodes.past asked.nodes.past new.nodes.past t
        (request t act) stands_for.past fresh last same_order nothing there explained (next_key t) not_yet
        (sym reply_then ∙ e));
  }
    where
      key_is : last_key (with_act s.ticket act) ≡ next_key t
      key_is = next_key_is rules s t act stands_for

      command_is : next_command s.ticket act ≡ request t act
      command_is = λ i. record { key = record { session = stands_for.session i; number = sym stands_for.next i }; act = act }

      fresh : (d : Command Op) → In d (submitted_in s.hall.nodes.past) → d.key ≢ (request t act).key
      fresh = request_fresh t (submitted_in s.hall.nodes.past) stands_for.past.unused act

      asked_is : asked ≡ after_submit rules s.hall 1 (request t act)
      asked_is = is ∙ ap (after_submit rules s.hall 1) command_is

      last : submitted_in asked.nodes.past ≡ submitted_in s.hall.nodes.past ++ (request t act ∷ [])
      last = ap (λ (h : HallState Op Reply). submitted_in h.nodes.past) asked_is ∙ submitted_last (request t act) s.hall.nodes.past.happenings fresh

      same_order : asked.nodes.past.order ≡ s.hall.nodes.past.order
      same_order = ap (λ (h : HallState Op Reply). h.nodes.past.order) asked_is

      there : stands own_key (next_key t) new.nodes.past.order ≡ true
      there = subst (λ k. stands own_key k new.nodes.past.order ≡ true) key_is placed

      not_yet : (place : ℕ) (a : Answer Reply) → IsGivenAt rules (submitted_in s.hall.nodes.past) place a → a.to ≢ next_key t
      not_yet = not_answered rules waits idle waiting named (submitted_in s.hall.nodes.past) (next_key t) fresh

      reply_then : reply ≡ reply_among (next_key t) new.nodes.past.happenings.answers
      reply_then = reply_is ∙ ap (λ k. reply_to new k) key_is

-- and what a second says to it
pub second_said : {O Op Reply : Type 0} (rules : Rules O Op Reply) (promise : List (Command Op) → Type 0)
    (s : SimulatedState Op Reply) (t : Talk O) (asked new : HallState Op Reply) (reply : Option Reply) (calls : ℕ)
    → StandsFor rules s t → IsUnanswered rules s → asked ≡ after_tick rules s.hall 1 (s.second + 1)
    → SubmitsNothing asked.nodes.past new.nodes.past → stands own_key (record { session = 0; number = s.second + 1 }) new.nodes.past.order ≡ true
    → IsExplained rules promise new.nodes.past → reply ≡ reply_to new (last_key s.ticket)
    → IsSaid rules (record { hall = new; ticket = s.ticket; second = s.second + 1; calls = calls }) (passed rules (last_key s.ticket) t) reply
second_said {O} {Op} {Reply} rules promise s t asked new reply calls stands_for not_yet is nothing placed explained reply_is = record {
  stands = record {
    past = obeyed_then rules promise s.hall.nodes.past asked.nodes.past new.nodes.past t
        (next_second t) stands_for.past fresh last same_order nothing there explained
        (passed rules (last_key s.ticket) t).talk refl
        (second_unused t (submitted_in s.hall.nodes.past) stands_for.past.unused);
    session = stands_for.session;
    next = stands_for.next;
    second = ap (λ n. n + 1) stands_for.second;
  };
  same = said_is rules promise s.hall.nodes.past asked.nodes.past new.nodes.past t
      (next_second t) stands_for.past fresh last same_order nothing there explained
      (last_key s.ticket) not_yet ∙ sym reply_is;
  none = λ e. none_yet rules promise s.hall.nodes.past asked.nodes.past new.nodes.past t
      (next_second t) stands_for.past fresh last same_order nothing there explained (last_key s.ticket) not_yet
      (sym reply_is ∙ e);
}
  where
    fresh : (d : Command Op) → In d (submitted_in s.hall.nodes.past) → d.key ≢ (next_second {Op = Op} t).key
    fresh = second_fresh t (submitted_in s.hall.nodes.past) stands_for.past.unused

    asked_is : asked ≡ after_tick rules s.hall 1 (t.second + 1)
    asked_is = is ∙ ap (λ n. after_tick rules s.hall 1 (n + 1)) (sym stands_for.second)

    last : submitted_in asked.nodes.past ≡ submitted_in s.hall.nodes.past ++ (next_second t ∷ [])
    last = ap (λ (h : HallState Op Reply). submitted_in h.nodes.past) asked_is ∙ submitted_last (next_second t) s.hall.nodes.past.happenings fresh

    same_order : asked.nodes.past.order ≡ s.hall.nodes.past.order
    same_order = ap (λ (h : HallState Op Reply). h.nodes.past.order) asked_is

    there : stands own_key (record { session = 0; number = t.second + 1 }) new.nodes.past.order ≡ true
    there = subst (λ n. stands own_key (record { session = 0; number = n + 1 }) new.nodes.past.order ≡ true) (sym stands_for.second) placed

-- a new hall stands for a new object
pub opening_stands : {O Op Reply : Type 0} (rules : Rules O Op Reply) (members : List ℕ) (hall : HallState Op Reply)
    (ticket : TicketState Op Reply) (calls : ℕ) → hall ≡ record (new_hall members) { book = 0 ∷ [] }
    → ticket ≡ new_ticket 1 → StandsFor rules (record { hall = hall; ticket = ticket; second = 0; calls = calls })
    (opened rules)
opening_stands {O} {Op} {Reply} rules members hall ticket calls is ticket_is =
    subst (λ (h : HallState Op Reply). StandsFor rules (record { hall = h; ticket = ticket; second = 0; calls = calls }) (opened rules)) (sym is)
    (subst (λ (q : TicketState Op Reply). StandsFor rules
    (record {
      hall = record { nodes = untouched members; book = 0 ∷ []; second = 0 };
      ticket = q;
      second =
          0;
      calls = calls;
    }) (opened rules)) (sym ticket_is)
    (record {
      past = record { order = refl; rising = tt; object = refl; unused = record { requests = λ c i s. absurd i; ticks = λ c i s. absurd i } };
      session = refl;
      next = refl;
      second = refl;
    }))

-- how many calls were made makes no difference to that
pub still_stands : {O Op Reply : Type 0} (rules : Rules O Op Reply) (s : SimulatedState Op Reply) (calls : ℕ)
    (t : Talk O) → StandsFor rules s t → StandsFor rules (record s { calls = calls }) t
still_stands rules s calls t stands_for = record { past = stands_for.past; session = stands_for.session; next = stands_for.next; second = stands_for.second }

-- a wait that is over
pub wait_over : {O Op Reply : Type 0} (rules : Rules O Op Reply) (key : Key) (n : ℕ) (s : Said O Reply) (reply : Reply)
    → s.reply ≡ Some reply → waited rules key n s ≡ s
wait_over rules key zero s reply e = refl
wait_over rules key (suc n) s reply e = ap (unless_said (λ t. waited rules key n (passed rules key t)) s) e

-- and one that goes on
pub wait_more : {O Op Reply : Type 0} (rules : Rules O Op Reply) (key : Key) (n : ℕ) (s : Said O Reply) → n < 3600
    → s.reply ≡ None → waited rules key (3600 - n) s ≡ waited rules key (3600 - (n + 1)) (passed rules key s.talk)
wait_more rules key n s less e =
    let count : 3600 - n ≡ suc (3600 - (n + 1)) = omega (arith, less) in
    ap (λ m. waited rules key m s) count ∙ ap (unless_said (λ t. waited rules key (3600 - (n + 1)) (passed rules key t)) s) e

pub opens_wait : {O Op Reply : Type 0} (rules : Rules O Op Reply) (t : Talk O) (op : Op) (key : Key) → key ≡ next_key t
    → waited rules key 3600 (next_obeyed rules t (Do op)) ≡ answered rules t op
unfolding answered
opens_wait rules t op key is = ap (λ k. waited rules k 3600 (next_obeyed rules t (Do op))) is
