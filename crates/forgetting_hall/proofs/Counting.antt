-- What the hall counts stays within what it takes; and there are no more first answers than commands that were submitted.
use Rattle.std.proofs.Common.{◌≡◌, ◌≢◌, ◌≤◌, ◌<◌, ◌+◌, ⊎_elim, ℕ, true, List, length, Option, Some, None, refl, sym, ap, ◌∙◌, subst, arith, ◌^◌, cond, false}
use Rattle.std.specs.Prelude.{IsSome, option_map}
use Rattle.std.specs.FinMap.{empty, get, insert, remove, get-empty, get-remove}
use Rattle.std.specs.Cmp.{nat_cmp_total}
use Rattle.std.specs.Ordering.{nat_cmp, eq_by_cmp}
use Rattle.std.proofs.lemmas.Bool.{cases_eq}
use Rattle.std.proofs.lemmas.Bool.Decides.{nat_tests}
use Rattle.object.specs.Answers.{answered_key}
use Rattle.object.specs.Happenings.{Happenings, submitted_key, is_submitted}
use Rattle.object.specs.Lists.{In}
use Rattle.object.specs.declared.command.Answer.{Answer}
use Rattle.object.specs.declared.command.Command.{Command}
use Rattle.object.specs.declared.command.Key.{Key}
use Rattle.ballot.specs.Slots.{Slots}
use Rattle.ballot.proofs.SlotMaps.{kept_by_remove, get_each}
use Rattle.recorder.specs.Firsts.{firsts}
use Rattle.recorder.proofs.Counts.{no_more}
use Rattle.recorder.proofs.Cuts.{firsts_once}
use Rattle.node.specs.SlotLaws.{get_each_value, get_insert_same, get_insert_other}
use Rattle.client_table.specs.Clients.{Summary, blank_summary, new_client, client_of, number_of_last, replied, with_command, with_replies, with_effect}
use Rattle.client_table.specs.declared.client.Client.{Client}
use Rattle.forgetting_hall.specs.Clients.{IsSummaryOf}
use Rattle.forgetting_hall.specs.Halls.{IsCounted}
use Rattle.forgetting_hall.proofs.Firsts.{firsts_in}
use Rattle.forgetting_hall.proofs.Summaries.{inserted}

still_some : {X Y : Type 0} (f : X → Y) (o : Option X) → IsSome o → IsSome (option_map f o)
still_some f None i = absurd (cc)
still_some f (Some x) i = refl

-- what is there stays there where something is put
stays_there : {X : Type 0} (m : Slots X) (s : ℕ) (v : X) (q : ℕ) → IsSome (get m q) → IsSome (get (insert m s v) q)
stays_there m s v q there = ⊎_elim
    (λ (e : q ≡ s). subst (λ o. IsSome o) (sym (ap (get (insert m s v)) e ∙ get_insert_same m s v)) refl)
    (λ (n : q ≢ s). subst (λ o. IsSome o) (sym (get_insert_other m s v q n)) there)
    (cases_eq q s)

-- and where something else is taken away
left_there : {X : Type 0} (m : Slots X) (s q : ℕ) → q ≢ s → IsSome (get m q) → IsSome (get (remove m s) q)
left_there m s q apart there = subst (λ o. IsSome o)
    (sym (get-remove nat_cmp_total m s q ∙ ap (λ b. cond b None (get m q)) (other q s apart))) there
  where
    other : (a b : ℕ) → a ≢ b → eq_by_cmp nat_cmp a b ≡ false
    other a b n = grind (arith, nat_tests, n)

none_there : {X : Type 0} {P : Type 0} (s : ℕ) (v : X) → get (empty {R = nat_cmp}) s ≡ Some v → P
none_there s v e = let none : None ≡ Some v = sym (get-empty nat_cmp s) ∙ e in absurd (cc)

module _ {Op Reply : Type 0} where
  -- before anything happened
  pub counted_blank : IsCounted {Op = Op} {Reply = Reply} blank_summary 0 0
  counted_blank = record {
    clock = subst (λ o. IsSome o) (sym (get_insert_same empty 0 new_client)) refl;
    submitted = omega arith;
    placed = omega arith;
    numbers = λ session client at. ⊎_elim
        (λ (here : (session ≡ 0) × (new_client ≡ client)).
        let none : number_of_last client.last ≡ 0 = ap (λ (x : Client Op Reply). number_of_last x.last) (sym here.1) in omega (arith, none))
        (λ (there : (session ≢ 0) × (get empty session ≡ Some client)). none_there session client there.1)
        (inserted empty 0 new_client session client at);
    few = omega arith;
  }

  -- an event was taken
  pub counted_more : (s : Summary Op Reply) (opened taken : ℕ) → IsCounted s opened taken → IsCounted s opened (taken + 1)
  counted_more s opened taken is = record {
    clock = is.clock;
    submitted = let h = is.submitted in omega (arith, h);
    placed = let h = is.placed in omega (arith, h);
    numbers = λ session client at. let h = is.numbers session client at in omega (arith, h);
    few = is.few;
  }

  -- a next command was handed in
  pub counted_command : (s : Summary Op Reply) (opened taken : ℕ) → IsCounted s opened taken → (c : Command Op) → c.key.number ≤ 2 ^ 61 + taken + 1
      → IsCounted (with_command c s) opened (taken + 1)
  counted_command s opened taken is c low = record {
    clock = stays_there s.clients c.key.session (client_of c) 0 is.clock;
    submitted = let h = is.submitted in omega (arith, h);
    placed = let h = is.placed in omega (arith, h);
    numbers = λ session client at. ⊎_elim
        (λ (here : (session ≡ c.key.session) × (client_of c ≡ client)).
        let same : number_of_last client.last ≡ c.key.number = ap (λ (x : Client Op Reply). number_of_last x.last) (sym here.1) in
        omega (arith, same, low))
        (λ (there : (session ≢ c.key.session) × (get s.clients session ≡ Some client)). let h = is.numbers session client there.1 in omega (arith, h))
        (inserted s.clients c.key.session (client_of c) session client at);
    few = is.few;
  }

  -- answers were given
  counted_replies : (s : Summary Op Reply) (opened taken : ℕ) → IsCounted s opened taken → (given : List (Answer Reply)) →
      IsCounted (with_replies given s) opened taken
  counted_replies s opened taken is given = record {
    clock = subst (λ o. IsSome o) (sym (get_each (λ _ x. replied given x) s.clients 0)) (still_some (replied given) (get s.clients 0) is.clock);
    submitted = is.submitted;
    placed = is.placed;
    numbers = λ session client at.
        let was = get_each_value (λ _ x. replied given x) s.clients session client at in
        subst (λ n. n ≤ 2 ^ 61 + taken) (sym (ap (λ (x : Client Op Reply). number_of_last x.last) was.2)) (is.numbers session was.0 was.1);
    few = is.few;
  }

  counted_effect : (key : Option Key) (s : Summary Op Reply) (opened taken : ℕ) → IsCounted s opened taken → IsCounted (with_effect key s) opened (taken + 1)
  counted_effect None s opened taken is = counted_more s opened taken is
  counted_effect (Some key) s opened taken is = record {
    clock = is.clock;
    submitted = let h = is.submitted in omega (arith, h);
    placed = let h = is.placed in omega (arith, h);
    numbers = λ session client at. let h = is.numbers session client at in omega (arith, h);
    few = is.few;
  }

  -- a node did something, and what came of it was told
  pub counted_deed : (s : Summary Op Reply) (opened taken : ℕ) → IsCounted s opened taken → (given : List (Answer Reply)) (key : Option Key)
      → IsCounted (with_effect key (with_replies given s)) opened (taken + 1)
  counted_deed s opened taken is given key = counted_effect key (with_replies given s) opened taken (counted_replies s opened taken is given)

  -- a session was opened
  pub counted_open : (s : Summary Op Reply) (opened taken : ℕ) → IsCounted s opened taken → (more : ℕ) → more < 2 ^ 32
      → IsCounted (record s { clients = insert s.clients more new_client }) more taken
  counted_open s opened taken is more room = record {
    clock = stays_there s.clients more new_client 0 is.clock;
    submitted = is.submitted;
    placed = is.placed;
    numbers = λ session client at. ⊎_elim
        (λ (here : (session ≡ more) × (new_client ≡ client)).
        let none : number_of_last client.last ≡ 0 = ap (λ (x : Client Op Reply). number_of_last x.last) (sym here.1) in omega (arith, none))
        (λ (there : (session ≢ more) × (get s.clients session ≡ Some client)). is.numbers session client there.1)
        (inserted s.clients more new_client session client at);
    few = room;
  }

  -- a session is kept no more
  pub counted_let_go : (s : Summary Op Reply) (opened taken : ℕ) → IsCounted s opened taken → (session : ℕ) → 0 < session
      → IsCounted (record s { clients = remove s.clients session }) opened taken
  counted_let_go s opened taken is session some = record {
    clock = left_there s.clients session 0 (λ e. absurd (omega (arith, some, e))) is.clock;
    submitted = is.submitted;
    placed = is.placed;
    numbers = λ other client at. is.numbers other client (kept_by_remove s.clients session other client at);
    few = is.few;
  }

  pub answered_few : (s : Summary Op Reply) (h : Happenings Op Reply) → IsSummaryOf s h
      → ((a : Answer Reply) → In a h.answers → is_submitted a.to h.submitted ≡ true) → s.answered ≤ s.submitted
  answered_few s h is known =
      let few : length (firsts answered_key h.answers) ≤ length h.submitted =
      no_more submitted_key answered_key (firsts answered_key h.answers) h.submitted (firsts_once answered_key h.answers)
      (λ a i. known a (firsts_in answered_key a h.answers i)) in
      let count : s.answered ≡ length (firsts answered_key h.answers) = is.answered in
      let all : s.submitted ≡ length h.submitted = is.submitted in
      omega (arith, few, count, all)

  -- what takes effect changes neither count
  effect_answered : (key : Option Key) (s : Summary Op Reply) → (with_effect key s).answered ≡ s.answered
  effect_answered None s = refl
  effect_answered (Some key) s = refl

  effect_submitted : (key : Option Key) (s : Summary Op Reply) → (with_effect key s).submitted ≡ s.submitted
  effect_submitted None s = refl
  effect_submitted (Some key) s = refl

  -- so these answers can be counted
  pub room_for : (s : Summary Op Reply) (opened taken : ℕ) → IsCounted s opened taken → taken < 2 ^ 48 → (given : List (Answer Reply)) (key : Option Key)
      → (h : Happenings Op Reply) → IsSummaryOf (with_effect key (with_replies given s)) h
      → ((a : Answer Reply) → In a h.answers → is_submitted a.to h.submitted ≡ true) → s.answered + length given < 2 ^ 64
  room_for s opened taken is room given key h summary known =
      let few = answered_few (with_effect key (with_replies given s)) h summary known in
      let all : (with_effect key (with_replies given s)).answered ≡ s.answered + length given = effect_answered key (with_replies given s) in
      let handed : (with_effect key (with_replies given s)).submitted ≡ s.submitted = effect_submitted key (with_replies given s) in
      let below = is.submitted in
      omega (arith, few, all, handed, below, room)
