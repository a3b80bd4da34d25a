-- A hall that forgets shows a world after each of its calls.
use Rattle.std.proofs.Common.{◌≡◌, ◌≢◌, ◌<◌, ◌≤◌, ◌+◌, inl, inr, ⊎_elim, ℕ, Bool, true, false, cond, List, [], ◌∷◌, ◌++◌, length}
use Rattle.std.proofs.Common.{Option, Some, None, refl, sym, ap, ap₂, ◌∙◌, ◌⊎◌, subst, arith, append-nil}
use Rattle.std.specs.Prelude.{nat_lt, IsSome, option_map}
use Rattle.std.specs.FinMap.{get}
use Rattle.std.specs.Option.{option_to_list}
use Rattle.std.proofs.lemmas.Bool.{cases_eq}
use Rattle.std.proofs.lemmas.Bool.Decides.{nat_tests}
use Rattle.object.specs.Answers.{answered_key}
use Rattle.object.specs.Happenings.{Happenings, with_submission, with_answers, is_submitted, submitted_key}
use Rattle.object.specs.KeyLaws.{same_is}
use Rattle.object.specs.Keys.{found}
use Rattle.object.specs.Legal.{IsLegal, IsGivenAt}
use Rattle.object.specs.ListLaws.{In-cases, In-get}
use Rattle.object.specs.Lists.{In}
use Rattle.object.specs.Objects.{Rules}
use Rattle.object.specs.Obeying.{answers_after}
use Rattle.object.specs.declared.command.Answer.{Answer}
use Rattle.object.specs.declared.command.Command.{Command}
use Rattle.object.specs.declared.command.Key.{Key}
use Rattle.object.specs.declared.command.Submission.{Submission}
use Rattle.ballot.specs.Members.{is_member}
use Rattle.ballot.specs.declared.letter.Letter.{Letter}
use Rattle.ballot.specs.declared.letter.LetterBody.{LetterBody}
use Rattle.slot_log.specs.Decisions.{next_decided}
use Rattle.slot_log.specs.Proposals.{next_proposal}
use Rattle.slot_log.specs.Histories.{history}
use Rattle.node.specs.Nodes.{NodeState}
use Rattle.node.specs.Deeds.{acted, performing, performs, done_if, outcome_of}
use Rattle.node.specs.Outcomes.{reach_after, key_placed}
use Rattle.node.specs.declared.deed.Deed.{Deed}
use Rattle.node.specs.declared.deed.Deed.TheVariants as deeds
use Rattle.network.specs.Networks.{NetworkState, mail_of, mail_in, put_mail, front, with_last}
use Rattle.network.specs.MailLaws.{in_put_mail, mail_put_other, length-put_mail}
use Rattle.recorder.specs.Firsts.{firsts}
use Rattle.agreement.specs.Nodes.{Cluster, node}
use Rattle.agreement.specs.Placing.{placed_after}
use Rattle.agreement.specs.Runs.{IsWorld}
use Rattle.agreement.specs.Events.{event_of}
use Rattle.agreement.specs.Worlds.{World, opening}
use Rattle.agreement.specs.declared.event.Event.TheVariants.{Deliver}
use Rattle.hall.proofs.Told.{once_one}
use Rattle.client_table.specs.Clients.{Summary}
use Rattle.client_table.specs.declared.client.Client.{Client}
use Rattle.forgetting_hall.specs.Clients.{IsClientOf, IsSummaryOf, IsOpenedUpTo, CountsPlaced, IsNextOf, IsLastOf}
use Rattle.client_table.specs.Clients.{number_of_last, first_reply, with_replies, with_effect, with_command}
use Rattle.forgetting_hall.specs.Firsts.{Performs}
use Rattle.forgetting_hall.specs.WorldFacts.{WorldFacts}
use Rattle.forgetting_hall.specs.Rests.{HallRest, ShowsWorld, FollowsEvent, FollowsLetterOf, IsGoingOn, IsReplyInOrder}
use Rattle.forgetting_hall.specs.Rests.{new_rest, fresh_answers, outcome_rest, acted_rest, handed_in, done_rest, opened_as, let_go_rest}
use Rattle.forgetting_hall.specs.Shown.{ShowsRest, FollowsDeed, FollowsLetter, IsLastSubmitted, turn_held}
use Rattle.forgetting_hall.proofs.Clients.{found_given, next_is_new}
use Rattle.forgetting_hall.proofs.Opening.{opening_shows, opening_obeys}
use Rattle.forgetting_hall.proofs.Happened.{happens, reaches, deed_happened, deed_reached, deed_placed}
use Rattle.forgetting_hall.proofs.Summaries.{effect_kept, effect_opened, effect_counted, replies_kept, replies_told, replies_opened}
use Rattle.forgetting_hall.proofs.Summaries.{again_kept, next_kept, next_opened, open_kept, open_opened, let_go_kept, let_go_opened, blank_kept, blank_opened}

-- a letter that comes once more is one that was sent
module _ {C : Type 0} (base : ℕ) (k : NetworkState C) (w : Cluster C) (shows : ShowsRest base k w) (n : ℕ) (l : Letter C)
    (at : front (mail_of k n) ≡ Some l) where
  pub repeated_shows : ShowsRest base (with_last k n l) w
  repeated_shows = record {
    members = shows.members;
    has_nodes = shows.has_nodes;
    has_mails = length-put_mail k.mails n (mail_of k n ++ (l ∷ [])) ∙ shows.has_mails;
    nodes = shows.nodes;
    past = shows.past;
    letters = λ m q i. ⊎_elim
        (λ (e : m ≡ n). shows.letters m q (subst (λ p. In q (mail_of k p)) (sym e)
        (again q (in_put_mail k.mails n (mail_of k n ++ (l ∷ [])) q
        (subst (λ p. In q (mail_in (put_mail k.mails n (mail_of k n ++ (l ∷ []))) p)) e i)))))
        (λ (apart : m ≢ n). shows.letters m q (subst (In q) (mail_put_other k.mails n (mail_of k n ++ (l ∷ [])) m apart) i))
        (cases_eq m n);
  }
    where
      again : (q : Letter C) → In q (mail_of k n ++ (l ∷ [])) → In q (mail_of k n)
      again q i = ⊎_elim
          (λ (j : In q (mail_of k n)). j)
          (λ (j : In q (l ∷ [])). ⊎_elim
          (λ (same : q ≡ l). subst (λ p. In p (mail_of k n)) (sym same) (In-get (mail_of k n) 0 l at))
          (λ none. absurd none) j)
          (In-cases q (mail_of k n) (l ∷ []) i)

above : (a b : ℕ) → nat_lt a b ≡ true → a < b
above a b e = grind (arith, nat_tests)

not_above : (a b : ℕ) → nat_lt a b ≡ false → b ≤ a
not_above a b e = grind (arith, nat_tests)

module _ {O Op Reply : Type 0} (rules : Rules O Op Reply) (facts : WorldFacts rules) (h : HallRest Op O Reply) (w : World Op Reply)
    (i : IsWorld rules w) (s : ShowsWorld rules h w) where
  -- what node n performs is told to the clients, where nobody was told before
  module _ (n : ℕ) where
    abbrev x : NodeState (Command Op)
    x = node w.cluster n

    told_if : (c : Command Op) → Performs w n c → (b : Bool) → nat_lt w.reach x.replica.slot_out ≡ b
        → IsSummaryOf (with_replies (cond b (answers_after rules (history x.replica) c) []) h.summary)
        (with_answers (answers_after rules (history x.replica) c) w.happenings)
    told_if c performs true e = replies_kept h.summary w.happenings s.summary (answers_after rules (history x.replica) c)
        ((facts.counts w n c i performs).first (above w.reach x.replica.slot_out e))
    told_if c performs false e = replies_told h.summary w.happenings s.summary (answers_after rules (history x.replica) c)
        ((facts.tells w n c i performs).again (not_above w.reach x.replica.slot_out e))
        ((facts.counts w n c i performs).again (not_above w.reach x.replica.slot_out e))

    quiet : IsSummaryOf (with_replies [] h.summary) (with_answers [] w.happenings)
    quiet = replies_told h.summary w.happenings s.summary [] (λ a none. absurd none) (ap (firsts answered_key) (append-nil w.happenings.answers))

    performing_kept : (o : Option (Command Op)) → next_decided x.replica ≡ o
        → IsSummaryOf (with_replies (fresh_answers w.reach (performs x.replica o) (performing rules x o).answers) h.summary)
        (with_answers (performing rules x o).answers w.happenings)
    performing_kept None e = quiet
    performing_kept (Some c) e = told_if c e (nat_lt w.reach x.replica.slot_out) refl

    idle_kept : {X : Type 0} (o : Option X) → IsSummaryOf (with_replies (fresh_answers w.reach (done_if o) []) h.summary) (with_answers [] w.happenings)
    idle_kept None = quiet
    idle_kept (Some y) = quiet

    deed_kept : (d : Deed Op) → IsGoingOn d
        → IsSummaryOf (with_replies (fresh_answers w.reach (outcome_of x d) (acted rules w.cluster.members n x d).answers) h.summary)
        (with_answers (acted rules w.cluster.members n x d).answers w.happenings)
    deed_kept (deeds.Request c) own = absurd own
    deed_kept deeds.Wake own = quiet
    deed_kept deeds.Nudge own = quiet
    deed_kept deeds.Propose own = idle_kept (next_proposal x.replica)
    deed_kept deeds.Perform own = performing_kept (next_decided x.replica) refl
    deed_kept deeds.Restart own = absurd own

    -- the world's event, and what is shown then
    module _ (d : Deed Op) (own : IsGoingOn d) (f : FollowsDeed rules h.base h.network h.objects n d w) where
      abbrev held : List (Answer Reply)
      held = (turn_held rules h.network h.objects n d).answers

      abbrev given : List (Answer Reply)
      given = (acted rules w.cluster.members n x d).answers

      same_fresh : fresh_answers h.reach (outcome_rest h n d) held ≡ fresh_answers w.reach (outcome_of x d) given
      same_fresh =
          ap (λ r. fresh_answers r (outcome_rest h n d) held) s.reach
          ∙ ap (λ o. fresh_answers w.reach o held) f.outcome
          ∙ ap (fresh_answers w.reach (outcome_of x d)) f.answers

      happenings : f.world.happenings ≡ with_answers given w.happenings
      happenings = happens rules w f.world (event_of n d) f.step ∙ deed_happened rules w n d own

      abbrev told : Summary Op Reply
      told = with_replies (fresh_answers h.reach (outcome_rest h n d) held) h.summary

      abbrev key : Option Key
      key = key_placed h.reach (outcome_rest h n d)

      summary : IsSummaryOf told f.world.happenings
      summary = subst (λ g. IsSummaryOf (with_replies g h.summary) f.world.happenings) (sym same_fresh)
          (subst (IsSummaryOf (with_replies (fresh_answers w.reach (outcome_of x d) given) h.summary)) (sym happenings) (deed_kept d own))

      counted : CountsPlaced (with_effect key told).placed f.world
      counted =
          let keys = s.placed.0 in (
            placed_after w (event_of n d) keys,
            facts.placed w f.world (event_of n d) keys i f.step s.placed.1,
            effect_counted key told keys s.placed.2
                ∙ ap (λ k. length (keys ++ option_to_list k)) (ap₂ key_placed s.reach f.outcome)
                ∙ ap length (sym (deed_placed rules w n d own keys)),
          )

      pub deed_shows : FollowsEvent rules w (event_of n d) (done_rest rules h n d)
      deed_shows = (
        f.world,
        f.step,
        record {
          cluster = f.shows;
          objects = f.obey;
          summary = effect_kept key told f.world.happenings summary;
          placed = counted;
          opened = effect_opened key told h.opened (replies_opened h.summary h.opened s.opened (fresh_answers h.reach (outcome_rest h n d) held));
          handed_in = λ t j. s.handed_in t (subst (In t) (ap (λ (g : Happenings Op Reply). g.submitted) happenings) j);
          reach = ap₂ reach_after s.reach f.outcome ∙ sym (reaches rules w f.world (event_of n d) f.step ∙ deed_reached rules w n d own);
          taken = ap (λ t. t + 1) s.taken ∙ sym (facts.counted w f.world (event_of n d) i f.step);
        },
      )

  -- a command is handed in
  module _ (n : ℕ) (c : Command Op) where
    submitted_if : (b : Bool) (t : Submission Op)
        → In t (cond b w.happenings (record w.happenings {
          submitted = w.happenings.submitted ++
              (record { command = c; after = length w.happenings.answers } ∷ []);
        })).submitted
        → In t w.happenings.submitted ⊎ (t.command ≡ c)
    submitted_if true t j = inl j
    submitted_if false t j = ⊎_elim
        (λ (k : In t w.happenings.submitted). inl k)
        (λ (k : In t (record { command = c; after = length w.happenings.answers } ∷ [])).
        ⊎_elim (λ (same : t ≡ record { command = c; after = length w.happenings.answers }). inr (ap (λ (u : Submission Op). u.command) same))
        (λ none. absurd none) k)
        (In-cases t w.happenings.submitted (record { command = c; after = length w.happenings.answers } ∷ []) j)

    -- its session was opened
    few : IsSome (get h.summary.clients c.key.session) → (t : Submission Op) → In t (with_submission c w.happenings).submitted
        → t.command.key.session ≤ h.opened
    few there t j = ⊎_elim
        (λ (k : In t w.happenings.submitted). s.handed_in t k)
        (λ (e : t.command ≡ c). subst (λ (d : Command Op). d.key.session ≤ h.opened) (sym e) (s.opened c.key.session there))
        (submitted_if (is_submitted c.key w.happenings.submitted) t j)

    module _ (f : FollowsDeed rules h.base h.network h.objects n (deeds.Request c) w) where
      -- with another summary
      shows_then : (z : Summary Op Reply) → z.placed ≡ h.summary.placed → IsSummaryOf z (with_submission c w.happenings) → IsOpenedUpTo h.opened z
          → IsSome (get h.summary.clients c.key.session) → FollowsEvent rules w (event_of n (deeds.Request c))
          (record (acted_rest rules h n (deeds.Request c)) { summary = z })
      shows_then z same is opened there =
          let happenings = happens rules w f.world (event_of n (deeds.Request c)) f.step in (
            f.world,
            f.step,
            record {
              cluster = f.shows;
              objects = f.obey;
              summary = subst (IsSummaryOf z) (sym happenings) is;
              placed = (
                s.placed.0,
                facts.placed w f.world (event_of n (deeds.Request c)) s.placed.0 i f.step s.placed.1,
                same ∙ s.placed.2,
              );
              opened = opened;
              handed_in = λ t j. few there t (subst (In t) (ap (λ (g : Happenings Op Reply). g.submitted) happenings) j);
              reach = s.reach ∙ sym (reaches rules w f.world (event_of n (deeds.Request c)) f.step);
              taken = ap (λ t. t + 1) s.taken ∙ sym (facts.counted w f.world (event_of n (deeds.Request c)) i f.step);
            },
          )

      pub next_shows : IsNextOf h.summary c → FollowsEvent rules w (event_of n (deeds.Request c)) (handed_in rules h n c)
      next_shows next = shows_then (with_command c h.summary) refl
          (next_kept h.summary w.happenings s.summary c next (facts.answered_known w i))
          (next_opened h.summary h.opened s.opened c next)
          (subst (λ o. IsSome o) (sym next.is_there) refl)

      pub again_shows : IsLastOf h.summary c → FollowsEvent rules w (event_of n (deeds.Request c)) (acted_rest rules h n (deeds.Request c))
      again_shows last = shows_then h.summary refl (again_kept h.summary w.happenings s.summary c last) s.opened
          (subst (λ o. IsSome o) (sym last.is_there) refl)

    -- it is the last one of its session then
    pub next_is_last : IsNextOf h.summary c → IsLastSubmitted c w.happenings.submitted
    next_is_last next =
        let client = s.summary.clients c.key.session next.client next.is_there in
        let number = next.number in
        record {
          own = λ t j e. absurd (next_is_new w.happenings c.key.session next.client client c refl next.number t j (same_is t.command.key c.key e));
          last = λ t j e. let low = client.last t j e in omega (arith, low, number);
        }

    pub again_is_last : IsLastOf h.summary c → IsLastSubmitted c w.happenings.submitted
    again_is_last last =
        let client = s.summary.clients c.key.session last.client last.is_there in
        let was = (client.own c last.last).1 in
        record {
          own = λ t j e. ap (λ (u : Submission Op). u.command) (once_one submitted_key w.happenings.submitted (facts.once w i) t was.0 j was.1
              (same_is t.command.key c.key e ∙ ap (λ (d : Command Op). d.key) (sym was.2))) ∙ was.2;
          last = λ t j e. subst (λ o. t.command.key.number ≤ number_of_last o) last.last (client.last t j e);
        }

  -- a letter is delivered, of which this was left
  module _ (n : ℕ) (l : Letter (Command Op)) (left : LetterBody (Command Op)) (network : NetworkState (Command Op))
      (f : FollowsLetter rules h.base n l left h.objects network w) where
    pub letter_shows : FollowsLetterOf rules w h.base n l left (record h { network = network; taken = h.taken + 1 })
    letter_shows =
        let happenings = happens rules w f.world (Deliver f.place) f.step in (
          f.place,
          f.letter,
          f.sent,
          f.was,
          f.stood,
          (
            f.world,
            f.step,
            record {
              cluster = f.shows;
              objects = f.obey;
              summary = subst (IsSummaryOf h.summary) (sym happenings) s.summary;
              placed = (s.placed.0, facts.placed w f.world (Deliver f.place) s.placed.0 i f.step s.placed.1, s.placed.2);
              opened = s.opened;
              handed_in = λ t j. s.handed_in t (subst (In t) (ap (λ (g : Happenings Op Reply). g.submitted) happenings) j);
              reach = s.reach ∙ sym (reaches rules w f.world (Deliver f.place) f.step);
              taken = ap (λ t. t + 1) s.taken ∙ sym (facts.counted w f.world (Deliver f.place) i f.step);
            },
          ),
        )

  -- other nodes, which show the same
  pub still_shows : (network : NetworkState (Command Op)) (base : ℕ) → network.members ≡ h.network.members → ShowsRest base network w.cluster
      → ShowsWorld rules (record h { network = network; base = base }) w
  still_shows network base same shows = record {
    cluster = shows;
    objects = λ n member. s.objects n (subst (λ ms. is_member ms n ≡ true) same member);
    summary = s.summary;
    placed = s.placed;
    opened = s.opened;
    handed_in = s.handed_in;
    reach = s.reach;
    taken = s.taken;
  }

  pub open_shows : (session : ℕ) → h.opened < session → ShowsWorld rules (opened_as h session) w
  open_shows session above = record {
    cluster = s.cluster;
    objects = s.objects;
    summary = open_kept h.summary w.happenings s.summary session (λ t j. let low = s.handed_in t j in omega (arith, low, above));
    placed = s.placed;
    opened = open_opened h.summary h.opened s.opened session (omega (arith, above));
    handed_in = λ t j. let low = s.handed_in t j in omega (arith, low, above);
    reach = s.reach;
    taken = s.taken;
  }

  pub let_go_shows : (session : ℕ) → ShowsWorld rules (let_go_rest h session) w
  let_go_shows session = record {
    cluster = s.cluster;
    objects = s.objects;
    summary = let_go_kept h.summary w.happenings s.summary session;
    placed = s.placed;
    opened = let_go_opened h.summary h.opened s.opened session;
    handed_in = s.handed_in;
    reach = s.reach;
    taken = s.taken;
  }

pub new_shows : {O Op Reply : Type 0} (rules : Rules O Op Reply) (members : List ℕ)
    → ShowsWorld {Op = Op} {Reply = Reply} rules (new_rest rules members) (opening members)
new_shows {O} {Op} {Reply} rules members = record {
  cluster = opening_shows members;
  objects = opening_obeys rules members;
  summary = blank_kept;
  placed = ([], ([], record { chosen = tt; count = refl }, refl), refl);
  opened = blank_opened Op Reply;
  handed_in = λ t j. absurd j;
  reach = refl;
  taken = refl;
}

-- the reply that a client has was given, by one order
reply_found : {Reply : Type 0} (o : Option (Answer Reply)) (r : Reply) → option_map (λ (a : Answer Reply). a.reply) o ≡ Some r
    → (a : Answer Reply) × (o ≡ Some a) × (a.reply ≡ r)
reply_found None r e = absurd (cc)
reply_found (Some a) r e = (a, refl, cc)

pub reply_explained : {O Op Reply : Type 0} (rules : Rules O Op Reply) (promise : List (Command Op) → Type 0) (w : World Op Reply)
    (order : List (Command Op)) → IsLegal rules w.happenings order → promise order
    → (session : ℕ) (client : Client Op Reply) → IsClientOf w.happenings session client → (c : Command Op) (r : Reply)
    → client.last ≡ Some c → client.reply ≡ Some r → IsReplyInOrder rules promise w c r
reply_explained rules promise w order legal kept session client is c r last reply =
    let found_it = reply_found (found answered_key c.key w.happenings.answers) r
    (ap (first_reply w.happenings.answers) (sym last) ∙ sym is.reply ∙ reply) in
    let a = found_given c.key w.happenings.answers found_it.0 found_it.1 in
    let given = legal.answered found_it.0 a.0 in
    record {
      told = subst (λ b. In b w.happenings.answers) (λ j. record { to = a.1 j; reply = found_it.2 j }) a.0;
      order = order;
      legal = legal;
      place = given.0;
      given = subst (IsGivenAt rules order given.0) (λ j. record { to = a.1 j; reply = found_it.2 j }) given.1;
      promised = kept;
    }
