-- What is kept of what happened, from one event to the next.
use Rattle.std.proofs.Common.{◌≡◌, ◌<◌, ◌≢◌, ◌≤◌, ◌+◌, ◌⊎◌, inl, inr, ⊎_elim, ℕ, Bool, true, false, true≢false, cond, List, [], ◌∷◌, ◌++◌, length}
use Rattle.std.proofs.Common.{Option, Some, None, refl, sym, ap, ◌∙◌, subst, arith, append-nil, length-append}
use Rattle.std.specs.Prelude.{IsSome, option_map}
use Rattle.std.specs.Option.{option_to_list}
use Rattle.std.specs.Cmp.{nat_cmp_total}
use Rattle.std.specs.FinMap.{empty, get, insert, remove, get-insert, get-empty}
use Rattle.std.specs.Ordering.{nat_cmp, eq_by_cmp}
use Rattle.std.proofs.lemmas.Bool.Decides.{nat_tests}
use Rattle.std.proofs.lemmas.Bool.{cases_eq, false_from_ne_true}
use Rattle.object.specs.Answers.{answered_key}
use Rattle.object.specs.Happenings.{Happenings, nothing, with_submission, with_answers, is_submitted, submitted_key}
use Rattle.object.specs.KeyLaws.{same_is, same_when}
use Rattle.object.specs.Keys.{same_key}
use Rattle.object.specs.Lists.{In}
use Rattle.object.specs.declared.command.Answer.{Answer}
use Rattle.object.specs.declared.command.Command.{Command}
use Rattle.object.specs.declared.command.Key.{Key}
use Rattle.object.specs.declared.command.Submission.{Submission}
use Rattle.ballot.specs.Slots.{Slots}
use Rattle.ballot.proofs.SlotMaps.{insert_cases, kept_by_remove, same_key as same_slot}
use Rattle.node.specs.SlotLaws.{get_each_value}
use Rattle.recorder.specs.Firsts.{firsts}
use Rattle.forgetting.proofs.Gone.{any_In, In_any}
use Rattle.ballot.proofs.SlotMaps.{get_each}
use Rattle.client_table.specs.Clients.{Summary}
use Rattle.client_table.proofs.Replies.{replied_none}
use Rattle.forgetting_hall.specs.Clients.{IsClientOf, IsSummaryOf, IsOpenedUpTo, IsNextOf, IsLastOf}
use Rattle.client_table.specs.Clients.{new_client, blank_summary, replied, with_command, with_replies, with_effect}
use Rattle.forgetting_hall.proofs.Clients.{client_answered, client_told, client_beside, client_next, next_is_new}

-- what a map has for a slot, once another one has a value
module _ {X : Type 0} (m : Slots X) (s : ℕ) (v : X) where
  here_if : (q : ℕ) (x : X) (o : Option X) (b : Bool) → eq_by_cmp nat_cmp q s ≡ b → cond b (Some v) o ≡ Some x
      → (q ≡ s) × (v ≡ x) ⊎ (q ≢ s) × (o ≡ Some x)
  here_if q x o true is e = inl (same_slot s q is, cc)
  here_if q x o false is e = ⊎_elim
      (λ (same : q ≡ s). absurd (apart q same is))
      (λ (apart : q ≢ s). inr (apart, e))
      (cases_eq q s)
    where
      apart : (p : ℕ) → p ≡ s → eq_by_cmp nat_cmp p s ≡ false → ⊥
      apart p same e = absurd (grind (arith, nat_tests, same, e))

  pub inserted : (q : ℕ) (x : X) → get (insert m s v) q ≡ Some x → (q ≡ s) × (v ≡ x) ⊎ (q ≢ s) × (get m q ≡ Some x)
  inserted q x e = here_if q x (get m q) (eq_by_cmp nat_cmp q s) refl (sym (get-insert nat_cmp_total m s v q) ∙ e)

  pub some_inserted : (q : ℕ) → IsSome (get (insert m s v) q) → (q ≡ s) ⊎ IsSome (get m q)
  some_inserted q i = ⊎_elim
      (λ (h : (q ≡ s) × (get (insert m s v) q ≡ Some v)). inl h.0)
      (λ (h : get (insert m s v) q ≡ get m q). inr (subst (λ o. IsSome o) h i))
      (insert_cases m s v q)

some_there : {X : Type 0} (o : Option X) → IsSome o → (x : X) × (o ≡ Some x)
some_there None h = absurd (cc)
some_there (Some x) h = (x, refl)

mapped_some : {X Y : Type 0} (f : X → Y) (o : Option X) → IsSome (option_map f o) → IsSome o
mapped_some f None i = i
mapped_some f (Some x) i = refl

module _ {Op Reply : Type 0} where
  -- the count of what took effect is no client's
  pub effect_kept : (key : Option Key) (s : Summary Op Reply) (h : Happenings Op Reply) → IsSummaryOf s h → IsSummaryOf (with_effect key s) h
  effect_kept None s h is = is
  effect_kept (Some key) s h is = record { clients = is.clients; submitted = is.submitted; answered = is.answered }

  pub effect_opened : (key : Option Key) (s : Summary Op Reply) (count : ℕ) → IsOpenedUpTo count s → IsOpenedUpTo count (with_effect key s)
  effect_opened None s count is = is
  effect_opened (Some key) s count is = is

  pub effect_counted : (key : Option Key) (s : Summary Op Reply) (keys : List Key) → s.placed ≡ length keys
      → (with_effect key s).placed ≡ length (keys ++ option_to_list key)
  effect_counted None s keys e = e ∙ ap length (sym (append-nil keys))
  effect_counted (Some key) s keys e = ap (λ n. n + 1) e ∙ sym (length-append keys (key ∷ []))

  module _ (s : Summary Op Reply) (h : Happenings Op Reply) (is : IsSummaryOf s h) where
    -- answers to keys that had none
    pub replies_kept : (given : List (Answer Reply)) → firsts answered_key (h.answers ++ given) ≡ firsts answered_key h.answers ++ given
        → IsSummaryOf (with_replies given s) (with_answers given h)
    replies_kept given new = record {
      clients = λ session client e.
          let was = get_each_value (λ _ c. replied given c) s.clients session client e in
          subst (IsClientOf (with_answers given h) session) (sym was.2) (client_answered h session was.0 (is.clients session was.0 was.1) given);
      submitted = is.submitted;
      answered = ap (λ n. n + length given) is.answered ∙ sym (length-append (firsts answered_key h.answers) given) ∙ ap length (sym new);
    }

    -- answers that were all given before
    pub replies_told : (given : List (Answer Reply)) → ((a : Answer Reply) → In a given → In a h.answers)
        → firsts answered_key (h.answers ++ given) ≡ firsts answered_key h.answers
        → IsSummaryOf (with_replies [] s) (with_answers given h)
    replies_told given old same = record {
      clients = λ session client e.
          let was = get_each_value (λ _ c. replied [] c) s.clients session client e in
          subst (IsClientOf (with_answers given h) session) (sym (replied_none was.0) ∙ sym was.2)
          (client_told h session was.0 (is.clients session was.0 was.1) given old);
      submitted = is.submitted;
      answered = (let n = is.answered in omega (arith, n)) ∙ ap length (sym same);
    }

    -- the command was submitted
    pub is_there : (c : Command Op) → IsLastOf s c → is_submitted c.key h.submitted ≡ true
    is_there c last =
        let client = is.clients c.key.session last.client last.is_there in
        let was = (client.own c last.last).1 in
        In_any (λ t. same_key (submitted_key t) c.key) was.0 h.submitted was.1 (same_when (submitted_key was.0) c.key (ap (λ (d : Command Op). d.key) was.2))

    -- and nothing more is, where it is submitted again
    pub again_kept : (c : Command Op) → IsLastOf s c → IsSummaryOf s (with_submission c h)
    again_kept c last = subst (IsSummaryOf s)
        (sym (ap (λ b. cond b h (record h { submitted = h.submitted ++ (record { command = c; after = length h.answers } ∷ []) })) (is_there c last))) is

    module _ (c : Command Op) (next : IsNextOf s c) where
      client_is : IsClientOf h c.key.session next.client
      client_is = is.clients c.key.session next.client next.is_there

      -- a next command wasn't submitted
      pub is_new : is_submitted c.key h.submitted ≡ false
      is_new = false_from_ne_true (is_submitted c.key h.submitted) (λ e.
          let t = any_In (λ u. same_key (submitted_key u) c.key) h.submitted e in
          next_is_new h c.key.session next.client client_is c refl next.number t.0 t.1 (same_is (submitted_key t.0) c.key t.2))

      -- and is the last one then
      pub next_kept : ((a : Answer Reply) → In a h.answers → is_submitted a.to h.submitted ≡ true) → IsSummaryOf (with_command c s) (with_submission c h)
      next_kept known =
          let sub : Submission Op = record { command = c; after = length h.answers } in
          let unanswered : (a : Answer Reply) → In a h.answers → a.to ≢ c.key =
          λ a i e. absurd (true≢false (sym (known a i) ∙ ap (λ k. is_submitted k h.submitted) e ∙ is_new)) in
          subst (IsSummaryOf (with_command c s)) (sym (ap (λ b. cond b h (record h { submitted = h.submitted ++ (sub ∷ []) })) is_new)) (record {
            clients = λ session client e. ⊎_elim
                (λ (here : (session ≡ c.key.session) × (record { last = Some c; reply = None } ≡ client)).
                subst (IsClientOf (record h { submitted = h.submitted ++ (sub ∷ []) }) session) here.1
                (subst (λ n. IsClientOf (record h { submitted = h.submitted ++ (sub ∷ []) }) n (record { last = Some c; reply = None })) (sym here.0)
                (client_next h c.key.session next.client client_is c sub refl refl next.number unanswered)))
                (λ (there : (session ≢ c.key.session) × (get s.clients session ≡ Some client)).
                client_beside h session client (is.clients session client there.1) c sub refl (λ same. there.0 (sym same)))
                (inserted s.clients c.key.session (record { last = Some c; reply = None }) session client e);
            submitted = ap (λ n. n + 1) is.submitted ∙ sym (length-append h.submitted (sub ∷ []));
            answered = is.answered;
          })

    -- a session is opened that handed in nothing
    pub open_kept : (opened : ℕ) → ((t : Submission Op) → In t h.submitted → t.command.key.session < opened)
        → IsSummaryOf (record s { clients = insert s.clients opened new_client }) h
    open_kept opened few = record {
      clients = λ session client e. ⊎_elim
          (λ (here : (session ≡ opened) × (new_client ≡ client)). subst (IsClientOf h session) here.1 (record {
            last = λ t i f. let low = few t i in let high = here.0 in absurd (omega (arith, low, high, f));
            own = λ c f. absurd (cc);
            reply = refl;
          }))
          (λ (there : (session ≢ opened) × (get s.clients session ≡ Some client)). is.clients session client there.1)
          (inserted s.clients opened new_client session client e);
      submitted = is.submitted;
      answered = is.answered;
    }

    -- a session is let go of
    pub let_go_kept : (session : ℕ) → IsSummaryOf (record s { clients = remove s.clients session }) h
    let_go_kept session = record {
      clients = λ other client e. is.clients other client (kept_by_remove s.clients session other client e);
      submitted = is.submitted;
      answered = is.answered;
    }

  module _ (s : Summary Op Reply) (count : ℕ) (opened : IsOpenedUpTo count s) where
    pub replies_opened : (given : List (Answer Reply)) → IsOpenedUpTo count (with_replies given s)
    replies_opened given session i = opened session
        (mapped_some (replied given) (get s.clients session) (subst (λ o. IsSome o) (get_each (λ _ c. replied given c) s.clients session) i))

    pub next_opened : (c : Command Op) → IsNextOf s c → IsOpenedUpTo count (with_command c s)
    next_opened c next session i = ⊎_elim
        (λ (here : session ≡ c.key.session). subst (λ n. n ≤ count) (sym here)
        (opened c.key.session (subst (λ o. IsSome o) (sym next.is_there) refl)))
        (λ (there : IsSome (get s.clients session)). opened session there)
        (some_inserted s.clients c.key.session (record { last = Some c; reply = None }) session i)

    pub open_opened : (more : ℕ) → count ≤ more → IsOpenedUpTo more (record s { clients = insert s.clients more new_client })
    open_opened more above session i = ⊎_elim
        (λ (here : session ≡ more). omega (arith, here))
        (λ (there : IsSome (get s.clients session)). let low = opened session there in omega (arith, low, above))
        (some_inserted s.clients more new_client session i)

    pub let_go_opened : (session : ℕ) → IsOpenedUpTo count (record s { clients = remove s.clients session })
    let_go_opened session other i =
        let x = some_there (get (remove s.clients session) other) i in
        opened other (subst (λ o. IsSome o) (sym (kept_by_remove s.clients session other x.0 x.1)) refl)

not_there : {X : Type 0} {o : Option X} {x : X} → o ≡ None → o ≡ Some x → ⊥
not_there e f = absurd (cc)

-- before anything happened
pub blank_kept : {Op Reply : Type 0} → IsSummaryOf {Op = Op} {Reply = Reply} blank_summary nothing
blank_kept = record {
  clients = λ session client e. ⊎_elim
      (λ (here : (session ≡ 0) × (new_client ≡ client)). subst (IsClientOf nothing session) here.1
      (record { last = λ t i f. absurd i; own = λ c f. absurd (cc); reply = refl }))
      (λ (there : (session ≢ 0) × (get empty session ≡ Some client)). absurd (not_there (get-empty nat_cmp session) there.1))
      (inserted empty 0 new_client session client e);
  submitted = refl;
  answered = refl;
}

pub blank_opened : (Op Reply : Type 0) → IsOpenedUpTo {Op = Op} {Reply = Reply} 0 blank_summary
blank_opened Op Reply session i = ⊎_elim
    (λ (here : session ≡ 0). omega (arith, here))
    (λ (there : IsSome (get empty session)). let x = some_there (get empty session) there in absurd (not_there (get-empty nat_cmp session) x.1))
    (some_inserted empty 0 new_client session i)
