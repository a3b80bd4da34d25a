-- What is kept of the clients, from one happening to the next.
use Rattle.std.proofs.Common.{◌≡◌, ◌<◌, ◌≢◌, inl, inr, ⊎_elim, ℕ, Bool, true, false, cond, List, [], ◌∷◌, ◌++◌}
use Rattle.std.proofs.Common.{Option, Some, None, refl, sym, ap, ◌∙◌, subst, arith}
use Rattle.std.specs.Prelude.{option_map}
use Rattle.std.specs.Option.{option_or}
use Rattle.object.specs.Answers.{answered_key}
use Rattle.object.specs.Happenings.{Happenings, with_answers}
use Rattle.object.specs.KeyLaws.{same_is, same_when}
use Rattle.object.specs.Keys.{same_key, found}
use Rattle.object.specs.Legal.{WasSubmitted}
use Rattle.object.specs.ListLaws.{In-left, In-cases, In-right}
use Rattle.object.specs.Lists.{In}
use Rattle.object.specs.declared.command.Answer.{Answer}
use Rattle.object.specs.declared.command.Command.{Command}
use Rattle.object.specs.declared.command.Key.{Key}
use Rattle.object.specs.declared.command.Submission.{Submission}
use Rattle.client_table.specs.Clients.{number_of_last, first_reply, replied}
use Rattle.client_table.specs.declared.client.Client.{Client}
use Rattle.client_table.proofs.Replies.{reply_of_both}
use Rattle.forgetting_hall.specs.Clients.{IsClientOf}

module _ {Reply : Type 0} where
  found_if : (key : Key) (x : Answer Reply) (xs : List (Answer Reply)) (a : Answer Reply) (b : Bool) → same_key x.to key ≡ b
      → cond b (Some x) (found answered_key key xs) ≡ Some a
      → (found answered_key key xs ≡ Some a → In a xs × (a.to ≡ key)) → In a (x ∷ xs) × (a.to ≡ key)
  found_if key x xs a true is e more =
      let same : x ≡ a = cc in
      (inl (sym same), subst (λ (y : Answer Reply). y.to ≡ key) same (same_is x.to key is))
  found_if key x xs a false is e more = let r = more e in (inr r.0, r.1)

  -- what is found was given, to this key
  pub found_given : (key : Key) (xs : List (Answer Reply)) (a : Answer Reply) → found answered_key key xs ≡ Some a → In a xs × (a.to ≡ key)
  found_given key [] a e = absurd (cc)
  found_given key (x ∷ xs) a e = found_if key x xs a (same_key x.to key) refl e (found_given key xs a)

  none_if : (b : Bool) (x : Answer Reply) (o : Option (Answer Reply)) → (b ≡ true → ⊥) → o ≡ None → cond b (Some x) o ≡ None
  none_if true x o h e = absurd (h refl)
  none_if false x o h e = e

  -- and nothing, where nothing was given to it
  pub found_nothing : (key : Key) (xs : List (Answer Reply)) → ((a : Answer Reply) → In a xs → a.to ≢ key) → found answered_key key xs ≡ None
  found_nothing key [] h = refl
  found_nothing key (x ∷ xs) h = none_if (same_key x.to key) x (found answered_key key xs)
      (λ e. h x (inl refl) (same_is x.to key e))
      (found_nothing key xs (λ a i. h a (inr i)))

  some_if : (b : Bool) (x : Answer Reply) (o : Option (Answer Reply)) → (b ≡ true) → cond b (Some x) o ≡ None → ⊥
  some_if true x o h e = absurd (cc)
  some_if false x o h e = absurd (cc)

  rest_if : (b : Bool) (x : Answer Reply) (o : Option (Answer Reply)) → cond b (Some x) o ≡ None → o ≡ None
  rest_if true x o e = absurd (cc)
  rest_if false x o e = e

  -- what was given to a key is found, or something before it
  pub given_found : (key : Key) (xs : List (Answer Reply)) (a : Answer Reply) → In a xs → a.to ≡ key → found answered_key key xs ≡ None → ⊥
  given_found key [] a i is e = i
  given_found key (x ∷ xs) a (inl same) is e = some_if (same_key x.to key) x (found answered_key key xs)
      (same_when x.to key (ap (λ (y : Answer Reply). y.to) (sym same) ∙ is)) e
  given_found key (x ∷ xs) a (inr i) is e = given_found key xs a i is (rest_if (same_key x.to key) x (found answered_key key xs) e)

or_none : {A : Type 0} (o p : Option A) → (o ≡ None → p ≡ None) → o ≡ option_or o p
or_none None p h = sym (h refl)
or_none (Some x) p h = refl

mapped_none : {A B : Type 0} (f : A → B) (o : Option A) → option_map f o ≡ None → o ≡ None
mapped_none f None e = refl
mapped_none f (Some x) e = absurd (cc)

nothing_found : {Reply : Type 0} (o : Option (Answer Reply)) → ((a : Answer Reply) → o ≡ Some a → ⊥) → o ≡ None
nothing_found None h = refl
nothing_found (Some a) h = absurd (h a refl)

module _ {Op Reply : Type 0} where
  -- nothing more is told by answers that were given before
  pub reply_again : (xs ys : List (Answer Reply)) → ((a : Answer Reply) → In a ys → In a xs) → (last : Option (Command Op))
      → first_reply xs last ≡ first_reply (xs ++ ys) last
  reply_again xs ys h None = refl
  reply_again xs ys h (Some c) =
      or_none (first_reply xs (Some c)) (first_reply ys (Some c)) (λ none.
      ap (option_map (λ (a : Answer Reply). a.reply)) (nothing_found (found answered_key c.key ys) (λ a e.
      let g = found_given c.key ys a e in
      given_found c.key xs a (h a g.0) g.1 (mapped_none (λ (b : Answer Reply). b.reply) (found answered_key c.key xs) none))))
      ∙ sym (reply_of_both xs ys (Some c))

  -- a command that was not answered has no reply
  pub reply_none : (xs : List (Answer Reply)) (c : Command Op) → ((a : Answer Reply) → In a xs → a.to ≢ c.key) → first_reply xs (Some c) ≡ None
  reply_none xs c h = ap (option_map (λ (a : Answer Reply). a.reply)) (found_nothing c.key xs h)

  module _ (h : Happenings Op Reply) (session : ℕ) (client : Client Op Reply) (is : IsClientOf h session client) where
    -- these answers are given
    pub client_answered : (given : List (Answer Reply)) → IsClientOf (with_answers given h) session (replied given client)
    client_answered given = record {
      last = is.last;
      own = is.own;
      reply = ap (λ o. option_or o (first_reply given client.last)) is.reply ∙ sym (reply_of_both h.answers given client.last);
    }

    -- and none of them is new
    pub client_told : (given : List (Answer Reply)) → ((a : Answer Reply) → In a given → In a h.answers) → IsClientOf (with_answers given h) session client
    client_told given old = record {
      last = is.last;
      own = is.own;
      reply = is.reply ∙ reply_again h.answers given old client.last;
    }

    -- a next command wasn't submitted before
    pub next_is_new : (c : Command Op) → c.key.session ≡ session → number_of_last client.last < c.key.number
        → (t : Submission Op) → In t h.submitted → t.command.key ≢ c.key
    next_is_new c own next t i e =
        let low = is.last t i (ap (λ (k : Key). k.session) e ∙ own) in
        let number : t.command.key.number ≡ c.key.number = ap (λ (k : Key). k.number) e in
        absurd (omega (arith, low, next, number))

    -- something is submitted
    module _ (c : Command Op) (s : Submission Op) (of : s.command ≡ c) where
      abbrev after : Happenings Op Reply
      after = record h { submitted = h.submitted ++ s ∷ [] }

      was_before : (d : Command Op) → WasSubmitted d h.submitted → WasSubmitted d (h.submitted ++ s ∷ [])
      was_before d was = (was.0, In-left was.0 h.submitted (s ∷ []) was.1, was.2)

      -- by another session
      pub client_beside : c.key.session ≢ session → IsClientOf after session client
      client_beside apart = record {
        last = λ t i e. ⊎_elim
            (λ (j : In t h.submitted). is.last t j e)
            (λ (j : In t (s ∷ [])). ⊎_elim
            (λ (same : t ≡ s). absurd (apart (ap (λ (d : Command Op). d.key.session) (sym of)
            ∙ ap (λ (u : Submission Op). u.command.key.session) (sym same) ∙ e)))
            (λ none. absurd none) j)
            (In-cases t h.submitted (s ∷ []) i);
        own = λ d e. let o = is.own d e in (o.0, was_before d o.1);
        reply = is.reply;
      }

      -- by this one: its next command
      pub client_next : c.key.session ≡ session → number_of_last client.last < c.key.number
          → ((a : Answer Reply) → In a h.answers → a.to ≢ c.key)
          → IsClientOf after session (record { last = Some c; reply = None })
      client_next own next unanswered = record {
        last = λ t i e. ⊎_elim
            (λ (j : In t h.submitted). let low = is.last t j e in omega (arith, low, next))
            (λ (j : In t (s ∷ [])). ⊎_elim
            (λ (same : t ≡ s). let number : t.command.key.number ≡ c.key.number =
            ap (λ (u : Submission Op). u.command.key.number) same ∙ ap (λ (d : Command Op). d.key.number) of in omega (arith, number))
            (λ none. absurd none) j)
            (In-cases t h.submitted (s ∷ []) i);
        own = λ d e.
            let same : c ≡ d = cc in (
              subst (λ (x : Command Op). x.key.session ≡ session) same own,
              subst (λ x. WasSubmitted x (h.submitted ++ s ∷ [])) same (s, In-right s h.submitted (s ∷ []) (inl refl), of),
            );
        reply = sym (reply_none h.answers c unanswered);
      }
