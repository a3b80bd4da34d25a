-- What calls of a hall submit.
use Rattle.std.proofs.Common.{◌≡◌, ◌≢◌, inl, inr, ℕ, Bool, true, false, cond, List, [], ◌∷◌, ◌++◌, map, length, Option}
use Rattle.std.proofs.Common.{None, Some, Result, Ok, Err, OnOk, OnErr, refl, sym, ap, ◌∙◌, subst, append-nil}
use Rattle.std.proofs.Common.{append_assoc}
use Rattle.std.specs.Prelude.{◌||◌}
use Rattle.std.proofs.lemmas.List.{map-append}
use Rattle.object.specs.Lists.{In}
use Rattle.object.specs.declared.command.Command.{Command}
use Rattle.object.specs.declared.command.Key.{Key}
use Rattle.object.specs.declared.command.Submission.{Submission}
use Rattle.object.specs.Happenings.{Happenings, is_submitted, with_submission}
use Rattle.object.specs.Keys.{same_key, stands}
use Rattle.object.specs.KeyLaws.{same_is, same_itself}
use Rattle.object.specs.Objects.{Rules}
use Rattle.node.specs.declared.deed.Deed.{Deed}
use Rattle.node.specs.Deeds.{outcome_of}
use Rattle.network.specs.Networks.{node_of, turn_of}
use Rattle.recorder.specs.Records.{Record, own_key, with_first_answers}
use Rattle.node.specs.Outcomes.{key_placed}
use Rattle.hall.specs.Explained.{IsBegun}
use Rattle.hall.specs.Recorded.{done, with_place_if}
use Rattle.hall.specs.Halls.{HallState, with_nodes, after_tick, tick_of}
use Rattle.simulated_hall.specs.Standing.{SubmitsNothing}

abbrev commands_of : {Op : Type 0} → List (Submission Op) → List (Command Op)
commands_of submitted = map (λ s. s.command) submitted

-- a key that no submitted command has isn't submitted
not_submitted : {Op : Type 0} (k : Key) (submitted : List (Submission Op))
    → ((c : Command Op) → In c (commands_of submitted) → c.key ≢ k) → is_submitted k submitted ≡ false
not_submitted k [] other = refl
not_submitted {Op} k (s ∷ more) other = at (same_key s.command.key k) refl (not_submitted k more (λ d i. other d (inr i)))
  where
    at : (b : Bool) → same_key s.command.key k ≡ b → is_submitted k more ≡ false → (b || is_submitted k more) ≡ false
    at true e rest = absurd (other s.command (inl refl) (same_is s.command.key k e))
    at false e rest = rest

submitted_at_end : {Op : Type 0} (s : Submission Op) (submitted : List (Submission Op)) → is_submitted s.command.key (submitted ++ (s ∷ [])) ≡ true
submitted_at_end s [] = ap (λ b. b || false) (same_itself s.command.key)
submitted_at_end {Op} s (x ∷ more) = at (same_key x.command.key s.command.key) (submitted_at_end s more)
  where
    at : (b : Bool) → is_submitted s.command.key (more ++ (s ∷ [])) ≡ true → (b || is_submitted s.command.key (more ++ (s ∷ []))) ≡ true
    at true e = refl
    at false e = e

module _ {Op Reply : Type 0} (c : Command Op) (h : Happenings Op Reply) where
  longer : Happenings Op Reply
  longer = record { submitted = h.submitted ++ (record { command = c; after = length h.answers } ∷ []); answers = h.answers }

  -- what is handed in is submitted then
  pub submitted_now : is_submitted c.key (with_submission c h).submitted ≡ true
  submitted_now = at (is_submitted c.key h.submitted) refl
    where
      at : (b : Bool) → is_submitted c.key h.submitted ≡ b
          → is_submitted c.key (cond b h
          (record h { submitted = h.submitted ++ (record { command = c; after = length h.answers } ∷ []) })).submitted
          ≡ true
      at true e = e
      at false e = submitted_at_end (record { command = c; after = length h.answers }) h.submitted

  -- a new command is submitted last
  pub submitted_last : ((d : Command Op) → In d (commands_of h.submitted) → d.key ≢ c.key)
      → commands_of (with_submission c h).submitted ≡ commands_of h.submitted ++ (c ∷ [])
  submitted_last other =
      ap (λ b. commands_of (cond b h
      (record h { submitted = h.submitted ++ (record { command = c; after = length h.answers } ∷ []) })).submitted)
      (not_submitted c.key h.submitted other)
      ∙ map-append (λ (s : Submission Op). s.command) h.submitted (record { command = c; after = length h.answers } ∷ [])

  -- and one that was submitted changes nothing
  pub submitted_again : is_submitted c.key h.submitted ≡ true → with_submission c h ≡ h
  submitted_again e = ap (λ b. cond b h (record h { submitted = h.submitted ++ (record { command = c; after = length h.answers } ∷ []) })) e

module _ {Op Reply : Type 0} where
  -- the same record
  pub still : (earlier later : Record Op Reply) → later ≡ earlier → SubmitsNothing earlier later
  still earlier later e = record {
    submitted = ap (λ (r : Record Op Reply). r.happenings.submitted) e;
    order =
        ([], ap (λ (r : Record Op Reply). r.order) e ∙ sym (append-nil earlier.order));
  }

  pub further : (a b c : Record Op Reply) → SubmitsNothing a b → SubmitsNothing b c → SubmitsNothing a c
  further a b c first next = record {
    submitted = next.submitted ∙ first.submitted;
    order = (first.order.0 ++ next.order.0, next.order.1 ∙ ap (λ ks. ks ++ next.order.0) first.order.1 ∙ append_assoc a.order first.order.0 next.order.0);
  }

  placed_by : (b : Bool) (key : Key) (r : Record Op Reply) → (cond b r (record r { order = r.order ++ (key ∷ []) })).happenings ≡ r.happenings
  placed_by true key r = refl
  placed_by false key r = refl

  placed : (o : Option Key) (r : Record Op Reply) → (with_place_if o r).happenings ≡ r.happenings
  placed None r = refl
  placed (Some key) r = placed_by (stands own_key key r.order) key r

  -- what a node does by itself submits nothing
  pub does_nothing_new : {O : Type 0} (rules : Rules O Op Reply) (h z : HallState Op Reply) (n : ℕ) (deed : Deed Op)
      → z ≡ with_nodes h (done rules h.nodes n deed) → IsBegun h.nodes.past z.nodes.past
      → SubmitsNothing h.nodes.past z.nodes.past
  does_nothing_new rules h z n deed is begun = record {
    submitted =
        ap (λ (x : HallState Op Reply). x.nodes.past.happenings.submitted) is
        ∙ ap (λ (g : Happenings Op Reply). g.submitted)
        (placed (key_placed h.nodes.reach (outcome_of (node_of h.nodes.network n) deed))
        (with_first_answers (turn_of rules h.nodes.network n deed).answers h.nodes.past));
    order = begun.order;
  }

  -- nor does a second that was handed in
  pub ticks_again : {O : Type 0} (rules : Rules O Op Reply) (h z : HallState Op Reply) (n : ℕ) (key : Key)
      → key.session ≡ 0 → is_submitted key h.nodes.past.happenings.submitted ≡ true
      → z ≡ after_tick rules h n key.number → z.nodes.past ≡ h.nodes.past
  ticks_again rules h z n key clock was is =
      let own : key ≡ record { session = 0; number = key.number } = λ i. record { session = clock i; number = key.number } in
      ap (λ (x : HallState Op Reply). x.nodes.past) is
      ∙ ap (λ (g : Happenings Op Reply). record h.nodes.past { happenings = g })
      (submitted_again (tick_of key.number) h.nodes.past.happenings
      (subst (λ k. is_submitted k h.nodes.past.happenings.submitted ≡ true) own was))

-- what a call leaves as it was when it is refused, and doesn't change when it is not
pub either_way : {X E : Type 0} {A : Type 0} (r : Result X E) (P Q : Type 0) (a b : A) → OnOk r P → OnErr r Q → (P → a ≡ b) → (Q → a ≡ b) → a ≡ b
either_way (Ok x) P Q a b ok err f g = f ok
either_way (Err e) P Q a b ok err f g = g err
