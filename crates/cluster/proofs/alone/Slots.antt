-- Slots begin with 1, and what was performed was submitted.
use Rattle.std.proofs.Common.{◌≡◌, ◌<◌, ◌≤◌, ◌-◌, ℕ, Some, None, Option, refl, sym, ap, ◌∙◌, subst, arith}
use Rattle.std.specs.Option.{option_to_list}
use Rattle.std.specs.FinMap.{get}
use Rattle.object.specs.KeyLaws.{same_when}
use Rattle.object.specs.Legal.{WasSubmitted}
use Rattle.object.specs.Lists.{In}
use Rattle.object.specs.Objects.{Rules}
use Rattle.object.specs.declared.command.Command.{Command}
use Rattle.ballot.specs.OrderLaws.{BallotLaws}
use Rattle.slot_log.specs.Histories.{history}
use Rattle.node.specs.declared.deed.Deed.{Deed}
use Rattle.node.specs.declared.deed.Deed.TheVariants as deeds
use Rattle.agreement.specs.Mentions.{MentionsNode, Mentions, ProposesOnly}
use Rattle.agreement.specs.Nodes.{node}
use Rattle.agreement.specs.Runs.{IsWorld, InEvery}
use Rattle.agreement.specs.Worlds.{World}
use Rattle.agreement.specs.declared.event.Event.{Event}
use Rattle.agreement.specs.declared.event.Event.TheVariants as events
use Rattle.agreement.proofs.every.Every.{is_decided, knows_chosen}
use Rattle.agreement.proofs.books.LeadingRuns.{in_every}
use Rattle.agreement.proofs.books.Mentions.{new_of}
use Rattle.agreement.proofs.books.MentionsEvery.{mentions_step, next_open}
use Rattle.agreement.proofs.chosen.Reach.{opened_at, reachable_sound}
use Rattle.agreement.proofs.books.SlotBooksEvery.{books}
use Rattle.forgetting.specs.Asking.{IsLastOfSession}
use Rattle.forgetting.specs.Holding.{AsksForLast}
use Rattle.forgetting.proofs.Gone.{flat_In, option_In}
use Rattle.cluster.specs.Asking.{IsLastSubmitted, AsksForLastSubmitted}

nowhere : {X : Type 0} (o : Option X) → ((x : X) → o ≡ Some x → ⊥) → o ≡ None
nowhere None h = refl
nowhere (Some x) h = absurd (h x refl)

module _ (laws : BallotLaws) {O Op Reply : Type 0} (rules : Rules O Op Reply) where
  abbrev Above : ℕ → Command Op → Type 0
  Above s c = 0 < s

  proposes_above : (w : World Op Reply) → IsWorld rules w → (e : Event Op) → ProposesOnly Above w e
  proposes_above w i (events.Submit n c) = tt
  proposes_above w i (events.Deliver j) = tt
  proposes_above w i (events.Wake n) = tt
  proposes_above w i (events.Nudge n) = tt
  proposes_above w i (events.Propose n) = λ s c e. let next =
      (next_open (node w.cluster n).replica s c e).next in let first = (books laws rules w i n).first in omega arith
  proposes_above w i (events.Perform n) = tt
  proposes_above w i (events.Restart n) = tt

  -- each slot that is mentioned is kept_from 0
  slots_above : InEvery rules (λ w. Mentions Above w.cluster)
  slots_above = in_every laws rules (λ w. Mentions Above w.cluster)
      (λ members. record {
        nodes = λ n. subst (MentionsNode Above) (sym (opened_at members n)) (new_of Above members n);
        letters = tt;
      })
      (λ w v e i s f. mentions_step laws rules Above w v e (reachable_sound laws rules w i.reachable) s
      (proposes_above w i e) f)

  pub none_at_zero : (w : World Op Reply) → IsWorld rules w → (n : ℕ)
      → get (node w.cluster n).replica.decisions 0 ≡ None
  none_at_zero w i n = nowhere (get (node w.cluster n).replica.decisions 0)
      (λ c e. let h = ((slots_above w i).nodes n).replica.decisions 0 c e in absurd (omega arith))

  module _ (w : World Op Reply) (i : IsWorld rules w) (n : ℕ) where
    was_submitted : (d : Command Op) → In d (history (node w.cluster n).replica) → WasSubmitted d w.happenings.submitted
    was_submitted d j =
        let r = flat_In (λ s. option_to_list (get (node w.cluster n).replica.decisions s)) d 1
        ((node w.cluster n).replica.slot_out - 1) j in
        knows_chosen laws rules w i r.0 d (is_decided laws rules w i n r.0 d
        (option_In (get (node w.cluster n).replica.decisions r.0) d r.3))

    last_of_session : (c : Command Op) → IsLastSubmitted c w.happenings.submitted
        → IsLastOfSession c (history (node w.cluster n).replica)
    last_of_session c is = record {
      own = λ d j e. let t = was_submitted d j in sym t.2 ∙ is.own t.0 t.1
          (same_when t.0.command.key c.key (ap (λ (k : Command Op). k.key) t.2 ∙ e));
      last = λ d j e. let t = was_submitted d j in subst (λ (k : Command Op). k.key.number ≤ c.key.number) t.2
          (is.last t.0 t.1 (ap (λ (k : Command Op). k.key.session) t.2 ∙ e));
    }

    pub asks_for_last : (d : Deed Op) → AsksForLastSubmitted d w.happenings.submitted → AsksForLast (node w.cluster n) d
    asks_for_last (deeds.Request c) is = last_of_session c is
    asks_for_last deeds.Wake is = tt
    asks_for_last deeds.Nudge is = tt
    asks_for_last deeds.Propose is = tt
    asks_for_last deeds.Perform is = tt
    asks_for_last deeds.Restart is = absurd is
