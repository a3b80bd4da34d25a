-- A passage for the sake of a slot, some events longer.
use Rattle.std.proofs.Common.{◌≡◌, ℕ, ◌+◌, ◌≤◌, true, List, refl, ap, ◌∙◌, arith}
use Rattle.object.specs.Objects.{Rules}
use Rattle.object.specs.declared.command.Command.{Command}
use Rattle.ballot.specs.OrderLaws.{BallotLaws}
use Rattle.agreement.specs.Mentions.{is_calm}
use Rattle.agreement.specs.Worlds.{World}
use Rattle.agreement.specs.declared.event.Event.{Event}
use Rattle.agreement.proofs.books.MentionsEvery.{mentions_calm}
use Rattle.agreement.proofs.chosen.Invariants.{IsSound}
use Rattle.world.specs.Rescues.{keeps_nodes}
use Rattle.world.specs.WaySteps.{IsDueAt}
use Rattle.world.specs.WaysOut.{AddsEvent, HasTalked, IsPassage, work}
use Rattle.world.proofs.rounds.Turning.{talk_mentions}
use Rattle.world.proofs.ways.Going.{goes_on, one_goes, stays_there, talk_goes}

-- a slot that is due at a cost is so at a lower one
pub due_within : {Op Reply : Type 0} {w : World Op Reply} {slot cost less : ℕ} → less ≤ cost → IsDueAt w slot cost → IsDueAt w slot less
due_within low due = record {
  at_rest = due.at_rest;
  next = due.next;
  more = due.more;
  low = due.low;
  room = record { small = due.room.small; room = let room = due.room.room in omega arith };
}

pub passage_itself : {O Op Reply : Type 0} {rules : Rules O Op Reply} (slot cost : ℕ) (w : World Op Reply)
    (before : List (Event Op)) → IsPassage rules slot cost w before w before
passage_itself slot cost w before =
    record { spent = omega arith; mentions = λ test own all. all; submitted = refl; goes = stays_there w before }

module _ (laws : BallotLaws) {O Op Reply : Type 0} {rules : Rules O Op Reply} {w u v : World Op Reply} {slot cost : ℕ}
    {before between now : List (Event Op)} where
  -- by an event that mentions nothing new
  pub passes_on : (more : ℕ) {e : Event Op} → IsPassage rules slot cost w before u between → IsSound u.cluster
      → AddsEvent rules e u between v now → is_calm e ≡ true → keeps_nodes e ≡ true
      → v.taken + work v.cluster ≤ u.taken + work u.cluster + more → v.happenings.submitted ≡ u.happenings.submitted
      → IsPassage rules slot (cost + more) w before v now
  passes_on more {e = e} p sound one calm keeps spent submitted = record {
    spent = let first = p.spent in omega arith;
    mentions = λ test fits all.
        mentions_calm laws rules (λ (t : ℕ) (d : Command Op). test t d ≡ true) u v e sound one.step calm (p.mentions test fits all);
    submitted = submitted ∙ p.submitted;
    goes = goes_on p.goes (one_goes keeps_nodes one keeps);
  }

  -- by talk
  pub passes_talking : IsPassage rules slot cost w before u between → IsSound u.cluster → HasTalked rules u between v now
      → v.taken + work v.cluster ≤ u.taken + work u.cluster → IsPassage rules slot cost w before v now
  passes_talking p sound talked spent = record {
    spent = let first = p.spent in omega arith;
    mentions = λ test fits all.
        talk_mentions laws rules (λ (t : ℕ) (d : Command Op). test t d ≡ true) u sound v between now talked.goes (p.mentions test fits all);
    submitted = ap (λ h. h.submitted) talked.talk.happenings ∙ p.submitted;
    goes = goes_on p.goes (talk_goes talked.goes);
  }
