-- What a node received of a body, whatever was sent before; and what comes of an envelope by that.
use Rattle.std.proofs.Common.{◌≡◌, ◌≢◌, ⊎_elim, Bool, true, false, cond, ℕ, ◌<◌, List, [], ◌∷◌, ◌++◌, length, drop}
use Rattle.std.proofs.Common.{Option, None, Some, is_none, refl, sym, ap, ◌∙◌, subst, arith}
use Rattle.std.specs.Prelude.{slice_index_or}
use Rattle.std.proofs.lemmas.List.{append_cancel_left}
use Rattle.std.proofs.lemmas.Option.{same_Some}
use Rattle.object.specs.ListLaws.{Each, Each-append}
use Rattle.object.specs.declared.command.Command.{Command}
use Rattle.ballot.specs.Left.{what_is_left}
use Rattle.ballot.specs.Rests.{rest_of_body, pvalues_from}
use Rattle.ballot.specs.declared.left.Left.{Left}
use Rattle.ballot.specs.declared.left.Left.TheVariants.{Nothing, All, Part}
use Rattle.ballot.specs.declared.letter.Letter.{Letter}
use Rattle.ballot.specs.declared.letter.LetterBody.{LetterBody}
use Rattle.ballot.specs.declared.letter.LetterBody.TheVariants.{P1a, P1b, P2a, P2b, Propose, Decision, Ask}
use Rattle.acceptor.proofs.Kept.{report_of_all}
use Rattle.node.specs.Holding.{Holding}
use Rattle.node.specs.Nodes.{NodeState}
use Rattle.node.specs.Receiving.{IsFit, ShowsNode, ShowsReceived}
use Rattle.cluster.specs.Envelopes.{Envelope, IsLegible, IsReadAs}
use Rattle.cluster.specs.Hosts.{HostState}
use Rattle.host.specs.Receiving.{AsksForVote, AwaitsVote, Comes, IsLeftOut, Takes, TakesBody, MayReceive}
use Rattle.host.specs.declared.receipt.Receipt.TheVariants as receipts
use Rattle.host.proofs.Storing.{if_left}

itself : {C : Type 0} (x : NodeState C) → ShowsNode x x
itself x = record {
  acceptor = record { promised = refl; accepted = report_of_all x.acceptor.accepted x.acceptor.accepted refl };
  boot = refl;
  leader = refl;
  replica = refl;
}

-- one list of letters is what it sent, whichever node it shows
pub received_alone : {C : Type 0} (m : ℕ) (kept : NodeState C) (body : LetterBody C) (new : NodeState C)
    (before now : List (Letter C))
    → ShowsReceived m kept body new before now
    → (sent : List (Letter C)) × ShowsReceived m kept body new [] sent × (now ≡ before ++ sent)
received_alone m kept body new before now shows =
    let own = shows kept (itself kept) in (
      own.2.0,
      λ x s.
          let r = shows x s in
          (r.0, r.1, (r.2.0, r.2.1, append_cancel_left before own.2.0 r.2.0 (sym own.2.2 ∙ r.2.2))),
      own.2.2,
    )

-- a fit body is fit as far as it is left
pub fit_left : {C : Type 0} (x : NodeState C) (base : ℕ) (body left : LetterBody C) → rest_of_body base body ≡ Some left
    → IsFit x body → IsFit x left
fit_left x base (P1a b) left e fit = subst (IsFit x) (same_Some _ left e) fit
fit_left x base (P1b b report) left e fit =
    subst (IsFit x) (same_Some (P1b b (pvalues_from base report)) left e) fit
fit_left x base (P2a p) left e fit = subst (IsFit x) (if_left _ (P2a p) left e) fit
fit_left x base (P2b o s by) left e fit = subst (IsFit x) (if_left _ (P2b o s by) left e) fit
fit_left x base (Propose s c) left e fit = subst (IsFit x) (if_left _ (Propose s c) left e) fit
fit_left x base (Decision s c) left e fit = subst (IsFit x) (if_left _ (Decision s c) left e) fit
fit_left x base (Ask s) left e fit = subst (IsFit x) (same_Some _ left e) fit

fit_whole : {C : Type 0} (x : NodeState C) (base : ℕ) (body left : LetterBody C) → rest_of_body base body ≡ Some left
    → IsFit x left → IsFit x body
fit_whole x base (P1a b) left e fit = subst (IsFit x) (sym (same_Some _ left e)) fit
fit_whole x base (P1b b report) left e fit =
    subst (IsFit x) (sym (same_Some (P1b b (pvalues_from base report)) left e)) fit
fit_whole x base (P2a p) left e fit = subst (IsFit x) (sym (if_left _ (P2a p) left e)) fit
fit_whole x base (P2b o s by) left e fit = subst (IsFit x) (sym (if_left _ (P2b o s by) left e)) fit
fit_whole x base (Propose s c) left e fit = subst (IsFit x) (sym (if_left _ (Propose s c) left e)) fit
fit_whole x base (Decision s c) left e fit = subst (IsFit x) (sym (if_left _ (Decision s c) left e)) fit
fit_whole x base (Ask s) left e fit = subst (IsFit x) (sym (same_Some _ left e)) fit

-- of what isn't forgotten something is left
pub something : {X : Type 0} (o : Option X) → is_none o ≡ false → (x : X) × (o ≡ Some x)
something None e = absurd (cc)
something (Some x) e = (x, refl)

-- what is no part is the whole, where anything is left
pub whole_left : {C : Type 0} (left : Left C) (body : LetterBody C) (rest : Option (LetterBody C))
    → ((part : LetterBody C) → left ≡ Part part → ⊥) → what_is_left body left ≡ rest → is_none rest ≡ false
    → rest ≡ Some body
whole_left Nothing body rest no_part is some = absurd (cc)
whole_left All body rest no_part is some = sym is
whole_left (Part part) body rest no_part is some = absurd (no_part part refl)

-- a body that isn't fit is left out
pub unfit_left : {Op O : Type 0} (s : HostState Op O) (p : Envelope (Command Op)) (n : ℕ) (now : List (Letter (Command Op)))
    → p.letter.to ≡ n → IsLegible s.base p.label p.letter.body → is_none (rest_of_body s.base p.letter.body) ≡ false
    → (IsFit s.holding.state p.letter.body → ⊥) → Comes receipts.Unfit n s p s now now
unfit_left s p n now to may some unfit =
    let left = something (rest_of_body s.base p.letter.body) some in (
      left.0,
      record { receiver = to; legible = may; rest = left.1 },
      λ f. unfit (fit_whole s.holding.state s.base p.letter.body left.0 left.1 f),
      (refl, refl),
    )

-- what a host takes of an envelope, where a node takes what is left of it
pub takes_left : {Op O : Type 0} (base n : ℕ) (h z : Holding Op O) (p : Envelope (Command Op))
    (left : LetterBody (Command Op)) (before now : List (Letter (Command Op)))
    → p.letter.to ≡ n → MayReceive (record { base = base; holding = h }) p → rest_of_body base p.letter.body ≡ Some left
    → TakesBody p.letter.«from» h left z before now
    → Takes n (record { base = base; holding = h }) p (record { base = base; holding = z }) before now
takes_left base n h z p left before now to may rest k = (
  left,
  z.state,
  k.0,
  record { receiver = to; legible = may.legible; rest = rest },
  k.1,
  ap (λ o. record { base = base; holding = record { state = z.state; object = o } }) k.2,
  k.3,
)

-- what asks for a vote may be taken, unless it is forgotten
may_read : {C : Type 0} (base label : ℕ) (body : LetterBody C) → AsksForVote body → IsLegible base label body
may_read base label (P1a b) asks = tt
may_read base label (P1b b report) asks = absurd asks
may_read base label (P2a p) asks = tt
may_read base label (P2b o s by) asks = absurd asks
may_read base label (Propose s c) asks = absurd asks
may_read base label (Decision s c) asks = absurd asks
may_read base label (Ask s) asks = absurd asks

pub asked_fits : {C : Type 0} (x : NodeState C) (body : LetterBody C) → AsksForVote body → IsFit x body
asked_fits x (P1a b) asks = tt
asked_fits x (P1b b report) asks = absurd asks
asked_fits x (P2a p) asks = tt
asked_fits x (P2b o s by) asks = absurd asks
asked_fits x (Propose s c) asks = absurd asks
asked_fits x (Decision s c) asks = absurd asks
asked_fits x (Ask s) asks = absurd asks

pub asked_read : {C : Type 0} (n base : ℕ) (p : Envelope C) → AwaitsVote n base p → IsReadAs p n base p.letter.body
asked_read n base p w = record {
  receiver = w.to;
  legible = may_read base p.label p.letter.body w.asks;
  rest = w.whole;
}

pub not_left_out : {Op O : Type 0} (n : ℕ) (s : HostState Op O) (p : Envelope (Command Op)) → p.letter.to ≡ n
    → AsksForVote p.letter.body → is_none (rest_of_body s.base p.letter.body) ≡ false → IsLeftOut n s p → ⊥
not_left_out n s p to asks some out = ⊎_elim (λ (astray : p.letter.to ≢ n). astray to)
    (λ (no : MayReceive s p → ⊥). no (record {
      legible = may_read s.base p.label p.letter.body asks;
      some = some;
      fit = asked_fits s.holding.state p.letter.body asks;
    }))
    out

pub nothing_left : {X : Type 0} (o : Option X) → is_none o ≡ true → o ≡ None
nothing_left None e = refl
nothing_left (Some x) e = absurd (cc)

-- one more waits
pub each_more : {X : Type 0} (P : X → Type 0) (b : Bool) (xs : List X) (x : X) → Each P xs → P x
    → Each P (cond b (xs ++ (x ∷ [])) xs)
each_more P true xs x all here = Each-append P xs (x ∷ []) all (here, tt)
each_more P false xs x all here = all

-- the first of a list, and what is behind it
pub at_front : {A : Type 0} (xs : List A) (x : A) → 0 < length xs → x ≡ slice_index_or xs 0 x → xs ≡ x ∷ drop 1 xs
at_front [] x some e = absurd (omega (arith, some))
at_front (y ∷ ys) x some e = ap (λ z. z ∷ ys) (sym e)
