use Rattle.std.proofs.Common.{◌≡◌, inl, inr, ⊎_elim, ℕ, ◌<◌, Bool, true, false, length, Option, None, Some, is_some, not, refl, sym, subst, ◌∙◌, arith}
use Rattle.std.specs.Prelude.{◌↔◌, ◌==◌, IfSome, IfNone}
use Rattle.std.proofs.lemmas.Bool.Decides.{nat_tests}
use Rattle.world.specs.Telling.{IsProposedAt}
use Rattle.world.specs.WaysOut.{first_book, Proposes}
use Rattle.world.proofs.ways.Proposing.{proposes_at}
use Rattle.world.proofs.rounds.Rounds.{place_of}
use Rattle.world.proofs.way.Way.has_more.Goals as goal

there_when : {X N Q : Type 0} {P : X → Type 0} (o : Option X) (b : Bool) → b ≡ is_some o → IfSome o P → IfNone o N
    → ((x : X) → P x → Q) → (N → Q → ⊥) → ((b ≡ true) ↔ Q)
there_when None b e some none gives lacks = (λ there. absurd (cc), λ q. absurd (lacks none q))
there_when (Some x) b e some none gives lacks = (λ there. gives x some, λ q. e)

no_request : (n : ℕ) → not (n == 0) ≡ false → 0 < n → ⊥
no_request n e some = grind (arith, nat_tests)

some_request : (n : ℕ) → not (n == 0) ≡ true → 0 < n
some_request n e = grind (arith, nat_tests)

pub returns-then-has_requests-clause-more : goal.returns-then-has_requests-clause-more
returns-then-has_requests-clause-more g c = (
  λ same. inr (some_request (length (first_book c.args.self.now.trial.cluster).requests) (sym c.has_requests.ensures ∙ c.if-has_requests.true)),
  λ more. refl,
)

pub returns-clause-more : goal.returns-clause-more
returns-clause-more g c =
    let k = c.args.self.now.trial.cluster in
    let slot = c.slot_out-slot.result in
    there_when c.proposal_for.result c.is_some.result c.is_some.ensures c.proposal_for.ensures.some c.proposal_for.ensures.none
    (λ j there. inl (subst (λ s. IsProposedAt k s) c.slot_out-slot.ensures
    (proposes_at k j slot (subst (λ ls. Proposes ls j slot) c.letters-2.ensures there))))
    (λ none more. ⊎_elim
    (λ (there : IsProposedAt k (first_book k).slot_out). let p = place_of k.letters there.letter there.sent in
    none p.0 (subst (λ s. Proposes c.letters-2.result.now p.0 s) (sym c.slot_out-slot.ensures)
    (subst (λ ls. Proposes ls p.0 (first_book k).slot_out) (sym c.letters-2.ensures)
    (record { letter = there.letter; command = there.command; at = p.2; to = there.to; body = there.body }))))
    (λ (some : 0 < length (first_book k).requests). no_request (length (first_book k).requests)
    (sym c.has_requests.ensures ∙ c.if-has_requests.false) some)
    more)
