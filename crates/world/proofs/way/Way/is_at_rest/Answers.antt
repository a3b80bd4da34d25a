use Rattle.std.proofs.Common.{◌≡◌, ℕ, true, nat_eq, sym, ◌∙◌, arith}
use Rattle.std.proofs.lemmas.Bool.Decides.{nat_tests}
use Rattle.world.proofs.rounds.RoundMembers.{first_member}
use Rattle.world.proofs.rounds.Turning.{at_rest_when, waits_for_nothing}
use Rattle.world.proofs.way.Way.is_at_rest.Goals as goal

is_none : (n : ℕ) → nat_eq n 0 ≡ true → n ≡ 0
is_none n e = grind (arith, nat_tests)

none_is : (n : ℕ) → n ≡ 0 → nat_eq n 0 ≡ true
none_is n e = grind (arith, nat_tests)

pub returns-then-is_active : goal.returns-then-is_active
returns-then-is_active g c =
    let first = first_member c.args.self.now.trial.cluster.members c.show_reachable.ensures.members in (
      λ none. at_rest_when c.ballot_laws.ensures g.O.Object.rules c.args.self.now.trial c.show_reachable.ensures.world
          first (sym c.is_active.ensures ∙ c.if-is_active.true)
          (sym c.awaited_count.ensures ∙ is_none c.awaited_count.result none),
      λ at_rest. none_is c.awaited_count.result
          (c.awaited_count.ensures ∙ waits_for_nothing c.ballot_laws.ensures g.O.Object.rules c.args.self.now.trial
          c.show_reachable.ensures.world first at_rest),
    )
