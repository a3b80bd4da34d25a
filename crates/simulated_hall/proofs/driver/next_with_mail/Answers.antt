use Rattle.std.proofs.Common.{◌≡◌, ◌≢◌, ◌<◌, ◌∙◌, ℕ, true, false, true≢false, nat_eq, List, sym, subst, arith}
use Rattle.std.proofs.lemmas.Bool.Decides.{nat_tests}
use Rattle.ballot.specs.Members.{is_member}
use Rattle.simulated_hall.proofs.driver.next_with_mail.Goals as goal

-- a member that isn't node 1 comes after it
after_first : (members : List ℕ) (n : ℕ) → is_member members n ≡ true → n ≢ 1 → 1 < n
after_first members n is other = grind (arith, nat_tests)

pub returns : goal.returns
returns g c =
    let first = c.in_ok-first.ensures in (
      c.heaviest_with_mail.ensures.member,
      c.heaviest_with_mail.ensures.mail,
      λ mail. absurd (true≢false (sym mail ∙ first.2 1
          (subst (λ ms. is_member ms 1 ≡ true) c.members.ensures c.home_is_member.ensures)
          (after_first c.args.hall.now.nodes.network.members c.in_ok-first.first first.0 c.if-first-eq-HOME.false))),
      λ other m is mail. c.heaviest_with_mail.ensures.heaviest m is mail,
    )
