use Rattle.std.proofs.Common.{◌≡◌, ◌<◌, cond, Result, Ok, List, [], ◌∷◌, ◌++◌, length, ap, sym, ◌∙◌, arith}
use Rattle.std.proofs.lemmas.Grind.{common_steps}
use Rattle.std.specs.Result.{is_ok}
use Rattle.slot_log.specs.Proposals.{next_proposal}
use Rattle.ballot.specs.Letters.{letter}
use Rattle.ballot.specs.declared.letter.Letter.{Letter}
use Rattle.ballot.specs.declared.letter.LetterBody.TheVariants.{Propose}
use Rattle.replica.specs.Replicas.{Replicating}
use Rattle.replica.proofs.Proposing.{proposal_sent}
use Rattle.replica.proofs.replica.Replica.append_proposal.Goals as goal

-- what a push within the room leaves
pushed : {X T E : Type 0} (now old : List X) (x : X) (r : Result T E) (t : T) → now ≡ cond (is_ok r) (old ++ x ∷ []) old → r ≡ Ok t → now ≡ old ++ x ∷ []
pushed now old x r t is ok = is ∙ ap (λ r. cond (is_ok r) (old ++ x ∷ []) old) ok

pub returns-clause-out : goal.returns-clause-out
returns-clause-out g c =
    let shown = ap (λ (r : Replicating _ _). next_proposal r.slots) c.self.view_is in
    let itself = letter c.args.node (Propose c.unwrap-slot.result.0 c.unwrap-slot.result.1) c.count.result in
    let some : 0 < length c.args.members = let s = c.count.ensures.some in let n = c.count.ensures.count in omega arith in (
      proposal_sent c.args.out.now.items c.send_copies.new.out.items c.push.new.self.items c.args.members c.args.node c.count.result
          (c.in-Some.next.0, c.in-Some.next.1.now) c.unwrap-slot.result (next_proposal c.args.self.now.slots)
          (c.in-Some.ensures.proposal ∙ shown)
          (sym c.unwrap-slot.ensures ∙ c.in_ok-propose_next.ensures.proposal ∙ shown)
          some c.count.ensures.count
          c.in_ok-send_copies.ensures.ok.0
          (pushed c.push.new.self.items c.reserve.new.self.items itself c.push.result c.unwrap.result c.push.ensures.items c.unwrap.ensures
          ∙ ap (λ (ls : List (Letter _)). ls ++ itself ∷ []) c.in_ok-reserve.ensures.items),
      grind (arith, common_steps),
    )
