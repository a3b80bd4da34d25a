-- The slots for which node 1 was sent a proposal.
use Rattle.std.specs.Prelude.{◌≡◌, ℕ}
use Rattle.object.specs.Lists.{In}
use Rattle.ballot.specs.declared.letter.Letter.{Letter}
use Rattle.ballot.specs.declared.letter.LetterBody.TheVariants.{Propose}
use Rattle.agreement.specs.Nodes.{Cluster}

-- a letter proposed some command for the slot to node 1
pub record IsProposedAt {C : Type 0} (k : Cluster C) (s : ℕ) : Type 0 where
  pub letter : Letter C
  pub command : C
  pub sent : In letter k.letters
  pub to : letter.to ≡ 1
  pub body : letter.body ≡ Propose s command
