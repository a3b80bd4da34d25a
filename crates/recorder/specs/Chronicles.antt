-- What happened in a run of nodes.
use Rattle.std.specs.Prelude.{ℕ, List}
use Rattle.ballot.specs.Members.{IsMembers}
use Rattle.object.specs.declared.command.Answer.{Answer}
use Rattle.object.specs.declared.command.Key.{Key}
use Rattle.object.specs.declared.command.Submission.{Submission}
use Rattle.object.specs.Happenings.{IsTimeline}

-- the weights of the members, the first submission of each key, the answers that were given, and the keys of the commands
-- that counted, in the order in which they took effect
pub record Chronicle (Op Reply : Type 0) : Type 0 where
  pub members : List ℕ
  pub submitted : List (Submission Op)
  pub answers : List (Answer Reply)
  pub order : List Key

-- there are 1 to 7 members that weigh 1 to 1000 each, and the submissions and the answers are one list in time
pub record IsChronicle {Op Reply : Type 0} (c : Chronicle Op Reply) : Type 0 where
  pub members : IsMembers c.members
  pub timeline : IsTimeline (record { submitted = c.submitted; answers = c.answers })
