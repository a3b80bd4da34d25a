use Rattle.std.proofs.Common.{ap, ◌∙◌}
use Rattle.ballot.specs.Members.{is_majority}
use Rattle.agreement.specs.Voters.{voters_of}
use Rattle.world.proofs.standing.Voters.{same_majority}
use Rattle.world.proofs.world.World.is_voted.Goals as goal

pub returns : goal.returns
returns g c =
    c.is_majority.ensures
    ∙ ap (λ k. is_majority k.cluster.members c.voters-voters.result) c.self.view_is
    ∙ same_majority c.args.self.now.cluster.members c.voters-voters.result (voters_of c.args.self.now.cluster c.args.ballot c.args.slot) c.voters-voters.ensures
