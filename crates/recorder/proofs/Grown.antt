-- A chronicle with one thing more is a chronicle.
use Rattle.std.proofs.Common.{ℕ, List, [], ◌∷◌, length, refl, arith, length-append}
use Rattle.ballot.specs.Members.{IsMembers}
use Rattle.object.specs.declared.command.Answer.{Answer}
use Rattle.object.specs.declared.command.Command.{Command}
use Rattle.object.specs.declared.command.Key.{Key}
use Rattle.object.specs.declared.command.Submission.{Submission}
use Rattle.recorder.proofs.Times.{order_more, within_more}
use Rattle.recorder.specs.Chronicles.{Chronicle, IsChronicle}
use Rattle.recorder.specs.Growing.{begun, submitted_last, answered_last, placed_last}

pub begun_is : {Op Reply : Type 0} (ws : List ℕ) → IsMembers ws → IsChronicle {Op = Op} {Reply = Reply} (begun ws)
begun_is ws is = record { members = is; timeline = record { ordered = tt; within = λ s i. absurd i } }

pub submitted_is : {Op Reply : Type 0} (command : Command Op) (c : Chronicle Op Reply) → IsChronicle c → IsChronicle (submitted_last command c)
submitted_is command c is =
    let s : Submission _ = record { command = command; after = length c.answers } in
    record {
      members = is.members;
      timeline = record {
        ordered = order_more c.submitted s is.timeline.ordered is.timeline.within;
        within = within_more c.submitted s (length c.answers) is.timeline.within refl;
      };
    }

pub answered_is : {Op Reply : Type 0} (a : Answer Reply) (c : Chronicle Op Reply) → IsChronicle c → IsChronicle (answered_last a c)
answered_is a c is = record {
  members = is.members;
  timeline = record { ordered = is.timeline.ordered; within = λ t i. let h = is.timeline.within t i in omega (arith, length-append c.answers (a ∷ [])) };
}

pub placed_is : {Op Reply : Type 0} (key : Key) (c : Chronicle Op Reply) → IsChronicle c → IsChronicle (placed_last key c)
placed_is key c is = record { members = is.members; timeline = is.timeline }
