-- A ticket of a session that is used again keeps its acts as a lean one does.
use Rattle.std.specs.Prelude.{refl}
use Rattle.conversation.specs.Keeping.{KeepsActs}
use Rattle.conversation.specs.TicketLaws.{keeps_last}
use Rattle.loops.specs.Lending.{keeping_lent}

pub keeps_lent : KeepsActs keeping_lent
keeps_lent = record {
  adds = λ t acts act is. keeps_last.adds t.ticket acts act is;
  notes = λ t before op last reply is. keeps_last.notes t.ticket before op last reply is;
  leaves = λ t. refl;
  tells = λ t before op last is. keeps_last.tells t.ticket before op last is;
  stays_with_act = λ t act. refl;
  stays_with_noted = λ t reply. keeps_last.stays_with_noted t.ticket reply;
}
