-- How sessions and commands are counted beside a hall.
use Rattle.std.specs.Prelude.{◌≡◌, ℕ, ◌+◌, Bool, List, [], length, sum, Result, IfOk, OnOk, OnErr}
use Rattle.std.specs.Global.{Vec}
use Rattle.std.specs.declared.sync.ledger.Blank.{Blank}
use Rattle.std.specs.declared.sync.ledger.Ledger.{Ghosts as Ledger}
use Rattle.std.specs.declared.sync.ledger.Share.{Share}
use Rattle.object.specs.declared.command.Act.{Act}
use Rattle.hall.specs.Tickets.{TicketState, new_ticket, with_act}

-- No session was opened yet, and these are the blanks of the two ledgers.
pub record CountsNone {S C : Type 0} (of_sessions : Ledger S) (of_commands : Ledger C) (book : List ℕ) (sessions commands : Blank) : Type 0 where
  pub none : book ≡ []
  pub sessions_name : sessions.name ≡ of_sessions.name
  pub sessions_parts : sessions.parts ≡ of_sessions.parts
  pub commands_name : commands.name ≡ of_commands.name
  pub commands_parts : commands.parts ≡ of_commands.parts

-- These shares have all parts of the two ledgers.
pub record HaveAllParts {S C : Type 0} (of_sessions : Ledger S) (of_commands : Ledger C) (sessions : Share S) (commands : Share C) : Type 0 where
  pub session_parts : sessions.parts ≡ of_sessions.parts
  pub command_parts : commands.parts ≡ of_commands.parts

-- And nothing was counted in them.
pub record CountNothing {S C : Type 0} (sessions : Share S) (commands : Share C) : Type 0 where
  pub no_session : sessions.amount ≡ 0
  pub no_command : commands.amount ≡ 0

-- The shares that have all parts, before this and after it, tell how many sessions were opened and how many commands these
-- handed in; there is a mark for each session.
pub record CountsAll {S C : Type 0} (book : List ℕ) (marks : Vec Bool) (sessions all_sessions : Share S) (commands all_commands : Share C) : Type 0 where
  pub opened : length book ≡ all_sessions.amount
  pub handed_in : sum book ≡ all_commands.amount
  pub marked : length marks.items ≡ length book
  pub same_sessions : all_sessions.amount ≡ sessions.amount
  pub same_commands : all_commands.amount ≡ commands.amount

-- A share counts one more where this succeeded, and else what it did; it has its parts still.
pub record CountsOne {L X E : Type 0} (old new : Share L) (result : Result X E) : Type 0 where
  pub counted : OnOk result (new.amount ≡ old.amount + 1)
  pub err : OnErr result (new.amount ≡ old.amount)
  pub parts : new.parts ≡ old.parts

-- A session was opened, and counted.
pub record OpensOne {Op Reply L E : Type 0} (old new : Share L) (result : Result (TicketState Op Reply) E) : Type 0 where
  pub ticket : IfOk result (λ t. (session : ℕ) × (t ≡ new_ticket session))
  pub counts : CountsOne old new result

-- A command was handed in, which its ticket takes down, and counted. Else the ticket is what it was.
pub record HandsInOne {Op Reply L X E : Type 0} (act : Act Op)
    (ticket ticket_after : TicketState Op Reply) (old new : Share L) (result : Result X E) : Type 0 where
  pub act_more : OnOk result (ticket_after ≡ with_act ticket act)
  pub kept : OnErr result (ticket_after ≡ ticket)
  pub counts : CountsOne old new result
