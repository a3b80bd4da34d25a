-- A conversation as its callers see it, and where it goes from there.
use Rattle.std.specs.Prelude.{◌≡◌, ◌≤◌, ◌+◌, ℕ, Bool, true, false, ◌&&◌, nat_le, length, drop, Option, None, Some, Result, Ok, OnOk, OnErr}
use Rattle.std.specs.declared.alloc.AllocError.{AllocError}
use Rattle.bean_codec.specs.declared.profile.Profile.{Profile}
use Rattle.bean_codec.specs.declared.request.Request.{Request}
use Rattle.bean_codec.specs.declared.request.Request.TheVariants.{Do, Quit}
use Rattle.bean_codec.specs.Reads.{longest_unfinished}
use Rattle.session.specs.declared.faults.End.{End}
use Rattle.session.specs.Held.{Held, nothing_held, fed_buffer_len}
use Rattle.session.specs.Serving.{longest_piece}
use Rattle.conversation.specs.declared.stage.Stage.{Stage}
use Rattle.conversation.specs.declared.stage.Stage.TheVariants.{Looking, Reading, Found, Asked, Leaving, Left}

-- what its session holds, the ticket of what it handed in, where it stands, and whether its input has ended
pub record ConversationState (T : Type 0) : Type 0 where
  pub session : Held
  pub ticket : T
  pub stage : Stage
  pub has_ended : Bool

-- at first nothing was fed
abbrev pub first_talk : {T : Type 0} → Profile → T → ConversationState T
first_talk profile ticket = record { session = nothing_held profile; ticket = ticket; stage = Looking; has_ended = false }

-- while more text than this waits to be written, no request is looked for and no piece is wanted
abbrev pub longest_unsent : ℕ
longest_unsent = 65536

-- so little waits to be written that it goes on
abbrev pub has_room : {T : Type 0} → ConversationState T → Bool
has_room talk = nat_le (length talk.session.unsent) longest_unsent

-- no request is open, and the next one is to be looked for
abbrev pub is_looking : Stage → Bool
is_looking Looking = true
is_looking _ = false

-- the next request isn't whole yet
abbrev pub is_reading : Stage → Bool
is_reading Reading = true
is_reading _ = false

-- an answer is awaited
abbrev pub is_awaiting : Stage → Bool
is_awaiting Asked = true
is_awaiting _ = false

-- the next request is looked for
abbrev pub may_look : {T : Type 0} → ConversationState T → Bool
may_look talk = is_looking talk.stage && has_room talk

-- the next piece may be fed
abbrev pub wants_piece : {T : Type 0} → ConversationState T → Bool
wants_piece talk = is_reading talk.stage && has_room talk

-- where it stands once this request was found, or none, in an input that has ended or goes on
abbrev pub stage_after : Option Request → Bool → Stage
stage_after (Some (Do op)) has_ended = Found op
stage_after (Some Quit) has_ended = Leaving (Some End.Quit)
stage_after None true = Leaving (Some End.Eof)
stage_after None false = Reading

-- where it stands once its input has ended
abbrev pub stage_at_end : Stage → Stage
stage_at_end Reading = Leaving (Some End.Eof)
stage_at_end stage = stage

-- where it stands once its client has gone
abbrev pub stage_once_gone : Stage → Stage
stage_once_gone Looking = Leaving None
stage_once_gone Reading = Leaving None
stage_once_gone (Found op) = Leaving None
stage_once_gone Asked = Leaving None
stage_once_gone (Leaving how) = Leaving how
stage_once_gone (Left how) = Left how

-- with its input ended
abbrev pub ending : {T : Type 0} → ConversationState T → ConversationState T
ending talk = record talk { has_ended = true; stage = stage_at_end talk.stage }

-- with its client gone
abbrev pub leaving : {T : Type 0} → ConversationState T → ConversationState T
leaving talk = record talk { stage = stage_once_gone talk.stage }

-- so many bytes more are sent of what it is to tell
abbrev pub HasSent : {T : Type 0} → ℕ → ConversationState T → ConversationState T → Type 0
HasSent n old new =
    new ≡ record old { session = record old.session { unsent = drop n old.session.unsent; sent_len = new.session.sent_len } }

-- What came of looking for the next request: nothing else changes but what its session holds.
pub record Looks {T : Type 0} (old new : ConversationState T) (result : Result Unit AllocError) : Type 0 where
  -- it stands where the request that was found brings it, or none
  pub found : may_look old ≡ true → OnOk result ((found : Option Request) × (new.stage ≡ stage_after found old.has_ended))
  -- where none is looked for, nothing is done
  pub idle : may_look old ≡ false → (result ≡ Ok tt) × (new ≡ old)
  -- nor where memory is refused
  pub err : OnErr result (new ≡ old)
  pub profile : new.session.profile ≡ old.session.profile
  pub ticket : new.ticket ≡ old.ticket
  pub ended : new.has_ended ≡ old.has_ended

-- an ask is open from where an operation was found to its answer
abbrev pub IsOpenAt : Stage → Bool → Type 0
IsOpenAt Looking is_open = is_open ≡ false
IsOpenAt Reading is_open = is_open ≡ false
IsOpenAt (Found op) is_open = is_open ≡ true
IsOpenAt Asked is_open = is_open ≡ true
IsOpenAt (Leaving how) is_open = Unit {0}
IsOpenAt (Left how) is_open = Unit {0}

-- What holds of every conversation. Its session keeps a request that isn't finished and a piece at most; where it reads, such
-- a request alone, and its input goes on.
pub record IsConversation {T : Type 0} (talk : ConversationState T) : Type 0 where
  pub ask : IsOpenAt talk.stage talk.session.is_open
  pub kept : fed_buffer_len talk.session ≤ longest_unfinished + longest_piece
  pub unfinished : talk.stage ≡ Reading → length talk.session.kept ≤ longest_unfinished
  pub goes_on : talk.stage ≡ Reading → talk.has_ended ≡ false
