-- What a conversation does at a desk.
use Rattle.std.specs.Prelude.{◌≡◌, ◌⊎◌, ℕ, Bool, true, false, List, ◌++◌, Option, None, Some, Result, Ok, Err, OnOk, IfOk, OnErr, IfErr}
use Rattle.std.specs.declared.alloc.AllocError.{AllocError}
use Rattle.object.specs.declared.command.Act.{Act}
use Rattle.object.specs.declared.command.Act.TheVariants.{Do, Close}
use Rattle.bean_words.specs.declared.op.Op.{Op}
use Rattle.bean_words.specs.declared.reply.Reply.{Reply}
use Rattle.bean_codec.specs.Replies.{reply_text}
use Rattle.session.specs.declared.faults.End.{End}
use Rattle.session.specs.Items.{refused_text}
use Rattle.hall.specs.declared.error.HallError.{HallError}
use Rattle.hall.specs.declared.error.HallError.TheVariants.{OutOfMemory}
use Rattle.conversation.specs.declared.stage.Stage.{Stage}
use Rattle.conversation.specs.declared.stage.Stage.TheVariants.{Looking, Found, Asked, Leaving, Left}
use Rattle.conversation.specs.Keeping.{Keeping}
use Rattle.conversation.specs.Talks.{ConversationState, is_awaiting}

-- a desk by what is submitted there: it before, the ticket, its session's next act, the result, and it after
abbrev pub Submits : Type 0 → Type 0 → Type 1
Submits D T = D → T → Act Op → Result Unit HallError → D → Type 0

-- there is something to hand in
abbrev pub hands_in : Stage → Bool
hands_in (Found op) = true
hands_in (Leaving how) = true
hands_in _ = false

-- the operation is handed in
abbrev pub asking : {T : Type 0} → Keeping T → Op → ConversationState T → ConversationState T
asking keeping op talk = record talk { ticket = keeping.with_act talk.ticket (Do op); stage = Asked }

-- the open ask is answered with this text
abbrev pub answering : {T : Type 0} → List ℕ → ConversationState T → ConversationState T
answering text talk = record talk { session = record talk.session { unsent = talk.session.unsent ++ text; is_open = false }; stage = Looking }

-- the session's end is handed in
abbrev pub closing : {T : Type 0} → Keeping T → Option End → ConversationState T → ConversationState T
closing keeping how talk = record talk { ticket = keeping.with_act talk.ticket Close; stage = Left how }

-- the client is given up
abbrev pub giving_up : {T : Type 0} → ConversationState T → ConversationState T
giving_up talk = record talk { stage = Leaving None }

-- it was submitted, and is asked; or memory was refused to it, and it is answered so
abbrev pub AsksOp : {D T : Type 0} → Keeping T → Submits D T → D → D → Op → ConversationState T → ConversationState T → Type 0
AsksOp keeping submits before after op old new =
    (submits before old.ticket (Do op) (Ok tt) after × (new ≡ asking keeping op old))
    ⊎ (submits before old.ticket (Do op) (Err OutOfMemory) after × (new ≡ answering refused_text old))

-- What was handed in at a desk that was so before and after, each act by one submission.
pub record HandsIn {D T : Type 0} (keeping : Keeping T) (submits : Submits D T) (before after : D) (old new : ConversationState T)
    (result : Result Unit HallError) : Type 0 where
  -- the operation that was found
  pub asks : (op : Op) → old.stage ≡ Found op → OnOk result (AsksOp keeping submits before after op old new)
  -- at another refusal the client is given up
  pub gives_up : (op : Op) → old.stage ≡ Found op → IfErr result (λ error. submits before old.ticket (Do op) (Err error) after × (new ≡ giving_up old))
  -- the session's end
  pub closes : (how : Option End) → old.stage ≡ Leaving how → OnOk result (submits before old.ticket Close (Ok tt) after × (new ≡ closing keeping how old))
  -- where that is refused, it is owed still
  pub owes : (how : Option End) → old.stage ≡ Leaving how → IfErr result (λ error. submits before old.ticket Close (Err error) after × (new ≡ old))
  -- and else nothing
  pub idle : hands_in old.stage ≡ false → (result ≡ Ok tt) × (after ≡ before) × (new ≡ old)

-- a reply was noted in the ticket, or none
abbrev pub noting : {T : Type 0} → Keeping T → Option Reply → ConversationState T → ConversationState T
noting keeping reply talk = record talk { ticket = keeping.with_noted talk.ticket reply }

-- the reply is told, where there is one
abbrev pub Tells : {T : Type 0} → Bool → Option Reply → ConversationState T → ConversationState T → Type 0
Tells told None old new = (told ≡ false) × (new ≡ old)
Tells told (Some reply) old new = (told ≡ true) × (new ≡ answering (reply_text reply) old)

-- What was told, where this was there to be noted.
pub record Notes {T : Type 0} (keeping : Keeping T) (to_note : Option Reply) (old new : ConversationState T) (result : Result Bool AllocError) : Type 0 where
  -- that is noted, and what the ticket has then is told
  pub tells : is_awaiting old.stage ≡ true
      → IfOk result (λ told. Tells told (keeping.last_reply (keeping.with_noted old.ticket to_note)) (noting keeping to_note old) new)
  -- where memory was refused, no more is done than that it is noted
  pub err : OnErr result ((noted : Option Reply) × (new ≡ noting keeping noted old))
  -- where nothing was asked, nothing is done
  pub idle : is_awaiting old.stage ≡ false → (result ≡ Ok false) × (new ≡ old)
