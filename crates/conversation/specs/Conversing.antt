-- What a client was told for what it was fed, and what its session handed in, wherever its conversation stands.
use Rattle.std.specs.Prelude.{◌≡◌, ◌⊎◌, ℕ, List, [], ◌∷◌, ◌++◌, length, Option, None, Some, Ok}
use Rattle.std.specs.List.{filter_map}
use Rattle.bean_words.specs.declared.op.Op.{Op}
use Rattle.bean_words.specs.declared.reply.Reply.{Reply}
use Rattle.bean_codec.specs.declared.profile.Profile.{Profile}
use Rattle.bean_codec.specs.declared.request.Request.{Request}
use Rattle.bean_codec.specs.Grammar.{Item, Spells}
use Rattle.session.specs.declared.faults.End.{End}
use Rattle.session.specs.Items.{Response, Reads, ReadsFirst, operations, told_text}
use Rattle.session.specs.Items.Response.{Replied, Refused}
use Rattle.session.specs.Held.{Held, StandsBefore, ComesTo}
use Rattle.hall.specs.declared.ticket.NotedAct.{NotedAct}
use Rattle.conversation.specs.declared.stage.Stage.{Stage}
use Rattle.conversation.specs.declared.stage.Stage.TheVariants.{Looking, Reading, Found, Asked, Leaving, Left}
use Rattle.conversation.specs.Keeping.{Keeping, noted_op, noted_close}
use Rattle.conversation.specs.Talks.{ConversationState}

-- what a ticket has of these operations with these answers: each that was replied to, with its reply, and none that was refused
abbrev pub acts_of : List Op → List Response → List (NotedAct Op Reply)
acts_of [] answers = []
acts_of (op ∷ ops) [] = []
acts_of (op ∷ ops) (Replied reply ∷ answers) = noted_op op (Some reply) ∷ acts_of ops answers
acts_of (op ∷ ops) (Refused ∷ answers) = acts_of ops answers

-- Each operation among the items has its answer; the ticket has these acts of them; and this is told.
pub record HasAnswered (items : List Item) (answers : List Response) (acts : List (NotedAct Op Reply)) (told : List ℕ) : Type 0 where
  pub each : length answers ≡ length (operations items)
  pub noted : acts ≡ acts_of (operations items) answers
  pub text : told ≡ told_text items answers

-- In this profile all items of what was fed are answered, up to this end.
pub record ToldWhole (profile : Profile) (fed : List ℕ) (acts : List (NotedAct Op Reply)) (told : List ℕ) (end : End) : Type 0 where
  pub items : List Item
  pub answers : List Response
  pub reads : Reads profile fed items end
  pub answered : HasAnswered items answers acts told

-- In this profile some first items of what was fed are answered, and what is left of it is so.
pub record Along (profile : Profile) (fed : List ℕ) (acts : List (NotedAct Op Reply)) (told : List ℕ) (IsLeft : List ℕ → Type 0) : Type 0 where
  pub items : List Item
  pub answers : List Response
  pub rest : List ℕ
  pub reads : ReadsFirst profile fed items rest
  pub answered : HasAnswered items answers acts told
  pub left : IsLeft rest

-- In this profile all but the last act are of some first items, which are answered; that one is the next operation, and its answer isn't told.
pub record Pending (profile : Profile) (fed : List ℕ) (acts : List (NotedAct Op Reply)) (told : List ℕ) (IsLeft : Op → List ℕ → Type 0) : Type 0 where
  pub before : List (NotedAct Op Reply)
  pub op : Op
  pub reply : Option Reply
  pub handed_in : acts ≡ before ++ noted_op op reply ∷ []
  pub along : Along profile fed before told (IsLeft op)

-- in this profile the text begins with this operation
abbrev pub BeginsWithOp : Profile → Op → List ℕ → Type 0
BeginsWithOp profile op text = (front rest : List ℕ) × (text ≡ front ++ rest) × Spells profile front (Ok (Request.Do op))

-- the client left so: at this end; or it went away (None), and at most one operation was handed in beyond what is told
abbrev pub EndsSo : Profile → Option End → List ℕ → List (NotedAct Op Reply) → List ℕ → Type 0
EndsSo profile (Some end) fed acts told = ToldWhole profile fed acts told end
EndsSo profile None fed acts told = Along profile fed acts told (λ rest. Unit {0}) ⊎ Pending profile fed acts told (BeginsWithOp profile)

-- by where it stands, in the profile of its session: what that holds, what was fed, the acts of its ticket, and what was told or is yet to be
abbrev pub Stands : Stage → Held → List ℕ → List (NotedAct Op Reply) → List ℕ → Type 0
Stands Looking session fed acts told = Along session.profile fed acts told (StandsBefore session)
Stands Reading session fed acts told = Along session.profile fed acts told (ComesTo session.profile None session)
Stands (Found op) session fed acts told = Along session.profile fed acts told (ComesTo session.profile (Some (Request.Do op)) session)
Stands Asked session fed acts told = Pending session.profile fed acts told (λ op. ComesTo session.profile (Some (Request.Do op)) session)
Stands (Leaving how) session fed acts told = EndsSo session.profile how fed acts told
Stands (Left how) session fed acts told =
    (before : List (NotedAct Op Reply)) × EndsSo session.profile how fed before told × (acts ≡ before ++ noted_close ∷ [])

-- these acts were handed in, this was fed and that was handed out so far: with what is yet to be handed out, it is what is told where
-- the conversation stands
abbrev pub ConversesFor : {T : Type 0} → List (NotedAct Op Reply) → List ℕ → List ℕ → ConversationState T → Type 0
ConversesFor acts fed given talk = Stands talk.stage talk.session fed acts (given ++ talk.session.unsent)

-- and so for acts of which its ticket is
unfoldable pub Converses : {T : Type 0} → Keeping T → List ℕ → List ℕ → ConversationState T → Type 0
Converses keeping fed given talk = (acts : List (NotedAct Op Reply)) × keeping.IsOf talk.ticket acts × ConversesFor acts fed given talk

-- whatever was fed and handed out, where it conversed it converses still
abbrev pub CarriesOn : {T : Type 0} → Keeping T → ConversationState T → ConversationState T → Type 0
CarriesOn keeping old new = (fed given : List ℕ) → Converses keeping fed given old → Converses keeping fed given new

-- the replies among the answers
abbrev pub replies_among : List Response → List Reply
replies_among [] = []
replies_among (Replied reply ∷ answers) = reply ∷ replies_among answers
replies_among (Refused ∷ answers) = replies_among answers

-- the replies that are noted for these acts
abbrev pub noted_replies : List (NotedAct Op Reply) → List Reply
noted_replies acts = filter_map (λ noted. noted.reply) acts
