-- What a server's hall goes through.
use Rattle.std.specs.Prelude.{◌≡◌, ℕ}
use Rattle.agreement.specs.Worlds.{World}
use Rattle.bean_words.specs.declared.op.Op.{Op}
use Rattle.bean_words.specs.declared.reply.Reply.{Reply}
use Rattle.hall.specs.Halls.{HallState}

-- what is seen of a hall: a world that it shows, if it forgets, and its state, if it keeps all
pub record Sight : Type 0 where
  pub world : World Op Reply
  pub hall : HallState Op Reply

-- that something is seen
abbrev pub Sights : Type 1
Sights = Sight → Type 0

-- that what is seen leads to what is seen later
abbrev pub Course : Type 1
Course = Sight → Sight → Type 0

-- each of these leads to one of those
abbrev pub AllLead : Course → Sights → Sights → Type 0
AllLead leads from to = (s : Sight) → from s → (t : Sight) × leads s t × to t
