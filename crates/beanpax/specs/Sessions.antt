-- What one queue answers to one client.
use Rattle.std.specs.Prelude.{◌≡◌, ⊤, Bool, true, false, List, [], ◌∷◌, ◌++◌, Some}
use Rattle.bean_words.specs.declared.op.Op.{Op}
use Rattle.bean_words.specs.declared.reply.Reply.{Reply}
use Rattle.bean_queue.specs.Queue.{QueueState}
use Rattle.bean_queue.specs.Effects.{queue_rules}
use Rattle.object.specs.Objects.{Rules}
use Rattle.session.specs.Items.{Response}
use Rattle.session.specs.Items.Response.{Replied, Refused}
use Rattle.simulated_hall.specs.OneClient.{Talk, opened, answered}

-- a single queue compares no operations
abbrev pub queue : Rules QueueState Op Reply
queue = queue_rules (λ a b. false)

-- The operations were asked in turn and answered so, from here on: with what the queue replies, or refused, and then the
-- queue never knew of them.
abbrev pub AreAnswers : Talk QueueState → List Op → List Response → Type 0
AreAnswers t [] [] = ⊤
AreAnswers t [] (answer ∷ answers) = ⊥
AreAnswers t (op ∷ ops) [] = ⊥
AreAnswers t (op ∷ ops) (Replied reply ∷ answers) =
    ((answered queue t op).reply ≡ Some reply) × AreAnswers (answered queue t op).talk ops answers
AreAnswers t (op ∷ ops) (Refused ∷ answers) = AreAnswers t ops answers

-- a new queue answers so
abbrev pub AreQueueAnswers : List Op → List Response → Type 0
AreQueueAnswers ops answers = AreAnswers (opened queue) ops answers

-- a new queue answers so to some first operations
abbrev pub AreFirstQueueAnswers : List Op → List Response → Type 0
AreFirstQueueAnswers ops answers = (firsts rest : List Op) × (ops ≡ firsts ++ rest) × AreQueueAnswers firsts answers

-- the operation was refused
abbrev pub is_refused : Response → Bool
is_refused (Replied reply) = false
is_refused Refused = true
