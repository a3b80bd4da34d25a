-- The words for replies: those of the reply's first line, but that a body stands in place of its size, and names in place of
-- the size of their list (protocol.txt of beanstalkd, the commands). A report begins with a word of its own, `DATA`, since
-- behind `OK` hex digits could be the name of a tube.
use Rattle.std.specs.Prelude.{ℕ, List, [], ◌∷◌, codes, decimal}
use Rattle.bean_words.specs.declared.reply.Reply.{Reply}
use Rattle.bean_words.specs.declared.reply.Reply.TheVariants.{Inserted, Using, Watching, NotIgnored, Reserved}
use Rattle.bean_words.specs.declared.reply.Reply.TheVariants.{DeadlineSoon, TimedOut, Deleted, NotFound, Released}
use Rattle.bean_words.specs.declared.reply.Reply.TheVariants.{Buried, Touched, KickedCount, Kicked, Found, Tubes}
use Rattle.bean_words.specs.declared.reply.Reply.TheVariants.{Paused, Data, InternalError}
use Rattle.chronicle_text.specs.Lines.{body_word}

-- the words for a reply
unfoldable pub reply_words : Reply → List (List ℕ)
reply_words (Inserted id) = codes "INSERTED" ∷ decimal id ∷ []
reply_words (Using tube) = codes "USING" ∷ tube ∷ []
reply_words (Watching count) = codes "WATCHING" ∷ decimal count ∷ []
reply_words NotIgnored = codes "NOT_IGNORED" ∷ []
reply_words (Reserved id body) = codes "RESERVED" ∷ decimal id ∷ body_word body ∷ []
reply_words DeadlineSoon = codes "DEADLINE_SOON" ∷ []
reply_words TimedOut = codes "TIMED_OUT" ∷ []
reply_words Deleted = codes "DELETED" ∷ []
reply_words NotFound = codes "NOT_FOUND" ∷ []
reply_words Released = codes "RELEASED" ∷ []
reply_words Buried = codes "BURIED" ∷ []
reply_words Touched = codes "TOUCHED" ∷ []
reply_words (KickedCount count) = codes "KICKED" ∷ decimal count ∷ []
reply_words Kicked = codes "KICKED" ∷ []
reply_words (Found id body) = codes "FOUND" ∷ decimal id ∷ body_word body ∷ []
reply_words (Tubes names) = codes "OK" ∷ names
reply_words (Data text) = codes "DATA" ∷ body_word text ∷ []
reply_words Paused = codes "PAUSED" ∷ []
reply_words InternalError = codes "INTERNAL_ERROR" ∷ []
