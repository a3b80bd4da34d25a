-- The texts of replies and faults (protocol.txt of beanstalkd, "Protocol" and the commands).
use Rattle.std.specs.Prelude.{ℕ, List, ◌++◌, length, codes, decimal}
use Rattle.std.specs.List.{flat_map}
use Rattle.bean_words.specs.declared.reply.Reply.{Reply}
use Rattle.bean_words.specs.declared.reply.Reply.TheVariants.{Inserted, Using, Watching, NotIgnored, Reserved}
use Rattle.bean_words.specs.declared.reply.Reply.TheVariants.{DeadlineSoon, TimedOut, Deleted, NotFound, Released}
use Rattle.bean_words.specs.declared.reply.Reply.TheVariants.{Buried, Touched, KickedCount, Kicked, Found, Tubes}
use Rattle.bean_words.specs.declared.reply.Reply.TheVariants.{Paused, Data, InternalError}
use Rattle.bean_codec.specs.declared.request.Fault.{Fault}
use Rattle.bean_codec.specs.declared.request.Fault.TheVariants.{BadFormat, UnknownCommand, ExpectedCrlf, JobTooBig}
use Rattle.bean_codec.specs.Lines.{line_text}

-- a word and a number
unfoldable pub count_text : List ℕ → ℕ → List ℕ
count_text word n = line_text (word ++ codes " " ++ decimal n)

-- a job: a line with its id and the size of its body, and the body
unfoldable pub job_text : List ℕ → ℕ → List ℕ → List ℕ
job_text word id body = line_text (word ++ codes " " ++ decimal id ++ codes " " ++ decimal (length body)) ++ line_text body

-- data of a report or a list: a line with how many bytes they are, and the bytes
unfoldable pub data_text : List ℕ → List ℕ
data_text bytes = count_text (codes "OK") (length bytes) ++ line_text bytes

-- one tube of a list
unfoldable pub tube_text : List ℕ → List ℕ
tube_text name = codes "- " ++ name ++ codes "\n"

-- a list of tubes, as YAML
unfoldable pub tubes_data : List (List ℕ) → List ℕ
tubes_data names = codes "---\n" ++ flat_map tube_text names

-- the text of a reply
unfoldable pub reply_text : Reply → List ℕ
reply_text (Inserted id) = count_text (codes "INSERTED") id
reply_text (Using tube) = line_text (codes "USING " ++ tube)
reply_text (Watching count) = count_text (codes "WATCHING") count
reply_text NotIgnored = line_text (codes "NOT_IGNORED")
reply_text (Reserved id body) = job_text (codes "RESERVED") id body
reply_text DeadlineSoon = line_text (codes "DEADLINE_SOON")
reply_text TimedOut = line_text (codes "TIMED_OUT")
reply_text Deleted = line_text (codes "DELETED")
reply_text NotFound = line_text (codes "NOT_FOUND")
reply_text Released = line_text (codes "RELEASED")
reply_text Buried = line_text (codes "BURIED")
reply_text Touched = line_text (codes "TOUCHED")
reply_text (KickedCount count) = count_text (codes "KICKED") count
reply_text Kicked = line_text (codes "KICKED")
reply_text (Found id body) = job_text (codes "FOUND") id body
reply_text (Tubes names) = data_text (tubes_data names)
reply_text (Data text) = data_text text
reply_text Paused = line_text (codes "PAUSED")
reply_text InternalError = line_text (codes "INTERNAL_ERROR")

-- the text that answers a fault
unfoldable pub fault_text : Fault → List ℕ
fault_text BadFormat = line_text (codes "BAD_FORMAT")
fault_text UnknownCommand = line_text (codes "UNKNOWN_COMMAND")
fault_text ExpectedCrlf = line_text (codes "EXPECTED_CRLF")
fault_text JobTooBig = line_text (codes "JOB_TOO_BIG")
