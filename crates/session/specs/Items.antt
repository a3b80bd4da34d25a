-- The items of a text, up to the first quit, and what is told for them (protocol.txt of beanstalkd, "Protocol").
use Rattle.std.specs.Prelude.{◌≡◌, ℕ, Bool, true, false, MatchBool, List, [], ◌∷◌, ◌++◌, Ok, Err, codes}
use Rattle.bean_words.specs.declared.op.Op.{Op}
use Rattle.bean_words.specs.declared.reply.Reply.{Reply}
use Rattle.bean_codec.specs.declared.profile.Profile.{Profile}
use Rattle.bean_codec.specs.declared.request.Request.TheVariants.{Do, Quit}
use Rattle.bean_codec.specs.Lines.{line_text}
use Rattle.bean_codec.specs.Grammar.{Item, Spells}
use Rattle.bean_codec.specs.Reads.{BeginsWithNone}
use Rattle.bean_codec.specs.Replies.{reply_text, fault_text}
use Rattle.session.specs.declared.faults.End.{End}

-- the item ends the session
abbrev pub is_quit : Item → Bool
is_quit (Ok (Do op)) = false
is_quit (Ok Quit) = true
is_quit (Err fault) = false

-- in this profile the text is the texts of these items, one after the other, up to the first quit, or else up to a rest that begins
-- with none
abbrev pub Reads : Profile → List ℕ → List Item → End → Type 0
Reads profile text [] end = BeginsWithNone profile text × (end ≡ End.Eof)
Reads profile text (item ∷ items) end =
    (front rest : List ℕ) ×
    (text ≡ front ++ rest) ×
    Spells profile front item ×
    MatchBool (is_quit item) ((items ≡ []) × (end ≡ End.Quit)) (Reads profile rest items end)

-- the text begins with the texts of these items, none of them a quit, and goes on with the rest
abbrev pub ReadsFirst : Profile → List ℕ → List Item → List ℕ → Type 0
ReadsFirst profile text [] rest = text ≡ rest
ReadsFirst profile text (item ∷ items) rest =
    (front more : List ℕ) ×
    (text ≡ front ++ more) ×
    Spells profile front item ×
    (is_quit item ≡ false) ×
    ReadsFirst profile more items rest

-- the operations among the items
abbrev pub operations : List Item → List Op
operations [] = []
operations (Ok (Do op) ∷ items) = op ∷ operations items
operations (Ok Quit ∷ items) = operations items
operations (Err fault ∷ items) = operations items

-- what a service answers to an operation: a reply, or that it was refused for want of memory
pub data Response : Type 0 where
  Replied : Reply → Response
  Refused : Response

-- the line that answers a refused operation (protocol.txt of beanstalkd, "Protocol")
unfoldable pub refused_text : List ℕ
refused_text = line_text (codes "OUT_OF_MEMORY")

-- the text of an answer
abbrev pub answer_text : Response → List ℕ
answer_text (Replied reply) = reply_text reply
answer_text Refused = refused_text

-- item by item: the next answer to an operation, the line of a fault, and nothing for quit
abbrev pub told_text : List Item → List Response → List ℕ
told_text [] answers = []
told_text (Ok (Do op) ∷ items) [] = []
told_text (Ok (Do op) ∷ items) (answer ∷ answers) = answer_text answer ++ told_text items answers
told_text (Ok Quit ∷ items) answers = told_text items answers
told_text (Err fault ∷ items) answers = fault_text fault ++ told_text items answers

-- in this profile the output is what the client is told for this input with these answers, and the session ends so
abbrev pub IsTranscript : Profile → List ℕ → List Response → List ℕ → End → Type 0
IsTranscript profile input answers output end = (items : List Item) × Reads profile input items end × (output ≡ told_text items answers)
