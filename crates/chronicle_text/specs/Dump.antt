-- The text of a dump: its version and the members, then what happened, a line each, and then the commands that counted. Version
-- 2 has the weights of the members; it is written where some weight is not 1, and version 1 elsewhere.
use Rattle.std.specs.Prelude.{ℕ, suc, List, [], ◌∷◌, ◌++◌, map, length, codes, decimal, if◌then◌else◌}
use Rattle.std.specs.List.{flat_map}
use Rattle.object.specs.declared.command.Answer.{Answer}
use Rattle.object.specs.declared.command.Command.{Command}
use Rattle.object.specs.declared.command.Key.{Key}
use Rattle.ballot.specs.Members.{is_unweighted}
use Rattle.bean_words.specs.declared.op.Op.{Op}
use Rattle.bean_words.specs.declared.reply.Reply.{Reply}
use Rattle.chronicle_text.specs.declared.version.Version.{Version}
use Rattle.chronicle_text.specs.declared.version.Version.TheVariants.{One, Two}
use Rattle.chronicle_text.specs.Acts.{act_words}
use Rattle.recorder.specs.Chronicles.{Chronicle}
use Rattle.chronicle_text.specs.Happenings.{Happening, happenings}
use Rattle.chronicle_text.specs.Happenings.Happening.{Submitted, Answered}
use Rattle.chronicle_text.specs.Lines.{line, text_of_lines}
use Rattle.chronicle_text.specs.Replies.{reply_words}

-- S, the key of a command that was submitted, and its act
unfoldable pub submission_line : Command Op → List ℕ
submission_line c = line (codes "S") (decimal c.key.session ∷ decimal c.key.number ∷ act_words c.act)

-- A, the key that is answered, and the reply
unfoldable pub answer_line : Answer Reply → List ℕ
answer_line a = line (codes "A") (decimal a.to.session ∷ decimal a.to.number ∷ reply_words a.reply)

-- O, and the key of a command that counted
unfoldable pub order_line : Key → List ℕ
order_line key = line (codes "O") (decimal key.session ∷ decimal key.number ∷ [])

-- the line for what happened
abbrev pub happening_line : Happening Op Reply → List ℕ
happening_line (Submitted c) = submission_line c
happening_line (Answered a) = answer_line a

-- the word for a version
abbrev pub version_word : Version → List ℕ
version_word One = codes "1"
version_word Two = codes "2"

-- the first line, with the version
unfoldable pub version_line : Version → List ℕ
version_line version = line (codes "beanpax-dump") (version_word version ∷ [])

-- how many members there are
unfoldable pub members_line : ℕ → List ℕ
members_line count = line (codes "members") (decimal count ∷ [])

-- what each of them weighs
unfoldable pub weights_line : List ℕ → List ℕ
weights_line weights = line (codes "weights") (map decimal weights)

-- the version for members of these weights: 1 where each of them weighs 1
abbrev pub version_of : List ℕ → Version
version_of weights = if is_unweighted weights then One else Two

-- the lines before what happened, in a version
abbrev pub head_of : Version → List ℕ → List (List ℕ)
head_of One weights = version_line One ∷ members_line (length weights) ∷ []
head_of Two weights = version_line Two ∷ members_line (length weights) ∷ weights_line weights ∷ []

-- the lines before what happened
abbrev pub head_lines : List ℕ → List (List ℕ)
head_lines weights = head_of (version_of weights) weights

-- the number of the line after them
abbrev pub first_line : {Op Reply : Type 0} → Chronicle Op Reply → ℕ
first_line c = suc (length (head_lines c.members))

-- the last line
unfoldable pub end_line : List ℕ
end_line = line (codes "end") []

-- the text of a chronicle
unfoldable pub dump_text : Chronicle Op Reply → List ℕ
dump_text c =
    text_of_lines (head_lines c.members) ++
    flat_map happening_line (happenings c.submitted c.answers) ++
    flat_map order_line c.order ++
    end_line
