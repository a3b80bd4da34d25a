-- What a link moves, and what is known of a client over it.
use Rattle.std.specs.Prelude.{◌≡◌, ℕ, List, take, Option, None, Some, Result, MatchResult}
use Rattle.std.specs.Io.KnownBytes.{append_known}
use Rattle.conversation.specs.Keeping.{Keeping}
use Rattle.conversation.specs.Talks.{ConversationState}
use Rattle.conversation.specs.Conversing.{Converses}

-- so many bytes of this were moved, and none at an error; what isn't known stays unknown
abbrev pub Moves : {E : Type 0} → Option (List ℕ) → Option (List ℕ) → Result ℕ E → List ℕ → Type 0
Moves old new result bytes = MatchResult result (λ n. new ≡ append_known old (take n bytes)) (λ _. new ≡ old)

-- where it is known what was taken and given, the conversation stands there
abbrev pub ConversesOver : {T : Type 0} → Keeping T → Option (List ℕ) → Option (List ℕ) → ConversationState T → Type 0
ConversesOver keeping None given talk = Unit {0}
ConversesOver keeping (Some fed) None talk = Unit {0}
ConversesOver keeping (Some fed) (Some given) talk = Converses keeping fed given talk
