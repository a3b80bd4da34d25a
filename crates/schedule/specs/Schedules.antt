-- What a schedule chooses among.
use Rattle.std.specs.Prelude.{◌≡◌, ◌⊎◌, ℕ, ◌<◌, ◌≤◌, ◌+◌, ◌-◌, ◌^◌, ◌%◌, nat_lt, if◌then◌else◌, Bool, true, false, List, length}
use Rattle.agreement.specs.declared.event.Event.{Event}
use Rattle.agreement.specs.declared.event.Event.TheVariants.{Submit, Deliver, Wake, Nudge, Propose, Perform, Restart}

-- the event hands a command in, which nodes and letters alone never do
abbrev pub submits : {Op : Type 0} → Event Op → Bool
submits (Submit n c) = true
submits (Deliver i) = false
submits (Wake n) = false
submits (Nudge n) = false
submits (Propose n) = false
submits (Perform n) = false
submits (Restart n) = false

-- From how many of the last letters the word chooses: mostly from 32, and for eight words in 256 from as many as a word counts.
abbrev pub recent_letters : ℕ → ℕ
recent_letters word = if nat_lt word 208 then 32 else 2 ^ 32 - 1

-- the member that the next word chooses: they are equally likely
abbrev pub chosen_member : List ℕ → ℕ → ℕ
chosen_member members next = next % length members + 1

-- Of 256 words so many draw each kind of event: 216 a delivery, where there is a letter, 14 that a node performs, 6 a nudge,
-- 4 a wake, 1 a restart; the others, and those of a delivery where there is no letter, that a node proposes. The next word
-- chooses the node, or the letter, counted back from the last one.
abbrev pub IsDrawnBy : {Op : Type 0} → List ℕ → ℕ → ℕ → ℕ → Event Op → Type 0
IsDrawnBy members letters word next (Submit n c) = ⊥
IsDrawnBy members letters word next (Deliver i) = (0 < letters) × (word < 216) × (i + 1 + next % recent_letters word % letters ≡ letters)
IsDrawnBy members letters word next (Perform n) = (216 ≤ word) × (word < 230) × (n ≡ chosen_member members next)
IsDrawnBy members letters word next (Nudge n) = (230 ≤ word) × (word < 236) × (n ≡ chosen_member members next)
IsDrawnBy members letters word next (Wake n) = (236 ≤ word) × (word < 240) × (n ≡ chosen_member members next)
IsDrawnBy members letters word next (Restart n) = (word ≡ 240) × (n ≡ chosen_member members next)
IsDrawnBy members letters word next (Propose n) = ((240 < word) ⊎ ((letters ≡ 0) × (word < 216))) × (n ≡ chosen_member members next)
