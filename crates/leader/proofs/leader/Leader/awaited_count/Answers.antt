use Rattle.std.proofs.Common.{◌≡◌, ℕ, ◌+◌, Bool, true, false, cond, map, length, Option, None, Some, is_some, refl, sym, ap, ap₂, ◌∙◌, subst}
use Rattle.std.specs.FinMap.{entries, len, len-entries}
use Rattle.std.proofs.lemmas.List.{length-append, length-map}
use Rattle.ballot.specs.Slots.{Slots}
use Rattle.ballot.specs.declared.letter.LetterBody.{LetterBody}
use Rattle.ballot.specs.declared.letter.LetterBody.TheVariants.{P2a}
use Rattle.scout_commander.specs.Commanders.{Commanding}
use Rattle.scout_commander.specs.Scouts.{Scouting}
use Rattle.leader.specs.Leaders.{scout_says, says_again}
use mir.Val.{bool_byte}
use Rattle.leader.proofs.leader.Leader.awaited_count.Goals as goal

one_or_none : {C : Type 0} (o : Option (Scouting C)) → length (scout_says {C = C} o) ≡ cond (is_some o) 1 0
one_or_none None = refl
one_or_none (Some s) = refl

votes : {C : Type 0} (m : Slots (Commanding C)) → length (map (λ (e : ℕ × Commanding C). P2a e.1.pvalue) (entries m)) ≡ len m
votes m = length-map (entries m) (λ e. P2a e.1.pvalue) ∙ sym (len-entries m)

byte : (b : Bool) → bool_byte b ≡ cond b 1 0
byte true = refl
byte false = refl

pub returns : goal.returns
returns g c = subst (λ l. c.from.result + c.len.result ≡ length (says_again l)) c.self.view_is
    (ap₂ (λ a b. a + b) (c.from.ensures ∙ ap bool_byte c.is_some.ensures ∙ byte (is_some c.self.inside.scout) ∙ sym
    (one_or_none c.self.inside.scout)) (c.len.ensures.len ∙ sym (votes c.self.inside.commanders))
    ∙ sym (length-append (scout_says c.self.inside.scout) _))
