-- What agreement says (Paxos Made Moderately Complex, 2.2 and 2.3, invariants A and C).
use Rattle.std.specs.Prelude.{◌≡◌, ℕ, true, List}
use Rattle.object.specs.Lists.{In}
use Rattle.ballot.specs.Ballots.{Numbers, is_below}
use Rattle.ballot.specs.declared.pvalue.Pvalue.{Pvalue}
use Rattle.ballot.specs.declared.letter.Letter.{Letter}
use Rattle.ballot.specs.declared.letter.LetterBody.TheVariants.{P1b, P2a, Decision}
use Rattle.agreement.specs.Nodes.{Cluster, node}
use Rattle.agreement.specs.Chosen.{IsChosenAt, IsChosen}

-- the pvalues of a cluster: those that were asked for, reported or accepted
pub data IsPvalue {C : Type 0} (k : Cluster C) (p : Pvalue C) : Type 0 where
  asked : (l : Letter C) → In l k.letters → l.body ≡ P2a p → IsPvalue k p
  reported : (l : Letter C) (b : Numbers) (report : List (Pvalue C)) → In l k.letters → l.body ≡ P1b b report → In p report → IsPvalue k p
  accepted : (m : ℕ) → In p (node k m).acceptor.accepted → IsPvalue k p

-- at most one command for a ballot and slot
abbrev pub HasOneCommand : {C : Type 0} → Cluster C → Type 0
HasOneCommand {C} k = (p q : Pvalue C) → IsPvalue k p → IsPvalue k q → p.ballot ≡ q.ballot → p.slot ≡ q.slot → p.value ≡ q.value

-- once c is chosen for a slot under a ballot, every pvalue of that slot and a later ballot has it
abbrev pub KeepsChosen : {C : Type 0} → Cluster C → Type 0
KeepsChosen {C} k =
    (b : Numbers) (s : ℕ) (c : C) → IsChosenAt k b s c
    → (p : Pvalue C) → IsPvalue k p → p.slot ≡ s → is_below b p.ballot ≡ true → p.value ≡ c

-- at most one command is chosen for a slot
abbrev pub ChoosesOne : {C : Type 0} → Cluster C → Type 0
ChoosesOne {C} k = (s : ℕ) (c d : C) → IsChosen k s c → IsChosen k s d → c ≡ d

-- every Decision names a chosen command
abbrev pub DecidesChosen : {C : Type 0} → Cluster C → Type 0
DecidesChosen {C} k = (l : Letter C) (s : ℕ) (c : C) → In l k.letters → l.body ≡ Decision s c → IsChosen k s c

-- what is chosen stays chosen
abbrev pub StaysChosen : {C : Type 0} → Cluster C → Cluster C → Type 0
StaysChosen {C} old new = (s : ℕ) (c : C) → IsChosen old s c → IsChosen new s c
