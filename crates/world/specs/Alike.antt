-- Worlds that are one but for what acceptors reported, and what scouts gathered of it: there each tells as much of every
-- slot as the other.
use Rattle.std.specs.Prelude.{◌≡◌, ℕ, false, ⊤, List, [], ◌∷◌, Option, None, Some}
use Rattle.object.specs.Lists.{In}
use Rattle.ballot.specs.Ballots.{Numbers, is_below}
use Rattle.ballot.specs.Letters.{letter}
use Rattle.ballot.specs.declared.pvalue.Pvalue.{Pvalue}
use Rattle.ballot.specs.declared.letter.Letter.{Letter}
use Rattle.ballot.specs.declared.letter.LetterBody.TheVariants.{P1b}
use Rattle.scout_commander.specs.Scouts.{Scouting}
use Rattle.leader.specs.Leaders.{Leading}
use Rattle.node.specs.Nodes.{NodeState}
use Rattle.agreement.specs.Worlds.{World}

-- the lists are of one length, and this is so of any two elements that stand at one place
abbrev pub InPairs : {A : Type 0} → (A → A → Type 0) → List A → List A → Type 0
InPairs holds [] [] = ⊤
InPairs holds [] (y ∷ ys) = ⊥
InPairs holds (x ∷ xs) [] = ⊥
InPairs holds (x ∷ xs) (y ∷ ys) = holds x y × InPairs holds xs ys

-- for each of these pvalues the others have one of its slot whose ballot is not below its own
abbrev pub IsCovered : {C : Type 0} → List (Pvalue C) → List (Pvalue C) → Type 0
IsCovered {C} these others =
    (p : Pvalue C) → In p these → (q : Pvalue C) × In q others × (q.slot ≡ p.slot) × (is_below q.ballot p.ballot ≡ false)

-- each of two reports covers the other
pub record IsAlikeReport {C : Type 0} (ps qs : List (Pvalue C)) : Type 0 where
  pub covered : IsCovered ps qs
  pub covers : IsCovered qs ps

-- no scout stands, or the same one but for what it gathered
pub data IsAlikeScout {C : Type 0} : Option (Scouting C) → Option (Scouting C) → Type 0 where
  no_scout : IsAlikeScout None None
  but_gathered : (s : Scouting C) (ps : List (Pvalue C)) → IsAlikeReport s.gathered ps → IsAlikeScout (Some s) (Some (record s { gathered = ps }))

-- the same leader but for its scout
pub data IsAlikeLeader {C : Type 0} : Leading C → Leading C → Type 0 where
  but_scout : (l : Leading C) (o : Option (Scouting C)) → IsAlikeScout l.scout o → IsAlikeLeader l (record l { scout = o })

-- the same node but for its leader: acceptor, boot and replica are the same
pub data IsAlikeNode {C : Type 0} : NodeState C → NodeState C → Type 0 where
  but_leader : (x : NodeState C) (l : Leading C) → IsAlikeLeader x.leader l → IsAlikeNode x (record x { leader = l })

-- the same letter, or two P1b of one ballot, between the same nodes, with such reports
pub data IsAlikeLetter {C : Type 0} : Letter C → Letter C → Type 0 where
  same_letter : (l : Letter C) → IsAlikeLetter l l
  but_report : (n m : ℕ) (b : Numbers) (ps qs : List (Pvalue C)) → IsAlikeReport ps qs → IsAlikeLetter (letter n (P1b b ps) m) (letter n (P1b b qs) m)

-- the same world but for the reports
pub record IsAlike {Op Reply : Type 0} (w v : World Op Reply) : Type 0 where
  pub members : w.cluster.members ≡ v.cluster.members
  pub nodes : InPairs IsAlikeNode w.cluster.nodes v.cluster.nodes
  pub letters : InPairs IsAlikeLetter w.cluster.letters v.cluster.letters
  pub happenings : w.happenings ≡ v.happenings
  pub reach : w.reach ≡ v.reach
  pub taken : w.taken ≡ v.taken
