-- An acceptor and its two rows (Paxos Made Moderately Complex, 2.2 and Figure 4).
use Rattle.std.specs.Prelude.{◌≡◌, List, [], ◌∷◌, ◌++◌, Option, None, Some, if◌then◌else◌}
use Rattle.ballot.specs.Ballots.{Numbers, higher, is_promise}
use Rattle.ballot.specs.declared.pvalue.Pvalue.{Pvalue}
use Rattle.acceptor.specs.Reports.{IsReport}

-- the ballot that it promised, and the pvalues that it accepted
pub record Acceptances (C : Type 0) : Type 0 where
  pub promised : Option Numbers
  pub accepted : List (Pvalue C)

abbrev pub new_acceptor : {C : Type 0} → Acceptances C
new_acceptor = record { promised = None; accepted = [] }

-- P1a: the ballot is promised, where it is higher
abbrev pub after_p1a : {C : Type 0} → Acceptances C → Numbers → Acceptances C
after_p1a a ballot = record a { promised = Some (higher a.promised ballot) }

-- P2a: the pvalue is accepted, where its ballot is the promised one
abbrev pub after_p2a : {C : Type 0} → Acceptances C → Pvalue C → Acceptances C
after_p2a a p = record a { accepted = if is_promise a.promised p.ballot then a.accepted ++ p ∷ [] else a.accepted }

-- the promise is kept, and of what was accepted as much as a report needs
pub record Keeps {C : Type 0} (all kept : Acceptances C) : Type 0 where
  pub promised : kept.promised ≡ all.promised
  pub accepted : IsReport all.accepted kept.accepted
