use Rattle.std.proofs.Common.{◌≡◌, List, [], map, sym, ap, ◌∙◌, None}
use Rattle.std.proofs.lemmas.List.{nil_from_length}
use Rattle.std.specs.Ordering.{nat_cmp}
use Rattle.std.specs.FinMap.{empty, entries, len-empty, len-entries}
use Rattle.ballot.specs.Slots.{Slots}
use Rattle.acceptor.specs.Places.{pvalue_of}
use Rattle.acceptor.specs.declared.accepted.Accepted.{Accepted}
use Rattle.acceptor.proofs.acceptor.Acceptor.new.Goals as goal

nothing : {X : Type 0} (m : Slots X) → m ≡ empty → entries m ≡ []
nothing {X} m e = ap (λ (m : Slots X). entries m) e ∙ nil_from_length (entries empty) (sym (len-entries {R = nat_cmp} empty) ∙ len-empty nat_cmp X)

pub returns : goal.returns
returns g c = ap (λ (es : List (_ × Accepted g.row.C.Denot)). record { promised = None; accepted = map pvalue_of es }) (nothing c.new.result c.new.ensures)
