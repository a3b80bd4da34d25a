use Rattle.std.proofs.Common.{◌≡◌, List, map, ap, ◌∙◌}
use Rattle.std.specs.FinMap.{entries}
use Rattle.ballot.specs.Slots.{Slots}
use Rattle.ballot.specs.Rests.{pvalues_from}
use Rattle.ballot.specs.declared.pvalue.Pvalue.{Pvalue}
use Rattle.acceptor.specs.Acceptors.{Acceptances}
use Rattle.acceptor.specs.Places.{pvalue_of}
use Rattle.acceptor.specs.Rests.{rest_of_acceptor}
use Rattle.acceptor.specs.declared.accepted.Accepted.{Accepted}
use Rattle.acceptor.proofs.Rests.{kept_pvalues}
use Rattle.acceptor.proofs.acceptor.Acceptor.forget.Goals as goal

pub returns : goal.returns
returns g c =
    let accepted : map pvalue_of (entries c.forget.new.self) ≡ pvalues_from c.args.base (map pvalue_of (entries c.self.inside.accepted)) =
    ap (λ (m : Slots (Accepted g.row.C.Denot)). map pvalue_of (entries m)) c.forget.ensures ∙ kept_pvalues c.args.base c.self.inside.accepted in
    ap (λ (ps : List (Pvalue g.row.C.Denot)). record { promised = c.self.inside.promised; accepted = ps }) accepted ∙
    ap (λ (a : Acceptances g.row.C.Denot). rest_of_acceptor c.args.base a) c.self.view_is
