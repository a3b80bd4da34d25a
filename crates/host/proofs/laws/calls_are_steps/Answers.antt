use Rattle.std.proofs.Common.{◌≡◌, min, true, cond, sym, ap, subst, arith}
use Rattle.object.specs.OnceOnly.{is_later}
use Rattle.node.specs.declared.deed.Deed.TheVariants.{Request}
use Rattle.cluster.specs.Hosts.{HostState}
use Rattle.cluster.specs.Steps.{asks, acts}
use Rattle.host.proofs.Forgetting.{lowest_within}
use Rattle.host.proofs.Steps.{known_stays, internal_counts, acting, forgetting}
use Rattle.host.proofs.Reading.{reading, votes_on}
use Rattle.host.proofs.laws.calls_are_steps.Goals as goal

pub returns-clause-asks : goal.returns-clause-asks
returns-clause-asks g c = λ owner h n m d k is handed later.
    acting g.O.Object.rules n k owner h (Request d) is (asks n m d is.member handed
    (subst (λ (x : HostState _ _). is_later d.key x.holding.object.latest ≡ true) (sym is.shown) later))
    (ap (λ b. cond b 1 0) later)

pub returns-clause-known : goal.returns-clause-known
returns-clause-known g c = λ h d known. known_stays g.O.Object.rules h d known

pub returns-clause-acts : goal.returns-clause-acts
returns-clause-acts g c = λ owner h n d k is internal.
    acting g.O.Object.rules n k owner h d is (acts n d is.member internal)
    (internal_counts h.shown.holding.object d internal)

pub returns-clause-reads : goal.returns-clause-reads
returns-clause-reads g c = λ owner members r h z n p before now k are is of reads.
    reading g.O.Object.rules owner members n k r h z p before now are is of reads

pub returns-clause-votes : goal.returns-clause-votes
returns-clause-votes g c = λ owner members upto h z n before now k are is votes.
    votes_on g.O.Object.rules owner members n k upto h before are is z now votes

pub returns-clause-within : goal.returns-clause-within
returns-clause-within g c = λ h base.
    let low = lowest_within (min base h.shown.holding.state.replica.slot_out) h.aside in
    omega (arith, low)

pub returns-clause-forgets : goal.returns-clause-forgets
returns-clause-forgets g c = λ owner h n base k is rises out. forgetting g.O.Object.rules n k owner h base is rises out
