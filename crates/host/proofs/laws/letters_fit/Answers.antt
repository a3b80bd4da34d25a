use Rattle.std.proofs.Common.{subst}
use Rattle.cluster.specs.Envelopes.{IsReadAs}
use Rattle.cluster.specs.Hosts.{HostState, ShowsHost}
use Rattle.host.proofs.laws.letters_fit.Goals as goal

pub returns : goal.returns
returns g c = λ owner members h z n p before now k are few is of hears.
    let w = c.every_cluster.ensures.shown owner members k are few in
    let unfit = hears.shown in
    unfit.2 (c.hosts_alone.ensures.fits h.shown n p unfit.0 w.0 w.1.is
    (subst (λ (x : HostState _ _). ShowsHost g.O.Object.rules x n w.0.cluster) is.shown (w.1.hosts n is.member))
    (w.1.envelopes p of)
    (subst (λ m. IsReadAs p m h.shown.base unfit.0) is.number unfit.1))
