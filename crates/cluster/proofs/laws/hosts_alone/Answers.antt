use Rattle.forgetting.proofs.Exact.{one_exact, one_itself, told_apart}
use Rattle.cluster.proofs.alone.Acting.{acts_unknown, acts_last, receives, fits}
use Rattle.cluster.proofs.alone.Elsewhere.{step_leaves, step_adds, leaves_host, leaves_stored, adds_envelope}
use Rattle.cluster.proofs.alone.Forgetting.{host_forgets, stored_compacts}
use Rattle.cluster.proofs.alone.Opening.{opens}
use Rattle.cluster.proofs.laws.hosts_alone.Goals as goal

pub returns-clause-opening : goal.returns-clause-opening
returns-clause-opening g c = λ members n member. opens g.O.Object.rules members n member

pub returns-clause-acts : goal.returns-clause-acts
returns-clause-acts g c = λ s n d w is shows asks. acts_unknown c.ballot_laws.ensures
    (record {
      none = c.filter_remembers.ensures.none;
      done = c.filter_remembers.ensures.done;
      stale = c.filter_remembers.ensures.stale;
    })
    g.O.Object.rules (one_exact g.O.Object.rules g.O.Op.PartialEq.eq g.met.O.Object.same g.met.O.Op.Value.exact)
    (one_itself g.O.Object.rules g.O.Op.PartialEq.eq g.met.O.Object.same g.met.O.Op.Eq.laws.refl)
    s n w is shows d asks

pub returns-clause-asks_last : goal.returns-clause-asks_last
returns-clause-asks_last g c = λ s n d w is shows asks. acts_last c.ballot_laws.ensures
    (record {
      none = c.filter_remembers.ensures.none;
      done = c.filter_remembers.ensures.done;
      stale = c.filter_remembers.ensures.stale;
    })
    g.O.Object.rules (one_exact g.O.Object.rules g.O.Op.PartialEq.eq g.met.O.Object.same g.met.O.Op.Value.exact)
    (one_itself g.O.Object.rules g.O.Op.PartialEq.eq g.met.O.Object.same g.met.O.Op.Eq.laws.refl)
    s n w is shows d asks

pub returns-clause-receives : goal.returns-clause-receives
returns-clause-receives g c = λ s n p left new sent w is shows of reads received. receives c.ballot_laws.ensures
    (record {
      none = c.filter_remembers.ensures.none;
      done = c.filter_remembers.ensures.done;
      stale = c.filter_remembers.ensures.stale;
    })
    g.O.Object.rules (one_exact g.O.Object.rules g.O.Op.PartialEq.eq g.met.O.Object.same g.met.O.Op.Value.exact)
    (one_itself g.O.Object.rules g.O.Op.PartialEq.eq g.met.O.Object.same g.met.O.Op.Eq.laws.refl)
    s n w is shows (told_apart g.O.Op.PartialEq.eq g.met.O.Op.Value.exact g.met.O.Op.Eq.laws.refl)
    p of reads.receiver reads.legible left reads.rest new sent received

pub returns-clause-fits : goal.returns-clause-fits
returns-clause-fits g c = λ s n p left w is shows of reads. fits c.ballot_laws.ensures
    (record {
      none = c.filter_remembers.ensures.none;
      done = c.filter_remembers.ensures.done;
      stale = c.filter_remembers.ensures.stale;
    })
    g.O.Object.rules (one_exact g.O.Object.rules g.O.Op.PartialEq.eq g.met.O.Object.same g.met.O.Op.Value.exact)
    (one_itself g.O.Object.rules g.O.Op.PartialEq.eq g.met.O.Object.same g.met.O.Op.Eq.laws.refl)
    s n w is shows (told_apart g.O.Op.PartialEq.eq g.met.O.Op.Value.exact g.met.O.Op.Eq.laws.refl)
    p of reads.receiver reads.legible left reads.rest

pub returns-clause-others : goal.returns-clause-others
returns-clause-others g c = λ s m w v e is step apart shows. leaves_host g.O.Object.rules s m w.cluster v.cluster
    (step_leaves g.O.Object.rules m w v e step apart) shows

pub returns-clause-envelopes : goal.returns-clause-envelopes
returns-clause-envelopes g c = λ p w v e is step of. adds_envelope g.O.Object.rules p w.cluster v.cluster
    (step_adds g.O.Object.rules w v e step) of

pub returns-clause-forgets : goal.returns-clause-forgets
returns-clause-forgets g c = λ s n base w shows more out.
    host_forgets g.O.Object.rules s n base w.cluster shows more out

pub returns-clause-stored : goal.returns-clause-stored
returns-clause-stored g c = λ d m w v e is step apart stored. leaves_stored g.O.Object.rules d m w.cluster v.cluster
    (step_leaves g.O.Object.rules m w v e step apart) stored

pub returns-clause-compacts : goal.returns-clause-compacts
returns-clause-compacts g c = λ d e n base w stored more anew.
    stored_compacts c.ballot_laws.ensures d e n base w.cluster stored more anew
