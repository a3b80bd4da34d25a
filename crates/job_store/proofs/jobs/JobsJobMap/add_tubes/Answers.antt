use Rattle.std.proofs.Common.{inl, inr, subst, ap}
use Rattle.std.proofs.lemmas.Result.{on_ok_weaker}
use Rattle.object.specs.Lists.{In}
use Rattle.job_store.specs.Undone.{MapState}
use Rattle.job_store.specs.Shelves.{HavePlaces}
use Rattle.job_store.proofs.readiness.TubeJobs.{shelved}
use Rattle.bean_words.proofs.naming.NameSets.{adds-twice}
use Rattle.job_store.proofs.jobs.JobsJobMap.add_tubes.Goals as goal

pub returns-in_err-add_shelved-2-clause-kept : goal.returns-in_err-add_shelved-2-clause-kept
returns-in_err-add_shelved-2-clause-kept c = (adds-twice c.add_shelved.ensures.added c.add_shelved-2.ensures.added).kept

pub returns-in_err-add_shelved-2-clause-only : goal.returns-in_err-add_shelved-2-clause-only
returns-in_err-add_shelved-2-clause-only c = (adds-twice c.add_shelved.ensures.added c.add_shelved-2.ensures.added).only

pub returns-in_err-add_shelved-3-clause-kept : goal.returns-in_err-add_shelved-3-clause-kept
returns-in_err-add_shelved-3-clause-kept c =
    (adds-twice (adds-twice c.add_shelved.ensures.added c.add_shelved-2.ensures.added) c.add_shelved-3.ensures.added).kept

pub returns-in_err-add_shelved-3-clause-only : goal.returns-in_err-add_shelved-3-clause-only
returns-in_err-add_shelved-3-clause-only c =
    (adds-twice (adds-twice c.add_shelved.ensures.added c.add_shelved-2.ensures.added) c.add_shelved-3.ensures.added).only

pub returns-clause-kept : goal.returns-clause-kept
returns-clause-kept c =
    (adds-twice (adds-twice (adds-twice c.add_shelved.ensures.added c.add_shelved-2.ensures.added) c.add_shelved-3.ensures.added)
    c.add_shelved-4.ensures.added).kept

pub returns-clause-only : goal.returns-clause-only
returns-clause-only c =
    (adds-twice (adds-twice (adds-twice c.add_shelved.ensures.added c.add_shelved-2.ensures.added) c.add_shelved-3.ensures.added)
    c.add_shelved-4.ensures.added).only

pub returns-clause-all : goal.returns-clause-all
returns-clause-all c =
    on_ok_weaker c.add_shelved-4.result
    (λ last t has.
    let placed : HavePlaces c.self.inside.shelves c.args.self.now.jobs =
    subst (HavePlaces c.self.inside.shelves)
    (ap (λ (m : MapState). m.jobs) c.self.view_is) c.self.invariant.held.placed in
    elim (shelved c.self.inside.shelves c.args.self.now.jobs t placed has).one as (λ v. In t c.add_shelved-4.new.names.keys) [
      | inl ready ↦ c.add_shelved-4.ensures.added.kept t
          (c.add_shelved-3.ensures.added.kept t
          (c.add_shelved-2.ensures.added.kept t (c.in_ok-add_shelved.ensures.all t has ready)))
      | inr (inl delayed) ↦ c.add_shelved-4.ensures.added.kept t (c.add_shelved-3.ensures.added.kept t (c.in_ok-add_shelved-2.ensures.all t has delayed))
      | inr (inr (inl buried)) ↦ c.add_shelved-4.ensures.added.kept t (c.in_ok-add_shelved-3.ensures.all t has buried)
      | inr (inr (inr reserved)) ↦ last t has reserved
    ])
    c.add_shelved-4.ensures.all
