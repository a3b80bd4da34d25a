use Rattle.std.proofs.Common.{◌≡◌, ◌+◌, None, not, refl, sym, ap, ◌∙◌, subst, arith}
use Rattle.std.proofs.lemmas.Bool.{false≢true}
use Rattle.agreement.specs.declared.event.Event.TheVariants as events
use Rattle.agreement.specs.Steps.{Step}
use Rattle.agreement.proofs.every.Every.{submitted_once}
use Rattle.world.specs.Refusals.{refusal}
use Rattle.world.specs.Rescues.{keeps_nodes}
use Rattle.world.proofs.ways.Allowing.{unrefused}
use Rattle.world.proofs.ways.Beginning.{one_exact, one_itself, own_command, submit_room, bringing_begins}
use Rattle.world.proofs.ways.Bringing.{advance_due, less_left, brings_on, performed_then}
use Rattle.world.proofs.ways.Finding.{places_none, places_further}
use Rattle.world.proofs.ways.Going.{goes_on, one_goes, talk_goes}
use Rattle.world.proofs.ways.Lengthening.{leads_letters}
use Rattle.world.proofs.ways.Rescued.{no_other_act}
use Rattle.world.proofs.rounds.RoundMembers.{first_member}
use Rattle.world.proofs.way.Way.bring.Goals as goal

pub take-requires : goal.take-requires
take-requires g c =
    let few = c.requires.few in
    let copied = c.in_ok-request.ensures in
    subst (λ command. refusal g.O.Op.PartialEq.eq c.args.self.now.trial (events.Submit 1 command) ≡ None) (sym copied)
    (unrefused g.O.Op.PartialEq.eq c.args.self.now.trial (events.Submit 1 c.args.command.now)
    (first_member c.args.self.now.trial.cluster.members c.show_reachable.ensures.members) refl
    (ap not (no_other_act g.O.Op.PartialEq.eq g.met.O.Op.Eq.laws.refl c.args.self.now.trial.happenings.submitted c.args.command.now
    (own_command c.args.self.now.trial.happenings.submitted
    (submitted_once g.O.Object.rules c.args.self.now.trial c.show_reachable.ensures.world) c.args.command.now
    c.requires.was)))
    (omega arith))

pub come_to_rest-requires : goal.come_to_rest-requires
come_to_rest-requires g c =
    submit_room c.ballot_laws.ensures g.O.Object.rules c.args.self.now.trial c.take.new.self.trial
    c.show_reachable.ensures.world c.show_reachable.ensures.members c.requires.few c.args.command.now c.requires.was
    (subst (λ command. Step g.O.Object.rules c.args.self.now.trial (events.Submit 1 command) c.take.new.self.trial)
    c.in_ok-request.ensures c.in_ok-take.ensures.step)

pub loop-places-init : goal.loop-places-init
loop-places-init g c = record {
  bringing = bringing_begins c.ballot_laws.ensures g.O.Object.rules c.args.self.now.trial c.take.new.self.trial
      c.show_reachable.ensures.world c.show_reachable.ensures.members c.requires.few c.args.command.now c.requires.was
      (subst (λ command. Step g.O.Object.rules c.args.self.now.trial (events.Submit 1 command) c.take.new.self.trial)
      c.in_ok-request.ensures c.in_ok-take.ensures.step)
      (one_exact g.O.Object.rules g.O.Op.PartialEq.eq g.met.O.Object.same g.met.O.Op.Value.exact)
      c.in_ok-come_to_rest.ensures.talked c.in_ok-come_to_rest.ensures.at_rest c.in_ok-come_to_rest.ensures.spent;
  read = places_none c.come_to_rest.new.self.trial.cluster.letters c.new-places.result c.new-places.ensures.read
      c.new-places.ensures.proposals c.new-places.ensures.decisions;
  goes = goes_on (one_goes keeps_nodes c.in_ok-take.ensures refl) (talk_goes c.in_ok-come_to_rest.ensures.talked.goes);
}

pub advance-requires-clause-due : goal.advance-requires-clause-due
advance-requires-clause-due g c =
    advance_due c.ballot_laws.ensures g.O.Object.rules c.args.self.now.trial c.loop-places.self.trial
    c.show_reachable-in-loop-places.ensures.world (c.args.self.now.trial.reach + 64) c.args.command.now
    c.loop-places.invariant.bringing (c.in_ok-has_more.ensures.more.0 c.if-branch.true)

pub loop-places-preserved : goal.loop-places-preserved
loop-places-preserved g c =
    let goes = c.in_ok-advance.ensures.passage.passage.goes in
    record {
      bringing = brings_on c.ballot_laws.ensures g.O.Object.rules c.args.self.now.trial c.loop-places.self.trial
          c.show_reachable-in-loop-places.ensures.world (c.args.self.now.trial.reach + 64) c.args.command.now
          c.loop-places.invariant.bringing (c.in_ok-has_more.ensures.more.0 c.if-branch.true)
          (one_exact g.O.Object.rules g.O.Op.PartialEq.eq g.met.O.Object.same g.met.O.Op.Value.exact)
          (one_itself g.O.Object.rules g.O.Op.PartialEq.eq g.met.O.Object.same g.met.O.Op.Eq.laws.refl)
          c.in_ok-advance.ensures.advanced c.in_ok-advance.ensures.passage;
      read = places_further (leads_letters g.O.Object.rules c.loop-places.self.trial c.advance.new.self.trial goes.events goes.led)
          (let all = c.in_ok-has_more.ensures.read.all in omega arith) c.in_ok-has_more.ensures.read.found;
      goes = goes_on c.loop-places.invariant.goes goes;
    }

pub loop-places-smaller : goal.loop-places-smaller
loop-places-smaller g c =
    less_left c.ballot_laws.ensures g.O.Object.rules c.args.self.now.trial c.loop-places.self.trial
    c.show_reachable-in-loop-places.ensures.world (c.args.self.now.trial.reach + 64) c.args.command.now
    c.loop-places.invariant.bringing (c.in_ok-has_more.ensures.more.0 c.if-branch.true)
    (one_exact g.O.Object.rules g.O.Op.PartialEq.eq g.met.O.Object.same g.met.O.Op.Value.exact)
    (one_itself g.O.Object.rules g.O.Op.PartialEq.eq g.met.O.Object.same g.met.O.Op.Eq.laws.refl)
    c.in_ok-advance.ensures.advanced c.in_ok-advance.ensures.passage

pub returns-clause-performed : goal.returns-clause-performed
returns-clause-performed g c =
    performed_then c.ballot_laws.ensures g.O.Object.rules c.loop-places.self.trial c.show_reachable-3.ensures.world
    c.args.command.now c.loop-places.invariant.bringing.holds
    (λ more. false≢true (sym c.if-branch.false ∙ c.in_ok-has_more.ensures.more.1 more))

pub returns-clause-submitted : goal.returns-clause-submitted
returns-clause-submitted g c = c.loop-places.invariant.bringing.submitted
