use Rattle.std.proofs.Common.{◌<◌, sym, ap, ◌∙◌, subst}
use Rattle.std.proofs.lemmas.Bool.{false≢true}
use Rattle.std.specs.Prelude.{is_some}
use Rattle.world.proofs.steps.Acting.{asked_more, acts_not, place_within, able_now, nothing_now, nothing_submitted}
use Rattle.world.proofs.steps.Acting.{performs_none, performs_now, acts_taken, acts_kept, on_err}
use Rattle.world.proofs.steps.WatchedDeeds.{watched_able, watched_nothing, watched_state, watched_sent, watched_answers}
use Rattle.world.proofs.steps.WatchedDeeds.{watched_outcome, watched_still, watched_shown}
use Rattle.world.proofs.world.World.act.Goals as goal

pub returns-in_err-added-clause-idle : goal.returns-in_err-added-clause-idle
returns-in_err-added-clause-idle g c =
    λ i. absurd (false≢true (c.in_err-added.ensures.idle
    (nothing_submitted c.ballot_laws.ensures g.O.Object.rules _ _ c.self.view_is _ c.self.invariant c.args.id
    c.args.deed i c.as_slice.result.now c.as_slice.ensures.value c.len.result)))

pub index-requires : goal.index-requires
index-requires g c = subst (λ m. c.from-place.result < m) (sym c.self.inside.nodes.ok.0)
    (place_within c.ballot_laws.ensures g.O.Object.rules _ _ c.self.view_is _ c.self.invariant c.args.id
    c.from-place.result c.args.deed c.requires.member c.requires.own c.requires.room c.from-place.ensures)

pub returns-in_err-make_room_if-clause-idle : goal.returns-in_err-make_room_if-clause-idle
returns-in_err-make_room_if-clause-idle g c =
    λ i. absurd (false≢true (c.in_err-make_room_if.ensures.idle
    (c.is_some.ensures ∙ ap is_some
    (c.in_ok-added.ensures.added ∙ nothing_submitted c.ballot_laws.ensures g.O.Object.rules _ _ c.self.view_is _
    c.self.invariant c.args.id c.args.deed i c.as_slice.result.now c.as_slice.ensures.value c.len.result))))

pub returns-in_err-make_room_if-2-clause-idle : goal.returns-in_err-make_room_if-2-clause-idle
returns-in_err-make_room_if-2-clause-idle g c = λ i. absurd (false≢true (c.in_err-make_room_if-2.ensures.idle (c.performs-performs.ensures
    ∙ performs_none c.ballot_laws.ensures g.O.Object.rules _ _ c.self.view_is _ c.self.invariant c.args.id
    c.from-place.result c.args.deed c.requires.member c.requires.own c.requires.room c.from-place.ensures
    c.index.result.now c.index.ensures i)))

pub returns-in_err-came-clause-idle : goal.returns-in_err-came-clause-idle
returns-in_err-came-clause-idle g c =
    λ i. absurd (false≢true (c.in_err-came.ensures.idle
    (watched_nothing g.O.Object.rules c.behind-self.inside.node c.behind-self.inside.node _
    c.behind-self.inside.accepted.items c.behind-self.view_is c.args.deed
    (nothing_now c.ballot_laws.ensures g.O.Object.rules _ _ c.self.view_is _ c.self.invariant c.args.id
    c.from-place.result c.args.deed c.requires.member c.requires.own c.requires.room c.from-place.ensures
    c.index_mut.result.now c.index_mut.ensures.value i))))

pub push_in_room-requires : goal.push_in_room-requires
push_in_room-requires g c = λ e. c.in_ok-make_room_if.ensures.room (c.is_some.ensures ∙ e)

pub push_in_room-requires-2 : goal.push_in_room-requires-2
push_in_room-requires-2 g c = λ e. c.in_ok-make_room_if-2.ensures.room
    (performs_now c.ballot_laws.ensures g.O.Object.rules _ _ c.self.view_is _ c.self.invariant c.args.id
    c.from-place.result c.args.deed c.requires.member c.requires.own c.requires.room c.from-place.ensures
    c.index_mut.result.now c.index_mut.ensures.value c.index.result.now c.index.ensures c.performs-performs.result
    c.performs-performs.ensures
    c.in_ok-came.came (watched_outcome g.O.Object.rules c.behind-self.inside.node c.act.new.self _
    c.behind-self.inside.accepted.items c.behind-self.view_is c.args.deed _ c.in_ok-came.ensures.outcome) _
    c.key_past.ensures e)

pub index_mut-requires : goal.index_mut-requires
index_mut-requires g c = subst (λ m. c.from-place.result < m) (sym c.self.inside.nodes.ok.0)
    (place_within c.ballot_laws.ensures g.O.Object.rules _ _ c.self.view_is _ c.self.invariant c.args.id
    c.from-place.result c.args.deed c.requires.member c.requires.own c.requires.room c.from-place.ensures)

pub act-requires : goal.act-requires
act-requires g c = watched_able g.O.Object.rules c.behind-self.inside.node c.behind-self.inside.node _
    c.behind-self.inside.accepted.items c.behind-self.view_is c.args.deed
    (able_now c.ballot_laws.ensures g.O.Object.rules _ _ c.self.view_is _ c.self.invariant c.args.id c.from-place.result
    c.args.deed c.requires.member c.requires.own c.requires.room c.from-place.ensures c.index_mut.result.now
    c.index_mut.ensures.value)

pub invariant_of-behind-self : goal.invariant_of-behind-self
invariant_of-behind-self g c =
    watched_shown g.O.Object.rules c.behind-self.inside.node c.act.new.self _ c.behind-self.inside.accepted.items
    c.behind-self.view_is c.args.deed c.act.result c.act.ensures.state.0 c.act.ensures.state.1 c.behind-self.invariant

pub returns-in_err-came-clause-err : goal.returns-in_err-came-clause-err
returns-in_err-came-clause-err g c = on_err c.from_residual-in_err-came.result
    (acts_not (record {
      cluster = record {
        members = c.self.inside.members;
        nodes = c.self.inside.nodes.items;
        letters =
            c.self.inside.letters.items;
      };
      happenings =
          record { submitted = c.self.inside.submitted.items; answers = c.self.inside.answers.items };
      reach =
          c.self.inside.reach;
      taken = c.self.inside.taken;
    }) c.from-place.result c.index_mut.result.now
    _ c.index_mut.ensures.value (watched_still g.O.Object.rules c.behind-self.inside.node c.act.new.self _
    c.behind-self.inside.accepted.items c.behind-self.view_is c.args.deed c.in_err-came.ensures.state.1) _
    c.in_err-came.ensures.sent.1 _ c.in_err-came.ensures.answers.1 _ c.make_room_if.ensures.kept ∙ c.self.view_is)

pub invariant_of-self-2 : goal.invariant_of-self-2
invariant_of-self-2 g c =
    acts_kept c.ballot_laws.ensures g.O.Object.rules _ _ c.self.view_is _ c.self.invariant c.args.id c.from-place.result
    c.args.deed c.requires.member c.requires.own c.requires.room c.from-place.ensures
    c.index_mut.result.now c.index_mut.ensures.value
    _ (watched_state g.O.Object.rules c.behind-self.inside.node c.act.new.self _ c.behind-self.inside.accepted.items
    c.behind-self.view_is c.args.deed c.in_ok-came.ensures.state.0)
    _ (watched_sent g.O.Object.rules c.behind-self.inside.node c.act.new.self _ c.behind-self.inside.accepted.items
    c.behind-self.view_is c.args.deed _ _ c.in_ok-came.ensures.sent.0)
    _ (watched_answers g.O.Object.rules c.behind-self.inside.node c.act.new.self _ c.behind-self.inside.accepted.items
    c.behind-self.view_is c.args.deed _ _ c.in_ok-came.ensures.answers.0)
    _ (asked_more _ c.as_slice.result.now c.make_room_if.new.items.items _ c.self.inside.answers.items c.len.result
    c.args.deed c.in_ok-added.added c.as_slice.ensures.value
    (c.len.ensures ∙ c.self.inside.answers.ok.0) c.in_ok-added.ensures.added c.make_room_if.ensures.kept
    c.push_in_room.ensures)
    c.in_ok-came.came (watched_outcome g.O.Object.rules c.behind-self.inside.node c.act.new.self _
    c.behind-self.inside.accepted.items c.behind-self.view_is c.args.deed _ c.in_ok-came.ensures.outcome) _
    c.reach_after-self-inside.ensures
    _ c.key_past.ensures _ _ c.make_room_if-2.ensures.kept c.push_in_room-2.ensures

pub returns-clause-ok : goal.returns-clause-ok
returns-clause-ok g c =
    acts_taken c.ballot_laws.ensures g.O.Object.rules _ _ c.self.view_is _ c.self.invariant c.args.id
    c.from-place.result c.args.deed c.requires.member c.requires.own c.requires.room c.from-place.ensures
    c.index_mut.result.now c.index_mut.ensures.value
    _ (watched_state g.O.Object.rules c.behind-self.inside.node c.act.new.self _ c.behind-self.inside.accepted.items
    c.behind-self.view_is c.args.deed c.in_ok-came.ensures.state.0)
    _ (watched_sent g.O.Object.rules c.behind-self.inside.node c.act.new.self _ c.behind-self.inside.accepted.items
    c.behind-self.view_is c.args.deed _ _ c.in_ok-came.ensures.sent.0)
    _ (watched_answers g.O.Object.rules c.behind-self.inside.node c.act.new.self _ c.behind-self.inside.accepted.items
    c.behind-self.view_is c.args.deed _ _ c.in_ok-came.ensures.answers.0)
    _ (asked_more _ c.as_slice.result.now c.make_room_if.new.items.items _ c.self.inside.answers.items c.len.result
    c.args.deed c.in_ok-added.added c.as_slice.ensures.value
    (c.len.ensures ∙ c.self.inside.answers.ok.0) c.in_ok-added.ensures.added c.make_room_if.ensures.kept
    c.push_in_room.ensures)
    c.in_ok-came.came (watched_outcome g.O.Object.rules c.behind-self.inside.node c.act.new.self _
    c.behind-self.inside.accepted.items c.behind-self.view_is c.args.deed _ c.in_ok-came.ensures.outcome) _
    c.reach_after-self-inside.ensures
