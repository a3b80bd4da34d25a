use Rattle.std.proofs.Common.{[], ◌∷◌, ◌++◌, not, cond, map, sym, ap, subst, ◌∙◌, arith}
use Rattle.object.specs.Happenings.{submitted_key, is_submitted}
use Rattle.object.specs.Keys.{stands}
use Rattle.recorder.specs.Fates.{fate_at}
use Rattle.recorder.specs.Records.{IsRecord, record_of, own_key, with_place}
use Rattle.recorder.proofs.LookUps.{has_place, fate_read, fate_within}
use Rattle.recorder.proofs.Steps.{placed_told, places_room, placed_fates}
use Rattle.recorder.proofs.recorder.Recorder.place.Goals as goal

pub unreachable-requires : goal.unreachable-requires
unreachable-requires g c =
    has_place submitted_key c.args.key c.self.inside.submitted
    (ap (λ r. is_submitted c.args.key r.happenings.submitted) c.self.view_is ∙ c.requires) (sym c.place_of.ensures ∙ c.in_default.is)

pub index_mut-fate-requires : goal.index_mut-fate-requires
index_mut-fate-requires g c =
    let r = record_of c.self.inside.submitted c.self.inside.answers.items c.self.inside.order.items in
    let inside = fate_within r c.self.inside.fates.items c.args.key c.in-Some.place c.self.invariant.fated (sym c.place_of.ensures ∙ c.in-Some.is) in
    let long = c.self.inside.fates.ok.0 in
    omega arith

pub returns-then-fate-clause-placed : goal.returns-then-fate-clause-placed
returns-then-fate-clause-placed g c =
    let S = c.self.inside.submitted in
    let A = c.self.inside.answers.items in
    let O = c.self.inside.order.items in
    let k = c.args.key in
    let fate = fate_read (record_of S A O) c.self.inside.fates.items k c.in-Some.place c.index_mut-fate.result.now
    c.self.invariant.fated (sym c.place_of.ensures ∙ c.in-Some.is) c.index_mut-fate.ensures.value in
    ap (λ b. cond b (record_of S A O) (record_of S A (O ++ k ∷ []))) (sym c.if-fate.true ∙ ap (λ f. f.is_placed) fate) ∙ ap (with_place k) c.self.view_is

pub returns-then-fate-clause-new : goal.returns-then-fate-clause-new
returns-then-fate-clause-new g c =
    let r = record_of c.self.inside.submitted c.self.inside.answers.items c.self.inside.order.items in
    let fate = fate_read r c.self.inside.fates.items c.args.key c.in-Some.place c.index_mut-fate.result.now
    c.self.invariant.fated (sym c.place_of.ensures ∙ c.in-Some.is) c.index_mut-fate.ensures.value in
    ap not (sym c.if-fate.true ∙ ap (λ f. f.is_placed) fate) ∙ ap (λ q. not (stands own_key c.args.key q.order)) c.self.view_is

pub push_reserved-requires : goal.push_reserved-requires
push_reserved-requires g c =
    let S = c.self.inside.submitted in
    let A = c.self.inside.answers.items in
    let O = c.self.inside.order.items in
    let k = c.args.key in
    let known = ap (λ r. is_submitted k r.happenings.submitted) c.self.view_is ∙ c.requires in
    let fate = fate_read (record_of S A O) c.self.inside.fates.items k c.in-Some.place c.index_mut-fate.result.now
    c.self.invariant.fated (sym c.place_of.ensures ∙ c.in-Some.is) c.index_mut-fate.ensures.value in
    let room = places_room S A O k c.self.invariant.recorded known (sym (ap (λ f. f.is_placed) fate) ∙ c.if-fate.false) in
    let fits = c.self.invariant.places_fit in
    let long = c.self.inside.order.ok.0 in
    omega arith

pub invariant_of-self-2 : goal.invariant_of-self-2
invariant_of-self-2 g c =
    let S = c.self.inside.submitted in
    let A = c.self.inside.answers.items in
    let O = c.self.inside.order.items in
    let k = c.args.key in
    let at = sym c.place_of.ensures ∙ c.in-Some.is in
    let known = ap (λ r. is_submitted k r.happenings.submitted) c.self.view_is ∙ c.requires in
    let fate = fate_read (record_of S A O) c.self.inside.fates.items k c.in-Some.place c.index_mut-fate.result.now
    c.self.invariant.fated at c.index_mut-fate.ensures.value in
    let items = c.push_reserved.ensures.items in
    record {
      recorded = subst (λ xs. IsRecord (record_of S A xs)) (sym items)
          (placed_told S A O k c.self.invariant.recorded known (sym (ap (λ f. f.is_placed) fate) ∙ c.if-fate.false));
      fated = placed_fates S A O c.self.inside.fates.items k c.in-Some.place c.index_mut-fate.result.now
          c.index_mut-fate.result.now.answer c.self.invariant.recorded c.self.invariant.fated at
          (ap (λ f. f.answer) c.index_mut-fate.ensures.value)
          ∙ ap (λ xs. map (λ t. fate_at (record_of S A xs) (submitted_key t)) S) (sym items);
      answers_fit = c.self.invariant.answers_fit;
      places_fit = let fits = c.self.invariant.places_fit in let same = c.push_reserved.ensures.capacity in omega arith;
    }

pub returns-clause-placed : goal.returns-clause-placed
returns-clause-placed g c =
    let S = c.self.inside.submitted in
    let A = c.self.inside.answers.items in
    let O = c.self.inside.order.items in
    let k = c.args.key in
    let fate = fate_read (record_of S A O) c.self.inside.fates.items k c.in-Some.place c.index_mut-fate.result.now
    c.self.invariant.fated (sym c.place_of.ensures ∙ c.in-Some.is) c.index_mut-fate.ensures.value in
    ap (λ xs. record_of S A xs) c.push_reserved.ensures.items
    ∙ ap (λ b. cond b (record_of S A O) (record_of S A (O ++ k ∷ []))) (sym c.if-fate.false ∙ ap (λ f. f.is_placed) fate)
    ∙ ap (with_place k) c.self.view_is

pub returns-clause-new : goal.returns-clause-new
returns-clause-new g c =
    let r = record_of c.self.inside.submitted c.self.inside.answers.items c.self.inside.order.items in
    let fate = fate_read r c.self.inside.fates.items c.args.key c.in-Some.place c.index_mut-fate.result.now
    c.self.invariant.fated (sym c.place_of.ensures ∙ c.in-Some.is) c.index_mut-fate.ensures.value in
    ap not (sym c.if-fate.false ∙ ap (λ f. f.is_placed) fate) ∙ ap (λ q. not (stands own_key c.args.key q.order)) c.self.view_is
