use Rattle.std.proofs.Common.{◌≡◌, ◌+◌, false, [], ◌∷◌, ◌++◌, length, map, None, sym, ap, subst, ◌∙◌, arith}
use Rattle.std.proofs.lemmas.List.{length-append, length-map}
use Rattle.object.specs.Happenings.{submitted_key, is_submitted}
use Rattle.object.specs.declared.command.Submission.{Submission}
use Rattle.recorder.specs.Fates.{fate_at}
use Rattle.recorder.specs.Records.{IsRecord, EndsOpen, record_of, without_last_submission}
use Rattle.recorder.proofs.LookUps.{all_but_last}
use Rattle.recorder.proofs.Steps.{submitted_told, submitted_fates, submitted_open}
use Rattle.recorder.proofs.recorder.Recorder.submit.Goals as goal

pub invariant_of-self-2 : goal.invariant_of-self-2
invariant_of-self-2 g c =
    let S = c.self.inside.submitted in
    let A = c.self.inside.answers.items in
    let O = c.self.inside.order.items in
    let s : Submission g.row.Op.Denot = record { command = c.in_ok-command.command; after = c.len-after.result } in
    let new = ap (λ k. is_submitted k S) (ap (λ q. q.key) c.in_ok-command.ensures ∙ sym c.key.ensures.key) ∙ sym c.has.ensures ∙ c.if-has.false in
    let told = c.self.invariant.recorded in
    let now : record_of c.push.new.self c.make_room.new.items.items c.make_room-2.new.items.items ≡ record_of (S ++ s ∷ []) A O =
    λ i. record_of (c.in_ok-push.ensures.ok.0 i) (c.in_ok-make_room.ensures.items i) (c.in_ok-make_room-2.ensures.items i) in
    let longer : length c.push.new.self ≡ length S + 1 = ap length c.in_ok-push.ensures.ok.0 ∙ length-append S (s ∷ []) in
    let fates : length c.self.inside.fates.items ≡ length S =
    ap length c.self.invariant.fated ∙ length-map S (λ t. fate_at (record_of S A O) (submitted_key t)) in
    let count = c.self.inside.fates.ok.0 in
    let same = c.in_ok-reserve.ensures.len in
    let room = c.in_ok-reserve.ensures.ok in
    let all = c.capacity-room.ensures in
    let answers_room = c.in_ok-make_room.ensures.ok in
    let order_room = c.in_ok-make_room-2.ensures.ok in
    record {
      recorded = subst IsRecord (sym now) (submitted_told S A O s told new (c.len-after.ensures ∙ c.self.inside.answers.ok.0));
      fated = c.push_reserved.ensures.items
          ∙ ap (λ fs. fs ++ record { answer = None; is_placed = false } ∷ []) c.in_ok-reserve.ensures.items
          ∙ submitted_fates S A O c.self.inside.fates.items s told new c.self.invariant.fated
          ∙ ap (λ r. map (λ t. fate_at r (submitted_key t)) r.happenings.submitted) (sym now);
      answers_fit = omega arith;
      places_fit = omega arith;
    }

pub returns-clause-open : goal.returns-clause-open
returns-clause-open g c =
    let S = c.self.inside.submitted in
    let A = c.self.inside.answers.items in
    let O = c.self.inside.order.items in
    let s : Submission g.row.Op.Denot = record { command = c.in_ok-command.command; after = c.len-after.result } in
    let new = ap (λ k. is_submitted k S) (ap (λ q. q.key) c.in_ok-command.ensures ∙ sym c.key.ensures.key) ∙ sym c.has.ensures ∙ c.if-has.false in
    let now : record_of c.push.new.self c.make_room.new.items.items c.make_room-2.new.items.items ≡ record_of (S ++ s ∷ []) A O =
    λ i. record_of (c.in_ok-push.ensures.ok.0 i) (c.in_ok-make_room.ensures.items i) (c.in_ok-make_room-2.ensures.items i) in
    λ _. subst EndsOpen (sym now) (submitted_open S A O s c.self.invariant.recorded new)

pub returns-clause-back : goal.returns-clause-back
returns-clause-back g c =
    let S = c.self.inside.submitted in
    let A = c.self.inside.answers.items in
    let O = c.self.inside.order.items in
    let s : Submission g.row.Op.Denot = record { command = c.in_ok-command.command; after = c.len-after.result } in
    let now : record_of c.push.new.self c.make_room.new.items.items c.make_room-2.new.items.items ≡ record_of (S ++ s ∷ []) A O =
    λ i. record_of (c.in_ok-push.ensures.ok.0 i) (c.in_ok-make_room.ensures.items i) (c.in_ok-make_room-2.ensures.items i) in
    λ _. ap without_last_submission now ∙ ap (λ xs. record_of xs A O) (all_but_last S s) ∙ c.self.view_is
