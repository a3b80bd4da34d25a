use Rattle.std.proofs.Common.{◌≡◌, ◌+◌, List, [], ◌∷◌, ◌++◌, length, ap, ◌∙◌, arith}
use Rattle.slot_log.proofs.Requesting.{request_kept}
use Rattle.slot_log.proofs.slot_log.SlotLog.request.Goals as goal

pub invariant_of-self-2 : goal.invariant_of-self-2
invariant_of-self-2 g c =
    let a = c.self.inside in
    let rank = a.front_rank + c.len.result in
    let items = c.in_ok-push_back.ensures.items ∙ ap (λ (ds : List _). ds ++ c.args.command ∷ []) c.in_ok-reserve.ensures.items in
    let reserved = c.in_ok-reserve.ensures.ok in
    let more = c.in_ok-push_back.ensures.len in
    let grown = c.in_ok-push_back.ensures.capacity in
    let own : rank ≡ a.front_rank + length a.requests.items =
    let len = c.len.ensures in let same = c.in_ok-reserve.ensures.len in let all = a.requests.ok.0 in omega arith in
    request_kept g.C.PartialEq.eq g.C.Keyed.key_of g.met.C.Value.exact g.met.C.Eq.laws.refl a c.self.invariant
    c.push_back.new.self c.note.new.self c.args.command rank items
    c.in_ok-note.ensures.places c.in_ok-note.ensures.others own (let proposals = c.len-proposals.ensures.len in omega arith)
