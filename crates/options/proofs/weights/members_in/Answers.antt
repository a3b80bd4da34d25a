use Rattle.std.proofs.Common.{◌≡◌, ◌∙◌, ◌<◌, sym, ap, subst, map, length, decimal, rules, arith, [], IfOk}
use Rattle.std.specs.List.{slice_split}
use Rattle.std.specs.Option.{is_some}
use Rattle.std.proofs.Math.Dec.{eqb}
use Rattle.std.proofs.Math.ListN.{get_or-map}
use Rattle.std.proofs.lemmas.Iterator.Consumers.{map_from_collect}
use Rattle.std.proofs.lemmas.Iterator.Splits.{YieldsList-from_str_split}
use Rattle.std.proofs.lemmas.List.{length-map, take_all}
use Rattle.options.proofs.WeightWords.{AreLong, no_weight, weights_told, words_back}
use Rattle.options.proofs.weights.members_in.Goals as goal

pub returns-in_default : goal.returns-in_default
returns-in_default c = λ ws members e.
    let collected = map_from_collect c.collect.result c.collect.ensures.ran
    (YieldsList-from_str_split 44 c.args.text.now (omega arith) (grind rules) (grind rules) (grind rules)) in
    let cut : map (λ w. w.now) c.in_ok-words.words.items ≡ slice_split (λ b. eqb b 44) c.args.text.now =
    subst (λ r. IfOk r (λ v. map (λ w. w.now) v.items ≡ slice_split (λ b. eqb b 44) c.args.text.now))
    c.in_ok-words.was collected in
    let items = c.deref-word-items.result.now in
    let words = map (λ w. w.now) items in
    let within : c.loop-word.word-index < length words = subst (λ n. c.loop-word.word-index < n) (sym (length-map items (λ w. w.now))) c.loop-word-test.true in
    no_weight ws words c.loop-word.word-index members
    (ap (map (λ w. w.now)) c.deref-word-items.ensures.value ∙ cut ∙ words_back ws c.args.text.now members e) within
    (λ w is same. c.weight_in.ensures.none (ap is_some c.in_default.is) w is
    (same ∙ get_or-map (λ w. w.now) items c.loop-word.word-index (record { ref_ptr = (0, 0); now = [] })))

pub returns : goal.returns
returns c =
    let collected = map_from_collect c.collect.result c.collect.ensures.ran
    (YieldsList-from_str_split 44 c.args.text.now (omega arith) (grind rules) (grind rules) (grind rules)) in
    let cut : map (λ w. w.now) c.in_ok-words.words.items ≡ slice_split (λ b. eqb b 44) c.args.text.now =
    subst (λ r. IfOk r (λ v. map (λ w. w.now) v.items ≡ slice_split (λ b. eqb b 44) c.args.text.now))
    c.in_ok-words.was collected in
    let items = c.deref-word-items.result.now in
    let all = take_all c.loop-word.word-index items c.loop-word-test.false in
    let told = c.loop-word.invariant.told ∙ ap (map (λ w. w.now)) (all ∙ c.deref-word-items.ensures.value) ∙ cut in
    weights_told c.args.text.now c.deref.result.now c.weighted.result (ap (map decimal) c.deref.ensures.value ∙ told)
    (subst (λ ws. AreLong ws) (sym c.deref.ensures.value) c.loop-word.invariant.long) c.weighted.ensures
