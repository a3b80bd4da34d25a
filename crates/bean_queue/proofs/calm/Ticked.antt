-- A second that came.
use Rattle.std.proofs.Common.{◌≡◌, ◌↔◌, ℕ, Bool, true, false, not, List, ◌++◌, [], nat_lt, sym, ap, ◌∙◌, refl}
use Rattle.std.proofs.lemmas.Bool.{cond-true}
use Rattle.object.specs.Lists.{In}
use Rattle.object.specs.declared.command.Answer.{Answer}
use Rattle.pause_store.specs.Pauses.{tubes_over}
use Rattle.bean_words.specs.declared.reply.Reply.{Reply}
use Rattle.bean_queue.specs.Queue.{QueueState}
use Rattle.bean_queue.specs.Rows.{settled}
use Rattle.bean_queue.specs.Turns.{QueueOutcome, stop}
use Rattle.bean_queue.specs.Effects.{then_settled, second_passed, tick_effect}
use Rattle.bean_queue.proofs.tubes.Settled.{settled-same}

is-later : (b : Bool) → not b ≡ false → b ≡ true
is-later true e = refl
is-later false e = cc

tick-later : (q : QueueState) (second : ℕ) → nat_lt q.now second ≡ true → tick_effect second q ≡ then_settled (tubes_over second q.pauses)
    (second_passed second q)
unfolding tick_effect
tick-later q second later = cond-true (nat_lt q.now second) (then_settled (tubes_over second q.pauses) (second_passed second q)) (stop q) later

-- the state, where the tubes whose pauses are over were left
pub ticked : (q t u : QueueState) (second : ℕ) (come : Bool) (over slice : List (List ℕ)) → come ≡ not (nat_lt q.now second) → come ≡ false
    → t ≡ (second_passed second q).state → ((tube : List ℕ) → In tube over ↔ In tube (tubes_over second q.pauses)) → slice ≡ over → u ≡ settled slice t
    → u ≡ (tick_effect second q).state
ticked q t u second come over slice asked later made same keys left =
    left ∙ ap (λ ts. settled ts t) keys ∙ ap (settled over) made ∙ settled-same over (tubes_over second q.pauses) (second_passed second q).state same ∙
    ap (λ (o : QueueOutcome). o.state) (sym (tick-later q second (is-later (nat_lt q.now second) (sym asked ∙ later))))

-- the answers, behind those that were there
pub ticked-answers : (q : QueueState) (second : ℕ) (come : Bool) (none answers out all : List (Answer Reply)) → come ≡ not (nat_lt q.now second) → come ≡ false
    → none ≡ [] → answers ≡ none ++ (second_passed second q).answers → all ≡ out ++ answers → all ≡ out ++ (tick_effect second q).answers
ticked-answers q second come none answers out all asked later empty made more =
    more ∙ ap (λ xs. out ++ xs) (made ∙ ap (λ xs. xs ++ (second_passed second q).answers) empty ∙
    ap (λ (o : QueueOutcome). o.answers) (sym (tick-later q second (is-later (nat_lt q.now second) (sym asked ∙ later)))))
