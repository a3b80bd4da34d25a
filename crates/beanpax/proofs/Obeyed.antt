-- What a hall that stands for a queue answers to a client.
use Rattle.std.proofs.Common.{◌≡◌, ℕ, zero, suc, Bool, List, [], ◌∷◌, Option, None, Some, Ok, map, refl, sym, ap, ap₂, subst, ◌∙◌}
use Rattle.object.specs.declared.command.Act.TheVariants.{Do}
use Rattle.object.specs.declared.command.Key.{Key}
use Rattle.bean_words.specs.declared.op.Op.{Op}
use Rattle.bean_words.specs.declared.reply.Reply.{Reply}
use Rattle.bean_queue.specs.Queue.{QueueState}
use Rattle.session.specs.Items.{Response}
use Rattle.session.specs.Items.Response.{Replied, Refused}
use Rattle.session.specs.Serving.{Asks, Asked, Closes}
use Rattle.simulated_hall.specs.OneClient.{Talk, Said, answered, next_obeyed, passed, waited, unless_said, longest_wait, next_key}
use Rattle.bean_queue.specs.Effects.{queue_rules}
use Rattle.beanpax.specs.Sessions.{queue, AreAnswers, is_refused}
use Rattle.beanpax.specs.Simulations.{Obeys, Leaves}

unless_same : (s : Said QueueState Reply) (o : Option Reply) (f g : Talk QueueState → Said QueueState Reply)
    → ((t : Talk QueueState) → f t ≡ g t) → unless_said f s o ≡ unless_said g s o
unless_same s None f g same = same s.talk
unless_same s (Some r) f g same = refl

waited_same : (same : Op → Op → Bool) (key : Key) (n : ℕ) (s : Said QueueState Reply) → waited (queue_rules same) key n s ≡ waited queue key n s
waited_same same key zero s = refl
waited_same same key (suc n) s =
    unless_same s s.reply (λ t. waited (queue_rules same) key n (passed (queue_rules same) key t))
    (λ t. waited queue key n (passed queue key t)) (λ t. waited_same same key n (passed queue key t))

-- which operations are one makes no difference to an answer
pub answered_same : (same : Op → Op → Bool) (t : Talk QueueState) (op : Op) → answered (queue_rules same) t op ≡ answered queue t op
unfolding answered
answered_same same t op = waited_same same (next_key t) longest_wait (next_obeyed queue t (Do op))

-- an ask that was answered
pub obeys : (same : Op → Op → Bool) (before after : Talk QueueState → Type 0) (stopped : Type 0) (op : Op) (reply : Reply)
    → ((t : Talk QueueState) → before t → (answered (queue_rules same) t op).reply ≡ Some reply)
    → ((t : Talk QueueState) → before t → after (answered (queue_rules same) t op).talk)
    → Obeys before after stopped op (Ok reply)
obeys same before after stopped op reply replied stood = λ t stands. (
  ap (λ (s : Said QueueState Reply). s.reply) (sym (answered_same same t op)) ∙ replied t stands,
  subst (λ (s : Said QueueState Reply). after s.talk) (answered_same same t op) (stood t stands),
)

-- the asks of a service that stands for a queue, and stops for such reasons
abbrev pub AsksOf : {S : Type 0} → (S → Talk QueueState → Type 0) → (S → S → Op → Type 0) → Asks S
AsksOf stand stopped old op result new = Obeys (stand old) (stand new) (stopped old new op) op result

-- and its end
abbrev pub ClosesOf : {S : Type 0} → (S → Talk QueueState → Type 0) → (S → S → Type 0) → Closes S
ClosesOf stand stopped old result new = Leaves (stand old) (stand new) (stopped old new) result

-- what was answered is what the queue answers
pub are_answers : {S : Type 0} (stand : S → Talk QueueState → Type 0) (stopped : S → S → Op → Type 0) (old new : S)
    (ops : List Op) (answers : List Response) (t : Talk QueueState) → Asked (AsksOf stand stopped) old ops answers new
    → stand old t → AreAnswers t ops answers
are_answers stand stopped old new [] [] t asked stands = tt
are_answers stand stopped old new [] (a ∷ answers) t asked stands = absurd asked
are_answers stand stopped old new (op ∷ ops) [] t asked stands = absurd asked
are_answers stand stopped old new (op ∷ ops) (Refused ∷ answers) t asked stands =
    are_answers stand stopped asked.0 new ops answers t asked.2 (asked.1 t stands)
are_answers stand stopped old new (op ∷ ops) (Replied reply ∷ answers) t asked stands =
    let one = asked.1 t stands in
    (one.0, are_answers stand stopped asked.0 new ops answers (answered queue t op).talk asked.2 one.1)

-- and there is one answer to each operation, but that it may be refused
pub one_answers : (t : Talk QueueState) (ops : List Op) (xs ys : List Response) → AreAnswers t ops xs
    → AreAnswers t ops ys → map is_refused xs ≡ map is_refused ys → xs ≡ ys
one_answers t [] [] [] a b same = refl
one_answers t [] [] (y ∷ ys) a b same = absurd b
one_answers t [] (x ∷ xs) ys a b same = absurd a
one_answers t (op ∷ ops) [] ys a b same = absurd a
one_answers t (op ∷ ops) (x ∷ xs) [] a b same = absurd b
one_answers t (op ∷ ops) (Refused ∷ xs) (Refused ∷ ys) a b same = ap (λ zs. Refused ∷ zs) (one_answers t ops xs ys a b (cc))
one_answers t (op ∷ ops) (Refused ∷ xs) (Replied y ∷ ys) a b same = absurd (cc)
one_answers t (op ∷ ops) (Replied x ∷ xs) (Refused ∷ ys) a b same = absurd (cc)
one_answers t (op ∷ ops) (Replied x ∷ xs) (Replied y ∷ ys) a b same =
    let reply : x ≡ y = cc in
    ap₂ (λ r zs. Replied r ∷ zs) reply (one_answers (answered queue t op).talk ops xs ys a.1 b.1 (cc))
