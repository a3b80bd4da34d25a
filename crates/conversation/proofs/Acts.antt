-- The acts that a ticket has.
use Rattle.std.proofs.Common.{◌≡◌, List, [], ◌∷◌, ◌++◌, Some, length, refl, ap, ◌∙◌, arith}
use Rattle.std.proofs.lemmas.List.{append-nil}
use Rattle.std.proofs.lemmas.List.Elements.{filter_map-append}
use Rattle.bean_words.specs.declared.op.Op.{Op}
use Rattle.bean_words.specs.declared.reply.Reply.{Reply}
use Rattle.session.specs.Items.{Response}
use Rattle.session.specs.Items.Response.{Replied, Refused}
use Rattle.hall.specs.declared.ticket.NotedAct.{NotedAct}
use Rattle.conversation.specs.Keeping.{noted_op, noted_close}
use Rattle.conversation.specs.Conversing.{acts_of, noted_replies, replies_among}

-- with as many answers as operations, they come one after the other
pub acts_of-append : (ops more : List Op) (xs ys : List Response) → length xs ≡ length ops
    → acts_of (ops ++ more) (xs ++ ys) ≡ acts_of ops xs ++ acts_of more ys
acts_of-append [] more [] ys n = refl
acts_of-append [] more (x ∷ xs) ys n = absurd (omega (arith, n))
acts_of-append (op ∷ ops) more [] ys n = absurd (omega (arith, n))
acts_of-append (op ∷ ops) more (Replied reply ∷ xs) ys n =
    ap (λ acts. noted_op op (Some reply) ∷ acts) (acts_of-append ops more xs ys (omega (arith, n)))
acts_of-append (op ∷ ops) more (Refused ∷ xs) ys n = acts_of-append ops more xs ys (omega (arith, n))

-- the replies that are noted are those among the answers
pub replies-acts_of : (ops : List Op) (answers : List Response) → length answers ≡ length ops
    → noted_replies (acts_of ops answers) ≡ replies_among answers
replies-acts_of [] [] n = refl
replies-acts_of [] (x ∷ answers) n = absurd (omega (arith, n))
replies-acts_of (op ∷ ops) [] n = absurd (omega (arith, n))
replies-acts_of (op ∷ ops) (Replied reply ∷ answers) n = ap (λ replies. reply ∷ replies) (replies-acts_of ops answers (omega (arith, n)))
replies-acts_of (op ∷ ops) (Refused ∷ answers) n = replies-acts_of ops answers (omega (arith, n))

-- the end has none
pub replies-closed : (acts : List (NotedAct Op Reply)) → noted_replies (acts ++ noted_close ∷ []) ≡ noted_replies acts
replies-closed acts = filter_map-append (λ (a : NotedAct Op Reply). a.reply) acts (noted_close ∷ []) ∙ append-nil (noted_replies acts)
