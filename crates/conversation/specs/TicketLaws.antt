-- Both kinds of tickets keep their acts.
use Rattle.std.specs.Prelude.{◌≡◌, ◌<◌, ◌+◌, ◌-◌, List, [], ◌∷◌, ◌++◌, length, slice_get, Option, None, Some, refl}
use Rattle.std.proofs.Common.{sym, ap, ◌∙◌, length-append, arith}
use Rattle.std.proofs.lemmas.Option.{slice_get-get_or}
use Rattle.std.proofs.Math.Seq.{get_or-append_seam}
use Rattle.bean_words.specs.declared.op.Op.{Op}
use Rattle.bean_words.specs.declared.reply.Reply.{Reply}
use Rattle.hall.specs.declared.ticket.NotedAct.{NotedAct}
use Rattle.hall.specs.Tickets.{TicketState, noted_reply, with_last_reply, with_noted}
use Rattle.conversation.specs.Keeping.{KeepsActs, noted_op, unanswered}
use Rattle.conversation.specs.Tickets.{LeanTicketState, keeping_all, keeping_last, last_of, lean_with_noted}

-- the last of a list that ends so
last_of-append : (acts : List (NotedAct Op Reply)) (a : NotedAct Op Reply) → last_of (acts ++ a ∷ []) ≡ Some a
last_of-append acts a =
    let long : length (acts ++ a ∷ []) - 1 ≡ length acts = omega (arith, length-append acts (a ∷ [])) in
    let within : length acts < length (acts ++ a ∷ []) = omega (arith, length-append acts (a ∷ [])) in
    ap (slice_get (acts ++ a ∷ [])) long ∙ (slice_get-get_or (acts ++ a ∷ []) (length acts) a within ∙ ap Some (get_or-append_seam acts a [] a))

-- its reply is noted there
with_last_reply-append : (acts : List (NotedAct Op Reply)) (a : NotedAct Op Reply) (reply : Reply)
    → with_last_reply (acts ++ a ∷ []) reply ≡ acts ++ record a { reply = Some reply } ∷ []
with_last_reply-append [] a reply = refl
with_last_reply-append (b ∷ []) a reply = refl
with_last_reply-append (b ∷ c ∷ more) a reply = ap (λ (acts : List (NotedAct Op Reply)). b ∷ acts) (with_last_reply-append (c ∷ more) a reply)

-- a note leaves the session as it is
all_stays : (t : TicketState Op Reply) (reply : Option Reply) → (with_noted t reply).session ≡ t.session
all_stays t None = refl
all_stays t (Some reply) = refl

lean_stays : (t : LeanTicketState) (reply : Option Reply) → (lean_with_noted t reply).session ≡ t.session
lean_stays t None = refl
lean_stays t (Some reply) = refl

pub keeps_all : KeepsActs keeping_all
keeps_all = record {
  adds = λ t acts act is. ap (λ (acts : List (NotedAct Op Reply)). acts ++ unanswered act ∷ []) is;
  notes = λ t before op last reply is.
      ap (λ (acts : List (NotedAct Op Reply)). with_last_reply acts reply) is ∙ with_last_reply-append before (noted_op op last) reply;
  leaves = λ t. refl;
  tells = λ t before op last is.
      ap (λ (acts : List (NotedAct Op Reply)). noted_reply (last_of acts)) is ∙ ap noted_reply (last_of-append before (noted_op op last));
  stays_with_act = λ t act. refl;
  stays_with_noted = all_stays;
}

-- one act more is counted
more_acts : (acts : List (NotedAct Op Reply)) (a : NotedAct Op Reply) → length acts + 1 ≡ length (acts ++ a ∷ [])
more_acts acts a = omega (arith, length-append acts (a ∷ []))

-- as many as with another act in the place of the last one
as_many : (before : List (NotedAct Op Reply)) (a b : NotedAct Op Reply) → length (before ++ a ∷ []) ≡ length (before ++ b ∷ [])
as_many before a b = sym (more_acts before a) ∙ more_acts before b

pub keeps_last : KeepsActs keeping_last
keeps_last = record {
  adds = λ t acts act is. (ap (λ n. n + 1) is.0 ∙ more_acts acts (unanswered act), sym (ap noted_reply (last_of-append acts (unanswered act))));
  notes = λ t before op last reply is.
      (is.0 ∙ as_many before (noted_op op last) (noted_op op (Some reply)), sym (ap noted_reply (last_of-append before (noted_op op (Some reply)))));
  leaves = λ t. refl;
  tells = λ t before op last is. is.1 ∙ ap noted_reply (last_of-append before (noted_op op last));
  stays_with_act = λ t act. refl;
  stays_with_noted = lean_stays;
}
