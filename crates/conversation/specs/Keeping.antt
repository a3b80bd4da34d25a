-- What a session's own record of its acts is, apart from its code: it has all of them, or the last alone.
use Rattle.std.specs.Prelude.{◌≡◌, ℕ, List, [], ◌∷◌, ◌++◌, Option, None, Some}
use Rattle.object.specs.declared.command.Act.{Act}
use Rattle.object.specs.declared.command.Act.TheVariants.{Do, Close}
use Rattle.bean_words.specs.declared.op.Op.{Op}
use Rattle.bean_words.specs.declared.reply.Reply.{Reply}
use Rattle.hall.specs.declared.ticket.NotedAct.{NotedAct}

-- an act that was handed in, for which no reply is noted
abbrev pub unanswered : Act Op → NotedAct Op Reply
unanswered act = record { act = act; reply = None }

-- an operation, and the reply that was noted for it, if any
abbrev pub noted_op : Op → Option Reply → NotedAct Op Reply
noted_op op reply = record { act = Do op; reply = reply }

-- and the session's end
abbrev pub noted_close : NotedAct Op Reply
noted_close = unanswered Close

-- What becomes of a ticket as an act more is handed in, and as a reply is noted for the last act, where there is one; the number
-- of its session, and the reply that is noted for the last act; and of which acts it is.
pub record Keeping (T : Type 0) : Type 1 where
  pub with_act : T → Act Op → T
  pub with_noted : T → Option Reply → T
  pub session : T → ℕ
  pub last_reply : T → Option Reply
  pub IsOf : T → List (NotedAct Op Reply) → Type 0

-- Where it is of some acts, it is of what they become: of an act more (`adds`), and of the last operation with its reply
-- (`notes`). Where no reply came nothing is noted (`leaves`), and the last reply is that of the last operation (`tells`). Its
-- session stays (`stays_with_act`, `stays_with_noted`).
pub record KeepsActs {T : Type 0} (keeping : Keeping T) : Type 0 where
  pub adds : (t : T) (acts : List (NotedAct Op Reply)) (act : Act Op)
      → keeping.IsOf t acts → keeping.IsOf (keeping.with_act t act) (acts ++ unanswered act ∷ [])
  pub notes : (t : T) (before : List (NotedAct Op Reply)) (op : Op) (last : Option Reply) (reply : Reply)
      → keeping.IsOf t (before ++ noted_op op last ∷ [])
      → keeping.IsOf (keeping.with_noted t (Some reply)) (before ++ noted_op op (Some reply) ∷ [])
  pub leaves : (t : T) → keeping.with_noted t None ≡ t
  pub tells : (t : T) (before : List (NotedAct Op Reply)) (op : Op) (last : Option Reply)
      → keeping.IsOf t (before ++ noted_op op last ∷ []) → keeping.last_reply t ≡ last
  pub stays_with_act : (t : T) (act : Act Op) → keeping.session (keeping.with_act t act) ≡ keeping.session t
  pub stays_with_noted : (t : T) (reply : Option Reply) → keeping.session (keeping.with_noted t reply) ≡ keeping.session t
