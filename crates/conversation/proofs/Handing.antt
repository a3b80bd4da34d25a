-- What is done at a desk keeps where a conversation stands.
use Rattle.std.proofs.Common.{◌≡◌, inl, inr, ℕ, Bool, true, false, List, [], ◌∷◌, ◌++◌, Option, None, Some, Result, Ok, Err, refl, sym, ap, subst, ◌∙◌}
use Rattle.std.specs.Prelude.{IsErr}
use Rattle.std.specs.declared.alloc.AllocError.{AllocError}
use Rattle.std.proofs.lemmas.List.{append-nil, append_assoc}
use Rattle.bean_words.specs.declared.op.Op.{Op}
use Rattle.bean_words.specs.declared.reply.Reply.{Reply}
use Rattle.object.specs.declared.command.Act.TheVariants as act
use Rattle.bean_codec.specs.declared.profile.Profile.{Profile}
use Rattle.bean_codec.specs.declared.request.Request.TheVariants.{Do}
use Rattle.bean_codec.specs.Replies.{reply_text}
use Rattle.session.specs.Items.{refused_text}
use Rattle.session.specs.Items.Response.{Refused}
use Rattle.session.specs.Held.{StandsBefore, ComesTo}
use Rattle.hall.specs.declared.error.HallError.{HallError}
use Rattle.hall.specs.declared.ticket.NotedAct.{NotedAct}
use Rattle.conversation.specs.declared.stage.Stage.{Stage}
use Rattle.conversation.specs.declared.stage.Stage.TheVariants.{Looking, Reading, Found, Asked, Leaving, Left}
use Rattle.conversation.specs.Talks.{ConversationState, is_awaiting}
use Rattle.conversation.specs.Keeping.{Keeping, KeepsActs, noted_op, noted_close, unanswered}
use Rattle.conversation.specs.Conversing.{Along, Pending, Stands, Converses}
use Rattle.conversation.specs.Desks.{Submits, HandsIn, AsksOp, Notes, Tells, hands_in, asking, answering, closing, giving_up, noting}
use Rattle.conversation.proofs.Going.{along_answering, along_gone, pending_first, pending_telling}

-- where memory was refused, it is noted at most
pub notes_refused : {T : Type 0} (keeping : Keeping T) (to_note noted : Option Reply) (old new : ConversationState T) (result : Result Bool AllocError)
    → IsErr result → is_awaiting old.stage ≡ true → new ≡ noting keeping noted old → Notes keeping to_note old new result
notes_refused keeping to_note noted old new (Ok told) fails asked is = let no : false ≡ true = fails in absurd (cc)
notes_refused keeping to_note noted old new (Err error) fails asked is =
    record { tells = λ _. tt; err = (noted, is); idle = λ e. absurd (cc (asked, e)) }

-- The ticket, once a reply was noted in it or none, is of acts of which the last is the open operation.
module _ {T : Type 0} (keeping : Keeping T) (laws : KeepsActs keeping) (t : T) (profile : Profile) (fed told : List ℕ) (P : Op → List ℕ → Type 0) where
  abbrev IsNoted : T → Type 0
  IsNoted t = (acts : List (NotedAct Op Reply)) × keeping.IsOf t acts × Pending profile fed acts told P

  is_noted : (noted : Option Reply) → IsNoted t → IsNoted (keeping.with_noted t noted)
  is_noted None n = (n.0, subst (λ (t : T). keeping.IsOf t n.0) (sym (laws.leaves t)) n.1, n.2)
  is_noted (Some reply) n =
      let p = n.2 in (
        p.before ++ noted_op p.op (Some reply) ∷ [],
        laws.notes t p.before p.op p.reply reply (subst (λ acts. keeping.IsOf t acts) p.handed_in n.1),
        record { before = p.before; op = p.op; reply = Some reply; handed_in = refl; along = p.along },
      )

module _ {T : Type 0} (keeping : Keeping T) (laws : KeepsActs keeping) (fed given : List ℕ) (old new : ConversationState T) where
  -- it is as it would be then
  same : (talk : ConversationState T) → new ≡ talk → Converses keeping fed given talk → Converses keeping fed given new
  same talk is c = subst (λ (t : ConversationState T). Converses keeping fed given t) (sym is) c

  -- what it stands on now
  abbrev Was : Stage → List (NotedAct Op Reply) → Type 0
  Was stage acts = Stands stage old.session fed acts (given ++ old.session.unsent)

  -- the operation is asked, or answered as refused
  asks_so : {D : Type 0} (submits : Submits D T) (before after : D) (op : Op) (acts : List (NotedAct Op Reply)) → keeping.IsOf old.ticket acts
      → AsksOp keeping submits before after op old new → Was (Found op) acts → Converses keeping fed given new
  unfolding Converses
  asks_so submits before after op acts k (inl asked) a =
      same (asking keeping op old) asked.1
      (acts ++ unanswered (act.Do op) ∷ [], laws.adds old.ticket acts (act.Do op) k, pending_first old.session.profile old.session op a)
  asks_so submits before after op acts k (inr refused) a =
      let told = along_answering old.session.profile old.session op Refused a in
      same (answering refused_text old) refused.1 (
        acts,
        k,
        subst (λ acts. Along old.session.profile fed acts (given ++ (old.session.unsent ++ refused_text)) (StandsBefore old.session)) (append-nil acts)
            (subst (λ u. Along old.session.profile fed (acts ++ []) u (StandsBefore old.session)) (append_assoc given old.session.unsent refused_text) told),
      )

  handed_so : {D : Type 0} (submits : Submits D T) (before after : D) (stage : Stage) (result : Result Unit HallError)
      → old.stage ≡ stage → HandsIn keeping submits before after old new result → (acts : List (NotedAct Op Reply)) → keeping.IsOf old.ticket acts
      → Was stage acts → Converses keeping fed given old → Converses keeping fed given new
  unfolding Converses
  handed_so submits before after (Found op) (Ok done) is h acts k a c = asks_so submits before after op acts k (h.asks op is) a
  handed_so submits before after (Found op) (Err error) is h acts k a c = same (giving_up old) (h.gives_up op is).1 (acts, k, along_gone old.session.profile a)
  handed_so submits before after (Leaving how) (Ok done) is h acts k a c =
      same (closing keeping how old) (h.closes how is).1 (acts ++ noted_close ∷ [], laws.adds old.ticket acts act.Close k, (acts, a, refl))
  handed_so submits before after (Leaving how) (Err error) is h acts k a c = same old (h.owes how is).1 c
  handed_so submits before after Looking result is h acts k a c = same old (h.idle (ap hands_in is)).2 c
  handed_so submits before after Reading result is h acts k a c = same old (h.idle (ap hands_in is)).2 c
  handed_so submits before after Asked result is h acts k a c = same old (h.idle (ap hands_in is)).2 c
  handed_so submits before after (Left how) result is h acts k a c = same old (h.idle (ap hands_in is)).2 c

  pub goes_handing_in : {D : Type 0} (submits : Submits D T) (before after : D) (result : Result Unit HallError)
      → HandsIn keeping submits before after old new result → Converses keeping fed given old → Converses keeping fed given new
  unfolding Converses
  goes_handing_in submits before after result h c = handed_so submits before after old.stage result refl h c.0 c.1 c.2 c

  -- what is left begins with the operation that is asked
  abbrev IsNext : Op → List ℕ → Type 0
  IsNext op = ComesTo old.session.profile (Some (Do op)) old.session

  -- where it is asked, the last of the acts is the open operation
  abbrev IsOpen : T → Type 0
  IsOpen t = IsNoted keeping laws old.ticket old.session.profile fed (given ++ old.session.unsent) IsNext t

  -- a reply is noted, or none
  noting_so : (noted : Option Reply) → old.stage ≡ Asked → IsOpen old.ticket → Converses keeping fed given (noting keeping noted old)
  unfolding Converses
  noting_so noted is n =
      let m = is_noted keeping laws old.ticket old.session.profile fed (given ++ old.session.unsent) IsNext noted n in
      (m.0, m.1, subst (λ stage. Stands stage old.session fed m.0 (given ++ old.session.unsent)) (sym is) m.2)

  -- and told, where there is one
  tells_so : (told : Bool) (noted now : Option Reply) → keeping.last_reply (keeping.with_noted old.ticket noted) ≡ now
      → Tells told now (noting keeping noted old) new → old.stage ≡ Asked → IsOpen old.ticket → Converses keeping fed given new
  unfolding Converses
  tells_so told noted None is tells stage n = same (noting keeping noted old) tells.1 (noting_so noted stage n)
  tells_so told noted (Some reply) is tells stage n =
      let u = old.session.unsent in
      let m = is_noted keeping laws old.ticket old.session.profile fed (given ++ u) IsNext noted n in
      let p = m.2 in
      let of_last = subst (λ acts. keeping.IsOf (keeping.with_noted old.ticket noted) acts) p.handed_in m.1 in
      let last : p.reply ≡ Some reply = sym (laws.tells (keeping.with_noted old.ticket noted) p.before p.op p.reply of_last) ∙ is in
      let handed_in : m.0 ≡ p.before ++ noted_op p.op (Some reply) ∷ [] = p.handed_in ∙ ap (λ r. p.before ++ noted_op p.op r ∷ []) last in
      same (answering (reply_text reply) (noting keeping noted old)) tells.1 (
        m.0,
        m.1,
        subst (λ acts. Along old.session.profile fed acts (given ++ (u ++ reply_text reply)) (StandsBefore old.session)) (sym handed_in)
            (subst (λ v. Along old.session.profile fed (p.before ++ noted_op p.op (Some reply) ∷ []) v (StandsBefore old.session))
            (append_assoc given u (reply_text reply))
            (pending_telling old.session.profile p.before p.op reply fed (given ++ u) old.session p.along)),
      )

  noted_so : (to_note : Option Reply) (stage : Stage) (result : Result Bool AllocError) → old.stage ≡ stage
      → Notes keeping to_note old new result → (acts : List (NotedAct Op Reply)) → keeping.IsOf old.ticket acts → Was stage acts
      → Converses keeping fed given old → Converses keeping fed given new
  unfolding Converses
  noted_so to_note Asked (Ok told) is n acts k p c =
      tells_so told to_note (keeping.last_reply (keeping.with_noted old.ticket to_note)) refl (n.tells (ap is_awaiting is)) is (acts, k, p)
  noted_so to_note Asked (Err error) is n acts k p c = same (noting keeping n.err.0 old) n.err.1 (noting_so n.err.0 is (acts, k, p))
  noted_so to_note Looking result is n acts k p c = same old (n.idle (ap is_awaiting is)).1 c
  noted_so to_note Reading result is n acts k p c = same old (n.idle (ap is_awaiting is)).1 c
  noted_so to_note (Found op) result is n acts k p c = same old (n.idle (ap is_awaiting is)).1 c
  noted_so to_note (Leaving how) result is n acts k p c = same old (n.idle (ap is_awaiting is)).1 c
  noted_so to_note (Left how) result is n acts k p c = same old (n.idle (ap is_awaiting is)).1 c

  pub goes_noting : (to_note : Option Reply) (result : Result Bool AllocError) → Notes keeping to_note old new result
      → Converses keeping fed given old → Converses keeping fed given new
  unfolding Converses
  goes_noting to_note result n c = noted_so to_note old.stage result refl n c.0 c.1 c.2 c
