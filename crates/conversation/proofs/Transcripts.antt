-- What a conversation that has left has told.
use Rattle.std.proofs.Common.{◌≡◌, ℕ, List, [], ◌++◌, Some, sym, ap, subst, ◌∙◌}
use Rattle.std.proofs.lemmas.List.{append-nil}
use Rattle.session.specs.declared.faults.End.{End}
use Rattle.session.specs.Items.{Response, IsTranscript, operations}
use Rattle.conversation.specs.declared.stage.Stage.TheVariants.{Left}
use Rattle.hall.specs.declared.ticket.NotedAct.{NotedAct}
use Rattle.bean_words.specs.declared.op.Op.{Op}
use Rattle.bean_words.specs.declared.reply.Reply.{Reply}
use Rattle.conversation.specs.Keeping.{Keeping}
use Rattle.conversation.specs.Talks.{ConversationState}
use Rattle.conversation.specs.Conversing.{Stands, Converses, noted_replies, replies_among}
use Rattle.conversation.proofs.Acts.{replies-acts_of, replies-closed}

pub whole_transcript : {T : Type 0} (keeping : Keeping T) (fed given : List ℕ) (talk : ConversationState T) (end : End)
    → Converses keeping fed given talk → talk.stage ≡ Left (Some end) → talk.session.unsent ≡ []
    → (answers : List Response) × IsTranscript talk.session.profile fed answers given end
    × ((acts : List (NotedAct Op Reply)) × keeping.IsOf talk.ticket acts × (noted_replies acts ≡ replies_among answers))
unfolding Converses
whole_transcript keeping fed given talk end c is none =
    let l = subst (λ stage. Stands stage talk.session fed c.0 (given ++ talk.session.unsent)) is c.2 in
    let w = l.1 in (
      w.answers,
      (w.items, w.reads, sym (append-nil given) ∙ (ap (λ u. given ++ u) (sym none) ∙ w.answered.text)),
      (
        c.0,
        c.1,
        ap noted_replies l.2 ∙ (replies-closed l.0 ∙ (ap noted_replies w.answered.noted ∙
            replies-acts_of (operations w.items) w.answers w.answered.each)),
      ),
    )
