-- Some first items are answered, and it goes on.
use Rattle.std.proofs.Common.{◌≡◌, inl, inr, ℕ, List, [], ◌∷◌, ◌++◌, Option, None, Some, Ok, refl, sym, ap, subst, ◌∙◌}
use Rattle.std.proofs.lemmas.List.{append_assoc}
use Rattle.bean_words.specs.declared.op.Op.{Op}
use Rattle.bean_words.specs.declared.reply.Reply.{Reply}
use Rattle.bean_codec.specs.declared.profile.Profile.{Profile}
use Rattle.bean_codec.specs.declared.request.Request.{Request}
use Rattle.bean_codec.specs.declared.request.Request.TheVariants.{Do, Quit}
use Rattle.bean_codec.specs.Replies.{reply_text}
use Rattle.session.specs.declared.faults.End.{End}
use Rattle.session.specs.Items.{Response, answer_text, told_text}
use Rattle.session.specs.Items.Response.{Replied}
use Rattle.session.specs.Held.{Held, StandsBefore, ComesTo, Finds, nothing_held, faulty}
use Rattle.session.proofs.Items.{reads_one, reads_more}
use Rattle.session.proofs.Going.{reads_in_front}
use Rattle.session.proofs.Endings.{reads_to_end, reads_to_quit}
use Rattle.hall.specs.declared.ticket.NotedAct.{NotedAct}
use Rattle.conversation.specs.Keeping.{noted_op}
use Rattle.conversation.specs.Conversing.{acts_of, ToldWhole, Along, Pending, BeginsWithOp, EndsSo}
use Rattle.conversation.proofs.Answers.{answered_nothing, answered_faults, answered_quit, answered_op}

module _ (profile : Profile) where
  -- at first
  pub along_at_first : Along profile [] [] [] (StandsBefore (nothing_held profile))
  along_at_first = record { items = []; answers = []; rest = []; reads = refl; answered = answered_nothing; left = ([], refl, refl) }

  -- of what is left less is said
  pub along_with : {fed : List ℕ} {acts : List (NotedAct Op Reply)} {told : List ℕ} {P : List ℕ → Type 0} (Q : List ℕ → Type 0)
      → ((t : List ℕ) → P t → Q t) → Along profile fed acts told P → Along profile fed acts told Q
  along_with Q f a = record { items = a.items; answers = a.answers; rest = a.rest; reads = a.reads; answered = a.answered; left = f a.rest a.left }

  -- a piece is fed
  pub along_feeding : {fed : List ℕ} {acts : List (NotedAct Op Reply)} {told : List ℕ} {P : List ℕ → Type 0} (bytes : List ℕ) (Q : List ℕ → Type 0)
      → ((t : List ℕ) → P t → Q (t ++ bytes)) → Along profile fed acts told P → Along profile (fed ++ bytes) acts told Q
  along_feeding {fed = fed} bytes Q f a = record {
    items = a.items;
    answers = a.answers;
    rest = a.rest ++ bytes;
    reads = reads_in_front profile fed bytes a.rest a.items a.reads;
    answered = a.answered;
    left = f a.rest a.left;
  }

  -- the next request is looked for
  pub along_finding : {fed : List ℕ} {acts : List (NotedAct Op Reply)} (given : List ℕ) (s t : Held) (found : Option Request)
      → s.profile ≡ profile → ((text : List ℕ) → StandsBefore s text → Finds s.profile s t text found)
      → Along profile fed acts (given ++ s.unsent) (StandsBefore s) → Along profile fed acts (given ++ t.unsent) (ComesTo profile found t)
  along_finding {fed = fed} {acts = acts} given s t found speaks finds a =
      let f = subst (λ p. Finds p s t a.rest found) speaks (finds a.rest a.left) in
      let more = answered_faults a.items f.0 a.answers acts (given ++ s.unsent) a.answered in
      let text : given ++ t.unsent ≡ (given ++ s.unsent) ++ told_text (faulty f.0) [] =
      ap (λ u. given ++ u) f.3 ∙ sym (append_assoc given s.unsent (told_text (faulty f.0) [])) in
      record {
        items = a.items ++ faulty f.0;
        answers = a.answers;
        rest = f.1;
        reads = reads_more profile fed a.items (faulty f.0) a.rest f.1 a.reads f.2;
        answered = record { each = more.each; noted = more.noted; text = text ∙ more.text };
        left = f.4;
      }

  -- the operation that comes next is answered
  pub along_answering : {fed : List ℕ} {acts : List (NotedAct Op Reply)} {told : List ℕ} (t : Held) (op : Op) (answer : Response)
      → Along profile fed acts told (ComesTo profile (Some (Do op)) t)
      → Along profile fed (acts ++ acts_of (op ∷ []) (answer ∷ [])) (told ++ answer_text answer) (StandsBefore t)
  along_answering {fed = fed} {acts = acts} {told = told} t op answer a = record {
    items = a.items ++ Ok (Do op) ∷ [];
    answers = a.answers ++ answer ∷ [];
    rest = a.left.1;
    reads = reads_one profile fed a.items a.rest a.left.0 a.left.1 (Ok (Do op)) a.reads a.left.2 a.left.3 refl;
    answered = answered_op a.items a.answers acts told op answer a.answered;
    left = a.left.4;
  }

  -- no item is left
  pub whole_eof : {fed : List ℕ} {acts : List (NotedAct Op Reply)} {told : List ℕ} (t : Held)
      → Along profile fed acts told (ComesTo profile None t) → ToldWhole profile fed acts told End.Eof
  whole_eof {fed = fed} t a = record {
    items = a.items;
    answers = a.answers;
    reads = reads_to_end profile fed a.items a.rest a.reads a.left.1;
    answered = a.answered;
  }

  -- a quit is next
  pub whole_quit : {fed : List ℕ} {acts : List (NotedAct Op Reply)} {told : List ℕ} (t : Held)
      → Along profile fed acts told (ComesTo profile (Some Quit) t) → ToldWhole profile fed acts told End.Quit
  whole_quit {fed = fed} {acts = acts} {told = told} t a = record {
    items = a.items ++ Ok Quit ∷ [];
    answers = a.answers;
    reads = reads_to_quit profile fed a.items a.rest a.left.0 a.left.1 a.reads a.left.2 a.left.3;
    answered = answered_quit a.items a.answers acts told a.answered;
  }

  -- the operation that comes next is handed in
  pub pending_first : {fed : List ℕ} {acts : List (NotedAct Op Reply)} {told : List ℕ} (t : Held) (op : Op)
      → Along profile fed acts told (ComesTo profile (Some (Do op)) t)
      → Pending profile fed (acts ++ noted_op op None ∷ []) told (λ op. ComesTo profile (Some (Do op)) t)
  pending_first {acts = acts} t op a = record { before = acts; op = op; reply = None; handed_in = refl; along = a }

  -- the reply that is noted for it is told
  pub pending_telling : (before : List (NotedAct Op Reply)) (op : Op) (reply : Reply) (fed told : List ℕ) (s : Held)
      → Along profile fed before told (ComesTo profile (Some (Do op)) s)
      → Along profile fed (before ++ noted_op op (Some reply) ∷ []) (told ++ reply_text reply) (StandsBefore s)
  pending_telling before op reply fed told s a = along_answering s op (Replied reply) a

  -- the client goes
  pub pending_gone : {fed : List ℕ} {acts : List (NotedAct Op Reply)} {told : List ℕ} (t : Held)
      → Pending profile fed acts told (λ op. ComesTo profile (Some (Do op)) t) → EndsSo profile None fed acts told
  pending_gone t p = inr (record {
    before = p.before;
    op = p.op;
    reply = p.reply;
    handed_in = p.handed_in;
    along = along_with (BeginsWithOp profile p.op) (λ text l. (l.0, l.1, l.2, l.3)) p.along;
  })

  pub along_gone : {fed : List ℕ} {acts : List (NotedAct Op Reply)} {told : List ℕ} {P : List ℕ → Type 0}
      → Along profile fed acts told P → EndsSo profile None fed acts told
  along_gone a = inl (along_with (λ text. Unit {0}) (λ text l. tt) a)
