-- What was told where a hall that stands for a queue was the service.
use Rattle.std.proofs.Common.{◌⊎◌, inl, inr, ℕ, List, [], ◌∷◌, ◌++◌, Option, Result, Ok, Err, IfOk, OnErr, refl, sym, ap, subst, ◌∙◌}
use Rattle.std.proofs.lemmas.List.{append-nil}
use Rattle.std.proofs.KnownBytes.{Appends-nil, Consumes-nil}
use Rattle.bean_codec.specs.declared.profile.Profile.{Profile}
use Rattle.bean_codec.specs.declared.request.Request.TheVariants.{Do}
use Rattle.bean_queue.specs.Queue.{QueueState}
use Rattle.bean_words.specs.declared.op.Op.{Op}
use Rattle.session.specs.declared.faults.End.{End}
use Rattle.session.specs.declared.faults.ServiceFault.{ServiceFault}
use Rattle.session.specs.declared.faults.SessionFault.{SessionFault}
use Rattle.session.specs.declared.faults.SessionFault.TheVariants.{OutOfMemory, ReadFailed, WriteFailed, ServiceStopped}
use Rattle.session.specs.Items.{Reads, ReadsFirst, operations, told_text}
use Rattle.session.specs.Serving.{Asks, Whole, StopsAt, Partly, BreaksOff, Closes, ClosedBadly, ClosedOnce, Over, Served}
use Rattle.session.specs.StreamStates.{StreamState}
use Rattle.simulated_hall.specs.OneClient.{Talk, opened}
use Rattle.beanpax.specs.Sessions.{queue}
use Rattle.beanpax.specs.Told.{AreAnswersTold, BeginsTold}
use Rattle.beanpax.specs.Runs.{TellsAll, TellsBeginning}
use Rattle.session.proofs.Whole.{HasFront, reads_as_items}
use Rattle.beanpax.proofs.Beginnings.{told_begins, begins, begins_first}
use Rattle.beanpax.proofs.Obeyed.{AsksOf, are_answers}

-- Over streams: a is what the reader would give at first and b what it would now, h what the writer held at first and
-- k what it holds now.
over : (a b h k : Option (List ℕ)) (P Q : List ℕ → List ℕ → Type 0)
    → ((input output : List ℕ) → P input output → Q input output) → Over a b h k P → Over a b h k Q
over a b h k P Q f o = (o.0, o.1, o.2, o.3, f o.0 o.1 o.4)

module _ (profile : Profile) where
  pub whole : {S : Type 0} (stand : S → Talk QueueState → Type 0) (stopped : S → S → Op → Type 0) (old new : S)
      (input output : List ℕ) (end : End) → stand old (opened queue)
      → Whole profile (AsksOf stand stopped) old new input output end → AreAnswersTold profile input output end
  whole stand stopped old new input output end stands w =
      (w.1, (w.0, w.2, are_answers stand stopped old new (operations w.0) w.1 (opened queue) w.3 stands, w.4))

  -- all is a beginning of it
  pub told_begins_told : (input output : List ℕ) (end : End) → AreAnswersTold profile input output end → BeginsTold profile input output
  told_begins_told input output end t =
      let items = t.1.0 in
      begins profile input output [] items [] end t.0 (subst (λ is. Reads profile input is end) (sym (append-nil items)) t.1.1) t.1.2
      (append-nil output ∙ t.1.3)

  pub nothing_begins : ((text : List ℕ) → HasFront profile text) → (input : List ℕ) → BeginsTold profile input []
  nothing_begins front input = let r = reads_as_items profile front input in (r.0, r.1, [], told_text r.0 [], r.2, ([], operations r.0, refl, tt), refl)

  pub stops_at : {S : Type 0} (stand : S → Talk QueueState → Type 0) (stopped : S → S → Op → Type 0) (old new : S)
      (input output : List ℕ) → ((text : List ℕ) → HasFront profile text) → stand old (opened queue)
      → StopsAt profile (AsksOf stand stopped) old new input output → BeginsTold profile input output
  stops_at stand stopped old new input output front stands s =
      let r = are_answers stand stopped old s.4 (operations s.0) s.1 (opened queue) s.6 stands in
      begins_first profile front input output [] s.0 (Ok (Do s.2) ∷ []) s.3 s.1 s.5 r (append-nil output ∙ s.8)

  pub partly : {S : Type 0} (stand : S → Talk QueueState → Type 0) (stopped : S → S → Op → Type 0) (old new : S)
      (input output : List ℕ) → ((text : List ℕ) → HasFront profile text) → stand old (opened queue)
      → Partly profile (AsksOf stand stopped) old new input output → BeginsTold profile input output
  partly stand stopped old new input output front stands p =
      let items = p.0 ++ p.1 in
      let r = are_answers stand stopped old new (operations items) p.2 (opened queue) p.6 stands in
      let l = told_begins p.0 p.1 p.2 [] in
      begins_first profile front input output l.0 items [] p.3 p.2 (subst (λ is. ReadsFirst profile input is p.3) (sym (append-nil items)) p.4) r
      (ap (λ text. text ++ l.0) p.7 ∙ l.1 ∙ ap (λ xs. told_text items xs) (append-nil p.2))

  pub breaks_off : {S : Type 0} (stand : S → Talk QueueState → Type 0) (stopped : S → S → Op → Type 0) (old new : S)
      (input output : List ℕ) → ((text : List ℕ) → HasFront profile text) → stand old (opened queue)
      → BreaksOff profile (AsksOf stand stopped) old new input output → BeginsTold profile input output
  breaks_off stand stopped old new input output front stands b =
      let items = b.0 ++ b.1 in
      let r = are_answers stand stopped old new (operations items) b.2 (opened queue) b.8 stands in
      begins_first profile front input output b.5 items [] b.3 b.2 (subst (λ is. ReadsFirst profile input is b.3) (sym (append-nil items)) b.6) r b.10

  -- what follows from how the session broke off, and from a session that went well
  either : {S : Type 0} (P : S → Type 0) (R : Type 0) (asks : Asks S) (closes : Closes S) (old new : S)
      (after : StreamState) (closed : Result Unit ServiceFault) (input output : List ℕ)
      → ((last : S) → P last → R) → ((last : S) (end : End) → Whole profile asks old last input output end → R)
      → ClosedOnce closes P new ⊎ ClosedBadly profile asks closes old new after closed input output → R
  either P R asks closes old new after closed input output broke went (inl w) = broke w.1.0 w.1.1
  either P R asks closes old new after closed input output broke went (inr w) = went w.1.0 w.0 w.1.1

  pub served : {S : Type 0} (stand : S → Talk QueueState → Type 0) (stopped : S → S → Op → Type 0) (closes : Closes S)
      (old new : S) (before after : StreamState) (r : Result End SessionFault)
      → stand old (opened queue) → Served profile (AsksOf stand stopped) closes old new before after r
      → IfOk r (TellsAll profile before.remaining after.remaining before.contents after.contents)
  served stand stopped closes old new before after (Ok end) stands told =
      over _ _ _ _ _ _ (λ input output w. whole stand stopped old w.0 input output end stands w.1) told.ok
  served stand stopped closes old new before after (Err e) stands told = tt

  pub served_partly : {S : Type 0} (stand : S → Talk QueueState → Type 0) (stopped : S → S → Op → Type 0)
      (closes : Closes S) (old new : S) (before after : StreamState) (r : Result End SessionFault)
      → ((text : List ℕ) → HasFront profile text) → stand old (opened queue) → Served profile (AsksOf stand stopped) closes old new before after r
      → OnErr r (TellsBeginning profile before.remaining after.remaining before.contents after.contents)
  served_partly stand stopped closes old new before after (Ok end) front stands told = tt
  served_partly stand stopped closes old new before after (Err ReadFailed) front stands told =
      over _ _ _ _ _ _ (λ input output w. told_begins_told input output End.Eof
      (whole stand stopped old w.1.0 input output End.Eof stands w.1.1)) (told.all_was_told refl)
  served_partly stand stopped closes old new before after (Err WriteFailed) front stands told =
      over _ _ _ _ _ _ (λ input output w. breaks_off stand stopped old w.1.0 input output front stands w.1.1) (told.breaks_off refl)
  served_partly stand stopped closes old new before after (Err ServiceStopped) front stands told =
      over _ _ _ _ _ _ (λ input output. either _ (BeginsTold profile input output) (AsksOf stand stopped) closes old new after
      (Err ServiceFault.Stopped) input output
      (λ last. stops_at stand stopped old last input output front stands)
      (λ last end w. told_begins_told input output end (whole stand stopped old last input output end stands w))) (told.stopped refl)
  served_partly stand stopped closes old new before after (Err OutOfMemory) front stands told =
      over _ _ _ _ _ _ (λ input output. either _ (BeginsTold profile input output) (AsksOf stand stopped) closes old new after
      (Err ServiceFault.Refused) input output
      (λ last. partly stand stopped old last input output front stands)
      (λ last end w. told_begins_told input output end (whole stand stopped old last input output end stands w))) (told.out_of_memory refl)

  -- nothing was read and nothing written
  pub nothing_served : {X E : Type 0} (r : Result X E) (a h : Option (List ℕ)) → ((text : List ℕ) → HasFront profile text)
      → OnErr r (TellsBeginning profile a a h h)
  nothing_served (Ok x) a h front = tt
  nothing_served (Err e) a h front = ([], [], Consumes-nil a, Appends-nil h, nothing_begins front [])
