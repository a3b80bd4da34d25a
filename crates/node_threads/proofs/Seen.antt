-- What a session says of a service, as it is said of what is seen of that service.
use Rattle.std.proofs.Common.{inl, inr, ⊎_elim, ℕ, List, [], ◌∷◌, Option, Result, Ok, Err, IfOk, ap}
use Rattle.bean_words.specs.declared.op.Op.{Op}
use Rattle.bean_codec.specs.declared.profile.Profile.{Profile}
use Rattle.session.specs.declared.faults.End.{End}
use Rattle.session.specs.declared.faults.ServiceFault.{ServiceFault}
use Rattle.session.specs.declared.faults.SessionFault.{SessionFault}
use Rattle.session.specs.Items.{Response, operations}
use Rattle.session.specs.Serving.{Asks, Asked, Closes, Whole, StopsAt, Partly, RunsShort, BreaksOff, ClosedAfter, ClosedBadly, ClosedOnce, Over, Served}
use Rattle.session.specs.StreamStates.{StreamState}

-- over the same streams
pub over : (a b h k : Option (List ℕ)) (P Q : List ℕ → List ℕ → Type 0)
    → ((input output : List ℕ) → P input output → Q input output) → Over a b h k P → Over a b h k Q
over a b h k P Q f o = (o.0, o.1, o.2, o.3, f o.0 o.1 o.4)

if_ok : {X E : Type 0} (r : Result X E) (P Q : X → Type 0) → ((x : X) → P x → Q x) → IfOk r P → IfOk r Q
if_ok (Ok x) P Q f p = f x p
if_ok (Err e) P Q f p = tt

module _ {S T : Type 0} (profile : Profile) (seen : S → T) (asks : Asks T) (closes : Closes T) where
  abbrev pub AsksBy : Asks S
  AsksBy old op result new = asks (seen old) op result (seen new)

  abbrev pub ClosesBy : Closes S
  ClosesBy old result new = closes (seen old) result (seen new)

  asked : (old new : S) (ops : List Op) (answers : List Response) → Asked AsksBy old ops answers new → Asked asks (seen old) ops answers (seen new)
  asked old new [] [] a = ap seen a
  asked old new [] (x ∷ answers) a = absurd a
  asked old new (op ∷ ops) [] a = absurd a
  asked old new (op ∷ ops) (x ∷ answers) a = (seen a.0, a.1, asked a.0 new ops answers a.2)

  whole : (old new : S) (input output : List ℕ) (end : End) → Whole profile AsksBy old new input output end
      → Whole profile asks (seen old) (seen new) input output end
  whole old new input output end w = (w.0, w.1, w.2, asked old new (operations w.0) w.1 w.3, w.4)

  stops_at : (old new : S) (input output : List ℕ) → StopsAt profile AsksBy old new input output → StopsAt profile asks (seen old) (seen new) input output
  stops_at old new input output s = (s.0, s.1, s.2, s.3, seen s.4, s.5, asked old s.4 (operations s.0) s.1 s.6, s.7, s.8)

  partly : (old new : S) (input output : List ℕ) → Partly profile AsksBy old new input output → Partly profile asks (seen old) (seen new) input output
  partly old new input output p = (p.0, p.1, p.2, p.3, p.4, p.5, asked old new _ p.2 p.6, p.7)

  runs_short : (old new : S) (input output : List ℕ) → RunsShort profile AsksBy old new input output → RunsShort profile asks (seen old) (seen new) input output
  runs_short old new input output r = (r.0, r.1, r.2, r.3, r.4, r.5, asked old new _ r.2 r.6, r.7, r.8)

  breaks_off : (old new : S) (input output : List ℕ) → BreaksOff profile AsksBy old new input output → BreaksOff profile asks (seen old) (seen new) input output
  breaks_off old new input output b = (b.0, b.1, b.2, b.3, b.4, b.5, b.6, b.7, asked old new _ b.2 b.8, b.9, b.10)

  module _ (P : S → Type 0) (Q : T → Type 0) (f : (s : S) → P s → Q (seen s)) where
    closed_after : (r : Result Unit ServiceFault) (new : S) → ClosedAfter ClosesBy P r new → ClosedAfter closes Q r (seen new)
    closed_after r new c = (seen c.0, f c.0 c.1, c.2)

    closed_once : (new : S) → ClosedOnce ClosesBy P new → ClosedOnce closes Q (seen new)
    closed_once new c = (c.0, closed_after c.0 new c.1)

  closed_badly : (old new : S) (after : StreamState) (closed : Result Unit ServiceFault) (input output : List ℕ)
      → ClosedBadly profile AsksBy ClosesBy old new after closed input output
      → ClosedBadly profile asks closes (seen old) (seen new) after closed input output
  closed_badly old new after closed input output w = (w.0, closed_after _ _ (λ s. whole old s input output w.0) closed new w.1, w.2)

  pub served : (old new : S) (before after : StreamState) (result : Result End SessionFault)
      → Served profile AsksBy ClosesBy old new before after result
      → Served profile asks closes (seen old) (seen new) before after result
  served old new before after result s = record {
    ok = if_ok result _ _ (λ end. over _ _ _ _ _ _ (λ input output. closed_after _ _ (λ last. whole old last input output end) (Ok tt) new)) s.ok;
    all_was_told = λ e. over _ _ _ _ _ _ (λ input output. closed_once _ _ (λ last. whole old last input output End.Eof) new) (s.all_was_told e);
    breaks_off = λ e. over _ _ _ _ _ _ (λ input output. closed_once _ _ (λ last. breaks_off old last input output) new) (s.breaks_off e);
    stopped = λ e.
        over _ _ _ _ _ _
        (λ input output. ⊎_elim
        (λ w. inl (closed_once _ _ (λ last. stops_at old last input output) new w))
        (λ w. inr (closed_badly old new after (Err ServiceFault.Stopped) input output w)))
        (s.stopped e);
    out_of_memory = λ e.
        over _ _ _ _ _ _
        (λ input output. ⊎_elim
        (λ w. inl (closed_once _ _ (λ last. partly old last input output) new w))
        (λ w. inr (closed_badly old new after (Err ServiceFault.Refused) input output w)))
        (s.out_of_memory e);
    ran_short = λ e.
        over _ _ _ _ _ _
        (λ input output. ⊎_elim
        (λ w. inl (closed_once _ _ (λ last. runs_short old last input output) new w.0, w.1))
        (λ w. inr (closed_badly old new after (Err ServiceFault.Refused) input output w)))
        (s.ran_short e);
  }
