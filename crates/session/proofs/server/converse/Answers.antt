use Rattle.std.proofs.Common.{◌≡◌, ◌+◌, List, ℕ, [], ◌++◌, Some, Ok, Err, true, false, refl, sym, ap, subst, ◌∙◌, arith, rules}
use Rattle.std.specs.Io.KnownBytes.{Appends, Consumes}
use Rattle.bean_codec.specs.declared.request.Request.TheVariants.{Do, Quit}
use Rattle.session.specs.declared.faults.End.{End}
use Rattle.session.specs.declared.faults.SessionFault.TheVariants.{OutOfMemory, WriteFailed}
use Rattle.session.specs.Held.{Held, StandsBefore, ComesTo, is_asked, nothing_held}
use Rattle.session.specs.Items.{answer_text}
use Rattle.session.proofs.Endings.{Goes, Ends, goes_as, sets_out, finds, sends, reads, answers, began, ends_looking}
use Rattle.session.proofs.Endings.{ends_counting, ends_writing, ends_eof, ends_quit, ends_reading, ends_answering}
use Rattle.session.proofs.server.converse.Goals.{in-None+in_ok-read_piece-in-None+else-not-branch, in-Some-Do+in_ok-answer-in-Some-Do}
use Rattle.session.proofs.server.converse.Goals as goal

pub turns-init : goal.turns-init
turns-init g c =
    let e : c.speaking-session.result ≡ nothing_held c.args.profile = c.speaking-session.ensures in
    record {
      goes = subst (λ (s : Held). Goes c.args.profile g.S.Service.asks c.args.service.now c.args.service.now 0
          (g.R.ByteIn.remaining c.args.reader.now) (g.R.ByteIn.remaining c.args.reader.now)
          (g.W.ByteOut.contents c.args.writer.now) (g.W.ByteOut.contents c.args.writer.now) s.unsent (StandsBefore s))
          (sym e) (sets_out c.args.profile g.S.Service.asks c.args.service.now (g.R.ByteIn.remaining c.args.reader.now)
          (g.W.ByteOut.contents c.args.writer.now));
      speaks = ap (λ (s : Held). s.profile) e;
      closed = ap (λ (s : Held). s.is_open) e;
      not_ended = refl;
      not_failed = refl;
      no_write_failed = refl;
    }

pub returns-in_err-found-clause-run : goal.returns-in_err-found-clause-run
returns-in_err-found-clause-run g c =
    let p = c.args.profile in
    let a = g.R.ByteIn.remaining c.args.reader.now in
    let b = g.R.ByteIn.remaining c.turns.reader in
    let h = g.W.ByteOut.contents c.args.writer.now in
    let k = g.W.ByteOut.contents c.turns.writer in
    let fault : c.from_residual.result ≡ Err OutOfMemory = search rules in
    ends_looking p g.S.Service.asks c.args.service.now c.turns.service c.turns._turn a b h k c.turns.session
    c.from_residual.result fault c.turns.invariant.speaks c.in_err-found.ensures.memory c.turns.invariant.goes

pub returns-clause-run : goal.returns-clause-run
returns-clause-run g c =
    let p = c.args.profile in
    let a = g.R.ByteIn.remaining c.args.reader.now in
    let b = g.R.ByteIn.remaining c.turns.reader in
    let h = g.W.ByteOut.contents c.args.writer.now in
    let k = g.W.ByteOut.contents c.turns.writer in
    ends_counting p g.S.Service.asks c.args.service.now c.turns.service c.turns._turn a b h k c.turns.session.unsent
    (StandsBefore c.turns.session) (Err OutOfMemory) refl (omega arith) c.turns.invariant.goes

pub returns-in_err-map_err-clause-run : goal.returns-in_err-map_err-clause-run
returns-in_err-map_err-clause-run g c =
    let p = c.args.profile in
    let a = g.R.ByteIn.remaining c.args.reader.now in
    let b = g.R.ByteIn.remaining c.turns.reader in
    let h = g.W.ByteOut.contents c.args.writer.now in
    let k = g.W.ByteOut.contents c.turns.writer in
    let l = g.W.ByteOut.contents c.send.new.writer in
    let t = c.next_ask.new.self in
    let found = c.in_ok-found.found in
    let fault : c.from_residual-in_err-map_err.result ≡ Err WriteFailed = search rules in
    ends_writing p g.S.Service.asks c.args.service.now c.turns.service c.turns._turn a b h k l t.unsent
    (ComesTo p found t) c.from_residual-in_err-map_err.result fault
    (began c.send.result k l t.unsent c.send.ensures.written.ok c.send.ensures.written.err)
    (finds p g.S.Service.asks c.args.service.now c.turns.service c.turns._turn a b h k c.turns.session t found
    c.turns.invariant.speaks c.in_ok-found.ensures.found c.turns.invariant.goes)

pub returns-in_err-read_piece-in-None-clause-run :
    goal.returns-in_err-read_piece-in-None-clause-run
returns-in_err-read_piece-in-None-clause-run g c =
    let p = c.args.profile in
    let a = g.R.ByteIn.remaining c.args.reader.now in
    let b = g.R.ByteIn.remaining c.turns.reader in
    let h = g.W.ByteOut.contents c.args.writer.now in
    let k = g.W.ByteOut.contents c.turns.writer in
    let l = g.W.ByteOut.contents c.send.new.writer in
    let t = c.next_ask.new.self in
    let found = c.in_ok-found.found in
    let sent : Appends k l t.unsent = search rules in
    let fault = c.in_err-read_piece-in-None.field-0.0 in
    let result : c.from_residual-in_err-read_piece-in-None.result ≡ Err fault = search rules in
    subst (Ends p g.S.Service.asks c.args.service.now c.turns.service a (g.R.ByteIn.remaining c.read_piece.new.reader) h l) (sym result)
    (ends_reading p g.S.Service.asks c.args.service.now c.turns.service c.turns._turn g.R.ByteIn.remaining a h l
    c.turns.reader c.read_piece.new.reader t fault _ c.in_err-read_piece-in-None.ensures.err
    (subst (λ found. Goes p g.S.Service.asks c.args.service.now c.turns.service c.turns._turn a b h l [] (ComesTo p found t)) c.in-None.is
    (sends p g.S.Service.asks c.args.service.now c.turns.service c.turns._turn a b h k l t.unsent (ComesTo p found t) sent
    (finds p g.S.Service.asks c.args.service.now c.turns.service c.turns._turn a b h k c.turns.session t found
    c.turns.invariant.speaks c.in_ok-found.ensures.found c.turns.invariant.goes))))

pub returns-then-not-branch-clause-run : goal.returns-then-not-branch-clause-run
returns-then-not-branch-clause-run g c =
    let p = c.args.profile in
    let a = g.R.ByteIn.remaining c.args.reader.now in
    let b = g.R.ByteIn.remaining c.turns.reader in
    let h = g.W.ByteOut.contents c.args.writer.now in
    let k = g.W.ByteOut.contents c.turns.writer in
    let l = g.W.ByteOut.contents c.send.new.writer in
    let t = c.next_ask.new.self in
    let found = c.in_ok-found.found in
    let sent : Appends k l t.unsent = search rules in
    let read : Consumes b (g.R.ByteIn.remaining c.read_piece.new.reader) [] = search rules in
    ends_eof p g.S.Service.asks c.args.service.now c.turns.service c.turns._turn a b (g.R.ByteIn.remaining c.read_piece.new.reader) h l t (Ok End.Eof) refl read
    (subst (λ found. Goes p g.S.Service.asks c.args.service.now c.turns.service c.turns._turn a b h l [] (ComesTo p found t)) c.in-None.is
    (sends p g.S.Service.asks c.args.service.now c.turns.service c.turns._turn a b h k l t.unsent (ComesTo p found t) sent
    (finds p g.S.Service.asks c.args.service.now c.turns.service c.turns._turn a b h k c.turns.session t found
    c.turns.invariant.speaks c.in_ok-found.ensures.found c.turns.invariant.goes)))

pub returns-in-Some-Quit-clause-run : goal.returns-in-Some-Quit-clause-run
returns-in-Some-Quit-clause-run g c =
    let p = c.args.profile in
    let a = g.R.ByteIn.remaining c.args.reader.now in
    let b = g.R.ByteIn.remaining c.turns.reader in
    let h = g.W.ByteOut.contents c.args.writer.now in
    let k = g.W.ByteOut.contents c.turns.writer in
    let l = g.W.ByteOut.contents c.send.new.writer in
    let t = c.next_ask.new.self in
    let found = c.in_ok-found.found in
    let sent : Appends k l t.unsent = search rules in
    let quits : found ≡ Some Quit = search rules in
    ends_quit p g.S.Service.asks c.args.service.now c.turns.service c.turns._turn a b h l t
    (subst (λ found. Goes p g.S.Service.asks c.args.service.now c.turns.service c.turns._turn a b h l [] (ComesTo p found t)) quits
    (sends p g.S.Service.asks c.args.service.now c.turns.service c.turns._turn a b h k l t.unsent (ComesTo p found t) sent
    (finds p g.S.Service.asks c.args.service.now c.turns.service c.turns._turn a b h k c.turns.session t found
    c.turns.invariant.speaks c.in_ok-found.ensures.found c.turns.invariant.goes)))

pub returns-in_err-answer-in-Some-Do-clause-run : goal.returns-in_err-answer-in-Some-Do-clause-run
returns-in_err-answer-in-Some-Do-clause-run g c =
    let p = c.args.profile in
    let a = g.R.ByteIn.remaining c.args.reader.now in
    let b = g.R.ByteIn.remaining c.turns.reader in
    let h = g.W.ByteOut.contents c.args.writer.now in
    let k = g.W.ByteOut.contents c.turns.writer in
    let l = g.W.ByteOut.contents c.send.new.writer in
    let t = c.next_ask.new.self in
    let found = c.in_ok-found.found in
    let sent : Appends k l t.unsent = search rules in
    let op = c.in-Some-Do.op in
    let asks : found ≡ Some (Do op) = search rules in
    let fault = c.in_err-answer-in-Some-Do.field-0.0 in
    let result : c.from_residual-in_err-answer-in-Some-Do.result ≡ Err fault = search rules in
    subst (Ends p g.S.Service.asks c.args.service.now c.answer.new.service a b h l) (sym result)
    (ends_answering p g.S.Service.asks c.args.service.now c.turns.service c.answer.new.service c.turns._turn a b h l t op
    fault c.in_err-answer-in-Some-Do.ensures.err
    (subst (λ found. Goes p g.S.Service.asks c.args.service.now c.turns.service c.turns._turn a b h l [] (ComesTo p found t)) asks
    (sends p g.S.Service.asks c.args.service.now c.turns.service c.turns._turn a b h k l t.unsent (ComesTo p found t) sent
    (finds p g.S.Service.asks c.args.service.now c.turns.service c.turns._turn a b h k c.turns.session t found
    c.turns.invariant.speaks c.in_ok-found.ensures.found c.turns.invariant.goes))))

pub turns-preserved : goal.turns-preserved
turns-preserved g c =
    let p = c.args.profile in
    let a = g.R.ByteIn.remaining c.args.reader.now in
    let b = g.R.ByteIn.remaining c.turns.reader in
    let h = g.W.ByteOut.contents c.args.writer.now in
    let k = g.W.ByteOut.contents c.turns.writer in
    let l = g.W.ByteOut.contents c.send.new.writer in
    let t = c.next_ask.new.self in
    let found = c.in_ok-found.found in
    let sent : Appends k l t.unsent = search rules in
    let cleared : c.send.new.session ≡ record t { unsent = []; sent_len = 0 } = search rules in
    let closed : t.is_open ≡ is_asked found = search rules in
    let stood : t.profile ≡ p = c.in_ok-found.ensures.profile ∙ c.turns.invariant.speaks in
    let stays : g.W.ByteOut.has_failed c.send.new.writer ≡ g.W.ByteOut.has_failed c.turns.writer = search rules in
    let no_write_failed = stays ∙ c.turns.invariant.no_write_failed in
    let going : Goes p g.S.Service.asks c.args.service.now c.turns.service c.turns._turn a b h l [] (ComesTo p found t) =
    sends p g.S.Service.asks c.args.service.now c.turns.service c.turns._turn a b h k l t.unsent (ComesTo p found t) sent
    (finds p g.S.Service.asks c.args.service.now c.turns.service c.turns._turn a b h k c.turns.session t found
    c.turns.invariant.speaks c.in_ok-found.ensures.found c.turns.invariant.goes) in
    elim c.match-found-4.branch [
      | in-None+in_ok-read_piece-in-None+else-not-branch w ↦
          let m = g.R.ByteIn.remaining w.read_piece.new.reader in
          let s = w.read_piece.new.session in
          let some : w.in_ok-read_piece-in-None.field-0 ≡ true = search rules in
          let fed = w.in_ok-read_piece-in-None.ensures.fed some in
          let stands : (text : List ℕ) → StandsBefore t text → StandsBefore s (text ++ fed.0) =
          subst (λ (u : Held). (text : List ℕ) → StandsBefore u text → StandsBefore s (text ++ fed.0)) cleared fed.7
          in
          record {
            goes = goes_as p g.S.Service.asks c.args.service.now c.turns.service c.match-found-4.service
                (c.turns._turn + 1) a m (g.R.ByteIn.remaining c.match-found-4.reader) h l
                [] s c.match-found-4.session w.service-is (ap g.R.ByteIn.remaining w.reader-is) w.session-is
                (fed.4 ∙ ap (λ (u : Held). u.unsent) cleared)
                (reads p g.S.Service.asks c.args.service.now c.turns.service c.turns._turn a b m h l fed.0 t s fed.1 fed.3 stands
                (subst (λ found. Goes p g.S.Service.asks c.args.service.now c.turns.service c.turns._turn a b h l [] (ComesTo p found t)) w.in-None.is going));
            speaks = ap (λ (u : Held). u.profile) w.session-is ∙ (fed.6 ∙ (ap (λ (u : Held). u.profile) cleared ∙ stood));
            closed = ap (λ (u : Held). u.is_open) w.session-is ∙ (fed.5 ∙ (ap (λ (u : Held). u.is_open) cleared ∙ (closed ∙ ap is_asked w.in-None.is)));
            not_ended = ap g.R.ByteIn.has_ended w.reader-is ∙ (w.in_ok-read_piece-in-None.ensures.goes_on some ∙ c.turns.invariant.not_ended);
            not_failed = ap g.R.ByteIn.has_failed w.reader-is ∙ (w.in_ok-read_piece-in-None.ensures.not_failed ∙ c.turns.invariant.not_failed);
            no_write_failed = no_write_failed;
          }
      | in-Some-Do+in_ok-answer-in-Some-Do w ↦
          let op = w.in-Some-Do.op in
          let asks : found ≡ Some (Do op) = search rules in
          let given = w.in_ok-answer-in-Some-Do.ensures.ok in
          let s : Held = record t { unsent = answer_text given.0; is_open = false; sent_len = 0 } in
          let after : w.answer.new.session ≡ s = given.2 ∙ ap (λ (u : Held). record u { unsent = u.unsent ++ answer_text given.0; is_open = false }) cleared in
          record {
            goes = goes_as p g.S.Service.asks c.args.service.now w.answer.new.service c.match-found-4.service
                (c.turns._turn + 1) a b (g.R.ByteIn.remaining c.match-found-4.reader) h l
                (answer_text given.0) s c.match-found-4.session w.service-is (ap g.R.ByteIn.remaining w.reader-is)
                (w.session-is ∙ after) refl
                (answers p g.S.Service.asks c.args.service.now c.turns.service w.answer.new.service c.turns._turn a b h l t op given.0 given.1
                (subst (λ found. Goes p g.S.Service.asks c.args.service.now c.turns.service c.turns._turn a b h l [] (ComesTo p found t)) asks going));
            speaks = ap (λ (u : Held). u.profile) (w.session-is ∙ after) ∙ stood;
            closed = ap (λ (u : Held). u.is_open) (w.session-is ∙ after);
            not_ended = ap g.R.ByteIn.has_ended w.reader-is ∙ c.turns.invariant.not_ended;
            not_failed = ap g.R.ByteIn.has_failed w.reader-is ∙ c.turns.invariant.not_failed;
            no_write_failed = no_write_failed;
          }
    ]
