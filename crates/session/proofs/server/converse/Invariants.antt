-- The session is on its way in this profile, no ask is open, the reader has neither come to the end nor failed, nor has the writer failed.
use Rattle.std.proofs.Common.{◌≡◌, false}
use Rattle.session.specs.Held.{StandsBefore}
use Rattle.session.proofs.Endings.{Goes}
use Rattle.session.proofs.server.converse.Given as goal

abbrev pub invariant-turns : goal.invariant-turns
invariant-turns g l = record {
  goes : Goes l.fn.profile g.S.Service.asks l.initial.service l.service l._turn (g.R.ByteIn.remaining l.initial.reader)
      (g.R.ByteIn.remaining l.reader) (g.W.ByteOut.contents l.initial.writer)
      (g.W.ByteOut.contents l.writer) l.session.unsent (StandsBefore l.session);
  speaks : l.session.profile ≡ l.fn.profile;
  closed : l.session.is_open ≡ false;
  not_ended : g.R.ByteIn.has_ended l.reader ≡ g.R.ByteIn.has_ended l.initial.reader;
  not_failed : g.R.ByteIn.has_failed l.reader ≡ g.R.ByteIn.has_failed l.initial.reader;
  no_write_failed : g.W.ByteOut.has_failed l.writer ≡ g.W.ByteOut.has_failed l.initial.writer;
}
