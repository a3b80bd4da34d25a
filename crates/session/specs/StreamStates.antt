-- How the streams of a session stand, and how they are left.
use Rattle.std.specs.Prelude.{◌≡◌, ◌≢◌, ℕ, Bool, true, List, Option, Result, Ok, Err, IfOk, OnOk, OnErr}
use Rattle.std.specs.Io.KnownBytes.{Appends, IsAtEnd}
use Rattle.session.specs.declared.faults.End.{End}
use Rattle.session.specs.declared.faults.SessionFault.{SessionFault}
use Rattle.session.specs.declared.faults.SessionFault.TheVariants.{ReadFailed, WriteFailed}
use Rattle.session.specs.declared.streams.ByteIn.{Ghosts as ByteIn}
use Rattle.session.specs.declared.streams.ByteOut.{Ghosts as ByteOut}
use Rattle.session.specs.Streams.{AppendsBeginning}

-- of the reader: the bytes that it will give, where they are known, whether it has come to its end, and whether it has failed;
-- of the writer: the bytes that it holds, where they are known, and whether it has failed
pub record StreamState : Type 0 where
  pub remaining : Option (List ℕ)
  pub reader_ended : Bool
  pub reader_failed : Bool
  pub contents : Option (List ℕ)
  pub writer_failed : Bool

-- this reader and this writer
abbrev pub streams_of : {R W : Type 0} → ByteIn R → ByteOut W → R → W → StreamState
streams_of reads writes reader writer = record {
  remaining = reads.remaining reader;
  reader_ended = reads.has_ended reader;
  reader_failed = reads.has_failed reader;
  contents = writes.contents writer;
  writer_failed = writes.has_failed writer;
}

-- A session that ended so has left its streams so. At the end of the input the reader has ended, and gives no more; after a
-- quit, and where a write failed, it has ended no more than before. It has failed where a read failed, and else no more than
-- before; and so has the writer where a write failed.
pub record LeavesStreams (before after : StreamState) (result : Result End SessionFault) : Type 0 where
  pub ended : IfOk result (λ end. end ≡ End.Eof → after.reader_ended ≡ true)
  pub nothing_left : IfOk result (λ end. end ≡ End.Eof → IsAtEnd after.remaining)
  pub quits : result ≡ Ok End.Quit → after.reader_ended ≡ before.reader_ended
  pub read_failed : result ≡ Err ReadFailed → after.reader_failed ≡ true
  pub not_failed : result ≢ Err ReadFailed → after.reader_failed ≡ before.reader_failed
  pub write_failed : result ≡ Err WriteFailed → after.writer_failed ≡ true
  pub no_write_failed : result ≢ Err WriteFailed → after.writer_failed ≡ before.writer_failed
  pub not_read_on : result ≡ Err WriteFailed → after.reader_ended ≡ before.reader_ended

-- The writer has taken the text, all of it or, where it failed, a beginning.
pub record WritesAll {W E : Type 0} (writes : ByteOut W) (old new : W) (text : List ℕ) (result : Result Unit E) : Type 0 where
  pub ok : OnOk result (Appends (writes.contents old) (writes.contents new) text)
  pub err : OnErr result (AppendsBeginning (writes.contents old) (writes.contents new) text)
  pub stays : OnOk result (writes.has_failed new ≡ writes.has_failed old)
  pub failed : OnErr result (writes.has_failed new ≡ true)
