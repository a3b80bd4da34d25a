use Rattle.std.proofs.Common.{arith}
use Rattle.std.specs.Str.Parse.{ParsesUnsigned, ExplainsUnsignedError, HasUnsignedDigitsIfOk}
use Rattle.options.proofs.WordsLemmas.{number_if_read}
use Rattle.options.proofs.words.server_of.Goals as goal

pub returns : goal.returns
returns c = record {
  host = c.requires.host;
  port = c.port_of.ensures;
  members = c.requires.members;
  workers = c.workers_of.ensures.workers;
  some_workers = c.workers_of.ensures.some;
  few_workers = c.workers_of.ensures.few;
  sessions = number_if_read 32 1 1000000 (omega arith) _
      (λ t r. ParsesUnsigned 32 10 t r × ExplainsUnsignedError 10 t r × HasUnsignedDigitsIfOk t r)
      (λ t r given. given.0) _ c.get_one.result c.get_one.ensures.none c.get_one.ensures.value;
  dump = c.get_str.ensures;
  log = c.get_str-2.ensures;
  sync = c.sync_of.ensures;
  profile = c.profile_of.ensures;
}
