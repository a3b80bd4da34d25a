use Rattle.std.proofs.Common.{map, string_bytes, subst}
use Rattle.options.specs.Words.{IsAskedBy}
use Rattle.beanpax.proofs.warning.warn_of_host.Goals as goal

pub returns-clause-told : goal.returns-clause-told
returns-clause-told g c = λ told.
    let it = c.has_open_server.ensures.asked c.if-not-has_open_server.false in
    let asked = subst (IsAskedBy (map string_bytes c.args.words.now)) it.1 c.in-Ok.ensures in
    ((it.0, asked, it.2), c.tell_error.ensures)
