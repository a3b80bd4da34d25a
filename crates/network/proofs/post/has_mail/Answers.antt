use Rattle.std.proofs.Common.{sym, ◌∙◌}
use Rattle.network.proofs.OnWay.{mail_filled, late_does}
use Rattle.network.proofs.post.has_mail.Goals as goal

pub overflow_sub-id : goal.overflow_sub-id
overflow_sub-id g c = c.requires.0

pub returns-then-has_letters : goal.returns-then-has_letters
returns-then-has_letters g c =
    c.if-has_letters.true
    ∙ mail_filled _ c.from.ensures c.requires c.index-mails-from.result c.index-mails-from.is c.args.fresh.now
    (sym c.has_letters.ensures ∙ c.if-has_letters.true)

pub returns-else-has_letters : goal.returns-else-has_letters
returns-else-has_letters g c =
    late_does _ c.from.ensures c.requires c.index-mails-from.result c.index-mails-from.is c.args.fresh.now
    (sym c.has_letters.ensures ∙ c.if-has_letters.false) c.has_any.result c.has_any.ensures
