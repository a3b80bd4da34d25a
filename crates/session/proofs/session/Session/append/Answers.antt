use Rattle.std.proofs.Common.{◌≤◌, length, rules}
use Rattle.session.proofs.Standing.{keeps_more}
use Rattle.session.proofs.session.Session.append.Goals as goal

pub invariant_of-self : goal.invariant_of-self
invariant_of-self c =
    let i = c.self.invariant in
    let begun : c.self.inside.start ≤ length c.self.inside.bytes.items = search rules in (
      search rules,
      i.1,
      keeps_more c.self.inside.profile c.self.inside.want c.self.inside.start c.self.inside.bytes.items
          c.extend_from_slice.new.self.items c.args.piece.now _ begun c.extend_from_slice.ensures.items i.2,
    )
