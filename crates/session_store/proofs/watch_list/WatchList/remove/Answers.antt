use Rattle.std.proofs.Common.{not, bytes_eq, rules, ap, ◌∙◌}
use Rattle.std.proofs.lemmas.Fn.{filter_same}
use Rattle.session_store.specs.WatchLists.{left_out}
use Rattle.session_store.proofs.watch_list.WatchList.remove.Goals as goal

pub returns : goal.returns
returns c =
    filter_same _ (λ n. not (bytes_eq c.args.name.now n)) _ (λ n b f h. search rules) _ _ c.retain.ensures.filtered ∙
    ap (left_out c.args.name.now) c.self.view_is
