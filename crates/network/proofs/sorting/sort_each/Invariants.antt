use Rattle.std.proofs.Common.{◌≡◌, length, drop}
use Rattle.network.specs.Networks.{posted}
use Rattle.network.specs.Posting.{IsPost}
use Rattle.network.proofs.sorting.sort_each.Given as goal

abbrev pub invariant-loop : goal.invariant-loop
invariant-loop g l = record {
  same : posted l.letters.items l.mails.items ≡ posted l.fn.letters.items l.fn.mails.items;
  size : length l.mails.items ≡ length l.fn.mails.items;
  post : IsPost l.mails.items l.letters.items;
  left : l.letters.items ≡ drop l.counter l.fn.letters.items;
}
