-- Counts that stop at the greatest number of their type.
use Rattle.std.proofs.Common.{◌≡◌, ℕ, ◌+◌, sym, ap, ◌∙◌, arith}
use Rattle.bean_queue.specs.Counting.{and_more}

-- some more, and then others
pub more-then : (a b count : ℕ) → and_more a (and_more b count) ≡ and_more (b + a) count
more-then a b count = omega arith

-- one of them was counted, and the rest is to be
pub one_counted : (left one all count new : ℕ) → new ≡ and_more one count → all ≡ one + left → and_more left new ≡ and_more all count
one_counted left one all count new made parts = ap (and_more left) made ∙ more-then left one count ∙ ap (λ n. and_more n count) (sym parts)

-- those that were counted, where none is left, are as many as there were
pub as_many : (over left all count new : ℕ) → new ≡ and_more over count → left ≡ 0 → and_more left over ≡ and_more all 0 → new ≡ and_more all count
as_many over left all count new made none same = omega (arith, made, none, same)
