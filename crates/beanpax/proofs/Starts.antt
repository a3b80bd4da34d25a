-- A start from a log, some commands at a time.
use Rattle.std.proofs.Common.{◌≡◌, ◌≤◌, ◌+◌, ◌-◌, inl, inr, ℕ, zero, suc, List, ◌++◌, length, take, drop, take_all, le_refl, refl, sym, subst, arith}
use Rattle.std.proofs.KnownBytes.{Appends-trans}
use Rattle.std.proofs.Math.Seq.{take-add}
use Rattle.std.proofs.lemmas.List.{length-drop}
use Rattle.object.specs.Objects.{Rules}
use Rattle.object.specs.declared.command.Command.{Command}
use Rattle.forgetting_hall.specs.Halls.{ForgettingState}
use Rattle.forgetting_hall.specs.Telling.{HasTold}
use Rattle.session.specs.declared.streams.ByteOut.{Ghosts as ByteOut}
use Rattle.std.specs.Io.KnownBytes.{Appends}
use Rattle.beanpax.specs.Program.{TellsCut, WritesMore}

-- the first ones, and some more
pub taken_more : {X : Type 0} (P : List X → Type 0) (xs : List X) (a n : ℕ) → P (take a xs ++ take n (drop a xs)) → P (take (a + n) xs)
taken_more P xs a n = subst P (sym (take-add a n xs))

pub still_inside : {X : Type 0} (xs : List X) (a n : ℕ) → a ≤ length xs → n ≤ length (drop a xs) → a + n ≤ length xs
still_inside xs a n inside few = let left = length-drop a xs in omega (arith, inside, few, left)

-- what is told in two steps
pub more_told : {E : Type 0} (writes : ByteOut E) (old middle new : E) → WritesMore writes old middle → WritesMore writes middle new → WritesMore writes old new
more_told writes old middle new (inl same) more = subst (λ m. WritesMore writes m new) same more
more_told writes old middle new (inr told) (inl same) = inr (told.0, subst (λ n. Appends (writes.contents old) (writes.contents n) told.0) (sym same) told.1)
more_told writes old middle new (inr told) (inr more) =
    inr (told.0 ++ more.0, Appends-trans (writes.contents old) (writes.contents middle) (writes.contents new) told.0 more.0 told.1 more.1)

-- what stands behind some first ones, as a slice has it
pub behind_is : {X : Type 0} (xs : List X) (a : ℕ) → take (length xs - a) (drop a xs) ≡ drop a xs
behind_is xs a = take_all (length xs - a) (drop a xs) (subst (λ n. n ≤ length xs - a) (sym (length-drop a xs)) (le_refl _))

pub told_same : {O Op Reply : Type 0} {rules : Rules O Op Reply} {members : List ℕ} {h : ForgettingState Op O Reply} {xs ys : List (Command Op)}
    (zs : List (Command Op)) → xs ≡ ys → HasTold rules members h (xs ++ zs) → HasTold rules members h (ys ++ zs)
told_same {O} {Op} {Reply} {rules} {members} {h} {xs} {ys} zs same told = subst (λ cs. HasTold rules members h (cs ++ zs)) same told

-- what was cut off is told, or nothing
pub cut_more : {E : Type 0} (writes : ByteOut E) (old new : E) (bytes : ℕ) → TellsCut writes old new bytes → WritesMore writes old new
cut_more writes old new zero cut = inl (cut.none refl)
cut_more writes old new (suc n) cut = let text = cut.some (omega arith) in inr (_, text.some.1)
