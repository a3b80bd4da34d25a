-- Membership.
use Rattle.std.proofs.Common.{◌≡◌, inl, inr, List, [], ◌∷◌, map, refl}
use Rattle.object.specs.Lists.{In}

pub In-one : {A : Type 0} (x y : A) → In x (y ∷ []) → x ≡ y
In-one x y (inl e) = e
In-one x y (inr never) = absurd never

-- what stands in a list of images is the image of something
pub In-image : {A B : Type 0} (f : A → B) (y : B) (xs : List A) → In y (map f xs) → (x : A) × In x xs × (y ≡ f x)
In-image f y [] i = absurd i
In-image f y (x ∷ xs) (inl e) = (x, inl refl, e)
In-image f y (x ∷ xs) (inr i) = let r = In-image f y xs i in (r.0, inr r.1, r.2)
