-- Laws of equal keys and of their order.
use Rattle.std.proofs.Common.{◌≡◌, Bool, true, false, ◌&&◌, refl, sym, ap, ap₂, ◌∙◌, Less, Equal, Greater}
use Rattle.std.proofs.lemmas.Bool.{false≢true, false_from_ne_true}
use Rattle.std.proofs.lemmas.Map.Lookups.{CmpEqualImpliesEq, exact_unsigned}
use Rattle.std.specs.Ordering.{nat_cmp, ordering_then, is_eq}
use Rattle.std.specs.Cmp.{nat_cmp_total, tied_itself, unsigned_tied}
use Rattle.std.specs.declared.cmp.Ordering.{Ordering}
use Rattle.object.specs.declared.command.Key.{Key}
use Rattle.object.specs.Keys.{same_key, key_cmp}

-- what comes first, and then what comes second, is tied only where both are
pub then_equal : (x y : Ordering) → ordering_then x y ≡ Equal → (x ≡ Equal) × (y ≡ Equal)
then_equal Less y h = cc
then_equal Equal y h = (refl, h)
then_equal Greater y h = cc

-- keys that compare alike are one
pub exact_keys : CmpEqualImpliesEq key_cmp
exact_keys a b h =
    let parts = then_equal (nat_cmp a.session b.session) (nat_cmp a.number b.number) h in
    let s : a.session ≡ b.session = exact_unsigned a.session b.session parts.0 in
    let n : a.number ≡ b.number = exact_unsigned a.number b.number parts.1 in
    λ i. record { session = s i; number = n i }

pub when_equal : (o : Ordering) → is_eq o ≡ true → o ≡ Equal
when_equal Less h = cc
when_equal Equal h = refl
when_equal Greater h = cc

then_is_eq : (x y : Ordering) → is_eq (ordering_then x y) ≡ (is_eq x && is_eq y)
then_is_eq Less y = refl
then_is_eq Equal y = refl
then_is_eq Greater y = refl

-- the map's order and the test of keys agree
pub tied_is_same : (a b : Key) → is_eq (key_cmp a b) ≡ same_key a b
tied_is_same a b =
    then_is_eq (nat_cmp a.session b.session) (nat_cmp a.number b.number)
    ∙ ap₂ (λ (s n : Bool). s && n) (unsigned_tied a.session b.session) (unsigned_tied a.number b.number)

-- a key is tied with itself
pub key_itself : (k : Key) → is_eq (key_cmp k k) ≡ true
key_itself k = ap is_eq (ap₂ ordering_then (tied_itself nat_cmp_total k.session) (tied_itself nat_cmp_total k.number))

pub same_is : (a b : Key) → same_key a b ≡ true → a ≡ b
same_is a b h = exact_keys a b (when_equal (key_cmp a b) (tied_is_same a b ∙ h))

pub same_itself : (k : Key) → same_key k k ≡ true
same_itself k = sym (tied_is_same k k) ∙ key_itself k

pub same_when : (a b : Key) → a ≡ b → same_key a b ≡ true
same_when a b h = ap (same_key a) (sym h) ∙ same_itself a

pub same_turned : (a b : Key) → same_key a b ≡ same_key b a
same_turned a b =
    elim (same_key a b) as (λ t. same_key a b ≡ t → t ≡ same_key b a) [
      | true ↦ λ h. sym (same_when b a (sym (same_is a b h)))
      | false ↦ λ h. sym (false_from_ne_true (same_key b a) (λ g. false≢true (sym h ∙ same_when a b (sym (same_is b a g)))))
    ] refl
