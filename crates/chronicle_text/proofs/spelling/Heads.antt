-- The weights of members, and the lines of a dump that tell them.
use Rattle.std.proofs.Common.{◌≡◌, ℕ, zero, suc, ◌<◌, ◌≤◌, Bool, true, false, ◌==◌, List, [], ◌∷◌, map, length}
use Rattle.std.proofs.Common.{replicate, decimal, refl, sym, ap, ap₂, subst, arith}
use Rattle.std.proofs.lemmas.Bool.{and_parts, eqb-true, leb-true}
use Rattle.std.proofs.lemmas.List.{length-replicate}
use Rattle.std.specs.List.{AllByRecursion, list_all}
use Rattle.std.specs.Prelude.{if◌then◌else◌, nat_le}
use Rattle.ballot.specs.Members.{IsMembers, is_weight, is_unweighted}
use Rattle.chronicle_text.specs.declared.version.Version.{Version}
use Rattle.chronicle_text.specs.declared.version.Version.TheVariants.{One, Two}
use Rattle.chronicle_text.specs.Dump.{version_of}
use Rattle.chronicle_text.specs.Values.{IsShort, IsLong}
use Rattle.chronicle_text.proofs.spelling.Back.{number_plain}
use Rattle.chronicle_text.proofs.spelling.Words.{Plain, AllPlain}

-- ---- versions

abbrev form : Bool → Version
form unweighted = if unweighted then One else Two

pub version_one : (ws : List ℕ) → is_unweighted ws ≡ true → version_of ws ≡ One
version_one ws h = ap form h

pub version_two : (ws : List ℕ) → is_unweighted ws ≡ false → version_of ws ≡ Two
version_two ws h = ap form h

is_form_one : (b : Bool) → form b ≡ One → b ≡ true
is_form_one true h = refl
is_form_one false h = absurd (cc)

is_form_two : (b : Bool) → form b ≡ Two → b ≡ false
is_form_two true h = absurd (cc)
is_form_two false h = refl

pub one_unweighted : (ws : List ℕ) → version_of ws ≡ One → is_unweighted ws ≡ true
one_unweighted ws h = is_form_one (is_unweighted ws) h

pub two_weighted : (ws : List ℕ) → version_of ws ≡ Two → is_unweighted ws ≡ false
two_weighted ws h = is_form_two (is_unweighted ws) h

-- ---- so many ones

pub ones : (ws : List ℕ) → is_unweighted ws ≡ true → replicate (length ws) 1 ≡ ws
ones [] h = refl
ones (w ∷ ws) h =
    let both = and_parts (w == 1) (is_unweighted ws) h in
    ap₂ (λ (v : ℕ) vs. v ∷ vs) (sym (eqb-true w 1 both.0)) (ones ws both.1)

ones_alike : (n : ℕ) → is_unweighted (replicate n 1) ≡ true
ones_alike zero = refl
ones_alike (suc n) = ones_alike n

pub ones_version : (n : ℕ) → version_of (replicate n 1) ≡ One
ones_version n = version_one (replicate n 1) (ones_alike n)

-- ---- and so many twos

twos_differ : (n : ℕ) → 0 < n → is_unweighted (replicate n 2) ≡ false
twos_differ zero h = absurd (omega arith)
twos_differ (suc n) h = refl

pub twos_version : (n : ℕ) → 0 < n → version_of (replicate n 2) ≡ Two
twos_version n h = version_two (replicate n 2) (twos_differ n h)

twos_weigh : (n : ℕ) → list_all is_weight (replicate n 2) ≡ true
twos_weigh zero = refl
twos_weigh (suc n) = twos_weigh n

pub twos_are : (n : ℕ) → 0 < n → n ≤ 7 → IsMembers (replicate n 2)
twos_are n some few =
    let long = length-replicate n 2 in
    record { some = subst (λ l. 0 < l) (sym long) some; few = subst (λ l. l ≤ 7) (sym long) few; each = twos_weigh n }

-- ---- weights and their count are short numbers

-- what holds of all that a member can weigh
each_weight : (P : ℕ → Type 0) → ((w : ℕ) → w ≤ 1000 → P w) → (ws : List ℕ) → list_all is_weight ws ≡ true → AllByRecursion P ws
each_weight P f [] h = tt
each_weight P f (w ∷ ws) h =
    let both = and_parts (is_weight w) (list_all is_weight ws) h in
    let each = and_parts (nat_le 1 w) (nat_le w 1000) both.0 in
    (f w (leb-true w 1000 each.1), each_weight P f ws both.1)

pub short_weights : (ws : List ℕ) → IsMembers ws → AllByRecursion IsShort ws
short_weights ws h = each_weight IsShort (λ w most. omega (arith, most)) ws h.each

pub weight_numbers : (ws : List ℕ) → IsMembers ws → AllByRecursion IsLong ws
weight_numbers ws h = each_weight IsLong (λ w most. omega (arith, most)) ws h.each

pub count_number : (ws : List ℕ) → IsMembers ws → IsLong (length ws)
count_number ws h = let few = h.few in omega (arith, few)

numbers_plain : (ns : List ℕ) → AllByRecursion IsLong ns → AllPlain (map decimal ns)
numbers_plain [] h = tt
numbers_plain (n ∷ ns) h = (number_plain n h.0, numbers_plain ns h.1)

pub weights_plain : (ws : List ℕ) → IsMembers ws → AllPlain (map decimal ws)
weights_plain ws h = numbers_plain ws (weight_numbers ws h)

pub count_plain : (ws : List ℕ) → IsMembers ws → Plain (decimal (length ws))
count_plain ws h = number_plain (length ws) (count_number ws h)
