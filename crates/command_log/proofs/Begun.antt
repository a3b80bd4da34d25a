-- Beginnings of heads.
use Rattle.std.proofs.Common.{◌≡◌, ◌≢◌, ℕ, zero, suc, ◌+◌, ◌/◌, ◌%◌, ◌≤◌, true, ◌⊎◌, inl, inr, List, [], ◌∷◌, ◌++◌}
use Rattle.std.proofs.Common.{map, length, refl, sym, ap, subst, ◌∙◌, arith, codes, decimal, append-nil, append_assoc, length-append}
use Rattle.std.proofs.lemmas.Bool.{and_from, and_parts, cases_lt, le-leb, leb-true}
use Rattle.std.proofs.lemmas.Fmt.{decimal_digit, decimal_step}
use Rattle.std.specs.List.{list_all}
use Rattle.std.specs.Prelude.{nat_le}
use Rattle.object.specs.Lists.{IsBeginning}
use Rattle.ballot.specs.Members.{IsMembers, is_weight}
use Rattle.chronicle_text.specs.Lines.{spaced}
use Rattle.command_log.specs.declared.line.TheConstants.{MAX_LINE}
use Rattle.command_log.specs.declared.version.LogVersion.{LogVersion}
use Rattle.command_log.specs.declared.version.LogVersion.TheVariants.{One}
use Rattle.command_log.specs.Lines.{IsHead}
use Rattle.command_log.specs.Progress.{beginning_kept}
use Rattle.command_log.specs.Reading.{EndsInHead}
use Rattle.command_log.specs.Text.{log_name, head_line}
use Rattle.command_log.proofs.Cuts.{one_front_line}
use Rattle.command_log.proofs.Kept.{short_shown, whole_shown}
use Rattle.command_log.proofs.Spelled.{head_is, head_is_line, head_short, weight_words}

-- ---- beginnings of texts in two parts

-- what stands in front of an end ends within the first part, or behind it
pub front_of : (x y a b : List ℕ) → x ++ y ≡ a ++ b
    → ((more : List ℕ) × (a ≡ x ++ more) × (y ≡ more ++ b)) ⊎ ((more : List ℕ) × (x ≡ a ++ more) × (b ≡ more ++ y))
front_of [] y a b same = inl (a, refl, same)
front_of (n ∷ x) y [] b same = inr (n ∷ x, refl, sym same)
front_of (n ∷ x) y (m ∷ a) b same =
    let first : n ≡ m = cc in
    let rest : x ++ y ≡ a ++ b = cc in
    elim (front_of x y a b rest) [
      | inl h ↦ inl (h.0, ap (λ t. m ∷ t) h.1 ∙ ap (λ (k : ℕ). k ∷ (x ++ h.0)) (sym first), h.2)
      | inr h ↦ inr (h.0, ap (λ t. n ∷ t) h.1 ∙ ap (λ (k : ℕ). k ∷ (a ++ h.0)) first, h.2)
    ]

-- an end is empty, or has a last byte
but_last : (rest : List ℕ) → (rest ≡ []) ⊎ ((front : List ℕ) × (last : ℕ) × (rest ≡ front ++ (last ∷ [])))
but_last [] = inl refl
but_last (b ∷ rest) =
    elim (but_last rest) [
      | inl none ↦ inr ([], b, ap (λ t. b ∷ t) none)
      | inr h ↦ inr (b ∷ h.0, h.1, ap (λ t. b ∷ t) h.2)
    ]

-- in front of a byte
before_last : (x rest a : List ℕ) (b : ℕ) → x ++ rest ≡ a ++ (b ∷ []) → (rest ≡ []) ⊎ ((more : List ℕ) × (a ≡ x ++ more))
before_last x rest a b same =
    elim (but_last rest) [
      | inl none ↦ inl none
      | inr h ↦
          let whole : (x ++ h.0) ++ (h.1 ∷ []) ≡ a ++ (b ∷ []) = append_assoc x h.0 (h.1 ∷ []) ∙ ap (λ t. x ++ t) (sym h.2) ∙ same in
          inr (h.0, sym (but_one (x ++ h.0) a h.1 b whole))
    ]
  where
    but_one : (x a : List ℕ) (c b : ℕ) → x ++ (c ∷ []) ≡ a ++ (b ∷ []) → x ≡ a
    but_one [] [] c b same = refl
    but_one [] (m ∷ a) c b same = let none : [] ≡ a ++ (b ∷ []) = cc in absurd (full a b none)
      where
        full : (a : List ℕ) (b : ℕ) → [] ≡ a ++ (b ∷ []) → ⊥
        full [] b same = cc
        full (m ∷ a) b same = cc
    but_one (n ∷ x) [] c b same = let none : x ++ (c ∷ []) ≡ [] = cc in absurd (full x c none)
      where
        full : (a : List ℕ) (b : ℕ) → a ++ (b ∷ []) ≡ [] → ⊥
        full [] b same = cc
        full (m ∷ a) b same = cc
    but_one (n ∷ x) (m ∷ a) c b same =
        let first : n ≡ m = cc in
        let rest : x ++ (c ∷ []) ≡ a ++ (b ∷ []) = cc in
        let more : x ≡ a = but_one x a c b rest in
        cc

-- ---- beginnings of a number

-- the first digits of a number are a number that isn't above it
pub record IsDigitsOf (n : ℕ) (text : List ℕ) : Type 0 where
  pub number : ℕ
  pub some : 1 ≤ number
  pub most : number ≤ n
  pub is : text ≡ decimal number

as_all : (n : ℕ) (x rest : List ℕ) → 1 ≤ n → x ++ rest ≡ decimal n → rest ≡ [] → IsDigitsOf n x
as_all n x rest some same none = record {
  number = n;
  some = some;
  most = omega arith;
  is = sym (append-nil x) ∙ ap (λ t. x ++ t) (sym none) ∙ same;
}

nothing : (x more : List ℕ) → [] ≡ x ++ more → x ≡ []
nothing [] more same = refl
nothing (b ∷ x) more same = cc

fewer_digits : (n m : ℕ) (x : List ℕ) → m ≤ n → (x ≡ []) ⊎ IsDigitsOf m x → (x ≡ []) ⊎ IsDigitsOf n x
fewer_digits n m x h (inl none) = inl none
fewer_digits n m x h (inr d) = let most = d.most in inr record { number = d.number; some = d.some; most = omega arith; is = d.is }

first_digits : (k n : ℕ) (x rest : List ℕ) → n ≤ k → 1 ≤ n → n ≤ 1000 → x ++ rest ≡ decimal n → (x ≡ []) ⊎ IsDigitsOf n x
first_digits zero n x rest h some most same = absurd (omega arith)
first_digits (suc k) n x rest h some most same =
    elim (cases_lt n 10) [
      | inl small ↦
          elim (before_last x rest [] (48 + n) (same ∙ decimal_digit n small)) [
            | inl none ↦ inr (as_all n x rest some same none)
            | inr more ↦ inl (nothing x more.0 more.1)
          ]
      | inr large ↦
          elim (before_last x rest (decimal (n / 10)) (48 + n % 10) (same ∙ decimal_step n large (omega arith))) [
            | inl none ↦ inr (as_all n x rest some same none)
            | inr more ↦ fewer_digits n (n / 10) x (omega arith)
                (first_digits k (n / 10) x more.0 (omega arith) (omega arith) (omega arith) (sym more.1))
          ]
    ]

-- ---- beginnings of weights

-- the words of some weights, of no more than n, or of fewer, with a space behind them
pub record IsPartOf (n : ℕ) (text : List ℕ) : Type 0 where
  pub weights : List ℕ
  pub each : list_all is_weight weights ≡ true
  pub few : length weights ≤ n
  pub is : (text ≡ spaced (map decimal weights)) ⊎ ((text ≡ spaced (map decimal weights) ++ codes " ") × (suc (length weights) ≤ n))

no_words : (n : ℕ) → IsPartOf n []
no_words n = record { weights = []; each = refl; few = omega arith; is = inl refl }

a_space : (n : ℕ) → IsPartOf (suc n) (codes " ")
a_space n = record { weights = []; each = refl; few = omega arith; is = inr (refl, omega arith) }

one_word : (n w : ℕ) (x : List ℕ) → is_weight w ≡ true → (x ≡ []) ⊎ IsDigitsOf w x → IsPartOf (suc n) (codes " " ++ x)
one_word n w x h (inl none) = subst (λ t. IsPartOf (suc n) (codes " " ++ t)) (sym none) (a_space n)
one_word n w x h (inr d) =
    let bounds = and_parts (nat_le 1 w) (nat_le w 1000) h in
    let some = d.some in
    let most = d.most in
    let least = leb-true w 1000 bounds.1 in
    record {
      weights = d.number ∷ [];
      each = weighs d.number (omega arith) (omega arith);
      few = omega arith;
      is = inl (ap (λ t. codes " " ++ t) (d.is ∙ sym (append-nil (decimal d.number))));
    }
  where
    weighs : (n : ℕ) → 1 ≤ n → n ≤ 1000 → list_all is_weight (n ∷ []) ≡ true
    weighs n low high = and_from (is_weight n) true (and_from (nat_le 1 n) (nat_le n 1000) (le-leb 1 n low) (le-leb n 1000 high)) refl

more_words : (n w : ℕ) (more x : List ℕ) → is_weight w ≡ true → x ≡ decimal w ++ more → IsPartOf n more → IsPartOf (suc n) (codes " " ++ x)
more_words n w more x h same p =
    let few = p.few in
    let rest = spaced (map decimal p.weights) in
    record {
      weights = w ∷ p.weights;
      each = and_from (is_weight w) (list_all is_weight p.weights) h p.each;
      few = omega arith;
      is = elim p.is [
        | inl is ↦ inl (ap (λ t. codes " " ++ t) (same ∙ ap (λ t. decimal w ++ t) is))
        | inr is ↦
            let fits = is.1 in
            inr (ap (λ t. codes " " ++ t) (same ∙ ap (λ t. decimal w ++ t) is.0 ∙ sym (append_assoc (decimal w) rest (codes " "))), omega arith)
      ];
    }

part_of : (weights x rest : List ℕ) → list_all is_weight weights ≡ true → x ++ rest ≡ spaced (map decimal weights) → IsPartOf (length weights) x
part_of [] x rest h same = subst (IsPartOf 0) (sym (nothing x rest (sym same))) (no_words 0)
part_of (w ∷ weights) [] rest h same = no_words (suc (length weights))
part_of (w ∷ weights) (b ∷ x) rest h same =
    let both = and_parts (is_weight w) (list_all is_weight weights) h in
    let bounds = and_parts (nat_le 1 w) (nat_le w 1000) both.0 in
    let first : b ≡ 32 = cc in
    let said : x ++ rest ≡ decimal w ++ spaced (map decimal weights) = cc in
    subst (λ (c : ℕ). IsPartOf (suc (length weights)) (c ∷ x)) (sym first)
    (elim (front_of x rest (decimal w) (spaced (map decimal weights)) said) [
      | inl part ↦ one_word (length weights) w x both.0
          (first_digits w w x part.0 (omega arith) (leb-true 1 w bounds.0) (leb-true w 1000 bounds.1) (sym part.1))
      | inr part ↦ more_words (length weights) w part.0 x both.0 part.1 (part_of weights part.0 rest both.1 (sym part.2))
    ])

-- ---- beginnings of heads

one_member : IsMembers (1 ∷ [])
one_member = record { some = omega arith; few = omega arith; each = refl }

spaced_last : (weights : List ℕ) (w : ℕ)
    → spaced (map decimal (weights ++ (w ∷ []))) ≡ spaced (map decimal weights) ++ (codes " " ++ decimal w)
spaced_last [] w = append-nil (codes " " ++ decimal w)
spaced_last (v ∷ weights) w =
    ap (λ t. (codes " " ++ decimal v) ++ t) (spaced_last weights w)
    ∙ sym (append_assoc (codes " " ++ decimal v) (spaced (map decimal weights)) (codes " " ++ decimal w))

all_more : (weights : List ℕ) → list_all is_weight weights ≡ true → list_all is_weight (weights ++ (1 ∷ [])) ≡ true
all_more [] h = refl
all_more (w ∷ weights) h =
    let both = and_parts (is_weight w) (list_all is_weight weights) h in
    and_from (is_weight w) (list_all is_weight (weights ++ (1 ∷ []))) both.0 (all_more weights both.1)

-- how a beginning of a head goes on
abbrev pub GoesOn : List ℕ → Type 0
GoesOn text = ((version : LogVersion) × IsBeginning text (log_name version)) ⊎ (IsHead (text ++ codes "\n") ⊎ IsHead (text ++ codes "1\n"))

-- behind the words of weights
with_feed : (version : LogVersion) (text weights : List ℕ) → list_all is_weight weights ≡ true → length weights ≤ 7
    → text ≡ log_name version ++ spaced (map decimal weights) → GoesOn text
with_feed version text [] each few is = inl (version, ([], sym (append-nil (log_name version)) ∙ sym is ∙ sym (append-nil text)))
with_feed version text (w ∷ weights) each few is =
    inr (inl (
      record { version = version; members = w ∷ weights },
      (
        head_is version (w ∷ weights) ∙ sym (append_assoc (log_name version) (spaced (map decimal (w ∷ weights))) (codes "\n"))
            ∙ ap (λ t. t ++ codes "\n") (sym is),
        record { some = omega arith; few = few; each = each },
      ),
    ))

-- behind a space
with_weight : (version : LogVersion) (text weights : List ℕ) → list_all is_weight weights ≡ true → suc (length weights) ≤ 7
    → text ≡ log_name version ++ (spaced (map decimal weights) ++ codes " ") → GoesOn text
with_weight version text weights each few is =
    let all = weights ++ (1 ∷ []) in
    let name = log_name version in
    let said = spaced (map decimal weights) in
    let long = length-append weights (1 ∷ []) in
    let words : spaced (map decimal all) ++ codes "\n" ≡ (said ++ codes " ") ++ codes "1\n" =
    ap (λ t. t ++ codes "\n") (spaced_last weights 1 ∙ ap (λ d. said ++ (codes " " ++ d)) (decimal_digit 1 (omega arith)))
    ∙ append_assoc said (codes " 1") (codes "\n")
    ∙ sym (append_assoc said (codes " ") (codes "1\n")) in
    inr (inr (
      record { version = version; members = all },
      (
        head_is version all ∙ ap (λ t. name ++ t) words ∙ sym (append_assoc name (said ++ codes " ") (codes "1\n"))
            ∙ ap (λ t. t ++ codes "1\n") (sym is),
        record { some = omega (arith, long); few = omega (arith, long, few); each = all_more weights each },
      ),
    ))

pub goes_on : (text : List ℕ) → EndsInHead text → GoesOn text
goes_on text h =
    let name = log_name h.version in
    let words = spaced (map decimal h.weights) in
    let few = h.members.few in
    elim (front_of text h.rest name (weight_words h.weights) (sym h.cut ∙ head_is h.version h.weights)) [
      | inl within ↦ inl (h.version, (within.0, within.1))
      | inr behind ↦
          elim (before_last behind.0 h.rest words 10 (sym behind.2)) [
            | inl none ↦ absurd (h.some none)
            | inr more ↦
                let part = part_of h.weights behind.0 more.0 h.members.each (sym more.1) in
                let fits = part.few in
                elim part.is [
                  | inl is ↦ with_feed h.version text part.weights part.each (omega arith) (behind.1 ∙ ap (λ t. name ++ t) is)
                  | inr is ↦
                      let room = is.1 in
                      with_weight h.version text part.weights part.each (omega arith) (behind.1 ∙ ap (λ t. name ++ t) is.0)
                ]
          ]
    ]

not_empty : (more : List ℕ) (b : ℕ) (rest : List ℕ) → more ++ (b ∷ rest) ≢ []
not_empty [] b rest same = cc
not_empty (a ∷ more) b rest same = cc

pub name_begins : (version : LogVersion) (text : List ℕ) → IsBeginning text (log_name version) → EndsInHead text
name_begins version text h = record {
  version = version;
  weights = 1 ∷ [];
  rest = h.0 ++ weight_words (1 ∷ []);
  members = one_member;
  some = not_empty h.0 32 _;
  cut = head_is version (1 ∷ []) ∙ ap (λ t. t ++ weight_words (1 ∷ [])) h.1 ∙ append_assoc text h.0 (weight_words (1 ∷ []));
}

pub head_begins : (text end : List ℕ) → end ≢ [] → IsHead (text ++ end) → EndsInHead text
head_begins text end some h = record {
  version = h.0.version;
  weights = h.0.members;
  rest = end;
  members = h.1.1;
  some = some;
  cut = h.1.0;
}

pub nothing_begins : EndsInHead []
nothing_begins = name_begins One [] (log_name One, refl)

-- ---- what is kept of it

begun_short : (text : List ℕ) → EndsInHead text → length text ≤ MAX_LINE
begun_short text h =
    let short = head_short h.version h.weights h.members in
    omega (arith, short, ap length h.cut, length-append text h.rest)

pub kept_begun : (text : List ℕ) → EndsInHead (beginning_kept text) → EndsInHead text
kept_begun text h = subst EndsInHead (whole_shown MAX_LINE text (begun_short (beginning_kept text) h)) h

pub begun_kept : (text : List ℕ) → EndsInHead text → EndsInHead (beginning_kept text)
begun_kept text h = subst EndsInHead (sym (short_shown MAX_LINE text (begun_short text h))) h

-- ---- a text with a head doesn't end in one

pub headed_not_begun : (version : LogVersion) (text weights rest : List ℕ) → IsMembers weights → text ≡ head_line version weights ++ rest
    → EndsInHead text → ⊥
headed_not_begun version text weights rest m cut h =
    let one = one_front_line (head_line h.version h.weights) (head_line version weights) [] (rest ++ h.rest)
    (head_is_line h.version h.weights h.members) (head_is_line version weights m)
    (append-nil (head_line h.version h.weights) ∙ h.cut ∙ ap (λ t. t ++ h.rest) cut ∙ append_assoc (head_line version weights) rest h.rest) in
    h.some (second rest h.rest one.1)
  where
    second : (x y : List ℕ) → [] ≡ x ++ y → y ≡ []
    second [] y same = sym same
    second (b ∷ x) y same = cc
