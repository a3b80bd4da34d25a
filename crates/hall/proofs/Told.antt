-- What happened with each key's first answer alone, while it goes on.
use Rattle.std.proofs.Common.{◌≡◌, inl, inr, Bool, true, false, not, cond, ◌||◌, List, [], ◌∷◌, ◌++◌, map, filter, take, length, refl, sym, ap, ap₂, ◌∙◌}
use Rattle.std.specs.Prelude.{if◌then◌else◌}
use Rattle.std.proofs.lemmas.List.{take-append-le, map-append}
use Rattle.std.proofs.Math.Seq.{take-length}
use Rattle.std.proofs.lemmas.List.Elements.{filter-append}
use Rattle.std.specs.List.{list_any}
use Rattle.object.specs.declared.command.Answer.{Answer}
use Rattle.object.specs.declared.command.Command.{Command}
use Rattle.object.specs.declared.command.Key.{Key}
use Rattle.object.specs.declared.command.Submission.{Submission}
use Rattle.object.specs.Answers.{answered_key}
use Rattle.object.specs.Lists.{In, IsBeginning}
use Rattle.object.specs.Keys.{same_key, KeysOnce}
use Rattle.object.specs.KeyLaws.{same_is}
use Rattle.object.specs.Happenings.{Happenings, IsTimeline, is_submitted, with_submission, with_answers}
use Rattle.recorder.specs.Firsts.{others, firsts}
use Rattle.hall.specs.Shows.{told_once}

-- the firsts of a list are a beginning of those of a longer one
pub firsts_begin : {X : Type 0} (key_of : X → Key) (xs ys : List X) → IsBeginning (firsts key_of xs) (firsts key_of (xs ++ ys))
firsts_begin key_of [] ys = (firsts key_of ys, refl)
firsts_begin key_of (x ∷ xs) ys =
    let more = firsts_begin key_of xs ys in (
      others key_of (key_of x) more.0,
      ap (λ zs. x ∷ zs)
          (ap (others key_of (key_of x)) more.1 ∙ filter-append (λ y. not (same_key (key_of y) (key_of x))) (firsts key_of xs) more.0),
    )

filtered_in : {X : Type 0} (p : X → Bool) (x : X) (xs : List X) → In x (filter p xs) → In x xs
filtered_in p x [] i = i
filtered_in p x (y ∷ ys) i = at (p y) (λ j. filtered_in p x ys j) i
  where
    at : (b : Bool) → (In x (filter p ys) → In x ys) → In x (cond b (y ∷ filter p ys) (filter p ys)) → In x (y ∷ ys)
    at true more (inl e) = inl e
    at true more (inr j) = inr (more j)
    at false more j = inr (more j)

-- each of them stands in the list
pub firsts_in : {X : Type 0} (key_of : X → Key) (x : X) (xs : List X) → In x (firsts key_of xs) → In x xs
firsts_in key_of x [] i = i
firsts_in key_of x (y ∷ ys) (inl e) = inl e
firsts_in key_of x (y ∷ ys) (inr i) = inr (firsts_in key_of x ys (filtered_in (λ z. not (same_key (key_of z) (key_of y))) x (firsts key_of ys) i))

filter_in : {X : Type 0} (p : X → Bool) (x : X) (xs : List X) → p x ≡ true → In x xs → In x (filter p xs)
filter_in p x [] e i = absurd i
filter_in {X} p x (y ∷ ys) e (inl same) = at (p y) (sym (ap p same) ∙ e)
  where
    at : (b : Bool) → b ≡ true → In x (cond b (y ∷ filter p ys) (filter p ys))
    at true is = inl same
    at false is = absurd (cc)
filter_in p x (y ∷ ys) e (inr i) = at (p y) (filter_in p x ys e i)
  where
    at : (b : Bool) → In x (filter p ys) → In x (cond b (y ∷ filter p ys) (filter p ys))
    at true j = inr j
    at false j = j

-- the first item of a key
pub first_of : {X : Type 0} (key_of : X → Key) (x : X) (xs : List X) → In x xs → (y : X) × In y (firsts key_of xs) × (key_of y ≡ key_of x)
first_of key_of x [] i = absurd i
first_of key_of x (y ∷ ys) (inl e) = (y, inl refl, sym (ap key_of e))
first_of {X} key_of x (y ∷ ys) (inr i) = at (first_of key_of x ys i)
  where
    at : ((z : X) × In z (firsts key_of ys) × (key_of z ≡ key_of x)) → (z : X) × In z (firsts key_of (y ∷ ys)) × (key_of z ≡ key_of x)
    at first = by (same_key (key_of first.0) (key_of y)) refl
      where
        by : (b : Bool) → same_key (key_of first.0) (key_of y) ≡ b → (z : X) × In z (firsts key_of (y ∷ ys)) × (key_of z ≡ key_of x)
        by true e = (y, inl refl, sym (same_is (key_of first.0) (key_of y) e) ∙ first.2)
        by false e = (first.0, inr (filter_in (λ z. not (same_key (key_of z) (key_of y))) first.0 (firsts key_of ys) (ap not e) first.1), first.2)

-- keys that stand once tell which item it is
pub once_one : {X : Type 0} (key_of : X → Key) (xs : List X) → KeysOnce key_of xs → (x y : X) → In x xs → In y xs → key_of x ≡ key_of y → x ≡ y
once_one key_of [] once x y i j e = absurd i
once_one key_of (z ∷ zs) once x y (inl p) (inl q) e = p ∙ sym q
once_one key_of (z ∷ zs) once x y (inl p) (inr j) e = absurd (once.0 y j (sym e ∙ ap key_of p))
once_one key_of (z ∷ zs) once x y (inr i) (inl q) e = absurd (once.0 x i (e ∙ ap key_of q))
once_one key_of (z ∷ zs) once x y (inr i) (inr j) e = once_one key_of zs once.1 x y i j e

-- what is the same of each element is the same of the list
pub same_maps : {A B : Type 0} (f g : A → B) (xs : List A) → ((x : A) → In x xs → f x ≡ g x) → map f xs ≡ map g xs
same_maps f g [] same = refl
same_maps f g (x ∷ xs) same = ap₂ (λ y ys. y ∷ ys) (same x (inl refl)) (same_maps f g xs (λ y i. same y (inr i)))

-- a test of submissions that looks at their commands alone finds the same
any_told : {Op Reply : Type 0} (answers : List (Answer Reply)) (p : Command Op → Bool)
    (submitted : List (Submission Op))
    → list_any (λ s. p s.command) (told_once (record { submitted = submitted; answers = answers })).submitted
    ≡ list_any (λ s. p s.command) submitted
any_told answers p [] = refl
any_told answers p (s ∷ more) = ap (λ b. p s.command || b) (any_told answers p more)

module _ {Op Reply : Type 0} where
  abbrev pub told_at : List (Answer Reply) → Submission Op → Submission Op
  told_at answers s = record { command = s.command; after = length (firsts answered_key (take s.after answers)) }

  pub told_submitted : (h : Happenings Op Reply) (key : Key) → is_submitted key (told_once h).submitted ≡ is_submitted key h.submitted
  told_submitted h key = any_told h.answers (λ c. same_key c.key key) h.submitted

  -- answers change nothing of what was submitted before them
  pub told_answers : (h : Happenings Op Reply) (given : List (Answer Reply)) → IsTimeline h
      → told_once (with_answers given h)
      ≡ record { submitted = (told_once h).submitted; answers = firsts answered_key (h.answers ++ given) }
  told_answers h given t =
      let same = same_maps (told_at (h.answers ++ given)) (told_at h.answers) h.submitted
      (λ s i. ap (λ xs. record { command = s.command; after = length (firsts answered_key xs) }) (take-append-le s.after h.answers given (t.within s i))) in
      λ i. record { submitted = same i; answers = firsts answered_key (h.answers ++ given) }

  -- a submission comes after the first answers so far
  pub told_submission : (c : Command Op) (h : Happenings Op Reply) → told_once (with_submission c h) ≡ with_submission c (told_once h)
  told_submission c h =
      pushed (is_submitted c.key h.submitted)
      ∙ ap (λ b. if b then told_once h else new) (sym (told_submitted h c.key))
    where
      new : Happenings Op Reply
      new = record {
        submitted = (told_once h).submitted ++
            (record { command = c; after = length (firsts answered_key h.answers) } ∷ []);
        answers =
            firsts answered_key h.answers;
      }

      longer : Happenings Op Reply
      longer = record { submitted = h.submitted ++ (record { command = c; after = length h.answers } ∷ []); answers = h.answers }

      last : told_at h.answers (record { command = c; after = length h.answers }) ≡ record { command = c; after = length (firsts answered_key h.answers) }
      last = ap (λ xs. record { command = c; after = length (firsts answered_key xs) }) (take-length h.answers)

      pushed : (b : Bool) → told_once (if b then h else longer) ≡ (if b then told_once h else new)
      pushed true = refl
      pushed false = λ i. record {
        submitted = (map-append (told_at h.answers) h.submitted
            (record { command = c; after = length h.answers } ∷ []) ∙ ap
            (λ s. map (told_at h.answers) h.submitted ++ (s ∷ [])) last) i;
        answers = firsts answered_key h.answers;
      }
