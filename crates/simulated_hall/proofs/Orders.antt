-- An order that grows by one command.
use Rattle.std.proofs.Common.{◌≡◌, ◌≢◌, inl, inr, ⊎_elim, ◌<◌, Bool, true, false, ◌||◌, List, [], ◌∷◌, ◌++◌, map, refl, sym, ap, ap₂, ◌∙◌, subst, arith}
use Rattle.std.proofs.lemmas.List.{append-nil}
use Rattle.object.specs.Lists.{In, IsBeginning}
use Rattle.object.specs.declared.command.Command.{Command}
use Rattle.object.specs.declared.command.Key.{Key}
use Rattle.object.specs.Legal.{IsRising}
use Rattle.object.specs.ListLaws.{In-right, In-cases}
use Rattle.object.specs.Keys.{same_key, stands}
use Rattle.object.specs.KeyLaws.{same_is}
use Rattle.recorder.specs.Records.{own_key}
use Rattle.simulated_hall.proofs.Lists.{In-one}

-- along a rising list the numbers of one session are greater later
pub apart : {Op : Type 0} (xs ys : List (Command Op)) → IsRising (xs ++ ys) → (x y : Command Op) → In x xs → In y ys
    → y.key.session ≡ x.key.session → x.key.number < y.key.number
apart [] ys rising x y i j same = absurd i
apart {Op} (z ∷ xs) ys rising x y (inl e) j same =
    let first = rising.0 y (In-right y xs ys j) (same ∙ ap (λ (d : Command Op). d.key.session) e) in
    let number = ap (λ (d : Command Op). d.key.number) e in
    omega (arith, number, first)
apart (z ∷ xs) ys rising x y (inr i) j same = apart xs ys rising.1 x y i j same

rising_end : {Op : Type 0} (xs ys : List (Command Op)) → IsRising (xs ++ ys) → IsRising ys
rising_end [] ys rising = rising
rising_end (x ∷ xs) ys rising = rising_end xs ys rising.1

-- An order begins with some commands, and otherwise has this one alone: it has it once, at its end.
pub grown_by_one : {Op : Type 0} (before : List (Command Op)) (c : Command Op) (order : List (Command Op))
    → IsBeginning before order → IsRising order
    → ((d : Command Op) → In d order → In d (before ++ (c ∷ [])))
    → ((d : Command Op) → In d before → d.key ≢ c.key)
    → ((d : Command Op) × In d order × (d.key ≡ c.key))
    → order ≡ before ++ (c ∷ [])
grown_by_one {Op} before c order begins rising within other stands = at begins.0 begins.1
  where
    at : (more : List (Command Op)) → order ≡ before ++ more → order ≡ before ++ (c ∷ [])
    at [] e =
        let there = subst (In stands.0) (e ∙ append-nil before) stands.1 in
        absurd (other stands.0 there stands.2)
    at (d ∷ rest) e = e ∙ ap (λ more. before ++ more) (ap₂ (λ x xs. x ∷ xs) (is_c d (inl refl)) (ends rest (λ y i. i)))
      where
        up : IsRising (before ++ (d ∷ rest))
        up = subst IsRising e rising

        is_c : (y : Command Op) → In y (d ∷ rest) → y ≡ c
        is_c y i = ⊎_elim
            (λ (old : In y before). let less = apart before (d ∷ rest) up y y old i refl in absurd (omega (arith, less)))
            (λ (new : In y (c ∷ [])). In-one y c new)
            (In-cases y before (c ∷ []) (within y (subst (In y) (sym e) (In-right y before (d ∷ rest) i))))

        ends : (ys : List (Command Op)) → ((y : Command Op) → In y ys → In y rest) → ys ≡ []
        ends [] part = refl
        ends (y ∷ ys) part =
            let same : y ≡ d = is_c y (inr (part y (inl refl))) ∙ sym (is_c d (inl refl)) in
            let less = (rising_end before (d ∷ rest) up).0 y (part y (inl refl)) (ap (λ (z : Command Op). z.key.session) same) in
            let number = ap (λ (z : Command Op). z.key.number) same in
            absurd (omega (arith, less, number))

-- along a rising list a key tells the command
rising_one : {Op : Type 0} (cs : List (Command Op)) → IsRising cs → (x y : Command Op) → In x cs → In y cs → x.key ≡ y.key → x ≡ y
rising_one [] rising x y i j same = absurd i
rising_one (c ∷ cs) rising x y (inl a) (inl b) same = a ∙ sym b
rising_one {Op} (c ∷ cs) rising x y (inl a) (inr j) same =
    let key : c.key ≡ y.key = ap (λ (d : Command Op). d.key) (sym a) ∙ same in
    let less = rising.0 y j (ap (λ (k : Key). k.session) (sym key)) in
    let number = ap (λ (k : Key). k.number) key in
    absurd (omega (arith, less, number))
rising_one {Op} (c ∷ cs) rising x y (inr i) (inl b) same =
    let key : c.key ≡ x.key = ap (λ (d : Command Op). d.key) (sym b) ∙ sym same in
    let less = rising.0 x i (ap (λ (k : Key). k.session) (sym key)) in
    let number = ap (λ (k : Key). k.number) key in
    absurd (omega (arith, less, number))
rising_one (c ∷ cs) rising x y (inr i) (inr j) same = rising_one cs rising.1 x y i j same

abbrev pub keys : {Op : Type 0} → List (Command Op) → List Key
keys cs = map (λ c. c.key) cs

-- commands of one list, where a key tells the command: whose keys begin with those of others, they begin with the others
begins_by_keys : {Op : Type 0} (xs order : List (Command Op)) (more : List Key)
    → ((d e : Command Op) → In d order → In e xs → d.key ≡ e.key → d ≡ e)
    → keys order ≡ keys xs ++ more → IsBeginning xs order
begins_by_keys [] order more one e = (order, refl)
begins_by_keys (x ∷ xs) [] more one e = absurd (cc)
begins_by_keys {Op} (x ∷ xs) (d ∷ order) more one e =
    let same : d.key ≡ x.key = cc in
    let rest : keys order ≡ keys xs ++ more = cc in
    let begins = begins_by_keys xs order more (λ y z i j. one y z (inr i) (inr j)) rest in
    (begins.0, ap₂ (λ (y : Command Op) ys. y ∷ ys) (one d x (inl refl) (inl refl) same) begins.1)

-- a key among those of some commands is that of one
pub stands_in : {Op : Type 0} (k : Key) (cs : List (Command Op)) → stands own_key k (keys cs) ≡ true → (c : Command Op) × In c cs × (c.key ≡ k)
stands_in k [] e = absurd (cc)
stands_in {Op} k (c ∷ cs) e = at (same_key c.key k) refl (stands_in k cs) e
  where
    at : (b : Bool) → same_key c.key k ≡ b
        → (stands own_key k (keys cs) ≡ true → (d : Command Op) × In d cs × (d.key ≡ k))
        → (b || stands own_key k (keys cs)) ≡ true → (d : Command Op) × In d (c ∷ cs) × (d.key ≡ k)
    at true same later e = (c, inl refl, same_is c.key k same)
    at false same later e = let r = later e in (r.0, inr r.1, r.2)

-- An order whose keys begin with those of some rising commands, and which otherwise has this one alone: it has it once, at
-- its end.
pub grown : {Op : Type 0} (before : List (Command Op)) (c : Command Op) (order : List (Command Op)) (more : List Key)
    → IsRising before → IsRising order
    → ((d : Command Op) → In d order → In d (before ++ (c ∷ [])))
    → ((d : Command Op) → In d before → d.key ≢ c.key)
    → keys order ≡ keys before ++ more
    → stands own_key c.key (keys order) ≡ true
    → order ≡ before ++ (c ∷ [])
grown {Op} before c order more old rising within other e placed =
    grown_by_one before c order (begins_by_keys before order more one e) rising within other (stands_in c.key order placed)
  where
    one : (d x : Command Op) → In d order → In x before → d.key ≡ x.key → d ≡ x
    one d x i j same = ⊎_elim
        (λ (there : In d before). rising_one before old d x there j same)
        (λ (here : In d (c ∷ [])). absurd (other x j (sym same ∙ ap (λ (y : Command Op). y.key) (In-one d c here))))
        (In-cases d before (c ∷ []) (within d i))
