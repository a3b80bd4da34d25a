-- What is fresh of a report, one pvalue after another.
use Rattle.std.proofs.Common.{◌≡◌, ◌⊎◌, inl, inr, ⊎_elim, ℕ, ◌+◌, ◌<◌, List, [], ◌∷◌, ◌++◌, length, take, get_or, refl, sym, ap, subst, ◌∙◌, append_assoc}
use Rattle.std.specs.Prelude.{Result, Ok, Err, OnErr}
use Rattle.std.proofs.lemmas.List.{append-nil, take_more}
use Rattle.std.proofs.Math.Seq.{drop-append_seam}
use Rattle.object.specs.Lists.{In}
use Rattle.ballot.specs.declared.pvalue.Pvalue.{Pvalue}
use Rattle.scout_commander.specs.Reports.{IsOnce, IsFresh, HasNews, beyond}
use Rattle.scout_commander.proofs.Members.{in_cases, in_left, in_right, in_take, only_one}

once_more : {X : Type 0} (xs : List X) (y : X) → IsOnce xs → (In y xs → ⊥) → IsOnce (xs ++ y ∷ [])
once_more [] y o n = (λ i. i, tt)
once_more (x ∷ xs) y o n = (
  λ i. ⊎_elim (λ (j : In x xs). o.0 j) (λ (j : In x (y ∷ [])). n (inl (sym (only_one x y j)))) (in_cases x xs (y ∷ []) i),
  once_more xs y o.1 (λ i. n (inr i)),
)

-- what is so is so of a refusal
pub on_err : {X E P : Type 0} (r : Result X E) → P → OnErr r P
on_err (Ok x) p = tt
on_err (Err e) p = p

-- of no report nothing
pub fresh_of_none : {C : Type 0} (gathered : List (Pvalue C)) → IsFresh gathered [] []
fresh_of_none gathered = record { part = λ p i. i; all = λ p i. absurd i; new = λ p i j. i; once = tt }

module _ {C : Type 0} (gathered report fresh : List (Pvalue C)) (p : Pvalue C) (is : IsFresh gathered report fresh) where
  -- a pvalue that is there
  pub fresh_seen : In p (gathered ++ fresh) → IsFresh gathered (report ++ p ∷ []) fresh
  fresh_seen there = record {
    part = λ q i. in_left q report (p ∷ []) (is.part q i);
    all = λ q i.
        ⊎_elim (λ (j : In q report). is.all q j)
        (λ (j : In q (p ∷ [])). in_cases q gathered fresh (subst (λ r. In r (gathered ++ fresh)) (sym (only_one q p j)) there))
        (in_cases q report (p ∷ []) i);
    new = is.new;
    once = is.once;
  }

  -- one that isn't
  pub fresh_more : (In p (gathered ++ fresh) → ⊥) → IsFresh gathered (report ++ p ∷ []) (fresh ++ p ∷ [])
  fresh_more unseen = record {
    part = λ q i.
        ⊎_elim (λ (j : In q fresh). in_left q report (p ∷ []) (is.part q j))
        (λ (j : In q (p ∷ [])). in_right q report (p ∷ []) j) (in_cases q fresh (p ∷ []) i);
    all = λ q i.
        ⊎_elim
        (λ (j : In q report).
        ⊎_elim (λ (k : In q gathered). inl k) (λ (k : In q fresh). inr (in_left q fresh (p ∷ []) k)) (is.all q j))
        (λ (j : In q (p ∷ [])). inr (in_right q fresh (p ∷ []) j)) (in_cases q report (p ∷ []) i);
    new = λ q i g.
        ⊎_elim (λ (j : In q fresh). is.new q j g)
        (λ (j : In q (p ∷ [])). unseen (in_left p gathered fresh (subst (λ r. In r gathered) (only_one q p j) g)))
        (in_cases q fresh (p ∷ []) i);
    once = once_more fresh p is.once (λ i. unseen (in_right p gathered fresh i));
  }

-- of each report something is fresh, where it can be told whether a pvalue stands in a list
pub some_fresh : {C : Type 0} → ((p : Pvalue C) (ps : List (Pvalue C)) → In p ps ⊎ (In p ps → ⊥))
    → (gathered report : List (Pvalue C)) → (fresh : List (Pvalue C)) × IsFresh gathered report fresh
some_fresh {C} decide gathered report = go report [] [] (fresh_of_none gathered)
  where
    go : (rest done fresh : List (Pvalue C)) → IsFresh gathered done fresh → (all : List (Pvalue C)) × IsFresh gathered (done ++ rest) all
    go [] done fresh is = (fresh, subst (λ ps. IsFresh gathered ps fresh) (sym (append-nil done)) is)
    go (p ∷ rest) done fresh is =
        let next : (f : List (Pvalue C)) → IsFresh gathered (done ++ p ∷ []) f → (all : List (Pvalue C)) × IsFresh gathered (done ++ p ∷ rest) all =
        λ f i. let r = go rest (done ++ p ∷ []) f i in (r.0, subst (λ ps. IsFresh gathered ps r.0) (append_assoc done (p ∷ []) rest) r.1) in
        ⊎_elim (λ (i : In p (gathered ++ fresh)). next fresh (fresh_seen gathered done fresh p is i))
        (λ (n : In p (gathered ++ fresh) → ⊥). next (fresh ++ p ∷ []) (fresh_more gathered done fresh p is n))
        (decide p (gathered ++ fresh))

-- what stands after the old ones
pub beyond_old : {X : Type 0} (old now fresh : List X) → now ≡ old ++ fresh → beyond old now ≡ fresh
beyond_old old now fresh e = ap (λ xs. beyond old xs) e ∙ drop-append_seam old fresh

-- one more was put in
pub one_beyond : {X : Type 0} (old now new : List X) (x : X) → now ≡ old ++ beyond old now → new ≡ now ++ x ∷ []
    → (new ≡ old ++ beyond old new) × (beyond old new ≡ beyond old now ++ x ∷ [])
one_beyond old now new x e f =
    let is : new ≡ old ++ (beyond old now ++ x ∷ []) = f ∙ ap (λ xs. xs ++ x ∷ []) e ∙ append_assoc old (beyond old now) (x ∷ []) in
    let more : beyond old new ≡ beyond old now ++ x ∷ [] = beyond_old old new (beyond old now ++ x ∷ []) is in
    (is ∙ ap (λ xs. old ++ xs) (sym more), more)

module _ {C : Type 0} (old now report : List (Pvalue C)) (i : ℕ) (p : Pvalue C) (kept : now ≡ old ++ beyond old now)
    (is : IsFresh old (take i report) (beyond old now)) (within : i < length report)
    (item : p ≡ get_or report i p) where
  next : take (i + 1) report ≡ take i report ++ p ∷ []
  next = take_more report i p within ∙ ap (λ q. take i report ++ q ∷ []) (sym item)

  -- the next pvalue of the report is not there, so the report has one that wasn't gathered
  pub turn_news : (In p now → ⊥) → HasNews old report
  turn_news unseen = (
    p,
    in_take (i + 1) p report (subst (λ ps. In p ps) (sym next) (in_right p (take i report) (p ∷ []) (inl refl))),
    λ there. unseen (subst (λ ps. In p ps) (sym kept) (in_left p old (beyond old now) there)),
  )

  -- the next pvalue of the report is there
  pub turn_seen : In p now → IsFresh old (take (i + 1) report) (beyond old now)
  turn_seen there =
      subst (λ ps. IsFresh old ps (beyond old now)) (sym next)
      (fresh_seen old (take i report) (beyond old now) p is (subst (λ ps. In p ps) kept there))

  -- it isn't, and is put in
  pub turn_more : (new : List (Pvalue C)) (copy : Pvalue C) → (In p now → ⊥) → copy ≡ p → new ≡ now ++ copy ∷ []
      → (new ≡ old ++ beyond old new) × IsFresh old (take (i + 1) report) (beyond old new)
  turn_more new copy unseen same put =
      let b = one_beyond old now new p kept (put ∙ ap (λ q. now ++ q ∷ []) same) in (
        b.0,
        subst (λ ps. IsFresh old ps (beyond old new)) (sym next)
            (subst (λ ps. IsFresh old (take i report ++ p ∷ []) ps) (sym b.1)
            (fresh_more old (take i report) (beyond old now) p is (λ j. unseen (subst (λ ps. In p ps) (sym kept) j)))),
      )
