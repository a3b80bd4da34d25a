-- One shelf changes: what holds of it, and of all that stay, holds of every shelf.
use Rattle.std.proofs.Common.{◌≡◌, ℕ, Bool, true, false, ◌⊎◌, inl, inr, List, refl, sym, ap, subst, ◌∙◌, nat_cmp, ◌&&◌, bytes_eq, Bor}
use Rattle.std.proofs.lemmas.Bool.{both_ways, cases_eq}
use Rattle.std.proofs.lemmas.Slice.Eq.{bytes_eq-Decides}
use Rattle.object.specs.Lists.{In}
use Rattle.job_store.specs.declared.job.Job.{Job}
use Rattle.bean_words.specs.declared.name.Name.{Name}
use Rattle.job_store.specs.declared.label.Label.{Label}
use Rattle.job_store.specs.declared.rack.Rack.{Rack}
use Rattle.job_store.specs.declared.shelves.Shelves.{Shelves}
use Rattle.job_store.specs.States.{is_ready, is_delayed, is_buried, is_reserved, is_held}
use Rattle.job_store.specs.ShelfStates.{ShelfState, IsFrom, HasGained, HasLost, HasReached}
use Rattle.job_store.specs.Racks.{shelf_at, AreOthersKept}
use Rattle.bean_words.specs.Names.{name_cmp}
use Rattle.job_store.specs.Shelves.{belongs, number, lists, BelongsAt, shelf, AreAhead, HasPut, HasTaken, HasGoneBack, HasMovedOn, HasSettled}

-- two labels of one shelf
pub record IsLike (s t : Shelves) (l k : Label) : Type 0 where
  pub test : belongs l ≡ belongs k
  pub by : number l ≡ number k
  pub old : shelf s l ≡ shelf s k
  pub new : shelf t l ≡ shelf t k

-- no shelf has changed but the one with this label
abbrev pub IsOnly : Shelves → Shelves → Label → Type 0
IsOnly s t k = (l : Label) → IsLike s t l k ⊎ (shelf t l ≡ shelf s l)

same-name : (a b : List ℕ) → (a ≡ b) ⊎ (a ≡ b → ⊥)
same-name a b =
    elim (bytes_eq a b) as (λ t. bytes_eq a b ≡ t → (a ≡ b) ⊎ (a ≡ b → ⊥)) [
      | true ↦ λ t. inl ((bytes_eq-Decides a b).0 t)
      | false ↦ λ f. inr (λ same. both_ways (bytes_eq a b) f ((bytes_eq-Decides a b).1 same))
    ] refl

pub only-ready : (s : Shelves) (r : Rack Name ℕ) (tube : Bor Name)
    → AreOthersKept name_cmp tube.now s.ready.shelves r.shelves → IsOnly s (record s { ready = r }) (Label.Ready tube)
only-ready s r tube others (Label.Ready t) =
    elim (same-name t.now tube.now) as (λ v. IsLike s (record s { ready = r }) (Label.Ready t) (Label.Ready tube)
    ⊎ (shelf_at name_cmp r.shelves t.now ≡ shelf_at name_cmp s.ready.shelves t.now)) [
      | inl same ↦ inl (record {
        test = λ i e. is_ready e.1.state && bytes_eq (same i) e.1.tube;
        by = refl;
        old = ap (shelf_at name_cmp s.ready.shelves) same;
        new = ap (shelf_at name_cmp r.shelves) same;
      })
      | inr apart ↦ inr (others t.now apart)
    ]
only-ready s r tube others (Label.Delayed t) = inr refl
only-ready s r tube others (Label.Buried t) = inr refl
only-ready s r tube others (Label.Held x) = inr refl
only-ready s r tube others Label.Scheduled = inr refl
only-ready s r tube others (Label.Reserved t) = inr refl

pub only-delayed : (s : Shelves) (r : Rack Name ℕ) (tube : Bor Name)
    → AreOthersKept name_cmp tube.now s.delayed.shelves r.shelves
    → IsOnly s (record s { delayed = r }) (Label.Delayed tube)
only-delayed s r tube others (Label.Ready t) = inr refl
only-delayed s r tube others (Label.Delayed t) =
    elim (same-name t.now tube.now) as (λ v. IsLike s (record s { delayed = r }) (Label.Delayed t) (Label.Delayed tube)
    ⊎ (shelf_at name_cmp r.shelves t.now ≡ shelf_at name_cmp s.delayed.shelves t.now)) [
      | inl same ↦ inl (record {
        test = λ i e. is_delayed e.1.state && bytes_eq (same i) e.1.tube;
        by = refl;
        old = ap (shelf_at name_cmp s.delayed.shelves) same;
        new = ap (shelf_at name_cmp r.shelves) same;
      })
      | inr apart ↦ inr (others t.now apart)
    ]
only-delayed s r tube others (Label.Buried t) = inr refl
only-delayed s r tube others (Label.Held x) = inr refl
only-delayed s r tube others Label.Scheduled = inr refl
only-delayed s r tube others (Label.Reserved t) = inr refl

pub only-buried : (s : Shelves) (r : Rack Name ℕ) (tube : Bor Name)
    → AreOthersKept name_cmp tube.now s.buried.shelves r.shelves
    → IsOnly s (record s { buried = r }) (Label.Buried tube)
only-buried s r tube others (Label.Ready t) = inr refl
only-buried s r tube others (Label.Delayed t) = inr refl
only-buried s r tube others (Label.Buried t) =
    elim (same-name t.now tube.now) as (λ v. IsLike s (record s { buried = r }) (Label.Buried t) (Label.Buried tube)
    ⊎ (shelf_at name_cmp r.shelves t.now ≡ shelf_at name_cmp s.buried.shelves t.now)) [
      | inl same ↦ inl (record {
        test = λ i e. is_buried e.1.state && bytes_eq (same i) e.1.tube;
        by = refl;
        old = ap (shelf_at name_cmp s.buried.shelves) same;
        new = ap (shelf_at name_cmp r.shelves) same;
      })
      | inr apart ↦ inr (others t.now apart)
    ]
only-buried s r tube others (Label.Held x) = inr refl
only-buried s r tube others Label.Scheduled = inr refl
only-buried s r tube others (Label.Reserved t) = inr refl

pub only-held : (s : Shelves) (r : Rack ℕ ℕ) (x : ℕ) → AreOthersKept nat_cmp x s.held.shelves r.shelves → IsOnly s (record s { held = r }) (Label.Held x)
only-held s r x others (Label.Ready t) = inr refl
only-held s r x others (Label.Delayed t) = inr refl
only-held s r x others (Label.Buried t) = inr refl
only-held s r x others (Label.Held y) =
    elim (cases_eq y x) as (λ v. IsLike s (record s { held = r }) (Label.Held y) (Label.Held x)
    ⊎ (shelf_at nat_cmp r.shelves y ≡ shelf_at nat_cmp s.held.shelves y)) [
      | inl same ↦ inl (record {
        test = λ i e. is_held (same i) e.1.state;
        by = refl;
        old = ap (shelf_at nat_cmp s.held.shelves) same;
        new = ap (shelf_at nat_cmp r.shelves) same;
      })
      | inr apart ↦ inr (others y apart)
    ]
only-held s r x others Label.Scheduled = inr refl
only-held s r x others (Label.Reserved t) = inr refl

pub only-scheduled : (s : Shelves) (r : ShelfState) → IsOnly s (record s { scheduled = r }) Label.Scheduled
only-scheduled s r (Label.Ready t) = inr refl
only-scheduled s r (Label.Delayed t) = inr refl
only-scheduled s r (Label.Buried t) = inr refl
only-scheduled s r (Label.Held x) = inr refl
only-scheduled s r Label.Scheduled = inl (record { test = refl; by = refl; old = refl; new = refl })
only-scheduled s r (Label.Reserved t) = inr refl

pub only-reserved : (s : Shelves) (r : Rack Name ℕ) (tube : Bor Name)
    → AreOthersKept name_cmp tube.now s.reserved.shelves r.shelves
    → IsOnly s (record s { reserved = r }) (Label.Reserved tube)
only-reserved s r tube others (Label.Ready t) = inr refl
only-reserved s r tube others (Label.Delayed t) = inr refl
only-reserved s r tube others (Label.Buried t) = inr refl
only-reserved s r tube others (Label.Reserved t) =
    elim (same-name t.now tube.now) as (λ v. IsLike s (record s { reserved = r }) (Label.Reserved t)
    (Label.Reserved tube) ⊎ (shelf_at name_cmp r.shelves t.now ≡ shelf_at name_cmp s.reserved.shelves t.now)) [
      | inl same ↦ inl (record {
        test = λ i e. is_reserved e.1.state && bytes_eq (same i) e.1.tube;
        by = refl;
        old = ap (shelf_at name_cmp s.reserved.shelves) same;
        new = ap (shelf_at name_cmp r.shelves) same;
      })
      | inr apart ↦ inr (others t.now apart)
    ]
only-reserved s r tube others (Label.Held x) = inr refl
only-reserved s r tube others Label.Scheduled = inr refl

module _ (s t : Shelves) (k : Label) (only : IsOnly s t k) where
  each-shelf : (R : Label → ShelfState → ShelfState → Type 0)
      → ((l : Label) → belongs l ≡ belongs k → number l ≡ number k → R l (shelf s k) (shelf t k))
      → ((l : Label) (x : ShelfState) → R l x x) → (l : Label) → R l (shelf s l) (shelf t l)
  each-shelf R here others l =
      elim (only l) as (λ v. R l (shelf s l) (shelf t l)) [
        | inl like ↦ subst (λ x. R l x (shelf t l)) (sym like.old) (subst (R l (shelf s k)) (sym like.new) (here l like.test like.by))
        | inr same ↦ subst (R l (shelf s l)) (sym same) (others l (shelf s l))
      ]

  belongs-like : (l : Label) → belongs l ≡ belongs k → number l ≡ number k → (p : ℕ × ℕ) (e : ℕ × Job) → BelongsAt l p e → BelongsAt k p e
  belongs-like l test by p e b = (ap (λ (f : ℕ × Job → Bool). f e) (sym test) ∙ b.0, b.1 ∙ ap (λ (f : Job → ℕ). (f e.1, e.0)) by)

  module _ (same : lists t ≡ lists s) where
    pub put-at : (e : ℕ × Job) (n : ℕ) → true ≡ belongs k e → n ≡ number k e.1 → HasGained (shelf s k) (shelf t k) (n, e.0) → HasPut s t e
    put-at e n fits is gained = record {
      keeps = each-shelf (λ l x y. (p : ℕ × ℕ) → In p x.places → In p y.places) (λ l test by. gained.keeps) (λ l x p i. i);
      only = each-shelf (λ l x y. (p : ℕ × ℕ) → In p y.places → In p x.places ⊎ BelongsAt l p e)
          (λ l test by p i. elim (gained.only p i) as (λ v. In p (shelf s k).places ⊎ BelongsAt l p e) [
            | inl old ↦ inl old
            | inr at ↦ inr (ap (λ (f : ℕ × Job → Bool). f e) test ∙ sym fits, at ∙ ap (λ m. (m, e.0)) is ∙ ap (λ (f : Job → ℕ). (f e.1, e.0)) (sym by))
          ])
          (λ l x p i. inl i);
      ahead = each-shelf (λ l x y. (p : ℕ × ℕ) → IsFrom x.from p → IsFrom y.from p) (λ l test by. gained.ahead) (λ l x p h. h);
      lists = same;
    }

    pub take-at : (jobs : List (ℕ × Job)) (place : ℕ × ℕ) → AreAhead s jobs → ((e : ℕ × Job) → In e jobs → BelongsAt k place e → ⊥)
        → HasLost (shelf s k) (shelf t k) place → HasTaken s t jobs
    take-at jobs place ahead none lost = record {
      keeps = each-shelf (λ l x y. (p : ℕ × ℕ) (e : ℕ × Job) → In e jobs → BelongsAt l p e → In p x.places → In p y.places)
          (λ l test by p e i b j. lost.keeps p (j, ahead e i k p (belongs-like l test by p e b))
          (λ at. none e i (subst (λ q. BelongsAt k q e) at (belongs-like l test by p e b))))
          (λ l x p e i b j. j);
      only = each-shelf (λ l x y. (p : ℕ × ℕ) → In p y.places → In p x.places) (λ l test by p i. (lost.only p i).0) (λ l x p i. i);
      ahead = each-shelf (λ l x y. (p : ℕ × ℕ) → IsFrom x.from p → IsFrom y.from p) (λ l test by. lost.ahead) (λ l x p h. h);
      lists = same;
    }

    pub reach-at : (place : ℕ × ℕ) → HasReached (shelf s k) (shelf t k) place → HasGoneBack s t
    reach-at place reached = record {
      places = each-shelf (λ l x y. y.places ≡ x.places) (λ l test by. reached.places) (λ l x. refl);
      ahead = each-shelf (λ l x y. (p : ℕ × ℕ) → IsFrom x.from p → IsFrom y.from p) (λ l test by. reached.ahead) (λ l x p h. h);
      lists = same;
    }

    pub settle-at : (jobs : List (ℕ × Job)) → HasMovedOn k jobs (shelf s k) (shelf t k) → HasSettled s t jobs
    settle-at jobs moved = record {
      shelves = each-shelf (λ l x y. HasMovedOn l jobs x y)
          (λ l test by. record { places = moved.places; passed = λ p e i b. moved.passed p e i (belongs-like l test by p e b) })
          (λ l x. record { places = refl; passed = λ p e i b f. f.1 });
      lists = same;
    }

pub settle-ready : (s : Shelves) (r : Rack Name ℕ) (jobs : List (ℕ × Job)) {tube : Bor Name}
    → HasMovedOn (Label.Ready tube) jobs (shelf_at name_cmp s.ready.shelves tube.now)
    (shelf_at name_cmp r.shelves tube.now) → AreOthersKept name_cmp tube.now s.ready.shelves r.shelves
    → HasSettled s (record s { ready = r }) jobs
settle-ready s r jobs {tube} moved others = settle-at s (record s { ready = r }) (Label.Ready tube) (only-ready s r tube others) refl jobs moved

pub settle-delayed : (s : Shelves) (r : Rack Name ℕ) (jobs : List (ℕ × Job)) {tube : Bor Name}
    → HasMovedOn (Label.Delayed tube) jobs (shelf_at name_cmp s.delayed.shelves tube.now)
    (shelf_at name_cmp r.shelves tube.now) → AreOthersKept name_cmp tube.now s.delayed.shelves r.shelves
    → HasSettled s (record s { delayed = r }) jobs
settle-delayed s r jobs {tube} moved others = settle-at s (record s { delayed = r }) (Label.Delayed tube) (only-delayed s r tube others) refl jobs moved

pub settle-buried : (s : Shelves) (r : Rack Name ℕ) (jobs : List (ℕ × Job)) {tube : Bor Name}
    → HasMovedOn (Label.Buried tube) jobs (shelf_at name_cmp s.buried.shelves tube.now)
    (shelf_at name_cmp r.shelves tube.now) → AreOthersKept name_cmp tube.now s.buried.shelves r.shelves
    → HasSettled s (record s { buried = r }) jobs
settle-buried s r jobs {tube} moved others = settle-at s (record s { buried = r }) (Label.Buried tube) (only-buried s r tube others) refl jobs moved

pub settle-reserved : (s : Shelves) (r : Rack Name ℕ) (jobs : List (ℕ × Job)) {tube : Bor Name}
    → HasMovedOn (Label.Reserved tube) jobs (shelf_at name_cmp s.reserved.shelves tube.now)
    (shelf_at name_cmp r.shelves tube.now) → AreOthersKept name_cmp tube.now s.reserved.shelves r.shelves
    → HasSettled s (record s { reserved = r }) jobs
settle-reserved s r jobs {tube} moved others = settle-at s (record s { reserved = r }) (Label.Reserved tube) (only-reserved s r tube others) refl jobs moved
