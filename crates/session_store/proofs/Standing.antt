-- Who stands in the lines.
use Rattle.std.proofs.Common.{◌≡◌, ℕ, ◌<◌, true, false, cond, codes, nat_cmp, Less, Equal, Greater, inl, inr, List, []}
use Rattle.std.proofs.Common.{◌∷◌, Option, Some, IfSome, refl, sym, ap, subst, ◌∙◌, eqb-true, ◌==◌, unwrap_or, not}
use Rattle.std.proofs.Common.{bytes_eq, ◌++◌, ◌⊎◌, ◌+◌, ◌^◌, length, take, arith}
use Rattle.std.proofs.lemmas.Bool.{or_cases, or_left, or_right}
use Rattle.std.proofs.lemmas.Slice.Eq.{bytes_eq-Decides}
use Rattle.object.specs.Lists.{In}
use Rattle.job_store.specs.Entries.{Rising, value_at, with_value, altered, without}
use Rattle.std.specs.Ordering.{match_ordering}
use Rattle.job_store.specs.EntryLaws.{value_at-In, altered-in, without-in, Rising-altered, Rising-without, Rising-insert}
use Rattle.job_store.proofs.maps.Entries.{same_number}
use Rattle.std.proofs.Math.ListN.{get_or}
use Rattle.std.proofs.lemmas.List.Folds.{list_any_more}
use Rattle.session_store.proofs.Places.{some_in}
use Rattle.session_store.specs.declared.session.SessionState.{SessionState}
use Rattle.session_store.specs.declared.session.Wait.{Wait}
use Rattle.session_store.specs.declared.lines.Lines.{Lines}
use Rattle.session_store.specs.Sessions.{new_session, session_of, with_wait}
use Rattle.session_store.specs.Rolls.{has_tube, IsOn}
use Rattle.session_store.specs.Lines.{IsIn, time_out_place, rank_place, tube_line, StandsByTimeOut, StandsByTubes, StandsIn}
use Rattle.session_store.specs.Lines.{EachStands, AllStand, HasGrown}
use Rattle.session_store.specs.WatchLists.{joined, left_out}
use Rattle.job_store.specs.LookUps.{is_among}

-- Tubes that are watched

among-left_out : (tube t : List ℕ) (names : List (List ℕ)) → is_among t (left_out tube names) ≡ true → is_among t names ≡ true
among-left_out tube t [] e = e
among-left_out tube t (n ∷ ns) e =
    elim (not (bytes_eq tube n)) as (λ b. is_among t (cond b (n ∷ left_out tube ns) (left_out tube ns)) ≡ true → is_among t (n ∷ ns) ≡ true) [
      | false ↦ λ e. or_right (bytes_eq t n) (is_among t ns) (among-left_out tube t ns e)
      | true ↦ λ e.
          elim (or_cases (bytes_eq t n) (is_among t (left_out tube ns)) e) as (λ v. is_among t (n ∷ ns) ≡ true) [
            | inl here ↦ or_left (bytes_eq t n) (is_among t ns) here
            | inr later ↦ or_right (bytes_eq t n) (is_among t ns) (among-left_out tube t ns later)
          ]
    ] e

among-last : (tube t : List ℕ) (names : List (List ℕ)) → is_among t (names ++ tube ∷ []) ≡ true → (is_among t names ≡ true) ⊎ (t ≡ tube)
among-last tube t [] e = elim (or_cases (bytes_eq t tube) false e) as (λ v. (is_among t [] ≡ true)
    ⊎ (t ≡ tube)) [ inl here ↦ inr ((bytes_eq-Decides t tube).0 here) | inr never ↦ inl never ]
among-last tube t (n ∷ ns) e =
    elim (or_cases (bytes_eq t n) (is_among t (ns ++ tube ∷ [])) e) as (λ v. (is_among t (n ∷ ns) ≡ true) ⊎ (t ≡ tube)) [
      | inl here ↦ inl (or_left (bytes_eq t n) (is_among t ns) here)
      | inr later ↦
          elim (among-last tube t ns later) as (λ v. (is_among t (n ∷ ns) ≡ true)
          ⊎ (t ≡ tube)) [ inl old ↦ inl (or_right (bytes_eq t n) (is_among t ns) old) | inr same ↦ inr same ]
    ]

-- one tube more of some
pub among-more : (t : List ℕ) (names : List (List ℕ)) (i : ℕ) (d : List ℕ) → i < length names
    → is_among t (take (i + 1) names) ≡ true → (is_among t (take i names) ≡ true) ⊎ (t ≡ get_or names i d)
among-more t names i d inside e =
    elim (or_cases (is_among t (take i names)) (bytes_eq t (get_or names i d))
    (sym (list_any_more (bytes_eq t) names i d inside) ∙ e)) as (λ v. (is_among t (take i names) ≡ true)
    ⊎ (t ≡ get_or names i d)) [
      | inl old ↦ inl old
      | inr here ↦ inr ((bytes_eq-Decides t (get_or names i d)).0 here)
    ]

among-joined : (tube t : List ℕ) (names : List (List ℕ)) → is_among t (joined tube names) ≡ true → (is_among t names ≡ true) ⊎ (t ≡ tube)
among-joined tube t names e =
    elim (is_among tube names) as (λ b. is_among t (cond b names (names ++ tube ∷ [])) ≡ true → (is_among t names ≡ true) ⊎ (t ≡ tube)) [
      | true ↦ λ e. inl e
      | false ↦ λ e. among-last tube t names e
    ] e

-- Sessions that change

-- who stands so stands in other ways, too
pub stand-so : {stands stands' : ℕ × SessionState → Type 0} {sessions : List (ℕ × SessionState)} → AllStand stands sessions
    → ((e : ℕ × SessionState) → stands e → stands' e) → AllStand stands' sessions
stand-so all so = record { rising = all.rising; each = λ e i. so e (all.each e i) }

module _ (stands : ℕ × SessionState → Type 0) where
  -- a change of one session
  each-altered : (x : ℕ) (f : SessionState → SessionState) (sessions sessions' : List (ℕ × SessionState))
      → sessions' ≡ altered x f sessions → ((c : SessionState) → In (x, c) sessions → stands (x, f c))
      → EachStands stands sessions → EachStands stands sessions'
  each-altered x f sessions sessions' same new h =
      subst (EachStands stands) (sym same)
      (altered-in x f stands sessions
      (λ d i.
      elim (x == d.0) as (λ b. (x == d.0) ≡ b → stands (d.0, cond b (f d.1) d.1)) [
        | true ↦ λ t. subst (λ q. In (q, d.1) sessions → stands (q, f d.1)) (eqb-true x d.0 t) (new d.1) i
        | false ↦ λ t. h d i
      ] refl))

  pub all-altered : (x : ℕ) (f : SessionState → SessionState) (sessions sessions' : List (ℕ × SessionState))
      → sessions' ≡ altered x f sessions → ((c : SessionState) → In (x, c) sessions → stands (x, f c))
      → AllStand stands sessions → AllStand stands sessions'
  all-altered x f sessions sessions' same new all = record {
    rising = subst (Rising 0 (2 ^ 32)) (sym same) (Rising-altered x f 0 (2 ^ 32) sessions all.rising);
    each = each-altered x f sessions sessions' same new all.each;
  }

  -- a change that does not matter to where it stands
  pub all-kept : (x : ℕ) (f : SessionState → SessionState) (sessions sessions' : List (ℕ × SessionState))
      → sessions' ≡ altered x f sessions → ((c : SessionState) → stands (x, c) → stands (x, f c))
      → AllStand stands sessions → AllStand stands sessions'
  all-kept x f sessions sessions' same new all = all-altered x f sessions sessions' same (λ c i. new c (all.each (x, c) i)) all

  pub all-without : (x : ℕ) (sessions sessions' : List (ℕ × SessionState)) → sessions' ≡ without x sessions
      → AllStand stands sessions → AllStand stands sessions'
  all-without x sessions sessions' same all =
      subst (AllStand stands) (sym same) (record {
        rising = Rising-without x 0 (2 ^ 32) sessions all.rising;
        each = λ e i. all.each e (without-in x sessions e i);
      })

-- A session that is made

made-in : (P : ℕ × SessionState → Type 0) (x : ℕ) (v : SessionState) (es : List (ℕ × SessionState)) → P (x, v)
    → ((d : ℕ × SessionState) → In d es → P d) → (e : ℕ × SessionState) → In e (with_value x v es) → P e
made-in P x v [] new old e (inl same) = subst P (sym same) new
made-in P x v [] new old e (inr never) = absurd never
made-in P x v (d ∷ es) new old e i =
    elim (nat_cmp x d.0) as (λ o. nat_cmp x d.0 ≡ o → In e (match_ordering o ((x, v) ∷ d ∷ es) ((d.0, v) ∷ es) (d ∷ with_value x v es)) → P e) [
      | Less ↦ λ c i. elim i as (λ i. P e) [ inl same ↦ subst P (sym same) new | inr later ↦ old e later ]
      | Equal ↦ λ c i. elim i as (λ i. P e) [ inl same ↦ subst P (sym same) (subst (λ q. P (q, v)) (same_number x d.0 c) new) | inr later ↦ old e (inr later) ]
      | Greater ↦ λ c i. elim i as (λ i. P e) [ inl same ↦ old e (inl same) | inr later ↦ made-in P x v es new (λ c j. old c (inr j)) e later ]
    ] refl i

default-tube : (t : List ℕ) → has_tube t new_session ≡ true → t ≡ codes "default"
default-tube t e =
    elim (or_cases (bytes_eq t (codes "default")) (is_among t (codes "default" ∷ [])) e) as (λ v. t ≡ codes "default") [
      | inl used ↦ (bytes_eq-Decides t (codes "default")).0 used
      | inr among ↦
          elim (or_cases (bytes_eq t (codes "default")) false among) as (λ v. t
          ≡ codes "default") [ inl here ↦ (bytes_eq-Decides t (codes "default")).0 here | inr never ↦ cc ]
    ]

pub all-made : (lines : Lines) (x : ℕ) (sessions sessions' : List (ℕ × SessionState)) → x < 2 ^ 32
    → sessions' ≡ with_value x new_session sessions → IsOn (codes "default") lines.rolls x
    → AllStand (StandsIn lines) sessions → AllStand (StandsIn lines) sessions'
all-made lines x sessions sessions' below same on all =
    subst (AllStand (StandsIn lines)) (sym same) (record {
      rising = Rising-insert x 0 (2 ^ 32) new_session sessions (omega arith) below all.rising;
      each = made-in (StandsIn lines) x new_session sessions (
        tt,
        λ tube among. tt,
        λ t has. subst (λ u. IsOn u lines.rolls x) (sym (default-tube t has)) on,
      ) all.each;
    })

-- Lines that grow

pub stands-grown : (lines lines' : Lines) (e : ℕ × SessionState) → HasGrown lines lines' → StandsIn lines e → StandsIn lines' e
stands-grown lines lines' e more h = (
  some_in lines.time_outs.line lines'.time_outs.line (time_out_place e.0 e.1.wait) more.0 h.0,
  λ tube among. some_in (tube_line tube lines.tubes) (tube_line tube lines'.tubes) (rank_place e.0 e.1.wait) (more.1 tube) (h.1 tube among),
  λ tube has. more.2 tube e.0 (h.2 tube has),
)

pub each-grown : (lines lines' : Lines) (sessions : List (ℕ × SessionState)) → HasGrown lines lines'
    → EachStands (StandsIn lines) sessions → EachStands (StandsIn lines') sessions
each-grown lines lines' sessions more h = λ e i. stands-grown lines lines' e more (h e i)

pub all-grown : (lines lines' : Lines) (sessions : List (ℕ × SessionState)) → HasGrown lines lines'
    → AllStand (StandsIn lines) sessions → AllStand (StandsIn lines') sessions
all-grown lines lines' sessions more all = stand-so all (λ e h. stands-grown lines lines' e more h)

-- A session that uses or watches other tubes

has-less : (tube t : List ℕ) (c : SessionState) → has_tube t (record c { watched = left_out tube c.watched }) ≡ true → has_tube t c ≡ true
has-less tube t c e =
    elim (or_cases (bytes_eq t c.used) (is_among t (left_out tube c.watched)) e) as (λ v. has_tube t c ≡ true) [
      | inl used ↦ or_left (bytes_eq t c.used) (is_among t c.watched) used
      | inr among ↦ or_right (bytes_eq t c.used) (is_among t c.watched) (among-left_out tube t c.watched among)
    ]

pub stands-less : (lines : Lines) (x : ℕ) (tube : List ℕ) (c : SessionState) → StandsIn lines (x, c)
    → StandsIn lines (x, record c { watched = left_out tube c.watched })
stands-less lines x tube c h = (h.0, λ t among. h.1 t (among-left_out tube t c.watched among), λ t has. h.2 t (has-less tube t c has))

module _ (lines lines' : Lines) (x : ℕ) (tube : List ℕ) (c : SessionState) (more : HasGrown lines lines')
    (on : IsOn tube lines'.rolls x) (h : StandsIn lines (x, c)) where
  grown : StandsIn lines' (x, c)
  grown = stands-grown lines lines' (x, c) more h

  on-too : (t : List ℕ) → t ≡ tube → IsOn t lines'.rolls x
  on-too t same = subst (λ u. IsOn u lines'.rolls x) (sym same) on

  pub stands-using : StandsIn lines' (x, record c { used = tube })
  stands-using = (
    grown.0,
    grown.1,
    λ t has.
        elim (or_cases (bytes_eq t tube) (is_among t c.watched) has) as (λ v. IsOn t lines'.rolls x) [
          | inl here ↦ on-too t ((bytes_eq-Decides t tube).0 here)
          | inr among ↦ grown.2 t (or_right (bytes_eq t c.used) (is_among t c.watched) among)
        ],
  )

  pub stands-more : IfSome (rank_place x c.wait) (IsIn (tube_line tube lines'.tubes)) → StandsIn lines' (x, record c { watched = joined tube c.watched })
  stands-more new = (
    grown.0,
    λ t among.
        elim (among-joined tube t c.watched among) as (λ v. IfSome (rank_place x c.wait) (IsIn (tube_line t lines'.tubes))) [
          | inl old ↦ grown.1 t old
          | inr same ↦ subst (λ u. IfSome (rank_place x c.wait) (IsIn (tube_line u lines'.tubes))) (sym same) new
        ],
    λ t has.
        elim (or_cases (bytes_eq t c.used) (is_among t (joined tube c.watched)) has) as (λ v. IsOn t lines'.rolls x) [
          | inl used ↦ grown.2 t (or_left (bytes_eq t c.used) (is_among t c.watched) used)
          | inr among ↦
              elim (among-joined tube t c.watched among) as (λ v. IsOn t lines'.rolls x) [
                | inl old ↦ grown.2 t (or_right (bytes_eq t c.used) (is_among t c.watched) old)
                | inr same ↦ on-too t same
              ]
        ],
  )

some_session : (c d : SessionState) → Some c ≡ Some d → c ≡ d
some_session c d e = cc

-- the session that is found is the one that is meant
pub only-session : (x hi : ℕ) (sessions : List (ℕ × SessionState)) (c d : SessionState) → Rising 0 hi sessions
    → value_at x sessions ≡ Some c → In (x, d) sessions → c ≡ d
only-session x hi sessions c d r found i = some_session c d (sym found ∙ value_at-In 0 hi sessions (x, d) r i)

-- a session that waits anew
pub stands-again : (lines : Lines) (x hi : ℕ) (sessions : List (ℕ × SessionState)) (wait : Option Wait)
    (c d : SessionState) → Rising 0 hi sessions → value_at x sessions ≡ Some c → In (x, d) sessions
    → StandsByTimeOut lines.time_outs (x, with_wait wait c) × StandsByTubes lines.tubes (x, with_wait wait c)
    → StandsIn lines (x, d) → StandsIn lines (x, with_wait wait d)
stands-again lines x hi sessions wait c d r found i waits h =
    let new = subst (λ s. StandsByTimeOut lines.time_outs (x, with_wait wait s)
    × StandsByTubes lines.tubes (x, with_wait wait s))
    (only-session x hi sessions c d r found i) waits in (new.0, new.1, h.2)

-- a session that uses another tube is on its roll
pub all-using : (lines lines' : Lines) (x : ℕ) (tube : List ℕ) (sessions sessions' : List (ℕ × SessionState))
    → HasGrown lines lines' → IsOn tube lines'.rolls x
    → sessions' ≡ altered x (λ (s : SessionState). record s { used = tube }) sessions
    → AllStand (StandsIn lines) sessions → AllStand (StandsIn lines') sessions'
all-using lines lines' x tube sessions sessions' more on same all =
    all-altered (StandsIn lines') x (λ (s : SessionState). record s { used = tube }) sessions sessions' same
    (λ c i. stands-using lines lines' x tube c more on (all.each (x, c) i))
    (all-grown lines lines' sessions more all)

-- a session that watches one tube more stands in its line too, and on its roll
pub all-watching : (lines lines' : Lines) (x : ℕ) (tube : List ℕ) (sessions sessions' : List (ℕ × SessionState))
    → HasGrown lines lines'
    → IfSome (rank_place x (session_of x sessions).wait) (IsIn (tube_line tube lines'.tubes)) → IsOn tube lines'.rolls x
    → sessions' ≡ altered x (λ (s : SessionState). record s { watched = joined tube s.watched }) sessions
    → AllStand (StandsIn lines) sessions → AllStand (StandsIn lines') sessions'
all-watching lines lines' x tube sessions sessions' more new on same all =
    all-altered (StandsIn lines') x (λ (s : SessionState). record s { watched = joined tube s.watched }) sessions sessions' same
    (λ c i.
    stands-more lines lines' x tube c more on (all.each (x, c) i)
    (subst (λ (s : SessionState). IfSome (rank_place x s.wait) (IsIn (tube_line tube lines'.tubes)))
    (ap (λ o. unwrap_or o new_session) (value_at-In 0 (2 ^ 32) sessions (x, c) all.rising i)) new))
    (all-grown lines lines' sessions more all)

-- lines that grow twice
pub grown-twice : (lines lines' lines'' : Lines) → HasGrown lines lines' → HasGrown lines' lines'' → HasGrown lines lines''
grown-twice lines lines' lines'' one two = (λ p h. two.0 p (one.0 p h), λ t p h. two.1 t p (one.1 t p h), λ t x h. two.2 t x (one.2 t x h))
