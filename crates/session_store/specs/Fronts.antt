-- How far the lines of tubes were gone through.
use Rattle.std.specs.Prelude.{◌≡◌, ℕ, true, List, unwrap_or}
use Rattle.std.specs.declared.cmp.Ordering.TheVariants.{Less}
use Rattle.std.specs.BTreeMap.{get}
use Rattle.object.specs.Lists.{In}
use Rattle.bean_words.specs.Names.{name_cmp}
use Rattle.session_store.specs.declared.session.SessionState.{SessionState}
use Rattle.session_store.specs.declared.place.LinePlace.{LinePlace}
use Rattle.session_store.specs.declared.fronts.Fronts.{Fronts}
use Rattle.session_store.specs.Sessions.{wait_rank}
use Rattle.session_store.specs.Lines.{line_cmp, place, wants_from}

-- the front of a tube: the beginning of its line, where none was noted
abbrev pub front_of : List ℕ → Fronts → LinePlace
front_of tube fronts = unwrap_or (get name_cmp fronts.places tube) (place 0 0)

-- nobody who waits for a job of the tube stands before the place
abbrev pub IsFront : List ℕ → List (ℕ × SessionState) → LinePlace → Type 0
IsFront tube sessions p =
    (e : ℕ × SessionState) → In e sessions → wants_from tube e ≡ true → line_cmp (place (wait_rank e.1) e.0) p ≡ Less → ⊥

-- nobody who waits for a job of a tube stands before the tube's front
abbrev pub AreFronts : Fronts → List (ℕ × SessionState) → Type 0
AreFronts fronts sessions = (tube : List ℕ) → IsFront tube sessions (front_of tube fronts)
