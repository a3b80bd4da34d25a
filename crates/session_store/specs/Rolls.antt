-- Who uses or watches a tube.
use Rattle.std.specs.Prelude.{◌≡◌, ℕ, Bool, true, false, ◌||◌, List, None, Some, bytes_eq}
use Rattle.std.specs.Ordering.{nat_cmp}
use Rattle.std.specs.List.{list_any}
use Rattle.std.specs.BTreeSet.{contains}
use Rattle.job_store.specs.Entries.{value_at}
use Rattle.job_store.specs.LookUps.{is_among}
use Rattle.session_store.specs.declared.session.SessionState.{SessionState}
use Rattle.session_store.specs.declared.rolls.Rolls.{Rolls}
use Rattle.session_store.specs.TubeSets.{tube_set}

-- the session uses the tube, or watches it
abbrev pub has_tube : List ℕ → SessionState → Bool
has_tube tube session = bytes_eq tube session.used || is_among tube session.watched

-- a session does (protocol.txt of beanstalkd, "list-tubes")
abbrev pub is_named : List ℕ → List (ℕ × SessionState) → Bool
is_named tube sessions = list_any (λ e. has_tube tube e.1) sessions

-- session x does
abbrev pub names_tube : List ℕ → List (ℕ × SessionState) → ℕ → Bool
names_tube tube sessions x = elim (value_at x sessions) [ None ↦ false | Some session ↦ has_tube tube session ]

-- session x is on the roll of the tube
abbrev pub IsOn : List ℕ → Rolls → ℕ → Type 0
IsOn tube rolls x = contains nat_cmp (tube_set tube rolls.rolls) x ≡ true

-- the session is on the roll of each tube that it uses or watches
abbrev pub IsEnrolled : Rolls → ℕ × SessionState → Type 0
IsEnrolled rolls e = (tube : List ℕ) → has_tube tube e.1 ≡ true → IsOn tube rolls e.0

-- each roll has all that it had
abbrev pub HaveAll : Rolls → Rolls → Type 0
HaveAll rolls rolls' = (tube : List ℕ) (x : ℕ) → IsOn tube rolls x → IsOn tube rolls' x
