-- On which shelf a job stands, and where.
use Rattle.std.specs.Prelude.{◌≡◌, ◌^◌, ℕ, Bool, true, false, ◌&&◌, ◌⊎◌, ◌==◌, List, [], Option, Result, option_map, IfSome, IfNone, OnOk, OnErr, bytes_eq}
use Rattle.std.specs.Borrow.{Bor}
use Rattle.std.specs.Ordering.{nat_cmp}
use Rattle.object.specs.Lists.{In}
use Rattle.job_store.specs.declared.job.Job.{Job}
use Rattle.job_store.specs.declared.label.Label.{Label}
use Rattle.job_store.specs.declared.shelves.Shelves.{Shelves}
use Rattle.job_store.specs.declared.spot.Spot.{Spot}
use Rattle.job_store.specs.Entries.{Rising}
use Rattle.job_store.specs.Undone.{MapState}
use Rattle.job_store.specs.Least.{IsLeast, NonePasses, least}
use Rattle.job_store.specs.States.{is_ready, is_scheduled}
use Rattle.job_store.specs.LookUps.{delayed_in, buried_in, reserved_in, held_by, is_after, pri_of_job, due_of_job, rank_of_job}
use Rattle.job_store.specs.ShelfStates.{ShelfState, IsFrom, IsFound}
use Rattle.job_store.specs.Racks.{shelf_at}
use Rattle.bean_words.specs.Names.{name_cmp}
use Rattle.job_store.specs.Spots.{spot_of}

-- whether a job belongs on the shelf
abbrev pub belongs : Label → ℕ × Job → Bool
belongs (Label.Ready tube) e = is_ready e.1.state && bytes_eq tube.now e.1.tube
belongs (Label.Delayed tube) e = delayed_in tube.now e
belongs (Label.Buried tube) e = buried_in tube.now e
belongs (Label.Held x) e = held_by x e
belongs Label.Scheduled e = is_scheduled e.1.state
belongs (Label.Reserved tube) e = reserved_in tube.now e

-- the number by which the shelf is ordered
abbrev pub number : Label → Job → ℕ
number (Label.Ready tube) job = pri_of_job job
number (Label.Delayed tube) job = due_of_job job
number (Label.Buried tube) job = rank_of_job job
number (Label.Held x) job = due_of_job job
number Label.Scheduled job = due_of_job job
number (Label.Reserved tube) job = due_of_job job

-- whether a job belongs on the shelf, after a place
abbrev pub belongs_after : Label → ℕ × ℕ → ℕ × Job → Bool
belongs_after label place e = belongs label e && is_after place (number label e.1, e.0)

-- the job belongs at this place of the shelf
abbrev pub BelongsAt : Label → ℕ × ℕ → ℕ × Job → Type 0
BelongsAt label p e = (belongs label e ≡ true) × (p ≡ (number label e.1, e.0))

-- whether it does
abbrev pub belongs_at : Label → ℕ × ℕ → ℕ × Job → Bool
belongs_at label p e = belongs label e && number label e.1 == p.0 && e.0 == p.1

-- a look-up of the shelf finds each of the jobs that belongs there
abbrev pub AreAllFound : Label → ShelfState → List (ℕ × Job) → Type 0
AreAllFound label s jobs = (p : ℕ × ℕ) (e : ℕ × Job) → In e jobs → BelongsAt label p e → IsFound s p

-- no job that a look-up of the shelf finds stands before this place
abbrev pub IsPassed : Label → List (ℕ × Job) → ShelfState → ℕ × ℕ → Type 0
IsPassed label jobs s place = (p : ℕ × ℕ) (e : ℕ × Job) → In e jobs → BelongsAt label p e → IsFound s p → IsFrom place p

-- look-ups of the shelf begin at this place, where none of the jobs belongs
abbrev pub BeginsAtLeft : Label → List (ℕ × Job) → ShelfState → ℕ × ℕ → Type 0
BeginsAtLeft label jobs s place = (s.from ≡ place) × ((e : ℕ × Job) → In e jobs → BelongsAt label place e → ⊥)

-- the ids rise, and a look-up of the shelf finds each of the jobs that belongs there
pub record CanLookUp (label : Label) (s : ShelfState) (jobs : List (ℕ × Job)) : Type 0 where
  pub rising : Rising 0 (2 ^ 64) jobs
  pub all : AreAllFound label s jobs

-- what is found is the least of the jobs that pass, and nothing where none passes
pub record FindsFirst (test : ℕ × Job → Bool) (by : Job → ℕ) (jobs : List (ℕ × Job)) (result : Option (ℕ × Bor Job)) : Type 0 where
  pub job : option_map (λ e. (e.0, e.1.now)) result ≡ least test by jobs
  pub found : IfSome result (λ e. IsLeast test by jobs (e.0, e.1.now))
  pub none : IfNone result (NonePasses test jobs)

-- the places are the same, and look-ups begin after none of the jobs that they found
pub record HasMovedOn (label : Label) (jobs : List (ℕ × Job)) (old new : ShelfState) : Type 0 where
  pub places : new.places ≡ old.places
  pub passed : IsPassed label jobs old new.from

-- the shelf with this label
abbrev pub shelf : Shelves → Label → ShelfState
shelf s (Label.Ready tube) = shelf_at name_cmp s.ready.shelves tube.now
shelf s (Label.Delayed tube) = shelf_at name_cmp s.delayed.shelves tube.now
shelf s (Label.Buried tube) = shelf_at name_cmp s.buried.shelves tube.now
shelf s (Label.Held x) = shelf_at nat_cmp s.held.shelves x
shelf s Label.Scheduled = s.scheduled
shelf s (Label.Reserved tube) = shelf_at name_cmp s.reserved.shelves tube.now

-- the places on it
abbrev pub places : Shelves → Label → List (ℕ × ℕ)
places s label = (shelf s label).places

-- the job stands on each shelf on which it belongs
abbrev pub HasPlaces : Shelves → ℕ × Job → Type 0
HasPlaces s e = (label : Label) (p : ℕ × ℕ) → BelongsAt label p e → In p (places s label)

-- each of the jobs does
abbrev pub HavePlaces : Shelves → List (ℕ × Job) → Type 0
HavePlaces s jobs = (e : ℕ × Job) → In e jobs → HasPlaces s e

-- the job belongs nowhere before the place at which look-ups begin
abbrev pub IsAhead : Shelves → ℕ × Job → Type 0
IsAhead s e = (label : Label) (p : ℕ × ℕ) → BelongsAt label p e → IsFrom (shelf s label).from p

-- none of the jobs belongs there
abbrev pub AreAhead : Shelves → List (ℕ × Job) → Type 0
AreAhead s jobs = (e : ℕ × Job) → In e jobs → IsAhead s e

-- what is listed: the jobs that came, and those that went
abbrev pub lists : Shelves → List (ℕ × Spot) × List (ℕ × Spot)
lists s = (s.came.items, s.went.items)

-- the job is listed, without its body
abbrev pub IsListed : List (ℕ × Spot) → ℕ × Job → Type 0
IsListed listed e = In (e.0, spot_of e.1) listed

-- each of the jobs is ahead so, or listed as one that went
abbrev pub AreAheadOrListed : Shelves → List (ℕ × Job) → Type 0
AreAheadOrListed s jobs = (e : ℕ × Job) → In e jobs → IsAhead s e ⊎ IsListed s.went.items e

-- at each place belongs one of the jobs, or one that is listed
abbrev pub AreKnown : Shelves → List (ℕ × Job) → List (ℕ × Spot) → Type 0
AreKnown s jobs listed = (label : Label) (p : ℕ × ℕ) → In p (places s label) → (e : ℕ × Job) × BelongsAt label p e × (In e jobs ⊎ IsListed listed e)

-- the ids rise, and the shelves may be asked for each of the jobs: none belongs before the place at which look-ups begin
pub record AreInReach (s : Shelves) (jobs : List (ℕ × Job)) : Type 0 where
  pub rising : Rising 0 (2 ^ 64) jobs
  pub ahead : AreAhead s jobs

-- The ids rise. The jobs have their places, and look-ups find them there. At each place belongs one of them, or one that
-- is listed.
pub record HoldJobs (s : Shelves) (jobs : List (ℕ × Job)) (listed : List (ℕ × Spot)) : Type 0 where
  pub rising : Rising 0 (2 ^ 64) jobs
  pub placed : HavePlaces s jobs
  pub ahead : AreAhead s jobs
  pub known : AreKnown s jobs listed

-- the shelves hold the jobs and nothing else, and none is listed
pub record AreSwept (s : Shelves) (jobs : List (ℕ × Job)) : Type 0 where
  pub held : HoldJobs s jobs []
  pub listed : lists s ≡ ([], [])

-- The jobs, to which a trial goes back, have their places. Look-ups find them, but for those that are listed as ones that
-- went. At each place belongs one of them, or one that came.
pub record CanGoBack (s : Shelves) (jobs : List (ℕ × Job)) : Type 0 where
  pub placed : HavePlaces s jobs
  pub ahead : AreAheadOrListed s jobs
  pub known : AreKnown s jobs s.came.items

-- where a place is left at which the job belongs, one of these jobs belongs there too
abbrev pub IsGone : Shelves → List (ℕ × Job) → ℕ × Job → Label → Type 0
IsGone s jobs gone label = (p : ℕ × ℕ) → In p (places s label) → BelongsAt label p gone → (e : ℕ × Job) × BelongsAt label p e × In e jobs

-- none of the jobs stands where this one belongs on the shelf
abbrev pub IsAlone : Label → List (ℕ × Job) → ℕ × Job → Type 0
IsAlone label jobs e = (p : ℕ × ℕ) → BelongsAt label p e → (d : ℕ × Job) → In d jobs → BelongsAt label p d → ⊥

-- none of the jobs has this id
abbrev pub LacksJob : ℕ → List (ℕ × Job) → Type 0
LacksJob id jobs = (job : Job) → In (id, job) jobs → ⊥

-- no place is left at which the job belongs on the shelf
abbrev pub LacksPlace : Shelves → ℕ × Job → Label → Type 0
LacksPlace s e label = (p : ℕ × ℕ) → In p (places s label) → BelongsAt label p e → ⊥

-- look-ups of each shelf begin nowhere later
abbrev pub BeginNoLater : Shelves → Shelves → Type 0
BeginNoLater old new = (label : Label) (p : ℕ × ℕ) → IsFrom (shelf old label).from p → IsFrom (shelf new label).from p

-- places more, at which the job belongs
pub record HasPut (old new : Shelves) (e : ℕ × Job) : Type 0 where
  pub keeps : (label : Label) (p : ℕ × ℕ) → In p (places old label) → In p (places new label)
  pub only : (label : Label) (p : ℕ × ℕ) → In p (places new label) → In p (places old label) ⊎ BelongsAt label p e
  pub ahead : BeginNoLater old new
  pub lists : lists new ≡ lists old

-- places less, where none of the jobs belongs
pub record HasTaken (old new : Shelves) (jobs : List (ℕ × Job)) : Type 0 where
  pub keeps : (label : Label) (p : ℕ × ℕ) (e : ℕ × Job) → In e jobs → BelongsAt label p e → In p (places old label) → In p (places new label)
  pub only : (label : Label) (p : ℕ × ℕ) → In p (places new label) → In p (places old label)
  pub ahead : BeginNoLater old new
  pub lists : lists new ≡ lists old

-- the same places, and look-ups begin after none of the jobs that they found
pub record HasSettled (old new : Shelves) (jobs : List (ℕ × Job)) : Type 0 where
  pub shelves : (label : Label) → HasMovedOn label jobs (shelf old label) (shelf new label)
  pub lists : lists new ≡ lists old

-- After a change, in a trial or outside one, the shelves hold the jobs. In a trial the places are the same, and outside
-- one no job is listed.
pub record HasCaughtUp (is_trial : Bool) (old new : Shelves) (jobs : List (ℕ × Job)) : Type 0 where
  pub held : HoldJobs new jobs new.went.items
  pub settled : is_trial ≡ true → HasSettled old new jobs
  pub swept : is_trial ≡ false → lists new ≡ ([], [])

-- the same places, and look-ups begin nowhere later
pub record HasGoneBack (old new : Shelves) : Type 0 where
  pub places : (label : Label) → places new label ≡ places old label
  pub ahead : BeginNoLater old new
  pub lists : lists new ≡ lists old

-- places more, of jobs that are listed as ones that came
pub record HasGrown (old new : Shelves) : Type 0 where
  pub keeps : (label : Label) (p : ℕ × ℕ) → In p (places old label) → In p (places new label)
  pub came : (e : ℕ × Job) → IsListed old.came.items e → IsListed new.came.items e
  pub only : (label : Label) (p : ℕ × ℕ) → In p (places new label) → In p (places old label) ⊎ ((e : ℕ × Job) × BelongsAt label p e × IsListed new.came.items e)
  pub ahead : BeginNoLater old new

-- of the places more it isn't known whether they stay: their jobs are listed as ones that went
pub record AreInDoubt (old new : Shelves) : Type 0 where
  pub went : (e : ℕ × Job) → IsListed old.went.items e → IsListed new.went.items e
  pub only : (label : Label) (p : ℕ × ℕ) → In p (places new label) → In p (places old label) ⊎ ((e : ℕ × Job) × BelongsAt label p e × IsListed new.went.items e)

-- the shelves are the same, and what was listed still is
pub record ListsMore (old new : Shelves) : Type 0 where
  pub shelves : (label : Label) → shelf new label ≡ shelf old label
  pub came : (e : ℕ × Job) → IsListed old.came.items e → IsListed new.came.items e
  pub went : (e : ℕ × Job) → IsListed old.went.items e → IsListed new.went.items e

-- the job stands where it belongs, and look-ups find it there
pub record HasCome (s : Shelves) (e : ℕ × Job) : Type 0 where
  pub placed : HasPlaces s e
  pub ahead : IsAhead s e

-- A job is put, and isn't known to stay. The places more are its own. Where memory was refused it may lack some.
pub record PutsInDoubt {E : Type 0} (old new : Shelves) (e : ℕ × Job) (result : Result Unit E) : Type 0 where
  pub grown : HasGrown old new
  pub doubt : AreInDoubt old new
  pub only : (label : Label) (p : ℕ × ℕ) → In p (places new label) → In p (places old label) ⊎ BelongsAt label p e
  pub come : OnOk result (HasCome new e)

-- After a change of the jobs those that went are listed so, and those that came are found. The places more are of jobs
-- that are there, or listed as ones that went.
pub record HasFollowed (old new : Shelves) (jobs after : List (ℕ × Job)) : Type 0 where
  pub listed : (e : ℕ × Job) → IsListed old.went.items e → IsListed new.went.items e
  pub went : (e : ℕ × Job) → In e jobs → In e after ⊎ IsListed new.went.items e
  pub came : (e : ℕ × Job) → In e after → In e jobs ⊎ HasCome new e
  pub only : (label : Label) (p : ℕ × ℕ) → In p (places new label) → In p (places old label)
      ⊎ ((e : ℕ × Job) × BelongsAt label p e × (In e after ⊎ IsListed new.went.items e))

-- The jobs become these, of which the shelves have grown more places. Where memory was refused they stay. What they go
-- back to stays in any case.
pub record MovesJobs {E : Type 0} (s t : Shelves) (old new : MapState) (jobs : List (ℕ × Job)) (result : Result Unit E) : Type 0 where
  pub ok : OnOk result (new.jobs ≡ jobs)
  pub err : OnErr result (new.jobs ≡ old.jobs)
  pub rising : Rising 0 (2 ^ 64) new.jobs
  pub before : new.before ≡ old.before
  pub grown : HasGrown s t
  pub followed : HasFollowed s t old.jobs new.jobs

-- The shelves hold the jobs, and each place at which none of them belongs is of one that went. The jobs before the trial
-- have their places too, and each place is one of theirs or of one that came. What went in the trial is listed so, and
-- outside a trial nothing is.
pub record ShelvesMatch (s : Shelves) (state : MapState) : Type 0 where
  pub held : HoldJobs s state.jobs s.went.items
  pub placed_before : IfSome state.before (HavePlaces s)
  pub known_before : IfSome state.before (λ before. AreKnown s before s.came.items)
  pub went : IfSome state.before (λ before. (e : ℕ × Job) → In e before → In e state.jobs ⊎ IsListed s.went.items e)
  pub none_listed : IfNone state.before (lists s ≡ ([], []))
