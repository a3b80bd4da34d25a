-- What may bring a tube, and what may take one away.
use Rattle.std.specs.Prelude.{◌≡◌, ℕ, ◌^◌, Bool, true, false, not, List, [], ◌∷◌, Option, Some}
use Rattle.std.specs.Option.{option_to_list}
use Rattle.object.specs.Lists.{In}
use Rattle.object.specs.declared.command.Key.{Key}
use Rattle.job_store.specs.Entries.{Rising, value_at}
use Rattle.job_store.specs.LookUps.{is_among}
use Rattle.bean_words.specs.declared.op.Op.{Op}
use Rattle.bean_queue.specs.declared.logic.staying.Listed.{Listed}
use Rattle.bean_queue.specs.Queue.{QueueState, used_by}
use Rattle.bean_queue.specs.Tubes.{all_tubes}
use Rattle.bean_queue.specs.Woken.{tube_of}

-- the operation uses or watches a tube that isn't among these, which are all
abbrev pub brings_tube : Op → List (List ℕ) → Bool
brings_tube (Op.Use tube) tubes = not (is_among tube tubes)
brings_tube (Op.Watch tube) tubes = not (is_among tube tubes)
brings_tube _ tubes = false

-- the tubes that an operation may take away: the one that its session uses, the one that is ignored, or the job's
abbrev pub left_by : Op → Key → QueueState → List (List ℕ)
left_by (Op.Use tube) key s = used_by s key.session ∷ []
left_by (Op.Ignore tube) key s = tube ∷ []
left_by (Op.Delete id) key s = tube_of (value_at id s.jobs)
left_by _ key s = []

-- these tubes are there
abbrev pub AreTubes : List (List ℕ) → QueueState → Type 0
AreTubes tubes s = (tube : List ℕ) → In tube tubes → is_among tube (all_tubes s) ≡ true

-- all tubes were listed, the operation brings none, and the one that it may take away is noted
pub record IsListedBefore (op : Op) (key : Key) (s : QueueState) (listed : Listed) : Type 0 where
  pub all : listed.names ≡ all_tubes s
  pub none_new : brings_tube op (all_tubes s) ≡ false
  pub left : option_to_list listed.left ≡ left_by op key s
  pub rising : Rising 0 (2 ^ 32) s.sessions

-- these were listed, and the tube that might have gone is there
pub record IsStillListed (s : QueueState) (before : Option Listed) (names : List (List ℕ)) : Type 0 where
  pub listed : Listed
  pub before_is : before ≡ Some listed
  pub same : names ≡ listed.names
  pub still : AreTubes (option_to_list listed.left) s
