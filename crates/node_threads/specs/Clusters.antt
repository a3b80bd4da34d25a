-- What a cluster leaves when it has ended, and what it needs before it begins.
use Rattle.std.specs.Prelude.{◌≡◌, ◌≢◌, ◌<◌, ◌≤◌, ◌==◌, ℕ, ◌+◌, true, List, length, vec_len, vec_capacity, sum, map, flat_map, Option, None, Some}
use Rattle.std.specs.Global.{Vec}
use Rattle.std.specs.List.{IsDistinct}
use Rattle.std.specs.declared.sync.ledger.Share.{Share}
use Rattle.object.specs.Lists.{In}
use Rattle.hall.specs.Books.{is_opened}
use Rattle.hall.specs.Halls.{HallState, Agrees}
use Rattle.hall.specs.Tickets.{TicketState}
use Rattle.node_threads.specs.declared.accept.Accept.{Ghosts as Accept}
use Rattle.node_threads.specs.declared.cluster_error.ClusterError.{ClusterError}
use Rattle.node_threads.specs.declared.cluster_error.ClusterError.TheVariants.{BadNumber, ListenFailed, OutOfMemory}
use Rattle.counted_hall.specs.Accounts.{AreItsTickets, acts_in, all_tickets}

-- There are as many tickets as sessions were opened, and as many acts in them as these handed in; and the fault is bad
-- number exactly where they aren't the tickets of the hall's sessions.
pub record IsAccountedFor {Op Reply : Type 0} (h : HallState Op Reply) (tickets : List (TicketState Op Reply)) (fault : Option ClusterError) : Type 0 where
  pub opened : length h.book ≡ length tickets
  pub handed_in : sum h.book ≡ acts_in tickets
  pub agree : fault ≢ Some BadNumber → AreItsTickets h tickets
  pub disagree : fault ≡ Some BadNumber → AreItsTickets h tickets → ⊥

-- so many workers a cluster may have
pub record IsWorkerCount (workers : ℕ) : Type 0 where
  pub some : 1 ≤ workers
  pub few : workers ≤ 64

-- There is room for the threads of so many nodes and workers: each worker takes a part of both counts, and leaves one.
pub record HaveRoom {S C T H : Type 0} (nodes workers : ℕ) (sessions : Share S) (commands : Share C) (tickets : Vec T) (crew : Vec H) : Type 0 where
  pub few : workers ≤ 64
  pub session_parts : workers < sessions.parts
  pub command_parts : workers < commands.parts
  pub room : vec_len tickets + workers ≤ vec_capacity tickets
  pub crew_room : vec_len crew + nodes + 1 ≤ vec_capacity crew

-- What accepts clients has come to its end and failed at no call, where no fault is told; and it has failed where it is told
-- that the cluster cannot listen.
pub record LeavesAccept {A R W : Type 0} (accepts : Accept A R W) (before after : A) (fault : Option ClusterError) : Type 0 where
  pub ended : fault ≡ None → accepts.has_ended after ≡ true
  pub none_failed : fault ≡ None → accepts.has_failed after ≡ accepts.has_failed before
  pub failed : fault ≡ Some ListenFailed → accepts.has_failed after ≡ true

-- What a cluster has left when it has ended: the tickets of its sessions, a list for each worker, and what accepted its
-- clients. Where it is told that memory was short, all is as it was.
pub record LeavesCluster {Op Reply A R W : Type 0} (accepts : Accept A R W)
    (hall after : HallState Op Reply) (accept rest : A) (tickets : List (Vec (TicketState Op Reply)))
    (workers : ℕ) (fault : Option ClusterError) : Type 0 where
  pub accounted : IsAccountedFor after (all_tickets tickets) fault
  pub untouched : fault ≡ Some OutOfMemory → after ≡ hall
  pub not_asked : fault ≡ Some OutOfMemory → rest ≡ accept
  pub each_worker : fault ≡ None → length tickets ≡ workers
  pub clients : LeavesAccept accepts accept rest fault
