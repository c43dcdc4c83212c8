-- The queues of an input, and how many packets will enter each of them.
use Rattle.std.specs.Prelude.{ℕ, List}
use Rattle.voq_banks.specs.Queues.{Queues as UniQueues}
use Rattle.multicast_queue.specs.FanQueues.{Queues as FanQueues}

-- the unicast queues, one for each output and level, and the multicast queues, one for each level
pub record InputQueues : Type 0 where
  pub unicast : UniQueues
  pub multicast : FanQueues

-- of a switch of so many ports: how many packets will enter the unicast queue of an output and a level, at place
-- 4 * output + level, and the multicast queue of a level
pub record QueueRooms : Type 0 where
  pub ports : ℕ
  pub unicast : List ℕ
  pub multicast : List ℕ
