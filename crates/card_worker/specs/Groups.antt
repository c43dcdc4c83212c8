-- Groups that share the cards of a board.
use Rattle.std.specs.Prelude.{◌≡◌, ◌<◌, ◌≤◌, ℕ, List, length, slice_get, Some}
use Rattle.rotating_pick.specs.declared.limits.TheConstants.{MAX_PORTS}
use Rattle.slot_histories.specs.declared.events.Event.{Event}
use Rattle.turn_lock.specs.Seats.{TurnValue}
use Rattle.card_worker.specs.declared.hands.Member.{Member}
use Rattle.card_worker.specs.declared.hands.Group.{Group}
use Rattle.card_worker.specs.Trying.{IsMember}
use Rattle.card_worker.specs.Driving.{AfterPasses}
use Rattle.card_worker.specs.Disbanding.{IsAmong, HasCard, member_count}

-- The first `cards` cards of the board have each a member in one of the groups, and the groups have no others.
pub record AreGroups (board : TurnValue Event) (cards : ℕ) (groups : List Group) : Type 0 where
  pub count : member_count groups ≡ cards
  pub each : (i : ℕ) → i < cards → HasCard groups i
  pub members : (m : Member) → IsAmong m groups → IsMember board m

-- the group may be driven at the board
pub record IsGroup (board : TurnValue Event) (group : Group) : Type 0 where
  pub few : length group.members.items ≤ MAX_PORTS
  pub members : (j : ℕ) (m : Member) → slice_get group.members.items j ≡ Some m → IsMember board m

-- the group was driven, and made `made` posts and takes
pub record IsDrivenGroup (board : TurnValue Event) (patience : ℕ) (old new : Group) : Type 0 where
  pub made : ℕ
  pub passes : AfterPasses board old.members.items new.members.items patience made
