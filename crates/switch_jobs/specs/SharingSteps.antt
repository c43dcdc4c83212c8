-- Groups that share the cards of a plan.
use Rattle.std.specs.Prelude.{◌≡◌, List, Some, slice_get}
use Rattle.slot_histories.specs.declared.events.Event.{Event}
use Rattle.turn_lock.specs.Seats.{TurnValue}
use Rattle.slot_board.specs.Seats.{refusals}
use Rattle.card_core.specs.Plans.{Plan as CardPlan}
use Rattle.card_worker.specs.declared.hands.Member.{Member}
use Rattle.card_worker.specs.declared.hands.Group.{Group}
use Rattle.card_worker.specs.Disbanding.{IsAmong}
use Rattle.card_worker.specs.Groups.{AreGroups}

-- each member's card is of the plan of its port
abbrev pub ArePlanned : List CardPlan → List Group → Type 0
ArePlanned plans groups = (member : Member) → IsAmong member groups → slice_get plans member.seat.number ≡ Some member.hand.card.sends.plan

-- no member was refused yet
abbrev pub AreUnrefused : List Group → Type 0
AreUnrefused groups = (member : Member) → IsAmong member groups → refusals member.seat ≡ 0

-- the groups have all cards of a board, each of the plan of its port, and none was refused yet
pub record AreShared (board : TurnValue Event) (plans : List CardPlan) (groups : List Group) : Type 0 where
  pub groups_are : AreGroups board board.seats groups
  pub planned : ArePlanned plans groups
  pub unrefused : AreUnrefused groups
