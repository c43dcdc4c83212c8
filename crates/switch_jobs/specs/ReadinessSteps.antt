-- A run that is ready: its plan, its members, and room for all that it makes.
use Rattle.std.specs.Prelude.{◌≡◌, ℕ, ◌<◌, ◌≤◌, List, [], map, length, Some, slice_get, vec_capacity}
use Rattle.std.specs.List.{sum_by}
use Rattle.slot_histories.specs.declared.events.Event.{Event}
use Rattle.turn_lock.specs.Seats.{TurnValue}
use Rattle.service_bound.specs.MeterSteps.{HasNoted}
use Rattle.slot_board.specs.Turns.{setup_of}
use Rattle.slot_board.specs.Seats.{refusals}
use Rattle.card_core.specs.Plans.{Plan as CardPlan}
use Rattle.card_worker.specs.declared.hands.Member.{Member}
use Rattle.card_worker.specs.declared.hands.Group.{Group}
use Rattle.card_worker.specs.Trying.{IsMember}
use Rattle.switch_plan.specs.GoodPlans.{SwitchPlan, packets_in, IsGood, IsBurst}
use Rattle.run_laws.specs.Runs.{ports_of, setup_for}
use Rattle.switch_jobs.specs.declared.ready.Terms.{Terms}
use Rattle.switch_jobs.specs.declared.ready.Rooms.{Rooms}

-- what the members' cards are to send
abbrev pub plans_in : List Member → List CardPlan
plans_in members = map (λ member. member.hand.card.sends.plan) members

-- the plan of these cards
abbrev pub plan_with : Terms → List CardPlan → SwitchPlan
plan_with terms cards = record {
  nano = terms.nano;
  link = terms.link;
  rounds = terms.rounds;
  depth = terms.depth;
  workers = terms.workers;
  max_slots = terms.max_slots;
  oversize = terms.oversize;
  unrouted = terms.unrouted;
  cards = cards;
}

-- all members of a board, by card, of which none was refused yet
pub record AreMembers (board : TurnValue Event) (members : List Member) : Type 0 where
  pub count : length members ≡ board.seats
  pub each : (i : ℕ) (member : Member) → slice_get members i ≡ Some member → IsMember board member × (member.seat.number ≡ i)
  pub unrefused : (i : ℕ) (member : Member) → slice_get members i ≡ Some member → refusals member.seat ≡ 0

-- groups without members
abbrev pub AreEmptyGroups : List Group → Type 0
AreEmptyGroups groups = (place : ℕ) (group : Group) → slice_get groups place ≡ Some group → group.members.items ≡ []

-- groups with room for `room` members each
abbrev pub HaveRoomFor : ℕ → List Group → Type 0
HaveRoomFor room groups = (place : ℕ) (group : Group) → slice_get groups place ≡ Some group → room ≤ vec_capacity group.members

-- Groups, one at least, and lists with room for all of `ports` ports, and a meter of `ports` ports. All are empty.
pub record AreRooms (ports : ℕ) (rooms : Rooms) : Type 0 where
  pub some : 0 < length rooms.groups.items
  pub groups_empty : AreEmptyGroups rooms.groups.items
  pub groups_room : HaveRoomFor ports rooms.groups.items
  pub seats_empty : rooms.seats.items ≡ []
  pub seats_room : ports ≤ vec_capacity rooms.seats
  pub hands_empty : rooms.hands.items ≡ []
  pub hands_room : ports ≤ vec_capacity rooms.hands
  pub outputs_empty : rooms.outputs.items ≡ []
  pub outputs_room : ports ≤ vec_capacity rooms.outputs
  pub meter_ports : rooms.meter.ports ≡ ports
  pub meter_new : HasNoted rooms.meter []

-- The plan is good and of a burst, the members are its cards at a board that is set up for it, and there is room for the run.
pub record IsReady (terms : Terms) (board : TurnValue Event) (members : List Member) (rooms : Rooms) : Type 0 where
  pub good : IsGood (plan_with terms (plans_in members))
  pub burst : IsBurst (plan_with terms (plans_in members))
  pub packets : terms.packets ≡ sum_by length (packets_in (plan_with terms (plans_in members)))
  pub setup : setup_of board.numbers ≡ setup_for (plan_with terms (plans_in members))
  pub members_are : AreMembers board members
  pub rooms_are : AreRooms (ports_of (plan_with terms (plans_in members))) rooms
