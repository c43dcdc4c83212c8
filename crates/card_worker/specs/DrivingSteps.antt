-- What the turns of a pass make of the members, with counts of how often each was refused.
use Rattle.std.specs.Prelude.{◌≡◌, ◌<◌, ◌≤◌, ◌+◌, ◌&&◌, ℕ, Bool, true, false, nat_lt, List, length, slice_get, slice_index, Some}
use Rattle.slot_histories.specs.declared.events.Event.{Event}
use Rattle.turn_lock.specs.Seats.{TurnValue}
use Rattle.slot_board.specs.Seats.{is_due, refusals}
use Rattle.card_worker.specs.declared.hands.Member.{Member}
use Rattle.card_worker.specs.Trying.{IsSound, acts_of, tries_of}
use Rattle.card_worker.specs.TryingSteps.{one_if}
use Rattle.card_worker.specs.Driving.{all_acts, IsSameMember, ArePasses}

-- whether a member goes on that was refused so often
abbrev pub is_patient : ℕ → Member → ℕ → Bool
is_patient patience member refused = is_due member.seat && nat_lt refused patience

-- one of the members does
pub record SomeIsPatient (patience : ℕ) (members : List Member) (refused : List ℕ) : Type 0 where
  pub place : ℕ
  pub member : Member
  pub is : slice_get members place ≡ Some member
  pub on : is_patient patience member (slice_index refused place) ≡ true

-- a member that was refused `before` times had its turn, and has then been refused `after` times
pub record HadTurn (patience : ℕ) (old : Member) (before : ℕ) (new : Member) (after : ℕ) : Type 0 where
  pub same : IsSameMember old new
  pub tries : is_patient patience old before ≡ true → tries_of new ≡ tries_of old + 1
  pub rests : is_patient patience old before ≡ false → new ≡ old
  pub counted : refusals new.seat + before ≡ refusals old.seat + after
  pub most : before ≤ patience → after ≤ patience

-- in a turn the member made a post or a take, or not
pub record AfterTurn (board : TurnValue Event) (patience : ℕ) (old : Member) (before : ℕ) (new : Member) (after : ℕ) (acted : Bool) : Type 0 where
  pub sound : IsSound board new
  pub acts : acts_of new ≡ acts_of old + one_if acted
  pub turn : HadTurn patience old before new after

-- the first k members had their turns, in which they made `made` posts and takes
pub record AfterTurns (board : TurnValue Event) (patience : ℕ) (olds : List Member) (befores : List ℕ) (news : List Member) (afters : List ℕ) (k made : ℕ)
    : Type 0 where
  pub count : length news ≡ length olds
  pub acts : all_acts news ≡ all_acts olds + made
  pub sound : (j : ℕ) (new : Member) → slice_get news j ≡ Some new → IsSound board new
  pub later : (j : ℕ) → k ≤ j → slice_get news j ≡ slice_get olds j
  pub later_counts : (j : ℕ) → k ≤ j → slice_index afters j ≡ slice_index befores j
  pub turns : (j : ℕ) (old new : Member) → j < k → slice_get olds j ≡ Some old → slice_get news j ≡ Some new
      → HadTurn patience old (slice_index befores j) new (slice_index afters j)

-- so many passes made this of the member, which was refused so often in them
pub record HasGone (patience passes : ℕ) (old new : Member) (refused : ℕ) : Type 0 where
  pub same : IsSameMember old new
  pub counted : refusals new.seat ≡ refusals old.seat + refused
  pub most : refused ≤ patience
  pub on : is_patient patience new refused ≡ true → tries_of new ≡ tries_of old + passes
  pub free : is_due old.seat ≡ false → new ≡ old

-- so many passes were made, and `made` posts and takes in them
pub record AfterSome (board : TurnValue Event) (patience : ℕ) (olds news : List Member) (refused : List ℕ) (passes made : ℕ) : Type 0 where
  pub are_passes : ArePasses patience olds passes news
  pub count : length news ≡ length olds
  pub acts : all_acts news ≡ all_acts olds + made
  pub sound : (j : ℕ) (new : Member) → slice_get news j ≡ Some new → IsSound board new
  pub gone : (j : ℕ) (old new : Member) → slice_get olds j ≡ Some old → slice_get news j ≡ Some new → HasGone patience passes old new (slice_index refused j)
