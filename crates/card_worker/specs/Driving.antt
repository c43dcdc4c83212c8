-- What passes over members make of them.
use Rattle.std.specs.Prelude.{◌≡◌, ◌≤◌, ◌+◌, ◌-◌, ◌&&◌, ℕ, zero, suc, Bool, true, false, nat_lt, List, length, slice_get, Some}
use Rattle.std.specs.List.{sum_by}
use Rattle.slot_histories.specs.declared.events.Event.{Event}
use Rattle.turn_lock.specs.Seats.{TurnValue}
use Rattle.slot_board.specs.Seats.{is_due, refusals}
use Rattle.card_worker.specs.declared.hands.Member.{Member}
use Rattle.card_worker.specs.Trying.{IsSound, acts_of, tries_of}

-- how many posts and takes all members made
abbrev pub all_acts : List Member → ℕ
all_acts members = sum_by acts_of members

-- Whether the member goes on, which was `first` before the passes: it is due, and was refused fewer than `patience`
-- times since, in all.
abbrev pub goes_on : ℕ → Member → Member → Bool
goes_on patience first member = is_due member.seat && nat_lt (refusals member.seat - refusals first.seat) patience

-- the same card and seat, with no fewer posts and takes and no fewer refused tries
pub record IsSameMember (old new : Member) : Type 0 where
  pub plan : new.hand.card.sends.plan ≡ old.hand.card.sends.plan
  pub number : new.seat.number ≡ old.seat.number
  pub acts : acts_of old ≤ acts_of new
  pub tries : refusals old.seat ≤ refusals new.seat

-- A member's turn in a pass: one try, which is a post, a take or a refusal, where it goes on, and else nothing.
pub record IsTurn (patience : ℕ) (first old new : Member) : Type 0 where
  pub same : IsSameMember old new
  pub tries : goes_on patience first old ≡ true → tries_of new ≡ tries_of old + 1
  pub rests : goes_on patience first old ≡ false → new ≡ old

-- one of the members goes on
pub record SomeGoOn (patience : ℕ) (firsts members : List Member) : Type 0 where
  pub place : ℕ
  pub first : Member
  pub member : Member
  pub was : slice_get firsts place ≡ Some first
  pub is : slice_get members place ≡ Some member
  pub on : goes_on patience first member ≡ true

-- One pass over members of whom some go on: each has its turn.
pub record IsPass (patience : ℕ) (firsts olds news : List Member) : Type 0 where
  pub some : SomeGoOn patience firsts olds
  pub count : length news ≡ length olds
  pub turns : (j : ℕ) (first old new : Member) → slice_get firsts j ≡ Some first → slice_get olds j ≡ Some old → slice_get news j ≡ Some new
      → IsTurn patience first old new

-- so many passes, one after another
abbrev pub ArePasses : ℕ → List Member → ℕ → List Member → Type 0
ArePasses patience firsts zero news = news ≡ firsts
ArePasses patience firsts (suc passes) news = (olds : List Member) × ArePasses patience firsts passes olds × IsPass patience firsts olds news

-- After all passes a member was refused at most `patience` times more, and exactly so often where it is due; one that was
-- not due before is as it was.
pub record HasEnded (patience : ℕ) (old new : Member) : Type 0 where
  pub most : refusals new.seat ≤ refusals old.seat + patience
  pub waited : is_due new.seat ≡ true → refusals new.seat ≡ refusals old.seat + patience
  pub free : is_due old.seat ≡ false → new ≡ old

-- Passes until no member goes on, in which the members made `made` posts and takes.
pub record AfterPasses (board : TurnValue Event) (olds news : List Member) (patience made : ℕ) : Type 0 where
  pub passes : ℕ
  pub are_passes : ArePasses patience olds passes news
  pub count : length news ≡ length olds
  pub acts : all_acts news ≡ all_acts olds + made
  pub sound : (j : ℕ) (new : Member) → slice_get news j ≡ Some new → IsSound board new
  pub same : (j : ℕ) (old new : Member) → slice_get olds j ≡ Some old → slice_get news j ≡ Some new → IsSameMember old new
  pub ended : (j : ℕ) (old new : Member) → slice_get olds j ≡ Some old → slice_get news j ≡ Some new → HasEnded patience old new
