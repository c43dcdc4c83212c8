-- The rest of the head's fan-out: cells more at the end, and the head gone.
use Rattle.std.proofs.Common.{◌≡◌, ◌≢◌, ℕ, ◌<◌, ◌↔◌, List, [], ◌∷◌, ◌++◌, drop, length, map, subst, refl, arith}
use Rattle.cell_cutter.specs.declared.cell.CellName.{CellName}
use Rattle.rotating_pick.specs.PortSets.{Has, IsAmong}
use Rattle.rotating_pick.proofs.Bits.{Has-lt, no_member-zero, zero-no_members}
use Rattle.multicast_queue.specs.FanQueues.{FanCell, first_fan, rest_with}
use Rattle.multicast_queue.specs.FieldSteps.{HaveFans, IsRest}

-- ---- cells more
pub HaveFans-append : (ports : ℕ) (a b : List FanCell) → HaveFans ports a → HaveFans ports b → HaveFans ports (a ++ b)
HaveFans-append ports [] b fans_a fans_b = fans_b
HaveFans-append ports (cell ∷ a) b fans_a fans_b = (fans_a.0, HaveFans-append ports a b fans_a.1 fans_b)

pub HaveFans-packet : (ports fan : ℕ) (names : List CellName) → fan ≢ 0 → IsAmong ports fan
    → HaveFans ports (map (λ name. record { name = name; fan = fan }) names)
HaveFans-packet ports fan [] some among = tt
HaveFans-packet ports fan (name ∷ names) some among = ((some, among), HaveFans-packet ports fan names some among)

IsRest-packet : (fan : ℕ) (names : List CellName) → fan ≢ 0 → 0 < length names → IsRest fan (map (λ name. record { name = name; fan = fan }) names)
IsRest-packet fan [] some more = absurd (omega arith)
IsRest-packet fan (name ∷ names) some more = (some, λ output has. has)

pub IsRest-more : (rest fan : ℕ) (cells : List FanCell) (names : List CellName) → IsRest rest cells → fan ≢ 0 → 0 < length names
    → IsRest (rest_with cells rest fan) (cells ++ map (λ name. record { name = name; fan = fan }) names)
IsRest-more rest fan [] names rests some more = IsRest-packet fan names some more
IsRest-more rest fan (cell ∷ cells) names rests some more = rests

-- ---- a part of the rest was served
IsRest-part : (rest part : ℕ) (cells : List FanCell) → IsRest rest cells → part ≢ 0 → ((output : ℕ) → Has part output → Has rest output) → IsRest part cells
IsRest-part rest part [] none some within =
    absurd (some (zero-no_members part (λ output has. no_member-zero output (subst (λ set. Has set output) none (within output has)))))
IsRest-part rest part (cell ∷ cells) rests some within = (some, λ output has. rests.1 output (within output has))

pub IsRest-on : (rest part : ℕ) (cells after : List FanCell) → after ≡ cells → IsRest rest cells → part ≢ 0
    → ((output : ℕ) → Has part output → Has rest output) → IsRest part after
IsRest-on rest part cells after same rests some within = rw same (IsRest-part rest part cells rests some within)

-- ---- the head has left
IsRest-whole : (ports : ℕ) (cells : List FanCell) → HaveFans ports cells → IsRest (first_fan cells) cells
IsRest-whole ports [] fans = refl
IsRest-whole ports (cell ∷ cells) fans = (fans.0.0, λ output has. has)

pub HaveFans-next : (ports : ℕ) (cells : List FanCell) → HaveFans ports cells → HaveFans ports (drop 1 cells)
HaveFans-next ports [] fans = tt
HaveFans-next ports (cell ∷ cells) fans = fans.1

pub IsRest-next : (ports rest : ℕ) (cells : List FanCell) → HaveFans ports cells → rest ≡ first_fan cells → IsRest rest cells
IsRest-next ports rest cells fans is = rw is (IsRest-whole ports cells fans)

-- ---- what the rest tells
-- it is empty exactly where no cell waits
pub rest-zero : (rest : ℕ) (cells : List FanCell) → IsRest rest cells → (rest ≡ 0) ↔ (length cells ≡ 0)
rest-zero rest [] rests = (λ _. refl, λ _. rests)
rest-zero rest (cell ∷ cells) rests = (λ none. absurd (rests.0 none), λ none. absurd (omega (arith, none)))

-- it is of the head's fan-out
pub rest-head : (rest : ℕ) (cells : List FanCell) → IsRest rest cells → (output : ℕ) → Has rest output → Has (first_fan cells) output
rest-head rest [] rests output has = absurd (no_member-zero output (subst (λ set. Has set output) rests has))
rest-head rest (cell ∷ cells) rests output has = rests.1 output has

-- and so of the switch's ports
first_fan-in : (ports : ℕ) (cells : List FanCell) → HaveFans ports cells → (output : ℕ) → Has (first_fan cells) output → output < ports
first_fan-in ports [] fans output has = absurd (no_member-zero output has)
first_fan-in ports (cell ∷ cells) fans output has = Has-lt ports cell.fan output fans.0.1 has

pub rest-in : (ports rest : ℕ) (cells : List FanCell) → HaveFans ports cells → IsRest rest cells → (output : ℕ) → Has rest output → output < ports
rest-in ports rest cells fans rests output has =
    first_fan-in ports cells fans output (rest-head rest cells rests output has)

-- where some outputs are of the rest, a cell waits
pub some_wait : (rest outputs : ℕ) (cells : List FanCell) → IsRest rest cells → outputs ≢ 0 → ((output : ℕ) → Has outputs output → Has rest output)
    → 0 < length cells
some_wait rest outputs [] rests some within =
    absurd (some (zero-no_members outputs (λ output has. no_member-zero output (subst (λ set. Has set output) rests (within output has)))))
some_wait rest outputs (cell ∷ cells) rests some within = omega arith
