-- A family of windows of one round, for every number of ports, in which a request is served as late as can be under FIRM.
--
-- Output 0 and all inputs point at port 1. "Input x goes down": slot by slot it posts output 0 and the output that it
-- points at, 1, 2, .., n - 1, and takes the latter. Input 0 posts output 0 in every slot. Each other input in turn goes
-- down and then takes output 0; at last input 0 does.
use Rattle.std.proofs.Common.{◌≡◌, ℕ, zero, suc, ◌+◌, ◌-◌, ◌*◌, ◌%◌, ◌<◌, ◌≤◌, ◌⊎◌, ◌∙◌, List, [], ◌∷◌, length, All, refl, ap, sym, subst, inl, inr, arith}
use Rattle.std.proofs.Math.Nat.{mod-eq_of_lt}
use Rattle.std.proofs.lemmas.List.Elements.{All-nil, All-cons}
use Rattle.std.proofs.lemmas.Nat.{mod_below}
use Rattle.std_lemmas.proofs.Numbers.{square-is, mod_once}
use Rattle.rotating_pick.specs.Rotation.{distance}
use Rattle.rotating_pick.specs.declared.kinds.Kind.TheVariants.{Uni}
use Rattle.rotating_pick.specs.declared.limits.TheConstants.{MAX_PORTS}
use Rattle.slot_match.specs.declared.rows.Row.{Row}
use Rattle.slot_match.specs.Rows.{Names, row_of, AreWithin}
use Rattle.slot_match.specs.Matches.{Serves}
use Rattle.pointer_state.specs.Places.{Places, ArePointing, grant_of, accept_of}
use Rattle.eslip_rounds.specs.Schedules.{DecidedSlot, IsScheduleBy}
use Rattle.service_bound.specs.Windows.{AreKept, IsClean, IsWithoutMulticast}
use Rattle.service_bound.specs.Latest.{ServeLast}
use Rattle.service_bound.proofs.Postings.{Posting, IsPosted, zero_posted, rows_of, names, AreWithin-rows, IsClean-rows, IsWithoutMulticast-rows}
use Rattle.service_bound.proofs.PostedSlots.{Suits}
use Rattle.service_bound.proofs.PostedRuns.{Starts, IsSwitch, IsServing, keeps_on}
use Rattle.service_bound.proofs.Descents.{lowers, downs, length-downs, starts_downs, starts_either, Suits-plain, places_at_one, grant_of-places_at}
use Rattle.service_bound.proofs.Descents.{accept_of-places_at, IsSwitch-places_at}
use Rattle.service_bound.proofs.Distances.{distance-own}
use Rattle.firm_rounds.specs.Slots.{AreMovedByFirm}
use Rattle.firm_rounds.specs.Latest.{IsServedLastByFirm}
use Rattle.firm_rounds.proofs.OneRoundSlots.{decided, slot_decided, IsSwitch-after, serving, left, refused, passed, accepts, accept_stays}

-- ---- the slots of some postings
abbrev run : ℕ → ℕ → Places → List Posting → List DecidedSlot
run n t places [] = []
run n t places (p ∷ ps) = record { rows = rows_of n p; decision = decided n t places p } ∷ run n (t + 1) (decided n t places p).places ps

length-run : (n t : ℕ) (places : Places) (ps : List Posting) → length (run n t places ps) ≡ length ps
length-run n t places [] = refl
length-run n t places (p ∷ ps) = ap suc (length-run n (t + 1) (decided n t places p).places ps)

-- what all rows of postings have, all slots have
All-run : (n t : ℕ) (places : Places) (P : List Row → Type 0) → ((p : Posting) → P (rows_of n p)) → (ps : List Posting)
    → All (λ slot. P slot.rows) (run n t places ps)
All-run n t places P each [] = All-nil (λ slot. P slot.rows)
All-run n t places P each (p ∷ ps) =
    All-cons (λ slot. P slot.rows) (record { rows = rows_of n p; decision = decided n t places p }) (run n (t + 1) (decided n t places p).places ps) (each p)
    (All-run n (t + 1) (decided n t places p).places P each ps)

IsSchedule-run : (n t : ℕ) (places : Places) (ps : List Posting) → IsSwitch n places → IsScheduleBy AreMovedByFirm n 1 t places (run n t places ps)
IsSchedule-run n t places [] switch = tt
IsSchedule-run n t places (p ∷ ps) switch =
    (slot_decided n t places p switch, IsSchedule-run n (t + 1) (decided n t places p).places ps (IsSwitch-after n t places p switch))

-- requests stay in the run, and queue (0, 0) is served in its last slot alone
record IsLate (n t : ℕ) (places : Places) (ps : List Posting) : Type 0 where
  kept : AreKept n (run n t places ps)
  last : ServeLast 0 0 0 (run n t places ps)

-- one slot more in front
IsLate-before : (n t : ℕ) (places : Places) (p : Posting) (ps : List Posting) → IsServing p (decided n t places p).matched
    → (Serves (decided n t places p).matched 0 0 0 Uni → ⊥) → Starts (λ next. (p.beside ≡ 0) ⊎ IsPosted next p.input 0) ps
    → IsLate n (t + 1) (decided n t places p).places ps → IsLate n t places (p ∷ ps)
IsLate-before n t places p [] serves leaves starts late = absurd starts
IsLate-before n t places p (next ∷ ps) serves leaves starts late =
    record { kept = (keeps_on n p next (decided n t places p).matched serves starts, late.kept); last = (leaves, late.last) }

-- ---- the family
-- the turns of the k inputs from x on, and that of input 0
abbrev turns : ℕ → ℕ → ℕ → List Posting
turns n x zero = downs 0 1 (n - 1) (lowers 0 0 ∷ [])
turns n x (suc k) = downs x 1 (n - 1) (lowers x 0 ∷ turns n (x + 1) k)

-- the input whose turn is first
abbrev whose : ℕ → ℕ → ℕ
whose x zero = 0
whose x (suc k) = x

length-turns : (n k x : ℕ) → 0 < n → length (turns n x k) ≡ k * n + n
length-turns n zero x some = let down = length-downs 0 (n - 1) 1 (lowers 0 0 ∷ []) in omega arith
length-turns n (suc k) x some =
    let down = length-downs x (n - 1) 1 (lowers x 0 ∷ turns n (x + 1) k) in
    let rest = length-turns n k (x + 1) some in
    omega arith

length-family : (n : ℕ) → 0 < n → length (turns n 1 (n - 1)) ≡ n * n
length-family n some = length-turns n (n - 1) 1 some ∙ square-is n (n - 1) (omega arith)

starts_turns : (P : Posting → Type 0) (n k x : ℕ) → ((next : Posting) → P next) → Starts P (turns n x k)
starts_turns P n zero x each = starts_downs P 0 (n - 1) 1 (lowers 0 0 ∷ []) (λ b. each (lowers 0 b)) (each (lowers 0 0))
starts_turns P n (suc k) x each = starts_downs P x (n - 1) 1 (lowers x 0 ∷ turns n (x + 1) k) (λ b. each (lowers x b)) (each (lowers x 0))

-- Output 0 points at input x, which points at output a; input 0 and the inputs after x point at port 1. A port n is port 0.
record IsTurn (n x a : ℕ) (places : Places) : Type 0 where
  switch : IsSwitch n places
  grant : grant_of places 0 0 ≡ x
  accept : accept_of places x 0 ≡ a % n
  fresh : (i : ℕ) → i < n → (i ≡ x → ⊥) → (i ≡ 0) ⊎ ((0 < x) × (x < i)) → accept_of places i 0 ≡ 1 % n

suits_turn : (n : ℕ) (places : Places) (x a y : ℕ) → x < n → IsTurn n x a places → (y ≡ 0) ⊎ (accept_of places x 0 ≡ y) → Suits n places (lowers x y)
suits_turn n places x a y x_in turn pointer =
    let own = distance-own n x x_in in
    let near : distance n x x ≤ distance n x 0 = omega (arith, own) in
    Suits-plain n places x y 0 (inr (subst (λ from. distance n from x ≤ distance n from 0) (sym turn.grant) near)) pointer (inl refl)

-- the postings are late from any slot on, and from all pointers of which P holds
abbrev AreLate : ℕ → (Places → Type 0) → List Posting → Type 0
AreLate n P ps = (t : ℕ) (places : Places) → P places → IsLate n t places ps

-- input x goes down
late_downs : (n x : ℕ) (rest : List Posting) → x < n → Starts (λ next. IsPosted next x 0) rest → AreLate n (IsTurn n x n) rest
    → (k a : ℕ) → a + 1 + k ≡ n → AreLate n (IsTurn n x (a + 1)) (downs x (a + 1) k rest)
late_downs n x rest x_in starts then zero before sum t places turn =
    let e : before + 1 ≡ n = omega arith in
    then t places (subst (λ v. IsTurn n x v places) e turn)
late_downs n x rest x_in starts then (suc k) before sum t places turn =
    let a = before + 1 in
    let some : 0 < a = omega arith in
    let a_in : a < n = omega arith in
    let suits = suits_turn n places x a a x_in turn (inr (turn.accept ∙ mod-eq_of_lt a_in)) in
    let next : IsTurn n x (a + 1) (decided n t places (lowers x a)).places = record {
      switch = IsSwitch-after n t places (lowers x a) turn.switch;
      grant = refused n t places x a turn.switch x_in a_in suits some;
      accept = accepts n t places x a turn.switch x_in a_in suits;
      fresh = λ i i_in other late. accept_stays n t places x a turn.switch x_in a_in suits i other ∙ turn.fresh i i_in other late;
    } in
    let on = starts_downs (λ next. IsPosted next x 0) x k (a + 1) rest (λ b. inl (refl, inl refl)) starts in
    IsLate-before n t places (lowers x a) (downs x (a + 1) k rest) (serving n t places x a turn.switch x_in a_in suits)
    (left n t places x a turn.switch x_in a_in suits (inl some))
    (starts_either (λ next. a ≡ 0) (λ next. IsPosted next x 0) (downs x (a + 1) k rest) on)
    (late_downs n x rest x_in starts then k a (omega arith) (t + 1) (decided n t places (lowers x a)).places next)

module _ (n t : ℕ) (places : Places) (x a : ℕ) (some : 0 < x) (x_in : x < n) (turn : IsTurn n x a places) where
  suits_last : Suits n places (lowers x 0)
  suits_last = suits_turn n places x a 0 x_in turn (inl refl)

  zero_in : 0 < n
  zero_in = omega arith

  -- after the slot in which input x takes output 0, it is the next input's turn
  next_turn : (k : ℕ) → x + suc k ≡ n → IsTurn n (whose (x + 1) k) 1 (decided n t places (lowers x 0)).places
  next_turn zero sum =
      let round : (x + 1) % n ≡ 0 = mod_once n (x + 1) (omega arith) (omega arith) ∙ omega arith in
      record {
        switch = IsSwitch-after n t places (lowers x 0) turn.switch;
        grant = passed n t places x 0 turn.switch x_in zero_in suits_last refl ∙ round;
        accept = accept_stays n t places x 0 turn.switch x_in zero_in suits_last 0 (λ e. omega arith) ∙ turn.fresh 0 zero_in (λ e. omega arith) (inl refl);
        fresh = λ i i_in other late. elim late [ inl e ↦ absurd (other e) | inr more ↦ let none = more.0 in absurd (omega arith) ];
      }
  next_turn (suc k) sum =
      let next_in : x + 1 < n = omega arith in
      record {
        switch = IsSwitch-after n t places (lowers x 0) turn.switch;
        grant = passed n t places x 0 turn.switch x_in zero_in suits_last refl ∙ mod-eq_of_lt next_in;
        accept = accept_stays n t places x 0 turn.switch x_in zero_in suits_last (x + 1) (λ e. omega arith)
            ∙ turn.fresh (x + 1) next_in (λ e. omega arith) (inr (some, omega arith));
        fresh = λ i i_in other late. elim late [
          | inl e ↦ accept_stays n t places x 0 turn.switch x_in zero_in suits_last i (λ same. omega arith) ∙ turn.fresh i i_in (λ same. omega arith) (inl e)
          | inr more ↦ let after = more.1 in accept_stays n t places x 0 turn.switch x_in zero_in suits_last i (λ same. omega arith)
              ∙ turn.fresh i i_in (λ same. omega arith) (inr (some, omega arith))
        ];
      }

late_turns : (n k x : ℕ) → 0 < x → x + k ≡ n → AreLate n (IsTurn n (whose x k) 1) (turns n x k)
late_turns n zero x some sum t places turn =
    let zero_in : 0 < n = omega arith in
    late_downs n 0 (lowers 0 0 ∷ []) zero_in (zero_posted (lowers 0 0))
    (λ t places turn. record {
      kept = (tt, tt);
      last = (serving n t places 0 0 turn.switch zero_in zero_in (suits_turn n places 0 n 0 zero_in turn (inl refl))).served;
    })
    (n - 1) 0 (omega arith) t places turn
late_turns n (suc k) x some sum t places turn =
    let x_in : x < n = omega arith in
    let later = turns n (x + 1) k in
    late_downs n x (lowers x 0 ∷ later) x_in (inl (refl, inl refl))
    (λ t places turn.
    let suits = suits_last n t places x n some x_in turn in
    let zero_in : 0 < n = omega arith in
    IsLate-before n t places (lowers x 0) later (serving n t places x 0 turn.switch x_in zero_in suits)
    (left n t places x 0 turn.switch x_in zero_in suits (inr some))
    (starts_turns (λ next. (0 ≡ 0) ⊎ IsPosted next x 0) n k (x + 1) (λ next. inl refl))
    (late_turns n k (x + 1) (omega arith) (omega arith) (t + 1) (decided n t places (lowers x 0)).places (next_turn n t places x n some x_in turn k sum)))
    (n - 1) 0 (omega arith) t places turn

-- the pointers that it begins with
begin_turn : (n k : ℕ) → 1 + k ≡ n → n ≤ MAX_PORTS → IsTurn n (whose 1 k) 1 (places_at_one n)
unfolding places_at_one
begin_turn n zero sum size =
    let one_in = mod_below 1 n (omega arith) in
    let none : 1 % n ≡ 0 = omega (arith, one_in) in
    record {
      switch = IsSwitch-places_at n (1 % n) (1 % n) (omega arith) size one_in one_in;
      grant = grant_of-places_at n (1 % n) (1 % n) 0 0 (omega arith) (omega arith) ∙ none;
      accept = accept_of-places_at n (1 % n) (1 % n) 0 0 (omega arith) (omega arith);
      fresh = λ i i_in other late. accept_of-places_at n (1 % n) (1 % n) i 0 (omega arith) (omega arith);
    }
begin_turn n (suc k) sum size =
    let one_in = mod_below 1 n (omega arith) in
    record {
      switch = IsSwitch-places_at n (1 % n) (1 % n) (omega arith) size one_in one_in;
      grant = grant_of-places_at n (1 % n) (1 % n) 0 0 (omega arith) (omega arith) ∙ mod-eq_of_lt (omega arith);
      accept = accept_of-places_at n (1 % n) (1 % n) 1 0 (omega arith) (omega arith);
      fresh = λ i i_in other late. accept_of-places_at n (1 % n) (1 % n) i 0 (omega arith) (omega arith);
    }

pub one_round_reached : (n t : ℕ) → 0 < n → n ≤ MAX_PORTS → (places : Places) × (slots : List DecidedSlot) × IsServedLastByFirm n 1 t 0 0 0 places slots
    × (length slots ≡ n * n)
one_round_reached n t some size =
    let ps = turns n 1 (n - 1) in
    let places = places_at_one n in
    let turn = begin_turn n (n - 1) (omega arith) size in
    let switch = turn.switch in
    let late = late_turns n (n - 1) 1 (omega arith) (omega arith) t places turn in (
      places,
      run n t places ps,
      record {
        at_ports = switch.at_ports;
        ports = switch.ports;
        window = record {
          pointing = subst (λ m. ArePointing m 0 places) switch.ports (switch.at_ports.pointing 0 (omega arith));
          schedule = IsSchedule-run n t places ps switch;
          within = All-run n t places (AreWithin n) (AreWithin-rows n) ps;
          kept = late.kept;
          clean = All-run n t places (IsClean n 0) (IsClean-rows n) ps;
        };
        alone = All-run n t places (IsWithoutMulticast n 0) (IsWithoutMulticast-rows n) ps;
        posted = All-run n t places (λ rows. Names (row_of rows 0) 0 Uni 0) (λ p. names n p 0 0 some some (zero_posted p)) ps;
        last = late.last;
      },
      length-run n t places ps ∙ length-family n some,
    )
