-- A close takes the seats from the end of their list, and keeps what each had seen.
use Rattle.std.proofs.Common.{◌≡◌, ◌≢◌, ◌+◌, ◌<◌, ◌≤◌, ◌⊎◌, inl, inr, ⊎_elim, ℕ, false, zero, suc, List, [], ◌∷◌, ◌++◌, length, take, drop, Option}
use Rattle.std.proofs.Common.{Some, refl, sym, ap, ◌∙◌, subst, arith, length-append}
use Rattle.std.specs.Prelude.{slice_get}
use Rattle.std.proofs.lemmas.List.{append_assoc, take-append-drop}
use Rattle.std.proofs.lemmas.Option.{slice_get_within}
use Rattle.std.proofs.lemmas.Bool.{cases_eq}
use Rattle.std.proofs.Math.Seq.{take-append_seam, take-length}
use Rattle.atomic_table.specs.Seated.{TableId}
use Rattle.turn_lock.specs.declared.history.TurnOf.{TurnOf}
use Rattle.turn_lock.specs.declared.history.Opening.{Opening}
use Rattle.turn_lock.specs.declared.view.View.{View}
use Rattle.turn_lock.specs.declared.view.JoinedSeat.{JoinedSeat}
use Rattle.turn_lock.specs.declared.view.Phase.TheVariants.{Idle}
use Rattle.turn_lock.specs.Histories.{IsBelow, entries_of}
use Rattle.turn_lock.specs.Seats.{TurnValue, SeatValue, turn_value, AreSeats, IsWhole}
use Rattle.turn_lock.specs.Views.{seat_value, joined_seat, with_joined, joined_numbers, numbers_of}
use Rattle.turn_lock.specs.Rule.{IsIn, HasSeen, IsOvertaken, JoinedHaveSeen, Ended}

no_third : {A C : Type 0} → A ⊎ (⊥ ⊎ C) → A ⊎ C
no_third (inl a) = inl a
no_third (inr (inl x)) = absurd x
no_third (inr (inr c)) = inr c

module _ {E : Type 0} where
  abbrev pub IsJoined : JoinedSeat E → List (JoinedSeat E) → Type 0
  IsJoined m [] = ⊥
  IsJoined m (x ∷ xs) = (m ≡ x) ⊎ IsJoined m xs

  IsJoined-left : (m : JoinedSeat E) (xs ys : List (JoinedSeat E)) → IsJoined m xs → IsJoined m (xs ++ ys)
  IsJoined-left m [] ys a = absurd a
  IsJoined-left m (x ∷ xs) ys (inl e) = inl e
  IsJoined-left m (x ∷ xs) ys (inr a) = inr (IsJoined-left m xs ys a)

  IsJoined-here : (m : JoinedSeat E) (xs ys : List (JoinedSeat E)) → IsJoined m (xs ++ m ∷ ys)
  IsJoined-here m [] ys = inl refl
  IsJoined-here m (x ∷ xs) ys = inr (IsJoined-here m xs ys)

  IsJoined-number : (m : JoinedSeat E) (xs : List (JoinedSeat E)) → IsJoined m xs → IsIn m.number (joined_numbers xs)
  IsJoined-number m [] a = absurd a
  IsJoined-number m (x ∷ xs) (inl e) = inl (ap (λ y. y.number) e)
  IsJoined-number m (x ∷ xs) (inr a) = inr (IsJoined-number m xs a)

  -- what a seat with this number, which has seen this, with `since` finds after its last turn, knows of the history at the end
  abbrev Knows : List (TurnOf E) → ℕ → List (TurnOf E) → ℕ → Type 0
  Knows h n seen since = HasSeen h n seen × IsOvertaken h ⊥ seen since

  IsJoined-seen : (h : List (TurnOf E)) (m : JoinedSeat E) (xs : List (JoinedSeat E)) → JoinedHaveSeen h ⊥ xs → IsJoined m xs → Knows h m.number m.seen m.since
  IsJoined-seen h m [] f a = absurd a
  IsJoined-seen h m (x ∷ xs) f (inl e) = subst (λ y. Knows h y.number y.seen y.since) (sym e) (f.0, f.1)
  IsJoined-seen h m (x ∷ xs) f (inr a) = IsJoined-seen h m xs f.2 a

  -- number 0 is the first seat's own, and each other that of a joined seat
  has_number : (n : ℕ) (v : View E) → v.number ≡ 0 → ((k : ℕ) → n ≡ suc k → IsIn n (joined_numbers v.joined)) → IsIn n (numbers_of v)
  has_number zero v e f = inl (sym e)
  has_number (suc k) v e f = inr (f k refl)

module _ {X : Type 0} where
  at_seam : (xs ys : List X) (x : X) → slice_get (xs ++ x ∷ ys) (length xs) ≡ Some x
  at_seam [] ys x = refl
  at_seam (y ∷ xs) ys x = at_seam xs ys x

  -- what was popped stood after what is left
  popped : (all old new : List X) (x : X) → old ≡ take (length old) all → old ≡ new ++ x ∷ [] → (slice_get all (length new) ≡ Some x)
      × (new ≡ take (length new) all)
  popped all old new x front e =
      let whole : all ≡ new ++ x ∷ drop (length old) all = sym (take-append-drop (length old) all) ∙ ap (λ zs. zs ++ drop (length old) all) (sym front ∙ e)
      ∙ append_assoc new (x ∷ []) (drop (length old) all) in (
        ap (λ zs. slice_get zs (length new)) whole ∙ at_seam new (drop (length old) all) x,
        sym (ap (λ zs. take (length new) zs) whole ∙ take-append_seam new (x ∷ drop (length old) all)),
      )

  after_first : (all : List X) (i : ℕ) → slice_get (drop 1 all) i ≡ slice_get all (suc i)
  after_first [] i = refl
  after_first (x ∷ xs) i = refl

  there_is : (all : List X) (i : ℕ) → i < length all → (x : X) × (slice_get all i ≡ Some x)
  there_is [] i l = absurd (omega arith)
  there_is (x ∷ xs) zero l = (x, refl)
  there_is (x ∷ xs) (suc i) l = there_is xs i (omega arith)

  same_there : (x y : X) (o : Option X) → o ≡ Some x → o ≡ Some y → x ≡ y
  same_there x y o a b = cc

module _ {E : Type 0} (turn : TurnValue E) (all : List (SeatValue E)) where
  -- The view is of the first seat, and knows what each seat after those that are left had seen.
  pub record IsCollected (rest : List (SeatValue E)) (table : TableId) (v : View E) : Type 0 where
    pub same_table : table ≡ turn.table
    pub number : v.number ≡ 0
    pub given : v.given ≡ turn.seats
    pub live : v.spent ≡ false
    pub phase : v.phase ≡ Idle
    pub seen : (s : SeatValue E) → slice_get all 0 ≡ Some s → (v.seen ≡ s.seen) × (v.since ≡ s.since)
    pub left : rest ≡ take (length rest) (drop 1 all)
    pub done : (i : ℕ) (s : SeatValue E) → slice_get all (suc i) ≡ Some s → length rest ≤ i → IsJoined (joined_seat s) v.joined

  module _ (seats : AreSeats turn all) where
    -- before any seat is joined
    pub collected_first : (first : SeatValue E) (table : TableId) (v : View E) (rest : List (SeatValue E)) → slice_get all 0 ≡ Some first
        → seat_value table v ≡ first → (v.number ≡ 0 → v.given ≡ v.opening.seats) → v.spent ≡ false → v.phase ≡ Idle → rest ≡ drop 1 all
        → IsCollected rest table v
    collected_first first table v rest at view dealer live idle rest_is =
        let zero_is : v.number ≡ 0 = ap (λ s. s.number) view ∙ seats.numbers 0 first at in
        record {
          same_table = ap (λ s. s.turn.table) view ∙ ap (λ t. t.table) (seats.turns 0 first at);
          number = zero_is;
          given = dealer zero_is ∙ ap (λ s. s.turn.seats) view ∙ ap (λ t. t.seats) (seats.turns 0 first at);
          live = live;
          phase = idle;
          seen = λ s e. let is : first ≡ s = same_there first s (slice_get all 0) at e in
              (ap (λ y. y.seen) view ∙ ap (λ y. y.seen) is, ap (λ y. y.since) view ∙ ap (λ y. y.since) is);
          left = sym (take-length rest) ∙ ap (λ xs. take (length rest) xs) rest_is;
          done = λ i s e l.
              let w = slice_get_within (drop 1 all) i s (after_first all i ∙ e) in
              let n : length rest ≡ length (drop 1 all) = ap length rest_is in
              absurd (omega arith);
        }

    -- where the seat that was popped stood
    pub popped_at : (rest new : List (SeatValue E)) (s : SeatValue E) (table : TableId) (v : View E) → IsCollected rest table v → rest ≡ new ++ s ∷ []
        → slice_get all (suc (length new)) ≡ Some s
    popped_at rest new s table v c e = sym (after_first all (length new)) ∙ (popped (drop 1 all) rest new s c.left e).0

    -- after one more was joined
    pub collected_more : (rest new : List (SeatValue E)) (s : SeatValue E) (table after : TableId) (v w : View E) → IsCollected rest table v
        → rest ≡ new ++ s ∷ [] → after ≡ table → w ≡ with_joined v (joined_seat s) → IsCollected new after w
    collected_more rest new s table after v w c e t j =
        let n : length rest ≡ length new + 1 = ap length e ∙ length-append new (s ∷ []) in
        record {
          same_table = t ∙ c.same_table;
          number = ap (λ y. y.number) j ∙ c.number;
          given = ap (λ y. y.given) j ∙ c.given;
          live = ap (λ y. y.spent) j ∙ c.live;
          phase = ap (λ y. y.phase) j ∙ c.phase;
          seen = λ y at. (ap (λ z. z.seen) j ∙ (c.seen y at).0, ap (λ z. z.since) j ∙ (c.seen y at).1);
          left = (popped (drop 1 all) rest new s c.left e).1;
          done = λ i y at l.
              let joined : IsJoined (joined_seat y) (with_joined v (joined_seat s)).joined =
              ⊎_elim
              (λ (same : i ≡ length new).
              let is : s ≡ y = same_there s y (slice_get all (suc (length new))) (popped_at rest new s table v c e)
              (ap (λ k. slice_get all (suc k)) (sym same) ∙ at) in
              subst (λ m. IsJoined m (with_joined v (joined_seat s)).joined) (ap joined_seat is) (IsJoined-here (joined_seat s) v.joined []))
              (λ (d : i ≢ length new). IsJoined-left (joined_seat y) v.joined (joined_seat s ∷ []) (c.done i y at (omega arith)))
              (cases_eq i (length new)) in
              subst (λ z. IsJoined (joined_seat y) z.joined) (sym j) joined;
        }

    module _ (rest : List (SeatValue E)) (table : TableId) (v : View E) (c : IsCollected rest table v) (none : length rest ≡ 0) where
      -- once all are joined, the view has all numbers
      pub covers : (n : ℕ) → n < v.given → IsIn n (numbers_of v)
      covers n l =
          has_number n v c.number (λ k e.
          let count : length all ≡ v.given = seats.count ∙ sym c.given in
          let x = there_is all n (omega arith) in
          subst (λ m. IsIn m (joined_numbers v.joined)) (seats.numbers n x.0 x.1)
          (IsJoined-number (joined_seat x.0) v.joined (c.done k x.0 (ap (λ m. slice_get all m) (sym e) ∙ x.1) (omega arith))))

      each_knows : (h : List (TurnOf E)) → Knows h v.number v.seen v.since → JoinedHaveSeen h ⊥ v.joined → (i : ℕ) (s : SeatValue E)
          → slice_get all i ≡ Some s → Knows h i s.seen s.since
      each_knows h mine joined zero s at =
          subst (λ n. Knows h n s.seen s.since) c.number
          (subst (λ ts. Knows h v.number ts s.since) (c.seen s at).0 (subst (λ n. Knows h v.number v.seen n) (c.seen s at).1 mine))
      each_knows h mine joined (suc k) s at =
          subst (λ n. Knows h n s.seen s.since) (seats.numbers (suc k) s at) (IsJoined-seen h (joined_seat s) v.joined joined (c.done k s at (omega arith)))

      pub whole : {V : Type 0} (entries : V → List E) (numbers : V → List ℕ) (may : ℕ → List E → Type 0) (o : Opening E) (id : TableId) (value : V)
          → turn_value id o ≡ turn → Ended entries numbers may o v value → IsWhole entries numbers may turn all value
      whole entries numbers may o id value same e = record {
        history = e.history;
        entries_are = e.entries_are ∙ ap (λ t. t.first ++ entries_of e.history) same;
        numbers_are = e.numbers_are ∙ ap (λ t. t.numbers) same;
        allowed = e.allowed;
        in_range = subst (λ n. IsBelow n e.history) (ap (λ t. t.seats) same) e.in_range;
        seen = λ i s at. (each_knows e.history (e.seen, e.overtaken) e.joined i s at).0.0;
        own = λ i s at. (each_knows e.history (e.seen, e.overtaken) e.joined i s at).0.1;
        overtaken = λ i s at n. no_third ((each_knows e.history (e.seen, e.overtaken) e.joined i s at).1 n);
      }
