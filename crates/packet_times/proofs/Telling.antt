-- Which state the rows of a packet tell, and how many rows tell that it was forwarded.
use Rattle.std.proofs.Common.{◌≡◌, ◌∙◌, ℕ, zero, suc, ◌+◌, ◌<◌, ◌≤◌, ◌&&◌, ◌||◌, not, Bool, true, false, List, [], ◌∷◌, map, filter, length}
use Rattle.std.proofs.Common.{cond, count_by, sum_by, Option, refl, zero-add, sym, ap, arith, inl, inr, if◌then◌else◌, bytes_eq}
use Rattle.std.specs.List.{list_any, range_with_len}
use Rattle.std.proofs.lemmas.Bool.{cases_eq, cases_Bool, cond-true, cond-false}
use Rattle.std.proofs.lemmas.List.Sums.{sum_by-cons, length-filter}
use Rattle.std.proofs.Math.Bool.{or_self}
use Rattle.eslip_rounds.specs.Schedulers.{Scheduler}
use Rattle.slot_histories.specs.Tests.{has}
use Rattle.card_core.specs.declared.plan.Planned.{Planned}
use Rattle.card_core.specs.Queues.{is_routed, is_admitted}
use Rattle.run_laws.specs.Runs.{ports_of, card_at, parts_under}
use Rattle.std_lemmas.proofs.Sums.{sum_by-zero}
use Rattle.switch_plan.specs.GoodPlans.{SwitchPlan}
use Rattle.run_laws.specs.DeparturePromises.{leaves_by}
use Rattle.packet_times.specs.declared.state.PacketState.{PacketState}
use Rattle.packet_times.specs.declared.state.PacketState.TheVariants.{Forwarded, Dropped, Unrouted, Oversize}
use Rattle.packet_times.specs.Rows.{state_of, state_name, routed_row, aside_row, outputs_in, packet_rows}
use Rattle.packet_times.specs.Sums.{tells}
use Rattle.packet_times.specs.WalkingSteps.{row_to}

-- ---- states
-- whether a state has the other's name
abbrev pub is_state : PacketState → PacketState → Bool
is_state state other = bytes_eq (state_name state) (state_name other)

-- the state of a packet that is routed, admitted and too long, or not
abbrev pub state_if : Bool → Bool → Bool → PacketState
state_if r a o = if r then (if a then Forwarded else Dropped) else (if o then Oversize else Unrouted)

pub forwarded-if : (r a o : Bool) → is_state (state_if r a o) Forwarded ≡ r && a
forwarded-if true true o = refl
forwarded-if true false o = refl
forwarded-if false a true = refl
forwarded-if false a false = refl

pub dropped-if : (r a o : Bool) → is_state (state_if r a o) Dropped ≡ r && not a
dropped-if true true o = refl
dropped-if true false o = refl
dropped-if false a true = refl
dropped-if false a false = refl

pub unrouted-if : (r a o : Bool) → is_state (state_if r a o) Unrouted ≡ not r && not o
unrouted-if true true o = refl
unrouted-if true false o = refl
unrouted-if false a true = refl
unrouted-if false a false = refl

pub oversize-if : (r a o : Bool) → is_state (state_if r a o) Oversize ≡ not r && o
oversize-if true true o = refl
oversize-if true false o = refl
oversize-if false a true = refl
oversize-if false a false = refl

-- ---- rows of one state
tells-routed : (s : PacketState) (i k : ℕ) (p : Planned) (state : PacketState) (j : ℕ) (d : Option ℕ)
    → tells s (routed_row i k p state j d) ≡ is_state state s
unfolding routed_row
tells-routed s i k p state j d = refl

tells-aside : (s : PacketState) (i k : ℕ) (p : Planned) (state : PacketState) → tells s (aside_row i k p state) ≡ is_state state s
unfolding aside_row
tells-aside s i k p state = refl

or-false : (b : Bool) → b || false ≡ b
or-false true = refl
or-false false = refl

module _ {A : Type 0} (test : A → Bool) (f : ℕ → A) (b : Bool) (same : (j : ℕ) → test (f j) ≡ b) where
  any-same : (js : List ℕ) → 0 < length js → list_any test (map f js) ≡ b
  any-same [] some = absurd (omega (arith, some))
  any-same (j ∷ []) some = ap (λ v. v || false) (same j) ∙ or-false b
  any-same (j ∷ k ∷ js) some =
      ap (λ v. v || list_any test (map f (k ∷ js))) (same j) ∙ ap (λ v. b || v) (any-same (k ∷ js) (omega arith)) ∙ or_self b

  count-same : (js : List ℕ) → count_by test (map f js) ≡ (if b then length js else 0)
  count-same [] = none b where
    none : (c : Bool) → ◌≡◌ {A = ℕ} 0 (if c then 0 else 0)
    none true = refl
    none false = refl
  count-same (j ∷ js) =
      sum_by-cons (λ x. cond (test x) 1 0) (f j) (map f js)
      ∙ ap (λ v. cond v 1 0 + count_by test (map f js)) (same j)
      ∙ ap (λ n. cond b 1 0 + n) (count-same js)
      ∙ more b (length js)
    where
      more : (c : Bool) (n : ℕ) → ◌≡◌ {A = ℕ} (cond c 1 0 + (if c then n else 0)) (if c then suc n else 0)
      more true n = omega arith
      more false n = refl

-- a number of a range that passes
pub some-in : (h : ℕ → Bool) (a n j : ℕ) → a ≤ j → j < a + n → h j ≡ true → 0 < length (filter h (range_with_len a n))
some-in h a zero j from below member = absurd (omega (arith, from, below))
some-in h a (suc n) j from below member =
    let rest = filter h (range_with_len (a + 1) n) in
    elim (cases_Bool (h a)) [
      | inl here ↦
          let is : length (filter h (range_with_len a (suc n))) ≡ suc (length rest) = ap (λ b. length (cond b (a ∷ rest) rest)) here in
          omega (arith, is)
      | inr none ↦
          let is : length (filter h (range_with_len a (suc n))) ≡ length rest = ap (λ b. length (cond b (a ∷ rest) rest)) none in
          elim (cases_eq a j) [
            | inl same ↦ let clash : true ≡ false = sym member ∙ ap h (sym same) ∙ none in absurd (cc)
            | inr differ ↦ let more = some-in h (a + 1) n j (omega (arith, from, differ)) (omega (arith, below)) member in omega (arith, is, more)
          ]
    ]

-- ---- the rows of a packet
module _ (scheduler : Scheduler) (plan : SwitchPlan) (slots i k : ℕ) (p : Planned) where
  abbrev state : PacketState
  state = state_of (card_at plan i) (parts_under scheduler plan i slots) p

  abbrev outputs : List ℕ
  outputs = outputs_in (ports_of plan) p.fan

  abbrev routed_rows : List (List (List ℕ))
  routed_rows = map (row_to scheduler plan slots i k p) outputs

  abbrev aside : List (List (List ℕ))
  aside = aside_row i k p state ∷ []

  pub rows-tell : (s : PacketState) → (is_routed p ≡ true → 0 < length outputs)
      → list_any (tells s) (packet_rows scheduler plan slots i k p) ≡ is_state state s
  rows-tell s some = elim (cases_Bool (is_routed p)) [
    | inl routed ↦
        ap (list_any (tells s)) (cond-true (is_routed p) routed_rows aside routed)
        ∙ any-same (tells s) (row_to scheduler plan slots i k p) (is_state state s) (λ j. tells-routed s i k p state j _) outputs (some routed)
    | inr nowhere ↦
        ap (list_any (tells s)) (cond-false (is_routed p) routed_rows aside nowhere)
        ∙ or-false (tells s (aside_row i k p state))
        ∙ tells-aside s i k p state
  ]

  -- how many of them tell that it was forwarded: one for each output
  pub rows-forwarded : count_by (tells Forwarded) (packet_rows scheduler plan slots i k p)
      ≡ sum_by (λ j. if leaves_by scheduler plan slots i j p then 1 else 0) (range_with_len 0 (ports_of plan))
  rows-forwarded =
      let r = is_routed p in
      let a = is_admitted (card_at plan i) (parts_under scheduler plan i slots) p.arrival p in
      let is : is_state state Forwarded ≡ r && a = forwarded-if r a _ in
      let routed : count_by (tells Forwarded) routed_rows ≡ (if r && a then length outputs else 0) =
      count-same (tells Forwarded) (row_to scheduler plan slots i k p) (r && a) (λ j. tells-routed Forwarded i k p state j _ ∙ is) outputs in
      let one : count_by (tells Forwarded) aside ≡ (if r && a then 1 else 0) =
      zero-add (cond (tells Forwarded (aside_row i k p state)) 1 0)
      ∙ ap (λ (b : Bool). cond {A = ℕ} b 1 0) (tells-aside Forwarded i k p state ∙ is) in
      either r a routed_rows aside routed one ∙ ap (λ n. if r && a then n else 0) (length-filter (has p.fan) (range_with_len 0 (ports_of plan)))
      ∙ spread r a (has p.fan) (range_with_len 0 (ports_of plan))
    where
      either : (r a : Bool) (rows one : List (List (List ℕ))) → count_by (tells Forwarded) rows ≡ (if r && a then length outputs else 0)
          → count_by (tells Forwarded) one ≡ (if r && a then 1 else 0)
          → count_by (tells Forwarded) (if r then rows else one) ≡ (if r && a then length outputs else 0)
      either true a rows one routed none = routed
      either false a rows one routed none = none

      spread : (r a : Bool) (h : ℕ → Bool) (js : List ℕ) → ◌≡◌ {A = ℕ} (if r && a then count_by h js else 0) (sum_by (λ j. if r && a && h j then 1 else 0) js)
      spread true true h js = refl
      spread true false h js = sym (sum_by-zero js)
      spread false a h js = sym (sum_by-zero js)
