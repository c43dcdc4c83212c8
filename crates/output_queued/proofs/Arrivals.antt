-- The packets of a slot, input by input.
use Rattle.std.proofs.Common.{◌≡◌, ◌∙◌, ◌↔◌, ◌⊎◌, ℕ, ◌+◌, ◌<◌, ◌≤◌, Bool, true, false, if◌then◌else◌, List, length, Option, Some, slice_set, length-set}
use Rattle.std.proofs.Common.{refl, sym, ap, subst, arith, inl, inr}
use Rattle.std.proofs.lemmas.Bool.{cases_eq}
use Rattle.std.proofs.lemmas.List.{get_or-set_same, get_or-set_other}
use Rattle.rotating_pick.specs.PortSets.{Has}
use Rattle.slot_histories.specs.Tests.{has}
use Rattle.slot_histories.proofs.SetTests.{Decides-has}
use Rattle.slot_match.specs.declared.matching.Served.{Served}
use Rattle.output_queued.specs.declared.coming.Coming.{Coming}
use Rattle.output_queued.specs.declared.tally.Tally.{Tally}
use Rattle.output_queued.specs.Switches.{card_for, cells_from}
use Rattle.output_queued.specs.NotingSteps.{Source, no_source, source_at, tally_at, IsBefore, IsIn, IsUnserved}
use Rattle.output_queued.specs.Steps.{IsPart, HasEntered, Stand, HaveEntered, cells_to, cells_of_first, with_cells}
use Rattle.output_queued.proofs.Totals.{total-more}
use Rattle.output_queued.proofs.Places.{set-case}

tally-by : (a a' b c : ℕ) (l : _) → a ≡ a'
    → ◌≡◌ {A = Tally} (record { came = a; given = b; ran = c; line = l }) (record { came = a'; given = b; ran = c; line = l })
tally-by a a' b c l same = rw same refl

pub none-more : (x : Tally) → with_cells x 0 ≡ x
none-more x = tally-by (x.came + 0) x.came x.given x.ran x.line (omega arith)

pub twice-more : (x : Tally) (a b n : ℕ) → n ≡ a + b → with_cells (with_cells x a) b ≡ with_cells x n
twice-more x a b n is = tally-by (x.came + a + b) (x.came + n) x.given x.ran x.line (omega arith)

module _ (ports depth slot : ℕ) (served : ℕ → List (Option Served)) (old : List Source) where
  -- an input that is next stands as before
  module _ (stand : Stand ports depth slot old served) (k : ℕ) (now : List Source) (counted tallies : List Tally)
      (so_far : HaveEntered ports depth slot k served old now counted tallies) (inside : k < ports) where
    here : source_at now k ≡ source_at old k
    here = so_far.left k (omega arith)

    pub next-part : IsPart ports depth (source_at now k).coming
    next-part = rw here (stand.parts k inside)

    pub next-before : IsBefore (card_for ports depth (source_at now k).coming) (source_at now k) (served k)
    next-before = rw here (stand.before k inside)

    pub one-entered : (new : Source) (admitted : Option Coming) (after : List Tally) → k < length now
        → HasEntered ports depth slot (served k) (source_at now k) new admitted
        → ((j : ℕ) → tally_at after j ≡ with_cells (tally_at tallies j) (cells_to admitted j))
        → HaveEntered ports depth slot (k + 1) served old (slice_set now k new) counted after
    one-entered new admitted after below enters cells = record {
      count = length-set now k new ∙ so_far.count;
      coming = λ i. set-case no_source (λ m s. s.coming ≡ (source_at old m).coming) now k new below (enters.coming ∙ so_far.coming k) i
          (λ other. so_far.coming i);
      entered = λ i less. elim (cases_eq i k) [
        | inl same ↦ rw (same, get_or-set_same now k new no_source below)
            (subst (λ (s : Source). IsIn (card_for ports depth s.coming) new (served k)) here enters.queues)
        | inr other ↦ rw (get_or-set_other now k i new no_source other) (so_far.entered i (omega arith))
      ];
      left = λ i above. get_or-set_other now k i new no_source (λ e. omega arith) ∙ so_far.left i (omega arith);
      tallies = λ j.
          let more = total-more (λ i. cells_from (card_for ports depth (source_at old i).coming) (served i) j slot) k (k + 1) refl in
          let mine : cells_from (card_for ports depth (source_at old k).coming) (served k) j slot ≡ cells_to admitted j =
          ap (λ (s : Source). cells_from (card_for ports depth s.coming) (served k) j slot) (sym here) ∙ enters.cells j in
          cells j ∙ ap (λ x. with_cells x (cells_to admitted j)) (so_far.tallies j)
          ∙ twice-more (tally_at counted j) (cells_of_first ports depth old served j slot k) (cells_to admitted j)
          (cells_of_first ports depth old served j slot (k + 1)) (omega arith);
    }

-- ---- the outputs to which a cell has come that the run has not served
cells-if : (b : Bool) (x : ℕ) → b ≡ true → (if b then x else 0) ≡ x
cells-if b x is = rw is refl

cells-else : (b : Bool) (x : ℕ) → b ≡ false → (if b then x else 0) ≡ 0
cells-else b x is = rw is refl

pub cells-few : (c : Coming) (j : ℕ) → cells_to (Some c) j ≤ c.cells
cells-few c j = few-if (has c.fan j) where
  few-if : (b : Bool) → (if b then c.cells else 0) ≤ c.cells
  few-if true = omega arith
  few-if false = omega arith

-- the cells of what came were added to the tallies, and its outputs to a set
pub record HasCome (c : Coming) (was now : List Tally) (old new : ℕ) : Type 0 where
  pub count : length now ≡ length was
  pub cells : (j : ℕ) → tally_at now j ≡ with_cells (tally_at was j) (cells_to (Some c) j)
  pub members : (j : ℕ) → Has new j ↔ (Has old j ⊎ Has c.fan j)

pub unserved-more : (old new : ℕ) (c : Coming) (was now : List Tally) → 0 < c.cells → ((j : ℕ) → Has c.fan j → j < length was)
    → HasCome c was now old new → IsUnserved old was → IsUnserved new now
unserved-more old new c was now some inside come is = record { members = λ j. by j (has c.fan j) refl; behind = λ j. low j } where
  came : (j : ℕ) → (tally_at now j).came ≡ (tally_at was j).came + cells_to (Some c) j
  came j = ap (λ (t : Tally). t.came) (come.cells j)

  ran' : (j : ℕ) → (tally_at now j).ran ≡ (tally_at was j).ran
  ran' j = ap (λ (t : Tally). t.ran) (come.cells j)

  low : (j : ℕ) → (tally_at now j).ran ≤ (tally_at now j).came
  low j = let a = came j in let b = ran' j in let d = is.behind j in omega arith

  by : (j : ℕ) (b : Bool) → has c.fan j ≡ b → Has new j ↔ ((j < length now) × ((tally_at now j).ran < (tally_at now j).came))
  by j true goes =
      let member = (Decides-has c.fan j).0 goes in
      let a = came j in
      let b = ran' j in
      let d = is.behind j in
      let e = cells-if (has c.fan j) c.cells goes in
      let within = inside j member in
      let long = come.count in
      (λ _. (omega arith, omega arith), λ _. (come.members j).1 (inr member))
  by j false lacks =
      let a = came j in
      let b = ran' j in
      let e = cells-else (has c.fan j) c.cells lacks in
      let long = come.count in (
        λ m. elim ((come.members j).0 m) [
          | inl old' ↦ let both = (is.members j).0 old' in (omega arith, omega arith)
          | inr fan ↦ let yes' = (Decides-has c.fan j).1 fan in absurd (cc)
        ],
        λ both. let first = both.0 in let second = both.1 in (come.members j).1 (inl ((is.members j).1 (omega arith, omega arith))),
      )
