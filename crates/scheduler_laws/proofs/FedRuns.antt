-- Fed runs: the slots of plans that follow on one another are fed by cells at line rate.
use Rattle.std.proofs.Common.{◌≡◌, ◌≢◌, ℕ, ◌-◌, ◌≤◌, ◌∙◌, List, [], ◌∷◌, Option, None, Some, if◌then◌else◌, refl, ap, sym, subst, inl, inr, arith}
use Rattle.std.proofs.lemmas.Bool.{cases_eq, cases_lt, eq-eqb, ne_eqb}
use Rattle.rotating_pick.specs.declared.kinds.Kind.TheVariants.{Uni}
use Rattle.slot_match.specs.declared.matching.Fed.{Fed}
use Rattle.slot_match.specs.Rows.{Names, row_of}
use Rattle.slot_match.specs.Matches.{fed_of, Serves}
use Rattle.slot_match.proofs.Pairs.{Serves-from}
use Rattle.eslip_rounds.specs.Slots.{Decision}
use Rattle.eslip_rounds.specs.Schedules.{DecidedSlot}
use Rattle.scheduler_laws.specs.FedSlots.{taken_by}
use Rattle.scheduler_laws.specs.Counts.{Counts, left_after, IsCounted, AreCounted}
use Rattle.scheduler_laws.proofs.Counted.{counts_are_fed}
use Rattle.scheduler_laws.specs.Reached.{AreFedAtLineRate}
use Rattle.scheduler_laws.proofs.Plans.{In, IsServing, each, Plan, asked, rows_of, posted, names, AreWithin-rows}
use Rattle.scheduler_laws.proofs.Shapes.{nothing}
use Rattle.scheduler_laws.proofs.NextPlans.{IsApart, AreApart, Follows, count_in, is_one, is_none, is_some, few, cells, left, next_cells}

-- so many cells wait in the slots of these plans
abbrev counts_of : List Plan → List Counts
counts_of [] = []
counts_of (p ∷ ps) = cells p ∷ counts_of ps

-- so many wait in these slots of the plans, where they follow on the plan `before`
abbrev pub IsFedRun : ℕ → Plan → List Plan → List DecidedSlot → Type 0
IsFedRun n before ps slots = AreCounted n (left before) slots (counts_of ps)

-- the slot of a plan takes the cells of its pairs
takes_its : (p : Plan) (matched : List (Option Fed)) → IsServing p matched → (i j : ℕ) → taken_by i (fed_of matched j) ≡ count_in i j p.serves
takes_its p matched serving i j = go (fed_of matched j) refl where
  go : (o : Option Fed) → fed_of matched j ≡ o → taken_by i o ≡ count_in i j p.serves
  go None e = sym (is_none i j p.serves (λ is. let s = serving.serves i j is in absurd (cc)))
  go (Some fed) e = elim (cases_eq fed.input i) [
    | inl same ↦ taken same
    | inr other ↦ missed other
  ] where
    is_served : Serves matched fed.input j fed.level fed.kind
    is_served = Serves-from matched j fed e

    taken : fed.input ≡ i → taken_by i (Some fed) ≡ count_in i j p.serves
    taken same = ap (λ b. if b then 1 else 0) (eq-eqb fed.input i same)
        ∙ sym (is_one i j p.serves (subst (λ x. In x j p.serves) same (serving.only fed.input j fed.level fed.kind is_served)))

    missed : fed.input ≢ i → taken_by i (Some fed) ≡ count_in i j p.serves
    missed other = ap (λ b. if b then 1 else 0) (ne_eqb fed.input i other)
        ∙ sym (is_none i j p.serves (λ is. let s = serving.serves i j is in other (cc)))

-- no more are taken than wait
serves_few : (p : Plan) (matched : List (Option Fed)) → IsServing p matched → (i j : ℕ) → count_in i j p.serves ≤ cells p i j
serves_few p matched serving i j = elim (cases_lt 0 (count_in i j p.serves)) [
  | inl some ↦
      let is = is_one i j (asked p) (serving.asking i j (is_some i j p.serves some)) in
      let most = few i j p.serves in
      omega arith
  | inr none ↦ omega arith
]

-- so many cells wait in the slot of a plan that follows on another
counted_now : (n : ℕ) (before p : Plan) (decision : Decision) → Follows before p → IsServing p decision.matched
    → IsCounted n (left before) (record { rows = rows_of n p; decision = decision }) (cells p)
counted_now n before p decision follows serving = record {
  within = AreWithin-rows n p;
  asks = λ i j level kind i_in j_in. (
    λ named.
        let is = posted n p i j level kind i_in named in
        let one = is_one i j (asked p) is.3 in
        (is.0, is.1, omega arith),
    λ is.
        let asks = (next_cells before p follows i j).asked is.2 in
        subst (λ k. Names (row_of (rows_of n p) i) level k j) (sym is.1)
        (subst (λ l. Names (row_of (rows_of n p) i) l Uni j) (sym is.0) (names n p i j i_in j_in asks)),
  );
  taken = λ i j. let its = takes_its p decision.matched serving i j in let most = serves_few p decision.matched serving i j in omega arith;
  stay = λ i j. (next_cells before p follows i j).kept;
  one = λ i j. (next_cells before p follows i j).one;
  apart = λ i j k first second.
      let gained = (next_cells before p follows i j).gained first in
      let also = (next_cells before p follows i k).gained second in
      each (IsApart i j) follows.gains (each (AreApart follows.gains) follows.gains follows.apart i j gained) i k also refl;
}

-- one plan more in front of others
pub IsFedRun-before : (n : ℕ) (before p : Plan) (ps : List Plan) (decision : Decision) (slots : List DecidedSlot) → Follows before p
    → IsServing p decision.matched → IsFedRun n p ps slots → IsFedRun n before (p ∷ ps) (record { rows = rows_of n p; decision = decision } ∷ slots)
IsFedRun-before n before p ps decision slots follows serving later =
    let same : left_after (record { rows = rows_of n p; decision = decision }) (cells p) ≡ left p = λ k i j. is_left i j k in
    (counted_now n before p decision follows serving, subst (λ l. AreCounted n l slots (counts_of ps)) (sym same) later) where
      is_left : (i j : ℕ) → cells p i j - taken_by i (fed_of decision.matched j) ≡ left p i j
      is_left i j = ap (λ taken. cells p i j - taken) (takes_its p decision.matched serving i j)

-- where nothing waits before them, cells that come at line rate feed the slots
pub fed_at_line_rate : (n : ℕ) (ps : List Plan) (slots : List DecidedSlot) → IsFedRun n nothing ps slots → AreFedAtLineRate n slots
fed_at_line_rate n ps slots counted =
    let same : left nothing ≡ (λ i j. 0) = λ k i j. none i j k in
    counts_are_fed n slots (counts_of ps) (subst (λ l. AreCounted n l slots (counts_of ps)) same counted) where
      none : (i j : ℕ) → left nothing i j ≡ 0
      none i j = omega arith
