-- Rows that are kept by columns, and a change of one of them.
use Rattle.std.proofs.Common.{◌≡◌, ◌≢◌, ℕ, zero, suc, ◌<◌, ◌≤◌, ◌↔◌, ◌⊎◌, ◌∙◌, List}
use Rattle.std.proofs.Common.{length, slice_index, slice_set, replicate, refl, sym, ap, subst, inl, inr, arith}
use Rattle.std.proofs.Common.{length-set, get_or-set_same, get_or-set_other}
use Rattle.std.proofs.lemmas.Bool.{cases_eq, cases_lt}
use Rattle.std.proofs.lemmas.List.{get_or-replicate, get_or_past, length-replicate}
use Rattle.std_lemmas.proofs.Lists.{get_or-same}
use Rattle.rotating_pick.specs.PortSets.{Has}
use Rattle.rotating_pick.specs.declared.kinds.Kind.{Kind}
use Rattle.rotating_pick.specs.declared.kinds.Kind.TheVariants.{Uni, Multi}
use Rattle.rotating_pick.specs.declared.limits.TheConstants.{LEVELS, MAX_PORTS}
use Rattle.rotating_pick.proofs.Bits.{zero-no_members}
use Rattle.rotating_pick.proofs.Picking.{least}
use Rattle.rotating_pick.proofs.Tables.{no_members}
use Rattle.slot_match.specs.declared.rows.Row.{Row}
use Rattle.slot_match.specs.Rows.{Names, empty_row, no_row, row_of}
use Rattle.slot_match.proofs.Sets.{Has-or, zero-has}
use Rattle.eslip_rounds.specs.OneLevel.{AreUnicastOf}
use Rattle.eslip_rounds.specs.ColumnSteps.{AreOutputs, IsKeptSet, IsTurned}
use Rattle.eslip_rounds.proofs.Keeping.{IsKeptSet-first, Names-set}
use Rattle.unicast_slots.specs.RowSteps.{AreKept, AsksNoMore, AsksToo, IsAsked, rows_asking}

-- an empty row names nothing
empty-names : (level j : ℕ) (kind : Kind) → Names empty_row level kind j → ⊥
empty-names level j Uni has = no_members LEVELS level j has
empty-names level j Multi has = no_members LEVELS level j has

-- a row of which nothing is known names nothing
nothing-names : (level j : ℕ) (kind : Kind) → Names no_row level kind j → ⊥
nothing-names level j Uni has = zero-has 0 j refl has
nothing-names level j Multi has = zero-has 0 j refl has

empty-row_of : (n i : ℕ) → (row_of (replicate n empty_row) i ≡ empty_row) ⊎ (row_of (replicate n empty_row) i ≡ no_row)
empty-row_of zero i = inr refl
empty-row_of (suc n) zero = inl refl
empty-row_of (suc n) (suc i) = empty-row_of n i

empty-rows : (n i level j : ℕ) (kind : Kind) → Names (row_of (replicate n empty_row) i) level kind j → ⊥
empty-rows n i level j kind has =
    let P : Row → Type 0 = λ row. Names row level kind j in
    elim (empty-row_of n i) [
      | inl empty ↦ empty-names level j kind (subst P empty has)
      | inr none ↦ nothing-names level j kind (subst P none has)
    ]

pub AreKept-first : (n : ℕ) (rows : List Row) (columns : List ℕ) → n ≤ MAX_PORTS → rows ≡ replicate n empty_row → columns ≡ replicate MAX_PORTS 0
    → AreKept rows columns 0
AreKept-first n rows columns size empty none =
    let nobody : (i level j : ℕ) (kind : Kind) → Names (row_of rows i) level kind j → ⊥ = λ i level j kind has.
    empty-rows n i level j kind (subst (λ (all : List Row). Names (row_of all i) level kind j) empty has) in
    let long : length rows ≡ n = ap length empty ∙ length-replicate n empty_row in
    record {
      size = omega arith;
      levels = λ i i_in.
          let here : row_of rows i ≡ empty_row = ap (λ (all : List Row). row_of all i) empty ∙ get_or-replicate n i empty_row no_row (omega arith) in
          subst (λ (row : Row). 0 < length row.uni) (sym here) (omega (arith, length-replicate {A = ℕ} LEVELS 0));
      unicast = λ i j other kind has. absurd (nobody i other j kind has);
      set = IsKeptSet-first (length rows) rows 0 columns 0 (ap length none ∙ length-replicate {A = ℕ} MAX_PORTS 0)
          (λ j. ap (λ c. slice_index c j) none ∙ get_or-same 0 MAX_PORTS j) refl (λ i j i_in has. nobody i 0 j Uni has);
    }

-- one input asks for other outputs
module _ (rows : List Row) (columns : List ℕ) (asked : ℕ) (kept : AreKept rows columns asked) (input outputs : ℕ) (input_in : input < length rows) where
  abbrev row : Row
  row = record (row_of rows input) { uni = slice_set (row_of rows input).uni 0 outputs }

  row_names : (other j : ℕ) (kind : Kind) → other ≢ 0 → Names row other kind j → Names (row_of rows input) other kind j
  row_names other j Uni apart has = subst (λ set. Has set j) (get_or-set_other (row_of rows input).uni 0 other outputs 0 apart) has
  row_names other j Multi apart has = has

  row_kind : (j : ℕ) (kind : Kind) → Names row 0 kind j → kind ≡ Uni
  row_kind j Uni has = refl
  row_kind j Multi has = (kept.unicast input j 0 Multi has).1

  unicast-asking : AreUnicastOf 0 (rows_asking rows input outputs)
  unicast-asking i j other kind has = elim (cases_eq i input) [
    | inl same ↦
        let at : row_of (rows_asking rows input outputs) i ≡ row = ap (row_of (rows_asking rows input outputs)) same
        ∙ get_or-set_same rows input row no_row input_in in
        let named : Names row other kind j = subst (λ (r : Row). Names r other kind j) at has in
        elim (cases_eq other 0) [
          | inl best ↦ (best, row_kind j kind (subst (λ (l : ℕ). Names row l kind j) best named))
          | inr apart ↦ kept.unicast input j other kind (row_names other j kind apart named)
        ]
    | inr apart ↦
        kept.unicast i j other kind
        (subst (λ (r : Row). Names r other kind j) (get_or-set_other rows input i row no_row apart) has)
  ]

  levels-asking : (i : ℕ) → i < length rows → 0 < length (row_of (rows_asking rows input outputs) i).uni
  levels-asking i i_in = elim (cases_eq i input) [
    | inl same ↦
        subst (λ (r : Row). 0 < length r.uni)
        (sym (ap (row_of (rows_asking rows input outputs)) same ∙ get_or-set_same rows input row no_row input_in))
        (let had = kept.levels input input_in in omega (arith, length-set (row_of rows input).uni 0 outputs))
    | inr apart ↦ subst (λ (r : Row). 0 < length r.uni) (sym (get_or-set_other rows input i row no_row apart)) (kept.levels i i_in)
  ]

  module _ (j after later : ℕ) (j_in : j < MAX_PORTS)
      (others : (k : ℕ) → k ≢ j → Has outputs k ↔ Names (row_of rows input) 0 Uni k)
      (column : (i : ℕ) → Has after i ↔ (((i ≡ input) × Has outputs j) ⊎ ((i ≢ input) × Has (slice_index columns j) i)))
      (named : AreOutputs (slice_set columns j after) later) where
    turned : IsTurned input outputs columns (slice_set columns j after)
    turned i k k_in = elim (cases_eq k j) [
      | inl same ↦
          let at : slice_index (slice_set columns j after) k ≡ after = ap (slice_index (slice_set columns j after)) same
          ∙ get_or-set_same columns j after 0 (let long = kept.set.long in omega arith) in
          let P : ℕ → Type 0 = λ x. ((i ≡ input) × Has outputs x) ⊎ ((i ≢ input) × Has (slice_index columns x) i) in (
            λ has. subst P (sym same) ((column i).0 (subst (λ set. Has set i) at has)),
            λ p. subst (λ set. Has set i) (sym at) ((column i).1 (subst P same p)),
          )
      | inr apart ↦
          let at : slice_index (slice_set columns j after) k ≡ slice_index columns k = get_or-set_other columns j k after 0 apart in
          let was = kept.set.columns input k k_in in (
            λ has. elim (cases_eq i input) [
              | inl same ↦ inl (same, (others k apart).1 ((was.0 (subst (λ x. Has (slice_index columns k) x) same (subst (λ set. Has set i) at has))).1))
              | inr other ↦ inr (other, subst (λ set. Has set i) at has)
            ],
            λ p. subst (λ set. Has set i) (sym at) (elim p [
              | inl mine ↦ subst (λ x. Has (slice_index columns k) x) (sym mine.0) (was.1 (input_in, (others k apart).0 mine.1))
              | inr other ↦ other.1
            ]),
          )
    ]

    pub AreKept-asking : AreKept (rows_asking rows input outputs) (slice_set columns j after) later
    AreKept-asking =
        let long : length (rows_asking rows input outputs) ≡ length rows = length-set rows input row in
        let names : (k : ℕ) → Has outputs k ↔ Names row 0 Uni k = λ k.
        let at : slice_index row.uni 0 ≡ outputs = get_or-set_same (row_of rows input).uni 0 outputs 0 (kept.levels input input_in) in
        (λ has. subst (λ set. Has set k) (sym at) has, λ has. subst (λ set. Has set k) at has) in
        record {
          size = let size = kept.size in omega (arith, long);
          levels = λ i i_in. levels-asking i (let below = i_in in omega (arith, long));
          unicast = unicast-asking;
          set = subst (λ (m : ℕ). IsKeptSet m (rows_asking rows input outputs) 0 (slice_set columns j after) later) (sym long) (record {
            long = length-set columns j after ∙ kept.set.long;
            columns = λ i k k_in.
                let e = turned i k k_in in
                let was = kept.set.columns i k k_in in
                let r = Names-set rows input row input_in i k 0 Uni in (
                  λ has. elim (e.0 has) [
                    | inl mine ↦ (let same = mine.0 in omega arith, r.1 (inl (mine.0, (names k).0 mine.1)))
                    | inr other ↦ let p = was.0 other.1 in (p.0, r.1 (inr (other.0, p.1)))
                  ],
                  λ p. e.1 (elim (r.0 p.1) [ inl mine ↦ inl (mine.0, (names k).1 mine.1) | inr other ↦ inr (other.0, was.1 (p.0, other.1)) ]),
                );
            outputs = named;
          });
        }

-- which outputs some input asks for
module _ (rows : List Row) (columns : List ℕ) (asked : ℕ) (kept : AreKept rows columns asked) (j : ℕ) where
  in_table : slice_index columns j ≢ 0 → j < MAX_PORTS
  in_table some =
      let long = kept.set.long in
      elim (cases_lt j MAX_PORTS) [ inl below ↦ below | inr above ↦ absurd (some (get_or_past columns j 0 (omega arith))) ]

  some_input : j < MAX_PORTS → slice_index columns j ≢ 0 → (i : ℕ) × IsAsked rows i j
  some_input j_in some =
      let column = slice_index columns j in
      elim (least (Has column) (Has-or column) (length rows)) [
        | inl found ↦ (found.0, (kept.set.columns found.0 j j_in).0 found.2)
        | inr none ↦ absurd (some (zero-no_members column (λ i has. none i ((kept.set.columns i j j_in).0 has).0 has)))
      ]

  pub asked-are : Has asked j ↔ ((j < MAX_PORTS) × ((i : ℕ) × IsAsked rows i j))
  asked-are = (
    λ has. let some = (kept.set.outputs j).0 has in (in_table some, some_input (in_table some) some),
    λ p. (kept.set.outputs j).1 (λ none. zero-has (slice_index columns j) p.1.0 none ((kept.set.columns p.1.0 j p.0).1 p.1.1)),
  )

-- the input asks for one output more, or for one less
module _ (rows new : List Row) (columns after : List ℕ) (asked later : ℕ) (kept : AreKept rows columns asked) (input j : ℕ) (input_in : input < length rows)
    (j_in : j < MAX_PORTS) where
  named-of : (column : ℕ) → Has later j ↔ (column ≢ 0) → ((k : ℕ) → k ≢ j → Has later k ↔ Has asked k) → AreOutputs (slice_set columns j column) later
  named-of column here others k = elim (cases_eq k j) [
    | inl same ↦
        let at : slice_index (slice_set columns j column) k ≡ column = ap (slice_index (slice_set columns j column)) same
        ∙ get_or-set_same columns j column 0 (let long = kept.set.long in omega arith) in (
          λ has none. here.0 (subst (Has later) same has) (sym at ∙ none),
          λ some. subst (Has later) (sym same) (here.1 (λ none. some (at ∙ none))),
        )
    | inr apart ↦
        let at : slice_index (slice_set columns j column) k ≡ slice_index columns k = get_or-set_other columns j k column 0 apart in (
          λ has none. (kept.set.outputs k).0 ((others k apart).0 has) (sym at ∙ none),
          λ some. (others k apart).1 ((kept.set.outputs k).1 (λ none. some (at ∙ none))),
        )
  ]

  pub AreKept-too : AsksToo rows new input j
      → ((column : ℕ) × (after ≡ slice_set columns j column) × ((i : ℕ) → Has column i ↔ ((i ≡ input) ⊎ Has (slice_index columns j) i)))
      → ((k : ℕ) → Has later k ↔ ((k ≡ j) ⊎ Has asked k)) → AreKept new after later
  AreKept-too asks enters named =
      let outputs = asks.0 in
      let column = enters.0 in
      let has_input : Has column input = (enters.2 input).1 (inl refl) in
      rw (asks.1, enters.1)
      (AreKept-asking rows columns asked kept input outputs input_in j column later j_in
      (λ k apart. (
        λ has. elim ((asks.2 k).0 has) [ inl same ↦ absurd (apart same) | inr old ↦ old ],
        λ old. (asks.2 k).1 (inr old),
      ))
      (λ i. (
        λ has. elim (cases_eq i input) [
          | inl same ↦ inl (same, (asks.2 j).1 (inl refl))
          | inr apart ↦ elim ((enters.2 i).0 has) [ inl same ↦ absurd (apart same) | inr old ↦ inr (apart, old) ]
        ],
        λ p. (enters.2 i).1 (elim p [ inl mine ↦ inl mine.0 | inr other ↦ inr other.1 ]),
      ))
      (named-of column (λ has none. zero-has column input none has_input, λ some. (named j).1 (inl refl))
      (λ k apart. (
        λ has. elim ((named k).0 has) [ inl same ↦ absurd (apart same) | inr old ↦ old ],
        λ old. (named k).1 (inr old),
      ))))

  pub AreKept-no_more : AsksNoMore rows new input j
      → ((column : ℕ) × (after ≡ slice_set columns j column) × ((i : ℕ) → Has column i ↔ ((i ≢ input) × Has (slice_index columns j) i))
      × ((k : ℕ) → Has later k ↔ (Has asked k × (k ≡ j → column ≢ 0)))) → AreKept new after later
  AreKept-no_more asks leaves =
      let outputs = asks.0 in
      let column = leaves.0 in
      let named = leaves.3 in
      rw (asks.1, leaves.1)
      (AreKept-asking rows columns asked kept input outputs input_in j column later j_in
      (λ k apart. (λ has. ((asks.2 k).0 has).1, λ old. (asks.2 k).1 (apart, old)))
      (λ i. (
        λ has. inr ((leaves.2 i).0 has),
        λ p. (leaves.2 i).1 (elim p [ inl mine ↦ absurd (((asks.2 j).0 mine.1).0 refl) | inr other ↦ other ]),
      ))
      (named-of column (
        λ has. ((named j).0 has).1 refl,
        λ some. (named j).1 (
          (kept.set.outputs j).1 (λ none. some (zero-no_members column
              (λ i has. zero-has (slice_index columns j) i none ((leaves.2 i).0 has).1))),
          λ same. some,
        ),
      )
      (λ k apart. (λ has. ((named k).0 has).0, λ old. (named k).1 (old, λ same. absurd (apart same))))))
