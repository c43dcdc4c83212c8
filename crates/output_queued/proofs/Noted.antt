-- A reference that has noted some slots: its rows, and what it keeps after one slot more.
use Rattle.std.proofs.Common.{◌≡◌, ◌∙◌, ℕ, ◌+◌, ◌<◌, ◌≤◌, List, [], ◌∷◌, ◌++◌, map, length, Option, None, Some, slice_index_or, refl, sym, ap, subst}
use Rattle.std.proofs.Common.{arith, inl, inr, if◌then◌else◌}
use Rattle.std.specs.Prelude.{is_some}
use Rattle.std.proofs.lemmas.Bool.{cases_eq, cases_lt}
use Rattle.std.proofs.lemmas.List.{length-map, get_or-map, ext_get_or}
use Rattle.std.proofs.lemmas.List.FromFn.{length-map-range_with_len, get_or-map-range_with_len}
use Rattle.std.proofs.lemmas.Simd.{map-map}
use Rattle.rotating_pick.specs.PortSets.{Has}
use Rattle.rotating_pick.specs.declared.kinds.Kind.{Kind}
use Rattle.slot_match.specs.declared.rows.Row.{Row}
use Rattle.slot_match.specs.declared.matching.Fed.{Fed}
use Rattle.slot_match.specs.Rows.{Names, row_of as row_in, no_row}
use Rattle.slot_match.specs.Matches.{fed_of, Serves, IsMatch}
use Rattle.slot_match.specs.Parts.{served_of}
use Rattle.slot_match.proofs.Sets.{Has-or}
use Rattle.card_core.specs.Posts.{row_at, IsServable}
use Rattle.card_core.specs.StateSteps.{row_of}
use Rattle.output_queued.specs.declared.coming.Coming.{Coming}
use Rattle.output_queued.specs.declared.tally.Tally.{Tally}
use Rattle.output_queued.specs.Ideal.{total}
use Rattle.output_queued.specs.Switches.{Matched, match_at, served_in, card_of, no_card, card_for, cells_from, comes, feeds, rows_after, AreServed}
use Rattle.output_queued.specs.Switches.{AreCards, IsSwitch}
use Rattle.output_queued.specs.Lines.{ran}
use Rattle.output_queued.specs.NotingSteps.{Source, State, no_source, source_at, tally_at, cards_in, IsBefore, IsTally, IsSmall, IsUnserved, HasNoted, MayNote}
use Rattle.output_queued.specs.Following.{MayFollow}
use Rattle.output_queued.specs.Steps.{Ticks, IsPart, MayTake, HasTaken, Stand, HaveEntered, cells_of_first}
use Rattle.output_queued.proofs.Totals.{total-same, total-more}
use Rattle.output_queued.proofs.Pairs.{may_serve}
use Rattle.output_queued.proofs.Runs.{ran-few}
use Rattle.output_queued.proofs.Switching.{cards-good, part_of}
use Rattle.output_queued.proofs.Taken.{row_now, may_take, coming_same, taken_off}
use Rattle.output_queued.proofs.Following.{served-more, served-long, slots-more, match-before, match-last, row-before, feeds-last, came-before}
use Rattle.output_queued.proofs.Following.{tally-next, small-next, idle}

abbrev pub coming_of : List Source → List (List Coming)
coming_of sources = map (λ source. source.coming) sources

-- ---- the switch
module _ (ports depth : ℕ) (sources : List Source) where
  pub cards-are : map (λ (source : Source). card_for ports depth source.coming) sources ≡ map (card_for ports depth) (coming_of sources)
  cards-are = sym (map-map (card_for ports depth) (λ (source : Source). source.coming) sources)

  pub card-at : (i : ℕ) → i < length sources
      → card_of (map (λ (source : Source). card_for ports depth source.coming) sources) i ≡ card_for ports depth (source_at sources i).coming
  card-at i inside = get_or-map (λ (source : Source). card_for ports depth source.coming) sources i no_source no_card inside

  pub coming-at : (i : ℕ) → i < length sources → slice_index_or (coming_of sources) i [] ≡ (source_at sources i).coming
  coming-at i inside = get_or-map (λ (source : Source). source.coming) sources i no_source [] inside

  pub comes-are : (matches : List Matched) (j t : ℕ) (n : ℕ) → length sources ≡ n
      → comes (map (λ (source : Source). card_for ports depth source.coming) sources) matches j t ≡ total
      (λ i. cells_from (card_for ports depth (source_at sources i).coming) (served_in matches i) j t) n
  unfolding comes
  comes-are matches j t n count =
      let cards = map (λ (source : Source). card_for ports depth source.coming) sources in
      let long : length cards ≡ n = length-map sources (λ (source : Source). card_for ports depth source.coming) ∙ count in
      ap (total (λ i. cells_from (card_of cards i) (served_in matches i) j t)) long
      ∙ total-same (λ i. cells_from (card_of cards i) (served_in matches i) j t)
      (λ i. cells_from (card_for ports depth (source_at sources i).coming) (served_in matches i) j t) n
      (λ i below. ap (λ card. cells_from card (served_in matches i) j t) (card-at i (omega arith)))

-- inputs with the same packets
pub coming-same : (old new : List Source) → length new ≡ length old → ((i : ℕ) → i < length old → (source_at new i).coming ≡ (source_at old i).coming)
    → coming_of new ≡ coming_of old
coming-same old new count same =
    let f = λ (source : Source). source.coming in
    let long = length-map new f in
    let long' = length-map old f in
    ext_get_or [] (coming_of new) (coming_of old) (omega arith)
    (λ i inside. get_or-map f new i no_source [] (omega arith) ∙ same i (omega arith) ∙ sym (get_or-map f old i no_source [] (omega arith)))

module _ (s : State) (matches : List Matched) (noted : HasNoted s matches) where
  pub sources-long : length s.sources ≡ s.ports
  sources-long = sym (length-map s.sources (λ (source : Source). source.coming)) ∙ noted.noted.switch.count

  pub cards-long : length (cards_in s) ≡ s.ports
  cards-long = length-map s.sources (λ (source : Source). card_for s.ports s.depth source.coming) ∙ sources-long

  pub cards-in-good : AreCards (cards_in s)
  cards-in-good = subst AreCards (sym (cards-are s.ports s.depth s.sources)) (cards-good s.ports s.depth (coming_of s.sources) noted.noted.switch)

  pub source-part : (i : ℕ) → i < s.ports → IsPart s.ports s.depth (source_at s.sources i).coming
  source-part i inside =
      let long = sources-long in
      subst (IsPart s.ports s.depth) (coming-at s.ports s.depth s.sources i (omega arith))
      (part_of s.ports s.depth (coming_of s.sources) noted.noted.switch i inside)

  -- the slots serve only what their rows name
  pub served-in : AreServed (cards_in s) matches
  served-in = subst (λ cards. AreServed cards matches) (sym (cards-are s.ports s.depth s.sources)) noted.noted.served

  -- the row of an input
  pub row-is-at : (i : ℕ) → i < s.ports
      → row_at (card_of (cards_in s) i) (served_in matches i) (length matches) ≡ row_at (card_for s.ports s.depth (source_at s.sources i).coming)
      (served_in matches i) (length (served_in matches i))
  row-is-at i inside =
      let long = sources-long in
      ap (λ card. row_at card (served_in matches i) (length matches)) (card-at s.ports s.depth s.sources i (omega arith))
      ∙ ap (row_at (card_for s.ports s.depth (source_at s.sources i).coming) (served_in matches i)) (sym (served-long matches [] i))

  row-of-source : (i : ℕ) → i < s.ports
      → row_of (source_at s.sources i).banks (source_at s.sources i).fans ≡ row_at (card_of (cards_in s) i) (served_in matches i) (length matches)
  row-of-source i inside = row_now s.ports s.depth (source_at s.sources i) (served_in matches i) (source-part i inside) (noted.stands.sources i inside)
      ∙ sym (row-is-at i inside)

  pub rows-are : map (λ (source : Source). row_of source.banks source.fans) s.sources ≡ rows_after (cards_in s) matches
  rows-are =
      let f = λ (source : Source). row_of source.banks source.fans in
      let g = λ (i : ℕ). row_at (card_of (cards_in s) i) (served_in matches i) (length matches) in
      let long = sources-long in
      let all = cards-long in
      let a = length-map s.sources f in
      let b = length-map-range_with_len g 0 (length (cards_in s)) in
      ext_get_or no_row (map f s.sources) (rows_after (cards_in s) matches) (omega arith)
      (λ i inside. get_or-map f s.sources i no_source no_row (omega arith) ∙ row-of-source i (omega arith)
      ∙ sym (get_or-map-range_with_len g 0 (length (cards_in s)) i i no_row (omega arith) (omega arith)))

  pub follows : (rows : List Row) (matched : Matched) (earlier : List Matched) → HasNoted s earlier → MayFollow (cards_in s) earlier rows matched
      → map (λ (source : Source). row_of source.banks source.fans) s.sources ≡ rows_after (cards_in s) earlier → MayFollow (cards_in s) matches rows matched
  follows rows matched earlier noted' may same =
      let a = noted.stands.slots in
      let b = noted'.stands.slots in
      let c = may.few in
      record {
        few = omega arith;
        rows_are = may.rows_are ∙ sym same ∙ rows-are;
        whole = may.whole;
        named = may.named;
      }

  -- ---- a slot that may follow
  module _ (rows : List Row) (matched : Matched) (may : MayFollow (cards_in s) matches rows matched) where
    row-in : (i : ℕ) → i < s.ports → row_in rows i ≡ row_at (card_of (cards_in s) i) (served_in matches i) (length matches)
    row-in i inside =
        let all = cards-long in
        ap (λ r. row_in r i) may.rows_are
        ∙ get_or-map-range_with_len (λ k. row_at (card_of (cards_in s) k) (served_in matches k) (length matches)) 0 (length (cards_in s)) i i no_row
        (omega arith) (omega arith)

    servable : (i : ℕ) → i < s.ports
        → IsServable (row_at (card_for s.ports s.depth (source_at s.sources i).coming) (served_in matches i) (length (served_in matches i)))
        (served_of matched i)
    servable i inside =
        subst (λ row. IsServable row (served_of matched i)) (row-in i inside ∙ row-is-at i inside)
        (may_serve (length (cards_in s)) matched may.whole i (row_in rows i) (λ j level kind. may.named i j level kind))

    pub may-take : (i : ℕ) → i < s.ports → MayTake (served_of matched i) (source_at s.sources i)
    may-take i inside = may_take s.ports s.depth (source_at s.sources i) (served_in matches i) (source-part i inside) (noted.stands.sources i inside)
        (served_of matched i) (servable i inside)

    -- the slots so far and this one serve what their rows name
    pub all-served : AreServed (cards_in s) (matches ++ matched ∷ [])
    all-served =
        let long = slots-more matches matched in
        let count = cards-long in
        record {
          whole = λ t below. elim (cases_eq t (length matches)) [
            | inl last ↦ subst (IsMatch (length (cards_in s))) (sym (ap (match_at (matches ++ matched ∷ [])) last ∙ match-last matches matched)) may.whole
            | inr other ↦ subst (IsMatch (length (cards_in s))) (sym (match-before matches matched t (omega arith))) (served-in.whole t (omega arith))
          ];
          named = λ t i j level kind below pair. elim (cases_eq t (length matches)) [
            | inl last ↦
                let now : Serves matched i j level kind =
                subst (λ m. Serves m i j level kind) (ap (match_at (matches ++ matched ∷ [])) last ∙ match-last matches matched) pair in
                let inside = may.whole.input_in i j level kind now in
                let row : row_at (card_of (cards_in s) i) (served_in (matches ++ matched ∷ []) i) t ≡ row_in rows i =
                ap (row_at (card_of (cards_in s) i) (served_in (matches ++ matched ∷ []) i)) last
                ∙ row-before matches matched (card_of (cards_in s) i) i (length matches) (omega arith) ∙ sym (row-in i (omega arith)) in
                subst (λ r. Names r level kind j) (sym row) (may.named i j level kind now)
            | inr other ↦
                let then' : Serves (match_at matches t) i j level kind =
                subst (λ m. Serves m i j level kind) (match-before matches matched t (omega arith)) pair in
                subst (λ r. Names r level kind j) (sym (row-before matches matched (card_of (cards_in s) i) i t (omega arith)))
                (served-in.named t i j level kind (omega arith) then')
          ];
        }

    -- ---- its steps
    module _ (sources : List Source) (count : length sources ≡ length s.sources)
        (taken : (i : ℕ) → i < length s.sources → HasTaken (served_of matched i) (source_at s.sources i) (source_at sources i)) where
      taken-coming : (i : ℕ) → i < s.ports → (source_at sources i).coming ≡ (source_at s.sources i).coming
      taken-coming i inside =
          let long = sources-long in
          coming_same s.ports s.depth (source_at s.sources i) (served_in matches i) (source-part i inside) (noted.stands.sources i inside) (served_of matched i)
          (source_at sources i) (taken i (omega arith))

      taken-before : (i : ℕ) → i < s.ports
          → IsBefore (card_for s.ports s.depth (source_at s.sources i).coming) (source_at sources i) (served_in (matches ++ matched ∷ []) i)
      taken-before i inside =
          let long = sources-long in
          subst (IsBefore (card_for s.ports s.depth (source_at s.sources i).coming) (source_at sources i)) (sym (served-more matches matched i))
          (taken_off s.ports s.depth (source_at s.sources i) (served_in matches i) (source-part i inside) (noted.stands.sources i inside) (served_of matched i)
          (source_at sources i) (servable i inside) (taken i (omega arith)))

      pub stand : Stand s.ports s.depth (s.slots + 1) sources (served_in (matches ++ matched ∷ []))
      stand =
          let long = sources-long in
          record {
            count = omega arith;
            parts = λ i inside. subst (IsPart s.ports s.depth) (sym (taken-coming i inside)) (source-part i inside);
            long = λ i inside.
                let a = served-long (matches ++ matched ∷ []) [] i in
                let b = slots-more matches matched in
                let c = noted.stands.slots in
                omega arith;
            before = λ i inside. subst (λ coming. IsBefore (card_for s.ports s.depth coming) (source_at sources i) (served_in (matches ++ matched ∷ []) i))
                (sym (taken-coming i inside)) (taken-before i inside);
          }

      module _ (tallies : List Tally) (many : length tallies ≡ length s.tallies)
          (ticks : (j : ℕ) → Has s.unserved j → Ticks s.slots (if is_some (fed_of matched j) then 1 else 0) (tally_at s.tallies j) (tally_at tallies j))
          (others : (j : ℕ) → (Has s.unserved j → ⊥) → tally_at tallies j ≡ tally_at s.tallies j) where
        fed-few : (o : Option Fed) → (if is_some o then 1 else 0) ≤ 1
        fed-few None = omega arith
        fed-few (Some fed) = omega arith

        -- what the slot feeds to an output is of what came
        fed-waits : (j : ℕ) → j < s.ports → (if is_some (fed_of matched j) then 1 else 0) + (tally_at s.tallies j).ran ≤ (tally_at s.tallies j).came
        fed-waits j inside =
            let all = ran-few (cards_in s) (matches ++ matched ∷ []) cards-in-good all-served j (length (matches ++ matched ∷ [])) (omega arith) in
            let long = slots-more matches matched in
            let was = noted.stands.tallies j inside in
            let ran-now : ran (matches ++ matched ∷ []) j (length (matches ++ matched ∷ [])) ≡ ran (matches ++ matched ∷ []) j (length matches) + feeds
            (matches ++ matched ∷ []) j (length matches) = ap (ran (matches ++ matched ∷ []) j) long in
            let ran-then = ran-before' in
            let last = feeds-last matches matched j in
            let next : length (matches ++ matched ∷ []) ≡ length matches + 1 = omega arith in
            let came : total (comes (cards_in s) (matches ++ matched ∷ []) j) (length (matches ++ matched ∷ [])) ≡ (tally_at s.tallies j).came =
            ap (total (comes (cards_in s) (matches ++ matched ∷ []) j)) next ∙ came-before matches matched (cards_in s) j (length matches + 1) (omega arith)
            ∙ sym was.came in
            let ran' = was.ran in
            omega arith where
              ran-before' : ran (matches ++ matched ∷ []) j (length matches) ≡ ran matches j (length matches)
              ran-before' = total-same (feeds (matches ++ matched ∷ []) j) (feeds matches j) (length matches)
                  (λ u below. ap (λ m. if is_some (fed_of m j) then 1 else 0) (match-before matches matched u below))

        ticks-all : (j : ℕ) → j < s.ports → Ticks (length matches) (if is_some (fed_of matched j) then 1 else 0) (tally_at s.tallies j) (tally_at tallies j)
        ticks-all j inside =
            let slots = noted.stands.slots in
            elim (Has-or s.unserved j) [
              | inl member ↦ subst (λ t. Ticks t (if is_some (fed_of matched j) then 1 else 0) (tally_at s.tallies j) (tally_at tallies j)) slots
                  (ticks j member)
              | inr lacks ↦
                  let count' = noted.stands.count in
                  let all : (tally_at s.tallies j).came ≤ (tally_at s.tallies j).ran = elim (cases_lt (tally_at s.tallies j).ran (tally_at s.tallies j).came) [
                    | inl less ↦ absurd (lacks ((noted.stands.unserved.members j).1 (omega arith, less)))
                    | inr le ↦ le
                  ] in
                  let waits = fed-waits j inside in
                  let none : (if is_some (fed_of matched j) then 1 else 0) ≡ 0 = omega arith in
                  subst (λ fed. Ticks (length matches) fed (tally_at s.tallies j) (tally_at tallies j)) (sym none)
                  (subst (Ticks (length matches) 0 (tally_at s.tallies j)) (sym (others j lacks))
                  (idle (length matches) (tally_at s.tallies j) (subst (λ t. IsSmall t (tally_at s.tallies j)) slots (noted.stands.small j inside)) all))
            ]

        module _ (after : List Source) (counted : List Tally) (unserved : ℕ) (same : length counted ≡ length tallies)
            (small : (j : ℕ) → (tally_at counted j).came ≤ (tally_at tallies j).came + 131072)
            (entered : HaveEntered s.ports s.depth (s.slots + 1) s.ports (served_in (matches ++ matched ∷ [])) sources after tallies counted)
            (unserved-is : IsUnserved unserved counted) where
          after-coming : (i : ℕ) → i < length s.sources → (source_at after i).coming ≡ (source_at s.sources i).coming
          after-coming i inside = let long = sources-long in entered.coming i ∙ taken-coming i (omega arith)

          pub coming-stays : coming_of after ≡ coming_of s.sources
          coming-stays = coming-same s.sources after (entered.count ∙ count) after-coming

          cards-stay : map (λ (source : Source). card_for s.ports s.depth source.coming) after ≡ cards_in s
          cards-stay = cards-are s.ports s.depth after ∙ ap (map (card_for s.ports s.depth)) coming-stays ∙ sym (cards-are s.ports s.depth s.sources)

          cells-now : (j : ℕ) → comes (cards_in s) (matches ++ matched ∷ []) j (s.slots + 1) ≡ cells_of_first s.ports s.depth sources
              (served_in (matches ++ matched ∷ [])) j (s.slots + 1) s.ports
          cells-now j =
              comes-are s.ports s.depth s.sources (matches ++ matched ∷ []) j (s.slots + 1) s.ports sources-long
              ∙ total-same (λ i. cells_from (card_for s.ports s.depth (source_at s.sources i).coming) (served_in (matches ++ matched ∷ []) i) j (s.slots + 1))
              (λ i. cells_from (card_for s.ports s.depth (source_at sources i).coming) (served_in (matches ++ matched ∷ []) i) j (s.slots + 1)) s.ports
              (λ i inside. ap (λ coming. cells_from (card_for s.ports s.depth coming) (served_in (matches ++ matched ∷ []) i) j (s.slots + 1))
              (sym (taken-coming i inside)))

          tally-now : (j : ℕ) → j < s.ports → IsTally (cards_in s) (matches ++ matched ∷ []) (length (matches ++ matched ∷ []) + 1) j (tally_at counted j)
          tally-now j inside =
              let t = tally-next matches matched (cards_in s) j (tally_at s.tallies j) (tally_at tallies j) (noted.stands.tallies j inside)
              (ticks-all j inside) in
              let f = comes (cards_in s) (matches ++ matched ∷ []) j in
              let long = slots-more matches matched in
              let slots = noted.stands.slots in
              let at : s.slots + 1 ≡ length (matches ++ matched ∷ []) = omega arith in
              let cells = cells-now j ∙ refl in
              let more = total-more f (length (matches ++ matched ∷ [])) (length (matches ++ matched ∷ []) + 1) refl in
              let here : f (length (matches ++ matched ∷ [])) ≡ cells_of_first s.ports s.depth sources (served_in (matches ++ matched ∷ [])) j
              (s.slots + 1) s.ports = ap f (sym at) ∙ cells-now j in
              let came = t.came in
              rw (entered.tallies j) (record { came = omega arith; given = t.given; ran = t.ran; line = t.line })

          small-now : (j : ℕ) → j < s.ports → IsSmall (s.slots + 1) (tally_at counted j)
          small-now j inside =
              let is = entered.tallies j in
              let within = small j in
              let cells : (tally_at counted j).came ≡ (tally_at tallies j).came + cells_of_first s.ports s.depth sources
              (served_in (matches ++ matched ∷ [])) j (s.slots + 1) s.ports = ap (λ (x : Tally). x.came) is in
              let slots = noted.stands.slots in
              let few = may.few in
              let waits = fed-waits j inside in
              subst (IsSmall (s.slots + 1)) (sym is)
              (small-next s.slots (if is_some (fed_of matched j) then 1 else 0)
              (cells_of_first s.ports s.depth sources (served_in (matches ++ matched ∷ [])) j (s.slots + 1) s.ports)
              (tally_at s.tallies j) (tally_at tallies j) (omega arith) (noted.stands.small j inside)
              (subst (λ t. Ticks t (if is_some (fed_of matched j) then 1 else 0) (tally_at s.tallies j) (tally_at tallies j)) (sym slots)
              (ticks-all j inside)) (record { one = fed-few (fed_of matched j); waits = λ one. omega arith; within = omega arith }))

          -- the reference has noted the slot
          pub noted-next : HasNoted
              (record { ports = s.ports; depth = s.depth; slots = s.slots + 1; sources = after; tallies = counted; unserved = unserved })
              (matches ++ matched ∷ [])
          noted-next =
              let long = slots-more matches matched in
              let slots = noted.stands.slots in
              let few = may.few in
              let sources' = sources-long in
              let stay = sym cards-stay in
              record {
                noted = record {
                  switch = subst (IsSwitch s.ports s.depth) (sym coming-stays) noted.noted.switch;
                  few = omega arith;
                  served = subst (λ cards. AreServed cards (matches ++ matched ∷ [])) (stay ∙ cards-are s.ports s.depth after) all-served;
                };
                stands = record {
                  slots = omega arith;
                  sources = λ i inside. rw (after-coming i (omega arith) ∙ sym (taken-coming i inside)) (entered.entered i inside);
                  count = same ∙ many ∙ noted.stands.count;
                  tallies = λ j inside. subst
                      (λ cards. IsTally cards (matches ++ matched ∷ []) (length (matches ++ matched ∷ []) + 1) j (tally_at counted j)) stay
                      (tally-now j inside);
                  small = small-now;
                  unserved = unserved-is;
                };
              }

-- ---- the test of a slot
pub note_from : (s : State) (matches : List Matched) → HasNoted s matches → (rows : List Row) (matched : Matched) → s.slots < 262145
    → IsMatch s.ports matched → rows ≡ map (λ (source : Source). row_of source.banks source.fans) s.sources
    → ((i j level : ℕ) (kind : Kind) → Serves matched i j level kind → Names (row_in rows i) level kind j)
    → MayNote s rows matched × (s.slots < 262145)
note_from s matches noted rows matched few whole same named =
    let slots = noted.stands.slots in (
      (
        matches,
        noted,
        record {
          few = omega arith;
          rows_are = same ∙ rows-are s matches noted;
          whole = subst (λ k. IsMatch k matched) (sym (cards-long s matches noted)) whole;
          named = named;
        },
      ),
      few,
    )

pub note_rows : (s : State) (rows : List Row) (matched : Matched) → MayNote s rows matched
    → rows ≡ map (λ (source : Source). row_of source.banks source.fans) s.sources
note_rows s rows matched (matches, noted, may) = may.rows_are ∙ sym (rows-are s matches noted)

pub note_ports : (s : State) (rows : List Row) (matched : Matched) → MayNote s rows matched → length matched ≡ s.ports
note_ports s rows matched (matches, noted, may) = may.whole.count ∙ cards-long s matches noted
