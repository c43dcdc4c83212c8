use Rattle.std.proofs.Common.{◌≡◌, ◌∙◌, ◌+◌, ◌<◌, None, Some, length, length-set, ap, sym, subst, arith}
use Rattle.std.proofs.lemmas.List.{get_or_read}
use Rattle.rotating_pick.proofs.Bits.{Has-lt}
use Rattle.output_queued.specs.Switches.{card_for, IsComing}
use Rattle.output_queued.specs.NotingSteps.{Source, no_source, source_at, tally_at, IsBefore}
use Rattle.output_queued.specs.Steps.{IsPart, HasEntered, HaveEntered, IsAdmissible, cells_to, with_cells}
use Rattle.output_queued.proofs.Arrivals.{next-part, next-before, one-entered, none-more, cells-few, unserved-more}
use Rattle.output_queued.proofs.entries.let_in.Goals as goal
use Rattle.output_queued.proofs.entries.let_in.Goals.{in-Some, in_default}

pub arrive-requires : goal.arrive-requires
arrive-requires c =
    let (ports, depth, served, stand, many) = c.requires.stand in
    let now = c.loop-input.inputs.items in
    let k = c.loop-input.input in
    let test = c.loop-input-test.true in
    let end = c.len-input-end.ensures in
    let count = stand.count in
    let long = c.loop-input.invariant.long in
    let inside : k < ports = omega arith in
    let below : k < length now = omega arith in
    let so_far = c.loop-input.invariant.entered ports depth served stand in
    let found : c.index_mut.result.now ≡ source_at now k = get_or_read now k c.index_mut.result.now below c.index_mut.ensures.value no_source in
    let part = next-part ports depth c.args.slot served c.args.inputs.now.items stand k now c.args.tallies.now.items c.loop-input.tallies.items so_far inside in
    let before = next-before ports depth c.args.slot served c.args.inputs.now.items stand k now c.args.tallies.now.items c.loop-input.tallies.items so_far
    inside in (
      ports,
      depth,
      served k,
      subst (λ (s : Source). IsPart ports depth s.coming) (sym found) part,
      stand.long k inside,
      subst (λ (s : Source). IsBefore (card_for ports depth s.coming) s (served k)) (sym found) before,
    )

pub add_cells-requires-clause-fan : goal.add_cells-requires-clause-fan
add_cells-requires-clause-fan c j has =
    let (ports, depth, served, stand, many) = c.requires.stand in
    let now = c.loop-input.inputs.items in
    let k = c.loop-input.input in
    let test = c.loop-input-test.true in
    let end = c.len-input-end.ensures in
    let count = stand.count in
    let long = c.loop-input.invariant.long in
    let inside : k < ports = omega arith in
    let below : k < length now = omega arith in
    let so_far = c.loop-input.invariant.entered ports depth served stand in
    let found : c.index_mut.result.now ≡ source_at now k = get_or_read now k c.index_mut.result.now below c.index_mut.ensures.value no_source in
    let part = next-part ports depth c.args.slot served c.args.inputs.now.items stand k now c.args.tallies.now.items c.loop-input.tallies.items so_far inside in
    let is : IsComing ports c.in-Some.packet = c.in-Some.ensures.packet ports depth (subst (λ (s : Source). IsPart ports depth s.coming) (sym found) part) in
    let lower = Has-lt ports c.in-Some.packet.fan j is.fan has in
    let tallies = c.loop-input.invariant.count in
    omega arith

pub loop-input-preserved : goal.loop-input-preserved
loop-input-preserved c =
    let (ports, depth, served, stand, many) = c.requires.stand in
    let inv = c.loop-input.invariant in
    let now = c.loop-input.inputs.items in
    let k = c.loop-input.input in
    let old = c.args.inputs.now.items in
    let counted = c.args.tallies.now.items in
    let tallies = c.loop-input.tallies.items in
    let test = c.loop-input-test.true in
    let end = c.len-input-end.ensures in
    let long = inv.long in
    let below : k < length now = omega arith in
    let found : c.index_mut.result.now ≡ source_at now k = get_or_read now k c.index_mut.result.now below c.index_mut.ensures.value no_source in
    elim c.match-arrive.branch [
      | in-Some w ↦
          let packet = w.in-Some.packet in
          let is : c.arrive.result ≡ Some packet = w.in-Some.is in
          let count = stand.count in
          let inside : k < ports = omega arith in
          let part = next-part ports depth c.args.slot served old stand k now counted tallies (inv.entered ports depth served stand) inside in
          let coming : IsComing ports packet =
          subst (IsAdmissible ports) is (c.arrive.ensures.packet ports depth (subst (λ (s : Source). IsPart ports depth s.coming) (sym found) part)) in
          let cells = w.add_cells.ensures.tallies in
          let most = coming.few in
          let all = inv.count in
          rw (w.tallies-is, w.unserved-is) (record {
            count = w.add_cells.ensures.count ∙ inv.count;
            long = length-set now k c.arrive.new.self ∙ inv.long;
            small = λ j.
                let came : (tally_at w.add_cells.new.tallies.items j).came ≡ (tally_at tallies j).came + cells_to (Some packet) j =
                ap (λ t. t.came) (cells j) in
                let so = inv.small j in
                let few = cells-few packet j in
                omega arith;
            unserved = unserved-more c.loop-input.unserved w.union-unserved.result packet tallies w.add_cells.new.tallies.items coming.some
                (λ j has. let lower = Has-lt ports packet.fan j coming.fan has in omega arith)
                (record { count = w.add_cells.ensures.count; cells = cells; members = w.union-unserved.ensures }) inv.unserved;
            entered = λ ports' depth' served' stand'.
                let count' = stand'.count in
                let inside' : k < ports' = omega arith in
                let so_far = inv.entered ports' depth' served' stand' in
                let part' = next-part ports' depth' c.args.slot served' old stand' k now counted tallies so_far inside' in
                let before' = next-before ports' depth' c.args.slot served' old stand' k now counted tallies so_far inside' in
                let enters = c.arrive.ensures.entered ports' depth' (served' k) (subst (λ (s : Source). IsPart ports' depth' s.coming) (sym found) part')
                (stand'.long k inside') (subst (λ (s : Source). IsBefore (card_for ports' depth' s.coming) s (served' k)) (sym found) before') in
                one-entered ports' depth' c.args.slot served' old stand' k now counted tallies so_far inside' c.arrive.new.self c.arrive.result
                w.add_cells.new.tallies.items below
                (subst (λ (s : Source). HasEntered ports' depth' c.args.slot (served' k) s c.arrive.new.self c.arrive.result) found enters)
                (λ j. cells j ∙ ap (λ a. with_cells (tally_at tallies j) (cells_to a j)) (sym is));
          })
      | in_default w ↦
          let is : c.arrive.result ≡ None = w.in_default.is in
          rw (w.tallies-is, w.unserved-is) (record {
            count = inv.count;
            long = length-set now k c.arrive.new.self ∙ inv.long;
            small = λ j. let so = inv.small j in omega arith;
            unserved = inv.unserved;
            entered = λ ports' depth' served' stand'.
                let count' = stand'.count in
                let inside' : k < ports' = omega arith in
                let so_far = inv.entered ports' depth' served' stand' in
                let part' = next-part ports' depth' c.args.slot served' old stand' k now counted tallies so_far inside' in
                let before' = next-before ports' depth' c.args.slot served' old stand' k now counted tallies so_far inside' in
                let enters = c.arrive.ensures.entered ports' depth' (served' k) (subst (λ (s : Source). IsPart ports' depth' s.coming) (sym found) part')
                (stand'.long k inside') (subst (λ (s : Source). IsBefore (card_for ports' depth' s.coming) s (served' k)) (sym found) before') in
                one-entered ports' depth' c.args.slot served' old stand' k now counted tallies so_far inside' c.arrive.new.self c.arrive.result tallies below
                (subst (λ (s : Source). HasEntered ports' depth' c.args.slot (served' k) s c.arrive.new.self c.arrive.result) found enters)
                (λ j. sym (ap (λ a. with_cells (tally_at tallies j) (cells_to a j)) is ∙ none-more (tally_at tallies j)));
          })
    ]

pub returns-clause-entered : goal.returns-clause-entered
returns-clause-entered c ports depth served stand =
    let end = c.len-input-end.ensures in
    let count = stand.count in
    let last : c.loop-input.input ≡ ports = let a = c.loop-input-test.false in let b = c.loop-input.auto.input-end in omega arith in
    subst (λ k. HaveEntered ports depth c.args.slot k served c.args.inputs.now.items c.loop-input.inputs.items c.args.tallies.now.items
    c.loop-input.tallies.items) last (c.loop-input.invariant.entered ports depth served stand)
