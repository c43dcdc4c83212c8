use Rattle.std.proofs.Common.{◌≡◌, ◌≢◌, ℕ, ◌<◌, ◌↔◌, ◌⊎◌, ◌∙◌, refl, sym, subst, inl, inr, arith, length, slice_index, slice_set, length-set}
use Rattle.std.proofs.Common.{get_or-set_same, get_or-set_other}
use Rattle.std.proofs.lemmas.Bool.{cases_eq}
use Rattle.rotating_pick.specs.PortSets.{Has}
use Rattle.rotating_pick.proofs.Bits.{Has-lt}
use Rattle.slot_match.proofs.Sets.{Has-or, zero-has}
use Rattle.eslip_rounds.proofs.Turning.{IsPlaced}
use Rattle.eslip_rounds.proofs.columns.turn.Goals as goal
use Rattle.eslip_rounds.proofs.columns.turn.Goals.{then-contains, else-contains, then-is_empty, else-is_empty}

pub loop-j-init : goal.loop-j-init
loop-j-init c =
    let differ = c.union-rest.ensures in
    let gone = c.difference.ensures in
    let came = c.difference-2.ensures in
    record {
      left = λ y has. elim ((differ y).0 has) [
        | inl out ↦ Has-lt 64 c.args.old y c.ranges.old.fits ((gone y).0 out).0
        | inr in_new ↦ Has-lt 64 c.args.new y c.ranges.new.fits ((came y).0 in_new).0
      ];
      -- those wait at which the two sets differ
      turned = record {
        long = omega arith;
        done = λ i y y_in kept.
            let had = c.requires.was y y_in in
            let P : ℕ → Type 0 = λ x. Has (slice_index c.args.columns.now y) x in (
              λ has. elim (cases_eq i c.args.input) [
                | inl same ↦ inl (
                  same,
                  elim (Has-or c.args.new y) [
                    | inl names ↦ names
                    | inr lacks ↦ absurd (kept ((differ y).1 (inl ((gone y).1 (had.0 (subst P same has), lacks)))))
                  ],
                )
                | inr apart ↦ inr (apart, has)
              ],
              λ p. elim p [
                | inl here ↦ subst P (sym here.0) (had.1 (elim (Has-or c.args.old y) [
                  | inl names ↦ names
                  | inr lacks ↦ absurd (kept ((differ y).1 (inr ((came y).1 (here.1, lacks)))))
                ]))
                | inr other ↦ other.1
              ],
            );
        waits = λ y has. refl;
        outputs = c.requires.outputs;
      };
    }

pub loop-j-preserved : goal.loop-j-preserved
loop-j-preserved c =
    let known = c.loop-j.invariant in
    let j = c.in-Some.j in
    let input = c.args.input in
    let table = c.loop-j.columns in
    let named = c.loop-j.outputs in
    let column = c.if-contains.column in
    let member = c.in-Some.ensures.member in
    let fewer = c.without-rest.ensures.members in
    let here : (i : ℕ) → Has column i ↔ (((i ≡ input) × Has c.args.new j) ⊎ ((i ≢ input) × Has (slice_index table j) i)) = λ i.
    elim c.if-contains.branch [
      | then-contains w ↦
          let names = c.contains.ensures.0 w.if-contains.true in
          let e = w.with-column.ensures i in
          rw w.column-is (
            λ has. elim (cases_eq i input) [
              | inl same ↦ inl (same, names)
              | inr apart ↦ elim (e.0 has) [ inl same ↦ absurd (apart same) | inr old ↦ inr (apart, old) ]
            ],
            λ p. e.1 (elim p [ inl mine ↦ inl mine.0 | inr other ↦ inr other.1 ]),
          )
      | else-contains w ↦
          let e = w.without-column.ensures.members i in
          rw w.column-is (
            λ has. inr (e.0 has),
            λ p. e.1 (elim p [ inl mine ↦ absurd (let names = c.contains.ensures.1 mine.1 in let lacks = w.if-contains.false in cc) | inr other ↦ other ]),
          )
    ] in
    let outputs : (y : ℕ) → Has c.if-is_empty.outputs y ↔ (((y ≡ j) × (column ≢ 0)) ⊎ ((y ≢ j) × Has named y)) = λ y.
    elim c.if-is_empty.branch [
      | then-is_empty w ↦
          let none : column ≡ 0 = c.is_empty.ensures.zero.0 w.if-is_empty.true in
          let e = w.without.ensures.members y in
          rw w.outputs-is (λ has. inr (e.0 has), λ p. e.1 (elim p [ inl mine ↦ absurd (mine.1 none) | inr other ↦ other ]))
      | else-is_empty w ↦
          let some : column ≢ 0 = λ none. let empty = c.is_empty.ensures.zero.1 none in let full = w.if-is_empty.false in absurd (cc) in
          let e = w.with.ensures y in
          rw w.outputs-is (
            λ has. elim (cases_eq y j) [
              | inl same ↦ inl (same, some)
              | inr apart ↦ elim (e.0 has) [ inl same ↦ absurd (apart same) | inr old ↦ inr (apart, old) ]
            ],
            λ p. e.1 (elim p [ inl mine ↦ inl mine.0 | inr other ↦ inr other.1 ]),
          )
    ] in
    let turned = known.turned in
    let inside : j < length table = let long = turned.long in let below = known.left j member in omega arith in
    let after = slice_set table j column in
    let at_j : slice_index after j ≡ column = get_or-set_same table j column 0 inside in
    let others : (y : ℕ) → y ≢ j → slice_index after y ≡ slice_index table y = λ y apart. get_or-set_other table j y column 0 apart in
    record {
      left = λ y waits. known.left y ((fewer y).0 waits).1;
      turned = record {
        long = length-set table j column ∙ turned.long;
        done = λ i y y_in kept. elim (cases_eq y j) [
          | inl same ↦
              let P : ℕ → Type 0 = λ s. Has s i in
              let was = turned.waits j member in
              let Q : ℕ → Type 0 = λ x. Has (slice_index after x) i ↔ IsPlaced input c.args.new c.args.columns.now x i in
              subst Q (sym same) (
                λ h. elim ((here i).0 (subst P at_j h)) [ inl mine ↦ inl mine | inr other ↦ inr (other.0, subst P was other.1) ],
                λ p. subst P (sym at_j) ((here i).1 (elim p [ inl mine ↦ inl mine | inr other ↦ inr (other.0, subst P (sym was) other.1) ])),
              )
          | inr apart ↦
              let P : ℕ → Type 0 = λ s. Has s i in
              let d = turned.done i y y_in (λ waits. kept ((fewer y).1 (apart, waits))) in
              (λ h. d.0 (subst P (others y apart) h), λ p. subst P (sym (others y apart)) (d.1 p))
        ];
        waits = λ y waits. let p = (fewer y).0 waits in others y p.0 ∙ turned.waits y p.1;
        outputs = λ y. elim (cases_eq y j) [
          | inl same ↦
              let o = outputs j in
              let Q : ℕ → Type 0 = λ x. Has c.if-is_empty.outputs x ↔ (slice_index after x ≢ 0) in
              subst Q (sym same) (
                λ h. elim (o.0 h) [ inl mine ↦ λ none. mine.1 (sym at_j ∙ none) | inr other ↦ absurd (other.0 refl) ],
                λ some. o.1 (inl (refl, λ none. some (at_j ∙ none))),
              )
          | inr apart ↦
              let o = outputs y in
              let k = turned.outputs y in (
                λ h. elim (o.0 h) [ inl mine ↦ absurd (apart mine.0) | inr other ↦ λ none. k.0 other.1 (sym (others y apart) ∙ none) ],
                λ some. o.1 (inr (apart, k.1 (λ none. some (others y apart ∙ none)))),
              )
        ];
      };
    }

pub returns-clause-long : goal.returns-clause-long
returns-clause-long c = c.loop-j.invariant.turned.long

pub returns-clause-columns : goal.returns-clause-columns
returns-clause-columns c i j j_in =
    c.loop-j.invariant.turned.done i j j_in (zero-has c.loop-j.rest j (c.in_default.ensures.none.0 refl))

pub returns-clause-outputs : goal.returns-clause-outputs
returns-clause-outputs c = c.loop-j.invariant.turned.outputs
