use Rattle.std.proofs.Common.{◌≡◌, ◌<◌, ◌∙◌, length, slice_index, take, arith, length-take, sym, subst, inl, inr}
use Rattle.std.proofs.lemmas.Bool.{cases_lt}
use Rattle.std.proofs.lemmas.List.{get_or-take}
use Rattle.std.proofs.lemmas.List.Elements.{All-get_or}
use Rattle.rotating_pick.specs.PortSets.{Has, IsAmong}
use Rattle.rotating_pick.proofs.Bits.{Has-lt, no_member-zero}
use Rattle.islip_rounds.proofs.Squares.{empty_square}
use Rattle.islip_rounds.proofs.kernels.transpose_many.Goals as goal

-- the first n places of the columns are those of the turned square, and there is nothing beyond them
pub returns : goal.returns
returns c i j =
    let n = c.args.n in
    let rows = c.args.rows.now in
    let square = c.copy.new.to in
    let turned = c.turn_square.new.rows in
    let columns = c.copy-2.new.to in
    let size = c.requires.size in
    let long : length (take n turned) ≡ n = omega (arith, length-take n turned, c.turn_square.array_long, size) in
    let turn = c.turn_square.ensures in
    elim (cases_lt j n) [
      | inr out ↦
          let none : slice_index columns j ≡ 0 = c.copy-2.ensures.rest j (omega arith) ∙ c.clear.ensures j in (
            λ has. absurd (no_member-zero i (subst (λ set. Has set i) none has)),
            λ both. let row = All-get_or (IsAmong n) rows i 0 (omega (arith, c.requires.rows)) c.requires.among in
                let lt = Has-lt n (slice_index rows i) j row both.1 in
                absurd (omega arith),
          )
      | inl j_in ↦
          let same : slice_index columns j ≡ slice_index turned j = c.copy-2.ensures.copied j (omega arith) ∙ get_or-take n turned j 0 j_in in
          let row_same : i < n → slice_index square i ≡ slice_index rows i = λ i_in. c.copy.ensures.copied i (omega (arith, c.requires.rows)) in (
            λ has.
                let i_in : i < 64 = Has-lt 64 (slice_index columns j) i (omega (arith, c.type_inv.columns j)) has in
                let in_square : Has (slice_index square i) j = (turn i j i_in (omega arith)).0 (subst (λ set. Has set i) same has) in
                elim (cases_lt i n) [
                  | inl inside ↦ (inside, subst (λ set. Has set j) (row_same inside) in_square)
                  | inr out ↦
                      let none = c.copy.ensures.rest i (omega (arith, c.requires.rows)) ∙ empty_square c.no_sets-square.result c.no_sets-square.ensures i in
                      absurd (no_member-zero j (subst (λ set. Has set j) none in_square))
                ],
            λ both.
                let in_square : Has (slice_index square i) j = subst (λ set. Has set j) (sym (row_same both.0)) both.1 in
                subst (λ set. Has set i) (sym same) ((turn i j (omega arith) (omega arith)).1 in_square),
          )
    ]
