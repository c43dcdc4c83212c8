use Rattle.std.proofs.Common.{◌≡◌, ◌<◌, ◌/◌, ◌%◌, ◌∷◌, ℕ, arith, ◌∙◌, take, drop, get_or, length-drop}
use Rattle.std.proofs.lemmas.List.{take_all}
use Rattle.cell_cutter.proofs.Reading.{spelled_again}
use Rattle.cell_cutter.proofs.cell.read.Goals as goal

pub returns-clause-same : goal.returns-clause-same
returns-clause-same c =
    let bytes = c.args.bytes.now in
    let byte : (i : ℕ) → get_or bytes i 0 < 256 = λ i. omega (arith, c.fits-bytes i) in
    let rest : take 56 (drop 8 bytes) ≡ drop 8 bytes = take_all 56 _ (omega (arith, length-drop 8 bytes)) in
    let payload = c.copy_from_slice.ensures.after ∙ rest in
    let n = c.from_be_bytes.result in
    let kind = c.in_ok-kind.ensures.some in
    let last = c.in_ok-last.ensures.some in
    (λ j. get_or bytes 0 0 ∷ get_or bytes 1 0 ∷ kind j ∷ last j ∷ get_or bytes 4 0 ∷ 0 ∷ n / 256 % 256 ∷ n % 256 ∷ payload j)
    ∙ spelled_again bytes n c.told-bytes byte c.if-bytes-ne0.false c.from_be_bytes.ensures
