use Rattle.std.proofs.Common.{ℕ, ◌+◌, ◌<◌, List, map, take, length, get_or, refl, Bor, arith}
use Rattle.std.proofs.lemmas.Fn.{FoldsTo-push}
use Rattle.std.proofs.lemmas.List.{map-append, take_more}
use Rattle.std.specs.List.{FoldsTo}
use Rattle.std.specs.Prelude.{Option}
use Rattle.test_vectors.specs.Reading.{Progress, ReadsLine}
use Rattle.test_vectors.specs.declared.row.Row.{Row}
use Rattle.test_vectors.proofs.row_reader.rows_of.Goals as goal

-- one more line is read
reads_more : {R : Type 0} (reads : R → List ℕ → Option Row → R → Type 0) (p q u : Progress R) (xs : List (Bor (List ℕ))) (k : ℕ) (d : Bor (List ℕ))
    → k < length xs → FoldsTo (ReadsLine reads) p (map (λ line. line.now) (take k xs)) q → ReadsLine reads q (get_or xs k d).now u
    → FoldsTo (ReadsLine reads) p (map (λ line. line.now) (take (k + 1) xs)) u
reads_more reads p q u xs k d within before step =
    rw (take_more xs k d within, map-append (λ (line : Bor (List ℕ)). line.now)) (FoldsTo-push (ReadsLine reads) p _ q _ u before step)

pub loop-k-preserved : goal.loop-k-preserved
loop-k-preserved g c = reads_more g.R.RowReader.reads _ _ _ c.deref-line-items.result.now c.loop-k.k _ (omega arith) c.loop-k.invariant
    (record { given = c.in_ok-row.row; gives = c.in_ok-row.ensures; counted = refl; added = c.in_ok-add_row.ensures })
