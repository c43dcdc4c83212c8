use Rattle.std.proofs.Common.{[], map, take}
use Rattle.std.specs.List.{FoldsTo}
use Rattle.test_vectors.specs.Reading.{ReadsLine}
use Rattle.test_vectors.proofs.row_reader.rows_of.Given as goal

abbrev pub invariant-loop-k : goal.invariant-loop-k
invariant-loop-k g l = FoldsTo (ReadsLine g.R.RowReader.reads)
    (record { reader = l.fn.reader; count = 0; rows = [] })
    (map (λ line. line.now) (take l.k l.line-items))
    (record { reader = l.reader; count = l.k; rows = l.rows.items })
