-- Tables of counts: how often each of the first numbers came, and how many delays each batch has and their sum.
use Rattle.std.specs.Prelude.{◌≡◌, ℕ, ◌<◌, ◌^◌, ◌==◌, if◌then◌else◌, List, length, slice_index, count_by, sum_by, All, map}

-- a table: for each of the first numbers how often it came, and how many came in all
pub record CountTable : Type 0 where
  pub counts : List ℕ
  pub total : ℕ

-- the table has counted these numbers
pub record HasCounted (table : CountTable) (numbers : List ℕ) : Type 0 where
  pub total : table.total ≡ length numbers
  pub counts : (k : ℕ) → k < length table.counts → slice_index table.counts k ≡ count_by (λ number. number == k) numbers

-- a delay of a batch
pub record BatchDelay : Type 0 where
  pub batch : ℕ
  pub delay : ℕ

-- a table of batches: how many delays each has, and their sum
pub record BatchTable : Type 0 where
  pub departed : CountTable
  pub delays : List ℕ

-- the table has counted these delays
pub record HasBatched (table : BatchTable) (noted : List BatchDelay) : Type 0 where
  pub departed : HasCounted table.departed (map (λ d. d.batch) noted)
  pub delays : (k : ℕ) → k < length table.delays → slice_index table.delays k ≡ sum_by (λ d. if d.batch == k then d.delay else 0) noted
  pub small : All (λ d. d.delay < 2 ^ 32) noted
