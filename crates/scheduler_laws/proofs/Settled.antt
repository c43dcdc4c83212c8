-- Settled: the plans of the families of more rounds leave nothing that a further round can serve.
use Rattle.std.proofs.Common.{ℕ, ◌+◌, refl, inl, inr}
use Rattle.scheduler_laws.proofs.Plans.{Each, asked}
use Rattle.scheduler_laws.proofs.SecondRounds.{IsSettled}
use Rattle.scheduler_laws.proofs.Shapes.{takes, ends, again, passes, wins, both}
use Rattle.scheduler_laws.proofs.MoreShapes.{shares, closes, joins, resets, readies, readies_too, crosses_by}
use Rattle.scheduler_laws.proofs.FirmMoreShapes.{joining, prepares, blocking, leaves_both}

-- input 0 takes output y
pub settles_takes : (y : ℕ) → Each (IsSettled (takes 0 y)) (asked (takes 0 y))
settles_takes y = (inl (y, inl (refl, refl)), (inl (y, inl (refl, refl)), (inl (y, inl (refl, refl)), tt)))

-- input x takes output 0
pub settles_ends : (x : ℕ) → Each (IsSettled (ends x)) (asked (ends x))
settles_ends x = (inr (x, inl (refl, refl)), (inl (0, inl (refl, refl)), tt))

-- input 0 takes output 0
pub settles_again : Each (IsSettled again) (asked again)
settles_again = (inl (0, inl (refl, refl)), (inl (0, inl (refl, refl)), tt))

-- input x takes output 0, and input 0 output 1
pub settles_passes : (x : ℕ) → Each (IsSettled (passes x)) (asked (passes x))
settles_passes x = (inl (1, inr (inl (refl, refl))), (inl (0, inl (refl, refl)), (inl (1, inr (inl (refl, refl))), tt)))

-- input 0 takes output y
pub settles_wins : (y w : ℕ) → Each (IsSettled (wins y w)) (asked (wins y w))
settles_wins y w = (inl (y, inl (refl, refl)), (inl (y, inl (refl, refl)), (inr (0, inl (refl, refl)), tt)))

-- and input w output 2
pub settles_both : (y w : ℕ) → Each (IsSettled (both y w)) (asked (both y w))
settles_both y w = (inl (y, inl (refl, refl)), (inl (y, inl (refl, refl)), (inl (2, inr (inl (refl, refl))), tt)))

-- or output 1
pub settles_crosses : (y w : ℕ) → Each (IsSettled (crosses_by y w)) (asked (crosses_by y w))
settles_crosses y w = (
  inl (y, inl (refl, refl)),
  (inl (y, inl (refl, refl)), (inl (1, inr (inl (refl, refl))), (inl (1, inr (inl (refl, refl))), tt))),
)

-- input x takes output y, and input 0 the last one
pub settles_shares : (l x y : ℕ) → Each (IsSettled (shares l x y)) (asked (shares l x y))
settles_shares l x y = (
  inl (l, inr (inl (refl, refl))),
  (inl (y, inl (refl, refl)), (inl (y, inl (refl, refl)), (inl (l, inr (inl (refl, refl))), tt))),
)

-- input x takes the last output, and input 0 output f
pub settles_closes : (l x f u : ℕ) → Each (IsSettled (closes l x f u)) (asked (closes l x f u))
settles_closes l x f u = (
  inl (f, inr (inl (refl, refl))),
  (
    inl (l, inl (refl, refl)),
    (inl (l, inl (refl, refl)), (inl (f, inr (inl (refl, refl))), (inr (0, inr (inl (refl, refl))), tt))),
  ),
)

-- with what the second round serves
pub settles_joins : (x f : ℕ) → Each (IsSettled (joins x f)) (asked (joins x f))
settles_joins x f = (
  inr ((x + 1), inr (inl (refl, refl))),
  (inl (f, inl (refl, refl)), (inl (f, inl (refl, refl)), (inl (0, inr (inl (refl, refl))), tt))),
)

-- input 0 takes output y, and input w output 1
pub settles_resets : (y w : ℕ) → Each (IsSettled (resets y w)) (asked (resets y w))
settles_resets y w = (inl (y, inl (refl, refl)), (inl (y, inl (refl, refl)), (inl (1, inr (inl (refl, refl))), tt)))

-- input 0 takes the last output, and input 1 output 2
pub settles_readies : (l : ℕ) → Each (IsSettled (readies l)) (asked (readies l))
settles_readies l = (
  inl (l, inl (refl, refl)),
  (inl (l, inl (refl, refl)), (inl (2, inr (inl (refl, refl))), (inr (1, inr (inl (refl, refl))), tt))),
)

-- and input w output 1
pub settles_readies_too : (l w : ℕ) → Each (IsSettled (readies_too l w)) (asked (readies_too l w))
settles_readies_too l w = (
  inl (l, inl (refl, refl)),
  (
    inl (l, inl (refl, refl)),
    (inl (2, inr (inl (refl, refl))), (inr (1, inr (inl (refl, refl))), (inl (1, inr (inr (inl (refl, refl)))), tt))),
  ),
)

-- ---- under FIRM
-- input x takes output f, and the next input output 0
pub settles_joining : (x f : ℕ) → Each (IsSettled (joining x f)) (asked (joining x f))
settles_joining x f = (
  inr ((x + 1), inl (refl, refl)),
  (inl (f, inr (inl (refl, refl))), (inl (f, inr (inl (refl, refl))), (inl (0, inl (refl, refl)), tt))),
)

-- input x takes output 0, and input 1 output l
pub settles_prepares : (l x : ℕ) → Each (IsSettled (prepares l x)) (asked (prepares l x))
settles_prepares l x = (
  inr (x, inl (refl, refl)),
  (
    inl (0, inl (refl, refl)),
    (inr (x, inl (refl, refl)), (inl (l, inr (inl (refl, refl))), (inr (1, inr (inl (refl, refl))), tt))),
  ),
)

-- all inputs that ask are served
pub settles_blocking : (l a b c u v : ℕ) → Each (IsSettled (blocking l a b c u v)) (asked (blocking l a b c u v))
settles_blocking l a b c u v = (
  inl (c, inl (refl, refl)),
  (
    inl (a, inr (inl (refl, refl))),
    (
      inl (a, inr (inl (refl, refl))),
      (
        inl (b, inr (inr (inl (refl, refl)))),
        (
          inl (b, inr (inr (inl (refl, refl)))),
          (inl (c, inl (refl, refl)), (inl (v, inr (inr (inr (inl (refl, refl))))), tt)),
        ),
      ),
    ),
  ),
)

-- input l takes output 0, and input 2 output 2
pub settles_leaves : (l : ℕ) → Each (IsSettled (leaves_both l)) (asked (leaves_both l))
settles_leaves l = (inr (l, inl (refl, refl)), (inl (0, inl (refl, refl)), (inl (2, inr (inl (refl, refl))), tt)))
