-- Ranks and back.
use Rattle.std.proofs.Common.{◌≡◌, ℕ, ◌+◌, ◌*◌, ◌%◌, ◌<◌, ◌≤◌, ◌↔◌, ◌∙◌, refl, sym, subst, inl, inr, arith}
use Rattle.std.proofs.lemmas.Bool.{cases_eq}
use Rattle.rotating_pick.specs.declared.kinds.Kind.{Kind}
use Rattle.rotating_pick.specs.declared.kinds.Kind.TheVariants.{Uni, Multi}
use Rattle.rotating_pick.specs.declared.limits.TheConstants.{LEVELS}
use Rattle.slot_match.specs.declared.rows.Row.{Row}
use Rattle.slot_match.specs.Rows.{Names}
use Rattle.eslip_rounds.specs.declared.ranks.TheConstants.{RANKS, SETS}
use Rattle.eslip_rounds.specs.RankSteps.{level_at, kind_at, rank_of, set_at}
use Rattle.eslip_rounds.specs.Rounds.{other_kind}

-- the kind of an even rank, and of an odd one
pub kind_at-even : (first_kind : Kind) (rank : ℕ) → rank % 2 ≡ 0 → kind_at first_kind rank ≡ first_kind
kind_at-even first_kind rank e = rw e refl

pub kind_at-odd : (first_kind : Kind) (rank : ℕ) → rank % 2 ≡ 1 → kind_at first_kind rank ≡ other_kind first_kind
kind_at-odd first_kind rank e = rw e refl

pub kind_at-rank_of : (first_kind : Kind) (level : ℕ) (kind : Kind) → kind_at first_kind (rank_of first_kind level kind) ≡ kind
kind_at-rank_of Uni level Uni = kind_at-even Uni (2 * level) (omega arith)
kind_at-rank_of Uni level Multi = kind_at-odd Uni (2 * level + 1) (omega arith)
kind_at-rank_of Multi level Multi = kind_at-even Multi (2 * level) (omega arith)
kind_at-rank_of Multi level Uni = kind_at-odd Multi (2 * level + 1) (omega arith)

pub rank_of-low : (first_kind : Kind) (level : ℕ) (kind : Kind) → 2 * level ≤ rank_of first_kind level kind
rank_of-low Uni level Uni = omega arith
rank_of-low Uni level Multi = omega arith
rank_of-low Multi level Multi = omega arith
rank_of-low Multi level Uni = omega arith

pub rank_of-high : (first_kind : Kind) (level : ℕ) (kind : Kind) → rank_of first_kind level kind ≤ 2 * level + 1
rank_of-high Uni level Uni = omega arith
rank_of-high Uni level Multi = omega arith
rank_of-high Multi level Multi = omega arith
rank_of-high Multi level Uni = omega arith

pub rank_of-first : (first_kind : Kind) (level : ℕ) → rank_of first_kind level first_kind ≡ 2 * level
rank_of-first Uni level = refl
rank_of-first Multi level = refl

pub rank_of-other : (first_kind : Kind) (level : ℕ) → rank_of first_kind level (other_kind first_kind) ≡ 2 * level + 1
rank_of-other Uni level = refl
rank_of-other Multi level = refl

pub rank_of-differ : (first_kind : Kind) (level : ℕ) (kind : Kind) → (kind ≡ first_kind → ⊥) → rank_of first_kind level kind ≡ 2 * level + 1
rank_of-differ Uni level Uni h = absurd (h refl)
rank_of-differ Uni level Multi h = refl
rank_of-differ Multi level Multi h = absurd (h refl)
rank_of-differ Multi level Uni h = refl

pub level_at-rank_of : (first_kind : Kind) (level : ℕ) (kind : Kind) → level_at (rank_of first_kind level kind) ≡ level
level_at-rank_of first_kind level kind = let low = rank_of-low first_kind level kind in let high = rank_of-high first_kind level kind in omega arith

pub rank_of-at : (first_kind : Kind) (rank : ℕ) → rank_of first_kind (level_at rank) (kind_at first_kind rank) ≡ rank
rank_of-at first_kind rank =
    let P : Kind → Type 0 = λ kind. rank_of first_kind (level_at rank) kind ≡ rank in
    elim (cases_eq (rank % 2) 0) [
      | inl even ↦ subst P (sym (kind_at-even first_kind rank even)) (rank_of-first first_kind (level_at rank) ∙ omega arith)
      | inr odd ↦ subst P (sym (kind_at-odd first_kind rank (omega arith))) (rank_of-other first_kind (level_at rank) ∙ omega arith)
    ]

pub rank_of-lt : (first_kind : Kind) (level : ℕ) (kind : Kind) → level < LEVELS → rank_of first_kind level kind < RANKS
rank_of-lt first_kind level kind level_in = let high = rank_of-high first_kind level kind in omega arith

pub level_at-lt : (rank : ℕ) → rank < RANKS → level_at rank < LEVELS
level_at-lt rank rank_in = omega arith

-- the set of a rank
pub set_at-lt : (first_kind : Kind) (rank : ℕ) → rank < RANKS → set_at first_kind rank < SETS
set_at-lt first_kind rank rank_in = rank_of-lt Uni (level_at rank) (kind_at first_kind rank) (level_at-lt rank rank_in)

-- what a row names at a level with a kind it names in their set
pub Names-rank_of : (row : Row) (level : ℕ) (kind : Kind) (j : ℕ)
    → Names row level kind j ↔ Names row (level_at (rank_of Uni level kind)) (kind_at Uni (rank_of Uni level kind)) j
Names-rank_of row level kind j =
    let level_is = level_at-rank_of Uni level kind in
    let kind_is = kind_at-rank_of Uni level kind in
    let P : ℕ → Type 0 = λ l. Names row l kind j in
    let Q : Kind → Type 0 = λ q. Names row (level_at (rank_of Uni level kind)) q j in
    (λ h. subst Q (sym kind_is) (subst P (sym level_is) h), λ h. subst P level_is (subst Q kind_is h))

-- what a row names at a rank it names in the rank's set
pub Names-set : (row : Row) (first_kind : Kind) (rank j : ℕ)
    → Names row (level_at rank) (kind_at first_kind rank) j ↔ Names row (level_at (set_at first_kind rank)) (kind_at Uni (set_at first_kind rank)) j
Names-set row first_kind rank j = Names-rank_of row (level_at rank) (kind_at first_kind rank) j
